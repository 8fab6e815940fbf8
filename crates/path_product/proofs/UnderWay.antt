-- What the work on a product keeps, and where it ends.
use Rattle.std.proofs.Common.{◌≡◌, ℕ, zero, suc, ◌+◌, ◌<◌, ◌≤◌, ◌⊎◌, inl, inr, Bool, true, false, List, [], ◌∷◌, ◌++◌, length, map, drop, get_or, All, Some, refl, sym, ap, subst, ◌∙◌, append_assoc, arith}
use Rattle.std.specs.Prelude.{if◌then◌else◌, slice_get, Result, Ok, Err}
use Rattle.std.proofs.lemmas.List.{at_drop_more}
use Rattle.std.proofs.lemmas.List.Elements.{All-nil, All-cons, All-head, All-tail, All-push}
use Rattle.std.proofs.lemmas.Option.{slice_get_within, get_or_from_slice_get}
use Rattle.c_ast.specs.declared.place.Place.{Place}
use Rattle.lin_terms.specs.declared.row.Row.{Row}
use Rattle.horn_clauses.specs.declared.node.Node.{Node}
use Rattle.horn_clauses.specs.declared.clause.Clause.{Clause}
use Rattle.horn_clauses.specs.Node.{node, entries}
use Rattle.path_product.specs.declared.starts.Start.{Start}
use Rattle.path_product.specs.declared.limit.ProductLimit.{ProductLimit}
use Rattle.path_product.specs.declared.limit.ProductLimit.TheVariants as limit
use Rattle.path_product.specs.Fits.{FitStarts}
use Rattle.path_product.specs.Product.{is_among, put_if, kept, pairs, clauses_at, all_nodes, product_over}
use Rattle.path_product.specs.Queue.{IsMet, met_with, met_after, is_listed, IsUnderWay}
use Rattle.path_product.proofs.Exploring.{EndWithin, few_after, turn_goes, turn_fails, all_taken, begins_same, few_at_first}
use Rattle.path_product.proofs.Meeting.{met_within}

-- ---- nodes that are met

with_met : (P : Node → Type 0) (met : List Node) (n : Node) (has : Bool) → All P met → P n → All P (if has then met else met ++ n ∷ [])
with_met P met n true all one = all
with_met P met n false all one = All-push P met n all one

after_met : (P : Node → Type 0) (met : List Node) (clauses : List Clause) → All P met → All (λ clause. P clause.to) clauses → All P (met_after met clauses)
after_met P met [] all ends = all
after_met P met (clause ∷ clauses) all ends =
    after_met P (met_with met clause.to) clauses
    (with_met P met clause.to (is_among clause.to met) all (All-head (λ (c : Clause). P c.to) clause clauses ends))
    (All-tail (λ (c : Clause). P c.to) clause clauses ends)

at_index : (P : Node → Type 0) (nodes : List Node) (i : ℕ) (n : Node) → All P nodes → slice_get nodes i ≡ Some n → P n
at_index P [] i n all at = absurd cc
at_index P (m ∷ nodes) zero n all at = let one : m ≡ n = cc in subst P one (All-head P m nodes all)
at_index P (m ∷ nodes) (suc i) n all at = at_index P nodes i n (All-tail P m nodes all) at

ends_within : (first second : List Start) (clauses : List Clause) → All (λ clause. IsMet first second clause.to) clauses
    → EndWithin (all_nodes first second) clauses
ends_within first second [] met = All-nil (λ (c : Clause). is_among c.to (all_nodes first second) ≡ true)
ends_within first second (clause ∷ clauses) met =
    All-cons (λ (c : Clause). is_among c.to (all_nodes first second) ≡ true) clause clauses
    (met_within first second clause.to (All-head (λ (c : Clause). IsMet first second c.to) clause clauses met))
    (ends_within first second clauses (All-tail (λ (c : Clause). IsMet first second c.to) clause clauses met))

past_end : (nodes : List Node) (i : ℕ) → ((n : Node) → slice_get nodes i ≡ Some n → ⊥) → length nodes ≤ i
past_end [] i none = omega arith
past_end (n ∷ nodes) zero none = absurd (none n refl)
past_end (n ∷ nodes) (suc i) none = let others = past_end nodes i none in omega (arith, others)

-- ---- the work

module _ (first second : List Start) (condition : List (List Row)) (alignment : ℕ) where
  abbrev made_at : Node → Result (List Clause) ProductLimit
  made_at n = clauses_at first second alignment condition n

  pub under_way_at_first : FitStarts first → FitStarts second → IsUnderWay first second condition alignment (entries ∷ []) 0 []
  under_way_at_first first_fits second_fits =
      let met : IsMet first second entries = record { left = first_fits.entry; right = second_fits.entry; entries = (λ _. refl, λ _. refl) } in record {
        nodes = All-cons (IsMet first second) entries [] met (All-nil (IsMet first second));
        few = few_at_first (all_nodes first second) (met_within first second entries met);
        same = begins_same (clauses_at first second alignment condition) (all_nodes first second);
      }

  module _ (met : List Node) (count : ℕ) (clauses : List Clause) (work : IsUnderWay first second condition alignment met count clauses) where
    pub work_ends : ((n : Node) → slice_get met count ≡ Some n → ⊥)
        → product_over first second condition alignment
        ≡ Ok (record { nodes = kept (is_listed met) (all_nodes first second); clauses = clauses })
    work_ends none =
        work.same ∙ all_taken (clauses_at first second alignment condition) (all_nodes first second) met count clauses (past_end met count none)

    module _ (n : Node) (at : slice_get met count ≡ Some n) where
      inside : count < length met
      inside = slice_get_within met count n at

      is : n ≡ get_or met count n
      is = sym (get_or_from_slice_get met count n n at)

      pub next_is_met : IsMet first second n
      next_is_met = at_index (IsMet first second) met count n work.nodes at

      pub work_fails : (why : ProductLimit) → (why ≡ limit.Memory) ⊎ (clauses_at first second alignment condition n ≡ Err why)
          → (why ≡ limit.Memory) ⊎ (product_over first second condition alignment ≡ Err why)
      work_fails why (inl memory) = inl memory
      work_fails why (inr from) =
          inr (work.same ∙ turn_fails (clauses_at first second alignment condition) (all_nodes first second) met count clauses n inside is work.few why from)

      pub work_goes_on : (made : List Clause) → clauses_at first second alignment condition n ≡ Ok made
          → All (λ clause. IsMet first second clause.to) made
          → IsUnderWay first second condition alignment (met_after met made) (count + 1) (clauses ++ made)
      work_goes_on made from ends =
          let within = ends_within first second made ends in record {
            nodes = after_met (IsMet first second) met made work.nodes ends;
            few = few_after met (all_nodes first second) made within work.few;
            same = work.same
                ∙ turn_goes (clauses_at first second alignment condition) (all_nodes first second) met count clauses n inside is work.few made from within;
          }

      pub left_to_take : count < length (all_nodes first second)
      left_to_take = let few = work.few in omega (arith, few, inside)

pub product_is : (first second : List Start) (condition : List (List Row)) (alignment : ℕ) (met : List Node) (count : ℕ) (clauses : List Clause)
    → IsUnderWay first second condition alignment met count clauses → ((n : Node) → slice_get met count ≡ Some n → ⊥)
    → (nodes : List Node) (made : List Clause) → nodes ≡ kept (is_listed met) (all_nodes first second) → made ≡ clauses
    → product_over first second condition alignment ≡ Ok (record { nodes = nodes; clauses = made })
product_is first second condition alignment met count clauses work none nodes made nodes_are made_are =
    work_ends first second condition alignment met count clauses work none
    ∙ ap (λ (ns : List Node). Ok (record { nodes = ns; clauses = clauses })) (sym nodes_are)
    ∙ ap (λ (cs : List Clause). Ok (record { nodes = nodes; clauses = cs })) (sym made_are)

pub under_way_as : (first second : List Start) (condition : List (List Row)) (alignment : ℕ) (met met' : List Node) (count : ℕ) (clauses clauses' : List Clause)
    → met' ≡ met → clauses' ≡ clauses → IsUnderWay first second condition alignment met count clauses
    → IsUnderWay first second condition alignment met' count clauses'
under_way_as first second condition alignment met met' count clauses clauses' met_is clauses_are work =
    subst (λ (cs : List Clause). IsUnderWay first second condition alignment met' count cs) (sym clauses_are)
    (subst (λ (ns : List Node). IsUnderWay first second condition alignment ns count clauses) (sym met_is) work)

-- ---- the nodes in their order

pub kept_append : (test : Node → Bool) (first second : List Node) → kept test (first ++ second) ≡ kept test first ++ kept test second
kept_append test [] second = refl
kept_append test (n ∷ first) second =
    ap (put_if (test n) n) (kept_append test first second) ∙ put_append (test n)
  where
    put_append : (b : Bool) → put_if b n (kept test first ++ kept test second) ≡ put_if b n (kept test first) ++ kept test second
    put_append true = refl
    put_append false = refl

pub rows_next : (test : Node → Bool) (first second : List Place) (i : ℕ) (d : Place) (made made' : List Node) → i < length first
    → made' ≡ made ++ kept test (map (node (get_or first i d)) second)
    → made' ++ kept test (pairs (drop (i + 1) first) second) ≡ made ++ kept test (pairs (drop i first) second)
rows_next test first second i d made made' inside more =
    let row : List Node = map (node (get_or first i d)) second in
    let others : List Node = pairs (drop (i + 1) first) second in
    ap (λ (ns : List Node). ns ++ kept test others) more
    ∙ append_assoc made (kept test row) (kept test others)
    ∙ ap (λ (ns : List Node). made ++ ns) (sym (kept_append test row others))
    ∙ ap (λ (ns : List Node). made ++ kept test ns) (sym (at_drop_more (λ (ls : List Place). pairs ls second) first i d inside))
