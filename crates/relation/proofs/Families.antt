-- A family over a product whose obligations are refuted is a coupling: some clause leads each move, and clauses keep the family.
use Rattle.std.proofs.Common.{◌≡◌, ℕ, zero, suc, Bool, true, false, cond, inl, inr, List, [], ◌∷◌, ◌++◌, length, map, Option, Some, None, ℤ, refl, sym, ap, ◌∙◌, subst, true≢false, arith}
use Rattle.std.specs.Prelude.{All, Contains, IsSome, IsSomeAnd}
use Rattle.std.proofs.lemmas.List.{length-append}
use Rattle.std.proofs.lemmas.List.Elements.{All-head, All-tail, All-weaker, All-contains}
use Rattle.c_ast.specs.Tree.{Expression, Program}
use Rattle.c_ast.specs.Segment.{IsSegment}
use Rattle.flow_graph.specs.FlowGraph.{FlowGraph, width_at}
use Rattle.flow_graph.specs.Run.{IsGraphSegment}
use Rattle.flow_graph.specs.Built.{IsGraphOf}
use Rattle.alignment.proofs.Laws.{moves_agree, entries_are_not_met}
use Rattle.lin_terms.specs.Row.{HasNoIntegerPoint}
use Rattle.farkas_check.specs.Refutes.{IsRefutable}
use Rattle.farkas_check.proofs.Laws.{no_integer_point}
use Rattle.horn_clauses.specs.declared.atom.Atom.{Atom}
use Rattle.horn_clauses.specs.declared.clause.Clause.{Clause}
use Rattle.horn_clauses.specs.declared.clause.Product.{Product}
use Rattle.horn_clauses.specs.declared.family.Family.{Family}
use Rattle.horn_clauses.specs.declared.node.Node.{Node}
use Rattle.horn_clauses.specs.Atom.{AtomHolds}
use Rattle.horn_clauses.specs.Node.{node, is_same_node}
use Rattle.horn_clauses.specs.Family.{atoms_among, atoms_at, InFamily}
use Rattle.horn_clauses.specs.Equalities.{equal_parameters}
use Rattle.horn_clauses.specs.Clause.{LeadsTo}
use Rattle.horn_clauses.specs.Obligations.{FitsNode, HasFittingAtoms, Obligation, rows_of, obligations_of, AreRefuted}
use Rattle.horn_clauses.proofs.Laws.{law_of_nodes, refuted_families_are_kept}
use Rattle.sym_paths.specs.Points.{SomeOf}
use Rattle.path_product.specs.Agreement.{HasNode, Move, SomeClause, IsProduct}
use Rattle.relation.specs.Invariants.{AreKept}
use Rattle.relation.specs.Coupling.{IsInFamily}
use Rattle.relation.specs.Linear.{node_width, HasShape, IsFamilyOver, SoundnessOfProducts, RefutableIsRefuted, LinearFamiliesCouple}

-- ---- the nodes of a family

-- A node with its atoms, as families list them.
abbrev Entry : Type 0
Entry = Node × List Atom

abbrev nodes_in : List Entry → List Node
nodes_in = map (λ (entry : Entry). entry.0)

contains_here : {A : Type 0} (x : A) (xs : List A) → Contains (x ∷ xs) x
contains_here x xs = (0, omega arith, refl)

contains_later : {A : Type 0} (x y : A) (xs : List A) → Contains xs x → Contains (y ∷ xs) x
contains_later x y xs has = (suc has.0, omega (arith, has.1), has.2)

-- A node at which there are atoms is listed.
some_listed : (listed : List Entry) (n : Node) → IsSome (atoms_among listed n) → Contains (nodes_in listed) n
some_listed [] n some = absurd (true≢false (sym some))
some_listed (entry ∷ others) n some = on (is_same_node entry.0 n) refl (some_listed others n) some
  where
    on : (same : Bool) → is_same_node entry.0 n ≡ same → (IsSome (atoms_among others n) → Contains (nodes_in others) n)
        → IsSome (cond same (Some entry.1) (atoms_among others n)) → Contains (entry.0 ∷ nodes_in others) n
    on true is again found = subst (Contains (entry.0 ∷ nodes_in others)) ((law_of_nodes entry.0 n).0 is) (contains_here entry.0 (nodes_in others))
    on false is again found = contains_later n entry.0 (nodes_in others) (again found)

-- At a node that is listed there are atoms.
listed_some : (listed : List Entry) (n : Node) → Contains (nodes_in listed) n → IsSome (atoms_among listed n)
listed_some [] n has = absurd (omega (arith, has.1))
listed_some (entry ∷ others) n (zero, within, is) =
    subst (λ (same : Bool). IsSome (cond same (Some entry.1) (atoms_among others n))) (sym ((law_of_nodes entry.0 n).1 is)) refl
listed_some (entry ∷ others) n (suc k, within, is) = on (is_same_node entry.0 n) (listed_some others n (k, omega arith, is))
  where
    on : (same : Bool) → IsSome (atoms_among others n) → IsSome (cond same (Some entry.1) (atoms_among others n))
    on true some = refl
    on false some = some

-- What is listed at each node is found there.
found_has : (P : Node → List Atom → Type 0) (listed : List Entry) (n : Node) → All (λ entry. P entry.0 entry.1) listed
    → IsSome (atoms_among listed n) → IsSomeAnd (atoms_among listed n) (P n)
found_has P [] n all some = absurd (true≢false (sym some))
found_has P (entry ∷ others) n all some =
    let Has : Entry → Type 0 = λ entry. P entry.0 entry.1 in
    on (is_same_node entry.0 n) refl (All-head Has entry others all) (found_has P others n (All-tail Has entry others all)) some
  where
    on : (same : Bool) → is_same_node entry.0 n ≡ same → P entry.0 entry.1
        → (IsSome (atoms_among others n) → IsSomeAnd (atoms_among others n) (P n))
        → IsSome (cond same (Some entry.1) (atoms_among others n)) → IsSomeAnd (cond same (Some entry.1) (atoms_among others n)) (P n)
    on true is here again found = subst (λ (m : Node). P m entry.1) ((law_of_nodes entry.0 n).0 is) here
    on false is here again found = again found

is_there : {A : Type 0} (P : A → Type 0) (found : Option A) → IsSomeAnd found P → IsSome found
is_there P None has = absurd has
is_there P (Some x) has = refl

-- ---- a family that has the product's nodes

module _ (first second : FlowGraph) (product : Product) (family : Family) (shape : HasShape first second product family) where
  pub in_product : (n : Node) → IsSome (atoms_at family n) → Contains product.nodes n
  in_product n some = subst (λ (nodes : List Node). Contains nodes n) shape.nodes (some_listed family.nodes n some)

  pub in_family : (n : Node) → Contains product.nodes n → IsSome (atoms_at family n)
  in_family n has = listed_some family.nodes n (subst (λ (nodes : List Node). Contains nodes n) (sym shape.nodes) has)

  pub has_fitting : (n : Node) → IsSome (atoms_at family n) → HasFittingAtoms family n (node_width first second n)
  has_fitting n some = found_has (λ n atoms. All (FitsNode (node_width first second n)) atoms) family.nodes n shape.atoms some

-- ---- a clause that leads

-- Some clause of the list has the property.
record OneOf (P : Clause → Type 0) (clauses : List Clause) : Type 0 where
  pub clause : Clause
  pub among : Contains clauses clause
  pub has : P clause

one_of : (P : Clause → Type 0) (clauses : List Clause) → SomeOf P clauses → OneOf P clauses
one_of P [] some = absurd some
one_of P (clause ∷ clauses) (inl here) = record { clause = clause; among = contains_here clause clauses; has = here }
one_of P (clause ∷ clauses) (inr later) =
    let found = one_of P clauses later in
    record { clause = found.clause; among = contains_later found.clause clause clauses found.among; has = found.has }

-- ---- the family is kept

module _ (f g : Program) (first second : FlowGraph) (condition : Expression) (alignment : ℕ) (product : Product) (family : Family)
    (is_first : IsGraphOf f first) (is_second : IsGraphOf g second) (is_product : IsProduct first second condition alignment product)
    (over : IsFamilyOver first second product family) (refuted : AreRefuted family (obligations_of family product)) where
  -- The clause leads from the one node to the other, with these values.
  abbrev Leads : Node → List ℤ → Node → List ℤ → Clause → Type 0
  Leads n values to after clause = (clause.from ≡ n) × (clause.to ≡ to) × LeadsTo values after clause

  both_long : (d e : List ℤ) (n : Node) → length d ≡ width_at first n.0 → length e ≡ width_at second n.1
      → length (d ++ e) ≡ node_width first second n
  both_long d e n first_long second_long = omega (arith, length-append d e, first_long, second_long)

  -- A clause that leads from values in the family leads to values in it.
  led_inside : (n to : Node) (values after : List ℤ) → length values ≡ node_width first second n → InFamily family n values
      → OneOf (Leads n values to after) product.clauses → InFamily family to after
  led_inside n to values after long inside found =
      let clause : Clause = found.clause in
      let from : n ≡ clause.from = sym found.has.0 in
      let some : IsSome (atoms_at family n) = is_there (All (λ atom. AtomHolds atom values)) (atoms_at family n) inside in
      let fits : HasFittingAtoms family n (length values) =
      subst (λ (k : ℕ). HasFittingAtoms family n k) (sym long) (has_fitting first second product family over.shape n some) in
      let there = All-contains (λ clause. Contains product.nodes clause.to) product.clauses clause is_product.closed.to found.among in
      subst (λ (m : Node). InFamily family m after) found.has.1
      (refuted_families_are_kept family product refuted clause found.among (in_family first second product family over.shape clause.to there) values after
      (subst (λ (m : Node). HasFittingAtoms family m (length values)) from fits) (subst (λ (m : Node). InFamily family m values) from inside) found.has.2)

  family_is_kept : AreKept f g alignment (IsInFamily condition family)
  family_is_kept l r l' r' d e d' e' away first_fits second_fits said moves =
      let n : Node = node l r in
      let to : Node = node l' r' in
      let here : Contains product.nodes n =
      in_product first second product family over.shape n (is_there (All (λ atom. AtomHolds atom (d ++ e))) (atoms_at family n) said.inside) in
      let has = All-contains (HasNode first second) product.nodes n is_product.nodes here in
      let first_long = (is_first.fits l d has.left).0 first_fits in
      let second_long = (is_second.fits r e has.right).0 second_fits in
      let move : Move first second condition alignment n d e to (d' ++ e') = record {
        meets = said.meets;
        left = d';
        right = e';
        moves = moves_agree (IsSegment f) (IsSegment g) (IsGraphSegment first) (IsGraphSegment second)
            (λ l e l' e'. (is_first.segments l e l' e').0) (λ l e l' e'. (is_second.segments l e l' e').0) alignment l r d e l' r' d' e' moves;
        both = refl;
      } in
      let some : SomeClause product n (d ++ e) to (d' ++ e') =
      (is_product.agrees n here away d e first_long second_long to (d' ++ e')).0 move in
      record {
        inside = led_inside n to (d ++ e) (d' ++ e') (both_long d e n first_long second_long) said.inside
            (one_of (Leads n (d ++ e) to (d' ++ e')) product.clauses some);
        meets = λ same.
            absurd (entries_are_not_met f g alignment l r d e l' r' d' e' moves (ap (λ (m : Node). m.0) same, ap (λ (m : Node). m.1) same));
      }

-- ---- the laws

pub soundness_of_products : SoundnessOfProducts
soundness_of_products f g first second condition alignment product family is_first is_second is_product over refuted = record {
  at_entries = over.at_entries ∙ ap (λ (n : ℕ). Some (equal_parameters n)) is_first.params;
  kept = family_is_kept f g first second condition alignment product family is_first is_second is_product over refuted;
  at_exits = over.at_exits;
}

no_point_left : (family : Family) (one : Obligation) → IsRefutable (rows_of family one) → HasNoIntegerPoint (rows_of family one)
no_point_left family one found = no_integer_point (rows_of family one) found.multipliers found.refutes

pub refutable_is_refuted : RefutableIsRefuted
refutable_is_refuted family obligations refutable =
    All-weaker (λ one. IsRefutable (rows_of family one)) (λ one. HasNoIntegerPoint (rows_of family one)) (no_point_left family) obligations refutable

pub linear_families_couple : LinearFamiliesCouple
linear_families_couple f g first second condition alignment product family is_first is_second is_product linear =
    soundness_of_products f g first second condition alignment product family is_first is_second is_product linear.over
    (refutable_is_refuted family (obligations_of family product) linear.refutable)
