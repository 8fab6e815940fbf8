-- Striking atoms that are not shown to hold loses no linear family.
use Rattle.std.proofs.Common.{◌≡◌, Bool, true, false, cond, List, [], ◌∷◌, ◌++◌, sym, ◌∙◌, subst}
use Rattle.std.specs.Prelude.{Some, All, Contains}
use Rattle.std.specs.List.{flat_map, AllByRecursion}
use Rattle.std.proofs.lemmas.List.Elements.{recursion_from_All, All-from_recursion, All-contains}
use Rattle.farkas_check.specs.Refutes.{IsRefutable}
use Rattle.horn_clauses.specs.declared.atom.Atom.{Atom}
use Rattle.horn_clauses.specs.declared.clause.Clause.{Clause}
use Rattle.horn_clauses.specs.declared.clause.Product.{Product}
use Rattle.horn_clauses.specs.declared.family.Family.{Family}
use Rattle.horn_clauses.specs.declared.node.Node.{Node}
use Rattle.horn_clauses.specs.Node.{entries, is_same_node}
use Rattle.horn_clauses.specs.Family.{atoms_among, atoms_at}
use Rattle.horn_clauses.specs.Obligations.{Obligation, rows_of, atoms_or_none, obligations_at, obligations_for, obligations_of}
use Rattle.houdini.specs.Within.{IsSublist, AreWithin, IsWithin}
use Rattle.coupling_check.specs.Checks.{AreRefutable}
use Rattle.houdini.specs.Linear.{ContainsLinear, Narrows}
use Rattle.houdini.specs.Striking.{IsShown, LeavesOut, Either, StrikesAmong, Strikes}
use Rattle.houdini.proofs.Sublists.{sublist_of_itself, left_is_sublist, sublist_of_left}
use Rattle.houdini.proofs.Within.{within_itself, within_goes_on, atoms_within, atoms_between}
use Rattle.houdini.proofs.Refuting.{all_refutable_over_more}

abbrev Entries : Type 0
Entries = List (Node × List Atom)

-- ---- narrowing

pub narrows_itself : (product : Product) (family : Family) → Narrows product family family
narrows_itself product family = record { within = within_itself family; linear = λ other linear. linear }

pub narrows_on : (product : Product) (first second third : Family) → Narrows product first second → Narrows product second third
    → Narrows product first third
narrows_on product first second third there on = record {
  within = within_goes_on third second first on.within there.within;
  linear = λ family linear. on.linear family (there.linear family linear);
}

-- What is within a family and contains its linear families narrows it.
pub narrows_of : (product : Product) (old new : Family) → IsWithin new old → ContainsLinear product old new → Narrows product old new
narrows_of product old new within contains = record {
  within = within;
  linear = λ family linear.
      let inside : IsWithin family new = contains family linear in
      record {
        within = inside;
        at_entries = atoms_between (atoms_at family entries) (atoms_at new entries) (atoms_at old entries)
            (atoms_within family new entries inside) (atoms_within new old entries within) linear.at_entries;
        at_exits = linear.at_exits;
        refutable = linear.refutable;
      };
}

-- ---- the obligations of a clause

module _ (P : Obligation → Type 0) where
  first_part : (xs ys : List Obligation) → AllByRecursion P (xs ++ ys) → AllByRecursion P xs
  first_part [] ys each = tt
  first_part (x ∷ xs) ys each = (each.0, first_part xs ys each.1)

  second_part : (xs ys : List Obligation) → AllByRecursion P (xs ++ ys) → AllByRecursion P ys
  second_part [] ys each = each
  second_part (x ∷ xs) ys each = second_part xs ys each.1

  pub first_of_all : (xs ys : List Obligation) → All P (xs ++ ys) → All P xs
  first_of_all xs ys all = All-from_recursion P xs (first_part xs ys (recursion_from_All P (xs ++ ys) all))

  pub second_of_all : (xs ys : List Obligation) → All P (xs ++ ys) → All P ys
  second_of_all xs ys all = All-from_recursion P ys (second_part xs ys (recursion_from_All P (xs ++ ys) all))

  -- what holds of all obligations that are made holds of those of each element
  of_each : {X : Type 0} (made : X → List Obligation) (xs : List X) → AllByRecursion P (flat_map made xs)
      → AllByRecursion (λ (x : X). All P (made x)) xs
  of_each made [] each = tt
  of_each made (x ∷ xs) each = (
    All-from_recursion P (made x) (first_part (made x) (flat_map made xs) each),
    of_each made xs (second_part (made x) (flat_map made xs) each),
  )

  pub all_of_each : {X : Type 0} (made : X → List Obligation) (xs : List X) → All P (flat_map made xs)
      → All (λ (x : X). All P (made x)) xs
  all_of_each {X} made xs all =
      All-from_recursion (λ (x : X). All P (made x)) xs (of_each made xs (recursion_from_All P (flat_map made xs) all))

-- The atoms at a clause's end are shown to hold in a family of which each obligation is refutable.
pub shown_at_end : (product : Product) (family : Family) (clause : Clause) → Contains product.clauses clause
    → AreRefutable family (obligations_of family product)
    → All (IsShown family clause) (atoms_or_none (atoms_at family clause.to))
shown_at_end product family clause contains refutable =
    let P : Obligation → Type 0 = λ asked. IsRefutable (rows_of family asked) in
    let at_clause : All P (obligations_for family clause) =
    All-contains (λ (k : Clause). All P (obligations_for family k)) product.clauses clause
    (all_of_each P (obligations_for family) product.clauses refutable) contains in
    all_of_each P (obligations_at clause) (atoms_or_none (atoms_at family clause.to)) at_clause

-- ---- what is struck

module _ (P : Atom → Type 0) (node : Node) where
  either_within : (same : Bool) (xs ys : List Atom) (more others : Entries)
      → Either same (LeavesOut P xs ys × (more ≡ others)) ((xs ≡ ys) × StrikesAmong P node more others)
      → (StrikesAmong P node more others → AreWithin others more) → ((zs : Entries) → AreWithin zs zs)
      → IsSublist ys xs × AreWithin others more
  either_within true xs ys more others strikes later itself =
      (left_is_sublist P xs ys strikes.0, subst (λ (zs : Entries). AreWithin zs more) strikes.1 (itself more))
  either_within false xs ys more others strikes later itself =
      (subst (λ (zs : List Atom). IsSublist zs xs) strikes.0 (sublist_of_itself xs), later strikes.1)

  strikes_within : (old new : Entries) → StrikesAmong P node old new → AreWithin new old
  strikes_within [] [] strikes = tt
  strikes_within [] (entry ∷ new) strikes = absurd strikes
  strikes_within (entry ∷ old) [] strikes = absurd strikes
  strikes_within (entry ∷ old) (other ∷ new) strikes =
      let parts = either_within (is_same_node entry.0 node) entry.1 other.1 old new strikes.1 (strikes_within old new)
      (λ zs. within_itself (record { nodes = zs })) in
      (sym strikes.0, parts)

  -- a sublist at each node, of atoms that have P at this node
  either_kept : (same : Bool) (zs xs ys : List Atom) (rest more others : Entries)
      → AllByRecursion P (atoms_or_none (cond same (Some zs) (atoms_among rest node)))
      → IsSublist zs xs → AreWithin rest more
      → Either same (LeavesOut P xs ys × (more ≡ others)) ((xs ≡ ys) × StrikesAmong P node more others)
      → (AllByRecursion P (atoms_or_none (atoms_among rest node)) → StrikesAmong P node more others → AreWithin rest others)
      → IsSublist zs ys × AreWithin rest others
  either_kept true zs xs ys rest more others each sub within strikes later =
      (sublist_of_left P zs xs ys sub each strikes.0, subst (λ (es : Entries). AreWithin rest es) strikes.1 within)
  either_kept false zs xs ys rest more others each sub within strikes later =
      (subst (λ (ws : List Atom). IsSublist zs ws) strikes.0 sub, later each strikes.1)

  kept_among : (kept old new : Entries) → AllByRecursion P (atoms_or_none (atoms_among kept node)) → AreWithin kept old
      → StrikesAmong P node old new → AreWithin kept new
  kept_among [] [] [] each within strikes = tt
  kept_among [] [] (other ∷ new) each within strikes = absurd strikes
  kept_among [] (entry ∷ old) new each within strikes = absurd within
  kept_among (mine ∷ kept) [] new each within strikes = absurd within
  kept_among (mine ∷ kept) (entry ∷ old) [] each within strikes = absurd strikes
  kept_among (mine ∷ kept) (entry ∷ old) (other ∷ new) each within strikes =
      let here : Either (is_same_node mine.0 node) (LeavesOut P entry.1 other.1 × (old ≡ new)) ((entry.1 ≡ other.1) × StrikesAmong P node old new)
      = subst (λ (n : Node). Either (is_same_node n node) (LeavesOut P entry.1 other.1 × (old ≡ new))
      ((entry.1 ≡ other.1) × StrikesAmong P node old new)) (sym within.0) strikes.1 in
      let parts = either_kept (is_same_node mine.0 node) mine.1 entry.1 other.1 kept old new each within.1.0 within.1.1 here
      (λ each_later strikes_later. kept_among kept old new each_later within.1.1 strikes_later) in
      (within.0 ∙ strikes.0, parts)

-- The family that is left when atoms at a clause's end are struck that are not shown to hold there: it is one of the old
-- one's atoms, and each linear family of those is within it.
pub strikes_narrow : (product : Product) (clause : Clause) (old new : Family) → Contains product.clauses clause
    → Strikes clause old new → Narrows product old new
strikes_narrow product clause old new contains strikes =
    narrows_of product old new (strikes_within (IsShown old clause) clause.to old.nodes new.nodes strikes)
    (λ family linear.
    kept_among (IsShown old clause) clause.to family.nodes old.nodes new.nodes
    (recursion_from_All (IsShown old clause) (atoms_or_none (atoms_at family clause.to))
    (λ k d inside. all_refutable_over_more family old _ linear.within
    (shown_at_end product family clause contains linear.refutable k d inside)))
    linear.within strikes)
