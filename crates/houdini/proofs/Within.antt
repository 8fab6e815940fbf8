-- Families within others.
use Rattle.std.proofs.Common.{◌≡◌, ℕ, ◌≤◌, Bool, true, false, cond, List, [], ◌∷◌, length, refl, sym, ◌∙◌, ap, subst}
use Rattle.std.specs.Prelude.{Option, Some, None, IsSomeAnd, All}
use Rattle.horn_clauses.specs.declared.atom.Atom.{Atom}
use Rattle.horn_clauses.specs.declared.clause.Clause.{Clause}
use Rattle.horn_clauses.specs.declared.clause.Product.{Product}
use Rattle.horn_clauses.specs.declared.family.Family.{Family}
use Rattle.horn_clauses.specs.declared.node.Node.{Node}
use Rattle.horn_clauses.specs.Node.{is_same_node}
use Rattle.horn_clauses.specs.Family.{atoms_among, atoms_at}
use Rattle.horn_clauses.specs.Obligations.{FitsNode, atoms_or_none}
use Rattle.coupling_check.specs.Checks.{CanCheckClause, CanCheck}
use Rattle.houdini.specs.Within.{IsSublist, AreWithin, IsWithin}
use Rattle.houdini.proofs.Sublists.{sublist_of_itself, sublist_goes_on, as_long_is_same, sublists_of_each_other, all_of_sublist}

abbrev Entries : Type 0
Entries = List (Node × List Atom)

are_within_themselves : (nodes : Entries) → AreWithin nodes nodes
are_within_themselves [] = tt
are_within_themselves (entry ∷ nodes) = (refl, (sublist_of_itself entry.1, are_within_themselves nodes))

pub within_itself : (family : Family) → IsWithin family family
within_itself family = are_within_themselves family.nodes

are_within_go_on : (xs ys zs : Entries) → AreWithin xs ys → AreWithin ys zs → AreWithin xs zs
are_within_go_on [] [] zs first second = second
are_within_go_on [] (y ∷ ys) zs first second = absurd first
are_within_go_on (x ∷ xs) [] zs first second = absurd first
are_within_go_on (x ∷ xs) (y ∷ ys) [] first second = absurd second
are_within_go_on (x ∷ xs) (y ∷ ys) (z ∷ zs) first second =
    (first.0 ∙ second.0, (sublist_goes_on x.1 y.1 z.1 first.1.0 second.1.0, are_within_go_on xs ys zs first.1.1 second.1.1))

pub within_goes_on : (first second third : Family) → IsWithin first second → IsWithin second third → IsWithin first third
within_goes_on first second third = are_within_go_on first.nodes second.nodes third.nodes

entry_of : (x y : Node × List Atom) → x.0 ≡ y.0 → x.1 ≡ y.1 → x ≡ y
entry_of x y first second =
    ap (λ (n : Node). (n, x.1)) first ∙ ap (λ (atoms : List Atom). (y.0, atoms)) second

entries_are_one : (xs ys : Entries) → AreWithin xs ys → AreWithin ys xs → xs ≡ ys
entries_are_one [] [] first second = refl
entries_are_one [] (y ∷ ys) first second = absurd first
entries_are_one (x ∷ xs) [] first second = absurd first
entries_are_one (x ∷ xs) (y ∷ ys) first second =
    ap (λ (z : Node × List Atom). z ∷ xs) (entry_of x y first.0 (sublists_of_each_other x.1 y.1 first.1.0 second.1.0))
    ∙ ap (λ (zs : Entries). y ∷ zs) (entries_are_one xs ys first.1.1 second.1.1)

-- Families within each other are one.
pub within_each_other : (first second : Family) → IsWithin first second → IsWithin second first → first ≡ second
within_each_other first second there back =
    ap (λ (nodes : Entries). record { nodes = nodes }) (entries_are_one first.nodes second.nodes there back)

-- ---- the atoms at a node

-- Both are there, the first a sublist of the second, or neither.
abbrev pub AreAtomsWithin : Option (List Atom) → Option (List Atom) → Type 0
AreAtomsWithin None None = Unit {0}
AreAtomsWithin None (Some ys) = ⊥
AreAtomsWithin (Some xs) None = ⊥
AreAtomsWithin (Some xs) (Some ys) = IsSublist xs ys

chosen_within : (same : Bool) (xs ys : List Atom) (more others : Option (List Atom)) → IsSublist xs ys → AreAtomsWithin more others
    → AreAtomsWithin (cond same (Some xs) more) (cond same (Some ys) others)
chosen_within true xs ys more others here later = here
chosen_within false xs ys more others here later = later

among_within : (node : Node) (xs ys : Entries) → AreWithin xs ys → AreAtomsWithin (atoms_among xs node) (atoms_among ys node)
among_within node [] [] within = tt
among_within node [] (y ∷ ys) within = absurd within
among_within node (x ∷ xs) [] within = absurd within
among_within node (x ∷ xs) (y ∷ ys) within =
    subst (λ (n : Node). AreAtomsWithin (atoms_among (x ∷ xs) node) (cond (is_same_node n node) (Some y.1) (atoms_among ys node))) within.0
    (chosen_within (is_same_node x.0 node) x.1 y.1 (atoms_among xs node) (atoms_among ys node) within.1.0
    (among_within node xs ys within.1.1))

pub atoms_within : (family other : Family) (node : Node) → IsWithin family other
    → AreAtomsWithin (atoms_at family node) (atoms_at other node)
atoms_within family other node = among_within node family.nodes other.nodes

pub sublist_at : (xs ys : Option (List Atom)) → AreAtomsWithin xs ys → IsSublist (atoms_or_none xs) (atoms_or_none ys)
sublist_at None None within = tt
sublist_at None (Some ys) within = absurd within
sublist_at (Some xs) None within = absurd within
sublist_at (Some xs) (Some ys) within = within

-- atoms within those that are within them again are the same
pub atoms_between : (xs ys zs : Option (List Atom)) → AreAtomsWithin xs ys → AreAtomsWithin ys zs → xs ≡ zs → xs ≡ ys
atoms_between None None zs first second same = refl
atoms_between None (Some ys) zs first second same = absurd first
atoms_between (Some xs) None zs first second same = absurd first
atoms_between (Some xs) (Some ys) None first second same = absurd second
atoms_between (Some xs) (Some ys) (Some zs) first second same =
    let one : xs ≡ zs = cc in
    ap Some (sublists_of_each_other xs ys first (subst (λ (ws : List Atom). IsSublist ys ws) (sym one) second))

-- atoms within others that are no more are the same
pub as_many_are_same : (xs ys : Option (List Atom)) → AreAtomsWithin xs ys → length (atoms_or_none ys) ≤ length (atoms_or_none xs) → xs ≡ ys
as_many_are_same None None within many = refl
as_many_are_same None (Some ys) within many = absurd within
as_many_are_same (Some xs) None within many = absurd within
as_many_are_same (Some xs) (Some ys) within many = ap Some (as_long_is_same xs ys within many)

-- ---- what may be checked

fitting_within : (width : ℕ) (xs ys : Option (List Atom)) → AreAtomsWithin xs ys → IsSomeAnd ys (All (FitsNode width))
    → IsSomeAnd xs (All (FitsNode width))
fitting_within width None None within fit = absurd fit
fitting_within width None (Some ys) within fit = absurd within
fitting_within width (Some xs) None within fit = absurd within
fitting_within width (Some xs) (Some ys) within fit = all_of_sublist (FitsNode width) xs ys within fit

can_check_clause : (family other : Family) (clause : Clause) → IsWithin family other → CanCheckClause other clause
    → CanCheckClause family clause
can_check_clause family other clause within can = record {
  start = can.start;
  end = can.end;
  at_start = fitting_within can.start (atoms_at family clause.from) (atoms_at other clause.from)
      (atoms_within family other clause.from within) can.at_start;
  at_end = fitting_within can.end (atoms_at family clause.to) (atoms_at other clause.to)
      (atoms_within family other clause.to within) can.at_end;
  between = can.between;
  few_at_start = can.few_at_start;
  few_at_end = can.few_at_end;
}

-- What is within a family that can be checked can be checked.
pub can_check_within : (product : Product) (family other : Family) → IsWithin family other → CanCheck product other
    → CanCheck product family
can_check_within product family other within can k d inside = can_check_clause family other _ within (can k d inside)
