-- Families whose atoms are among those of another.
use Rattle.std.specs.Prelude.{◌≡◌, ◌⊎◌, List, [], ◌∷◌, map, Option, Some, None}
use Rattle.horn_clauses.specs.declared.atom.Atom.{Atom}
use Rattle.horn_clauses.specs.declared.atom.Atom.TheVariants.{False}
use Rattle.horn_clauses.specs.declared.family.Family.{Family}
use Rattle.horn_clauses.specs.declared.node.Node.{Node}

-- The first list has some elements of the second, in their order.
abbrev pub IsSublist : {A : Type 0} → List A → List A → Type 0
IsSublist [] ys = Unit {0}
IsSublist (x ∷ xs) [] = ⊥
IsSublist (x ∷ xs) (y ∷ ys) = ((x ≡ y) × IsSublist xs ys) ⊎ IsSublist (x ∷ xs) ys

-- The same nodes in order, each with some of the atoms that the second list has there, in their order.
abbrev pub AreWithin : List (Node × List Atom) → List (Node × List Atom) → Type 0
AreWithin [] [] = Unit {0}
AreWithin [] (other ∷ others) = ⊥
AreWithin (entry ∷ entries) [] = ⊥
AreWithin (entry ∷ entries) (other ∷ others) =
    (entry.0 ≡ other.0) × (IsSublist entry.1 other.1 × AreWithin entries others)

-- The family is one of the candidates: it has their nodes in order, each with some of the atoms there, in their order.
abbrev pub IsWithin : Family → Family → Type 0
IsWithin family candidates = AreWithin family.nodes candidates.nodes

-- The candidates where there are some; where a node has none it is not met: `false` alone.
abbrev pub candidates_or_false : Option (List Atom) → List Atom
candidates_or_false None = False ∷ []
candidates_or_false (Some atoms) = atoms

-- The nodes in order, each with its candidates, or with `false` alone where it has none.
abbrev pub entries_of : (Node → Option (List Atom)) → List Node → List (Node × List Atom)
entries_of lookup nodes = map (λ node. (node, candidates_or_false (lookup node))) nodes

-- The family of the candidates at these nodes.
abbrev pub family_of : List Node → (Node → Option (List Atom)) → Family
family_of nodes lookup = record { nodes = entries_of lookup nodes }
