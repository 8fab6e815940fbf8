-- Atoms that may be struck: those at a clause's end of which an obligation is not refutable.
use Rattle.std.specs.Prelude.{◌≡◌, ◌⊎◌, ℕ, ◌+◌, Bool, true, false, not, ◌&&◌, ◌||◌, if◌then◌else◌, List, [], ◌∷◌, ◌++◌, length, remove}
use Rattle.horn_clauses.specs.declared.atom.Atom.{Atom}
use Rattle.horn_clauses.specs.declared.clause.Clause.{Clause}
use Rattle.horn_clauses.specs.declared.family.Family.{Family}
use Rattle.horn_clauses.specs.declared.node.Node.{Node}
use Rattle.horn_clauses.specs.Node.{is_same_node}
use Rattle.horn_clauses.specs.Obligations.{obligations_at}
use Rattle.coupling_check.specs.Checks.{AreRefutable}

-- The atom holds at the clause's end, as the family's atoms at its start show: its obligations are refutable.
abbrev pub IsShown : Family → Clause → Atom → Type 0
IsShown family clause atom = AreRefutable family (obligations_at clause atom)

-- The second list is the first without some elements, each of which fails P.
abbrev pub LeavesOut : {A : Type 0} → (A → Type 0) → List A → List A → Type 0
LeavesOut P [] [] = Unit {0}
LeavesOut P [] (y ∷ ys) = ⊥
LeavesOut P (x ∷ xs) [] = (¬ P x) × LeavesOut P xs []
LeavesOut P (x ∷ xs) (y ∷ ys) = ((x ≡ y) × LeavesOut P xs ys) ⊎ ((¬ P x) × LeavesOut P xs (y ∷ ys))

-- One of the two, as told.
abbrev pub Either : Bool → Type 0 → Type 0 → Type 0
Either true First Second = First
Either false First Second = Second

-- The second list of entries is the first, where the first entry for the node lacks some atoms, each of which fails P.
abbrev pub StrikesAmong : (Atom → Type 0) → Node → List (Node × List Atom) → List (Node × List Atom) → Type 0
StrikesAmong P node [] [] = Unit {0}
StrikesAmong P node [] (other ∷ others) = ⊥
StrikesAmong P node (entry ∷ entries) [] = ⊥
StrikesAmong P node (entry ∷ entries) (other ∷ others) =
    (entry.0 ≡ other.0) × Either (is_same_node entry.0 node)
    (LeavesOut P entry.1 other.1 × (entries ≡ others))
    ((entry.1 ≡ other.1) × StrikesAmong P node entries others)

-- The entries, of which the first for the node lacks its atom at place i.
abbrev pub struck_among : Node → ℕ → List (Node × List Atom) → List (Node × List Atom)
struck_among node i [] = []
struck_among node i (entry ∷ entries) =
    if is_same_node entry.0 node
    then (entry.0, remove entry.1 i) ∷ entries
    else entry ∷ struck_among node i entries

-- How many atoms the entries have in all.
abbrev pub count_atoms : List (Node × List Atom) → ℕ
count_atoms [] = 0
count_atoms (entry ∷ entries) = length entry.1 + count_atoms entries

-- The new family is the old one without some atoms at the clause's end, which the old one does not show to hold there.
abbrev pub Strikes : Clause → Family → Family → Type 0
Strikes clause old new = StrikesAmong (IsShown old clause) clause.to old.nodes new.nodes

-- ---- one turn, in which the first of the entries goes to the end

-- The entry, which lacks its atom at place i where it is the first for the node.
abbrev pub turned : Node → ℕ → Bool → Node × List Atom → Node × List Atom
turned node i found entry = if not found && is_same_node entry.0 node then (entry.0, remove entry.1 i) else entry

-- The entries after the turn.
abbrev pub after_turn : Node → ℕ → Bool → List (Node × List Atom) → List (Node × List Atom)
after_turn node i found [] = []
after_turn node i found (entry ∷ entries) = entries ++ turned node i found entry ∷ []

-- Whether the node was found so far, or is that of the first of the entries.
abbrev pub found_after : Node → Bool → List (Node × List Atom) → Bool
found_after node found [] = found
found_after node found (entry ∷ entries) = found || is_same_node entry.0 node
