-- What is left without the marked atoms at a node.
use Rattle.std.proofs.Common.{◌≡◌, ℕ, ◌+◌, ◌*◌, ◌<◌, ◌≤◌, Bool, true, false, ◌⊎◌, inl, inr, List, [], ◌∷◌, ◌++◌, length, reverse, refl, sym, ap, ◌∙◌, subst, arith}
use Rattle.std.proofs.lemmas.List.{append-nil}
use Rattle.std.specs.Prelude.{if◌then◌else◌, Some}
use Rattle.std.specs.List.{AllZip, list_any}
use Rattle.std.proofs.Math.Nat.{mul-le-mul_left}
use Rattle.std.proofs.lemmas.Slice.Zip.{AllZip-long}
use Rattle.horn_clauses.specs.declared.atom.Atom.{Atom}
use Rattle.horn_clauses.specs.declared.clause.Clause.{Clause}
use Rattle.horn_clauses.specs.declared.family.Family.{Family}
use Rattle.horn_clauses.specs.declared.node.Node.{Node}
use Rattle.horn_clauses.specs.Node.{is_same_node}
use Rattle.horn_clauses.specs.Family.{atoms_among, atoms_at}
use Rattle.horn_clauses.specs.Obligations.{atoms_or_none}
use Rattle.houdini.specs.Cut.{unmarked, cut_entry, cut_among, cut}
use Rattle.houdini.specs.Failures.{IsOpenIfMarked}
use Rattle.houdini.specs.Striking.{IsShown, LeavesOut, Either, StrikesAmong, Strikes, count_atoms}

module _ (P : Atom → Type 0) where
  -- where the atom is marked it fails P
  abbrev FailsIfMarked : Atom → Bool → Type 0
  FailsIfMarked atom mark = mark ≡ true → ¬ P atom

  leaves_one : (atom : Atom) (atoms others : List Atom) → ¬ P atom → LeavesOut P atoms others → LeavesOut P (atom ∷ atoms) others
  leaves_one atom atoms [] fails left = (fails, left)
  leaves_one atom atoms (other ∷ others) fails left = inr (fails, left)

  leaves_unmarked : (atoms : List Atom) (marks : List Bool) → AllZip FailsIfMarked atoms marks → LeavesOut P atoms (unmarked atoms marks)
  leaves_unmarked [] [] zipped = tt
  leaves_unmarked [] (mark ∷ marks) zipped = absurd zipped
  leaves_unmarked (atom ∷ atoms) [] zipped = absurd zipped
  leaves_unmarked (atom ∷ atoms) (true ∷ marks) zipped =
      leaves_one atom atoms (unmarked atoms marks) (zipped.0 refl) (leaves_unmarked atoms marks zipped.1)
  leaves_unmarked (atom ∷ atoms) (false ∷ marks) zipped = inl (refl, leaves_unmarked atoms marks zipped.1)

  leaves_all : (atoms : List Atom) → LeavesOut P atoms atoms
  leaves_all [] = tt
  leaves_all (atom ∷ atoms) = inl (refl, leaves_all atoms)

  module _ (node : Node) (marks : List Bool) where
    cut_one : (entry : Node × List Atom) (entries : List (Node × List Atom)) (same : Bool) → same ≡ is_same_node entry.0 node
        → AllZip FailsIfMarked (atoms_or_none (if same then Some entry.1 else atoms_among entries node)) marks
        → (AllZip FailsIfMarked (atoms_or_none (atoms_among entries node)) marks → StrikesAmong P node entries (cut_among entries node marks))
        → StrikesAmong P node (entry ∷ entries) (if same then cut_entry entry marks ∷ entries else entry ∷ cut_among entries node marks)
    cut_one entry entries true is zipped later = (
      refl,
      subst (λ (b : Bool). Either b (LeavesOut P entry.1 (unmarked entry.1 marks) × (entries ≡ entries))
          ((entry.1 ≡ unmarked entry.1 marks) × StrikesAmong P node entries entries)) is (leaves_unmarked entry.1 marks zipped, refl),
    )
    cut_one entry entries false is zipped later = (
      refl,
      subst (λ (b : Bool). Either b (LeavesOut P entry.1 entry.1 × (entries ≡ cut_among entries node marks))
          ((entry.1 ≡ entry.1) × StrikesAmong P node entries (cut_among entries node marks))) is (refl, later zipped),
    )

    pub cut_strikes : (entries : List (Node × List Atom)) → AllZip FailsIfMarked (atoms_or_none (atoms_among entries node)) marks
        → StrikesAmong P node entries (cut_among entries node marks)
    cut_strikes [] zipped = tt
    cut_strikes (entry ∷ entries) zipped = cut_one entry entries (is_same_node entry.0 node) refl zipped (cut_strikes entries)

  none_one : (node : Node) (entry : Node × List Atom) (entries : List (Node × List Atom)) (same : Bool) → StrikesAmong P node entries entries
      → Either same (LeavesOut P entry.1 entry.1 × (entries ≡ entries)) ((entry.1 ≡ entry.1) × StrikesAmong P node entries entries)
  none_one node entry entries true later = (leaves_all entry.1, refl)
  none_one node entry entries false later = (refl, later)

  pub none_strikes : (node : Node) (entries : List (Node × List Atom)) → StrikesAmong P node entries entries
  none_strikes node [] = tt
  none_strikes node (entry ∷ entries) = (refl, none_one node entry entries (is_same_node entry.0 node) (none_strikes node entries))

-- where only atoms are marked that are not shown, cutting strikes
pub cut_strikes_open : (family : Family) (clause : Clause) (marks : List Bool)
    → AllZip (IsOpenIfMarked family clause) (atoms_or_none (atoms_at family clause.to)) marks → Strikes clause family (cut family clause.to marks)
cut_strikes_open family clause marks zipped = cut_strikes (IsShown family clause) clause.to marks family.nodes zipped

-- and it may strike nothing
pub strikes_nothing : (family : Family) (clause : Clause) → Strikes clause family family
strikes_nothing family clause = none_strikes (IsShown family clause) clause.to family.nodes

-- ---- the loop over marks

nothing_left : (atoms : List Atom) → unmarked atoms [] ≡ []
nothing_left [] = refl
nothing_left (atom ∷ atoms) = refl

pub no_items : {A : Type 0} (xs : List A) → length xs ≡ 0 → xs ≡ []
no_items [] none = refl
no_items (x ∷ xs) none = absurd (omega arith)

-- where no mark or no atom is left all is made
pub unmarked_made : (made left all : List Atom) (marks : List Bool) → (left ≡ []) ⊎ (marks ≡ []) → made ++ unmarked (reverse left) marks ≡ all → made ≡ all
unmarked_made made left all marks (inl none) is =
    sym (append-nil made) ∙ (ap (λ (xs : List Atom). made ++ unmarked (reverse xs) marks) (sym none) ∙ is)
unmarked_made made left all marks (inr none) is =
    sym (append-nil made) ∙ (ap (λ (xs : List Atom). made ++ xs) (sym (nothing_left (reverse left)))
    ∙ (ap (λ (ms : List Bool). made ++ unmarked (reverse left) ms) (sym none) ∙ is))

-- ---- how many atoms are left

few_unmarked : (atoms : List Atom) (marks : List Bool) → length (unmarked atoms marks) ≤ length atoms
few_unmarked [] marks = omega arith
few_unmarked (atom ∷ atoms) [] = omega arith
few_unmarked (atom ∷ atoms) (true ∷ marks) = omega (arith, few_unmarked atoms marks)
few_unmarked (atom ∷ atoms) (false ∷ marks) = omega (arith, few_unmarked atoms marks)

abbrev HasMark : List Bool → Type 0
HasMark marks = list_any (λ mark. mark) marks ≡ true

fewer_unmarked : (atoms : List Atom) (marks : List Bool) → length marks ≤ length atoms → HasMark marks → length (unmarked atoms marks) < length atoms
fewer_unmarked [] [] long any = cc
fewer_unmarked [] (mark ∷ marks) long any = absurd (omega arith)
fewer_unmarked (atom ∷ atoms) [] long any = cc
fewer_unmarked (atom ∷ atoms) (true ∷ marks) long any = omega (arith, few_unmarked atoms marks)
fewer_unmarked (atom ∷ atoms) (false ∷ marks) long any = omega (arith, fewer_unmarked atoms marks (omega arith) any)

module _ (node : Node) (marks : List Bool) (any : HasMark marks) where
  fewer_one : (entry : Node × List Atom) (entries : List (Node × List Atom)) (same : Bool)
      → length marks ≤ length (atoms_or_none (if same then Some entry.1 else atoms_among entries node))
      → (length marks ≤ length (atoms_or_none (atoms_among entries node)) → count_atoms (cut_among entries node marks) < count_atoms entries)
      → count_atoms (if same then cut_entry entry marks ∷ entries else entry ∷ cut_among entries node marks) < count_atoms (entry ∷ entries)
  fewer_one entry entries true long later = omega (arith, fewer_unmarked entry.1 marks long any)
  fewer_one entry entries false long later = omega (arith, later long)

  fewer_among : (entries : List (Node × List Atom)) → length marks ≤ length (atoms_or_none (atoms_among entries node))
      → count_atoms (cut_among entries node marks) < count_atoms entries
  fewer_among [] long = absurd (omega (arith, fewer_unmarked [] marks long any))
  fewer_among (entry ∷ entries) long = fewer_one entry entries (is_same_node entry.0 node) long (fewer_among entries)

-- where an atom is marked, cutting leaves fewer atoms
pub cut_is_fewer : (family : Family) (clause : Clause) (marks : List Bool)
    → AllZip (IsOpenIfMarked family clause) (atoms_or_none (atoms_at family clause.to)) marks → HasMark marks
    → count_atoms (cut family clause.to marks).nodes < count_atoms family.nodes
cut_is_fewer family clause marks zipped any =
    fewer_among clause.to marks any family.nodes
    (omega (arith, AllZip-long (IsOpenIfMarked family clause) (atoms_or_none (atoms_at family clause.to)) marks zipped))

-- ---- each turn leaves less to do

less_is_suc : (fewer many : ℕ) → fewer < many → fewer + 1 ≤ many
less_is_suc fewer many less = omega arith

-- where atoms were struck
pub struck_falls : (fewer many count now before : ℕ) → fewer < many → now ≤ count → fewer * (count + 1) + now < many * (count + 1) + before
struck_falls fewer many count now before less most = omega (arith, mul-le-mul_left (count + 1) (less_is_suc fewer many less))

-- where one clause less waits
pub waiting_falls : (after many count now before : ℕ) → after ≡ many → now + 1 ≡ before → after * (count + 1) + now < many * (count + 1) + before
waiting_falls after many count now before same less =
    let product : after * (count + 1) ≡ many * (count + 1) = ap (λ (n : ℕ). n * (count + 1)) same in omega (arith, product)
