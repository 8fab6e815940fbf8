-- The definitions on families of one node.
use Rattle.std.proofs.Common.{◌≡◌, List, [], ◌∷◌, inl, inr, refl}
use Rattle.std.specs.Prelude.{Option, None}
use Rattle.horn_clauses.specs.declared.atom.Atom.{Atom}
use Rattle.horn_clauses.specs.declared.atom.Atom.TheVariants.{False}
use Rattle.horn_clauses.specs.declared.node.Node.{Node}
use Rattle.horn_clauses.specs.Node.{entries, exits}
use Rattle.horn_clauses.specs.Equalities.{equal_results}
use Rattle.houdini.specs.Within.{IsSublist, family_of}
use Rattle.houdini.specs.Striking.{struck_among, count_atoms}

-- two of three atoms, in their order
two_of_three : IsSublist (equal_results ∷ False ∷ []) (equal_results ∷ equal_results ∷ False ∷ [])
two_of_three = inl (refl, inr (inl (refl, tt)))

-- the second atom of the exits is struck
struck : struck_among exits 1 ((entries, False ∷ []) ∷ (exits, False ∷ equal_results ∷ []) ∷ [])
    ≡ (entries, False ∷ []) ∷ (exits, False ∷ []) ∷ []
struck = refl

counted : count_atoms ((entries, False ∷ []) ∷ (exits, False ∷ equal_results ∷ []) ∷ []) ≡ 3
counted = refl

-- a node without candidates has `false` alone, and one with an empty list of them says nothing
without : Node → Option (List Atom)
without n = None

not_met : family_of (exits ∷ []) without ≡ record { nodes = (exits, False ∷ []) ∷ [] }
unfolding without
not_met = refl
