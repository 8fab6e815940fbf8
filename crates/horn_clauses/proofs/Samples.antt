-- The definitions on a small family: at the entries the two values are equal, and the exits are not met.
-- Then the obligations of a clause that doubles both values.
use Rattle.std.proofs.Common.{◌≡◌, [], ◌∷◌, Some, None, true, false, pos, negsuc, refl}
use Rattle.c_ast.specs.declared.place.Place.TheVariants as place
use Rattle.horn_clauses.specs.declared.atom.Atom.{Atom}
use Rattle.horn_clauses.specs.declared.atom.Atom.TheVariants.{False, Linear}
use Rattle.horn_clauses.specs.declared.atom.Rel.TheVariants.{Eq, AtLeast}
use Rattle.horn_clauses.specs.declared.family.Family.{Family}
use Rattle.horn_clauses.specs.Atom.{AtomHolds}
use Rattle.horn_clauses.specs.Node.{node}
use Rattle.horn_clauses.specs.declared.clause.Clause.{Clause}
use Rattle.horn_clauses.specs.Family.{atoms_at}
use Rattle.horn_clauses.specs.Obligations.{obligation_rows, obligation, obligations_of}

equality : Atom
equality = Linear (pos 1 ∷ negsuc 0 ∷ []) (pos 0) Eq

family : Family
family = record {
  nodes = (node place.Entry place.Entry, equality ∷ []) ∷ (node place.Exit place.Exit, False ∷ []) ∷ [];
}

at_entries : atoms_at family (node place.Entry place.Entry) ≡ Some (equality ∷ [])
unfolding family
at_entries = refl

at_exits : atoms_at family (node place.Exit place.Exit) ≡ Some (False ∷ [])
unfolding family
at_exits = refl

not_there : atoms_at family (node (place.Mark 7) place.Exit) ≡ None
unfolding family
not_there = refl

holds : AtomHolds equality (negsuc 4 ∷ negsuc 4 ∷ [])
unfolding equality
holds = refl

-- ---- obligations

-- from the entries to the exits, with the values 2 x and 2 y
doubling : Clause
doubling = record {
  from = node place.Entry place.Entry;
  rows = [];
  to = node place.Exit place.Exit;
  after = record { coefs = pos 2 ∷ pos 0 ∷ []; constant = pos 0 } ∷ record { coefs = pos 0 ∷ pos 2 ∷ []; constant = pos 0 } ∷ [];
}

-- x - y = 0, and -2 x + 2 y - 1 >= 0
lower : obligation_rows family doubling equality false
    ≡ record { coefs = pos 1 ∷ negsuc 0 ∷ []; constant = pos 0; equality = true }
    ∷ record { coefs = negsuc 1 ∷ pos 2 ∷ []; constant = negsuc 0; equality = false } ∷ []
unfolding family equality doubling
lower = refl

-- x - y = 0, and 2 x - 2 y - 1 >= 0
upper : obligation_rows family doubling equality true
    ≡ record { coefs = pos 1 ∷ negsuc 0 ∷ []; constant = pos 0; equality = true }
    ∷ record { coefs = pos 2 ∷ negsuc 1 ∷ []; constant = negsuc 0; equality = false } ∷ []
unfolding family equality doubling
upper = refl

-- x - y = 0 alone: `false` always fails
of_false : obligation_rows family doubling False false ≡ record { coefs = pos 1 ∷ negsuc 0 ∷ []; constant = pos 0; equality = true } ∷ []
unfolding family equality doubling
of_false = refl

-- from the exits, which are not met, to the entries, over x, y and an unknown z: the values x + z and y, where z >= 0
from_exits : Clause
from_exits = record {
  from = node place.Exit place.Exit;
  rows = record { coefs = pos 0 ∷ pos 0 ∷ pos 1 ∷ []; constant = pos 0; equality = false } ∷ [];
  to = node place.Entry place.Entry;
  after = record { coefs = pos 1 ∷ pos 0 ∷ pos 1 ∷ []; constant = pos 0 } ∷ record { coefs = pos 0 ∷ pos 1 ∷ pos 0 ∷ []; constant = pos 0 } ∷ [];
}

-- -1 >= 0, z >= 0, and -x + y - z + 4 >= 0: that the first value less the second is below 5
below_five : obligation_rows family from_exits (Linear (pos 1 ∷ negsuc 0 ∷ []) (pos 5) AtLeast) false
    ≡ record { coefs = pos 0 ∷ pos 0 ∷ pos 0 ∷ []; constant = negsuc 0; equality = false }
    ∷ record { coefs = pos 0 ∷ pos 0 ∷ pos 1 ∷ []; constant = pos 0; equality = false }
    ∷ record { coefs = negsuc 0 ∷ pos 1 ∷ negsuc 0 ∷ []; constant = pos 4; equality = false } ∷ []
unfolding family equality from_exits
below_five = refl

-- clause by clause, then atom by atom, and an equality's lower one first
in_order : obligations_of family (record { nodes = []; clauses = from_exits ∷ doubling ∷ [] })
    ≡ obligation from_exits equality false ∷ obligation from_exits equality true ∷ obligation doubling False false ∷ []
unfolding family equality doubling from_exits
in_order = refl
