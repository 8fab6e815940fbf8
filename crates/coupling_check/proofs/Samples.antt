-- The definitions on a clause that doubles two values, which are equal before it.
use Rattle.std.proofs.Common.{◌≡◌, ℕ, zero, suc, true, false, lit<, [], ◌∷◌, pos, negsuc, refl, arith}
use Rattle.std.proofs.lemmas.Int.{ints}
use Rattle.std.proofs.lemmas.List.Elements.{All-from_recursion}
use Rattle.c_ast.specs.declared.place.Place.TheVariants as place
use Rattle.lin_terms.specs.Bounds.{FitsRow}
use Rattle.lin_terms.specs.Vectors.{dot}
use Rattle.farkas_check.specs.Refutes.{column}
use Rattle.horn_clauses.specs.declared.atom.Atom.{Atom}
use Rattle.horn_clauses.specs.declared.atom.Atom.TheVariants.{False, Linear}
use Rattle.horn_clauses.specs.declared.atom.Rel.TheVariants.{Eq}
use Rattle.horn_clauses.specs.declared.clause.Clause.{Clause}
use Rattle.horn_clauses.specs.declared.family.Family.{Family}
use Rattle.horn_clauses.specs.Node.{node}
use Rattle.horn_clauses.specs.Obligations.{obligation, rows_of}
use Rattle.coupling_check.specs.Told.{coefs_in, told_rows}
use Rattle.coupling_check.specs.Checks.{IsProvedBy, AreProved, FailsAt}

equality : Atom
equality = Linear (pos 1 ∷ negsuc 0 ∷ []) (pos 0) Eq

family : Family
family = record {
  nodes = (node place.Entry place.Entry, equality ∷ []) ∷ (node place.Exit place.Exit, equality ∷ []) ∷ [];
}

doubling : Clause
doubling = record {
  from = node place.Entry place.Entry;
  rows = [];
  to = node place.Exit place.Exit;
  after = record { coefs = pos 2 ∷ pos 0 ∷ []; constant = pos 0 } ∷ record { coefs = pos 0 ∷ pos 2 ∷ []; constant = pos 0 } ∷ [];
}

-- ---- the rows

-- x - y = 0, and -2 x + 2 y - 1 >= 0
told : told_rows 2 (equality ∷ []) doubling equality false
    ≡ record { coefs = pos 1 ∷ negsuc 0 ∷ []; constant = pos 0; equality = true }
    ∷ record { coefs = negsuc 1 ∷ pos 2 ∷ []; constant = negsuc 0; equality = false } ∷ []
unfolding equality doubling
told = refl

-- a start that is not met: -1 >= 0
never_told : told_rows 2 (False ∷ []) doubling False false ≡ record { coefs = pos 0 ∷ pos 0 ∷ []; constant = negsuc 0; equality = false } ∷ []
unfolding doubling
never_told = refl

coefs_in_false : coefs_in False ≡ []
coefs_in_false = refl

-- ---- the lists

-- 2 (x - y) and -2 x + 2 y - 1 add up to -1
proved : IsProvedBy (rows_of family (obligation doubling equality false)) (pos 2 ∷ pos 1 ∷ [])
unfolding family equality doubling
proved = record {
  many = omega arith;
  fit = All-from_recursion FitsRow (pos 2 ∷ pos 1 ∷ []) (lit< tt, (lit< tt, tt));
  refutes = record {
    signs = (tt, (omega (arith, ints), tt));
    no_variable = zeros;
    negative_constant = omega (arith, ints);
  };
}
  where
    zeros : (j : ℕ) → dot (pos 2 ∷ pos 1 ∷ []) (column j (rows_of family (obligation doubling equality false))) ≡ pos 0
    zeros zero = refl
    zeros (suc zero) = refl
    zeros (suc (suc j)) = refl

-- an obligation without a list
one_short : AreProved family (obligation doubling equality false ∷ []) [] → ⊥
one_short none = none

-- a list without an obligation
one_too_many : AreProved family [] ((pos 5 ∷ []) ∷ [])
one_too_many = tt

-- each list goes to the obligation at its place
in_order : AreProved family (obligation doubling equality false ∷ []) ((pos 2 ∷ pos 1 ∷ []) ∷ (pos 5 ∷ []) ∷ [])
in_order = (proved, tt)

-- the first obligation is proved, and there is no list for the second
second_fails : FailsAt family (obligation doubling equality false ∷ obligation doubling equality true ∷ []) ((pos 2 ∷ pos 1 ∷ []) ∷ []) 1
second_fails = record { inside = omega arith; proved = (proved, tt); fails = λ all. all.1 }
