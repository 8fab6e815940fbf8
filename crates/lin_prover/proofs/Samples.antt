-- The definitions on small rows.
use Rattle.std.proofs.Common.{◌≡◌, ℕ, zero, suc, false, List, [], ◌∷◌, pos, negsuc, refl, arith, get_or}
use Rattle.std.specs.Prelude.{ℤ}
use Rattle.std.proofs.lemmas.Int.{ints}
use Rattle.lin_terms.specs.declared.row.Row.{Row}
use Rattle.lin_terms.specs.Row.{Meets}
use Rattle.lin_prover.specs.Settles.{IsMet, IsPointOf}
use Rattle.lin_prover.specs.Laws.{StandsAmong, behind_zeros}

-- `coefs · v + constant >= 0`
abbrev at_least : List ℤ → ℤ → Row
at_least coefs constant = record { coefs = coefs; constant = constant; equality = false }

-- ---- points

-- 1 over 2 meets 2x - 1 >= 0
half_meets : Meets (pos 1 ∷ []) (pos 2) (at_least (pos 2 ∷ []) (negsuc 0))
half_meets = omega (arith, ints)

-- 1 over 1 does not meet 1 - 2x >= 0
one_fails : IsMet (record { numbers = pos 1 ∷ []; denominator = pos 1 }) (at_least (negsuc 1 ∷ []) (pos 1)) → ⊥
one_fails met = met.meets.le

-- 0 over 0 is no point, not even of no rows, and -1 over -2 is none
nothing_over_nothing : IsPointOf [] (record { numbers = pos 0 ∷ []; denominator = pos 0 }) → ⊥
nothing_over_nothing point = point.positive.lt

negative_denominator : IsPointOf [] (record { numbers = negsuc 0 ∷ []; denominator = negsuc 1 }) → ⊥
negative_denominator point = point.positive.lt

-- ---- more rows

-- x >= 0 stands behind another row, where it has a second column
second_of_two : StandsAmong (at_least (pos 3 ∷ pos 4 ∷ []) (pos 0) ∷ at_least (pos 1 ∷ pos 0 ∷ []) (pos 0) ∷ []) (at_least (pos 1 ∷ []) (pos 0))
second_of_two = record {
  place = 1;
  found = at_least (pos 1 ∷ pos 0 ∷ []) (pos 0);
  stands = refl;
  alike = record { entries = same; constant = refl; equality = refl };
}
  where
    same : (j : ℕ) → get_or (pos 1 ∷ []) j (pos 0) ≡ get_or (pos 1 ∷ pos 0 ∷ []) j (pos 0)
    same zero = refl
    same (suc zero) = refl
    same (suc (suc j)) = refl

-- 5x + 7 >= 0 with two more variables in front
behind_two : behind_zeros 2 (at_least (pos 5 ∷ []) (pos 7)) ≡ at_least (pos 0 ∷ pos 0 ∷ pos 5 ∷ []) (pos 7)
behind_two = refl
