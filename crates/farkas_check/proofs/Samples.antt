-- The definitions on small lists of rows.
use Rattle.std.proofs.Common.{◌≡◌, ℕ, zero, suc, true, false, [], ◌∷◌, pos, negsuc, refl, arith}
use Rattle.std.proofs.lemmas.Int.{ints}
use Rattle.lin_terms.specs.declared.row.Row.{Row}
use Rattle.lin_terms.specs.Vectors.{dot}
use Rattle.farkas_check.specs.Refutes.{column, Refutes}

-- x - 1 >= 0
above : Row
above = record { coefs = pos 1 ∷ []; constant = negsuc 0; equality = false }

-- -x >= 0
below : Row
below = record { coefs = negsuc 0 ∷ []; constant = pos 0; equality = false }

-- x + 1 = 0
negative : Row
negative = record { coefs = pos 1 ∷ []; constant = pos 1; equality = true }

-- 2 (x - 1) + 2 (-x) is -2
doubled : Refutes (above ∷ below ∷ []) (pos 2 ∷ pos 2 ∷ [])
unfolding above below
doubled = record {
  signs = (omega (arith, ints), (omega (arith, ints), tt));
  no_variable = zeros;
  negative_constant = omega (arith, ints);
}
  where
    zeros : (j : ℕ) → dot (pos 2 ∷ pos 2 ∷ []) (column j (above ∷ below ∷ [])) ≡ pos 0
    zeros zero = refl
    zeros (suc j) = refl

-- (x - 1) - (x + 1) is -2, and an equality may have the multiplier -1
of_an_equality : Refutes (above ∷ negative ∷ []) (pos 1 ∷ negsuc 0 ∷ [])
unfolding above negative
of_an_equality = record {
  signs = (omega (arith, ints), (tt, tt));
  no_variable = zeros;
  negative_constant = omega (arith, ints);
}
  where
    zeros : (j : ℕ) → dot (pos 1 ∷ negsuc 0 ∷ []) (column j (above ∷ negative ∷ [])) ≡ pos 0
    zeros zero = refl
    zeros (suc j) = refl

-- no rows are not refuted
of_nothing : Refutes [] [] → ⊥
of_nothing refuted = refuted.negative_constant.le

-- x - 1 >= 0 may not have the multiplier -1
of_a_negative_multiplier : Refutes (below ∷ above ∷ []) (negsuc 0 ∷ negsuc 0 ∷ []) → ⊥
unfolding above below
of_a_negative_multiplier refuted = refuted.signs.0.le

-- a multiplier is missing
of_too_few : Refutes (above ∷ below ∷ []) (pos 1 ∷ []) → ⊥
of_too_few refuted = refuted.signs.1
