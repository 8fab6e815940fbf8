-- Rows that are sums of multiples of given rows, with their multipliers.
use Rattle.std.specs.Prelude.{ℕ, zero, suc, Bool, true, false, ℤ, pos, negsuc, ◌+ℤ◌, ◌*ℤ◌, unsigned_abs, List, slice_index_or}
use Rattle.lin_terms.specs.declared.row.Row.{Row}
use Rattle.lin_terms.specs.Vectors.{plus, scaled}

-- a row, with a multiplier for each given row: the given rows, each times its multiplier, add up to the row
pub record Combination : Type 0 where
  pub row : Row
  pub multipliers : List ℤ

-- the combination of these parts
abbrev pub combination_of : List ℤ → ℤ → Bool → List ℤ → Combination
combination_of coefs constant equality multipliers = record {
  row = record { coefs = coefs; constant = constant; equality = equality };
  multipliers = multipliers;
}

-- the coefficient in column j, and 0 past the last column
abbrev pub entry : ℕ → Combination → ℤ
entry j combination = slice_index_or combination.row.coefs j (pos 0)

-- `z = 0`
abbrev pub is_zero : ℤ → Bool
is_zero (pos zero) = true
is_zero (pos (suc n)) = false
is_zero (negsuc n) = false

-- `z > 0`
abbrev pub is_positive : ℤ → Bool
is_positive (pos zero) = false
is_positive (pos (suc n)) = true
is_positive (negsuc n) = false

-- `z < 0`
abbrev pub is_negative : ℤ → Bool
is_negative (pos n) = false
is_negative (negsuc n) = true

-- 1, 0 or -1
abbrev pub sign : ℤ → ℤ
sign (pos zero) = pos 0
sign (pos (suc n)) = pos 1
sign (negsuc n) = negsuc 0

-- `|z|`
abbrev pub size : ℤ → ℤ
size z = pos (unsigned_abs z)

-- k times the first and l times the second, of the first one's kind
abbrev pub combined : ℤ → Combination → ℤ → Combination → Combination
combined k first l second = record {
  row = record {
    coefs = plus (scaled k first.row.coefs) (scaled l second.row.coefs);
    constant = (k *ℤ first.row.constant) +ℤ (l *ℤ second.row.constant);
    equality = first.row.equality;
  };
  multipliers = plus (scaled k first.multipliers) (scaled l second.multipliers);
}
