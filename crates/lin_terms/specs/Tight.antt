-- Tight rows: the coefficients have no common divisor, and the constant is as small as whole numbers allow.
use Rattle.std.specs.Prelude.{ℕ, zero, suc, ◌%◌, ◌==◌, Bool, false, ◌&&◌, not, if◌then◌else◌, ◌↔◌, ℤ, pos, negsuc, unsigned_abs, List, length, map, replicate}
use Rattle.lin_terms.specs.declared.row.Row.{Row}
use Rattle.lin_terms.specs.Divisor.{gcd_of, floor_div}
use Rattle.lin_terms.specs.Row.{Holds}

-- the row `-1 >= 0`, over this many columns
abbrev pub never_row : ℕ → Row
never_row columns = record { coefs = replicate columns (pos 0); constant = negsuc 0; equality = false }

-- the row over a divisor of its coefficients, its constant rounded down
abbrev pub divided_row : ℕ → Row → Row
divided_row divisor row = record {
  coefs = map (λ x. floor_div x divisor) row.coefs;
  constant = floor_div row.constant divisor;
  equality = row.equality;
}

-- Whether it is an equality whose constant the divisor of its coefficients does not divide: no whole numbers meet it.
abbrev pub is_unsolvable : ℕ → Row → Bool
is_unsolvable divisor row = row.equality && not (unsigned_abs row.constant % divisor == 0)

-- the tight row, given the greatest common divisor of the coefficients; a row without variables stays
abbrev pub tight_by : ℕ → Row → Row
tight_by zero row = row
tight_by (suc n) row = if is_unsolvable (suc n) row then never_row (length row.coefs) else divided_row (suc n) row

-- the tight row with the same solutions in whole numbers
abbrev pub tight_of : Row → Row
tight_of row = tight_by (gcd_of row.coefs) row

-- The same whole numbers meet both rows.
abbrev pub HaveSameSolutions : Row → Row → Type 0
HaveSameSolutions first second = (values : List ℤ) → Holds values first ↔ Holds values second
