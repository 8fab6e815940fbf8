-- Division by a whole number (ISO C11, 6.5.5, paragraphs 5 and 6): the quotient is truncated toward zero.
use Rattle.std.specs.Prelude.{◌≡◌, ◌↔◌, ℕ, ◌/◌, ◌<◌, ◌≤◌, ℤ, pos, ◌+ℤ◌, ◌-ℤ◌, ◌*ℤ◌, ◌≤ℤ◌, unsigned_abs}
use Rattle.c_ast.specs.declared.expr.BinOp.TheVariants.{Div, Rem}
use Rattle.c_ast.specs.Value.{binary_value}

-- The quotient of a value and a divisor: in size it is that of the value over the divisor, rounded down. It is at least
-- 0 where the value is, and at most 0 where that is.
pub record IsQuotient (value : ℤ) (divisor : ℕ) (quotient : ℤ) : Type 0 where
  pub size : unsigned_abs quotient ≡ unsigned_abs value / divisor
  pub not_negative : pos 0 ≤ℤ value → pos 0 ≤ℤ quotient
  pub not_positive : value ≤ℤ pos 0 → quotient ≤ℤ pos 0

-- The quotient times the divisor, and what is left, make the value. What is left is smaller than the divisor, and on
-- the value's side of 0.
pub record IsDivided (value : ℤ) (divisor : ℕ) (quotient remainder : ℤ) : Type 0 where
  pub whole : (quotient *ℤ pos divisor) +ℤ remainder ≡ value
  pub small : unsigned_abs remainder < divisor
  pub not_negative : pos 0 ≤ℤ value → pos 0 ≤ℤ remainder
  pub not_positive : value ≤ℤ pos 0 → remainder ≤ℤ pos 0

-- The value of `/` is the quotient, and nothing else is.
abbrev pub LawOfQuotients : Type 0
LawOfQuotients = (value : ℤ) (divisor : ℕ) (quotient : ℤ) → 1 ≤ divisor
    → (IsQuotient value divisor quotient ↔ (quotient ≡ binary_value Div value (pos divisor)))

-- The values of `/` and `%` divide the value, and no others do.
abbrev pub LawOfDivision : Type 0
LawOfDivision = (value : ℤ) (divisor : ℕ) (quotient remainder : ℤ) → 1 ≤ divisor
    → (IsDivided value divisor quotient remainder
    ↔ ((quotient ≡ binary_value Div value (pos divisor)) × (remainder ≡ binary_value Rem value (pos divisor))))

-- The value of `%` is what is left when the quotient times the divisor is taken away.
abbrev pub LawOfRemainders : Type 0
LawOfRemainders = (value : ℤ) (divisor : ℕ) → 1 ≤ divisor
    → binary_value Rem value (pos divisor) ≡ value -ℤ (pos divisor *ℤ binary_value Div value (pos divisor))
