-- Rows: what they say of whole numbers and of fractions, the sizes of their entries, and the shapes of lists of rows.
use Rattle.std.specs.Prelude.{◌≡◌, ℕ, ◌≤◌, ◌<◌, Bool, true, false, ℤ, pos, ◌+ℤ◌, ◌*ℤ◌, ◌≤ℤ◌, ◌<ℤ◌, ◌↔◌, IsTrue, unsigned_abs, List, [], ◌∷◌, length, slice_index_or, All}
use Rattle.lin_terms.specs.declared.row.Row.{Row}
use Rattle.lin_terms.specs.Bounds.{FitsRow}
use Rattle.lin_terms.specs.Form.{are_zeros}
use Rattle.lin_terms.specs.Vectors.{dot}

-- what a row asks of the value of `coefs · v + constant`: to be 0 at an equality, to be at least 0 at another row
abbrev pub Allows : Bool → ℤ → Type 0
Allows true value = value ≡ pos 0
Allows false value = pos 0 ≤ℤ value

-- The row holds where the variables have these values, by number.
abbrev pub Holds : List ℤ → Row → Type 0
Holds values row = Allows row.equality (dot row.coefs values +ℤ row.constant)

-- The row holds where the variables are these numbers over the denominator, which is positive.
abbrev pub Meets : List ℤ → ℤ → Row → Type 0
Meets numbers denominator row = Allows row.equality (dot row.coefs numbers +ℤ (row.constant *ℤ denominator))

-- No whole numbers meet all rows.
abbrev pub HasNoIntegerPoint : List Row → Type 0
HasNoIntegerPoint rows = (values : List ℤ) → ¬ All (Holds values) rows

-- Some fractions meet all rows: these numbers over one positive denominator.
pub record HasPoint (rows : List Row) : Type 0 where
  pub numbers : List ℤ
  pub denominator : ℤ
  pub positive : pos 0 <ℤ denominator
  pub meets : All (Meets numbers denominator) rows

-- No fractions meet all rows: no numbers over one positive denominator.
abbrev pub HasNoPoint : List Row → Type 0
HasNoPoint rows = (numbers : List ℤ) (denominator : ℤ) → pos 0 <ℤ denominator → ¬ All (Meets numbers denominator) rows

-- Each entry of the row is below the bound in size.
pub record EntriesAreBelow (bound : ℕ) (row : Row) : Type 0 where
  pub coefs : All (λ entry. unsigned_abs entry < bound) row.coefs
  pub constant : unsigned_abs row.constant < bound

-- Each entry of the row is below 2^56 in size.
pub record IsFittingRow (row : Row) : Type 0 where
  pub coefs : All FitsRow row.coefs
  pub constant : FitsRow row.constant

-- No entry of the first row is greater in size than the one at its place in the second.
pub record IsNoWider (first second : Row) : Type 0 where
  pub coefs : (j : ℕ)
      → unsigned_abs (slice_index_or first.coefs j (pos 0)) ≤ unsigned_abs (slice_index_or second.coefs j (pos 0))
  pub constant : unsigned_abs first.constant ≤ unsigned_abs second.constant

-- No variable stands in the row, and the answer says whether the row holds, whatever the values are.
pub record IsDecided (row : Row) (answer : Bool) : Type 0 where
  pub no_variable : are_zeros row.coefs ≡ true
  pub truth : (values : List ℤ) → IsTrue answer ↔ Holds values row

-- how many columns the rows have: as many as the first
abbrev pub columns_of : List Row → ℕ
columns_of [] = 0
columns_of (first ∷ others) = length first.coefs

-- All rows have the same number of columns.
abbrev pub HaveOneLength : List Row → Type 0
HaveOneLength rows = All (λ row. length row.coefs ≡ columns_of rows) rows
