-- What it means that multipliers make a row of the given rows.
use Rattle.std.specs.Prelude.{◌≡◌, ℕ, Bool, true, false, ℤ, pos, ◌≤ℤ◌, List, [], ◌∷◌}
use Rattle.lin_terms.specs.declared.row.Row.{Row}
use Rattle.lin_terms.specs.Vectors.{dot}
use Rattle.farkas_check.specs.Refutes.{column, constants}
use Rattle.elimination.specs.Combination.{Combination, entry}

-- The multiplier may be that of a given row: any number at an equality; at an inequality 0 where an equality is made,
-- and otherwise no negative number.
abbrev pub IsMadeSign : Bool → Bool → ℤ → Type 0
IsMadeSign made true m = Unit {0}
IsMadeSign true false m = m ≡ pos 0
IsMadeSign false false m = pos 0 ≤ℤ m

-- There are as many multipliers as given rows, and each may be that of its row.
abbrev pub AreMadeSigns : Bool → List Row → List ℤ → Type 0
AreMadeSigns made [] [] = Unit {0}
AreMadeSigns made [] (m ∷ ms) = ⊥
AreMadeSigns made (row ∷ rows) [] = ⊥
AreMadeSigns made (row ∷ rows) (m ∷ ms) = IsMadeSign made row.equality m × AreMadeSigns made rows ms

-- The row is the sum of the given rows, each times its multiplier: column by column, and in the constant.
pub record IsMade (given : List Row) (row : Combination) : Type 0 where
  pub columns : (j : ℕ) → dot row.multipliers (column j given) ≡ entry j row
  pub constant : dot row.multipliers (constants given) ≡ row.row.constant
  pub signs : AreMadeSigns row.row.equality given row.multipliers
