-- The bounds of numbers: 2^50 for the entries of forms, 2^56 for the entries of rows and for multipliers.
use Rattle.std.specs.Prelude.{ℤ, ◌^◌, ◌<◌, Bool, nat_lt, unsigned_abs, List}
use Rattle.std.specs.List.{list_all}

-- Whether the number is below 2^50 in size, as the entries of forms are.
abbrev pub fits_form : ℤ → Bool
fits_form entry = nat_lt (unsigned_abs entry) (2 ^ 50)

-- Whether each of the numbers is below 2^50 in size.
abbrev pub fit_form : List ℤ → Bool
fit_form = list_all fits_form

-- The number is below 2^50 in size, as the entries of forms are.
abbrev pub FitsForm : ℤ → Type 0
FitsForm entry = unsigned_abs entry < 2 ^ 50

-- The number is below 2^56 in size, as the entries of rows and multipliers are.
abbrev pub FitsRow : ℤ → Type 0
FitsRow entry = unsigned_abs entry < 2 ^ 56
