-- The definitions on small lists of rows.
use Rattle.std.proofs.Common.{◌≡◌, ◌-◌, ◌^◌, true, false, List, [], ◌∷◌, pos, negsuc, refl, Some, None, Ok, Err}
use Rattle.std.specs.Prelude.{ℤ}
use Rattle.lin_terms.specs.declared.row.Row.{Row}
use Rattle.lin_terms.specs.Divisor.{gcd_steps}
use Rattle.elimination.specs.declared.answer.Answer.TheVariants.{Refuted, NotRefutable}
use Rattle.elimination.specs.declared.answer.Limit.TheVariants.{WideRow, ManyRows}
use Rattle.elimination.specs.Combination.{Combination}
use Rattle.elimination.specs.Column.{projected}
use Rattle.elimination.specs.Joining.{primitive, list_of}
use Rattle.elimination.specs.Indexed.{has_coefs, noted}
use Rattle.elimination.specs.Eliminated.{initial, eliminated}

-- `coefs · v + constant >= 0`
abbrev at_least : List ℤ → ℤ → Row
at_least coefs constant = record { coefs = coefs; constant = constant; equality = false }

-- `coefs · v + constant = 0`
abbrev equal : List ℤ → ℤ → Row
equal coefs constant = record { coefs = coefs; constant = constant; equality = true }

-- ---- all columns

-- x - 1 >= 0 and -x >= 0
apart : List Row
apart = at_least (pos 1 ∷ []) (negsuc 0) ∷ at_least (negsuc 0 ∷ []) (pos 0) ∷ []

apart_are_refuted : eliminated apart 4 ≡ Ok (Refuted (pos 1 ∷ pos 1 ∷ []))
unfolding apart gcd_steps
apart_are_refuted = refl

-- two rows are not too many for a cap of 2, and are for a cap of 1
apart_at_the_cap : eliminated apart 2 ≡ Ok (Refuted (pos 1 ∷ pos 1 ∷ []))
unfolding apart gcd_steps
apart_at_the_cap = refl

apart_are_many : eliminated apart 1 ≡ Err ManyRows
unfolding apart gcd_steps
apart_are_many = refl

nothing : eliminated [] 4 ≡ Ok NotRefutable
nothing = refl

-- 2x - 1 >= 0 and 1 - 2x >= 0: no whole number, but 1/2
between : List Row
between = at_least (pos 2 ∷ []) (negsuc 0) ∷ at_least (negsuc 1 ∷ []) (pos 1) ∷ []

between_has_a_point : eliminated between 4 ≡ Ok NotRefutable
unfolding between gcd_steps
between_has_a_point = refl

-- 2x - 1 >= 0 and -2x >= 0: twice their sum is -2, which is divided by 2
doubled : List Row
doubled = at_least (pos 2 ∷ []) (negsuc 0) ∷ at_least (negsuc 1 ∷ []) (pos 0) ∷ []

doubled_are_refuted : eliminated doubled 4 ≡ Ok (Refuted (pos 1 ∷ pos 1 ∷ []))
unfolding doubled gcd_steps
doubled_are_refuted = refl

-- -x + 2 = 0 and -x + 1 >= 0: the second less the first
by_an_equality : List Row
by_an_equality = equal (negsuc 0 ∷ []) (pos 2) ∷ at_least (negsuc 0 ∷ []) (pos 1) ∷ []

an_equality_refutes : eliminated by_an_equality 4 ≡ Ok (Refuted (negsuc 0 ∷ pos 1 ∷ []))
unfolding by_an_equality gcd_steps
an_equality_refutes = refl

-- x - y = 0, y - 3 >= 0 and 2 - x >= 0
along_two_columns : List Row
along_two_columns =
    equal (pos 1 ∷ negsuc 0 ∷ []) (pos 0) ∷ at_least (pos 0 ∷ pos 1 ∷ []) (negsuc 2) ∷ at_least (negsuc 0 ∷ pos 0 ∷ []) (pos 2) ∷ []

two_columns_refute : eliminated along_two_columns 4 ≡ Ok (Refuted (pos 1 ∷ pos 1 ∷ pos 1 ∷ []))
unfolding along_two_columns gcd_steps
two_columns_refute = refl

-- 5 = 0 and -5 = 0 do not hold, and -3 = 0 with either sign; 5 >= 0 holds
positive_constant : eliminated (equal (pos 0 ∷ []) (pos 5) ∷ []) 4 ≡ Ok (Refuted (negsuc 0 ∷ []))
unfolding gcd_steps
positive_constant = refl

negative_constant : eliminated (equal (pos 0 ∷ []) (negsuc 4) ∷ []) 4 ≡ Ok (Refuted (pos 1 ∷ []))
unfolding gcd_steps
negative_constant = refl

holding_constant : eliminated (at_least (pos 0 ∷ []) (pos 5) ∷ at_least [] (pos 0) ∷ equal [] (pos 0) ∷ []) 0 ≡ Ok NotRefutable
unfolding gcd_steps
holding_constant = refl

-- 2^56 x >= 0 is wide, and one less is not
wide : eliminated (at_least (pos (2 ^ 56) ∷ []) (pos 0) ∷ []) 4 ≡ Err WideRow
unfolding gcd_steps
wide = refl

almost_wide : eliminated (at_least (negsuc (2 ^ 56 - 2) ∷ []) (pos 0) ∷ []) 4 ≡ Ok NotRefutable
unfolding gcd_steps
almost_wide = refl

-- ---- joining

-- the numbers of a row are divided by 3 together, and the multipliers keep a row from being divided
threefold : primitive (record { row = at_least (pos 3 ∷ negsuc 5 ∷ []) (pos 9); multipliers = pos 3 ∷ pos 0 ∷ [] })
    ≡ record { row = at_least (pos 1 ∷ negsuc 1 ∷ []) (pos 3); multipliers = pos 1 ∷ pos 0 ∷ [] }
unfolding gcd_steps
threefold = refl

undivided : primitive (record { row = at_least (pos 3 ∷ negsuc 5 ∷ []) (pos 9); multipliers = pos 2 ∷ pos 0 ∷ [] })
    ≡ record { row = at_least (pos 3 ∷ negsuc 5 ∷ []) (pos 9); multipliers = pos 2 ∷ pos 0 ∷ [] }
unfolding gcd_steps
undivided = refl

-- x >= 0, y >= 0, x - 1 >= 0, x >= 0 and x = 0: the third takes the first one's place, and the equality joins all the same
parallel : List Row
parallel =
    at_least (pos 1 ∷ pos 0 ∷ []) (pos 0) ∷ at_least (pos 0 ∷ pos 1 ∷ []) (pos 0) ∷ at_least (pos 1 ∷ pos 0 ∷ []) (negsuc 0)
    ∷ at_least (pos 1 ∷ pos 0 ∷ []) (pos 0) ∷ equal (pos 1 ∷ pos 0 ∷ []) (pos 0) ∷ []

one_of_parallel_rows : list_of 3 (initial 0 parallel) ≡ Ok (
    record { row = at_least (pos 1 ∷ pos 0 ∷ []) (negsuc 0); multipliers = pos 0 ∷ pos 0 ∷ pos 1 ∷ pos 0 ∷ pos 0 ∷ [] }
    ∷ record { row = at_least (pos 0 ∷ pos 1 ∷ []) (pos 0); multipliers = pos 0 ∷ pos 1 ∷ pos 0 ∷ pos 0 ∷ pos 0 ∷ [] }
    ∷ record { row = equal (pos 1 ∷ pos 0 ∷ []) (pos 0); multipliers = pos 0 ∷ pos 0 ∷ pos 0 ∷ pos 0 ∷ pos 1 ∷ [] }
    ∷ [])
unfolding parallel gcd_steps
one_of_parallel_rows = refl

-- ---- one column

-- x + 1 >= 0, y >= 0, 2x >= 0 and -3x + 5 >= 0: first the row without x, then both lower bounds with the upper one
bounds : List Combination
bounds =
    record { row = at_least (pos 1 ∷ pos 0 ∷ []) (pos 1); multipliers = pos 1 ∷ [] }
    ∷ record { row = at_least (pos 0 ∷ pos 1 ∷ []) (pos 0); multipliers = pos 2 ∷ [] }
    ∷ record { row = at_least (pos 2 ∷ pos 0 ∷ []) (pos 0); multipliers = pos 3 ∷ [] }
    ∷ record { row = at_least (negsuc 2 ∷ pos 0 ∷ []) (pos 5); multipliers = pos 4 ∷ [] }
    ∷ []

pairs_in_order : projected 0 bounds ≡
    record { row = at_least (pos 0 ∷ pos 1 ∷ []) (pos 0); multipliers = pos 2 ∷ [] }
    ∷ record { row = at_least (pos 0 ∷ pos 0 ∷ []) (pos 8); multipliers = pos 7 ∷ [] }
    ∷ record { row = at_least (pos 0 ∷ pos 0 ∷ []) (pos 10); multipliers = pos 17 ∷ [] }
    ∷ []
unfolding bounds
pairs_in_order = refl

-- y >= 0, -2x + 1 = 0, x = 0 and 3x - 1 >= 0: the first equality is used, and the second loses x too
equalities : List Combination
equalities =
    record { row = at_least (pos 0 ∷ pos 1 ∷ []) (pos 0); multipliers = pos 1 ∷ [] }
    ∷ record { row = equal (negsuc 1 ∷ pos 0 ∷ []) (pos 1); multipliers = pos 2 ∷ [] }
    ∷ record { row = equal (pos 1 ∷ pos 0 ∷ []) (pos 0); multipliers = pos 3 ∷ [] }
    ∷ record { row = at_least (pos 3 ∷ pos 0 ∷ []) (negsuc 0); multipliers = pos 4 ∷ [] }
    ∷ []

first_equality : projected 0 equalities ≡
    record { row = at_least (pos 0 ∷ pos 1 ∷ []) (pos 0); multipliers = pos 1 ∷ [] }
    ∷ record { row = equal (pos 0 ∷ pos 0 ∷ []) (pos 1); multipliers = pos 8 ∷ [] }
    ∷ record { row = at_least (pos 0 ∷ pos 0 ∷ []) (pos 1); multipliers = pos 14 ∷ [] }
    ∷ []
unfolding equalities
first_equality = refl

-- ---- parallel rows

-- an inequality has its own coefficients, and no others
own_coefs : has_coefs (pos 1 ∷ negsuc 1 ∷ []) (record { row = at_least (pos 1 ∷ negsuc 1 ∷ []) (pos 7); multipliers = [] }) ≡ true
own_coefs = refl

other_coefs : has_coefs (pos 1 ∷ pos 2 ∷ []) (record { row = at_least (pos 1 ∷ negsuc 1 ∷ []) (pos 7); multipliers = [] }) ≡ false
other_coefs = refl

-- an equality has none
no_coefs : has_coefs (pos 1 ∷ []) (record { row = equal (pos 1 ∷ []) (pos 7); multipliers = [] }) ≡ false
no_coefs = refl

-- a place in front is not noted, and the first behind is
in_front : noted (pos 1 ∷ []) 31 (pos 1 ∷ []) None ≡ None
in_front = refl

first_behind : noted (pos 1 ∷ []) 32 (pos 1 ∷ []) None ≡ Some 32
first_behind = refl

others_stay : noted (pos 1 ∷ []) 40 (pos 2 ∷ []) (Some 33) ≡ Some 33
others_stay = refl
