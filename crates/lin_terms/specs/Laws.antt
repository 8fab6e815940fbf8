-- Laws of the lists, divisors and signs that forms and rows are made of. Each is a clause of a call that does nothing.
use Rattle.std.specs.Prelude.{◌≡◌, ℕ, suc, ◌+◌, ◌<◌, ◌↔◌, drop, Bool, true, ℤ, pos, ◌+ℤ◌, ◌*ℤ◌, ◌≤ℤ◌, unsigned_abs, List, ◌++◌, length, map, replicate, slice_index_or, All, Some}
use Rattle.std.specs.List.{list_all}
use Prim.Native.Nat.{◌∣◌}
use Rattle.lin_terms.specs.declared.form.Form.{Form}
use Rattle.lin_terms.specs.declared.row.Row.{Row}
use Rattle.lin_terms.specs.Vectors.{dot, plus, scaled, only_at}
use Rattle.lin_terms.specs.Divisor.{gcd_with, gcd_of, DividesAll, floor_div}
use Rattle.lin_terms.specs.declared.sign.Sign.{Sign}
use Rattle.lin_terms.specs.Form.{value_at, sum_of, multiple_of, is_constant, constant_form, variable_form, composed}
use Rattle.lin_terms.specs.Sign.{HasSign, sign_row}
use Rattle.lin_terms.specs.Tight.{tight_of, HaveSameSolutions}
use Rattle.lin_terms.specs.Makes.{IsFittingForm, fitting}
use Rattle.lin_terms.specs.Row.{Holds, Meets, EntriesAreBelow, IsNoWider}

-- ---- sums of products

-- of a sum of lists: the sum
abbrev pub DotOfSum : Type 0
DotOfSum = (xs ys zs : List ℤ) → dot (plus xs ys) zs ≡ dot xs zs +ℤ dot ys zs

-- of multiples: the multiple
abbrev pub DotOfMultiple : Type 0
DotOfMultiple = (k : ℤ) (xs zs : List ℤ) → dot (scaled k xs) zs ≡ k *ℤ dot xs zs

-- of lists that are joined, the first of equal length: the sum
abbrev pub DotOfJoined : Type 0
DotOfJoined = (a b x y : List ℤ) → length a ≡ length x → dot (a ++ b) (x ++ y) ≡ dot a x +ℤ dot b y

-- of a list of which each entry is 0
abbrev pub DotOfZeros : Type 0
DotOfZeros = (xs values : List ℤ) → ((j : ℕ) → slice_index_or xs j (pos 0) ≡ pos 0) → dot xs values ≡ pos 0

-- of so many zeros
abbrev pub DotOfReplicated : Type 0
DotOfReplicated = (count : ℕ) (values : List ℤ) → dot (replicate count (pos 0)) values ≡ pos 0

-- of a list of which one entry alone may differ from 0
abbrev pub DotOfOne : Type 0
DotOfOne = (count i : ℕ) (entry : ℤ) (values : List ℤ) → i < count
    → dot (only_at count i entry) values ≡ entry *ℤ slice_index_or values i (pos 0)

-- from one place on: the product there, and those behind it
abbrev pub DotOfRest : Type 0
DotOfRest = (xs ys : List ℤ) (i : ℕ) → i < length xs
    → dot (drop i xs) (drop i ys)
    ≡ (slice_index_or xs i (pos 0) *ℤ slice_index_or ys i (pos 0)) +ℤ dot (drop (i + 1) xs) (drop (i + 1) ys)

-- ---- entries and lengths

-- an entry of a sum of lists; past the end of a list stand zeros
abbrev pub EntryOfSum : Type 0
EntryOfSum = (xs ys : List ℤ) (j : ℕ)
    → slice_index_or (plus xs ys) j (pos 0) ≡ slice_index_or xs j (pos 0) +ℤ slice_index_or ys j (pos 0)

-- an entry of the multiples
abbrev pub EntryOfMultiple : Type 0
EntryOfMultiple = (k : ℤ) (xs : List ℤ) (j : ℕ)
    → slice_index_or (scaled k xs) j (pos 0) ≡ k *ℤ slice_index_or xs j (pos 0)

-- an entry of so many zeros
abbrev pub EntryOfReplicated : Type 0
EntryOfReplicated = (count j : ℕ) → slice_index_or (replicate count (pos 0)) j (pos 0) ≡ pos 0

-- an entry of a list whose entries pass a test that only 0 passes
abbrev pub EntryOfZeros : Type 0
EntryOfZeros = (test : ℤ → Bool) → ((x : ℤ) → test x ≡ true → x ≡ pos 0) → (xs : List ℤ) → list_all test xs ≡ true
    → (j : ℕ) → slice_index_or xs j (pos 0) ≡ pos 0

-- the length of the sum of lists of one length
abbrev pub LengthOfSum : Type 0
LengthOfSum = (xs ys : List ℤ) → length xs ≡ length ys → length (plus xs ys) ≡ length xs

-- the length of the multiples
abbrev pub LengthOfMultiple : Type 0
LengthOfMultiple = (k : ℤ) (xs : List ℤ) → length (scaled k xs) ≡ length xs

-- ---- divisors and quotients

-- the greatest common divisor divides each entry
abbrev pub DivisorDivides : Type 0
DivisorDivides = (xs : List ℤ) → DividesAll (gcd_of xs) xs

-- it is below each number that all entries are below in size
abbrev pub DivisorIsBelow : Type 0
DivisorIsBelow = (bound : ℕ) (xs : List ℤ) → 0 < bound → All (λ x. unsigned_abs x < bound) xs → gcd_of xs < bound

-- that of lists that are joined, one list after the other
abbrev pub DivisorOfJoined : Type 0
DivisorOfJoined = (g : ℕ) (xs ys : List ℤ) → gcd_with g (xs ++ ys) ≡ gcd_with (gcd_with g xs) ys

-- lists with the same divisors have the same greatest one
abbrev pub SameDivisors : Type 0
SameDivisors = (xs ys : List ℤ) → ((d : ℕ) → DividesAll d xs → DividesAll d ys)
    → ((d : ℕ) → DividesAll d ys → DividesAll d xs)
    → gcd_of xs ≡ gcd_of ys

-- the quotient by a divisor is exact
abbrev pub QuotientIsExact : Type 0
QuotientIsExact = (n : ℕ) (x : ℤ) → suc n ∣ unsigned_abs x → pos (suc n) *ℤ floor_div x (suc n) ≡ x

-- the sum of products with the quotients, times the divisor
abbrev pub DotOfQuotients : Type 0
DotOfQuotients = (n : ℕ) (xs values : List ℤ) → DividesAll (suc n) xs
    → pos (suc n) *ℤ dot (map (λ x. floor_div x (suc n)) xs) values ≡ dot xs values

-- ---- signs

-- the sum of numbers that are not negative
abbrev pub SumIsNotNegative : Type 0
SumIsNotNegative = (a b : ℤ) → pos 0 ≤ℤ a → pos 0 ≤ℤ b → pos 0 ≤ℤ (a +ℤ b)

-- the product of numbers that are not negative
abbrev pub ProductIsNotNegative : Type 0
ProductIsNotNegative = (a b : ℤ) → pos 0 ≤ℤ a → pos 0 ≤ℤ b → pos 0 ≤ℤ (a *ℤ b)

-- where a positive number times another is 0, the other is 0
abbrev pub FactorIsZero : Type 0
FactorIsZero = (n : ℕ) (t : ℤ) → pos (suc n) *ℤ t ≡ pos 0 → t ≡ pos 0

-- ---- forms

-- a form that is made where it fits has entries below 2^50 in size
abbrev pub FittingFormsFit : Type 0
FittingFormsFit = (wanted form : Form) → fitting wanted ≡ Some form → IsFittingForm form

-- such a form is the one that is wanted
abbrev pub FittingFormsAreWanted : Type 0
FittingFormsAreWanted = (wanted form : Form) → fitting wanted ≡ Some form → form ≡ wanted

-- the form of a variable has entries below 2^50 in size
abbrev pub VariablesFit : Type 0
VariablesFit = (count x : ℕ) → x < count → IsFittingForm (variable_form count x)

-- the value of a sum
abbrev pub ValueOfSum : Type 0
ValueOfSum = (x y : Form) (values : List ℤ) → value_at (sum_of x y) values ≡ value_at x values +ℤ value_at y values

-- the value of a multiple
abbrev pub ValueOfMultiple : Type 0
ValueOfMultiple = (k : ℤ) (form : Form) (values : List ℤ)
    → value_at (multiple_of k form) values ≡ k *ℤ value_at form values

-- the value of a form without variables
abbrev pub ValueOfConstant : Type 0
ValueOfConstant = (form : Form) (values : List ℤ) → is_constant form ≡ true → value_at form values ≡ form.constant

-- the value of the form that is made of a constant
abbrev pub ValueOfConstantForm : Type 0
ValueOfConstantForm = (count : ℕ) (value : ℤ) (values : List ℤ) → value_at (constant_form count value) values ≡ value

-- the value of the form that is a variable
abbrev pub ValueOfVariableForm : Type 0
ValueOfVariableForm = (count x : ℕ) (values : List ℤ) → x < count
    → value_at (variable_form count x) values ≡ slice_index_or values x (pos 0)

-- the value of a form over forms, whatever the sizes are
abbrev pub ValueOfComposed : Type 0
ValueOfComposed = (columns : ℕ) (form : Form) (at : List Form) (values : List ℤ)
    → value_at (composed columns form at) values ≡ value_at form (map (λ other. value_at other values) at)

-- ---- rows

-- whole numbers are fractions with the denominator 1
abbrev pub WholeNumbersAreFractions : Type 0
WholeNumbersAreFractions = (values : List ℤ) (row : Row) → Holds values row ↔ Meets values (pos 1) row

-- a row that is no wider than another is below each bound that the other is below
abbrev pub NoWiderIsBelow : Type 0
NoWiderIsBelow = (first second : Row) (bound : ℕ) → 0 < bound → IsNoWider first second
    → length first.coefs ≡ length second.coefs
    → EntriesAreBelow bound second → EntriesAreBelow bound first

-- the row that says that a form has a sign holds exactly where its value has the sign
abbrev pub SignRowsHold : Type 0
SignRowsHold = (sign : Sign) (form : Form) (values : List ℤ)
    → Holds values (sign_row sign form) ↔ HasSign sign (value_at form values)

-- the same whole numbers meet a row and the tight one
abbrev pub TightRowsAreSame : Type 0
TightRowsAreSame = (row : Row) → HaveSameSolutions (tight_of row) row

-- the tight row has as many columns
abbrev pub TightRowsKeepColumns : Type 0
TightRowsKeepColumns = (row : Row) → length (tight_of row).coefs ≡ length row.coefs
