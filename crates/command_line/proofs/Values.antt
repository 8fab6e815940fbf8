-- A value's word, by `parse` and by `value_of`.
use Rattle.std.proofs.Common.{◌≡◌, ◌<◌, ◌&&◌, ℕ, Bool, true, false, List, [], ◌∷◌, length, Some, None, Ok, Err, refl, sym, ap, ◌∙◌, ◌==◌, ◌≢◌, subst, arith, true≢false, nat_lt, nat_le}
use Rattle.std.specs.Prelude.{Result, OkIff, Decides, if◌then◌else◌}
use Rattle.std.specs.Char.{digit_value}
use Rattle.std.specs.List.{list_all}
use Rattle.std.specs.Result.{result_ok}
use Rattle.std.specs.Str.Parse.{AllDigits, IsNumeral, digits_value, without_leading_plus, ParsesUnsigned}
use Rattle.std.proofs.lemmas.Bool.Decides.{nat_tests, Decides-and, Decides-ltb}
use Rattle.command_line.specs.CommandLine.{Writes, HasNoDash}
use Rattle.command_line.specs.ConditionText.{IsConditionText}
use Rattle.command_line.specs.Read.{is_numeral, value_of, is_condition, begins_with_dash}

-- ---- the tests decide

all_digits : (digits : List ℕ) → Decides (list_all (λ c. nat_lt (digit_value c) 10) digits) (AllDigits 10 digits)
all_digits [] = (λ _. tt, λ _. refl)
all_digits (digit ∷ digits) =
    Decides-and (nat_lt (digit_value digit) 10) (list_all (λ c. nat_lt (digit_value c) 10) digits)
    (Decides-ltb (digit_value digit) 10) (all_digits digits)

numeral : (digits : List ℕ) → Decides (is_numeral digits) (IsNumeral 10 digits)
numeral digits =
    Decides-and (nat_lt 0 (length digits)) (list_all (λ c. nat_lt (digit_value c) 10) digits) (Decides-ltb 0 (length digits)) (all_digits digits)

fits : (digits : List ℕ)
    → Decides (is_numeral digits && nat_lt (digits_value 10 digits) 18446744073709551616)
    (IsNumeral 10 digits × (digits_value 10 digits < 18446744073709551616))
fits digits =
    Decides-and (is_numeral digits) (nat_lt (digits_value 10 digits) 18446744073709551616) (numeral digits)
    (Decides-ltb (digits_value 10 digits) 18446744073709551616)

-- ---- a number where a test says so

by_result : {E Fact : Type 0} (test : Bool) (number : ℕ) (parsed : Result ℕ E) → Decides test Fact → OkIff parsed Fact number
    → result_ok parsed ≡ (if test then Some number else None)
by_result true number (Ok x) decides is = ap Some is.1
by_result false number (Ok x) decides is = absurd (true≢false (sym (decides.1 is.0)))
by_result true number (Err e) decides is = absurd (is (decides.0 refl))
by_result false number (Err e) decides is = refl

pub parsed_value : {E : Type 0} (word : List ℕ) (parsed : Result ℕ E) → ParsesUnsigned 64 10 word parsed → result_ok parsed ≡ value_of word
parsed_value word parsed is =
    let digits = without_leading_plus word in
    by_result (is_numeral digits && nat_lt (digits_value 10 digits) 18446744073709551616) (digits_value 10 digits) parsed (fits digits) is

some_by : {Fact : Type 0} (test : Bool) (number found : ℕ) → Decides test Fact → (if test then Some number else None) ≡ Some found → Fact × (number ≡ found)
some_by true number found decides is = (decides.0 refl, cc)
some_by false number found decides is = absurd cc

-- a value that is read is written by the word
pub value_writes : (word : List ℕ) (number : ℕ) → value_of word ≡ Some number → Writes word number
value_writes word number is =
    let digits = without_leading_plus word in
    let found = some_by (is_numeral digits && nat_lt (digits_value 10 digits) 18446744073709551616) (digits_value 10 digits) number (fits digits) is in
    record { numeral = found.0.0; value = found.1; fits = subst (λ n. n < 18446744073709551616) found.1 found.0.1 }

-- a number that the word writes is read
pub written_value : (word : List ℕ) (number : ℕ) → Writes word number → value_of word ≡ Some number
written_value word number written =
    let digits = without_leading_plus word in
    let below : digits_value 10 digits < 18446744073709551616 = subst (λ n. n < 18446744073709551616) (sym written.value) written.fits in
    rw ((fits digits).1 (written.numeral, below)) (ap Some written.value)

-- ---- a condition's text

pub condition_text : (word : List ℕ) → Decides (is_condition word) (IsConditionText word)
condition_text word =
    Decides-and (nat_le 1 (length word)) (nat_le (length word) 4096)
    (λ e. grind (arith, nat_tests), λ le. grind (arith, nat_tests)) (λ e. grind (arith, nat_tests), λ le. grind (arith, nat_tests))

-- ---- dashes

no_dash : (byte : ℕ) → byte ≢ 45 → (byte == 45) ≡ false
no_dash byte differs = grind (arith, nat_tests)

-- a word that begins with no dash is found to be so
pub without_dash : (word : List ℕ) → HasNoDash word → begins_with_dash word ≡ false
without_dash [] none = refl
without_dash (byte ∷ bytes) none = no_dash byte none

-- and the other way round
pub dash_missing : (word : List ℕ) → begins_with_dash word ≡ false → HasNoDash word
dash_missing [] none = tt
dash_missing (byte ∷ bytes) none = λ dash. true≢false (sym (rw dash refl) ∙ none)
