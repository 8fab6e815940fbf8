-- Greatest common divisors of the multipliers that are kept, and of all numbers of a row.
use Rattle.std.proofs.Common.{◌≡◌, ℕ, ◌/◌, ◌<◌, ◌≤◌, ◌^◌, max, List, [], ◌∷◌, ◌++◌, map, arith, refl, sym, ◌∙◌, ap}
use Prim.Native.Nat.{◌∣◌}
use Rattle.std.specs.Prelude.{ℤ, pos, negsuc, ◌*ℤ◌, unsigned_abs}
use Rattle.std.proofs.lemmas.Nat.Gcd.{dvd-zero}
use Rattle.lin_terms.specs.Divisor.{gcd_with, gcd_of, floor_div}
use Rattle.lin_terms.proofs.Laws.{gcd_with-append, same_gcd, gcd_of_below}
use Rattle.elimination.specs.declared.multipliers.Multiplier.{Multiplier}
use Rattle.elimination.specs.Sparse.{table, IsRising}
use Rattle.elimination.specs.Combination.{Combination}
use Rattle.elimination.specs.Joining.{numbers_of, divided, primitive}
use Rattle.elimination.specs.Working.{IsSmallCombination}
use Rattle.lin_terms.specs.Vectors.{scaled}
use Rattle.std.proofs.lemmas.Int.{ints}
use Rattle.elimination.proofs.Lists.{all_front, all_back, all_append, all_map, all_of_map}
use Rattle.elimination.proofs.Tables.{entries_have, table_has}

div_one : (n : ℕ) → n / 1 ≡ n
div_one n = omega arith

abbrev Divides : ℕ → ℤ → Type 0
Divides d x = d ∣ unsigned_abs x

abbrev values : List Multiplier → List ℤ
values entries = map (λ entry. entry.value) entries

-- the multipliers that are kept have the divisors of all
pub gcd-table : (numbers : List ℤ) (count : ℕ) (entries : List Multiplier) → IsRising 0 count entries
    → gcd_of (numbers ++ values entries) ≡ gcd_of (numbers ++ table 0 count entries)
gcd-table numbers count entries rising =
    same_gcd (numbers ++ values entries) (numbers ++ table 0 count entries)
    (λ d divides. all_append (Divides d) numbers (table 0 count entries) (all_front (Divides d) numbers (values entries) divides)
    (table_has (Divides d) count entries (dvd-zero d) rising
    (all_of_map (Divides d) (λ (entry : Multiplier). entry.value) entries (all_back (Divides d) numbers (values entries) divides))))
    (λ d divides. all_append (Divides d) numbers (values entries) (all_front (Divides d) numbers (table 0 count entries) divides)
    (all_map (λ (entry : Multiplier). Divides d entry.value) (Divides d) (λ (entry : Multiplier). entry.value) (λ entry has. has) entries
    (entries_have (Divides d) count entries rising (all_back (Divides d) numbers (table 0 count entries) divides))))

pub gcd_carried : (numbers : List ℤ) (count start : ℕ) (entries : List Multiplier) (all : List ℤ) → IsRising 0 count entries → table 0 count entries ≡ all
    → start ≡ gcd_of numbers → gcd_with start (values entries) ≡ gcd_of (numbers ++ all)
gcd_carried numbers count start entries all rising is so_far =
    ap (λ g. gcd_with g (values entries)) so_far
    ∙ sym (gcd_with-append 0 numbers (values entries))
    ∙ gcd-table numbers count entries rising
    ∙ ap (λ t. gcd_of (numbers ++ t)) is

-- ---- a divisor of 1

over_one : (x : ℤ) → floor_div x 1 ≡ x
over_one (pos n) = ap pos (div_one n)
over_one (negsuc n) = ap negsuc (div_one n)

all_over_one : (xs : List ℤ) → map (λ x. floor_div x 1) xs ≡ xs
all_over_one [] = refl
all_over_one (x ∷ xs) = rw (over_one x, all_over_one xs) refl

pub divided_by_one : (row : Combination) → divided 1 row ≡ row
divided_by_one row = rw (all_over_one row.row.coefs, over_one row.row.constant, all_over_one row.multipliers) refl

at_most_one : (g : ℕ) → g ≤ 1 → max 1 g ≡ 1
at_most_one g small = omega arith

pub primitive_of_one : (row : Combination) (g : ℕ) → g ≡ gcd_of (numbers_of row) → g ≤ 1 → row ≡ primitive row
primitive_of_one row g is small =
    sym (ap (λ n. divided n row) (ap (λ n. max 1 n) (sym is) ∙ at_most_one g small) ∙ divided_by_one row)

pub divisor_below : (row : Combination) (g : ℕ) → g ≡ gcd_of (numbers_of row) → IsSmallCombination row → g < 2 ^ 127
divisor_below row g is small =
    let bound = gcd_of_below (2 ^ 126) (numbers_of row) (omega arith) small in omega (arith, is)

-- ---- multiples by 1

one_times : (x : ℤ) → pos 1 *ℤ x ≡ x
one_times x = omega (arith, ints)

pub scaled_by_one : (xs : List ℤ) → scaled (pos 1) xs ≡ xs
scaled_by_one [] = refl
scaled_by_one (x ∷ xs) = rw (one_times x, scaled_by_one xs) refl
