-- Where a row is placed, and what a row that joins a list does.
use Rattle.std.proofs.Common.{◌≡◌, ◌↔◌, ℕ, suc, ◌<◌, ◌^◌, Bool, true, false, cond, not, List, [], ◌∷◌, ◌++◌, arith, refl, sym, ◌∙◌, ap, get_or, set}
use Rattle.std.proofs.Common.{Option, Some, None, Err, IsTrue}
use Rattle.std.specs.Prelude.{ℤ, unsigned_abs, int_lt, nat_le, position}
use Rattle.std.specs.List.{AllByRecursion}
use Rattle.std.proofs.lemmas.List.{get_or_default, set-get_or}
use Rattle.std.proofs.lemmas.List.Quantifiers.{position-Some}
use Rattle.std.proofs.lemmas.Bool.{cond-true, cond-false}
use Rattle.std.proofs.lemmas.Bool.Decides.{nat_tests}
use Rattle.std.proofs.lemmas.List.Elements.{All-from_recursion, recursion_from_All}
use Rattle.lin_terms.specs.Bounds.{FitsRow}
use Rattle.elimination.specs.declared.answer.EarlyEnd.TheVariants.{AtLimit}
use Rattle.elimination.specs.declared.answer.Limit.TheVariants.{WideRow}
use Rattle.elimination.specs.Combination.{Combination}
use Rattle.elimination.specs.Joining.{numbers_of, primitive, is_wide, is_parallel, tighter, placed, kept, admitted, joined}
use Rattle.elimination.specs.Working.{IsFittingCombination}
use Rattle.elimination.proofs.Found.{not_found, found}
use Rattle.elimination.proofs.Lists.{all_append, all_front, all_back}
use Rattle.elimination.proofs.Fitting.{fitting_numbers}

-- ---- the first parallel row

none_parallel_here : (row earlier : Combination) (rows : List Combination) → is_parallel earlier row ≡ false → placed rows row ≡ rows ++ row ∷ []
    → placed (earlier ∷ rows) row ≡ earlier ∷ (rows ++ row ∷ [])
none_parallel_here row earlier rows fails later = rw fails (ap (λ t. earlier ∷ t) later)

pub placed_last : (rows : List Combination) (row : Combination) (place : Option ℕ) → place ≡ position (λ earlier. is_parallel earlier row) rows → place ≡ None
    → placed rows row ≡ rows ++ row ∷ []
placed_last rows row place is none =
    not_found (λ earlier. is_parallel earlier row) (λ rs. placed rs row ≡ rs ++ row ∷ []) refl (none_parallel_here row) rows (sym is ∙ none)

-- the row at the place is compared, and the tighter one stands there
abbrev IsPlacedAt : Combination → ℕ → List Combination → Type 0
IsPlacedAt row place rows = placed rows row ≡ set rows place (tighter (get_or rows place row) row)

placed_here : (row earlier : Combination) (rows : List Combination) → is_parallel earlier row ≡ true → IsPlacedAt row 0 (earlier ∷ rows)
placed_here row earlier rows is = rw is refl

placed_later : (row : Combination) (place : ℕ) (earlier : Combination) (rows : List Combination) → is_parallel earlier row ≡ false
    → IsPlacedAt row place rows → IsPlacedAt row (suc place) (earlier ∷ rows)
placed_later row place earlier rows fails later = rw fails (ap (λ t. earlier ∷ t) later)

-- the earlier row that stands there
placed_at : (rows : List Combination) (row earlier : Combination) (place : Option ℕ) (at : ℕ) → place ≡ position (λ earlier. is_parallel earlier row) rows
    → place ≡ Some at
    → earlier ≡ get_or rows at earlier → (placed rows row ≡ set rows at (tighter earlier row)) × (earlier ≡ get_or rows at row)
placed_at rows row earlier place at is some there =
    let here = sym is ∙ some in
    let inside = (position-Some (λ earlier. is_parallel earlier row) rows at row here).0 in
    let earlier_is = there ∙ get_or_default rows at earlier row inside in
    let placed_there = found (λ earlier. is_parallel earlier row) (IsPlacedAt row) (placed_here row) (placed_later row) rows at here in
    (placed_there ∙ ap (λ r. set rows at (tighter r row)) (sym earlier_is), earlier_is)

pub placed_instead : (rows : List Combination) (row earlier : Combination) (place : Option ℕ) (at : ℕ) (test : Bool)
    → place ≡ position (λ earlier. is_parallel earlier row) rows → place ≡ Some at → earlier ≡ get_or rows at earlier
    → int_lt row.row.constant earlier.row.constant ≡ test → placed rows row ≡ cond test (set rows at row) rows
placed_instead rows row earlier place at true is some there less =
    (placed_at rows row earlier place at is some there).0 ∙ ap (λ t. set rows at (cond t row earlier)) less
placed_instead rows row earlier place at false is some there less =
    let placed_there = placed_at rows row earlier place at is some there in
    placed_there.0 ∙ ap (λ t. set rows at (cond t row earlier)) less ∙ ap (λ r. set rows at r) placed_there.1 ∙ set-get_or rows at row

-- ---- rows that fit

numbers_fits : (row : Combination) → IsFittingCombination row → AllByRecursion FitsRow (numbers_of row)
numbers_fits row fits = (
  fits.constant,
  all_append FitsRow row.row.coefs row.multipliers (recursion_from_All FitsRow row.row.coefs fits.coefs)
      (recursion_from_All FitsRow row.multipliers fits.multipliers),
)

pub fitting_combination : (row : Combination) → is_wide (numbers_of row) ≡ false → IsFittingCombination row
fitting_combination row e =
    let all = fitting_numbers (numbers_of row) e in
    record {
      constant = all.0;
      coefs = All-from_recursion FitsRow row.row.coefs (all_front FitsRow row.row.coefs row.multipliers all.1);
      multipliers = All-from_recursion FitsRow row.multipliers (all_back FitsRow row.row.coefs row.multipliers all.1);
    }

below_not_wide : (n : ℕ) → n < 2 ^ 56 → nat_le (2 ^ 56) n ≡ false
below_not_wide n small = grind (arith, nat_tests)

no_wide : (numbers : List ℤ) → AllByRecursion FitsRow numbers → is_wide numbers ≡ false
no_wide [] fits = refl
no_wide (x ∷ numbers) fits = rw (below_not_wide (unsigned_abs x) fits.0, no_wide numbers fits.1) refl

by_width : (wide fits : Bool) (row : Combination) → is_wide (numbers_of row) ≡ wide → (IsTrue fits ↔ IsFittingCombination row) → wide ≡ not fits
by_width true true row is both = sym is ∙ no_wide (numbers_of row) (numbers_fits row (both.0 refl))
by_width true false row is both = refl
by_width false true row is both = refl
by_width false false row is both = both.1 (fitting_combination row is)

pub width_is : (fits : Bool) (row : Combination) → (IsTrue fits ↔ IsFittingCombination row) → is_wide (numbers_of row) ≡ not fits
width_is fits row both = by_width (is_wide (numbers_of row)) fits row refl both

-- ---- what joins

-- a row that fits is kept
pub some_row : (row : Combination) (fits : Bool) → (IsTrue fits ↔ IsFittingCombination row) → fits ≡ true
    → ◌≡◌ {A = Option Combination} (cond (is_wide (numbers_of row)) None (Some row)) (Some row)
some_row row fits both is = cond-false (is_wide (numbers_of row)) None (Some row) (width_is fits row both ∙ ap not is)

-- what a row that was kept says
pub kept_same : (wide : Bool) (row found : Combination) → ◌≡◌ {A = Option Combination} (Some found) (cond wide None (Some row)) → (row ≡ found) × (wide ≡ false)
kept_same true row found e = cc
kept_same false row found e = (cc, refl)

pub none_wide : (wide : Bool) (row : Combination) → ◌≡◌ {A = Option Combination} None (cond wide None (Some row)) → wide ≡ true
none_wide true row e = refl
none_wide false row e = cc

pub joined_wide : (cap : ℕ) (rows : List Combination) (raw row : Combination) → row ≡ primitive raw → is_wide (numbers_of row) ≡ true
    → joined cap rows raw ≡ Err (AtLimit WideRow)
joined_wide cap rows raw row is wide = ap (admitted cap rows) (sym is) ∙ cond-true (is_wide (numbers_of row)) (Err (AtLimit WideRow)) (kept cap rows row) wide

pub joined_kept : (cap : ℕ) (rows : List Combination) (raw row : Combination) → row ≡ primitive raw → is_wide (numbers_of row) ≡ false
    → joined cap rows raw ≡ kept cap rows row
joined_kept cap rows raw row is fits = ap (admitted cap rows) (sym is)
    ∙ cond-false (is_wide (numbers_of row)) (Err (AtLimit WideRow)) (kept cap rows row) fits
