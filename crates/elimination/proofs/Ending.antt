-- The given rows join a list, columns are eliminated, and an answer stands at the end.
use Rattle.std.proofs.Common.{◌≡◌, ℕ, zero, suc, ◌+◌, ◌-◌, ◌<◌, List, [], ◌∷◌, ◌++◌, arith, sym, ◌∙◌, ap, subst, length, get_or, drop, replicate, Result, Ok}
use Rattle.std.specs.Prelude.{pos}
use Rattle.std.specs.List.{AllByRecursion}
use Rattle.std.proofs.lemmas.List.{drop_more}
use Rattle.std.proofs.lemmas.List.Elements.{All-from_recursion}
use lib.ListN.{length-drop}
use Rattle.lin_terms.specs.declared.row.Row.{Row}
use Rattle.lin_terms.specs.Bounds.{FitsRow}
use Rattle.lin_terms.specs.Row.{IsFittingRow}
use Rattle.elimination.specs.declared.answer.Answer.{Answer}
use Rattle.elimination.specs.declared.answer.Limit.{Limit}
use Rattle.elimination.specs.declared.answer.EarlyEnd.{EarlyEnd}
use Rattle.elimination.specs.Combination.{Combination}
use Rattle.elimination.specs.Column.{projected}
use Rattle.elimination.specs.Joining.{joined, joined_each, list_of}
use Rattle.elimination.specs.Eliminated.{given_row, initial, eliminate}
use Rattle.elimination.specs.Working.{IsFittingCombination, IsSmallCombination}
use Rattle.elimination.specs.Outcome.{IsAnswer}
use Rattle.elimination.proofs.Lists.{all_append}
use Rattle.elimination.proofs.Sizes.{small_combination}
use Rattle.elimination.proofs.Stepping.{joined_one}

-- ---- given rows

fitting_zeros : (n : ℕ) → AllByRecursion FitsRow (replicate n (pos 0))
fitting_zeros zero = tt
fitting_zeros (suc n) = (omega arith, fitting_zeros n)

fitting_given : (before behind : ℕ) (row : Row) → IsFittingRow row → IsFittingCombination (given_row before behind row)
fitting_given before behind row fits = record {
  constant = fits.constant;
  coefs = fits.coefs;
  multipliers = All-from_recursion FitsRow (replicate before (pos 0) ++ pos 1 ∷ replicate behind (pos 0))
      (all_append FitsRow (replicate before (pos 0)) (pos 1 ∷ replicate behind (pos 0)) (fitting_zeros before) (omega arith, fitting_zeros behind));
}

pub small_given : (before behind : ℕ) (row : Row) → IsFittingRow row → IsSmallCombination (given_row before behind row)
small_given before behind row fits = small_combination (given_row before behind row) (fitting_given before behind row fits)

-- the next given row, and then the later ones
pub given_joins : (cap i : ℕ) (given : List Row) (row : Row) (made : Combination) (rows : List Combination) (target : Result (List Combination) EarlyEnd)
    → i < length given → row ≡ get_or given i row → made ≡ given_row i (length given - i - 1) row
    → joined_each cap (Ok rows) (initial i (drop i given)) ≡ target
    → joined_each cap (joined_each cap (Ok rows) (made ∷ [])) (initial (i + 1) (drop (i + 1) given)) ≡ target
given_joins cap i given row made rows target inside is made_is so_far =
    let later : List Row = drop (i + 1) given in
    let behind : length later ≡ length given - i - 1 = omega (arith, length-drop (i + 1) given) in
    let next : suc i ≡ i + 1 = omega arith in
    let all = drop_more given i row inside ∙ ap (λ (r : Row). r ∷ later) (sym is) in
    ap (λ t. joined_each cap t (initial (i + 1) later)) (joined_one cap rows made ∙ ap (joined cap rows) made_is)
    ∙ sym (ap (λ rs. joined_each cap (Ok rows) (initial i rs)) all
    ∙ ap (λ n. joined_each cap (joined cap rows (given_row i n row)) (initial (suc i) later)) behind
    ∙ ap (λ n. joined_each cap (joined cap rows (given_row i (length given - i - 1) row)) (initial n later)) next) ∙ so_far

-- ---- columns

-- one more column
pub next_column : (cap columns j : ℕ) (rows : List Combination) (target : Result (List Combination) EarlyEnd) → j < columns
    → eliminate cap (columns - j) j (Ok rows) ≡ target → eliminate cap (columns - (j + 1)) (j + 1) (list_of cap (projected j rows)) ≡ target
next_column cap columns j rows target inside so_far =
    let more : columns - j ≡ suc (columns - (j + 1)) = omega arith in
    let next : suc j ≡ j + 1 = omega arith in
    sym (ap (λ n. eliminate cap n j (Ok rows)) more ∙ ap (λ n. eliminate cap (columns - (j + 1)) n (list_of cap (projected j rows))) next) ∙ so_far

-- ---- the answer

pub answer_is : (wanted result : Result Answer Limit) (answer : Answer) → IsAnswer wanted result → result ≡ Ok answer → wanted ≡ Ok answer
answer_is wanted result answer is e = subst (λ r. IsAnswer wanted r) e is
