-- The laws of what is told of samples.
use Rattle.std.proofs.Common.{◌≡◌, ℕ, zero, suc, ◌+◌, Bool, true, false, cond, ◌&&◌, List, [], ◌∷◌, get_or, Some}
use Rattle.std.proofs.Common.{arith, refl, ap, sym, ◌∙◌, inl, inr, ◌⊎◌, ⊎_elim, subst}
use Rattle.std.specs.Prelude.{Contains, slice_get, codes}
use Rattle.std.proofs.lemmas.Option.{slice_get-get_or, same_Some}
use Rattle.std.proofs.lemmas.List.Elements.{All-get_or}
use Rattle.c_ast.specs.declared.place.Side.{Side}
use Rattle.c_ast.specs.declared.place.Side.TheVariants.{A, B, Pre}
use Rattle.graph_run.specs.declared.skip.Skip.{Skip}
use Rattle.graph_run.specs.declared.skip.Skip.TheVariants.{NotEnded, Wide, Unmet, Memory}
use Rattle.trace_pair.specs.declared.skipped.Skipped.{Skipped}
use Rattle.trace_pair.specs.Pairs.{IsCauseOf}
use Rattle.pool_core.specs.declared.verdict.SampleWhy.{SampleWhy}
use Rattle.pool_core.specs.declared.verdict.SampleWhy.TheVariants as reason
use Rattle.report.specs.Samples.{IsKeptSample, is_side, is_why, is_same, indexes_from, skip_of, causes}
use Rattle.report.specs.Laws.{TellsCause, TellsEachOnce}

-- ---- the test of samples

side_from_test : (x y : Side) → is_side x y ≡ true → x ≡ y
side_from_test A A e = refl
side_from_test A B e = absurd cc
side_from_test A Pre e = absurd cc
side_from_test B A e = absurd cc
side_from_test B B e = refl
side_from_test B Pre e = absurd cc
side_from_test Pre A e = absurd cc
side_from_test Pre B e = absurd cc
side_from_test Pre Pre e = refl

why_from_test : (x y : Skip) → is_why x y ≡ true → x ≡ y
why_from_test NotEnded NotEnded e = refl
why_from_test NotEnded Wide e = absurd cc
why_from_test NotEnded Unmet e = absurd cc
why_from_test NotEnded Memory e = absurd cc
why_from_test Wide NotEnded e = absurd cc
why_from_test Wide Wide e = refl
why_from_test Wide Unmet e = absurd cc
why_from_test Wide Memory e = absurd cc
why_from_test Unmet NotEnded e = absurd cc
why_from_test Unmet Wide e = absurd cc
why_from_test Unmet Unmet e = refl
why_from_test Unmet Memory e = absurd cc
why_from_test Memory NotEnded e = absurd cc
why_from_test Memory Wide e = absurd cc
why_from_test Memory Unmet e = absurd cc
why_from_test Memory Memory e = refl

both_pass : (t u : Bool) → t && u ≡ true → (t ≡ true) × (u ≡ true)
both_pass true true e = (refl, refl)
both_pass true false e = absurd cc
both_pass false u e = absurd cc

same_skip : (skipped other : Skipped) → skipped.side ≡ other.side → skipped.why ≡ other.why → skipped ≡ other
same_skip skipped other side why =
    subst (λ (s : Side). skipped ≡ record { side = s; why = other.why }) side (subst (λ (w : Skip). skipped ≡ record { side = skipped.side; why = w }) why refl)

same_from_test : (x y : SampleWhy) → is_same x y ≡ true → x ≡ y
same_from_test reason.Equal reason.Equal e = refl
same_from_test (reason.Skipped skipped) (reason.Skipped other) e =
    let both = both_pass (is_side skipped.side other.side) (is_why skipped.why other.why) e in
    ap reason.Skipped (same_skip skipped other (side_from_test skipped.side other.side both.0) (why_from_test skipped.why other.why both.1))
same_from_test reason.Equal (reason.Skipped other) e = absurd cc
same_from_test (reason.Skipped skipped) reason.Equal e = absurd cc

is_side-same : (x : Side) → is_side x x ≡ true
is_side-same A = refl
is_side-same B = refl
is_side-same Pre = refl

is_why-same : (x : Skip) → is_why x x ≡ true
is_why-same NotEnded = refl
is_why-same Wide = refl
is_why-same Unmet = refl
is_why-same Memory = refl

is_same-same : (x : SampleWhy) → is_same x x ≡ true
is_same-same reason.Equal = refl
is_same-same (reason.Skipped skipped) = rw (is_side-same skipped.side, is_why-same skipped.why) refl

-- ---- the indexes of a cause

Contains-cons_cases : (x : ℕ) (xs : List ℕ) (y : ℕ) → Contains (x ∷ xs) y → (x ≡ y) ⊎ Contains xs y
Contains-cons_cases x xs y (zero, within, is) = inl is
Contains-cons_cases x xs y (suc k, within, is) = inr (k, omega arith, is)

Contains-first : (x : ℕ) (xs : List ℕ) (y : ℕ) → x ≡ y → Contains (x ∷ xs) y
Contains-first x xs y is = (0, omega arith, is)

Contains-later : (x : ℕ) (xs : List ℕ) (y : ℕ) → Contains xs y → Contains (x ∷ xs) y
Contains-later x xs y (k, within, is) = (suc k, omega arith, is)

-- The sample at this place has the cause, and the place is counted from the start.
abbrev IsPlaceOf : ℕ → SampleWhy → List SampleWhy → ℕ → Type 0
IsPlaceOf start cause samples index = (k : ℕ) × (index ≡ start + k) × (slice_get samples k ≡ Some cause)

place_later : (start : ℕ) (cause sample : SampleWhy) (samples : List SampleWhy) (index : ℕ)
    → IsPlaceOf (suc start) cause samples index → IsPlaceOf start cause (sample ∷ samples) index
place_later start cause sample samples index (k, is, has) = (suc k, omega arith, has)

place_case : (t : Bool) (start : ℕ) (cause sample : SampleWhy) (samples : List SampleWhy) (index : ℕ)
    → is_same sample cause ≡ t → (Contains (indexes_from (suc start) cause samples) index → IsPlaceOf (suc start) cause samples index)
    → Contains (cond t (start ∷ indexes_from (suc start) cause samples) (indexes_from (suc start) cause samples)) index
    → IsPlaceOf start cause (sample ∷ samples) index
place_case true start cause sample samples index e later contains =
    ⊎_elim (λ first. (0, omega arith, ap Some (same_from_test sample cause e)))
    (λ more. place_later start cause sample samples index (later more))
    (Contains-cons_cases start (indexes_from (suc start) cause samples) index contains)
place_case false start cause sample samples index e later contains = place_later start cause sample samples index (later contains)

place_from_contains : (start : ℕ) (cause : SampleWhy) (samples : List SampleWhy) (index : ℕ)
    → Contains (indexes_from start cause samples) index → IsPlaceOf start cause samples index
place_from_contains start cause [] index (k, within, is) = absurd (omega arith)
place_from_contains start cause (sample ∷ samples) index contains =
    place_case (is_same sample cause) start cause sample samples index refl (place_from_contains (suc start) cause samples index) contains

contains_more : (t : Bool) (start : ℕ) (indexes : List ℕ) (index : ℕ) → Contains indexes index → Contains (cond t (start ∷ indexes) indexes) index
contains_more true start indexes index contains = Contains-later start indexes index contains
contains_more false start indexes index contains = contains

contains_from_place : (start : ℕ) (cause : SampleWhy) (samples : List SampleWhy) (k index : ℕ)
    → index ≡ start + k → slice_get samples k ≡ Some cause → Contains (indexes_from start cause samples) index
contains_from_place start cause [] k index is has = absurd cc
contains_from_place start cause (sample ∷ samples) zero index is has =
    let same : is_same sample cause ≡ true = rw (same_Some sample cause has) (is_same-same cause) in
    rw same (Contains-first start (indexes_from (suc start) cause samples) index (omega arith))
contains_from_place start cause (sample ∷ samples) (suc k) index is has =
    contains_more (is_same sample cause) start (indexes_from (suc start) cause samples) index
    (contains_from_place (suc start) cause samples k index (omega arith) has)

from_start : (cause : SampleWhy) (samples : List SampleWhy) (index : ℕ) → IsPlaceOf 0 cause samples index → slice_get samples index ≡ Some cause
from_start cause samples index (k, is, has) =
    let same : index ≡ k = omega arith in
    rw same has

pub tells_cause : TellsCause
tells_cause samples cause index = (
  (λ contains. from_start cause samples index (place_from_contains 0 cause samples index contains)),
  (λ has. contains_from_place 0 cause samples index index (omega arith) has),
)

-- ---- one cause for each sample

abbrev skip_words : Side → Skip → List ℕ
skip_words A NotEnded = codes "not-ended A"
skip_words A Wide = codes "wide A"
skip_words B NotEnded = codes "not-ended B"
skip_words B Wide = codes "wide B"
skip_words Pre Unmet = codes "unmet pre"
skip_words Pre Wide = codes "wide pre"
skip_words _ _ = []

abbrev words_of : SampleWhy → List ℕ
words_of reason.Equal = codes "equal"
words_of (reason.Skipped skipped) = skip_words skipped.side skipped.why

-- A row has the words of its cause.
row_words : (row : SampleWhy × List ℕ) → Contains causes row → row.1 ≡ words_of row.0
row_words row (zero, within, is) = subst (λ (r : SampleWhy × List ℕ). r.1 ≡ words_of r.0) is refl
row_words row (suc zero, within, is) = subst (λ (r : SampleWhy × List ℕ). r.1 ≡ words_of r.0) is refl
row_words row (suc (suc zero), within, is) = subst (λ (r : SampleWhy × List ℕ). r.1 ≡ words_of r.0) is refl
row_words row (suc (suc (suc zero)), within, is) = subst (λ (r : SampleWhy × List ℕ). r.1 ≡ words_of r.0) is refl
row_words row (suc (suc (suc (suc zero))), within, is) = subst (λ (r : SampleWhy × List ℕ). r.1 ≡ words_of r.0) is refl
row_words row (suc (suc (suc (suc (suc zero)))), within, is) = subst (λ (r : SampleWhy × List ℕ). r.1 ≡ words_of r.0) is refl
row_words row (suc (suc (suc (suc (suc (suc zero))))), within, is) = subst (λ (r : SampleWhy × List ℕ). r.1 ≡ words_of r.0) is refl
row_words row (suc (suc (suc (suc (suc (suc (suc k)))))), within, is) = absurd (omega arith)

-- Each skip that is kept has a row.
skip_row : (side : Side) (why : Skip) → IsCauseOf side why → Contains causes (skip_of side why, skip_words side why)
skip_row A NotEnded kept = (3, omega arith, refl)
skip_row A Wide kept = (4, omega arith, refl)
skip_row A Unmet kept = absurd kept
skip_row A Memory kept = absurd kept
skip_row B NotEnded kept = (5, omega arith, refl)
skip_row B Wide kept = (6, omega arith, refl)
skip_row B Unmet kept = absurd kept
skip_row B Memory kept = absurd kept
skip_row Pre NotEnded kept = absurd kept
skip_row Pre Wide kept = (2, omega arith, refl)
skip_row Pre Unmet kept = (1, omega arith, refl)
skip_row Pre Memory kept = absurd kept

sample_row : (sample : SampleWhy) → IsKeptSample sample → Contains causes (sample, words_of sample)
sample_row reason.Equal kept = (0, omega arith, refl)
sample_row (reason.Skipped skipped) kept = skip_row skipped.side skipped.why kept

same_row : (sample : SampleWhy) (other : SampleWhy × List ℕ) → other.1 ≡ words_of other.0 → sample ≡ other.0 → other ≡ (sample, words_of sample)
same_row sample other words same = rw same (subst (λ (text : List ℕ). other ≡ (other.0, text)) words refl)

pub tells_each_once : TellsEachOnce
tells_each_once samples index kept below =
    let sample = get_or samples index reason.Equal in
    let there : slice_get samples index ≡ Some sample = slice_get-get_or samples index reason.Equal below in
    record {
      row = (sample, words_of sample);
      among = sample_row sample (All-get_or IsKeptSample samples index reason.Equal below kept);
      told = (tells_cause samples sample index).1 there;
      once = λ other among told.
          same_row sample other (row_words other among) (same_Some sample other.0 (sym there ∙ (tells_cause samples other.0 index).0 told));
    }
