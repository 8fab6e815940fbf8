-- The laws of runs.
use Rattle.std.proofs.Common.{◌≡◌, ◌≢◌, ℕ, zero, suc, ◌+◌, ◌-◌, ◌<◌, ◌≤◌, Bool, true, false, cond, eqb, List, [], ◌∷◌, ◌++◌, arith, refl, ap, sym, ◌∙◌}
use Rattle.std.specs.Prelude.{All, flat_map, codes}
use Rattle.std.specs.List.{join_by}
use Rattle.std.proofs.lemmas.Bool.Decides.{nat_tests}
use Rattle.std.proofs.lemmas.List.{append_assoc}
use Rattle.std.proofs.lemmas.List.Elements.{All-nil, All-cons, All-head, All-tail}
use Rattle.report.specs.Indexes.{with_run, runs, run_text, runs_text}
use Rattle.report.specs.Laws.{rising, numbers_of, AreApart, HasRuns, HasNoOtherRuns}

-- ---- a run before others, as the text tells it

with_run_cases : (first last index : ℕ) (run : ℕ × ℕ) (more : List (ℕ × ℕ)) (t u : Bool) → eqb index (suc last) ≡ u
    → with_run first last (cond t ((index, run.1) ∷ more) ((index, index) ∷ run ∷ more))
    ≡ cond u (cond t ((first, run.1) ∷ more) ((first, index) ∷ run ∷ more)) ((first, last) ∷ cond t ((index, run.1) ∷ more) ((index, index) ∷ run ∷ more))
with_run_cases first last index run more true true e = rw e refl
with_run_cases first last index run more true false e = rw e refl
with_run_cases first last index run more false true e = rw e refl
with_run_cases first last index run more false false e = rw e refl

-- A run before an index and more takes the index in, or is closed.
pub with_run-with_run : (first last index : ℕ) (all : List (ℕ × ℕ))
    → with_run first last (with_run index index all) ≡ cond (eqb index (suc last)) (with_run first index all) ((first, last) ∷ with_run index index all)
with_run-with_run first last index [] = refl
with_run-with_run first last index (run ∷ more) = with_run_cases first last index run more (eqb run.0 (suc index)) (eqb index (suc last)) refl

join-two : (f : ℕ × ℕ → List ℕ) (between : List ℕ) (x y : ℕ × ℕ) (more : List (ℕ × ℕ))
    → join_by f between (x ∷ y ∷ more) ≡ f x ++ (between ++ join_by f between (y ∷ more))
join-two f between x y more = simp append_assoc

join_case : (t : Bool) (first : ℕ × ℕ) (index : ℕ) (run : ℕ × ℕ) (more : List (ℕ × ℕ))
    → runs_text (first ∷ cond t ((index, run.1) ∷ more) ((index, index) ∷ run ∷ more))
    ≡ run_text first ++ (codes " " ++ runs_text (cond t ((index, run.1) ∷ more) ((index, index) ∷ run ∷ more)))
join_case true first index run more = join-two run_text (codes " ") first (index, run.1) more
join_case false first index run more = join-two run_text (codes " ") first (index, index) (run ∷ more)

join-closed : (first : ℕ × ℕ) (index : ℕ) (all : List (ℕ × ℕ))
    → runs_text (first ∷ with_run index index all) ≡ run_text first ++ (codes " " ++ runs_text (with_run index index all))
join-closed first index [] = join-two run_text (codes " ") first (index, index) []
join-closed first index (run ∷ more) = join_case (eqb run.0 (suc index)) first index run more

-- The open run goes on with the index.
pub runs_text-longer : (first last index : ℕ) (indexes : List ℕ) → eqb index (suc last) ≡ true
    → runs_text (with_run first last (runs (index ∷ indexes))) ≡ runs_text (with_run first index (runs indexes))
runs_text-longer first last index indexes e = rw (with_run-with_run first last index (runs indexes), e) refl

-- The open run ends before the index, and a space stands behind it.
pub runs_text-closed : (first last index : ℕ) (indexes : List ℕ) → eqb index (suc last) ≡ false
    → runs_text (with_run first last (runs (index ∷ indexes))) ≡ run_text (first, last) ++ (codes " " ++ runs_text (with_run index index (runs indexes)))
runs_text-closed first last index indexes e = rw (with_run-with_run first last index (runs indexes), e) (join-closed (first, last) index (runs indexes))

-- ---- the runs are the list

rising-more : (index last : ℕ) → index < last → rising index (suc last - index) ≡ index ∷ rising (suc index) (suc last - suc index)
rising-more index last below =
    let one_more : suc last - index ≡ suc (suc last - suc index) = omega arith in
    ap (rising index) one_more

rising-one : (index : ℕ) → rising index (suc index - index) ≡ index ∷ []
rising-one index =
    let one : suc index - index ≡ suc zero = omega arith in
    ap (rising index) one

written_case : (t : Bool) (index : ℕ) (run : ℕ × ℕ) (more : List (ℕ × ℕ)) → eqb run.0 (suc index) ≡ t → run.0 ≤ run.1
    → flat_map numbers_of (cond t ((index, run.1) ∷ more) ((index, index) ∷ run ∷ more)) ≡ index ∷ flat_map numbers_of (run ∷ more)
written_case true index run more e rises =
    let same : run.0 ≡ suc index = grind (arith, nat_tests) in
    let longer = rising-more index run.1 (omega arith) in
    rw (longer, ← same) refl
written_case false index run more e rises = rw (rising-one index) refl

written-with_run : (index : ℕ) (all : List (ℕ × ℕ)) → All (λ (run : ℕ × ℕ). run.0 ≤ run.1) all
    → flat_map numbers_of (with_run index index all) ≡ index ∷ flat_map numbers_of all
written-with_run index [] rise = rw (rising-one index) refl
written-with_run index (run ∷ more) rise =
    written_case (eqb run.0 (suc index)) index run more refl (All-head (λ (run : ℕ × ℕ). run.0 ≤ run.1) run more rise)

-- ---- none goes on from the one before it

apart_case : (t : Bool) (index : ℕ) (run : ℕ × ℕ) (more : List (ℕ × ℕ)) → eqb run.0 (suc index) ≡ t → AreApart (run ∷ more)
    → AreApart (cond t ((index, run.1) ∷ more) ((index, index) ∷ run ∷ more))
apart_case true index run [] e apart = tt
apart_case true index run (next ∷ more) e apart = apart
apart_case false index run more e apart = ((λ same. grind (arith, nat_tests)), apart)

apart-with_run : (index : ℕ) (all : List (ℕ × ℕ)) → AreApart all → AreApart (with_run index index all)
apart-with_run index [] apart = tt
apart-with_run index (run ∷ more) apart = apart_case (eqb run.0 (suc index)) index run more refl apart

-- ---- the first number of a run is at most its last

rise_case : (t : Bool) (index : ℕ) (run : ℕ × ℕ) (more : List (ℕ × ℕ)) → eqb run.0 (suc index) ≡ t → All (λ (run : ℕ × ℕ). run.0 ≤ run.1) (run ∷ more)
    → All (λ (run : ℕ × ℕ). run.0 ≤ run.1) (cond t ((index, run.1) ∷ more) ((index, index) ∷ run ∷ more))
rise_case true index run more e rise =
    let same : run.0 ≡ suc index = grind (arith, nat_tests) in
    let head = All-head (λ (run : ℕ × ℕ). run.0 ≤ run.1) run more rise in
    All-cons (λ (run : ℕ × ℕ). run.0 ≤ run.1) (index, run.1) more (omega arith) (All-tail (λ (run : ℕ × ℕ). run.0 ≤ run.1) run more rise)
rise_case false index run more e rise = All-cons (λ (run : ℕ × ℕ). run.0 ≤ run.1) (index, index) (run ∷ more) (omega arith) rise

rise-with_run : (index : ℕ) (all : List (ℕ × ℕ)) → All (λ (run : ℕ × ℕ). run.0 ≤ run.1) all → All (λ (run : ℕ × ℕ). run.0 ≤ run.1) (with_run index index all)
rise-with_run index [] rise = All-cons (λ (run : ℕ × ℕ). run.0 ≤ run.1) (index, index) [] (omega arith) rise
rise-with_run index (run ∷ more) rise = rise_case (eqb run.0 (suc index)) index run more refl rise

pub are_runs : HasRuns
are_runs [] = record { written = refl; apart = tt; rising = All-nil (λ (run : ℕ × ℕ). run.0 ≤ run.1) }
are_runs (index ∷ indexes) =
    let later = are_runs indexes in
    record {
      written = written-with_run index (runs indexes) later.rising ∙ ap (λ (all : List ℕ). index ∷ all) later.written;
      apart = apart-with_run index (runs indexes) later.apart;
      rising = rise-with_run index (runs indexes) later.rising;
    }

-- ---- no other runs

-- The first run does not go on from a run with this last number.
abbrev IsApartFrom : ℕ → List (ℕ × ℕ) → Type 0
IsApartFrom last [] = Unit {0}
IsApartFrom last (next ∷ more) = next.0 ≢ suc last

apart_parts : (run : ℕ × ℕ) (all : List (ℕ × ℕ)) → AreApart (run ∷ all) → IsApartFrom run.1 all × AreApart all
apart_parts run [] apart = (tt, tt)
apart_parts run (next ∷ all) apart = apart

-- Successive numbers before a list whose runs do not go on from them are one more run.
runs-rising : (count first last : ℕ) (indexes : List ℕ) (all : List (ℕ × ℕ)) → last ≡ first + count → runs indexes ≡ all → IsApartFrom last all
    → runs (rising first (suc count) ++ indexes) ≡ (first, last) ∷ all
runs-rising zero first last indexes [] ends is apart =
    let one : last ≡ first = omega arith in
    rw (is, one) refl
runs-rising zero first last indexes (next ∷ all) ends is apart =
    let one : last ≡ first = omega arith in
    let elsewhere : eqb next.0 (suc first) ≡ false = grind (arith, nat_tests) in
    rw (is, elsewhere, one) refl
runs-rising (suc count) first last indexes all ends is apart =
    let later = runs-rising count (suc first) last indexes all (omega arith) is apart in
    let goes_on : eqb (suc first) (suc first) ≡ true = grind (arith, nat_tests) in
    rw (later, goes_on) refl

runs-written : (all : List (ℕ × ℕ)) → AreApart all → All (λ (run : ℕ × ℕ). run.0 ≤ run.1) all → runs (flat_map numbers_of all) ≡ all
runs-written [] apart rise = refl
runs-written (run ∷ more) apart rise =
    let parts = apart_parts run more apart in
    let head = All-head (λ (run : ℕ × ℕ). run.0 ≤ run.1) run more rise in
    let later = runs-written more parts.1 (All-tail (λ (run : ℕ × ℕ). run.0 ≤ run.1) run more rise) in
    let count : suc run.1 - run.0 ≡ suc (run.1 - run.0) = omega arith in
    rw count (runs-rising (run.1 - run.0) run.0 run.1 (flat_map numbers_of more) more (omega arith) later parts.0)

pub no_other_runs : HasNoOtherRuns
no_other_runs indexes all are = sym (ap runs (sym are.written) ∙ runs-written all are.apart are.rising)
