-- Each kind of step may be made, whatever the table is.
use Rattle.std.proofs.Common.{◌≡◌, ℕ, ◌+◌, ◌<◌, ◌≤◌, ◌%◌, ◌^◌, ◌==◌, true, if◌then◌else◌, List, [], ◌∷◌, set, slice_index, slice_set, refl, sym, ap, subst, ◌∙◌, ⊎_elim, arith}
use Rattle.std.proofs.lemmas.Bool.Decides.{nat_tests}
use Rattle.std.proofs.lemmas.Bool.{eqb-true, or_cases}
use mathlib.Core.Option.{some}
use lib.ListN.{get_elem?}
use Rattle.atomic_table.specs.Table.{State, Me, Act, Allows, Splits, Joins, Valid, homes_after, carried_after, keeps}
use Rattle.atomic_table.proofs.Lists.{exchanged}
use prog.Atomic.{either}
use Rattle.verdict_board.specs.declared.view.View.{View}
use Rattle.verdict_board.specs.declared.view.Limits.{Limits}
use Rattle.verdict_board.specs.Numbers.{past}
use Rattle.verdict_board.specs.Views.{Knows, looked, drew_sample, drew_alignment, raised, split_left, split_right, joined, spent_view}
use Rattle.verdict_board.specs.Told.{Looked, DrewSample, DrewAlignment, Raised, Learned}
use Rattle.verdict_board.specs.Rule.{IsKept, AreSmall, Holds}
use Rattle.verdict_board.proofs.Tickets.{there_after, dealt_still, dealt_more, dealt_near, dealt_unseen}
use Rattle.verdict_board.proofs.Rules.{kept_set, kept_split, kept_join, kept_knows}

-- how a step on the word i goes on from the words ws
abbrev Goes : Limits → ℕ → Me ℕ View → State ℕ View → ℕ → (ℕ → ℕ) → (ℕ → Me ℕ View → Type 0) → List ℕ → Type 0
Goes key id me s i f says ws = (w : View) × (a : Act ℕ) × Valid s.homes me.1 a
    × Holds key record { words = slice_set ws i (f (slice_index ws i)); homes = homes_after s.homes me.1 a; views = slice_set s.views id w }
    × says (slice_index ws i) (w, carried_after me.1 a)

-- ---- draws

sample_goes : (key : Limits) (id : ℕ) (me : Me ℕ View) (s : State ℕ View) (stop sample alignment : ℕ) → me.1 ≡ [] → 0 < me.0.weight
    → past key.samples me.0.samples.drawn ≡ 0
    → IsKept key stop sample alignment s.views → AreSmall key → get_elem? s.views id ≡ some me.0
    → Goes key id me s 1 (λ n. (n + 1) % 2 ^ 64) (DrewSample me) (stop ∷ sample ∷ alignment ∷ [])
sample_goes key id me s stop sample alignment bare live below kept few at =
    let v : View = me.0 in
    let w : View = drew_sample v sample in
    let near = dealt_near key.samples (λ u. u.samples.drawn) sample (key.passes + 1) s.views kept.parts kept.samples in
    let next : (sample + 1) % 2 ^ 64 ≡ sample + 1 = omega (arith, few.0, few.2) in
    let own = kept.each id v at in
    let here = kept_set key stop sample alignment stop (sample + 1) alignment s.views id v w kept at kept.flag (λ e. e) refl refl
    (dealt_more key.samples (λ u. u.samples.drawn) sample s.views id v w at refl refl live below kept.samples)
    (dealt_still key.alignments (λ u. u.alignments.drawn) alignment s.views id v w at refl refl kept.alignments)
    (record { seen = own.seen; spent = λ none. absurd (omega arith) }) in (
      w,
      keeps,
      tt,
      (refl, rw next here, few),
      (ap (λ c. (w, c)) bare, dealt_unseen key.samples (λ u. u.samples.drawn) sample s.views id v at kept.samples),
    )

alignment_goes : (key : Limits) (id : ℕ) (me : Me ℕ View) (s : State ℕ View) (stop sample alignment : ℕ) → me.1 ≡ [] → 0 < me.0.weight
    → past key.alignments me.0.alignments.drawn ≡ 0
    → IsKept key stop sample alignment s.views → AreSmall key → get_elem? s.views id ≡ some me.0
    → Goes key id me s 2 (λ n. (n + 1) % 2 ^ 64) (DrewAlignment me) (stop ∷ sample ∷ alignment ∷ [])
alignment_goes key id me s stop sample alignment bare live below kept few at =
    let v : View = me.0 in
    let w : View = drew_alignment v alignment in
    let near = dealt_near key.alignments (λ u. u.alignments.drawn) alignment (key.passes + 1) s.views kept.parts kept.alignments in
    let next : (alignment + 1) % 2 ^ 64 ≡ alignment + 1 = omega (arith, few.1, few.2) in
    let own = kept.each id v at in
    let here = kept_set key stop sample alignment stop sample (alignment + 1) s.views id v w kept at kept.flag (λ e. e) refl refl
    (dealt_still key.samples (λ u. u.samples.drawn) sample s.views id v w at refl refl kept.samples)
    (dealt_more key.alignments (λ u. u.alignments.drawn) alignment s.views id v w at refl refl live below kept.alignments)
    (record { seen = own.seen; spent = λ none. absurd (omega arith) }) in (
      w,
      keeps,
      tt,
      (refl, rw next here, few),
      (ap (λ c. (w, c)) bare, dealt_unseen key.alignments (λ u. u.alignments.drawn) alignment s.views id v at kept.alignments),
    )

pub sample_allowed : (key : Limits) (slots id : ℕ) (me : Me ℕ View) → me.1 ≡ [] → 0 < me.0.weight → past key.samples me.0.samples.drawn ≡ 0
    → Allows (Holds key) slots id me 1 (λ n. (n + 1) % 2 ^ 64) (DrewSample me)
sample_allowed key slots id me bare live below s holds len at fits =
    subst (λ (ws : List ℕ). Goes key id me s 1 (λ n. (n + 1) % 2 ^ 64) (DrewSample me) ws) (sym holds.0)
    (sample_goes key id me s (slice_index s.words 0) (slice_index s.words 1) (slice_index s.words 2) bare live below holds.1 holds.2 at)

pub alignment_allowed : (key : Limits) (slots id : ℕ) (me : Me ℕ View) → me.1 ≡ [] → 0 < me.0.weight → past key.alignments me.0.alignments.drawn ≡ 0
    → Allows (Holds key) slots id me 2 (λ n. (n + 1) % 2 ^ 64) (DrewAlignment me)
alignment_allowed key slots id me bare live below s holds len at fits =
    subst (λ (ws : List ℕ). Goes key id me s 2 (λ n. (n + 1) % 2 ^ 64) (DrewAlignment me) ws) (sym holds.0)
    (alignment_goes key id me s (slice_index s.words 0) (slice_index s.words 1) (slice_index s.words 2) bare live below holds.1 holds.2 at)

-- ---- the stop

-- a view that changed, and holds the same numbers and parts
record IsSame (v w : View) : Type 0 where
  samples : w.samples ≡ v.samples
  alignments : w.alignments ≡ v.alignments
  weight : w.weight ≡ v.weight
  splits : w.splits ≡ v.splits
  passes : w.passes ≡ v.passes

-- a step on the stop, after which the view holds the same
stop_goes : (key : Limits) (id : ℕ) (me : Me ℕ View) (s : State ℕ View) (stop sample alignment : ℕ) (f : ℕ → ℕ) (says : ℕ → Me ℕ View → Type 0) (w : View)
    → me.1 ≡ [] → 0 < me.0.weight → me.0.passes ≡ key.passes → IsKept key stop sample alignment s.views → AreSmall key → get_elem? s.views id ≡ some me.0
    → f stop ≤ 1 → (stop ≡ 1 → f stop ≡ 1) → IsSame me.0 w → w.raises + stop ≡ me.0.raises + f stop → (w.seen ≡ true → f stop ≡ 1)
    → (Knows w → says stop (w, [])) → Goes key id me s 0 f says (stop ∷ sample ∷ alignment ∷ [])
stop_goes key id me s stop sample alignment f says w bare live passes kept few at flag rises same wins seen told =
    let v : View = me.0 in
    let weight = same.weight in
    let splits = same.splits in
    let here = kept_set key stop sample alignment (f stop) sample alignment s.views id v w kept at flag rises wins (omega arith)
    (dealt_still key.samples (λ u. u.samples.drawn) sample s.views id v w at (ap (λ t. t.drawn) same.samples) weight kept.samples)
    (dealt_still key.alignments (λ u. u.alignments.drawn) alignment s.views id v w at (ap (λ t. t.drawn) same.alignments) weight kept.alignments)
    (record { seen = seen; spent = λ none. absurd (omega arith) }) in
    let knows = kept_knows key (f stop) sample alignment (set s.views id w) id w here (there_after s.views id v w at) (same.passes ∙ passes) in (
      w,
      keeps,
      tt,
      (refl, here, few),
      subst (λ (c : List (ℕ × ℕ)). says stop (w, c)) (sym bare) (told knows),
    )

pub looks_allowed : (key : Limits) (slots id : ℕ) (me : Me ℕ View) → me.1 ≡ [] → 0 < me.0.weight → me.0.passes ≡ key.passes
    → Allows (Holds key) slots id me 0 (λ n. n) (Looked me)
looks_allowed key slots id me bare live passes s holds len at fits =
    let stop = slice_index s.words 0 in
    let kept = holds.1 in
    let seen = (kept.each id me.0 at).seen in
    subst (λ (ws : List ℕ). Goes key id me s 0 (λ n. n) (Looked me) ws) (sym holds.0)
    (stop_goes key id me s stop (slice_index s.words 1) (slice_index s.words 2) (λ n. n) (Looked me) (looked me.0 (stop == 1)) bare live passes kept holds.2 at
    kept.flag (λ e. e) (record { samples = refl; alignments = refl; weight = refl; splits = refl; passes = refl }) refl
    (λ e. ⊎_elim seen (λ q. eqb-true stop 1 q) (or_cases me.0.seen (stop == 1) e))
    (λ knows. (refl, kept.flag, seen, knows)))

-- a raise that finds 0 is one more, and leaves 1
wins_once : (before stop : ℕ) → stop ≤ 1 → before + (if stop == 0 then 1 else 0) + stop ≡ before + either (stop == 0) 1 stop
wins_once before stop flag =
    exchanged stop 0 1 (λ n. before + (if stop == 0 then 1 else 0) + stop ≡ before + n)
    (λ e. grind (arith, nat_tests)) (λ ne. grind (arith, nat_tests))

pub raises_allowed : (key : Limits) (slots id : ℕ) (me : Me ℕ View) → me.1 ≡ [] → 0 < me.0.weight → me.0.passes ≡ key.passes
    → Allows (Holds key) slots id me 0 (λ n. either (n == 0) 1 n) (Raised me)
raises_allowed key slots id me bare live passes s holds len at fits =
    let stop = slice_index s.words 0 in
    let kept = holds.1 in
    let now : either (stop == 0) 1 stop ≡ 1 = exchanged stop 0 1 (λ n. n ≡ 1) (λ e. refl) (λ ne. let flag = kept.flag in omega arith) in
    subst (λ (ws : List ℕ). Goes key id me s 0 (λ n. either (n == 0) 1 n) (Raised me) ws) (sym holds.0)
    (stop_goes key id me s stop (slice_index s.words 1) (slice_index s.words 2) (λ n. either (n == 0) 1 n) (Raised me) (raised me.0 (stop == 0)) bare
    live passes kept holds.2 at
    (omega arith) (λ e. now) (record { samples = refl; alignments = refl; weight = refl; splits = refl; passes = refl })
    (wins_once me.0.raises stop kept.flag) (λ e. now)
    (λ knows. (refl, kept.flag, (kept.each id me.0 at).seen)))

pub learns_allowed : (key : Limits) (slots id : ℕ) (me : Me ℕ View) → me.1 ≡ [] → 0 < me.0.weight → me.0.passes ≡ key.passes
    → Allows (Holds key) slots id me 0 (λ n. n) (Learned me)
learns_allowed key slots id me bare live passes s holds len at fits =
    let stop = slice_index s.words 0 in
    let kept = holds.1 in
    subst (λ (ws : List ℕ). Goes key id me s 0 (λ n. n) (Learned me) ws) (sym holds.0)
    (stop_goes key id me s stop (slice_index s.words 1) (slice_index s.words 2) (λ n. n) (Learned me) me.0 bare live passes kept holds.2 at
    kept.flag (λ e. e) (record { samples = refl; alignments = refl; weight = refl; splits = refl; passes = refl }) refl (kept.each id me.0 at).seen
    (λ knows. (ap (λ (c : List (ℕ × ℕ)). (me.0, c)) (sym bare), knows)))

-- ---- passes

pub splits_kept : (key : Limits) (id : ℕ) (v : View) → 0 < v.weight → 0 < v.splits → Splits (Holds key) id v (split_left v) (split_right v)
splits_kept key id v live left s holds at =
    (holds.0, kept_split key (slice_index s.words 0) (slice_index s.words 1) (slice_index s.words 2) s.views id v holds.1 at live left, holds.2)

pub joins_kept : (key : Limits) (id : ℕ) (v : View) (other : ℕ) (w : View) → 0 < v.weight → Joins (Holds key) id v other w (joined v w) spent_view
joins_kept key id v other w live s holds at apart between =
    (holds.0, kept_join key (slice_index s.words 0) (slice_index s.words 1) (slice_index s.words 2) s.views id v other w holds.1 at live apart between, holds.2)
