-- What holds of the board's words and of all views between any two steps.
use Rattle.std.specs.Prelude.{◌≡◌, ℕ, ◌+◌, ◌<◌, ◌≤◌, true, List, [], ◌∷◌, slice_index}
use mathlib.Core.Option.{some}
use lib.ListN.{get_elem?}
use Rattle.atomic_table.specs.Table.{State}
use Rattle.verdict_board.specs.declared.view.View.{View}
use Rattle.verdict_board.specs.declared.view.Limits.{Limits}
use Rattle.verdict_board.specs.Numbers.{times, past, once_below}
use Rattle.verdict_board.specs.Views.{spent_view}

-- f of each view, added up
abbrev pub total : (View → ℕ) → List View → ℕ
total f [] = 0
total f (v ∷ vs) = f v + total f vs

-- The passes hold the numbers below the ticket's word, each once, and no other. Of numbers at or past the limit a
-- pass holds at most one for each pass that it is, so the word stays small.
pub record IsDealt (limit word : ℕ) (drawn : View → List ℕ) (views : List View) : Type 0 where
  pub once : (x : ℕ) → total (λ v. times x (drawn v)) views ≡ once_below x word
  pub near : word ≤ limit + total (λ v. past limit (drawn v)) views
  pub few : (i : ℕ) (v : View) → get_elem? views i ≡ some v → past limit (drawn v) ≤ v.weight

-- A pass that has seen the stop is right; and one that was joined into another is spent.
pub record IsTold (stop : ℕ) (v : View) : Type 0 where
  pub seen : v.seen ≡ true → stop ≡ 1
  pub spent : v.weight ≡ 0 → v ≡ spent_view

-- The rule, at the three words.
pub record IsKept (key : Limits) (stop sample alignment : ℕ) (views : List View) : Type 0 where
  pub flag : stop ≤ 1
  pub raised : total (λ v. v.raises) views ≡ stop
  pub samples : IsDealt key.samples sample (λ v. v.samples.drawn) views
  pub alignments : IsDealt key.alignments alignment (λ v. v.alignments.drawn) views
  pub parts : total (λ v. v.weight + v.splits) views ≡ key.passes + 1
  pub each : (i : ℕ) (v : View) → get_elem? views i ≡ some v → IsTold stop v

-- the limits are those of 32 bits, so no ticket comes to its end
abbrev pub AreSmall : Limits → Type 0
AreSmall key = (key.samples < 4294967296) × (key.alignments < 4294967296) × (key.passes < 4294967296)

-- the rule, of a table with these three words
abbrev pub Holds : Limits → State ℕ View → Type 0
Holds key s = (s.words ≡ slice_index s.words 0 ∷ slice_index s.words 1 ∷ slice_index s.words 2 ∷ [])
    × IsKept key (slice_index s.words 0) (slice_index s.words 1) (slice_index s.words 2) s.views × AreSmall key
