-- What a pass knows, and what each step does to it.
use Rattle.std.specs.Prelude.{◌≡◌, ℕ, ◌+◌, ◌-◌, ◌≤◌, Bool, ◌||◌, not, true, false, [], ◌∷◌, ◌++◌, if◌then◌else◌, IsTrue}
use Rattle.verdict_board.specs.declared.view.Ticket.{Ticket}
use Rattle.verdict_board.specs.declared.view.View.{View}
use Rattle.verdict_board.specs.Numbers.{times, AreBelow}

-- ---- one ticket

-- nothing is drawn
abbrev pub fresh : ℕ → Ticket
fresh limit = record { limit = limit; drawn = [] }

-- the number is drawn
abbrev pub drew : Ticket → ℕ → Ticket
drew t n = record t { drawn = t.drawn ++ n ∷ [] }

-- the numbers of both
abbrev pub both_drawn : Ticket → Ticket → Ticket
both_drawn t u = record t { drawn = t.drawn ++ u.drawn }

-- no number is drawn twice
abbrev pub IsDistinct : Ticket → Type 0
IsDistinct t = (x : ℕ) → times x t.drawn ≤ 1

-- the numbers from 0 on are drawn, up to some number, each once
abbrev pub IsGapless : Ticket → Type 0
IsGapless t = (k : ℕ) × AreBelow k t.drawn

-- ---- views

-- of the first pass, by the limits of both tickets and how often it may split
abbrev pub first_view : ℕ → ℕ → ℕ → View
first_view samples alignments passes = record {
  passes = passes;
  weight = 1;
  splits = passes;
  looks = 0;
  raises = 0;
  seen = false;
  may_draw = false;
  samples = fresh samples;
  alignments = fresh alignments;
}

-- of a pass that was joined into another
abbrev pub spent_view : View
spent_view = record {
  passes = 0;
  weight = 0;
  splits = 0;
  looks = 0;
  raises = 0;
  seen = false;
  may_draw = false;
  samples = fresh 0;
  alignments = fresh 0;
}

-- after a look, which was true where the stop is raised
abbrev pub looked : View → Bool → View
looked v stop = record v { looks = v.looks + 1; seen = v.seen || stop; may_draw = not stop }

-- after a draw of a sample's number
abbrev pub drew_sample : View → ℕ → View
drew_sample v n = record v { may_draw = false; samples = drew v.samples n }

-- after a draw of an alignment's number
abbrev pub drew_alignment : View → ℕ → View
drew_alignment v n = record v { may_draw = false; alignments = drew v.alignments n }

-- after a raise, which was true where it was the first
abbrev pub raised : View → Bool → View
raised v first = record v { raises = v.raises + (if first then 1 else 0); seen = true }

-- of a pass from which another was split
abbrev pub split_left : View → View
split_left v = record v { splits = v.splits - 1 }

-- of the pass that was split off: it knows no more than whether the stop was seen
abbrev pub split_right : View → View
split_right v = record v {
  weight = 1;
  splits = 0;
  looks = 0;
  raises = 0;
  may_draw = false;
  samples = fresh v.samples.limit;
  alignments = fresh v.alignments.limit;
}

-- of a pass that took in another
abbrev pub joined : View → View → View
joined v w = record v {
  weight = v.weight + w.weight;
  splits = v.splits + w.splits;
  looks = v.looks + w.looks;
  raises = v.raises + w.raises;
  seen = v.seen || w.seen;
  may_draw = false;
  samples = both_drawn v.samples w.samples;
  alignments = both_drawn v.alignments w.alignments;
}

-- ---- all passes together

-- every pass that was made is joined into this one: each split that is not left made one
abbrev pub IsWhole : View → Type 0
IsWhole v = v.weight + v.splits ≡ v.passes + 1

-- what is then known: no number was left out, and a stop that was seen was raised once
pub record IsComplete (v : View) : Type 0 where
  pub samples : IsGapless v.samples
  pub alignments : IsGapless v.alignments
  pub stopped : IsTrue v.seen → v.raises ≡ 1

-- what a look at the stop tells
pub record Knows (v : View) : Type 0 where
  pub samples : IsDistinct v.samples
  pub alignments : IsDistinct v.alignments
  pub raises : v.raises ≤ 1
  pub whole : IsWhole v → IsComplete v
