-- A watch that says stop from a given question on.
use Rattle.std.specs.Prelude.{ℕ, zero, suc, Bool, ◌==◌}
use Rattle.re_base.specs.Causes.{raised}

-- how many answers of false are left, and how often it has said stop
pub record Answers : Type 0 where
  pub left : ℕ
  pub stops : ℕ

-- a watch that is to answer false so often
abbrev pub stopping_after : ℕ → Answers
stopping_after after = record { left = after; stops = 0 }

-- Whether its next answer is to stop.
abbrev pub says_stop : Answers → Bool
says_stop answers = answers.left == 0

-- with so many answers of false left, and so many stops before
abbrev pub answered : ℕ → ℕ → Answers
answered zero stops = record { left = 0; stops = raised stops }
answered (suc left) stops = record { left = left; stops = stops }

-- the watch after an answer
abbrev pub after_answer : Answers → Answers
after_answer answers = answered answers.left answers.stops
