-- Which samples are pairs of runs, and why the others are skipped. The condition on the inputs is asked first, then
-- side A is run, and then side B.
use Rattle.std.specs.Prelude.{◌≡◌, ℕ, true, false, List, ℤ, pos, Result, Ok, Err}
use Rattle.c_ast.specs.declared.trace.Outcome.TheVariants.{Returned, CutOff, Wide}
use Rattle.c_ast.specs.declared.place.Side.{Side}
use Rattle.c_ast.specs.declared.place.Side.TheVariants.{A, B, Pre}
use Rattle.c_ast.specs.declared.trace.Trace.{Trace}
use Rattle.c_ast.specs.declared.trace.Pair.{Pair}
use Rattle.c_ast.specs.Tree.{Expression, Program}
use Rattle.c_ast.specs.Value.{eval}
use Rattle.c_ast.specs.FitsRun.{parts_fit_run}
use Rattle.c_ast.specs.Function.{program_of}
use Rattle.c_ast.specs.Condition.{Meets}
use Rattle.c_ast.specs.Comparison.{Comparison, condition_of}
use Rattle.c_ast.specs.Judged.{IsJudged}
use Rattle.graph_run.specs.declared.skip.Skip.{Skip}
use Rattle.graph_run.specs.declared.skip.Skip.TheVariants as skip
use Rattle.flow_graph.specs.Built.{IsGraphOf}
use Rattle.trace_pair.specs.declared.pairs.Graphs.{Graphs}
use Rattle.trace_pair.specs.declared.skipped.Skipped.{Skipped}
use Rattle.trace_pair.specs.declared.skipped.PairRefused.{PairRefused}
use Rattle.trace_pair.specs.declared.skipped.PairRefused.TheVariants as refused
use Rattle.trace_pair.specs.Inputs.{input_of}

-- The input of a sample, for both functions.
abbrev pub input_at : Comparison → ℕ → List ℤ
input_at subject index = input_of subject.settings index subject.first.params

-- ---- the condition

-- The condition lets the inputs through: each of its parts has a value below 2^100 in size, and the inputs meet it.
pub record Admits (condition : Expression) (inputs : List ℤ) : Type 0 where
  pub fits : parts_fit_run condition inputs ≡ true
  pub met : Meets condition inputs

-- The condition keeps the inputs out for this cause: a part of it has a value of 2^100 or more in size, or else its
-- value is 0.
abbrev pub KeepsOut : Expression → List ℤ → Skip → Type 0
KeepsOut condition inputs skip.NotEnded = ⊥
KeepsOut condition inputs skip.Wide = parts_fit_run condition inputs ≡ false
KeepsOut condition inputs skip.Unmet = (parts_fit_run condition inputs ≡ true) × (eval condition inputs ≡ pos 0)
KeepsOut condition inputs skip.Memory = ⊥

-- ---- one run

-- The run returns with this trace, after at most so many marks and with values below 2^100 in size.
abbrev pub ReturnsWithin : ℕ → Program → List ℤ → Trace → Type 0
ReturnsWithin marks f inputs trace = IsJudged f inputs marks (Returned trace)

-- The run meets this first: mark number `marks + 1`, or a value of 2^100 or more in size. Want of memory and a
-- condition are nothing that a run meets.
abbrev pub MeetsFirst : ℕ → Program → List ℤ → Skip → Type 0
MeetsFirst marks f inputs skip.NotEnded = IsJudged f inputs marks CutOff
MeetsFirst marks f inputs skip.Wide = IsJudged f inputs marks Wide
MeetsFirst marks f inputs skip.Unmet = ⊥
MeetsFirst marks f inputs skip.Memory = ⊥

-- ---- a sample

-- The sample is a pair: the condition lets its input through, and both functions' runs on it return with these traces.
pub record IsPair (subject : Comparison) (index : ℕ) (pair : Pair) : Type 0 where
  pub input : pair.input ≡ input_at subject index
  pub admitted : Admits (condition_of subject) pair.input
  pub first : ReturnsWithin subject.settings.marks (program_of subject.first) pair.input pair.first
  pub second : ReturnsWithin subject.settings.marks (program_of subject.second) pair.input pair.second

-- Side A's run returns on these inputs, with some trace.
pub record FirstReturns (subject : Comparison) (inputs : List ℤ) : Type 0 where
  pub trace : Trace
  pub returns : ReturnsWithin subject.settings.marks (program_of subject.first) inputs trace

-- A sample is skipped for the condition where that keeps its input out; on side A where the condition lets it through
-- and A's run meets the cause; and on side B where A's run returns and B's meets the cause.
abbrev pub IsSkippedOn : Comparison → List ℤ → Side → Skip → Type 0
IsSkippedOn subject inputs Pre why = KeepsOut (condition_of subject) inputs why
IsSkippedOn subject inputs A why =
    Admits (condition_of subject) inputs × MeetsFirst subject.settings.marks (program_of subject.first) inputs why
IsSkippedOn subject inputs B why =
    Admits (condition_of subject) inputs × FirstReturns subject inputs
    × MeetsFirst subject.settings.marks (program_of subject.second) inputs why

-- The sample is skipped on this side for this cause.
abbrev pub IsSkip : Comparison → ℕ → Skipped → Type 0
IsSkip subject index skipped = IsSkippedOn subject (input_at subject index) skipped.side skipped.why

-- What a side may be skipped for: a run, since it does not end or for a wide value; the condition, for a wide value or
-- since the input does not meet it.
abbrev pub IsCauseOf : Side → Skip → Type 0
IsCauseOf A skip.NotEnded = Unit {0}
IsCauseOf A skip.Wide = Unit {0}
IsCauseOf A skip.Unmet = ⊥
IsCauseOf A skip.Memory = ⊥
IsCauseOf B skip.NotEnded = Unit {0}
IsCauseOf B skip.Wide = Unit {0}
IsCauseOf B skip.Unmet = ⊥
IsCauseOf B skip.Memory = ⊥
IsCauseOf Pre skip.NotEnded = ⊥
IsCauseOf Pre skip.Wide = Unit {0}
IsCauseOf Pre skip.Unmet = Unit {0}
IsCauseOf Pre skip.Memory = ⊥

-- ---- answers

-- The cause that a refusal keeps is one of its side's, and never want of memory.
abbrev pub KeepsCause : PairRefused → Type 0
KeepsCause (refused.Skipped skipped) = IsCauseOf skipped.side skipped.why
KeepsCause refused.Memory = Unit {0}

-- What is answered of a sample: the pair, or the skip; want of memory says nothing.
abbrev pub AnswersPair : Comparison → ℕ → Result Pair PairRefused → Type 0
AnswersPair subject index (Ok pair) = IsPair subject index pair
AnswersPair subject index (Err (refused.Skipped skipped)) = IsSkip subject index skipped
AnswersPair subject index (Err refused.Memory) = Unit {0}

-- What is answered of the condition, which takes no memory.
abbrev pub AnswersCondition : Expression → List ℤ → Result (Unit {0}) PairRefused → Type 0
AnswersCondition condition inputs (Ok done) = Admits condition inputs
AnswersCondition condition inputs (Err (refused.Skipped skipped)) =
    (skipped.side ≡ Pre) × KeepsOut condition inputs skipped.why
AnswersCondition condition inputs (Err refused.Memory) = ⊥

-- What is answered of one side's run.
abbrev pub AnswersRun : Side → ℕ → Program → List ℤ → Result Trace PairRefused → Type 0
AnswersRun side marks f inputs (Ok trace) = ReturnsWithin marks f inputs trace
AnswersRun side marks f inputs (Err (refused.Skipped skipped)) =
    (skipped.side ≡ side) × MeetsFirst marks f inputs skipped.why
AnswersRun side marks f inputs (Err refused.Memory) = Unit {0}

-- These are the graphs of both functions.
pub record AreGraphsOf (subject : Comparison) (graphs : Graphs) : Type 0 where
  pub first : IsGraphOf (program_of subject.first) graphs.first
  pub second : IsGraphOf (program_of subject.second) graphs.second
