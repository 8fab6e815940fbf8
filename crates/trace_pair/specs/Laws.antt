-- Laws of samples.
use Rattle.std.specs.Prelude.{◌≡◌, ℕ, ◌≤◌, List, ℤ, length, All}
use Rattle.c_ast.specs.declared.trace.Trace.{Trace}
use Rattle.c_ast.specs.declared.trace.Pair.{Pair}
use Rattle.c_ast.specs.Tree.{Program}
use Rattle.c_ast.specs.Function.{program_of}
use Rattle.c_ast.specs.Returns.{Returns}
use Rattle.c_ast.specs.Trace.{IsTrace}
use Rattle.c_ast.specs.Comparison.{Comparison, condition_of}
use Rattle.c_ast.specs.Condition.{Meets, no_condition}
use Rattle.graph_run.specs.Answers.{TraceFitsRun}
use Rattle.trace_pair.specs.declared.skipped.Skipped.{Skipped}
use Rattle.trace_pair.specs.Inputs.{IsNear}
use Rattle.trace_pair.specs.Pairs.{Admits, IsPair, IsSkip}

-- A sample is one pair at most.
abbrev pub IsOnePair : Type 0
IsOnePair = (subject : Comparison) (index : ℕ) (p q : Pair) → IsPair subject index p → IsPair subject index q → p ≡ q

-- A sample is skipped on one side, or for the condition, and for one cause at most.
abbrev pub IsOneSkip : Type 0
IsOneSkip = (subject : Comparison) (index : ℕ) (s t : Skipped) → IsSkip subject index s → IsSkip subject index t → s ≡ t

-- A pair is not skipped.
abbrev pub PairIsNoSkip : Type 0
PairIsNoSkip = (subject : Comparison) (index : ℕ) (pair : Pair) (skipped : Skipped)
    → IsPair subject index pair → ¬ IsSkip subject index skipped

-- A function's trace on these inputs: of at most so many marks, of values below 2^100 in size, and with the result that
-- the function returns.
pub record IsTraceWithin (marks : ℕ) (f : Program) (inputs : List ℤ) (trace : Trace) : Type 0 where
  pub is : IsTrace f inputs trace
  pub few : length trace.events ≤ marks
  pub fits : TraceFitsRun trace
  pub returns : Returns f inputs trace.result

-- The input of a pair has a value from -20 to 20 for each parameter and meets the condition, and the pair's traces are
-- those of the functions on it.
pub record HasTraces (subject : Comparison) (pair : Pair) : Type 0 where
  pub arity : length pair.input ≡ subject.first.params
  pub near : All IsNear pair.input
  pub met : Meets (condition_of subject) pair.input
  pub first : IsTraceWithin subject.settings.marks (program_of subject.first) pair.input pair.first
  pub second : IsTraceWithin subject.settings.marks (program_of subject.second) pair.input pair.second

-- A pair has the traces of both functions.
abbrev pub PairHasTraces : Type 0
PairHasTraces = (subject : Comparison) (index : ℕ) (pair : Pair) → IsPair subject index pair → HasTraces subject pair

-- Where no condition is given, all inputs are let through.
abbrev pub AllAreAdmitted : Type 0
AllAreAdmitted = (inputs : List ℤ) → Admits no_condition inputs
