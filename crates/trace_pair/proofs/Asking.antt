-- What the condition and the runs answer is the sample's skip.
use Rattle.std.proofs.Common.{◌≡◌, ℕ, List, length, ℤ, Some, refl, sym, subst, arith}
use Rattle.std.specs.Prelude.{Err}
use Rattle.c_ast.specs.declared.expr.Expr.{Expr}
use Rattle.c_ast.specs.declared.place.Side.TheVariants.{A, B}
use Rattle.c_ast.specs.Tree.{Program}
use Rattle.c_ast.specs.View.{expression_of}
use Rattle.c_ast.specs.Value.{CanEvaluate}
use Rattle.c_ast.specs.Step.{first_variables}
use Rattle.c_ast.specs.Function.{program_of}
use Rattle.c_ast.specs.Comparison.{Comparison, IsComparison, IsCondition, condition_of}
use Rattle.c_ast.proofs.Laws.{over_can_evaluate, parameters_are_below}
use Rattle.graph_run.specs.declared.skip.Skip.{Skip}
use Rattle.graph_run.specs.declared.skip.Skip.TheVariants as skip
use Rattle.trace_pair.specs.declared.skipped.PairRefused.{PairRefused}
use Rattle.trace_pair.specs.declared.skipped.PairRefused.TheVariants as refused
use Rattle.trace_pair.specs.Pairs.{input_at, Admits, MeetsFirst, FirstReturns, IsCauseOf, IsSkippedOn, KeepsCause, AnswersRun, AnswersPair}
use Rattle.trace_pair.specs.Laws.{AllAreAdmitted}

pub all_are_admitted : AllAreAdmitted
all_are_admitted inputs = record { fits = refl; met = refl }

-- a condition can be evaluated on an input of its function
pub can_ask : (c : Comparison) (condition : Expr) (inputs : List ℤ) → IsComparison c → c.condition ≡ Some condition → length inputs ≡ c.first.params
    → CanEvaluate (length inputs) (expression_of condition)
can_ask c condition inputs is given arity =
    let over : IsCondition c.first condition = is.condition condition given in
    let below = parameters_are_below c.first.params c.first.params (omega arith) in
    subst (λ (n : ℕ). CanEvaluate n (expression_of condition)) (sym arity)
    (over_can_evaluate (expression_of condition) c.first.params (first_variables c.first.params) below over)

-- ---- what is answered where a run has no trace

first_cause : (marks : ℕ) (f : Program) (inputs : List ℤ) (why : Skip) → MeetsFirst marks f inputs why → IsCauseOf A why
first_cause marks f inputs skip.NotEnded h = tt
first_cause marks f inputs skip.Wide h = tt
first_cause marks f inputs skip.Unmet h = h
first_cause marks f inputs skip.Memory h = h

second_cause : (marks : ℕ) (f : Program) (inputs : List ℤ) (why : Skip) → MeetsFirst marks f inputs why → IsCauseOf B why
second_cause marks f inputs skip.NotEnded h = tt
second_cause marks f inputs skip.Wide h = tt
second_cause marks f inputs skip.Unmet h = h
second_cause marks f inputs skip.Memory h = h

-- An answer that tells the sample's skip, with a cause of its side.
abbrev pub Tells : Comparison → ℕ → PairRefused → Type 0
Tells subject index answer = AnswersPair subject index (Err answer) × KeepsCause answer

-- both runs have this limit of marks and these inputs, which the condition lets through
pub record Asked (subject : Comparison) (index marks : ℕ) (asked inputs : List ℤ) : Type 0 where
  pub marks_are : marks ≡ subject.settings.marks
  pub asked_is : asked ≡ input_at subject index
  pub input_is : inputs ≡ input_at subject index
  pub admitted : Admits (condition_of subject) asked

module _ (subject : Comparison) (index marks : ℕ) (asked inputs : List ℤ) (h : Asked subject index marks asked inputs) where
  let_through : Admits (condition_of subject) (input_at subject index)
  let_through = subst (Admits (condition_of subject)) h.asked_is h.admitted

  met_at : (f : Program) (why : Skip) → MeetsFirst marks f inputs why → MeetsFirst subject.settings.marks f (input_at subject index) why
  met_at f why met = subst (λ i. MeetsFirst subject.settings.marks f i why) h.input_is (subst (λ (m : ℕ). MeetsFirst m f inputs why) h.marks_are met)

  pub first_tells : (answer : PairRefused) → AnswersRun A marks (program_of subject.first) inputs (Err answer) → Tells subject index answer
  first_tells (refused.Skipped skipped) ran =
      let why = met_at (program_of subject.first) skipped.why ran.1 in (
        subst (λ side. IsSkippedOn subject (input_at subject index) side skipped.why) (sym ran.0) (let_through, why),
        subst (λ side. IsCauseOf side skipped.why) (sym ran.0) (first_cause _ _ _ skipped.why why),
      )
  first_tells refused.Memory ran = (tt, tt)

  pub second_tells : FirstReturns subject (input_at subject index) → (answer : PairRefused)
      → AnswersRun B marks (program_of subject.second) inputs (Err answer) → Tells subject index answer
  second_tells first (refused.Skipped skipped) ran =
      let why = met_at (program_of subject.second) skipped.why ran.1 in (
        subst (λ side. IsSkippedOn subject (input_at subject index) side skipped.why) (sym ran.0) (let_through, first, why),
        subst (λ side. IsCauseOf side skipped.why) (sym ran.0) (second_cause _ _ _ skipped.why why),
      )
  second_tells first refused.Memory ran = (tt, tt)
