-- A sample has one answer, and the traces of a pair are those of its functions.
use Rattle.std.proofs.Common.{◌≡◌, ℕ, false, length, List, ℤ, refl, sym, ap, ◌∙◌, subst}
use Rattle.std.proofs.lemmas.List.Elements.{All-same}
use Rattle.c_ast.specs.declared.trace.Outcome.TheVariants as outcome
use Rattle.c_ast.specs.declared.place.Side.{Side}
use Rattle.c_ast.specs.declared.place.Side.TheVariants.{A, B, Pre}
use Rattle.c_ast.specs.declared.trace.Trace.{Trace}
use Rattle.c_ast.specs.declared.trace.Pair.{Pair}
use Rattle.c_ast.specs.Tree.{Expression, Program}
use Rattle.c_ast.specs.Value.{eval, is_nonzero}
use Rattle.c_ast.specs.Function.{program_of}
use Rattle.c_ast.specs.Comparison.{Comparison, condition_of}
use Rattle.c_ast.proofs.Laws.{is_judged_once, judged_is_trace, trace_returns}
use Rattle.graph_run.specs.declared.skip.Skip.{Skip}
use Rattle.graph_run.specs.declared.skip.Skip.TheVariants as skip
use Rattle.graph_run.specs.Answers.{AllFitRun}
use Rattle.graph_run.proofs.Laws.{judged_fits}
use Rattle.trace_pair.specs.Inputs.{IsNear}
use Rattle.trace_pair.specs.Pairs.{input_at, Admits, KeepsOut, ReturnsWithin, MeetsFirst, IsPair, IsSkippedOn}
use Rattle.trace_pair.specs.Laws.{IsOnePair, IsOneSkip, PairIsNoSkip, IsTraceWithin, PairHasTraces}
use Rattle.trace_pair.proofs.Inputting.{length_of_input, near_input_of, near_all_fit}

-- ---- one run

module _ (marks : ℕ) (f : Program) (inputs : List ℤ) where
  one_return : (s t : Trace) → ReturnsWithin marks f inputs s → ReturnsWithin marks f inputs t → s ≡ t
  one_return s t h k = let same : outcome.Returned s ≡ outcome.Returned t = is_judged_once f inputs marks _ _ h k in cc

  one_cause : (v w : Skip) → MeetsFirst marks f inputs v → MeetsFirst marks f inputs w → v ≡ w
  one_cause skip.NotEnded skip.NotEnded h k = refl
  one_cause skip.NotEnded skip.Wide h k = let same : outcome.CutOff ≡ outcome.Wide = is_judged_once f inputs marks _ _ h k in cc
  one_cause skip.NotEnded skip.Unmet h k = absurd k
  one_cause skip.NotEnded skip.Memory h k = absurd k
  one_cause skip.Wide skip.NotEnded h k = let same : outcome.Wide ≡ outcome.CutOff = is_judged_once f inputs marks _ _ h k in cc
  one_cause skip.Wide skip.Wide h k = refl
  one_cause skip.Wide skip.Unmet h k = absurd k
  one_cause skip.Wide skip.Memory h k = absurd k
  one_cause skip.Unmet w h k = absurd h
  one_cause skip.Memory w h k = absurd h

  returns_or_not : (t : Trace) (w : Skip) → ReturnsWithin marks f inputs t → MeetsFirst marks f inputs w → ⊥
  returns_or_not t skip.NotEnded h k = let same : outcome.Returned t ≡ outcome.CutOff = is_judged_once f inputs marks _ _ h k in cc
  returns_or_not t skip.Wide h k = let same : outcome.Returned t ≡ outcome.Wide = is_judged_once f inputs marks _ _ h k in cc
  returns_or_not t skip.Unmet h k = k
  returns_or_not t skip.Memory h k = k

  trace_within : (t : Trace) → AllFitRun inputs → ReturnsWithin marks f inputs t → IsTraceWithin marks f inputs t
  trace_within t fits h =
      let is = judged_is_trace f inputs marks t h in
      record { is = is.0; few = is.1; fits = judged_fits f inputs marks t fits h; returns = (trace_returns f inputs t.result).1 (t, is.0, refl) }

-- ---- the condition

module _ (condition : Expression) (inputs : List ℤ) where
  one_reason : (v w : Skip) → KeepsOut condition inputs v → KeepsOut condition inputs w → v ≡ w
  one_reason skip.NotEnded w h k = absurd h
  one_reason skip.Wide skip.NotEnded h k = absurd k
  one_reason skip.Wide skip.Wide h k = refl
  one_reason skip.Wide skip.Unmet h k = let fits = k.0 in absurd cc
  one_reason skip.Wide skip.Memory h k = absurd k
  one_reason skip.Unmet skip.NotEnded h k = absurd k
  one_reason skip.Unmet skip.Wide h k = let fits = h.0 in absurd cc
  one_reason skip.Unmet skip.Unmet h k = refl
  one_reason skip.Unmet skip.Memory h k = absurd k
  one_reason skip.Memory w h k = absurd h

  admitted_or_not : (w : Skip) → Admits condition inputs → KeepsOut condition inputs w → ⊥
  admitted_or_not skip.NotEnded h k = k
  admitted_or_not skip.Wide h k = let fits = h.fits in cc
  admitted_or_not skip.Unmet h k =
      let met = h.met in let zero : is_nonzero (eval condition inputs) ≡ false = ap is_nonzero k.1 in cc
  admitted_or_not skip.Memory h k = k

-- ---- both runs

same_parts : (p q : Pair) → p.input ≡ q.input → p.first ≡ q.first → p.second ≡ q.second → p ≡ q
same_parts p q input first second =
    ap (λ i. record { input = i; first = p.first; second = p.second }) input ∙ ap (λ t. record { input = q.input; first = t; second = p.second }) first
    ∙ ap (λ t. record { input = q.input; first = q.first; second = t }) second

-- the runs of a pair on the sample's input
record RunsAt (subject : Comparison) (index : ℕ) (pair : Pair) : Type 0 where
  admitted : Admits (condition_of subject) (input_at subject index)
  first : ReturnsWithin subject.settings.marks (program_of subject.first) (input_at subject index) pair.first
  second : ReturnsWithin subject.settings.marks (program_of subject.second) (input_at subject index) pair.second

runs_at : (subject : Comparison) (index : ℕ) (pair : Pair) → IsPair subject index pair → RunsAt subject index pair
runs_at subject index pair is = record {
  admitted = subst (Admits (condition_of subject)) is.input is.admitted;
  first = subst (λ inputs. ReturnsWithin subject.settings.marks (program_of subject.first) inputs pair.first) is.input is.first;
  second = subst (λ inputs. ReturnsWithin subject.settings.marks (program_of subject.second) inputs pair.second) is.input is.second;
}

pub one_pair : IsOnePair
one_pair subject index p q is_p is_q =
    let h = runs_at subject index p is_p in
    let k = runs_at subject index q is_q in
    let first = one_return _ _ _ p.first q.first h.first k.first in
    let second = one_return _ _ _ p.second q.second h.second k.second in
    same_parts p q (is_p.input ∙ sym is_q.input) first second

one_side : (subject : Comparison) (inputs : List ℤ) (x y : Side) (v w : Skip)
    → IsSkippedOn subject inputs x v → IsSkippedOn subject inputs y w → (x ≡ y) × (v ≡ w)
one_side subject inputs A A v w h k = (refl, one_cause _ _ _ v w h.1 k.1)
one_side subject inputs A B v w h k = absurd (returns_or_not _ _ _ k.1.trace v k.1.returns h.1)
one_side subject inputs A Pre v w h k = absurd (admitted_or_not (condition_of subject) inputs w h.0 k)
one_side subject inputs B A v w h k = absurd (returns_or_not _ _ _ h.1.trace w h.1.returns k.1)
one_side subject inputs B B v w h k = (refl, one_cause _ _ _ v w h.2 k.2)
one_side subject inputs B Pre v w h k = absurd (admitted_or_not (condition_of subject) inputs w h.0 k)
one_side subject inputs Pre A v w h k = absurd (admitted_or_not (condition_of subject) inputs v k.0 h)
one_side subject inputs Pre B v w h k = absurd (admitted_or_not (condition_of subject) inputs v k.0 h)
one_side subject inputs Pre Pre v w h k = (refl, one_reason (condition_of subject) inputs v w h k)

pub one_skip : IsOneSkip
one_skip subject index s t h k =
    let same = one_side subject (input_at subject index) s.side t.side s.why t.why h k in
    ap (λ side. record { side = side; why = s.why }) same.0 ∙ ap (λ why. record { side = t.side; why = why }) same.1

pub pair_is_no_skip : PairIsNoSkip
pair_is_no_skip subject index pair skipped is h =
    let runs = runs_at subject index pair is in
    on skipped.side runs h
  where
    on : (side : Side) → RunsAt subject index pair → IsSkippedOn subject (input_at subject index) side skipped.why → ⊥
    on A runs h = returns_or_not _ _ _ pair.first skipped.why runs.first h.1
    on B runs h = returns_or_not _ _ _ pair.second skipped.why runs.second h.2
    on Pre runs h = admitted_or_not (condition_of subject) (input_at subject index) skipped.why runs.admitted h

pub pair_has_traces : PairHasTraces
pair_has_traces subject index pair is =
    let near = All-same IsNear pair.input _ is.input (near_input_of subject.settings index subject.first.params) in
    let fits = near_all_fit pair.input near in
    record {
      arity = ap length is.input ∙ length_of_input subject.settings index subject.first.params;
      near = near;
      met = is.admitted.met;
      first = trace_within _ _ _ pair.first fits is.first;
      second = trace_within _ _ _ pair.second fits is.second;
    }
