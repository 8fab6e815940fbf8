use Rattle.std.specs.Prelude.{◌≡◌, length, All}
use Rattle.std.proofs.Common.{ap, ◌∙◌}
use Rattle.std.proofs.lemmas.Result.{IfOk-weaker}
use Rattle.std.proofs.lemmas.List.Elements.{All-same}
use Rattle.trace_pair.specs.Inputs.{IsNear}
use Rattle.trace_pair.proofs.Grid.{grid_is_near}
use Rattle.trace_pair.proofs.Words.{words_are_near}
use Rattle.trace_pair.proofs.Inputting.{length-grid, length-later}
use Rattle.trace_pair.proofs.inputs.input.Goals as goal

pub returns-then-index-power_of_five-clause-arity : goal.returns-then-index-power_of_five-clause-arity
returns-then-index-power_of_five-clause-arity c =
    IfOk-weaker c.grid_input.result _ (λ values. length values.items ≡ c.args.arity) (λ values is. ap length is ∙ length-grid c.args.index c.args.arity)
    c.grid_input.ensures

pub returns-else-index-power_of_five-clause-arity : goal.returns-else-index-power_of_five-clause-arity
returns-else-index-power_of_five-clause-arity c =
    IfOk-weaker c.later_input.result _ (λ values. length values.items ≡ c.args.arity) (λ values is. ap length is ∙ length-later c.args.arity _)
    c.later_input.ensures

pub returns-then-index-power_of_five-clause-near : goal.returns-then-index-power_of_five-clause-near
returns-then-index-power_of_five-clause-near c =
    IfOk-weaker c.grid_input.result _ (λ values. All IsNear values.items)
    (λ values is. All-same IsNear values.items _ is (grid_is_near c.args.index c.args.arity)) c.grid_input.ensures

pub returns-else-index-power_of_five-clause-near : goal.returns-else-index-power_of_five-clause-near
returns-else-index-power_of_five-clause-near c =
    IfOk-weaker c.later_input.result _ (λ values. All IsNear values.items) (λ values is. All-same IsNear values.items _ is (words_are_near c.args.arity _))
    c.later_input.ensures
