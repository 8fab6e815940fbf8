use Rattle.std.proofs.Common.{◌∙◌, ◌≡◌, sym, ap, subst, arith}
use Rattle.std.specs.Option.{option_copied}
use Rattle.flow_graph.specs.FlowGraph.{FlowGraph, width_at}
use Rattle.flow_graph.specs.WellFormed.{IsFlowGraph}
use Rattle.flow_graph.proofs.Meeting.{few_in_scope, entry_has_parameters}
use Rattle.flow_graph.proofs.graph.Graph.width_at.Goals as goal

pub overflow_cast-result : goal.overflow_cast-result
overflow_cast-result c =
    let well_formed : IsFlowGraph c.args.self.now = subst IsFlowGraph c.self.view_is c.self.invariant in
    let few = few_in_scope c.args.self.now well_formed c.in-Mark.mark c.unwrap.result.now (sym c.stop.ensures ∙ ap option_copied c.unwrap.ensures) in
    omega (arith, few, c.len.ensures)

pub returns-in-Entry : goal.returns-in-Entry
returns-in-Entry c =
    let params : c.self.inside.params ≡ c.args.self.now.params = ap (λ (graph : FlowGraph). graph.params) c.self.view_is in
    let well_formed : IsFlowGraph c.args.self.now = subst IsFlowGraph c.self.view_is c.self.invariant in
    params ∙ sym (entry_has_parameters c.args.self.now well_formed) ∙ sym (ap (width_at c.args.self.now) c.in-Entry.is)
