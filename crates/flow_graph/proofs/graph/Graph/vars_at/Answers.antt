use Rattle.std.proofs.Common.{◌∙◌, ◌≡◌, ℕ, List, sym, ap, subst, arith}
use Rattle.std.specs.List.Sorted.{IsStrictlyIncreasing}
use Rattle.c_ast.specs.declared.place.Place.{Place}
use Rattle.flow_graph.specs.FlowGraph.{FlowGraph, variables_at}
use Rattle.flow_graph.specs.WellFormed.{IsFlowGraph}
use Rattle.flow_graph.proofs.Meeting.{variables_rise}
use Rattle.flow_graph.proofs.Listing.{parameter_listed, parameters_listed}
use Rattle.flow_graph.proofs.graph.Graph.vars_at.Goals as goal

-- the variables that the code has listed are the place's, and rise
listed : (graph : FlowGraph) → IsFlowGraph graph → (place : Place) (variables : List ℕ) → variables ≡ variables_at graph place
    → (variables ≡ variables_at graph place) × IsStrictlyIncreasing variables
listed graph is place variables is_listed = (is_listed, subst IsStrictlyIncreasing (sym is_listed) (variables_rise graph is place))

pub loop-x-preserved : goal.loop-x-preserved
loop-x-preserved c =
    let params : c.self.inside.params ≡ c.args.self.now.params = ap (λ (graph : FlowGraph). graph.params) c.self.view_is in
    let vars : c.self.inside.vars ≡ c.args.self.now.vars = ap (λ (graph : FlowGraph). graph.vars) c.self.view_is in
    parameter_listed c.args.self.now.params c.args.self.now.vars c.loop-x.x _ c.loop-x.variables.items c.push.new.self.items (omega arith)
    (omega (arith, params, c.loop-x-test.true))
    (omega (arith, params, vars, c.self.invariant.parameters)) c.loop-x.invariant c.in_ok-push-in-Entry.ensures.items

pub returns-after-loop-x : goal.returns-after-loop-x
returns-after-loop-x c =
    let params : c.self.inside.params ≡ c.args.self.now.params = ap (λ (graph : FlowGraph). graph.params) c.self.view_is in
    let well_formed : IsFlowGraph c.args.self.now = subst IsFlowGraph c.self.view_is c.self.invariant in
    let all = parameters_listed c.args.self.now.params c.args.self.now.vars c.loop-x.x c.loop-x.variables.items (omega (arith, params, c.loop-x-test.false))
    c.loop-x.invariant
    ∙ sym (ap (variables_at c.args.self.now) c.in-Entry.is) in
    let both = listed c.args.self.now well_formed c.args.place c.loop-x.variables.items all in
    record { listed = both.0; rising = both.1 }
