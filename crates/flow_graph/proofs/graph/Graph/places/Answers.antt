use Rattle.std.proofs.Common.{◌≤◌, length, sym, ap, subst, All, arith}
use Rattle.std.specs.List.Sorted.{IsStrictlyIncreasing}
use Rattle.flow_graph.specs.FlowGraph.{FlowGraph, marks_among, HasPlace}
use Rattle.flow_graph.specs.WellFormed.{IsFlowGraph}
use Rattle.flow_graph.proofs.Places.{places_are, places_listed, marks_rise}
use Rattle.flow_graph.proofs.graph.Graph.places.Goals as goal

pub returns : goal.returns
returns c =
    let stops = ap (λ (graph : FlowGraph). length graph.stops) c.self.view_is in
    let past : length c.args.self.now.stops ≤ c.loop-stop.stop-index = omega (arith, stops, c.loop-stop-test.false, ap length c.as_slice-stop-items.ensures) in
    let are = places_listed c.args.self.now.stops c.loop-stop.stop-index c.loop-stop.places.items c.push-2.new.self.items past c.loop-stop.invariant
    c.in_ok-push-3.ensures.items in
    let well_formed : IsFlowGraph c.args.self.now = subst IsFlowGraph c.self.view_is c.self.invariant in
    record {
      places = are;
      each = subst (λ places. All (HasPlace c.args.self.now) places) (sym are) (places_are c.args.self.now);
      rising = subst (λ places. IsStrictlyIncreasing (marks_among places)) (sym are) (marks_rise c.args.self.now well_formed.rising);
    }
