use Rattle.std.proofs.lemmas.Result.{IfOk-weaker}
use Rattle.c_ast.specs.Function.{program_of}
use Rattle.flow_graph.proofs.Stopping.{all_known, are_stops}
use Rattle.flow_graph.proofs.stop.stops_of.Goals as goal

pub join-requires : goal.join-requires
join-requires c =
    all_known (program_of c.args.func.now) c.args.ops.now c.in_ok-nexts.nexts c.requires c.in_ok-nexts.ensures c.in_ok-scopes.scopes.entries
    c.in_ok-scopes.ensures

pub returns : goal.returns
returns c =
    IfOk-weaker c.join.result _ _ (λ stops. are_stops (program_of c.args.func.now) c.args.ops.now c.in_ok-nexts.nexts c.requires c.in_ok-nexts.ensures
    c.in_ok-scopes.scopes stops.items c.in_ok-scopes.ensures c.join.ensures.ordered) c.join.ensures.joined
