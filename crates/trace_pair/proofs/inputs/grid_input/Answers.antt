use Rattle.std.proofs.Common.{sym, arith, rules, FitsSigned, to_z-of_z}
use Rattle.std.specs.Int.{w128}
use Rattle.std.proofs.lemmas.List.FromFn.{map-range_with_len_more}
use Rattle.trace_pair.specs.Inputs.{grid_value}
use Rattle.trace_pair.proofs.inputs.grid_input.Goals as goal

pub loop-parameter-preserved : goal.loop-parameter-preserved
loop-parameter-preserved c =
    let fits : FitsSigned w128 c.grid_value.result = search (rules, c.grid_value.type_inv) in
    let more = map-range_with_len_more (grid_value c.args.index) 0 c.loop-parameter.parameter c.loop-parameter.parameter (omega arith) in
    rw c.in_ok-push.ensures.items (simp to_z-of_z (rw (c.grid_value.ensures, c.loop-parameter.invariant) (sym more)))
