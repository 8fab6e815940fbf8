use Rattle.std.proofs.Common.{◌+◌, arith, FitsSigned, to_z-of_z, rules}
use Rattle.std.specs.Int.{w128}
use Rattle.c_ast.proofs.Environments.{inputs_one}
use Rattle.c_ast.proofs.scope.first_environment.Goals as goal

pub loop-x-preserved : goal.loop-x-preserved
loop-x-preserved c =
    let fits : FitsSigned w128 c.input_at.result = search rules in
    let items = simp to_z-of_z at c.in_ok-push.ensures.items in
    rw items (inputs_one c.args.inputs.now c.args.vars c.loop-x.x (c.loop-x.x + 1) c.loop-x.values.items c.input_at.result
    (omega arith) c.loop-x-test.true c.input_at.ensures c.loop-x.invariant)
