use Rattle.std.proofs.Common.{to_z-of_z, FitsSigned, rules}
use Rattle.std.specs.Int.{w128}
use Rattle.c_run.proofs.Steps.{takes-If}
use Rattle.c_run.proofs.interpreter.run_if.Goals as goal

pub returns : goal.returns
returns c =
    let fits : FitsSigned w128 c.in-Some.value = search rules in
    takes-If c.args.others.now c.args.a.now c.args.b.now c.branch-value.result.now c.args.e.now c.args.environment.now c.in-Some.value
    c.args.work.now.items c.put.new.work.items c.put-2.new.work.items c.in-Some.ensures.value c.in_ok-put.ensures
    (simp to_z-of_z at c.branch-value.ensures) c.in_ok-put-2.ensures
