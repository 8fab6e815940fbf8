use Rattle.std.proofs.Common.{to_z-of_z, FitsSigned, rules}
use Rattle.std.specs.Int.{w128}
use Rattle.c_run.proofs.Steps.{takes-Set}
use Rattle.c_run.proofs.interpreter.run_set.Goals as goal

pub returns : goal.returns
returns c =
    let fits : FitsSigned w128 c.in-Some.value = search rules in
    rw (to_z-of_z fits)
    (takes-Set c.args.others.now c.args.x c.args.e.now c.args.environment.now c.in-Some.value c.args.work.now.items c.put.new.work.items
    c.in-Some.ensures.value c.in_ok-put.ensures)
