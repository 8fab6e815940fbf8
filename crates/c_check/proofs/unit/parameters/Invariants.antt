use Rattle.std.proofs.Common.{◌≡◌, drop}
use Rattle.c_check.specs.Resolving.{parameters_at}
use Rattle.c_check.proofs.unit.parameters.Given as goal

abbrev pub invariant-loop-param : goal.invariant-loop-param
invariant-loop-param l = parameters_at l.fn.at l.params ≡ parameters_at l.at (drop l.param-index l.params)
