use Rattle.std.proofs.Common.{◌≡◌, drop}
use Rattle.c_check.specs.Resolving.{with_variables}
use Rattle.c_check.proofs.resolver.Resolver.add_all.Given as goal

abbrev pub invariant-loop-var : goal.invariant-loop-var
invariant-loop-var l = with_variables l.fn.self l.vars ≡ with_variables l.self (drop l.var-index l.vars)
