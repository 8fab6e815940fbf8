use Rattle.std.proofs.Common.{◌≡◌, ◌++◌, drop}
use Rattle.c_ast.proofs.copy.copy_vars.Given as goal

abbrev pub invariant-loop-var : goal.invariant-loop-var
invariant-loop-var l = l.made ++ drop l.var-index l.vars ≡ l.vars
