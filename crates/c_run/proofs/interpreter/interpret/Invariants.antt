use Rattle.std.proofs.Common.{◌-◌}
use Rattle.c_ast.specs.Function.{program_of}
use Rattle.c_ast.specs.Outcome.{outcome_within}
use Rattle.c_run.proofs.Interpreting.{Interprets}
use Rattle.c_run.proofs.interpreter.interpret.Given as goal

abbrev pub invariant-loop-taken : goal.invariant-loop-taken
invariant-loop-taken l =
    Interprets (program_of l.func) (outcome_within l.steps (program_of l.func) l.inputs) (l.steps - l._taken) l.events l.work.items l.environment
