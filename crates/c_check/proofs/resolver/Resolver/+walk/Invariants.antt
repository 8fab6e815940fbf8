use Rattle.std.proofs.Common.{◌≡◌, drop}
use Rattle.c_ast.specs.RawView.{raw_statements_of}
use Rattle.c_check.specs.Resolving.{statements_at, with_front, joined_to}
use Rattle.c_check.proofs.resolver.Resolver.+walk.Given as goal

abbrev pub invariant-items-loop-stmt : goal.invariant-items-loop-stmt
invariant-items-loop-stmt l =
    statements_at l.fn.self l.in_loop (raw_statements_of l.stmts) ≡ with_front (joined_to l.made)
    (statements_at l.self l.in_loop (raw_statements_of (drop l.stmt-index l.stmts)))
