use Rattle.std.proofs.Common.{◌≡◌, drop, map, Bool}
use Rattle.c_ast.specs.RawTree as raw
use Rattle.c_ast.specs.RawTree.{RawStatements}
use Rattle.c_ast.specs.RawView.{raw_declared_of}
use Rattle.c_check.specs.Resolving.{statements_at, with_front, joined_to}
use Rattle.c_check.proofs.resolver.Resolver.declarators.Given as goal

abbrev pub invariant-loop-declared : goal.invariant-loop-declared
invariant-loop-declared l = (in_loop : Bool) (others : RawStatements)
    → with_front (joined_to l.fn.made) (statements_at l.fn.self in_loop (raw.Declare (map raw_declared_of l.declarators) others))
    ≡ with_front (joined_to l.made) (statements_at l.self in_loop (raw.Declare (map raw_declared_of (drop l.declared-index l.declarators)) others))
