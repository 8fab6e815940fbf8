use Rattle.std.proofs.Common.{◌≡◌, drop}
use Rattle.c_ast.specs.View.{statements_of}
use Rattle.flow_graph.specs.Scopes.{noted}
use Rattle.flow_graph.proofs.scopes.+noting.Given as goal

abbrev pub invariant-note-loop-stmt : goal.invariant-note-loop-stmt
invariant-note-loop-stmt l = noted (statements_of (drop l.stmt-index l.stmts)) l.in_scope.items l.scopes.entries
    ≡ noted (statements_of l.stmts) l.outer l.fn.scopes.entries
