-- The operations that the definitions read: those of the nodes without their boxes.
use Rattle.std.specs.Prelude.{ℕ}
use Rattle.c_ast.specs.Tree.{Expression}
use Rattle.c_ast.specs.View.{expression_of}
use Rattle.flow_graph.specs.declared.op.Op.{Op}
use Rattle.flow_graph.specs.declared.op.Op.TheVariants as op

-- What a node does, and the nodes that may come next.
pub data Operation : Type 0 where
  Set : ℕ → Expression → ℕ → Operation
  -- the second node comes next where the condition is 0
  Branch : Expression → ℕ → ℕ → Operation
  Mark : ℕ → ℕ → Operation
  Return : Expression → Operation

-- The operation of a node.
abbrev pub operation_of : Op → Operation
operation_of (op.Set x e next) = Set x (expression_of e) next
operation_of (op.Branch e first second) = Branch (expression_of e) first second
operation_of (op.Mark mark next) = Mark mark next
operation_of (op.Return e) = Return (expression_of e)
