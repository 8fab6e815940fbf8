-- The definitions of statements and files on small texts.
use Rattle.std.proofs.Common.{◌≡◌, None, refl, pos, true, false}
use Rattle.std.specs.Prelude.{codes}
use Rattle.c_ast.specs.RawTree as tree
use Rattle.c_ast.specs.RawTree.{RawExpression}
use Rattle.c_ast.specs.declared.expr.BinOp.TheVariants as binary
use Rattle.c_reader.specs.Statements.{ends_open}
use Rattle.c_reader.specs.Depth.{statements_depth}

a : RawExpression
a = tree.Named (codes "a") 1

-- Two `if` around `;`, and then `return a;`, have the depth 3: the block is one deeper.
two_ifs : statements_depth (tree.If a (tree.If a (tree.Empty tree.Nil) tree.Nil) (tree.Return a tree.Nil)) ≡ 3
unfolding a
two_ifs = refl

-- `while (a) if (a) ;` ends open,
open_while : ends_open (tree.While (record { mark = None; cond = a }) (tree.If a (tree.Empty tree.Nil) tree.Nil) tree.Nil) ≡ true
open_while = refl

-- and with braces around the `if` it does not.
closed_while : ends_open
    (tree.While (record { mark = None; cond = a }) (tree.Block (tree.If a (tree.Empty tree.Nil) tree.Nil) tree.Nil) tree.Nil)
    ≡ false
closed_while = refl

-- an increment has the depth 3
increment : statements_depth (tree.Assign (codes "a") 1 (tree.Bin binary.Add 1 a (tree.Num (pos 1))) tree.Nil) ≡ 3
unfolding a
increment = refl
