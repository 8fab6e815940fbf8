-- The function of a worked run.
use Rattle.std.specs.Prelude.{Some, true, pos}
use Rattle.c_ast.specs.declared.expr.BinOp.TheVariants.{Add, Less}
use Rattle.c_ast.specs.Tree.{Num, Var, Bin, Nil, Set, Loop, Return, Program}

-- The program int f(int n) { int i = 0; int s = 0; while (__mark(42) & (i < n)) { s = s + i; i = i + 1; } return s; }
abbrev pub sums : Program
sums = record {
  params = 1;
  vars = 3;
  body =
      Set 1 (Num (pos 0)) (Set 2 (Num (pos 0))
      (Loop (Some 42) (Bin Less (Var 1) (Var 0))
      (Set 2 (Bin Add (Var 2) (Var 1)) (Set 1 (Bin Add (Var 1) (Num (pos 1))) Nil)) Nil true (Return (Var 2) Nil)));
}
