-- The definitions on small functions.
use Rattle.std.proofs.Common.{◌≡◌, true, false, [], ◌∷◌, Some, pos, negsuc, refl}
use Rattle.c_ast.specs.declared.expr.UnOp.TheVariants.{Minus, Not}
use Rattle.c_ast.specs.declared.expr.BinOp.TheVariants.{Add, Sub, Mul, Less, And}
use Rattle.c_ast.specs.Tree.{Expression, Num, Var, Un, Bin, Cond, Statements, Nil, Set, If, Loop, Break, Continue, Return, Block, Program}
use Rattle.c_ast.specs.Value.{eval}
use Rattle.c_ast.specs.Returns.{Returns}

-- !(a - 7) && b ? -a : 2 * b
choice : Expression
choice = Cond (Bin And (Un Not (Bin Sub (Var 0) (Num (pos 7)))) (Var 1)) (Un Minus (Var 0)) (Bin Mul (Num (pos 2)) (Var 1))

chosen_first : eval choice (pos 7 ∷ negsuc 0 ∷ []) ≡ negsuc 6
unfolding choice
chosen_first = refl

chosen_second : eval choice (pos 7 ∷ pos 0 ∷ []) ≡ pos 0
unfolding choice
chosen_second = refl

-- int f(int a) { return a + a; }
double : Program
double = record { params = 1; vars = 1; body = Return (Bin Add (Var 0) (Var 0)) Nil }

doubled : Returns double (negsuc 4 ∷ []) (negsuc 9)
unfolding double
doubled = record { steps = 1; ends = refl }

-- int f(void) { }
empty : Program
empty = record { params = 0; vars = 0; body = Nil }

fell_off : Returns empty [] (pos 0)
unfolding empty
fell_off = record { steps = 2; ends = refl }

-- int f(int n) { int s = 0; for (int i = 0; i < n; i++) { if (i == 1) continue; s += i; } return s; }, with i - 1 for the test
skipping : Statements
skipping =
    Set 1 (Num (pos 0)) (Block (Set 2 (Num (pos 0)) (Loop (Some 1000000) (Bin Less (Var 2) (Var 0))
    (If (Un Not (Bin Sub (Var 2) (Num (pos 1)))) (Continue Nil) Nil (Set 1 (Bin Add (Var 1) (Var 2)) Nil))
    (Set 2 (Bin Add (Var 2) (Num (pos 1))) Nil) true Nil)) (Return (Var 1) Nil))

skipper : Program
skipper = record { params = 1; vars = 3; body = skipping }

skipped : Returns skipper (pos 4 ∷ []) (pos 5)
unfolding skipper skipping
skipped = record { steps = 60; ends = refl }

-- int f(int n) { do { int t = n; if (t) break; } while (1); return n; }
once : Program
once = record {
  params = 1;
  vars = 2;
  body = Loop (Some 1000000) (Num (pos 1)) (Set 1 (Num (pos 0)) (Set 1 (Var 0) (If (Var 1) (Break Nil) Nil Nil))) Nil false (Return (Var 0) Nil);
}

broke : Returns once (pos 5 ∷ []) (pos 5)
unfolding once
broke = record { steps = 60; ends = refl }
