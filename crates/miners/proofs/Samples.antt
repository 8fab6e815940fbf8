-- The definitions on small cases.
use Rattle.std.proofs.Common.{◌≡◌, [], ◌∷◌, Some, None, true, pos, negsuc, refl}
use Rattle.c_ast.specs.declared.expr.BinOp.TheVariants.{Add, Less}
use Rattle.c_ast.specs.Tree.{Num, Var, Bin, Nil, Set, Loop, Return, Program}
use Rattle.horn_clauses.specs.declared.atom.Atom.TheVariants.{Linear}
use Rattle.horn_clauses.specs.declared.atom.Rel.TheVariants.{Eq, AtLeast}
use Rattle.miners.specs.Constants.{rising, bound_constants}
use Rattle.miners.specs.Mined.{shapes, bound_shapes, mined}
use Rattle.miners.specs.Candidates.{mined_of}

-- int f(int n) { int s = 0; while (__mark(42) & (s < 100)) s = s + 7; return s + 100; }, where the mark is no constant
sevens : Program
sevens = record {
  params = 1;
  vars = 2;
  body = Set 1 (Num (pos 0)) (Loop (Some 42) (Bin Less (Var 1) (Num (pos 100))) (Set 1 (Bin Add (Var 1) (Num (pos 7))) Nil) Nil true
      (Return (Bin Add (Var 1) (Num (pos 100))) Nil));
}

constants : bound_constants sevens sevens ≡ negsuc 0 ∷ pos 0 ∷ pos 1 ∷ pos 7 ∷ pos 100 ∷ []
unfolding sevens
constants = refl

once_each : rising (pos 3 ∷ pos 2 ∷ pos 3 ∷ pos 9 ∷ []) ≡ pos 2 ∷ pos 3 ∷ pos 9 ∷ []
once_each = refl

-- x alone
one_variable : shapes 1 ≡ (pos 1 ∷ []) ∷ []
one_variable = refl

-- of two variables: 2x + y, 2x - y, x + 2y, x + y, x, x - y, x - 2y, y
two_variables : shapes 2
    ≡ (pos 2 ∷ pos 1 ∷ []) ∷ (pos 2 ∷ negsuc 0 ∷ []) ∷ (pos 1 ∷ pos 2 ∷ []) ∷ (pos 1 ∷ pos 1 ∷ []) ∷ (pos 1 ∷ pos 0 ∷ []) ∷ (pos 1 ∷ negsuc 0 ∷ [])
    ∷ (pos 1 ∷ negsuc 1 ∷ []) ∷ (pos 0 ∷ pos 1 ∷ []) ∷ []
two_variables = refl

-- x, x - y, y, -x + y, -x, -y
bounds_of_two : bound_shapes 2
    ≡ (pos 1 ∷ pos 0 ∷ []) ∷ (pos 1 ∷ negsuc 0 ∷ []) ∷ (pos 0 ∷ pos 1 ∷ []) ∷ (pos 0 ∷ negsuc 0 ∷ []) ∷ (negsuc 0 ∷ pos 1 ∷ []) ∷ (negsuc 0 ∷ pos 0 ∷ []) ∷ []
bounds_of_two = refl

-- the results 8 and 8, then 3 and 3: they are equal, and each is at least -1
two_points : mined (negsuc 0 ∷ []) (pos 8 ∷ pos 8 ∷ []) ((pos 3 ∷ pos 3 ∷ []) ∷ [])
    ≡ Linear (pos 1 ∷ negsuc 0 ∷ []) (pos 0) Eq
    ∷ Linear (pos 1 ∷ pos 0 ∷ []) (negsuc 0) AtLeast
    ∷ Linear (pos 1 ∷ negsuc 0 ∷ []) (negsuc 0) AtLeast
    ∷ Linear (pos 0 ∷ pos 1 ∷ []) (negsuc 0) AtLeast
    ∷ Linear (negsuc 0 ∷ pos 1 ∷ []) (negsuc 0) AtLeast ∷ []
two_points = refl

-- x = 5 at one point, and x >= -1 and x >= 5
one_point : mined_of (negsuc 0 ∷ pos 5 ∷ []) ((pos 5 ∷ []) ∷ [])
    ≡ Some (Linear (pos 1 ∷ []) (pos 5) Eq ∷ Linear (pos 1 ∷ []) (negsuc 0) AtLeast ∷ Linear (pos 1 ∷ []) (pos 5) AtLeast ∷ [])
one_point = refl

no_point : mined_of (negsuc 0 ∷ []) [] ≡ None
no_point = refl
