-- What comes of small functions, worked out by hand from the meaning of C's statements. The interpreter answers the same.
use Rattle.std.proofs.Common.{◌≡◌, true, false, [], ◌∷◌, Some, pos, negsuc, refl}
use Rattle.c_ast.specs.declared.expr.BinOp.TheVariants.{Add, Mul, Less, Equal}
use Rattle.c_ast.specs.declared.trace.Outcome.TheVariants.{Returned, Wide, CutOff}
use Rattle.c_ast.specs.Tree.{Num, Var, Bin, Nil, Set, If, Loop, Break, Continue, Return, Block, Program}
use Rattle.c_ast.specs.Outcome.{outcome_within}
use Rattle.c_ast.specs.Judged.{at_most}
use Rattle.c_ast.specs.Sums.{sums}

sums_two : outcome_within 20 sums (pos 2 ∷ []) ≡ Returned (record {
  events =
      record { mark = 42; values = pos 2 ∷ pos 0 ∷ pos 0 ∷ [] } ∷ record { mark = 42; values = pos 2 ∷ pos 1 ∷ pos 0 ∷ [] }
      ∷ record { mark = 42; values = pos 2 ∷ pos 2 ∷ pos 1 ∷ [] } ∷ [];
  result = pos 1;
})
sums_two = refl

-- the last step returns, so one step less cuts the run off
sums_last : outcome_within 19 sums (pos 2 ∷ []) ≡ CutOff
sums_last = refl

-- int f(int n) { int s = 0; for (int i = 0; __mark(7) & (i < n); i = i + 1) { if (i == 1) continue; s = s + i; } return s; }
skips : Program
skips = record {
  params = 1;
  vars = 3;
  body =
      Set 1 (Num (pos 0)) (Block (Set 2 (Num (pos 0)) (Loop (Some 7) (Bin Less (Var 2) (Var 0))
      (If (Bin Equal (Var 2) (Num (pos 1))) (Continue Nil) Nil (Set 1 (Bin Add (Var 1) (Var 2)) Nil))
      (Set 2 (Bin Add (Var 2) (Num (pos 1))) Nil) true Nil)) (Return (Var 1) Nil));
}

-- `continue` runs the third part
skips_three : outcome_within 80 skips (pos 3 ∷ []) ≡ Returned (record {
  events =
      record { mark = 7; values = pos 3 ∷ pos 0 ∷ pos 0 ∷ [] } ∷ record { mark = 7; values = pos 3 ∷ pos 0 ∷ pos 1 ∷ [] }
      ∷ record { mark = 7; values = pos 3 ∷ pos 0 ∷ pos 2 ∷ [] } ∷ record { mark = 7; values = pos 3 ∷ pos 2 ∷ pos 3 ∷ [] } ∷ [];
  result = pos 2;
})
unfolding skips
skips_three = refl

-- int f(int n) { int i = 0; while (__mark(1) & (i < n)) { while (__mark(2) & 1) { break; } i = i + 1; } return i; }
breaks : Program
breaks = record {
  params = 1;
  vars = 2;
  body =
      Set 1 (Num (pos 0)) (Loop (Some 1) (Bin Less (Var 1) (Var 0))
      (Loop (Some 2) (Num (pos 1)) (Break Nil) Nil true (Set 1 (Bin Add (Var 1) (Num (pos 1))) Nil)) Nil true (Return (Var 1) Nil));
}

-- `break` leaves the inner loop alone
breaks_one : outcome_within 40 breaks (pos 1 ∷ []) ≡ Returned (record {
  events =
      record { mark = 1; values = pos 1 ∷ pos 0 ∷ [] } ∷ record { mark = 2; values = pos 1 ∷ pos 0 ∷ [] } ∷ record { mark = 1; values = pos 1 ∷ pos 1 ∷ [] }
      ∷ [];
  result = pos 1;
})
unfolding breaks
breaks_one = refl

-- int f(int n) { int i = 0; do { int t; t = t + 1; i = i + t; if (1) continue; i = 9; } while (__mark(3) & (i < n)); }
turns : Program
turns = record {
  params = 1;
  vars = 3;
  body =
      Set 1 (Num (pos 0)) (Loop (Some 3) (Bin Less (Var 1) (Var 0))
      (Set 2 (Num (pos 0)) (Set 2 (Bin Add (Var 2) (Num (pos 1)))
      (Set 1 (Bin Add (Var 1) (Var 2)) (If (Num (pos 1)) (Continue Nil) Nil (Set 1 (Num (pos 9)) Nil))))) Nil false Nil);
}

-- The body of a `do` runs before its test, where a `continue` leads, and its variable is not in scope there; declared again
-- it is 0 again; and falling off the end returns 0.
turns_two : outcome_within 60 turns (pos 2 ∷ []) ≡ Returned (record {
  events = record { mark = 3; values = pos 2 ∷ pos 1 ∷ [] } ∷ record { mark = 3; values = pos 2 ∷ pos 2 ∷ [] } ∷ [];
  result = pos 0;
})
unfolding turns
turns_two = refl

-- the test comes after the first turn
turns_none : outcome_within 60 turns (negsuc 4 ∷ []) ≡ Returned (record { events = record { mark = 3; values = negsuc 4 ∷ pos 1 ∷ [] } ∷ []; result = pos 0 })
unfolding turns
turns_none = refl

-- int f(int a) { return 0 == a * a; }
squares : Program
squares = record { params = 1; vars = 1; body = Return (Bin Equal (Num (pos 0)) (Bin Mul (Var 0) (Var 0))) Nil }

-- 2^50 squared is wide, and one less is not
squares_wide : outcome_within 5 squares (pos 1125899906842624 ∷ []) ≡ Wide
unfolding squares
squares_wide = refl

squares_narrow : outcome_within 5 squares (pos 1125899906842623 ∷ []) ≡ Returned (record { events = []; result = pos 0 })
unfolding squares
squares_narrow = refl

-- int f(void) { while (__mark(1) & 1) ; return 0; }
forever : Program
forever = record { params = 0; vars = 0; body = Loop (Some 1) (Num (pos 1)) Nil Nil true (Return (Num (pos 0)) Nil) }

forever_cut : outcome_within 50 forever [] ≡ CutOff
unfolding forever
forever_cut = refl

-- the second mark is one too many, whatever comes behind it; the first is not
cut_off_at_the_second : at_most 1 1 5 (pos 7 ∷ []) (Some Wide) ≡ Some CutOff
cut_off_at_the_second = refl

not_at_the_first : at_most 1 0 5 (pos 7 ∷ []) (Some Wide) ≡ Some Wide
not_at_the_first = refl
