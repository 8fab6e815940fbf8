-- Runs of whole functions, worked out by hand. A declaration sets its variable to 0, and then to its initialiser.
use Rattle.std.proofs.Common.{ℕ, zero, suc, ℤ, List, ◌≡◌, true, false, [], ◌∷◌, Some, pos, negsuc, refl}
use Rattle.c_ast.specs.declared.expr.BinOp.TheVariants.{Add, Less, Greater, Equal, NotEqual}
use Rattle.c_ast.specs.declared.trace.Event.{Event}
use Rattle.c_ast.specs.declared.trace.Outcome.{Outcome}
use Rattle.c_ast.specs.declared.trace.Outcome.TheVariants.{Returned}
use Rattle.c_ast.specs.Tree.{Expression, Num, Var, Bin, Statements, Nil, Set, If, Loop, Continue, Return, Block, Program}
use Rattle.c_ast.specs.Outcome.{outcome_within}

abbrev declares : ℕ → Expression → Statements → Statements
declares x e others = Set x (Num (pos 0)) (Set x e others)

abbrev rises : ℕ → Statements → Statements
rises x others = Set x (Bin Add (Var x) (Num (pos 1))) others

-- the run passes no mark
abbrev only : ℤ → Outcome
only value = Returned (record { events = []; result = value })

abbrev passing : ℕ → List ℤ → Event
passing mark values = record { mark = mark; values = values }

-- int f(int a){int r=0; if(a>0) if(a>1) r=1; else r=2; return r;}
inner_else : Program
inner_else = record {
  params = 1;
  vars = 2;
  body =
      declares 1 (Num (pos 0)) (If (Bin Greater (Var 0) (Num (pos 0)))
      (If (Bin Greater (Var 0) (Num (pos 1))) (Set 1 (Num (pos 1)) Nil) (Set 1 (Num (pos 2)) Nil) Nil) Nil (Return (Var 1) Nil));
}

-- int f(int a){int r=0; if(a>0){if(a>1) r=1;} else r=2; return r;}
outer_else : Program
outer_else = record {
  params = 1;
  vars = 2;
  body =
      declares 1 (Num (pos 0)) (If (Bin Greater (Var 0) (Num (pos 0)))
      (Block (If (Bin Greater (Var 0) (Num (pos 1))) (Set 1 (Num (pos 1)) Nil) Nil Nil) Nil) (Set 1 (Num (pos 2)) Nil) (Return (Var 1) Nil));
}

inner_at_none : outcome_within 20 inner_else (pos 0 ∷ []) ≡ only (pos 0)
unfolding inner_else
inner_at_none = refl

outer_at_none : outcome_within 20 outer_else (pos 0 ∷ []) ≡ only (pos 2)
unfolding outer_else
outer_at_none = refl

inner_at_one : outcome_within 20 inner_else (pos 1 ∷ []) ≡ only (pos 2)
unfolding inner_else
inner_at_one = refl

outer_at_one : outcome_within 20 outer_else (pos 1 ∷ []) ≡ only (pos 0)
unfolding outer_else
outer_at_one = refl

-- int f(int n){int s=0; for(int i=0; __mark(7) & (i<n); i++){if(i==3) continue; s+=i;} return s;}
leaves_three_out : Program
leaves_three_out = record {
  params = 1;
  vars = 3;
  body =
      declares 1 (Num (pos 0)) (Block (declares 2 (Num (pos 0)) (Loop (Some 7) (Bin Less (Var 2) (Var 0))
      (If (Bin Equal (Var 2) (Num (pos 3))) (Continue Nil) Nil (Set 1 (Bin Add (Var 1) (Var 2)) Nil)) (rises 2 Nil) true Nil)) (Return (Var 1) Nil));
}

-- int f(int n){int s=0; int i=0; while(__mark(7) & (i<n)){if(i!=3) s=s+i; i=i+1;} return s;}
adds_all_but_three : Program
adds_all_but_three = record {
  params = 1;
  vars = 3;
  body =
      declares 1 (Num (pos 0)) (declares 2 (Num (pos 0)) (Loop (Some 7) (Bin Less (Var 2) (Var 0))
      (If (Bin NotEqual (Var 2) (Num (pos 3))) (Set 1 (Bin Add (Var 1) (Var 2)) Nil) Nil (rises 2 Nil)) Nil true (Return (Var 1) Nil)));
}

-- what both come to on 5: the sum of 0, 1, 2 and 4
sum_on_five : Outcome
sum_on_five = Returned (record {
  events =
      passing 7 (pos 5 ∷ pos 0 ∷ pos 0 ∷ []) ∷ passing 7 (pos 5 ∷ pos 0 ∷ pos 1 ∷ []) ∷ passing 7 (pos 5 ∷ pos 1 ∷ pos 2 ∷ [])
      ∷ passing 7 (pos 5 ∷ pos 3 ∷ pos 3 ∷ []) ∷ passing 7 (pos 5 ∷ pos 3 ∷ pos 4 ∷ []) ∷ passing 7 (pos 5 ∷ pos 7 ∷ pos 5 ∷ []) ∷ [];
  result = pos 7;
})

continue_on_five : outcome_within 100 leaves_three_out (pos 5 ∷ []) ≡ sum_on_five
unfolding leaves_three_out sum_on_five
continue_on_five = refl

test_on_five : outcome_within 100 adds_all_but_three (pos 5 ∷ []) ≡ sum_on_five
unfolding adds_all_but_three sum_on_five
test_on_five = refl

-- int f(void){int i=0; while(__mark(1) & (i<63)) i=i+1; return i;}
counts_to_63 : Program
counts_to_63 = record {
  params = 0;
  vars = 1;
  body = declares 0 (Num (pos 0)) (Loop (Some 1) (Bin Less (Var 0) (Num (pos 63))) (rises 0 Nil) Nil true (Return (Var 0) Nil));
}

-- the mark 1 is passed so many times, the first time with this value
passed_from : ℕ → ℕ → List Event
passed_from value zero = []
passed_from value (suc times) = passing 1 (pos value ∷ []) ∷ passed_from (suc value) times

passes_64_marks : outcome_within 600 counts_to_63 [] ≡ Returned (record { events = passed_from 0 64; result = pos 63 })
unfolding counts_to_63 passed_from
passes_64_marks = refl

-- int f(int n){int i=0; do i++; while(i<n); return i;}, whose loop's mark is given by its reader
body_first : Program
body_first = record {
  params = 1;
  vars = 2;
  body = declares 1 (Num (pos 0)) (Loop (Some 1000000) (Bin Less (Var 1) (Var 0)) (rises 1 Nil) Nil false (Return (Var 1) Nil));
}

-- int f(int n){int i=1; while(i<n) i++; return i;}
test_first : Program
test_first = record {
  params = 1;
  vars = 2;
  body = declares 1 (Num (pos 1)) (Loop (Some 1000000) (Bin Less (Var 1) (Var 0)) (rises 1 Nil) Nil true (Return (Var 1) Nil));
}

turns_on_three : Outcome
turns_on_three = Returned (record {
  events = passing 1000000 (pos 3 ∷ pos 1 ∷ []) ∷ passing 1000000 (pos 3 ∷ pos 2 ∷ []) ∷ passing 1000000 (pos 3 ∷ pos 3 ∷ []) ∷ [];
  result = pos 3;
})

body_first_on_three : outcome_within 60 body_first (pos 3 ∷ []) ≡ turns_on_three
unfolding body_first turns_on_three
body_first_on_three = refl

test_first_on_three : outcome_within 60 test_first (pos 3 ∷ []) ≡ turns_on_three
unfolding test_first turns_on_three
test_first_on_three = refl

body_first_on_less : outcome_within 60 body_first (negsuc 3 ∷ []) ≡ Returned (record { events = passing 1000000 (negsuc 3 ∷ pos 1 ∷ []) ∷ []; result = pos 1 })
unfolding body_first
body_first_on_less = refl

-- int f(int a){int x=a; {int x=1; x=5;} return x;}
hides : Program
hides = record {
  params = 1;
  vars = 3;
  body = declares 1 (Var 0) (Block (declares 2 (Num (pos 1)) (Set 2 (Num (pos 5)) Nil)) (Return (Var 1) Nil));
}

hides_nothing : outcome_within 20 hides (negsuc 8 ∷ []) ≡ only (negsuc 8)
unfolding hides
hides_nothing = refl

-- int f(void){int x = x + 1; return x;}
from_itself : Program
from_itself = record { params = 0; vars = 1; body = declares 0 (Bin Add (Var 0) (Num (pos 1))) (Return (Var 0) Nil) }

from_itself_is_one : outcome_within 20 from_itself [] ≡ only (pos 1)
unfolding from_itself
from_itself_is_one = refl
