-- The definitions on small functions.
use Rattle.std.proofs.Common.{◌≡◌, ℕ, true, false, [], ◌∷◌, List, Some, None, pos, refl}
use Rattle.std.specs.Prelude.{codes}
use Rattle.c_ast.specs.declared.expr.UnOp.TheVariants.{Plus, Minus, Not}
use Rattle.c_ast.specs.declared.expr.BinOp.TheVariants.{Div, Rem, Add, Less, Equal}
use Rattle.c_ast.specs.declared.func.Var.{Var}
use Rattle.c_ast.specs.RawTree as raw
use Rattle.c_ast.specs.RawTree.{RawExpression, RawCondition, RawDeclared, RawStatements, RawFunction}
use Rattle.c_ast.specs.Tree as tree
use Rattle.c_check.specs.declared.fault.CheckFault.TheVariants as fault
use Rattle.c_check.specs.Divisors.{divisor_of}
use Rattle.c_check.specs.Resolves.{ResolvesExpression, constant, variable, binary, division, stands, Resolves, none, declared, initialises, assigns, branches, while_loop, do_loop, for_loop, continues, returns, marks, block, empty}
use Rattle.c_check.specs.Occurrences.{Marked}
use Rattle.c_check.specs.Faults.{fault_of}
use Rattle.c_check.specs.Checked.{fault_in, parameters_of, before_body}

-- each on the line 1
abbrev var : List ℕ → Var
var name = record { name = name; line = 1 }

abbrev one : List ℕ → RawExpression → RawDeclared
one name expr = record { var = var name; initialiser = Some expr }

abbrev named : List ℕ → RawExpression
named name = raw.Named name 1

abbrev num : ℕ → RawExpression
num n = raw.Num (pos n)

abbrev function : List Var → RawStatements → RawFunction
function params body = record { name = codes "f"; line = 1; params = params; body = body }

-- int f(int a) { int x = a; { int x = 1; x = 5; } return x; }
hiding : RawFunction
hiding =
    function (var (codes "a") ∷ [])
    (raw.Declare (one (codes "x") (named (codes "a")) ∷ [])
    (raw.Block (raw.Declare (one (codes "x") (num 1) ∷ []) (raw.Assign (codes "x") 1 (num 5) raw.Nil)) (raw.Return (named (codes "x")) raw.Nil)))

hiding_faultless : fault_in hiding ≡ None
unfolding hiding
hiding_faultless = refl

hiding_resolves : Resolves (parameters_of hiding) (before_body hiding) hiding.body
    (tree.Set 1 (tree.Num (pos 0))
    (tree.Set 1 (tree.Var 0) (tree.Block (tree.Set 2 (tree.Num (pos 0)) (tree.Set 2 (tree.Num (pos 1)) (tree.Set 2 (tree.Num (pos 5)) tree.Nil)))
    (tree.Return (tree.Var 1) tree.Nil))))
unfolding hiding
hiding_resolves =
    initialises _ _ _ _ _ _ _ _ (variable _ _ _ refl)
    (declared _ _ _ _ (block _ _ _ _ _ _
    (initialises _ _ _ _ _ _ _ _ (constant _) (declared _ _ _ _ (assigns _ _ _ _ _ _ _ _ _ refl (constant _) (none _ _))))
    (returns _ _ _ _ _ _ (variable _ _ _ refl) (none _ _))))

-- int f(int n) { int s = 0; for (int i = 0; i < n; i = i + 1) { if (i == 3) continue; s = s + i; } return s; }
skipping : RawFunction
skipping =
    function (var (codes "n") ∷ [])
    (raw.Declare (one (codes "s") (num 0) ∷ [])
    (raw.For (raw.Declare (one (codes "i") (num 0) ∷ []) raw.Nil) (Some (record { mark = None; cond = raw.Bin Less 1 (named (codes "i")) (named (codes "n")) }))
    (raw.Assign (codes "i") 1 (raw.Bin Add 1 (named (codes "i")) (num 1)) raw.Nil)
    (raw.Block (raw.If (raw.Bin Equal 1 (named (codes "i")) (num 3)) (raw.Continue 1 raw.Nil)
    (raw.Assign (codes "s") 1 (raw.Bin Add 1 (named (codes "s")) (named (codes "i"))) raw.Nil)) raw.Nil)
    (raw.Return (named (codes "s")) raw.Nil)))

skipping_faultless : fault_in skipping ≡ None
unfolding skipping
skipping_faultless = refl

skipping_resolves : Resolves (parameters_of skipping) (before_body skipping) skipping.body
    (tree.Set 1 (tree.Num (pos 0)) (tree.Set 1 (tree.Num (pos 0))
    (tree.Block (tree.Set 2 (tree.Num (pos 0)) (tree.Set 2 (tree.Num (pos 0)) (tree.Loop (Some 1000000) (tree.Bin Less (tree.Var 2) (tree.Var 0))
    (tree.Block (tree.If (tree.Bin Equal (tree.Var 2) (tree.Num (pos 3))) (tree.Continue tree.Nil) tree.Nil
    (tree.Set 1 (tree.Bin Add (tree.Var 1) (tree.Var 2)) tree.Nil)) tree.Nil)
    (tree.Set 2 (tree.Bin Add (tree.Var 2) (tree.Num (pos 1))) tree.Nil) true tree.Nil)))
    (tree.Return (tree.Var 1) tree.Nil))))
unfolding skipping
skipping_resolves =
    initialises _ _ _ _ _ _ _ _ (constant _) (declared _ _ _ _
    (for_loop _ _ _ _ _ _ _ _ _ _ _ _ (initialises _ _ _ _ _ _ _ _ (constant _) (declared _ _ _ _ (none _ _)))
    (stands _ _ (binary _ _ _ _ _ _ refl (variable _ _ _ refl) (variable _ _ _ refl)))
    (assigns _ _ _ _ _ _ _ _ _ refl (binary _ _ _ _ _ _ refl (variable _ _ _ refl) (constant _)) (none _ _))
    (block _ _ _ _ _ _ (branches _ _ _ _ _ _ _ _ (binary _ _ _ _ _ _ refl (variable _ _ _ refl) (constant _)) (continues _ _ _ _ _ (none _ _))
    (assigns _ _ _ _ _ _ _ _ _ refl (binary _ _ _ _ _ _ refl (variable _ _ _ refl) (variable _ _ _ refl)) (none _ _))) (none _ _))
    (returns _ _ _ _ _ _ (variable _ _ _ refl) (none _ _))))

-- int f(int n) { int s = 0; while (__mark(42) & n) { s = s + n; } return s; }
marked : RawFunction
marked =
    function (var (codes "n") ∷ [])
    (raw.Declare (one (codes "s") (num 0) ∷ [])
    (raw.While (record { mark = Some 42; cond = named (codes "n") })
    (raw.Block (raw.Assign (codes "s") 1 (raw.Bin Add 1 (named (codes "s")) (named (codes "n"))) raw.Nil) raw.Nil) (raw.Return (named (codes "s")) raw.Nil)))

marked_resolves : Resolves (parameters_of marked) (before_body marked) marked.body
    (tree.Set 1 (tree.Num (pos 0)) (tree.Set 1 (tree.Num (pos 0)) (tree.Loop (Some 42) (tree.Var 0)
    (tree.Block (tree.Set 1 (tree.Bin Add (tree.Var 1) (tree.Var 0)) tree.Nil) tree.Nil) tree.Nil true (tree.Return (tree.Var 1) tree.Nil))))
unfolding marked
marked_resolves =
    initialises _ _ _ _ _ _ _ _ (constant _) (declared _ _ _ _
    (while_loop _ _ _ _ _ _ _ _ (variable _ _ _ refl)
    (block _ _ _ _ _ _ (assigns _ _ _ _ _ _ _ _ _ refl (binary _ _ _ _ _ _ refl (variable _ _ _ refl) (variable _ _ _ refl)) (none _ _)) (none _ _))
    (returns _ _ _ _ _ _ (variable _ _ _ refl) (none _ _))))

-- a parameter is declared again in the outermost block
twice : fault_in (function (var (codes "a") ∷ []) (raw.Declare (record { var = record { name = codes "a"; line = 2 }; initialiser = None } ∷ []) raw.Nil)) ≡
    Some (fault.Twice (codes "a") 2)
twice = refl

-- a name of an inner block is used behind it
undeclared : fault_in (function [] (raw.Block (raw.Declare (one (codes "x") (num 1) ∷ []) raw.Nil) (raw.Return (raw.Named (codes "x") 3) raw.Nil))) ≡ Some
    (fault.Undeclared (codes "x") 3)
undeclared = refl

-- its own initialiser sees a variable
own_initialiser : fault_in (function [] (raw.Declare (one (codes "x") (named (codes "x")) ∷ []) raw.Nil)) ≡ None
own_initialiser = refl

outside : fault_in (function [] (raw.Break 4 raw.Nil)) ≡ Some (fault.Outside 4)
outside = refl

-- the first mark of the two stands in a condition
mark_twice : fault_in (function [] (raw.While (record { mark = Some 5; cond = num 1 }) (raw.Mark 5 raw.Nil) raw.Nil)) ≡ Some (fault.MarkTwice 5)
mark_twice = refl

mark_range : fault_in (function [] (raw.Mark 999999 (raw.Mark 1000000 raw.Nil))) ≡ Some (fault.MarkRange 1000000)
mark_range = refl

-- in a `do`, the body stands before the condition
do_body_first : fault_in (function [] (raw.Do (raw.Break 1 (raw.Mark 1000000 raw.Nil)) (record { mark = Some 2000000; cond = named (codes "x") }) raw.Nil))
    ≡ Some (fault.MarkRange 1000000)
do_body_first = refl

-- in a `for`, the third part stands before the body
for_step_first : fault_in (function [] (raw.For raw.Nil None (raw.Assign (codes "s") 1 (num 0) raw.Nil) (raw.Assign (codes "b") 2 (num 0) raw.Nil) raw.Nil))
    ≡ Some (fault.Undeclared (codes "s") 1)
for_step_first = refl

-- a mark out of range is told as that, also where it stands twice
mark_range_first : fault_of (1000000 ∷ []) (Marked 1000000) ≡ Some (fault.MarkRange 1000000)
mark_range_first = refl

-- ---- marks of loops

abbrev a : RawExpression
a = named (codes "a")

abbrev over_a : RawStatements → RawFunction
over_a body = function (var (codes "a") ∷ []) body

abbrev unmarked : RawExpression → RawCondition
unmarked expr = record { mark = None; cond = expr }

-- while (a) { while (__mark(5) & a) do ; while (a); }: numbers go by the first tokens, and the marked loop counts
nested : RawFunction
nested =
    over_a (raw.While (unmarked a)
    (raw.Block (raw.While (record { mark = Some 5; cond = a }) (raw.Do (raw.Empty raw.Nil) (unmarked a) raw.Nil) raw.Nil) raw.Nil) raw.Nil)

nested_resolves : Resolves (parameters_of nested) (before_body nested) nested.body
    (tree.Loop (Some 1000000) (tree.Var 0)
    (tree.Block (tree.Loop (Some 5) (tree.Var 0) (tree.Loop (Some 1000002) (tree.Var 0) tree.Nil tree.Nil false tree.Nil) tree.Nil true tree.Nil) tree.Nil)
    tree.Nil true tree.Nil)
unfolding nested
nested_resolves =
    while_loop _ _ _ _ _ _ _ _ (variable _ _ _ refl) (block _ _ _ _ _ _
    (while_loop _ _ _ _ _ _ _ _ (variable _ _ _ refl) (do_loop _ _ _ _ _ _ _ _ (empty _ _ _ _ (none _ _)) (variable _ _ _ refl) (none _ _)) (none _ _))
    (none _ _)) (none _ _)

-- while (a) { __mark(1); } has a leading mark
leading : RawFunction
leading = over_a (raw.While (unmarked a) (raw.Block (raw.Mark 1 raw.Nil) raw.Nil) raw.Nil)

leading_resolves : Resolves (parameters_of leading) (before_body leading) leading.body
    (tree.Loop None (tree.Var 0) (tree.Block (tree.Mark 1 tree.Nil) tree.Nil) tree.Nil true tree.Nil)
unfolding leading
leading_resolves =
    while_loop _ _ _ _ _ _ _ _ (variable _ _ _ refl) (block _ _ _ _ _ _ (marks _ _ _ _ _ (none _ _)) (none _ _)) (none _ _)

-- while (a) { { __mark(1); } } has none: a mark within an inner block does not lead
inner_block : RawFunction
inner_block = over_a (raw.While (unmarked a) (raw.Block (raw.Block (raw.Mark 1 raw.Nil) raw.Nil) raw.Nil) raw.Nil)

inner_block_resolves : Resolves (parameters_of inner_block) (before_body inner_block) inner_block.body
    (tree.Loop (Some 1000000) (tree.Var 0) (tree.Block (tree.Block (tree.Mark 1 tree.Nil) tree.Nil) tree.Nil) tree.Nil true tree.Nil)
unfolding inner_block
inner_block_resolves =
    while_loop _ _ _ _ _ _ _ _ (variable _ _ _ refl)
    (block _ _ _ _ _ _ (block _ _ _ _ _ _ (marks _ _ _ _ _ (none _ _)) (none _ _)) (none _ _)) (none _ _)

-- ---- divisions

abbrev minus : RawExpression → RawExpression
minus expr = raw.Un Minus expr

-- return left / right;
abbrev dividing : RawExpression → RawExpression → RawFunction
dividing left right = over_a (raw.Return (raw.Bin Div 7 left right) raw.Nil)

-- -(-(+3)) is 3, and -3 is negative
signs : divisor_of (minus (minus (raw.Un Plus (num 3)))) ≡ Some (record { size = pos 3; negative = false })
signs = refl

negative_sign : divisor_of (minus (num 3)) ≡ Some (record { size = pos 3; negative = true })
negative_sign = refl

-- -0, !0 and 1 + 1 are none
no_zero : divisor_of (minus (num 0)) ≡ None
no_zero = refl

no_not : divisor_of (raw.Un Not (num 0)) ≡ None
no_not = refl

no_sum : divisor_of (raw.Bin Add 1 (num 1) (num 1)) ≡ None
no_sum = refl

-- a / a
by_variable : fault_in (dividing a a) ≡ Some (fault.Divisor 7)
by_variable = refl

-- b / 0: the left operand stands before the operator
left_operand_first : fault_in (dividing (named (codes "b")) (num 0)) ≡ Some (fault.Undeclared (codes "b") 1)
left_operand_first = refl

-- a / b: the operator stands before the right operand
right_operand_last : fault_in (dividing a (named (codes "b"))) ≡ Some (fault.Divisor 7)
right_operand_last = refl

-- a / -3 is the opposite of a / 3, and a % -3 is a % 3
quotient : ResolvesExpression (parameters_of (dividing a a)) (raw.Bin Div 1 a (minus (num 3))) (tree.Un Minus (tree.Bin Div (tree.Var 0) (tree.Num (pos 3))))
quotient = division _ _ _ _ _ _ refl (variable _ _ _ refl) refl

remainder : ResolvesExpression (parameters_of (dividing a a)) (raw.Bin Rem 1 a (minus (num 3))) (tree.Bin Rem (tree.Var 0) (tree.Num (pos 3)))
remainder = division _ _ _ _ _ _ refl (variable _ _ _ refl) refl
