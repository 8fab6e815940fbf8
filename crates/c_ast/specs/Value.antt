-- The value of an expression (ISO C11, 6.5), over integers of any size. Every expression has one, and evaluating it
-- changes nothing, so the operands that C would skip have a value too.
use Rattle.std.specs.Prelude.{◌≢◌, ℕ, zero, suc, ◌<◌, Bool, true, false, if◌then◌else◌, not, ◌&&◌, ◌||◌, List, ℤ, pos, negsuc, ◌+ℤ◌, ◌-ℤ◌, ◌*ℤ◌, neg_ℤ, int_lt, int_le, int_div, int_rem, ◌≤ℤ◌, slice_index_or}
use Rattle.c_ast.specs.declared.expr.UnOp.{UnOp}
use Rattle.c_ast.specs.declared.expr.UnOp.TheVariants.{Plus, Minus, Not}
use Rattle.c_ast.specs.declared.expr.BinOp.{BinOp}
use Rattle.c_ast.specs.declared.expr.BinOp.TheVariants.{Mul, Div, Rem, Add, Sub, Less, LessEq, Greater, GreaterEq, Equal, NotEqual, And, Or}
use Rattle.c_ast.specs.Tree.{Expression, Num, Var, Un, Bin, Cond}

-- Whether the value compares unequal to 0.
abbrev pub is_nonzero : ℤ → Bool
is_nonzero (pos zero) = false
is_nonzero (pos (suc n)) = true
is_nonzero (negsuc n) = true

-- A test has the value 1 where it holds, and 0 elsewhere.
abbrev pub test_value : Bool → ℤ
test_value true = pos 1
test_value false = pos 0

-- Whether two values are equal.
abbrev pub are_equal : ℤ → ℤ → Bool
are_equal a b = int_le a b && int_le b a

-- The value of a unary operator's expression (6.5.3.3).
abbrev pub unary_value : UnOp → ℤ → ℤ
unary_value Plus a = a
unary_value Minus a = neg_ℤ a
unary_value Not a = test_value (not (is_nonzero a))

-- The value of a binary operator's expression (6.5.5, 6.5.6, 6.5.8, 6.5.9, 6.5.13 and 6.5.14). A quotient is truncated
-- toward zero, and a remainder has the sign of the left operand; `Division.antt` says so in the standard's words.
abbrev pub binary_value : BinOp → ℤ → ℤ → ℤ
binary_value Mul a b = a *ℤ b
binary_value Div a b = int_div a b
binary_value Rem a b = int_rem a b
binary_value Add a b = a +ℤ b
binary_value Sub a b = a -ℤ b
binary_value Less a b = test_value (int_lt a b)
binary_value LessEq a b = test_value (int_le a b)
binary_value Greater a b = test_value (int_lt b a)
binary_value GreaterEq a b = test_value (int_le b a)
binary_value Equal a b = test_value (are_equal a b)
binary_value NotEqual a b = test_value (not (are_equal a b))
binary_value And a b = test_value (is_nonzero a && is_nonzero b)
binary_value Or a b = test_value (is_nonzero a || is_nonzero b)

-- The value of an expression (6.5.15 for `?:`). The environment lists the values of all variables, by number.
abbrev pub eval : Expression → List ℤ → ℤ
eval (Num z) environment = z
eval (Var x) environment = slice_index_or environment x (pos 0)
eval (Un op e) environment = unary_value op (eval e environment)
eval (Bin op e f) environment = binary_value op (eval e environment) (eval f environment)
eval (Cond c e f) environment = if is_nonzero (eval c environment) then eval e environment else eval f environment

-- The expression is a constant of at least 1.
abbrev pub IsDivisor : Expression → Type 0
IsDivisor (Num z) = pos 1 ≤ℤ z
IsDivisor (Var x) = ⊥
IsDivisor (Un op e) = ⊥
IsDivisor (Bin op e f) = ⊥
IsDivisor (Cond c e f) = ⊥

-- What `/` and `%` divide by is a constant of at least 1. The other operators take any right operand.
abbrev pub HasDivisor : BinOp → Expression → Type 0
HasDivisor Div f = IsDivisor f
HasDivisor Rem f = IsDivisor f
HasDivisor _ f = Unit {0}

-- The value may stand at the right of the operator: `/` and `%` do not divide by 0.
abbrev pub Divides : BinOp → ℤ → Type 0
Divides Div value = value ≢ pos 0
Divides Rem value = value ≢ pos 0
Divides _ value = Unit {0}

-- The expression can be evaluated where n variables have values: it reads those alone, and divides by constants.
abbrev pub CanEvaluate : ℕ → Expression → Type 0
CanEvaluate n (Num z) = Unit {0}
CanEvaluate n (Var x) = x < n
CanEvaluate n (Un op e) = CanEvaluate n e
CanEvaluate n (Bin op e f) = CanEvaluate n e × CanEvaluate n f × HasDivisor op f
CanEvaluate n (Cond c e f) = CanEvaluate n c × CanEvaluate n e × CanEvaluate n f
