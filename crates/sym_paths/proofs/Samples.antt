-- Rows of the table of walks, and limits, by computation.
use Rattle.std.proofs.Common.{◌≡◌, true, false, List, [], ◌∷◌, refl}
use Rattle.std.specs.Prelude.{ℤ, pos, negsuc, Ok, Err}
use Rattle.c_ast.specs.declared.expr.UnOp.TheVariants.{Not}
use Rattle.c_ast.specs.declared.expr.BinOp.TheVariants.{Mul, Div, Rem, Add, Sub, Less, LessEq, Greater, GreaterEq, Equal, NotEqual, And, Or}
use Rattle.c_ast.specs.Tree.{Expression, Num, Var, Un, Bin, Cond}
use Rattle.lin_terms.specs.declared.form.Form.{Form}
use Rattle.lin_terms.specs.declared.row.Row.{Row}
use Rattle.lin_terms.specs.Divisor.{gcd_steps}
use Rattle.lin_terms.specs.Form.{variable_form}
use Rattle.sym_paths.specs.declared.limit.PathLimit.TheVariants as limit
use Rattle.sym_paths.specs.Walk.{State, Arrival, Arrives, Stops, collect}
use Rattle.sym_paths.specs.Symbolic.{symbolic}
use Rattle.sym_paths.specs.Cases.{fitted}
use Rattle.sym_paths.specs.Condition.{condition_cases}

-- two variables, a and b, and room for one unknown
abbrev forms : List Form
forms = variable_form 3 0 ∷ variable_form 3 1 ∷ []

abbrev a : Expression
a = Var 0

abbrev b : Expression
b = Var 1

abbrev start : State
start = record { rows = []; columns = 2 }

abbrev at_least : ℤ → ℤ → ℤ → ℤ → Row
at_least x y t constant = record { coefs = x ∷ y ∷ t ∷ []; constant = constant; equality = false }

abbrev equal : ℤ → ℤ → ℤ → ℤ → Row
equal x y t constant = record { coefs = x ∷ y ∷ t ∷ []; constant = constant; equality = true }

abbrev form : ℤ → ℤ → ℤ → ℤ → Form
form x y t constant = record { coefs = x ∷ y ∷ t ∷ []; constant = constant }

abbrev one : Form
one = form (pos 0) (pos 0) (pos 0) (pos 1)

abbrev none : Form
none = form (pos 0) (pos 0) (pos 0) (pos 0)

abbrev case : List Row → Form → Arrival Form
case rows value = Arrives (record { state = record { rows = rows; columns = 2 }; value = value })

-- 2a < 2b: 1 with b - a - 1 >= 0, tight; 0 with a - b >= 0
less : symbolic 3 forms (Bin Less (Bin Add a a) (Bin Add b b)) start
    ≡ case (at_least (negsuc 0) (pos 1) (pos 0) (negsuc 0) ∷ []) one ∷ case (at_least (pos 1) (negsuc 0) (pos 0) (pos 0) ∷ []) none ∷ []
unfolding gcd_steps
less = refl

less_or_equal : symbolic 3 forms (Bin LessEq a b) start
    ≡ case (at_least (negsuc 0) (pos 1) (pos 0) (pos 0) ∷ []) one ∷ case (at_least (pos 1) (negsuc 0) (pos 0) (negsuc 0) ∷ []) none ∷ []
unfolding gcd_steps
less_or_equal = refl

greater : symbolic 3 forms (Bin Greater a b) start
    ≡ case (at_least (pos 1) (negsuc 0) (pos 0) (negsuc 0) ∷ []) one ∷ case (at_least (negsuc 0) (pos 1) (pos 0) (pos 0) ∷ []) none ∷ []
unfolding gcd_steps
greater = refl

greater_or_equal : symbolic 3 forms (Bin GreaterEq a b) start
    ≡ case (at_least (pos 1) (negsuc 0) (pos 0) (pos 0) ∷ []) one ∷ case (at_least (negsuc 0) (pos 1) (pos 0) (negsuc 0) ∷ []) none ∷ []
unfolding gcd_steps
greater_or_equal = refl

-- the case where they are equal comes first, then below and above
are_equal : symbolic 3 forms (Bin Equal a b) start
    ≡ case (equal (pos 1) (negsuc 0) (pos 0) (pos 0) ∷ []) one ∷ case (at_least (negsuc 0) (pos 1) (pos 0) (negsuc 0) ∷ []) none
    ∷ case (at_least (pos 1) (negsuc 0) (pos 0) (negsuc 0) ∷ []) none ∷ []
unfolding gcd_steps
are_equal = refl

-- below and above, and then the case where they are equal
differ : symbolic 3 forms (Bin NotEqual a b) start
    ≡ case (at_least (negsuc 0) (pos 1) (pos 0) (negsuc 0) ∷ []) one ∷ case (at_least (pos 1) (negsuc 0) (pos 0) (negsuc 0) ∷ []) one
    ∷ case (equal (pos 1) (negsuc 0) (pos 0) (pos 0) ∷ []) none ∷ []
unfolding gcd_steps
differ = refl

-- 2a = 1 has no case: its tight row never holds
never : symbolic 3 forms (Bin Equal (Bin Add a a) (Num (pos 1))) start
    ≡ case (at_least (negsuc 0) (pos 0) (pos 0) (pos 0) ∷ []) none ∷ case (at_least (pos 1) (pos 0) (pos 0) (negsuc 0) ∷ []) none ∷ []
unfolding gcd_steps
never = refl

not_a : symbolic 3 forms (Un Not a) start
    ≡ case (equal (pos 1) (pos 0) (pos 0) (pos 0) ∷ []) one ∷ case (at_least (negsuc 0) (pos 0) (pos 0) (negsuc 0) ∷ []) none
    ∷ case (at_least (pos 1) (pos 0) (pos 0) (negsuc 0) ∷ []) none ∷ []
unfolding gcd_steps
not_a = refl

-- constants are decided: no row is left
decided : symbolic 3 forms (Bin And (Bin Less (Num (pos 3)) (Num (pos 4))) (Un Not (Num (pos 0)))) start ≡ case [] one ∷ []
unfolding gcd_steps
decided = refl

-- where the first operand is false, the second is not asked
and_is_short : symbolic 3 forms (Bin And (Num (pos 0)) (Bin Mul a b)) start ≡ case [] none ∷ []
unfolding gcd_steps
and_is_short = refl

or_is_short : symbolic 3 forms (Bin Or (Num (pos 2)) (Bin Mul a b)) start ≡ case [] one ∷ []
unfolding gcd_steps
or_is_short = refl

-- a ? b : 5, with the true cases first
choice : symbolic 3 forms (Cond a b (Num (pos 5))) start
    ≡ case (at_least (negsuc 0) (pos 0) (pos 0) (negsuc 0) ∷ []) (form (pos 0) (pos 1) (pos 0) (pos 0))
    ∷ case (at_least (pos 1) (pos 0) (pos 0) (negsuc 0) ∷ []) (form (pos 0) (pos 1) (pos 0) (pos 0))
    ∷ case (equal (pos 1) (pos 0) (pos 0) (pos 0) ∷ []) (form (pos 0) (pos 0) (pos 0) (pos 5)) ∷ []
unfolding gcd_steps
choice = refl

-- b * 3 and 3 * b are forms, a * b is none
scaled : symbolic 3 forms (Bin Sub (Bin Mul b (Num (pos 3))) (Bin Mul (Num (pos 3)) a)) start
    ≡ case [] (form (negsuc 2) (pos 3) (pos 0) (pos 0)) ∷ []
unfolding gcd_steps
scaled = refl

not_linear : symbolic 3 forms (Bin Mul a b) start ≡ Stops limit.NonLinear ∷ []
not_linear = refl

-- the form a - (2^50 - 1) fits, and the row which says that it is above 0 does not
wide_row : symbolic 3 forms (Bin Greater a (Num (pos 1125899906842623))) start
    ≡ Stops limit.WideForm ∷ case (at_least (negsuc 0) (pos 0) (pos 0) (pos 1125899906842623) ∷ []) none ∷ []
unfolding gcd_steps
wide_row = refl

-- a form is judged when it is made
too_wide : symbolic 3 forms (Bin Mul a (Num (pos 1125899906842624))) start ≡ Stops limit.WideForm ∷ []
too_wide = refl

-- ---- divisions

abbrev divided : List Row → Form → Arrival Form
divided rows value = Arrives (record { state = record { rows = rows; columns = 3 }; value = value })

-- a / 4 is the unknown t, first with a >= 0, a - 4t >= 0, 4t + 3 - a >= 0; then with -a - 1 >= 0, 4t - a >= 0, a - 4t + 3 >= 0
quotient : symbolic 3 forms (Bin Div a (Num (pos 4))) start
    ≡ divided (at_least (pos 1) (pos 0) (pos 0) (pos 0) ∷ at_least (pos 1) (pos 0) (negsuc 3) (pos 0) ∷ at_least (negsuc 0) (pos 0) (pos 4) (pos 3) ∷ [])
    (form (pos 0) (pos 0) (pos 1) (pos 0))
    ∷ divided (at_least (negsuc 0) (pos 0) (pos 0) (negsuc 0) ∷ at_least (negsuc 0) (pos 0) (pos 4) (pos 0) ∷ at_least (pos 1) (pos 0) (negsuc 3) (pos 3) ∷ [])
    (form (pos 0) (pos 0) (pos 1) (pos 0)) ∷ []
unfolding gcd_steps
quotient = refl

-- what is left is a - 4t
remainder : symbolic 3 forms (Bin Rem a (Num (pos 4))) start
    ≡ divided (at_least (pos 1) (pos 0) (pos 0) (pos 0) ∷ at_least (pos 1) (pos 0) (negsuc 3) (pos 0) ∷ at_least (negsuc 0) (pos 0) (pos 4) (pos 3) ∷ [])
    (form (pos 1) (pos 0) (negsuc 3) (pos 0))
    ∷ divided (at_least (negsuc 0) (pos 0) (pos 0) (negsuc 0) ∷ at_least (negsuc 0) (pos 0) (pos 4) (pos 0) ∷ at_least (pos 1) (pos 0) (negsuc 3) (pos 3) ∷ [])
    (form (pos 1) (pos 0) (negsuc 3) (pos 0)) ∷ []
unfolding gcd_steps
remainder = refl

-- a constant is decided, toward zero; 1 needs no unknown
constant_quotient : symbolic 3 forms (Bin Div (Bin Sub (Num (pos 0)) (Num (pos 7))) (Num (pos 2))) start
    ≡ case [] (form (pos 0) (pos 0) (pos 0) (negsuc 2)) ∷ []
unfolding gcd_steps
constant_quotient = refl

by_one : symbolic 3 forms (Bin Rem a (Num (pos 1))) start ≡ case [] none ∷ []
by_one = refl

-- the second division has no room
many_unknowns : collect 8 (symbolic 3 forms (Bin Add (Bin Div a (Num (pos 2))) (Bin Div b (Num (pos 2)))) start) ≡ Err limit.ManyUnknowns
unfolding gcd_steps
many_unknowns = refl

-- the first divisor is too wide for a row, after the unknown is taken
wide_divisor : collect 8 (symbolic 3 forms (Bin Div a (Num (pos 1125899906842624))) start) ≡ Err limit.WideForm
unfolding gcd_steps
wide_divisor = refl

-- ---- the cases of a condition

-- a > 2: one case, over the one column that is in use
condition_holds : condition_cases 1 (Bin Greater a (Num (pos 2)))
    ≡ Ok ((record { coefs = pos 1 ∷ []; constant = negsuc 2; equality = false } ∷ []) ∷ [])
unfolding gcd_steps
condition_holds = refl

-- a % 2 == 1: the unknown is the second column
condition_divides : condition_cases 1 (Bin Equal (Bin Rem a (Num (pos 2))) (Num (pos 1)))
    ≡ Ok ((record { coefs = pos 1 ∷ pos 0 ∷ []; constant = pos 0; equality = false }
    ∷ record { coefs = pos 1 ∷ negsuc 1 ∷ []; constant = pos 0; equality = false }
    ∷ record { coefs = negsuc 0 ∷ pos 2 ∷ []; constant = pos 1; equality = false }
    ∷ record { coefs = pos 1 ∷ negsuc 1 ∷ []; constant = negsuc 0; equality = true } ∷ [])
    ∷ (record { coefs = negsuc 0 ∷ pos 0 ∷ []; constant = negsuc 0; equality = false }
    ∷ record { coefs = negsuc 0 ∷ pos 2 ∷ []; constant = pos 0; equality = false }
    ∷ record { coefs = pos 1 ∷ negsuc 1 ∷ []; constant = pos 1; equality = false }
    ∷ record { coefs = pos 1 ∷ negsuc 1 ∷ []; constant = negsuc 0; equality = true } ∷ []) ∷ [])
unfolding gcd_steps
condition_divides = refl

-- numbers are cut or filled with zeros
cut : fitted 2 (pos 1 ∷ pos 2 ∷ pos 3 ∷ []) ≡ pos 1 ∷ pos 2 ∷ []
cut = refl

filled : fitted 3 (pos 1 ∷ []) ≡ pos 1 ∷ pos 0 ∷ pos 0 ∷ []
filled = refl
