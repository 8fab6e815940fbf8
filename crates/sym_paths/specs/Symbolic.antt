-- The values of an expression over forms, case by case: one function a row of the table, each with its cases in the
-- order of the walk. All forms and rows of a walk have `room` columns, with those of unknowns that may still come.
use Rattle.std.specs.Prelude.{ℕ, suc, nat_lt, ◌==◌, ℤ, pos, negsuc, neg_ℤ, ◌+ℤ◌, int_div, int_rem, unsigned_abs, Bool, true, false, not, List, [], ◌∷◌, slice_index_or, ◌++◌, Option, Some, None}
use Rattle.c_ast.specs.declared.expr.UnOp.{UnOp}
use Rattle.c_ast.specs.declared.expr.UnOp.TheVariants.{Plus, Minus, Not}
use Rattle.c_ast.specs.declared.expr.BinOp.{BinOp}
use Rattle.c_ast.specs.declared.expr.BinOp.TheVariants.{Mul, Div, Rem, Add, Sub, Less, LessEq, Greater, GreaterEq, Equal, NotEqual, And, Or}
use Rattle.c_ast.specs.Tree.{Expression, Num, Var, Un, Bin, Cond}
use Rattle.c_ast.specs.Value.{is_nonzero, test_value}
use Rattle.lin_terms.specs.declared.form.Form.{Form}
use Rattle.lin_terms.specs.declared.row.Row.{Row}
use Rattle.lin_terms.specs.declared.sign.Sign.{Sign}
use Rattle.lin_terms.specs.declared.sign.Sign.TheVariants.{Negative, NotPositive, Zero, NotNegative, Positive}
use Rattle.lin_terms.specs.Form.{sum_of, multiple_of, difference_of, product_of, constant_form, variable_form, is_constant}
use Rattle.lin_terms.specs.Sign.{sign_row}
use Rattle.sym_paths.specs.declared.limit.PathLimit.TheVariants as limit
use Rattle.sym_paths.specs.Walk.{State, Walk, gives, stops, onward}
use Rattle.sym_paths.specs.Rows.{all_joined, split, made}

-- ---- tests of a form

-- True where the form is not 0: below, above, and else false.
abbrev pub nonzero_signs : List (Sign × Bool)
nonzero_signs = (Negative, true) ∷ (Positive, true) ∷ (Zero, false) ∷ []

-- True where the form is 0; else false, below and above.
abbrev pub zero_signs : List (Sign × Bool)
zero_signs = (Zero, true) ∷ (Negative, false) ∷ (Positive, false) ∷ []

-- True where the form is below 0.
abbrev pub negative_signs : List (Sign × Bool)
negative_signs = (Negative, true) ∷ (NotNegative, false) ∷ []

-- True where the form is at most 0.
abbrev pub not_positive_signs : List (Sign × Bool)
not_positive_signs = (NotPositive, true) ∷ (Positive, false) ∷ []

-- True where the form is above 0.
abbrev pub positive_signs : List (Sign × Bool)
positive_signs = (Positive, true) ∷ (NotPositive, false) ∷ []

-- True where the form is at least 0.
abbrev pub not_negative_signs : List (Sign × Bool)
not_negative_signs = (NotNegative, true) ∷ (Negative, false) ∷ []

-- Whether the form is not 0, as it is constant or not.
abbrev pub tested_by : Bool → Form → State → Walk Bool
tested_by true form state = gives (is_nonzero form.constant) state
tested_by false form state = split nonzero_signs form state

-- A condition on a form: a constant is decided.
abbrev pub tested : Form → State → Walk Bool
tested form state = tested_by (is_constant form) form state

-- Whether the form is 0, as it is constant or not.
abbrev pub negated_by : Bool → Form → State → Walk Bool
negated_by true form state = gives (not (is_nonzero form.constant)) state
negated_by false form state = split zero_signs form state

-- The test of `!`: a constant is decided.
abbrev pub negated : Form → State → Walk Bool
negated form state = negated_by (is_constant form) form state

-- ---- quotients by a constant of at least 1

-- The rows under which `quotient` is that of a dividend of at least 0, and `rest` is what it leaves.
abbrev pub rows_from_zero : ℤ → Form → Form → List Row
rows_from_zero divisor dividend rest =
    sign_row NotNegative dividend ∷ sign_row NotNegative rest
    ∷ sign_row Negative (record { coefs = rest.coefs; constant = rest.constant +ℤ neg_ℤ divisor }) ∷ []

-- The same of a dividend below 0.
abbrev pub rows_below_zero : ℤ → Form → Form → List Row
rows_below_zero divisor dividend rest =
    sign_row Negative dividend ∷ sign_row NotPositive rest
    ∷ sign_row Positive (record { coefs = rest.coefs; constant = rest.constant +ℤ divisor }) ∷ []

-- The quotient and what it leaves.
pub record Parts : Type 0 where
  pub quotient : Form
  pub rest : Form

-- The parts of a dividend.
abbrev pub parts : Form → Form → Parts
parts quotient rest = record { quotient = quotient; rest = rest }

-- The two ways to divide: a dividend of at least 0, then one below 0; both with the same quotient.
abbrev pub two_ways : ℤ → Form → Form → Form → State → Walk Parts
two_ways divisor dividend quotient rest state =
    all_joined (rows_from_zero divisor dividend rest) (parts quotient rest) state
    ++ all_joined (rows_below_zero divisor dividend rest) (parts quotient rest) state

-- The state with one more column.
abbrev pub with_column : State → State
with_column state = record { rows = state.rows; columns = suc state.columns }

-- The number that a divisor is. All divisors are constants.
abbrev pub divisor_of : Expression → ℤ
divisor_of (Num z) = z
divisor_of _ = pos 1

-- What walks a part of an expression.
abbrev pub Part : Type 0
Part = State → Walk Form

-- Both parts, one after the other, and then what is made of their forms.
abbrev pub both : Part → Part → (Form → Form → State → Walk Form) → Part
both first second make state = onward (first state) (λ f next. onward (second next) (λ g last. make f g last))

-- The product, where there is one.
abbrev pub product_made : Option Form → State → Walk Form
product_made None state = stops limit.NonLinear
product_made (Some form) state = made form state

-- The condition on a part of an expression.
abbrev pub condition : Part → State → Walk Bool
condition part state = onward (part state) tested

-- One of two parts, by a condition.
abbrev pub chosen : Part → Part → Bool → Part
chosen first second true = first
chosen first second false = second

module _ (room : ℕ) where
  -- The form of a test: 1 or 0.
  abbrev pub test_form : Bool → Form
  test_form test = constant_form room (test_value test)

  -- A test as a value.
  abbrev pub as_value : Walk Bool → Walk Form
  as_value walk = onward walk (λ test state. gives (test_form test) state)

  -- A comparison: the signs of the left form less the right one.
  abbrev pub compared : List (Sign × Bool) → Form → Form → State → Walk Form
  compared options f g state = onward (made (difference_of f g) state) (λ d next. as_value (split options d next))

  -- The unknown that the next column is.
  abbrev pub unknown : State → Form
  unknown state = variable_form room state.columns

  -- A quotient is an unknown, where there is room for one more.
  abbrev pub divided_by : Bool → ℤ → Form → State → Walk Parts
  divided_by false divisor dividend state = stops limit.ManyUnknowns
  divided_by true divisor dividend state =
      onward (made (multiple_of divisor (unknown state)) (with_column state)) (λ whole next.
      onward (made (difference_of dividend whole) next)
      (λ rest last. two_ways divisor dividend (unknown state) rest last))

  -- The quotient of a form, as it is constant or not and the divisor is 1 or not.
  abbrev pub parted_by : Bool → Bool → ℤ → Form → State → Walk Parts
  parted_by true one divisor form state =
      gives (parts (constant_form room (int_div form.constant divisor))
      (constant_form room (int_rem form.constant divisor))) state
  parted_by false true divisor form state = gives (parts form (constant_form room (pos 0))) state
  parted_by false false divisor form state = divided_by (nat_lt state.columns room) divisor form state

  -- The quotient of a form and what it leaves: a constant is decided, and 1 divides without rest.
  abbrev pub parted : ℤ → Form → State → Walk Parts
  parted divisor form state = parted_by (is_constant form) (unsigned_abs divisor == 1) divisor form state

  -- What a unary operator makes of a form.
  abbrev pub unary_made : UnOp → Form → State → Walk Form
  unary_made Plus f state = gives f state
  unary_made Minus f state = made (multiple_of (negsuc 0) f) state
  unary_made Not f state = as_value (negated f state)

  -- What an operator with two operands makes of their forms: of those that always ask both, but for divisions.
  abbrev pub binary_made : BinOp → Form → Form → State → Walk Form
  binary_made Mul f g state = product_made (product_of f g) state
  binary_made Add f g state = made (sum_of f g) state
  binary_made Sub f g state = made (difference_of f g) state
  binary_made Less f g state = compared negative_signs f g state
  binary_made LessEq f g state = compared not_positive_signs f g state
  binary_made Greater f g state = compared positive_signs f g state
  binary_made GreaterEq f g state = compared not_negative_signs f g state
  binary_made Equal f g state = compared zero_signs f g state
  binary_made NotEqual f g state = compared nonzero_signs f g state
  binary_made _ f g state = []

  -- The quotient of a form.
  abbrev pub quotient_made : ℤ → Form → State → Walk Form
  quotient_made divisor f state = onward (parted divisor f state) (λ both last. gives both.quotient last)

  -- What the quotient of a form leaves.
  abbrev pub rest_made : ℤ → Form → State → Walk Form
  rest_made divisor f state = onward (parted divisor f state) (λ both last. gives both.rest last)

  -- A test of a part of an expression, as a value.
  abbrev pub test_made : Part → Part
  test_made part state = as_value (condition part state)

  -- A binary operator; the right part of a division is the divisor.
  abbrev pub binary_walk : BinOp → Part → Part → ℤ → Part
  binary_walk Div first second divisor state = onward (first state) (quotient_made divisor)
  binary_walk Rem first second divisor state = onward (first state) (rest_made divisor)
  binary_walk And first second divisor state =
      onward (condition first state) (chosen (test_made second) (gives (test_form false)))
  binary_walk Or first second divisor state =
      onward (condition first state) (chosen (gives (test_form true)) (test_made second))
  binary_walk op first second divisor state = both first second (binary_made op) state

  -- The values of an expression over the variables' forms, each with the rows on the way there.
  abbrev pub symbolic : List Form → Expression → Part
  symbolic forms (Num z) state = made (constant_form room z) state
  symbolic forms (Var x) state = gives (slice_index_or forms x (constant_form room (pos 0))) state
  symbolic forms (Un op e) state = onward (symbolic forms e state) (unary_made op)
  symbolic forms (Bin op e f) state = binary_walk op (symbolic forms e) (symbolic forms f) (divisor_of f) state
  symbolic forms (Cond c e f) state = onward (condition (symbolic forms c) state)
      (chosen (symbolic forms e) (symbolic forms f))
