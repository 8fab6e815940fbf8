-- The trees that the definitions read: those of the program without their boxes.
use Rattle.std.specs.Prelude.{ℕ, Bool, Option, ℤ}
use Rattle.c_ast.specs.declared.expr.UnOp.{UnOp}
use Rattle.c_ast.specs.declared.expr.BinOp.{BinOp}

-- An expression.
pub data Expression : Type 0 where
  Num : ℤ → Expression
  Var : ℕ → Expression
  Un : UnOp → Expression → Expression
  Bin : BinOp → Expression → Expression → Expression
  Cond : Expression → Expression → Expression → Expression

-- A list of statements: each constructor but the first has the rest of the list last.
pub data Statements : Type 0 where
  Nil : Statements
  Set : ℕ → Expression → Statements → Statements
  If : Expression → Statements → Statements → Statements → Statements
  -- the mark, the condition, the body, the step, and whether the test comes first
  Loop : Option ℕ → Expression → Statements → Statements → Bool → Statements → Statements
  Break : Statements → Statements
  Continue : Statements → Statements
  Return : Expression → Statements → Statements
  Mark : ℕ → Statements → Statements
  Block : Statements → Statements → Statements

-- What a run needs of a function: the numbers of its parameters and of its variables, and its body.
pub record Program : Type 0 where
  pub params : ℕ
  pub vars : ℕ
  pub body : Statements
