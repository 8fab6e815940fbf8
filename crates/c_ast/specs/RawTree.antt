-- The trees of a file as it was read that the definitions read: those of the program without their boxes.
use Rattle.std.specs.Prelude.{ℕ, List, Option, ℤ}
use Rattle.c_ast.specs.declared.expr.UnOp.{UnOp}
use Rattle.c_ast.specs.declared.expr.BinOp.{BinOp}
use Rattle.c_ast.specs.declared.func.Var.{Var}

-- An expression. Lines stand beside names and binary operators.
pub data RawExpression : Type 0 where
  Num : ℤ → RawExpression
  Named : List ℕ → ℕ → RawExpression
  Un : UnOp → RawExpression → RawExpression
  Bin : BinOp → ℕ → RawExpression → RawExpression → RawExpression
  Cond : RawExpression → RawExpression → RawExpression → RawExpression

-- A loop's condition, with the mark that it names.
pub record RawCondition : Type 0 where
  pub mark : Option ℕ
  pub cond : RawExpression

-- A declared variable, with its initialiser.
pub record RawDeclared : Type 0 where
  pub var : Var
  pub initialiser : Option RawExpression

-- A list of statements: each constructor but the first has the rest of the list last. A branch, a body and a part of a
-- `for` head is a list of one statement, and a part that is left out is the empty list.
pub data RawStatements : Type 0 where
  Nil : RawStatements
  Declare : List RawDeclared → RawStatements → RawStatements
  Assign : List ℕ → ℕ → RawExpression → RawStatements → RawStatements
  If : RawExpression → RawStatements → RawStatements → RawStatements
  IfElse : RawExpression → RawStatements → RawStatements → RawStatements → RawStatements
  While : RawCondition → RawStatements → RawStatements → RawStatements
  -- the body, then the condition
  Do : RawStatements → RawCondition → RawStatements → RawStatements
  -- the three parts of the head, then the body
  For : RawStatements → Option RawCondition → RawStatements → RawStatements → RawStatements → RawStatements
  Break : ℕ → RawStatements → RawStatements
  Continue : ℕ → RawStatements → RawStatements
  Return : RawExpression → RawStatements → RawStatements
  Mark : ℕ → RawStatements → RawStatements
  Block : RawStatements → RawStatements → RawStatements
  Empty : RawStatements → RawStatements

-- A function: its name with its line, its parameters and its body.
pub record RawFunction : Type 0 where
  pub name : List ℕ
  pub line : ℕ
  pub params : List Var
  pub body : RawStatements
