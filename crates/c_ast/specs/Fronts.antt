-- Laws of the trees that statements stand for.
use Rattle.std.specs.Prelude.{◌≡◌, ℕ, Bool, List, Option}
use Rattle.c_ast.specs.Tree as tree
use Rattle.c_ast.specs.Tree.{Statements}
use Rattle.c_ast.specs.View.{expression_of, put_in_front, statements_of}
use Rattle.c_ast.specs.declared.expr.Expr.{Expr}
use Rattle.c_ast.specs.declared.stmt.Stmt.{Stmt}
use Rattle.c_ast.specs.declared.stmt.Stmt.TheVariants.{Set, If, Loop, Break, Continue, Return, Mark, Block}

-- Each statement puts its own constructor in front of the rest of its list.
pub record Fronts : Type 0 where
  pub set : (x : ℕ) (e : Expr) (others : Statements)
      → put_in_front (Set x e) others ≡ tree.Set x (expression_of e) others
  pub if_ : (e : Expr) (a b : List Stmt) (others : Statements)
      → put_in_front (If e a b) others ≡ tree.If (expression_of e) (statements_of a) (statements_of b) others
  pub loop : (mark : Option ℕ) (cond : Expr) (body step : List Stmt) (test_first : Bool) (others : Statements)
      → put_in_front (Loop mark cond body step test_first) others
      ≡ tree.Loop mark (expression_of cond) (statements_of body) (statements_of step) test_first others
  pub break_ : (others : Statements) → put_in_front Break others ≡ tree.Break others
  pub continue_ : (others : Statements) → put_in_front Continue others ≡ tree.Continue others
  pub return_ : (e : Expr) (others : Statements) → put_in_front (Return e) others ≡ tree.Return (expression_of e) others
  pub mark : (mark : ℕ) (others : Statements) → put_in_front (Mark mark) others ≡ tree.Mark mark others
  pub block : (a : List Stmt) (others : Statements)
      → put_in_front (Block a) others ≡ tree.Block (statements_of a) others

-- Statements with one tree are equal.
abbrev pub OneTree : Type 0
OneTree = (first second : List Stmt) → statements_of first ≡ statements_of second → first ≡ second

-- Expressions with one tree are equal.
abbrev pub OneExpression : Type 0
OneExpression = (first second : Expr) → expression_of first ≡ expression_of second → first ≡ second
