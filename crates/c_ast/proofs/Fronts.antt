-- What each kind of statement puts in front of the rest of its list.
use Rattle.std.proofs.Common.{◌≡◌, ℕ, Bool, List, Option, ap, ◌∙◌}
use Rattle.c_ast.specs.Tree as tree
use Rattle.c_ast.specs.Tree.{Statements}
use Rattle.c_ast.specs.Fronts.{Fronts}
use Rattle.c_ast.specs.View.{expression_of, statement_level, put_in_front, statements_of}
use Rattle.c_ast.specs.declared.expr.Expr.{Expr}
use Rattle.c_ast.specs.declared.stmt.Stmt.{Stmt, Set, If, Loop, Break, Continue, Return, Mark, Block, fold_out-Stmt, map-Stmt, out-Stmt}
use Rattle.c_ast.specs.declared.stmt.Stmt.TheOpen.{Stmt-F}
use Rattle.c_ast.specs.declared.stmt.Stmt.TheVariants.{outs-Set, outs-If, outs-Loop, outs-Break, outs-Continue, outs-Return, outs-Mark, outs-Block}

level : (s : Stmt) (x : Stmt-F Stmt) (others : Statements) → out-Stmt s ≡ x → put_in_front s others
    ≡ statement_level (map-Stmt Stmt (Statements → Statements) put_in_front x) others
level s x others is =
    ap (λ (front : Statements → Statements). front others) (fold_out-Stmt (Statements → Statements) statement_level s)
    ∙ ap (λ (y : Stmt-F Stmt). statement_level (map-Stmt Stmt (Statements → Statements) put_in_front y) others) is

pub front-Set : (x : ℕ) (e : Expr) (others : Statements) → put_in_front (Set x e) others ≡ tree.Set x (expression_of e) others
front-Set x e others = level (Set x e) _ others (outs-Set x e)

pub front-If : (e : Expr) (a b : List Stmt) (others : Statements) → put_in_front (If e a b) others
    ≡ tree.If (expression_of e) (statements_of a) (statements_of b) others
front-If e a b others = level (If e a b) _ others (outs-If e a b)

pub front-Loop : (mark : Option ℕ) (cond : Expr) (body step : List Stmt) (test_first : Bool) (others : Statements)
    → put_in_front (Loop mark cond body step test_first) others
    ≡ tree.Loop mark (expression_of cond) (statements_of body) (statements_of step) test_first others
front-Loop mark cond body step test_first others = level (Loop mark cond body step test_first) _ others (outs-Loop mark cond body step test_first)

pub front-Break : (others : Statements) → put_in_front Break others ≡ tree.Break others
front-Break others = level Break _ others outs-Break

pub front-Continue : (others : Statements) → put_in_front Continue others ≡ tree.Continue others
front-Continue others = level Continue _ others outs-Continue

pub front-Return : (e : Expr) (others : Statements) → put_in_front (Return e) others ≡ tree.Return (expression_of e) others
front-Return e others = level (Return e) _ others (outs-Return e)

pub front-Mark : (mark : ℕ) (others : Statements) → put_in_front (Mark mark) others ≡ tree.Mark mark others
front-Mark mark others = level (Mark mark) _ others (outs-Mark mark)

pub front-Block : (a : List Stmt) (others : Statements) → put_in_front (Block a) others ≡ tree.Block (statements_of a) others
front-Block a others = level (Block a) _ others (outs-Block a)

-- All of them.
pub fronts : Fronts
fronts = record {
  set = front-Set;
  if_ = front-If;
  loop = front-Loop;
  break_ = front-Break;
  continue_ = front-Continue;
  return_ = front-Return;
  mark = front-Mark;
  block = front-Block;
}
