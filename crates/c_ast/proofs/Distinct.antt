-- Statements of the program with one tree are equal: the way back from a tree.
use Rattle.std.proofs.Common.{◌≡◌, List, [], ◌∷◌, map, refl, sym, ap, ◌∙◌, subst}
use Rattle.c_ast.specs.Tree as tree
use Rattle.c_ast.specs.Tree.{Expression, Statements}
use Rattle.c_ast.specs.Fronts.{OneTree, OneExpression}
use Rattle.c_ast.specs.View.{expression_level, expression_of, statement_level, put_in_front, statements_of}
use Rattle.c_ast.specs.declared.expr.Expr.{Expr, map-Expr, roll-Expr}
use Rattle.c_ast.specs.declared.expr.Expr.TheOpen.{Expr-F}
use Rattle.c_ast.specs.declared.expr.Expr.TheFolds.{fold-roll-Expr, ind-Expr}
use Rattle.c_ast.specs.declared.stmt.Stmt.{Stmt, map-Stmt, roll-Stmt}
use Rattle.c_ast.specs.declared.stmt.Stmt.TheOpen.{Stmt-F}
use Rattle.c_ast.specs.declared.stmt.Stmt.TheFolds.{fold-roll-Stmt, ind-Stmt}

-- ---- expressions

-- the expression of the program with this tree
abbrev expression_with : Expression → Expr
expression_with (tree.Num z) = roll-Expr (Expr-F.Num z)
expression_with (tree.Var x) = roll-Expr (Expr-F.Var x)
expression_with (tree.Un op e) = roll-Expr (Expr-F.Un op (expression_with e))
expression_with (tree.Bin op e f) = roll-Expr (Expr-F.Bin op (expression_with e) (expression_with f))
expression_with (tree.Cond c e f) = roll-Expr (Expr-F.Cond (expression_with c) (expression_with e) (expression_with f))

abbrev IsBack : Expr → Type 0
IsBack e = expression_with (expression_of e) ≡ e

level_back : (level : Expr-F ((e : Expr) × IsBack e)) → IsBack (roll-Expr (map-Expr ((e : Expr) × IsBack e) Expr (λ e. e.0) level))
level_back (Expr-F.Num z) = rw (fold-roll-Expr Expression expression_level (Expr-F.Num z)) refl
level_back (Expr-F.Var x) = rw (fold-roll-Expr Expression expression_level (Expr-F.Var x)) refl
level_back (Expr-F.Un op e) = rw (fold-roll-Expr Expression expression_level (Expr-F.Un op e.0)) (ap (λ (z : Expr). roll-Expr (Expr-F.Un op z)) e.1)
level_back (Expr-F.Bin op e f) =
    rw (fold-roll-Expr Expression expression_level (Expr-F.Bin op e.0 f.0))
    (ap (λ (z : Expr). roll-Expr (Expr-F.Bin op z (expression_with (expression_of f.0)))) e.1 ∙ ap (λ (z : Expr). roll-Expr (Expr-F.Bin op e.0 z)) f.1)
level_back (Expr-F.Cond c e f) =
    rw (fold-roll-Expr Expression expression_level (Expr-F.Cond c.0 e.0 f.0))
    (ap (λ (z : Expr). roll-Expr (Expr-F.Cond z (expression_with (expression_of e.0)) (expression_with (expression_of f.0)))) c.1
    ∙ ap (λ (z : Expr). roll-Expr (Expr-F.Cond c.0 z (expression_with (expression_of f.0)))) e.1 ∙ ap (λ (z : Expr). roll-Expr (Expr-F.Cond c.0 e.0 z)) f.1)

pub expression_back : (e : Expr) → expression_with (expression_of e) ≡ e
expression_back = ind-Expr IsBack (λ x y is. subst (λ (z : Expr-F Expr). IsBack (roll-Expr z)) is (level_back y))

-- ---- statements

-- the statements of the program with this tree
abbrev statements_with : Statements → List Stmt
statements_with tree.Nil = []
statements_with (tree.Set x e others) = roll-Stmt (Stmt-F.Set x (expression_with e)) ∷ statements_with others
statements_with (tree.If e a b others) = roll-Stmt (Stmt-F.If (expression_with e) (statements_with a) (statements_with b)) ∷ statements_with others
statements_with (tree.Loop mark cond body step test_first others) =
    roll-Stmt (Stmt-F.Loop mark (expression_with cond) (statements_with body) (statements_with step) test_first) ∷ statements_with others
statements_with (tree.Break others) = roll-Stmt Stmt-F.Break ∷ statements_with others
statements_with (tree.Continue others) = roll-Stmt Stmt-F.Continue ∷ statements_with others
statements_with (tree.Return e others) = roll-Stmt (Stmt-F.Return (expression_with e)) ∷ statements_with others
statements_with (tree.Mark mark others) = roll-Stmt (Stmt-F.Mark mark) ∷ statements_with others
statements_with (tree.Block a others) = roll-Stmt (Stmt-F.Block (statements_with a)) ∷ statements_with others

-- What the statement puts in front of others is the statement again.
abbrev IsFrontBack : Stmt → Type 0
IsFrontBack stmt = (others : Statements) → statements_with (put_in_front stmt others) ≡ stmt ∷ statements_with others

abbrev Shown : Type 0
Shown = (stmt : Stmt) × IsFrontBack stmt

list_back : (stmts : List Shown) → statements_with (statements_of (map (λ (x : Shown). x.0) stmts)) ≡ map (λ (x : Shown). x.0) stmts
list_back [] = refl
list_back (stmt ∷ stmts) =
    stmt.1 (statements_of (map (λ (x : Shown). x.0) stmts)) ∙ ap (λ (others : List Stmt). stmt.0 ∷ others) (list_back stmts)

-- one level of a statement, by what it puts in front
front_level : (level : Stmt-F Stmt) (others : Statements) → put_in_front (roll-Stmt level) others
    ≡ statement_level (map-Stmt Stmt (Statements → Statements) put_in_front level) others
front_level level others = ap (λ (front : Statements → Statements). front others) (fold-roll-Stmt (Statements → Statements) statement_level level)

level_front : (level : Stmt-F Shown) → IsFrontBack (roll-Stmt (map-Stmt Shown Stmt (λ x. x.0) level))
level_front (Stmt-F.Set x e) others = rw (front_level (Stmt-F.Set x e) others, expression_back e) refl
level_front (Stmt-F.If e a b) others = rw (
  front_level (Stmt-F.If e (map (λ (x : Shown). x.0) a)
      (map (λ (x : Shown). x.0) b)) others,
  expression_back e,
  list_back a,
  list_back b,
) refl
level_front (Stmt-F.Loop mark cond body step test_first) others =
    rw (
      front_level (Stmt-F.Loop mark cond (map (λ (x : Shown). x.0) body)
          (map (λ (x : Shown). x.0) step) test_first) others,
      expression_back cond,
      list_back body,
      list_back step,
    ) refl
level_front Stmt-F.Break others = rw (front_level Stmt-F.Break others) refl
level_front Stmt-F.Continue others = rw (front_level Stmt-F.Continue others) refl
level_front (Stmt-F.Return e) others = rw (front_level (Stmt-F.Return e) others, expression_back e) refl
level_front (Stmt-F.Mark mark) others = rw (front_level (Stmt-F.Mark mark) others) refl
level_front (Stmt-F.Block a) others = rw (front_level (Stmt-F.Block (map (λ (x : Shown). x.0) a)) others, list_back a) refl

front_back : (stmt : Stmt) → IsFrontBack stmt
front_back = ind-Stmt IsFrontBack (λ x y is. subst (λ (z : Stmt-F Stmt). IsFrontBack (roll-Stmt z)) is (level_front y))

statements_back : (stmts : List Stmt) → statements_with (statements_of stmts) ≡ stmts
statements_back [] = refl
statements_back (stmt ∷ stmts) = front_back stmt (statements_of stmts) ∙ ap (λ (others : List Stmt). stmt ∷ others) (statements_back stmts)

-- Lists of statements with one tree are equal.
pub one_tree : OneTree
one_tree first second same = sym (statements_back first) ∙ ap statements_with same ∙ statements_back second

-- Expressions with one tree are equal.
pub one_expression : OneExpression
one_expression first second same = sym (expression_back first) ∙ ap expression_with same ∙ expression_back second
