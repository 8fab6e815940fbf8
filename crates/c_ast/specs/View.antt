-- The tree that an expression or a list of statements of the program stands for.
use Rattle.std.specs.Prelude.{List, [], ◌∷◌, map}
use Rattle.c_ast.specs.Tree as tree
use Rattle.c_ast.specs.Tree.{Expression, Statements}
use Rattle.c_ast.specs.declared.expr.Expr.{Expr, fold-Expr}
use Rattle.c_ast.specs.declared.expr.Expr.TheOpen.{Expr-F}
use Rattle.c_ast.specs.declared.stmt.Stmt.{Stmt, fold-Stmt}
use Rattle.c_ast.specs.declared.stmt.Stmt.TheOpen.{Stmt-F}

-- One level of an expression, over the trees of its parts.
abbrev pub expression_level : Expr-F Expression → Expression
expression_level (Expr-F.Num z) = tree.Num z
expression_level (Expr-F.Var x) = tree.Var x
expression_level (Expr-F.Un op e) = tree.Un op e
expression_level (Expr-F.Bin op e f) = tree.Bin op e f
expression_level (Expr-F.Cond c e f) = tree.Cond c e f

-- The tree of an expression.
abbrev pub expression_of : Expr → Expression
expression_of = fold-Expr Expression expression_level

-- Statements are seen as what each puts in front of the rest of its list.
abbrev pub joined : List (Statements → Statements) → Statements
joined [] = tree.Nil
joined (first ∷ others) = first (joined others)

-- One level of a statement, over what its parts put in front.
abbrev pub statement_level : Stmt-F (Statements → Statements) → Statements → Statements
statement_level (Stmt-F.Set x e) others = tree.Set x (expression_of e) others
statement_level (Stmt-F.If e a b) others = tree.If (expression_of e) (joined a) (joined b) others
statement_level (Stmt-F.Loop mark cond body step test_first) others =
    tree.Loop mark (expression_of cond) (joined body) (joined step) test_first others
statement_level Stmt-F.Break others = tree.Break others
statement_level Stmt-F.Continue others = tree.Continue others
statement_level (Stmt-F.Return e) others = tree.Return (expression_of e) others
statement_level (Stmt-F.Mark k) others = tree.Mark k others
statement_level (Stmt-F.Block a) others = tree.Block (joined a) others

-- What a statement puts in front of the rest of its list.
abbrev pub put_in_front : Stmt → Statements → Statements
put_in_front = fold-Stmt (Statements → Statements) statement_level

-- The tree of a list of statements.
abbrev pub statements_of : List Stmt → Statements
statements_of stmts = joined (map put_in_front stmts)
