-- The tree that an expression, a list of statements or a function of a file as it was read stands for.
use Rattle.std.specs.Prelude.{List, [], ◌∷◌, Option, Some, None, map, option_map}
use Rattle.c_ast.specs.RawTree as tree
use Rattle.c_ast.specs.RawTree.{RawExpression, RawCondition, RawDeclared, RawStatements, RawFunction}
use Rattle.c_ast.specs.declared.raw.RawExpr.{RawExpr, fold-RawExpr}
use Rattle.c_ast.specs.declared.raw.RawExpr.TheOpen.{RawExpr-F}
use Rattle.c_ast.specs.declared.raw.RawCond.{RawCond}
use Rattle.c_ast.specs.declared.raw.RawDeclarator.{RawDeclarator}
use Rattle.c_ast.specs.declared.raw.RawStmt.{RawStmt, fold-RawStmt}
use Rattle.c_ast.specs.declared.raw.RawStmt.TheOpen.{RawStmt-F}
use Rattle.c_ast.specs.declared.raw.RawFunc.{RawFunc}

-- One level of an expression, over the trees of its parts.
abbrev pub raw_expression_level : RawExpr-F RawExpression → RawExpression
raw_expression_level (RawExpr-F.Num z) = tree.Num z
raw_expression_level (RawExpr-F.Var name line) = tree.Named name line
raw_expression_level (RawExpr-F.Un op e) = tree.Un op e
raw_expression_level (RawExpr-F.Bin op line e f) = tree.Bin op line e f
raw_expression_level (RawExpr-F.Cond c e f) = tree.Cond c e f

-- The tree of an expression.
abbrev pub raw_expression_of : RawExpr → RawExpression
raw_expression_of = fold-RawExpr RawExpression raw_expression_level

-- The tree of a loop's condition.
abbrev pub raw_condition_of : RawCond → RawCondition
raw_condition_of cond = record { mark = cond.mark; cond = raw_expression_of cond.cond }

-- The tree of a declarator.
abbrev pub raw_declared_of : RawDeclarator → RawDeclared
raw_declared_of declarator =
    record { var = declarator.var; initialiser = option_map raw_expression_of declarator.initialiser }

-- Statements are seen as what each puts in front of the rest of its list.
abbrev pub raw_joined : List (RawStatements → RawStatements) → RawStatements
raw_joined [] = tree.Nil
raw_joined (first ∷ others) = first (raw_joined others)

-- The list of one statement.
abbrev pub raw_one : (RawStatements → RawStatements) → RawStatements
raw_one first = first tree.Nil

-- The list of one statement, or of none.
abbrev pub raw_optional : Option (RawStatements → RawStatements) → RawStatements
raw_optional None = tree.Nil
raw_optional (Some first) = first tree.Nil

-- An `if` in front of the rest of its list, with the branch behind `else` where there is one.
abbrev pub raw_branches : RawExpression → RawStatements → Option (RawStatements → RawStatements) → RawStatements
    → RawStatements
raw_branches cond first None others = tree.If cond first others
raw_branches cond first (Some second) others = tree.IfElse cond first (raw_one second) others

-- One level of a statement, over what its parts put in front.
abbrev pub raw_statement_level : RawStmt-F (RawStatements → RawStatements) → RawStatements → RawStatements
raw_statement_level (RawStmt-F.Declare declarators) others = tree.Declare (map raw_declared_of declarators) others
raw_statement_level (RawStmt-F.Assign name line e) others = tree.Assign name line (raw_expression_of e) others
raw_statement_level (RawStmt-F.If cond first second) others =
    raw_branches (raw_expression_of cond) (raw_one first) second others
raw_statement_level (RawStmt-F.While cond body) others = tree.While (raw_condition_of cond) (raw_one body) others
raw_statement_level (RawStmt-F.Do body cond) others = tree.Do (raw_one body) (raw_condition_of cond) others
raw_statement_level (RawStmt-F.For init cond step body) others =
    tree.For (raw_optional init) (option_map raw_condition_of cond) (raw_optional step)
    (raw_one body) others
raw_statement_level (RawStmt-F.Break line) others = tree.Break line others
raw_statement_level (RawStmt-F.Continue line) others = tree.Continue line others
raw_statement_level (RawStmt-F.Return e) others = tree.Return (raw_expression_of e) others
raw_statement_level (RawStmt-F.Mark mark) others = tree.Mark mark others
raw_statement_level (RawStmt-F.Block a) others = tree.Block (raw_joined a) others
raw_statement_level RawStmt-F.Empty others = tree.Empty others

-- What a statement puts in front of the rest of its list.
abbrev pub raw_put_in_front : RawStmt → RawStatements → RawStatements
raw_put_in_front = fold-RawStmt (RawStatements → RawStatements) raw_statement_level

-- The tree of a list of statements.
abbrev pub raw_statements_of : List RawStmt → RawStatements
raw_statements_of stmts = raw_joined (map raw_put_in_front stmts)

-- The tree of a function.
abbrev pub raw_function_of : RawFunc → RawFunction
raw_function_of func =
    record { name = func.name; line = func.line; params = func.params; body = raw_statements_of func.body }
