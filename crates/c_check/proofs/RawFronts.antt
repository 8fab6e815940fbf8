-- What each kind of statement as it was read puts in front of the rest of its list.
use Rattle.std.proofs.Common.{◌≡◌, ℕ, List, Option, Some, None, map, ap, ◌∙◌}
use Rattle.std.specs.Prelude.{option_map}
use Rattle.c_ast.specs.RawTree as tree
use Rattle.c_ast.specs.RawTree.{RawStatements}
use Rattle.c_ast.specs.RawView.{raw_expression_of, raw_condition_of, raw_declared_of, raw_one, raw_optional, raw_branches, raw_statement_level, raw_put_in_front, raw_statements_of}
use Rattle.c_ast.specs.declared.raw.RawExpr.{RawExpr}
use Rattle.c_ast.specs.declared.raw.RawCond.{RawCond}
use Rattle.c_ast.specs.declared.raw.RawDeclarator.{RawDeclarator}
use Rattle.c_ast.specs.declared.raw.RawStmt.{RawStmt, Declare, Assign, If, While, Do, For, Break, Continue, Return, Mark, Block, Empty, fold_out-RawStmt, map-RawStmt, out-RawStmt}
use Rattle.c_ast.specs.declared.raw.RawStmt.TheOpen.{RawStmt-F}
use Rattle.c_ast.specs.declared.raw.RawStmt.TheVariants.{outs-Declare, outs-Assign, outs-If, outs-While, outs-Do, outs-For, outs-Break, outs-Continue, outs-Return, outs-Mark, outs-Block, outs-Empty}

level : (stmt : RawStmt) (shape : RawStmt-F RawStmt) (others : RawStatements) → out-RawStmt stmt ≡ shape
    → raw_put_in_front stmt others ≡ raw_statement_level (map-RawStmt RawStmt (RawStatements → RawStatements) raw_put_in_front shape) others
level stmt shape others is =
    ap (λ (front : RawStatements → RawStatements). front others) (fold_out-RawStmt (RawStatements → RawStatements) raw_statement_level stmt)
    ∙ ap (λ (some_shape : RawStmt-F RawStmt). raw_statement_level (map-RawStmt RawStmt (RawStatements → RawStatements) raw_put_in_front some_shape) others) is

pub front-Declare : (declarators : List RawDeclarator) (others : RawStatements)
    → raw_put_in_front (Declare declarators) others ≡ tree.Declare (map raw_declared_of declarators) others
front-Declare declarators others = level (Declare declarators) _ others (outs-Declare declarators)

pub front-Assign : (name : List ℕ) (line : ℕ) (expr : RawExpr) (others : RawStatements)
    → raw_put_in_front (Assign name line expr) others ≡ tree.Assign name line (raw_expression_of expr) others
front-Assign name line expr others = level (Assign name line expr) _ others (outs-Assign name line expr)

pub front-If : (test : RawExpr) (branch : RawStmt) (alternative : Option RawStmt) (others : RawStatements)
    → raw_put_in_front (If test branch alternative) others ≡ raw_branches (raw_expression_of test) (raw_one (raw_put_in_front branch))
    (option_map raw_put_in_front alternative) others
front-If test branch None others = level (If test branch None) _ others (outs-If test branch None)
front-If test branch (Some alternative) others = level (If test branch (Some alternative)) _ others (outs-If test branch (Some alternative))

pub front-While : (test : RawCond) (turn : RawStmt) (others : RawStatements)
    → raw_put_in_front (While test turn) others ≡ tree.While (raw_condition_of test) (raw_one (raw_put_in_front turn)) others
front-While test turn others = level (While test turn) _ others (outs-While test turn)

pub front-Do : (turn : RawStmt) (test : RawCond) (others : RawStatements)
    → raw_put_in_front (Do turn test) others ≡ tree.Do (raw_one (raw_put_in_front turn)) (raw_condition_of test) others
front-Do turn test others = level (Do turn test) _ others (outs-Do turn test)

pub front-For : (start : Option RawStmt) (test : Option RawCond) (step : Option RawStmt) (turn : RawStmt) (others : RawStatements)
    → raw_put_in_front (For start test step turn) others ≡ tree.For (raw_optional (option_map raw_put_in_front start)) (option_map raw_condition_of test)
    (raw_optional (option_map raw_put_in_front step)) (raw_one (raw_put_in_front turn)) others
front-For None None None turn others = level (For None None None turn) _ others (outs-For None None None turn)
front-For None None (Some step) turn others = level (For None None (Some step) turn) _ others (outs-For None None (Some step) turn)
front-For None (Some test) None turn others = level (For None (Some test) None turn) _ others (outs-For None (Some test) None turn)
front-For None (Some test) (Some step) turn others = level (For None (Some test) (Some step) turn) _ others (outs-For None (Some test) (Some step) turn)
front-For (Some start) None None turn others = level (For (Some start) None None turn) _ others (outs-For (Some start) None None turn)
front-For (Some start) None (Some step) turn others = level (For (Some start) None (Some step) turn) _ others (outs-For (Some start) None (Some step) turn)
front-For (Some start) (Some test) None turn others = level (For (Some start) (Some test) None turn) _ others (outs-For (Some start) (Some test) None turn)
front-For (Some start) (Some test) (Some step) turn others =
    level (For (Some start) (Some test) (Some step) turn) _ others (outs-For (Some start) (Some test) (Some step) turn)

pub front-Break : (line : ℕ) (others : RawStatements) → raw_put_in_front (Break line) others ≡ tree.Break line others
front-Break line others = level (Break line) _ others (outs-Break line)

pub front-Continue : (line : ℕ) (others : RawStatements) → raw_put_in_front (Continue line) others ≡ tree.Continue line others
front-Continue line others = level (Continue line) _ others (outs-Continue line)

pub front-Return : (expr : RawExpr) (others : RawStatements) → raw_put_in_front (Return expr) others ≡ tree.Return (raw_expression_of expr) others
front-Return expr others = level (Return expr) _ others (outs-Return expr)

pub front-Mark : (mark : ℕ) (others : RawStatements) → raw_put_in_front (Mark mark) others ≡ tree.Mark mark others
front-Mark mark others = level (Mark mark) _ others (outs-Mark mark)

pub front-Block : (items : List RawStmt) (others : RawStatements) → raw_put_in_front (Block items) others ≡ tree.Block (raw_statements_of items) others
front-Block items others = level (Block items) _ others (outs-Block items)

pub front-Empty : (others : RawStatements) → raw_put_in_front Empty others ≡ tree.Empty others
front-Empty others = level Empty _ others outs-Empty
