-- What the statements in which no other stands put in front of their list, and where they are read.
use Rattle.std.proofs.Common.{◌≡◌, ◌-◌, ℕ, zero, suc, List, ◌∷◌, refl, ap, ◌∙◌, arith}
use Rattle.c_ast.specs.RawTree as tree
use Rattle.c_ast.specs.RawView.{raw_expression_of, raw_statement_level, raw_put_in_front}
use Rattle.c_ast.specs.declared.raw.RawExpr.{RawExpr}
use Rattle.c_ast.specs.declared.raw.RawStmt.{RawStmt, Break, Continue, Return, Mark, fold_out-RawStmt, map-RawStmt, out-RawStmt}
use Rattle.c_ast.specs.declared.raw.RawStmt.TheOpen.{RawStmt-F}
use Rattle.c_ast.specs.declared.raw.RawStmt.TheVariants.{outs-Break, outs-Continue, outs-Return, outs-Mark}
use Rattle.c_tokens.specs.declared.kind.Kind.{Kind}
use Rattle.c_tokens.specs.declared.token.Token.{Token}
use Rattle.c_reader.specs.Declarations.{Statement}
use Rattle.c_reader.specs.ReadStatements.{short_by, short_at}

level : (stmt : RawStmt) (opened : RawStmt-F RawStmt) → out-RawStmt stmt ≡ opened
    → raw_put_in_front stmt ≡ raw_statement_level (map-RawStmt RawStmt Statement raw_put_in_front opened)
level stmt opened is =
    fold_out-RawStmt Statement raw_statement_level stmt
    ∙ ap (λ (y : RawStmt-F RawStmt). raw_statement_level (map-RawStmt RawStmt Statement raw_put_in_front y)) is

pub front-Break : (line : ℕ) → raw_put_in_front (Break line) ≡ tree.Break line
front-Break line = level (Break line) _ (outs-Break line)

pub front-Continue : (line : ℕ) → raw_put_in_front (Continue line) ≡ tree.Continue line
front-Continue line = level (Continue line) _ (outs-Continue line)

pub front-Return : (expr : RawExpr) → raw_put_in_front (Return expr) ≡ tree.Return (raw_expression_of expr)
front-Return expr = level (Return expr) _ (outs-Return expr)

pub front-Mark : (number : ℕ) → raw_put_in_front (Mark number) ≡ tree.Mark number
front-Mark number = level (Mark number) _ (outs-Mark number)

-- the statement by its first token, where there is room
pub short-is : (room : ℕ) (tokens others : List Token) (first : Token) (kind : Kind) → (room ≡ 0 → ⊥)
    → tokens ≡ first ∷ others → first.kind ≡ kind → short_at room tokens ≡ short_by (room - 1) kind first others
short-is zero tokens others first kind some parts is = absurd (some refl)
short-is (suc room) tokens others first kind some parts is =
    ap (short_at (suc room)) parts ∙ ap (λ k. short_by room k first others) is
    ∙ ap (λ (n : ℕ). short_by n kind first others) (omega arith)
