-- Which tokens spell an expression (ISO C11, 6.5.1 to 6.5.15).
use Rattle.std.specs.Prelude.{◌≡◌, ℕ, suc, pos, ◌+◌, ◌<◌, ◌^◌, max, List, [], ◌∷◌, ◌++◌, Option, Some, None}
use Rattle.c_ast.specs.RawTree.{RawExpression, Num, Named, Un, Bin, Cond}
use Rattle.c_ast.specs.declared.expr.UnOp.{UnOp}
use Rattle.c_ast.specs.declared.expr.UnOp.TheVariants as unary
use Rattle.c_ast.specs.declared.expr.BinOp.{BinOp}
use Rattle.c_ast.specs.declared.expr.BinOp.TheVariants as binary
use Rattle.c_tokens.specs.declared.kind.Kind.{Kind}
use Rattle.c_tokens.specs.declared.kind.Kind.TheVariants as k
use Rattle.c_tokens.specs.declared.token.Token.{Token}

-- the operation of a sign before its operand (6.5.3.3)
abbrev pub unary_of : Kind → Option UnOp
unary_of k.Plus = Some unary.Plus
unary_of k.Minus = Some unary.Minus
unary_of k.Bang = Some unary.Not
unary_of _ = None

-- the level and the operation of a binary operator, loosest first (6.5.14 back to 6.5.5)
abbrev pub operator_of : Kind → Option (ℕ × BinOp)
operator_of k.BarBar = Some (1, binary.Or)
operator_of k.AmpAmp = Some (2, binary.And)
operator_of k.Equal = Some (3, binary.Equal)
operator_of k.NotEqual = Some (3, binary.NotEqual)
operator_of k.Less = Some (4, binary.Less)
operator_of k.LessEq = Some (4, binary.LessEq)
operator_of k.Greater = Some (4, binary.Greater)
operator_of k.GreaterEq = Some (4, binary.GreaterEq)
operator_of k.Plus = Some (5, binary.Add)
operator_of k.Minus = Some (5, binary.Sub)
operator_of k.Star = Some (6, binary.Mul)
operator_of k.Slash = Some (6, binary.Div)
operator_of k.Percent = Some (6, binary.Rem)
operator_of _ = None

-- The tokens spell the expression at a level: 0 is that of `? :`, then come the levels of the binary operators, 7 is
-- that of signs before an operand, and 8 that of names, constants and brackets.
pub data SpellsAt : ℕ → RawExpression → List Token → Type 0 where
  -- a name, with its line (6.5.1)
  named : (name : List ℕ) (token : Token) → token.kind ≡ k.Word name → SpellsAt 8 (Named name token.line) (token ∷ [])
  -- a constant below 2^63
  constant : (value : ℕ) (token : Token) → token.kind ≡ k.Constant value → value < 2 ^ 63
      → SpellsAt 8 (Num (pos value)) (token ∷ [])
  -- Brackets leave nothing in the tree.
  bracketed : (opening closing : Token) (e : RawExpression) (inside : List Token) → opening.kind ≡ k.OpenRound
      → closing.kind ≡ k.CloseRound → SpellsAt 0 e inside → SpellsAt 8 e (opening ∷ (inside ++ closing ∷ []))
  -- a sign before its operand (6.5.3.3)
  signed : (op : UnOp) (sign : Token) (e : RawExpression) (operand : List Token) → unary_of sign.kind ≡ Some op
      → SpellsAt 7 e operand → SpellsAt 7 (Un op e) (sign ∷ operand)
  -- The left operand is of the operator's level and the right one of the next, so equal levels group to the left. The
  -- line is the operator's.
  joined : (level : ℕ) (op : BinOp) (sign : Token) (e f : RawExpression) (left right : List Token)
      → operator_of sign.kind ≡ Some (level, op) → SpellsAt level e left → SpellsAt (suc level) f right
      → SpellsAt level (Bin op sign.line e f) (left ++ sign ∷ right)
  -- a choice (6.5.15), whose two values are whole expressions
  chosen : (question colon : Token) (cond e f : RawExpression) (before between behind : List Token)
      → question.kind ≡ k.Question → colon.kind ≡ k.Colon → SpellsAt 1 cond before → SpellsAt 0 e between
      → SpellsAt 0 f behind → SpellsAt 0 (Cond cond e f) (before ++ question ∷ (between ++ colon ∷ behind))
  -- An expression of the next level may stand alone.
  alone : (level : ℕ) (e : RawExpression) (tokens : List Token) → level < 8 → SpellsAt (suc level) e tokens
      → SpellsAt level e tokens

-- The tokens spell the expression.
abbrev pub SpellsExpression : RawExpression → List Token → Type 0
SpellsExpression e tokens = SpellsAt 0 e tokens

-- the depth of an expression: a name or a constant has 1, and any other 1 more than its deepest part
abbrev pub expression_depth : RawExpression → ℕ
expression_depth (Num z) = 1
expression_depth (Named name line) = 1
expression_depth (Un op e) = expression_depth e + 1
expression_depth (Bin op line e f) = max (expression_depth e) (expression_depth f) + 1
expression_depth (Cond cond e f) = max (expression_depth cond) (max (expression_depth e) (expression_depth f)) + 1

-- No expression goes on with the first token: it is no binary operator and no `?`, or there is none.
abbrev pub EndsExpression : List Token → Type 0
EndsExpression [] = Unit {0}
EndsExpression (token ∷ others) = (operator_of token.kind ≡ None) × (token.kind ≡ k.Question → ⊥)

-- Two expressions that one list of tokens spells are equal.
abbrev pub HasOneExpression : Type 0
HasOneExpression = (tokens : List Token) (first second : RawExpression) → SpellsExpression first tokens
    → SpellsExpression second tokens → first ≡ second
