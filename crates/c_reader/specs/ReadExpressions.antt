-- The longest expression at the front of tokens, read by the levels of its operators. Only proofs and the contracts of
-- private functions cite these: `Expressions` says which tokens spell an expression.
use Rattle.std.specs.Prelude.{◌≡◌, ℕ, suc, zero, pos, ◌<◌, ◌^◌, nat_le, nat_lt, if◌then◌else◌, List, [], ◌∷◌, length, Option, Some, None, option_and_then}
use Rattle.c_ast.specs.RawTree.{RawExpression, Num, Named, Un, Bin, Cond}
use Rattle.c_ast.specs.declared.expr.BinOp.{BinOp}
use Rattle.c_tokens.specs.declared.kind.Kind.{Kind}
use Rattle.c_tokens.specs.declared.kind.Kind.TheVariants as k
use Rattle.c_tokens.specs.declared.token.Token.{Token}
use Rattle.c_tokens.specs.declared.fixed.Fixed.TheVariants as fixed
use Rattle.c_reader.specs.Fronts.{behind_sign}
use Rattle.c_reader.specs.Expressions.{unary_of, operator_of, expression_depth}

infixl 10 ◌>>=◌
-- Where a step of reading finds nothing, so does the whole.
abbrev pub ◌>>=◌ : {A B : Type 0} → Option A → (A → Option B) → Option B
step >>= go_on = option_and_then go_on step

-- what is read, and the tokens behind it
abbrev pub Reading : Type 0
Reading = Option (RawExpression × List Token)

-- how tokens are read
abbrev pub Reader : Type 0
Reader = List Token → Reading

-- how reading goes on from an expression
abbrev pub Further : Type 0
Further = RawExpression → Reader

-- an operator: its level, its operation, its line, and the tokens behind it
abbrev pub NextOperator : Type 0
NextOperator = ℕ × BinOp × ℕ × List Token

-- the first token, where it is a binary operator of the level or a tighter one
abbrev pub next_operator : ℕ → List Token → Option NextOperator
next_operator level [] = None
next_operator level (token ∷ others) =
    operator_of token.kind >>= λ x. if nat_le level x.0 then Some (x.0, x.1, token.line, others) else None

-- An operand by the kind and the line of its first token and the tokens behind that. `inside` is the expression that
-- stands there, where this is a bracket, and `operand` the operand there, where this is a sign.
abbrev pub operand_by : Kind → ℕ → List Token → Reading → Reading → Reading
operand_by (k.Word name) line others inside operand = Some (Named name line, others)
operand_by (k.Constant value) line others inside operand =
    if nat_lt value (2 ^ 63) then Some (Num (pos value), others) else None
operand_by k.OpenRound line others inside operand =
    inside >>= λ x. behind_sign fixed.CloseRound x.1 >>= λ after. Some (x.0, after)
operand_by kind line others inside operand = unary_of kind >>= λ op. operand >>= λ x. Some (Un op x.0, x.1)

-- An operand and the operator behind it, if there is one: then its right operand is read by `right`, and the reading
-- goes on from their operation by `further`.
abbrev pub joined_by : RawExpression → List Token → Option NextOperator → (ℕ → Reader) → Further → Reading
joined_by left tokens None right further = Some (left, tokens)
joined_by left tokens (Some (level, op, line, others)) right further =
    right (suc level) others >>= λ x. further (Bin op line left x.0) x.1

-- A condition and the tokens behind a `?`, if there is one: then both values are read by `value`.
abbrev pub chosen_by : RawExpression → List Token → Option (List Token) → Reader → Reading
chosen_by cond tokens None value = Some (cond, tokens)
chosen_by cond tokens (Some others) value =
    value others >>= λ x. behind_sign fixed.Colon x.1 >>= λ after. value after >>= λ y. Some (Cond cond x.0 y.0, y.1)

-- an operand, and what goes on from it
abbrev pub level_by : Reader → Further → Reader
level_by operand further tokens = operand tokens >>= λ x. further x.0 x.1

-- an or-expression, and what goes on from it
abbrev pub whole_by : Reader → Further → Further → Reader
whole_by operand further choice tokens = level_by operand further tokens >>= λ x. choice x.0 x.1

-- These functions end with their first argument, and do not depend on it where it is greater than the number of tokens.
unfoldable mutual
  -- the operand at the front
  pub operand_within : ℕ → Reader
  operand_within zero tokens = None
  operand_within (suc n) [] = None
  operand_within (suc n) (token ∷ others) =
      operand_by token.kind token.line others
      (whole_by (operand_within n) (further_within n 1) (choice_within n) others) (operand_within n others)

  -- The operators of the level and of tighter ones that follow an operand take it as their left one.
  pub further_within : ℕ → ℕ → Further
  further_within zero level left tokens = None
  further_within (suc n) level left tokens =
      joined_by left tokens (next_operator level tokens) (λ above. level_by (operand_within n) (further_within n above))
      (further_within n level)

  -- A `?` that follows an or-expression takes it as its condition.
  pub choice_within : ℕ → Further
  choice_within zero cond tokens = None
  choice_within (suc n) cond tokens =
      chosen_by cond tokens (behind_sign fixed.Question tokens)
      (whole_by (operand_within n) (further_within n 1) (choice_within n))

-- the operand at the front, and the tokens behind it
unfoldable pub operand_at : Reader
operand_at tokens = operand_within (length tokens) tokens

-- the longest expression of a level from this left operand on, and the tokens behind it
unfoldable pub further_at : ℕ → Further
further_at level left tokens = further_within (suc (length tokens)) level left tokens

-- the longest expression of a level at the front, and the tokens behind it
unfoldable pub level_at : ℕ → Reader
level_at level tokens = level_by operand_at (further_at level) tokens

-- the longest expression from this condition on, and the tokens behind it
unfoldable pub choice_at : Further
choice_at cond tokens = choice_within (suc (length tokens)) cond tokens

-- the longest expression at the front, and the tokens behind it
unfoldable pub expression_at : Reader
expression_at tokens = whole_by operand_at (further_at 1) choice_at tokens

-- Each expression that is read is deeper than this.
abbrev pub IsDeeper : ℕ → Reading → Type 0
IsDeeper depth reading =
    (e : RawExpression) (others : List Token) → reading ≡ Some (e, others) → depth < expression_depth e
