-- The definitions on small texts.
use Rattle.std.proofs.Common.{◌≡◌, [], ◌∷◌, Some, None, List, refl, pos}
use Rattle.std.specs.Prelude.{codes, map}
use Rattle.c_ast.specs.RawTree.{RawExpression, Num, Named, Un, Bin, Cond}
use Rattle.c_ast.specs.declared.expr.UnOp.TheVariants as unary
use Rattle.c_ast.specs.declared.expr.BinOp.TheVariants as binary
use Rattle.c_tokens.specs.declared.kind.Kind.{Kind}
use Rattle.c_tokens.specs.declared.kind.Kind.TheVariants as k
use Rattle.c_tokens.specs.declared.token.Token.{Token}
use Rattle.c_reader.specs.Expressions.{expression_depth}
use Rattle.c_reader.specs.ReadExpressions.{expression_at, operand_at, further_at, choice_at, operand_within, further_within, choice_within}

-- tokens of these kinds, all in line 1
line_of : List Kind → List Token
line_of kinds = map (λ kind. record { kind = kind; line = 1; column = 1 }) kinds

a : Kind
a = k.Word (codes "a")

b : Kind
b = k.Word (codes "b")

c : Kind
c = k.Word (codes "c")

-- these names
name_a : RawExpression
name_a = Named (codes "a") 1

name_b : RawExpression
name_b = Named (codes "b") 1

name_c : RawExpression
name_c = Named (codes "c") 1

-- Operations of one level group to the left: `a - b - c;`.
reads_left : expression_at (line_of (a ∷ k.Minus ∷ b ∷ k.Minus ∷ c ∷ k.Semicolon ∷ []))
    ≡ Some (Bin binary.Sub 1 (Bin binary.Sub 1 name_a name_b) name_c, line_of (k.Semicolon ∷ []))
unfolding expression_at operand_at further_at choice_at operand_within further_within choice_within line_of a b c name_a name_b name_c
reads_left = refl

-- Tighter operations are operands of looser ones: `a < b == c`, `a || b && c` and `!a * b`.
reads_tighter : expression_at (line_of (a ∷ k.Less ∷ b ∷ k.Equal ∷ c ∷ []))
    ≡ Some (Bin binary.Equal 1 (Bin binary.Less 1 name_a name_b) name_c, [])
unfolding expression_at operand_at further_at choice_at operand_within further_within choice_within line_of a b c name_a name_b name_c
reads_tighter = refl

reads_tighter_right : expression_at (line_of (a ∷ k.BarBar ∷ b ∷ k.AmpAmp ∷ c ∷ []))
    ≡ Some (Bin binary.Or 1 name_a (Bin binary.And 1 name_b name_c), [])
unfolding expression_at operand_at further_at choice_at operand_within further_within choice_within line_of a b c name_a name_b name_c
reads_tighter_right = refl

reads_sign : expression_at (line_of (k.Bang ∷ a ∷ k.Star ∷ b ∷ []))
    ≡ Some (Bin binary.Mul 1 (Un unary.Not name_a) name_b, [])
unfolding expression_at operand_at further_at choice_at operand_within further_within choice_within line_of a b c name_a name_b name_c
reads_sign = refl

-- Division binds as multiplication does, and a sign before its operand tighter: `a / b * c` and `-a % b`.
reads_division : expression_at (line_of (a ∷ k.Slash ∷ b ∷ k.Star ∷ c ∷ []))
    ≡ Some (Bin binary.Mul 1 (Bin binary.Div 1 name_a name_b) name_c, [])
unfolding expression_at operand_at further_at choice_at operand_within further_within choice_within line_of a b c name_a name_b name_c
reads_division = refl

reads_remainder : expression_at (line_of (k.Minus ∷ a ∷ k.Percent ∷ b ∷ []))
    ≡ Some (Bin binary.Rem 1 (Un unary.Minus name_a) name_b, [])
unfolding expression_at operand_at further_at choice_at operand_within further_within choice_within line_of a b c name_a name_b name_c
reads_remainder = refl

-- Choices group to the right: `a ? b : c ? a : b`.
reads_choices : expression_at (line_of (a ∷ k.Question ∷ b ∷ k.Colon ∷ c ∷ k.Question ∷ a ∷ k.Colon ∷ b ∷ []))
    ≡ Some (Cond name_a name_b (Cond name_c name_a name_b), [])
unfolding expression_at operand_at further_at choice_at operand_within further_within choice_within line_of a b c name_a name_b name_c
reads_choices = refl

-- Brackets group, and leave nothing: `a - (b - 5))`.
reads_brackets : expression_at (line_of (a ∷ k.Minus ∷ k.OpenRound ∷ b ∷ k.Minus ∷ k.Constant 5 ∷ k.CloseRound ∷ k.CloseRound ∷ []))
    ≡ Some (Bin binary.Sub 1 name_a (Bin binary.Sub 1 name_b (Num (pos 5))), line_of (k.CloseRound ∷ []))
unfolding expression_at operand_at further_at choice_at operand_within further_within choice_within line_of a b c name_a name_b name_c
reads_brackets = refl

-- No operand, no bracket behind, no `:`, and the mark word: no expression.
reads_none : (expression_at (line_of (a ∷ k.Plus ∷ [])) ≡ None) × (expression_at (line_of (k.OpenRound ∷ a ∷ [])) ≡ None)
    × (expression_at (line_of (a ∷ k.Question ∷ b ∷ [])) ≡ None) × (expression_at (line_of (k.MarkWord ∷ [])) ≡ None)
unfolding expression_at operand_at further_at choice_at operand_within further_within choice_within line_of a b c name_a name_b name_c
reads_none = (refl, refl, refl, refl)

-- A name has depth 1, and each operation adds 1 to its deepest part.
depth_sample : expression_depth (Bin binary.Add 1 (Un unary.Minus (Un unary.Minus name_a)) name_b) ≡ 4
unfolding name_a name_b
depth_sample = refl
