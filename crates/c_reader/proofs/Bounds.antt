-- How far readings go, and that they do not depend on their first argument.
use Rattle.std.proofs.Common.{◌≡◌, ℕ, zero, suc, ◌+◌, ◌<◌, ◌≤◌, List, [], ◌∷◌, length, Some, ap, arith}
use Rattle.c_ast.specs.RawTree.{RawExpression, Bin}
use Rattle.c_ast.specs.declared.expr.BinOp.{BinOp}
use Rattle.c_tokens.specs.declared.token.Token.{Token}
use Rattle.c_reader.specs.ReadExpressions.{Reading, level_by, whole_by, operand_within, further_within, choice_within}
use Rattle.c_tokens.specs.declared.fixed.Fixed.TheVariants as fixed
use Rattle.c_reader.proofs.Reading.{SignFirst-short}
use Rattle.c_reader.proofs.Parts.{IsNext, OperandIs, OperandIs-from_operand, named, constant, bracketed, signed, JoinedIs, JoinedIs-from_joined, ChosenIs, ChosenIs-from_chosen, ends, goes_on, LevelIs-from_level, WholeIs-from_whole}

-- what the program of a bound reads at a level, and as a whole
abbrev pub level_within : ℕ → ℕ → List Token → Reading
level_within n level tokens = level_by (operand_within n) (further_within n level) tokens

abbrev pub whole_within : ℕ → List Token → Reading
whole_within n tokens = whole_by (operand_within n) (further_within n 1) (choice_within n) tokens

-- what stands behind an operand is shorter, and what stands behind the rest is not longer
pub record IsShort (n : ℕ) : Type 0 where
  pub operand : (tokens : List Token) (e : RawExpression) (others : List Token)
      → operand_within n tokens ≡ Some (e, others) → length others < length tokens
  pub further : (level : ℕ) (left : RawExpression) (tokens : List Token) (e : RawExpression) (others : List Token)
      → further_within n level left tokens ≡ Some (e, others) → length others ≤ length tokens
  pub choice : (cond : RawExpression) (tokens : List Token) (e : RawExpression) (others : List Token)
      → choice_within n cond tokens ≡ Some (e, others) → length others ≤ length tokens

pub level-short : (n : ℕ) → IsShort n → (level : ℕ) (tokens : List Token) (e : RawExpression) (others : List Token)
    → level_within n level tokens ≡ Some (e, others) → length others < length tokens
level-short n short level tokens e others is =
    let parts = LevelIs-from_level (operand_within n) (further_within n level) tokens e others is in
    omega (
      arith,
      short.operand tokens parts.left parts.after parts.found,
      short.further level parts.left parts.after e others parts.goes_on,
    )

pub whole-short : (n : ℕ) → IsShort n → (tokens : List Token) (e : RawExpression) (others : List Token)
    → whole_within n tokens ≡ Some (e, others) → length others < length tokens
whole-short n short tokens e others is =
    let parts = WholeIs-from_whole (operand_within n) (further_within n 1) (choice_within n) tokens e others is in
    omega (
      arith,
      level-short n short 1 tokens parts.cond parts.after parts.found,
      short.choice parts.cond parts.after e others parts.goes_on,
    )

pub IsNext-short : (level : ℕ) (tokens : List Token) (at : ℕ) (op : BinOp) (line : ℕ) (others : List Token)
    → IsNext level tokens at op line others → length tokens ≡ length others + 1
IsNext-short level tokens at op line others next = rw next.parts (omega arith)

operand-short : (n : ℕ) → IsShort n → (token : Token) (others : List Token) (e : RawExpression) (last : List Token)
    → OperandIs token.kind token.line others (whole_within n others) (operand_within n others) e last
    → length last < suc (length others)
operand-short n short token others e last (named name is) = omega arith
operand-short n short token others e last (constant value is below) = omega arith
operand-short n short token others e last (bracketed _ after _ is inside passes) =
    omega (arith, whole-short n short others e after inside, SignFirst-short fixed.CloseRound after last passes)
operand-short n short token others e last (signed op f _ is operand) =
    omega (arith, short.operand others f last operand)

further-short : (n : ℕ) → IsShort n → (level : ℕ) (left : RawExpression) (tokens : List Token)
    (e : RawExpression) (last : List Token)
    → JoinedIs left tokens level (λ above. level_within n above) (further_within n level) e last
    → length last ≤ length tokens
further-short n short level left tokens e last (ends same all stops) = omega (arith, ap length all)
further-short n short level left tokens e last (goes_on at op line others f after next right further) =
    omega (
      arith,
      IsNext-short level tokens at op line others next,
      level-short n short (suc at) others f after right,
      short.further level (Bin op line left f) after e last further,
    )

choice-short : (n : ℕ) → IsShort n → (cond : RawExpression) (tokens : List Token) (e : RawExpression) (last : List Token)
    → ChosenIs cond tokens (whole_within n) e last → length last ≤ length tokens
choice-short n short cond tokens e last (ends same all none) = omega (arith, ap length all)
choice-short n short cond tokens e last (goes_on others after further f g question first colon second same) =
    omega (
      arith,
      SignFirst-short fixed.Question tokens others question,
      whole-short n short others f after first,
      SignFirst-short fixed.Colon after further colon,
      whole-short n short further g last second,
    )

pub IsShort-all : (n : ℕ) → IsShort n
unfolding operand_within
IsShort-all zero = record {
  operand = λ tokens e others is. absurd cc;
  further = λ level left tokens e others is. absurd cc;
  choice = λ cond tokens e others is. absurd cc;
}
IsShort-all (suc n) = record {
  operand = elim [
    | [] ↦ λ e others is. absurd cc
    | token ∷ behind_it ↦ λ e others is. operand-short n (IsShort-all n) token behind_it e others
        (OperandIs-from_operand token.kind token.line behind_it (whole_within n behind_it) (operand_within n behind_it) e others is)
  ];
  further = λ level left tokens e others is. further-short n (IsShort-all n) level left tokens e others
      (JoinedIs-from_joined left tokens level (λ above. level_within n above) (further_within n level) e others is);
  choice = λ cond tokens e others is. choice-short n (IsShort-all n) cond tokens e others
      (ChosenIs-from_chosen cond tokens (whole_within n) e others is);
}
