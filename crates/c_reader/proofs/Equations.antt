-- The equations of readings, without their first argument: two that are great enough read the same.
use Rattle.std.proofs.Common.{◌≡◌, ℕ, zero, suc, ◌<◌, ◌≤◌, List, [], ◌∷◌, length, Option, Some, None, refl, ap, ◌∙◌, arith}
use Rattle.c_ast.specs.RawTree.{RawExpression, Bin, Cond}
use Rattle.c_ast.specs.declared.expr.BinOp.{BinOp}
use Rattle.c_tokens.specs.declared.token.Token.{Token}
use Rattle.c_reader.specs.ReadExpressions.{Reader, Further, NextOperator, ◌>>=◌, Reading, next_operator, operand_by, joined_by, chosen_by, level_by, operand_within, further_within, choice_within, operand_at, further_at, level_at, choice_at, expression_at}
use Rattle.c_tokens.specs.declared.fixed.Fixed.TheVariants as fixed
use Rattle.c_reader.specs.Fronts.{behind_sign}
use Rattle.c_reader.proofs.Reading.{behind_sign-found, SignFirst-short}
use Rattle.c_reader.proofs.Parts.{step-same, IsNext-from_next}
use Rattle.c_reader.proofs.Bounds.{level_within, whole_within, IsShort-all, level-short, whole-short, IsNext-short}

-- Two bounds that are great enough for the tokens read the same.
record AreSame (n m : ℕ) : Type 0 where
  operand : (tokens : List Token) → length tokens ≤ n → length tokens ≤ m
      → operand_within n tokens ≡ operand_within m tokens
  further : (level : ℕ) (left : RawExpression) (tokens : List Token) → length tokens < n → length tokens < m
      → further_within n level left tokens ≡ further_within m level left tokens
  choice : (cond : RawExpression) (tokens : List Token) → length tokens < n → length tokens < m
      → choice_within n cond tokens ≡ choice_within m cond tokens

level-same : (n m : ℕ) → AreSame n m → (level : ℕ) (tokens : List Token) → length tokens ≤ n → length tokens ≤ m
    → level_within n level tokens ≡ level_within m level tokens
level-same n m same level tokens most most' =
    step-same (operand_within n tokens) (operand_within m tokens) (λ x. further_within n level x.0 x.1)
    (λ x. further_within m level x.0 x.1) (same.operand tokens most most')
    (λ x found. same.further level x.0 x.1 (omega (arith, (IsShort-all n).operand tokens x.0 x.1 found))
    (omega (arith, (IsShort-all n).operand tokens x.0 x.1 found)))

whole-same : (n m : ℕ) → AreSame n m → (tokens : List Token) → length tokens ≤ n → length tokens ≤ m
    → whole_within n tokens ≡ whole_within m tokens
whole-same n m same tokens most most' =
    step-same (level_within n 1 tokens) (level_within m 1 tokens) (λ x. choice_within n x.0 x.1)
    (λ x. choice_within m x.0 x.1) (level-same n m same 1 tokens most most')
    (λ x found. same.choice x.0 x.1 (omega (arith, level-short n (IsShort-all n) 1 tokens x.0 x.1 found))
    (omega (arith, level-short n (IsShort-all n) 1 tokens x.0 x.1 found)))

-- Where an operator stands first, its operands are read alike.
joined-same : (left : RawExpression) (tokens : List Token) (next : Option NextOperator)
    (right right' : ℕ → Reader) (further further' : Further)
    → ((at : ℕ) (op : BinOp) (line : ℕ) (others : List Token) → next ≡ Some (at, op, line, others)
    → (right (suc at) others ≡ right' (suc at) others)
    × ((x : RawExpression × List Token) → right (suc at) others ≡ Some x
    → further (Bin op line left x.0) x.1 ≡ further' (Bin op line left x.0) x.1))
    → joined_by left tokens next right further ≡ joined_by left tokens next right' further'
joined-same left tokens None right right' further further' same = refl
joined-same left tokens (Some (at, op, line, others)) right right' further further' same =
    let both = same at op line others refl in
    step-same (right (suc at) others) (right' (suc at) others) (λ x. further (Bin op line left x.0) x.1)
    (λ x. further' (Bin op line left x.0) x.1) both.0 both.1

-- Where a `?` stands first, both values are read alike.
chosen-same : (cond : RawExpression) (tokens : List Token) (first : Option (List Token)) (value value' : Reader)
    → ((others : List Token) → first ≡ Some others
    → (value others ≡ value' others) × ((x : RawExpression × List Token) (after : List Token) → value others ≡ Some x
    → behind_sign fixed.Colon x.1 ≡ Some after → value after ≡ value' after))
    → chosen_by cond tokens first value ≡ chosen_by cond tokens first value'
chosen-same cond tokens None value value' same = refl
chosen-same cond tokens (Some others) value value' same =
    let both = same others refl in
    step-same (value others) (value' others)
    (λ x. behind_sign fixed.Colon x.1 >>= λ after. value after >>= λ y. Some (Cond cond x.0 y.0, y.1))
    (λ x. behind_sign fixed.Colon x.1 >>= λ after. value' after >>= λ y. Some (Cond cond x.0 y.0, y.1)) both.0
    (λ x found. step-same (behind_sign fixed.Colon x.1) (behind_sign fixed.Colon x.1)
    (λ after. value after >>= λ y. Some (Cond cond x.0 y.0, y.1))
    (λ after. value' after >>= λ y. Some (Cond cond x.0 y.0, y.1)) refl
    (λ after colon. ap (λ (reading : Reading). reading >>= λ y. Some (Cond cond x.0 y.0, y.1)) (both.1 x after found colon)))

further-same : (n m : ℕ) → AreSame n m → (level : ℕ) (left : RawExpression) (tokens : List Token) → length tokens < suc n
    → length tokens < suc m
    → joined_by left tokens (next_operator level tokens) (level_within n) (further_within n level)
    ≡ joined_by left tokens (next_operator level tokens) (level_within m) (further_within m level)
further-same n m same level left tokens most most' =
    joined-same left tokens (next_operator level tokens) (level_within n) (level_within m) (further_within n level)
    (further_within m level) (λ at op line others is.
    let short = IsNext-short level tokens at op line others (IsNext-from_next level tokens at op line others is) in (
      level-same n m same (suc at) others (omega (arith, short)) (omega (arith, short)),
      λ x found. same.further level (Bin op line left x.0) x.1
          (omega (arith, short, level-short n (IsShort-all n) (suc at) others x.0 x.1 found))
          (omega (arith, short, level-short n (IsShort-all n) (suc at) others x.0 x.1 found)),
    ))

choice-same : (n m : ℕ) → AreSame n m → (cond : RawExpression) (tokens : List Token) → length tokens < suc n
    → length tokens < suc m
    → chosen_by cond tokens (behind_sign fixed.Question tokens) (whole_within n)
    ≡ chosen_by cond tokens (behind_sign fixed.Question tokens) (whole_within m)
choice-same n m same cond tokens most most' =
    chosen-same cond tokens (behind_sign fixed.Question tokens) (whole_within n) (whole_within m) (λ others is.
    let short = SignFirst-short fixed.Question tokens others (behind_sign-found fixed.Question tokens others is) in (
      whole-same n m same others (omega (arith, short)) (omega (arith, short)),
      λ x after found colon.
          let shorter = SignFirst-short fixed.Colon x.1 after (behind_sign-found fixed.Colon x.1 after colon) in
          whole-same n m same after (omega (arith, short, shorter, whole-short n (IsShort-all n) others x.0 x.1 found))
          (omega (arith, short, shorter, whole-short n (IsShort-all n) others x.0 x.1 found)),
    ))

operand-same : (n m : ℕ) → AreSame n m → (token : Token) (others : List Token) → length others ≤ n → length others ≤ m
    → operand_by token.kind token.line others (whole_within n others) (operand_within n others)
    ≡ operand_by token.kind token.line others (whole_within m others) (operand_within m others)
operand-same n m same token others most most' =
    ap (λ (inside : Reading). operand_by token.kind token.line others inside (operand_within n others))
    (whole-same n m same others most most')
    ∙ ap (λ (operand : Reading). operand_by token.kind token.line others (whole_within m others) operand)
    (same.operand others most most')

AreSame-all : (n m : ℕ) → AreSame n m
unfolding operand_within
AreSame-all zero zero = record {
  operand = λ tokens most most'. refl;
  further = λ level left tokens most most'. refl;
  choice = λ cond tokens most most'. refl;
}
AreSame-all zero (suc m) = record {
  operand = elim [ [] ↦ λ most most'. refl | token ∷ others ↦ λ most most'. absurd (omega (arith, most)) ];
  further = λ level left tokens most most'. absurd (omega (arith, most));
  choice = λ cond tokens most most'. absurd (omega (arith, most));
}
AreSame-all (suc n) zero = record {
  operand = elim [ [] ↦ λ most most'. refl | token ∷ others ↦ λ most most'. absurd (omega (arith, most')) ];
  further = λ level left tokens most most'. absurd (omega (arith, most'));
  choice = λ cond tokens most most'. absurd (omega (arith, most'));
}
AreSame-all (suc n) (suc m) = record {
  operand = elim [
    | [] ↦ λ most most'. refl
    | token ∷ others ↦ λ most most'. operand-same n m (AreSame-all n m) token others (omega (arith, most)) (omega (arith, most'))
  ];
  further = λ level left tokens most most'. further-same n m (AreSame-all n m) level left tokens most most';
  choice = λ cond tokens most most'. choice-same n m (AreSame-all n m) cond tokens most most';
}

-- ---- the equations

level_within-at : (n level : ℕ) (tokens : List Token) → length tokens ≤ n → level_within n level tokens ≡ level_at level tokens
unfolding level_at operand_at further_at
level_within-at n level tokens most =
    step-same (operand_within n tokens) (operand_at tokens) (λ x. further_within n level x.0 x.1)
    (λ x. further_at level x.0 x.1) ((AreSame-all n (length tokens)).operand tokens most (omega arith))
    (λ x found. (AreSame-all n (suc (length x.1))).further level x.0 x.1
    (omega (arith, (IsShort-all n).operand tokens x.0 x.1 found)) (omega arith))

pub whole_within-at : (n : ℕ) (tokens : List Token) → length tokens ≤ n → whole_within n tokens ≡ expression_at tokens
unfolding expression_at level_at choice_at
whole_within-at n tokens most =
    step-same (level_within n 1 tokens) (level_at 1 tokens) (λ x. choice_within n x.0 x.1)
    (λ x. choice_at x.0 x.1) (level_within-at n 1 tokens most)
    (λ x found. (AreSame-all n (suc (length x.1))).choice x.0 x.1
    (omega (arith, level-short n (IsShort-all n) 1 tokens x.0 x.1 found)) (omega arith))

-- No operand stands where no token does.
pub operand_at-empty : (tokens : List Token) → length tokens ≡ 0 → operand_at tokens ≡ None
unfolding operand_at operand_within
operand_at-empty [] is = refl
operand_at-empty (token ∷ others) is = absurd (omega (arith, is))

-- an operand by its first token
pub operand_at-cons : (token : Token) (others : List Token)
    → operand_at (token ∷ others) ≡ operand_by token.kind token.line others (expression_at others) (operand_at others)
unfolding operand_at operand_within
operand_at-cons token others =
    ap (λ (inside : Reading). operand_by token.kind token.line others inside (operand_at others))
    (whole_within-at (length others) others (omega arith))

-- a level is an operand and what goes on from it
pub level_at-is : (level : ℕ) (tokens : List Token) → level_at level tokens ≡ level_by operand_at (further_at level) tokens
unfolding level_at
level_at-is level tokens = refl

-- an expression is an or-expression and what goes on from it
pub expression_at-is : (tokens : List Token) → expression_at tokens ≡ level_by (level_at 1) choice_at tokens
unfolding expression_at level_at
expression_at-is tokens = refl

-- what goes on from a left operand
pub further_at-is : (level : ℕ) (left : RawExpression) (tokens : List Token)
    → further_at level left tokens ≡ joined_by left tokens (next_operator level tokens) level_at (further_at level)
unfolding further_at operand_within
further_at-is level left tokens =
    joined-same left tokens (next_operator level tokens) (level_within (length tokens)) level_at
    (further_within (length tokens) level) (further_at level) (λ at op line others is.
    let short = IsNext-short level tokens at op line others (IsNext-from_next level tokens at op line others is) in (
      level_within-at (length tokens) (suc at) others (omega (arith, short)),
      λ x found. (AreSame-all (length tokens) (suc (length x.1))).further level (Bin op line left x.0) x.1
          (omega (arith, short, level-short (length tokens) (IsShort-all (length tokens)) (suc at) others x.0 x.1 found)) (omega arith),
    ))

-- what goes on from a condition
pub choice_at-is : (cond : RawExpression) (tokens : List Token)
    → choice_at cond tokens ≡ chosen_by cond tokens (behind_sign fixed.Question tokens) expression_at
unfolding choice_at operand_within
choice_at-is cond tokens =
    chosen-same cond tokens (behind_sign fixed.Question tokens) (whole_within (length tokens)) expression_at (λ others is.
    let short = SignFirst-short fixed.Question tokens others (behind_sign-found fixed.Question tokens others is) in (
      whole_within-at (length tokens) others (omega (arith, short)),
      λ x after found colon.
          let shorter = SignFirst-short fixed.Colon x.1 after (behind_sign-found fixed.Colon x.1 after colon) in
          whole_within-at (length tokens) after
          (omega (arith, short, shorter, whole-short (length tokens) (IsShort-all (length tokens)) others x.0 x.1 found)),
    ))
