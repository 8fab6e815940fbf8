-- An expression is deeper than what was read before it.
use Rattle.std.proofs.Common.{◌≡◌, ℕ, zero, suc, ◌≤◌, List, length, Some, ap, sym, ◌∙◌, arith}
use Rattle.c_ast.specs.RawTree.{RawExpression, Num, Named, Un, Bin, Cond}
use Rattle.c_tokens.specs.declared.token.Token.{Token}
use Rattle.c_reader.specs.Expressions.{expression_depth}
use Rattle.c_reader.specs.ReadExpressions.{Reader, Further, operand_within, further_within, further_at, choice_at, expression_at}
use Rattle.c_reader.proofs.Parts.{JoinedIs, JoinedIs-from_joined, ChosenIs, ChosenIs-from_chosen, ends, goes_on}
use Rattle.c_reader.proofs.Bounds.{level_within}
use Rattle.c_reader.proofs.Equations.{choice_at-is}

-- Each expression has a depth.
pub depth-positive : (e : RawExpression) → 1 ≤ expression_depth e
depth-positive (Num z) = omega arith
depth-positive (Named name line) = omega arith
depth-positive (Un op e) = omega arith
depth-positive (Bin op line e f) = omega arith
depth-positive (Cond cond e f) = omega arith

joined-depth : (left : RawExpression) (tokens : List Token) (level : ℕ) (right : ℕ → Reader)
    (further : Further) (e : RawExpression) (others : List Token)
    → ((f : RawExpression) (after : List Token) → further f after ≡ Some (e, others) → expression_depth f ≤ expression_depth e)
    → JoinedIs left tokens level right further e others → expression_depth left ≤ expression_depth e
joined-depth left tokens level right further e others deeper (ends same all none) = omega (arith, ap expression_depth same)
joined-depth left tokens level right further e others deeper (goes_on at op line behind_it f after next read further_is) =
    omega (arith, deeper (Bin op line left f) after further_is)

further_within-depth : (n level : ℕ) (left : RawExpression) (tokens : List Token) (e : RawExpression) (others : List Token)
    → further_within n level left tokens ≡ Some (e, others) → expression_depth left ≤ expression_depth e
unfolding operand_within
further_within-depth zero level left tokens e others is = absurd cc
further_within-depth (suc n) level left tokens e others is =
    joined-depth left tokens level (level_within n) (further_within n level) e others
    (λ f after further. further_within-depth n level f after e others further)
    (JoinedIs-from_joined left tokens level (level_within n) (further_within n level) e others is)

-- What goes on from a left operand is at least as deep.
pub further_at-depth : (level : ℕ) (left : RawExpression) (tokens : List Token) (e : RawExpression) (others : List Token)
    → further_at level left tokens ≡ Some (e, others) → expression_depth left ≤ expression_depth e
unfolding further_at
further_at-depth level left tokens e others is = further_within-depth (suc (length tokens)) level left tokens e others is

-- What goes on from a condition is at least as deep.
pub choice_at-depth : (cond : RawExpression) (tokens : List Token) (e : RawExpression) (others : List Token)
    → choice_at cond tokens ≡ Some (e, others) → expression_depth cond ≤ expression_depth e
choice_at-depth cond tokens e others is =
    by_parts (ChosenIs-from_chosen cond tokens expression_at e others (sym (choice_at-is cond tokens) ∙ is))
  where
    by_parts : ChosenIs cond tokens expression_at e others → expression_depth cond ≤ expression_depth e
    by_parts (ends same all none) = omega (arith, ap expression_depth same)
    by_parts (goes_on behind_it after further f g question first colon second same) =
        omega (arith, ap expression_depth same)
