-- What is read is spelled.
use Rattle.std.proofs.Common.{◌≡◌, ℕ, zero, suc, ◌+◌, ◌-◌, ◌<◌, ◌≤◌, List, [], ◌∷◌, ◌++◌, length, Option, Some, None, refl, ap, sym, subst, ◌∙◌, append_assoc, arith}
use Rattle.c_ast.specs.RawTree.{RawExpression, Bin}
use Rattle.c_ast.specs.declared.expr.BinOp.{BinOp}
use Rattle.c_tokens.specs.declared.kind.Kind.{Kind}
use Rattle.c_tokens.specs.declared.kind.Kind.TheVariants as k
use Rattle.c_tokens.specs.declared.token.Token.{Token}
use Rattle.c_reader.specs.Expressions as spelled
use Rattle.c_reader.specs.Expressions.{operator_of, SpellsAt, alone, joined, SpellsExpression, EndsExpression}
use Rattle.c_reader.specs.ReadExpressions.{operand_within, further_within, choice_within, operand_at, expression_at}
use Rattle.c_tokens.specs.declared.fixed.Fixed.TheVariants as fixed
use Rattle.c_reader.specs.Fronts.{behind_sign}
use Rattle.c_reader.proofs.Equations.{whole_within-at}
use Rattle.c_reader.proofs.Parts.{Stops, IsNext, OperandIs, OperandIs-from_operand, named, constant, bracketed, signed, JoinedIs, JoinedIs-from_joined, ChosenIs, ChosenIs-from_chosen, ends, goes_on, LevelIs-from_level, WholeIs-from_whole}
use Rattle.c_reader.proofs.Bounds.{level_within, whole_within}
use Rattle.std.proofs.lemmas.Option.{same_Some}

-- The tokens begin with those of the expression, no expression goes on behind them, and these follow.
pub record BeginsExpression (tokens : List Token) (e : RawExpression) (behind : List Token) : Type 0 where
  pub front : List Token
  pub parts : tokens ≡ front ++ behind
  pub spells : SpellsExpression e front
  pub ends : EndsExpression behind

-- the levels of equal operators
level_is : (level at : ℕ) (op other : BinOp) → 1 ≤ level → level ≤ 6
    → ◌≡◌ {A = Option (ℕ × BinOp)} (Some (level, op)) (Some (at, other)) → (1 ≤ at) × (at ≤ 6)
level_is level at op other least most is =
    let same : level ≡ at = ap (λ (x : ℕ × BinOp). x.0) (same_Some (level, op) (at, other) is) in
    (omega (arith, same), omega (arith, same))

-- An operator's level is one of 1 to 6.
pub operator-level : (kind : Kind) (at : ℕ) (op : BinOp) → operator_of kind ≡ Some (at, op) → (1 ≤ at) × (at ≤ 6)
operator-level k.BarBar at op is = level_is 1 at _ op (omega arith) (omega arith) is
operator-level k.AmpAmp at op is = level_is 2 at _ op (omega arith) (omega arith) is
operator-level k.Equal at op is = level_is 3 at _ op (omega arith) (omega arith) is
operator-level k.NotEqual at op is = level_is 3 at _ op (omega arith) (omega arith) is
operator-level k.Less at op is = level_is 4 at _ op (omega arith) (omega arith) is
operator-level k.LessEq at op is = level_is 4 at _ op (omega arith) (omega arith) is
operator-level k.Greater at op is = level_is 4 at _ op (omega arith) (omega arith) is
operator-level k.GreaterEq at op is = level_is 4 at _ op (omega arith) (omega arith) is
operator-level k.Plus at op is = level_is 5 at _ op (omega arith) (omega arith) is
operator-level k.Minus at op is = level_is 5 at _ op (omega arith) (omega arith) is
operator-level k.Star at op is = level_is 6 at _ op (omega arith) (omega arith) is
operator-level k.Slash at op is = level_is 6 at _ op (omega arith) (omega arith) is
operator-level k.Percent at op is = level_is 6 at _ op (omega arith) (omega arith) is
operator-level kind at op is = absurd cc

-- Tokens of a level spell at each looser one.
pub lowered : (steps level at : ℕ) (e : RawExpression) (us : List Token) → at ≡ steps + level → at ≤ 8
    → SpellsAt at e us → SpellsAt level e us
lowered zero level at e us is most spells = subst (λ (l : ℕ). SpellsAt l e us) (omega (arith, is)) spells
lowered (suc steps) level at e us is most spells =
    alone level e us (omega (arith, is)) (lowered steps (suc level) at e us (omega (arith, is)) most spells)

-- An expression of the level stands in front, and no operator of the level or of a tighter one goes on behind it.
pub record BeginsAt (level : ℕ) (tokens : List Token) (e : RawExpression) (others : List Token) : Type 0 where
  pub front : List Token
  pub parts : tokens ≡ front ++ others
  pub spells : SpellsAt level e front
  pub stops : Stops level others

-- No operator is of level 7 or more.
pub Stops-operand : (level : ℕ) (tokens : List Token) → 7 ≤ level → Stops level tokens
Stops-operand level [] least = tt
Stops-operand level (sign ∷ others) least = λ at op is. omega (arith, (operator-level sign.kind at op is).1)

-- what a bound reads is spelled
record IsSound (n : ℕ) : Type 0 where
  operand : (tokens : List Token) (e : RawExpression) (others : List Token) → operand_within n tokens ≡ Some (e, others)
      → BeginsAt 7 tokens e others
  further : (level at : ℕ) (left : RawExpression) (us whole tokens : List Token) (e : RawExpression) (others : List Token)
      → level ≤ at → at ≤ 7 → SpellsAt at left us → whole ≡ us ++ tokens → Stops (suc at) tokens
      → further_within n level left tokens ≡ Some (e, others) → BeginsAt level whole e others
  choice : (cond : RawExpression) (us whole tokens : List Token) (e : RawExpression) (others : List Token)
      → SpellsAt 1 cond us → whole ≡ us ++ tokens → Stops 1 tokens → choice_within n cond tokens ≡ Some (e, others)
      → BeginsExpression whole e others

level-sound : (n : ℕ) → IsSound n → (level : ℕ) (tokens : List Token) (e : RawExpression) (others : List Token) → level ≤ 7
    → level_within n level tokens ≡ Some (e, others) → BeginsAt level tokens e others
level-sound n sound level tokens e others most is =
    let parts = LevelIs-from_level (operand_within n) (further_within n level) tokens e others is in
    let left = sound.operand tokens parts.left parts.after parts.found in
    sound.further level 7 parts.left left.front tokens parts.after e others most (omega arith) left.spells left.parts
    (Stops-operand 8 parts.after (omega arith)) parts.goes_on

whole-sound : (n : ℕ) → IsSound n → (tokens : List Token) (e : RawExpression) (others : List Token)
    → whole_within n tokens ≡ Some (e, others) → BeginsExpression tokens e others
whole-sound n sound tokens e others is =
    let parts = WholeIs-from_whole (operand_within n) (further_within n 1) (choice_within n) tokens e others is in
    let cond = level-sound n sound 1 tokens parts.cond parts.after (omega arith) parts.found in
    sound.choice parts.cond cond.front tokens parts.after e others cond.spells cond.parts cond.stops parts.goes_on

-- an operand of one token
primary : (token : Token) (others : List Token) (e : RawExpression) → SpellsAt 8 e (token ∷ [])
    → BeginsAt 7 (token ∷ others) e others
primary token others e spells = record {
  front = token ∷ [];
  parts = refl;
  spells = alone 7 e (token ∷ []) (omega arith) spells;
  stops = Stops-operand 7 others (omega arith);
}

operand-sound : (n : ℕ) → IsSound n → (token : Token) (others : List Token) (e : RawExpression) (last : List Token)
    → OperandIs token.kind token.line others (whole_within n others) (operand_within n others) e last
    → BeginsAt 7 (token ∷ others) e last
operand-sound n sound token others e last (named name is) = primary token others _ (spelled.named name token is)
operand-sound n sound token others e last (constant value is below) =
    primary token others _ (spelled.constant value token is below)
operand-sound n sound token others e last (bracketed _ after _ is inside closing) =
    let b = whole-sound n sound others e after inside in
    record {
      front = token ∷ (b.front ++ closing.token ∷ []);
      parts = ap (λ (l : List Token). token ∷ l) (b.parts ∙ ap (λ (l : List Token). b.front ++ l) closing.parts
          ∙ sym (append_assoc b.front (closing.token ∷ []) last));
      spells = alone 7 e _ (omega arith) (spelled.bracketed token closing.token e b.front is closing.has b.spells);
      stops = Stops-operand 7 last (omega arith);
    }
operand-sound n sound token others e last (signed op f _ is operand) =
    let b = sound.operand others f last operand in
    record {
      front = token ∷ b.front;
      parts = ap (λ (l : List Token). token ∷ l) b.parts;
      spells = spelled.signed op token f b.front is b.spells;
      stops = b.stops;
    }

-- The operator that stands first is no tighter than what stands before it.
next-level : (level bound : ℕ) (tokens : List Token) (at : ℕ) (op : BinOp) (line : ℕ) (others : List Token)
    → IsNext level tokens at op line others → Stops bound tokens → at < bound
next-level level bound tokens at op line others next stops =
    let here : Stops bound (next.sign ∷ others) = subst (Stops bound) next.parts stops in here at op next.operator

further-sound : (n : ℕ) → IsSound n → (level at : ℕ) (left : RawExpression) (us whole tokens : List Token)
    (e : RawExpression) (last : List Token)
    → level ≤ at → at ≤ 7 → SpellsAt at left us → whole ≡ us ++ tokens → Stops (suc at) tokens
    → JoinedIs left tokens level (level_within n) (further_within n level) e last → BeginsAt level whole e last
further-sound n sound level at left us whole tokens e last low most spells parts stops (ends same all none) =
    record {
      front = us;
      parts = parts ∙ ap (λ (l : List Token). us ++ l) all;
      spells = lowered (at - level) level at e us (omega (arith, low)) (omega (arith, most))
          (subst (λ (x : RawExpression). SpellsAt at x us) same spells);
      stops = subst (Stops level) all none;
    }
further-sound n sound level at left us whole tokens e last low most spells parts stops
    (goes_on here op line others f after next right further) =
    let below = next-level level (suc at) tokens here op line others next stops in
    let range = operator-level next.sign.kind here op next.operator in
    let b = level-sound n sound (suc here) others f after (omega (arith, range.1)) right in
    let first : SpellsAt here left us = lowered (at - here) here at left us (omega (arith, below)) (omega (arith, most)) spells in
    sound.further level here (Bin op line left f) (us ++ next.sign ∷ b.front) whole after e last next.binds
    (omega (arith, range.1))
    (subst (λ (l : ℕ). SpellsAt here (Bin op l left f) (us ++ next.sign ∷ b.front)) next.place
    (joined here op next.sign left f us b.front next.operator first b.spells))
    (parts ∙ ap (λ (l : List Token). us ++ l) (next.parts ∙ ap (λ (l : List Token). next.sign ∷ l) b.parts)
    ∙ sym (append_assoc us (next.sign ∷ b.front) after))
    b.stops further

-- Where no operator and no `?` stands first, no expression goes on.
pub EndsExpression-from_none : (tokens : List Token) → Stops 1 tokens → behind_sign fixed.Question tokens ≡ None → EndsExpression tokens
EndsExpression-from_none [] stops none = tt
EndsExpression-from_none (sign ∷ others) stops none = (by_operator (operator_of sign.kind) refl, λ question. cc (rw question at none))
  where
    by_operator : (operator : Option (ℕ × BinOp)) → operator_of sign.kind ≡ operator → operator_of sign.kind ≡ None
    by_operator None is = is
    by_operator (Some (at, op)) is = absurd (omega (arith, stops at op is, (operator-level sign.kind at op is).0))

choice-sound : (n : ℕ) → IsSound n → (cond : RawExpression) (us whole tokens : List Token) (e : RawExpression)
    (last : List Token) → SpellsAt 1 cond us → whole ≡ us ++ tokens → Stops 1 tokens
    → ChosenIs cond tokens (whole_within n) e last → BeginsExpression whole e last
choice-sound n sound cond us whole tokens e last spells parts stops (ends same all none) =
    record {
      front = us;
      parts = parts ∙ ap (λ (l : List Token). us ++ l) all;
      spells = subst (λ (x : RawExpression). SpellsAt 0 x us) same (alone 0 cond us (omega arith) spells);
      ends = subst EndsExpression all (EndsExpression-from_none tokens stops none);
    }
choice-sound n sound cond us whole tokens e last spells parts stops
    (goes_on others after further f g question first colon second same) =
    let b = whole-sound n sound others f after first in
    let d = whole-sound n sound further g last second in
    record {
      front = us ++ question.token ∷ (b.front ++ colon.token ∷ d.front);
      parts = parts ∙ ap (λ (l : List Token). us ++ l) (question.parts ∙ ap (λ (l : List Token). question.token ∷ l)
          (b.parts ∙ ap (λ (l : List Token). b.front ++ l) (colon.parts ∙ ap (λ (l : List Token). colon.token ∷ l) d.parts)
          ∙ sym (append_assoc b.front (colon.token ∷ d.front) last)))
          ∙ sym (append_assoc us (question.token ∷ (b.front ++ colon.token ∷ d.front)) last);
      spells = subst (λ (x : RawExpression). SpellsAt 0 x (us ++ question.token ∷ (b.front ++ colon.token ∷ d.front))) same
          (spelled.chosen question.token colon.token cond f g us b.front d.front question.has
          colon.has spells b.spells d.spells);
      ends = d.ends;
    }

IsSound-all : (n : ℕ) → IsSound n
unfolding operand_within
IsSound-all zero = record {
  operand = λ tokens e others is. absurd cc;
  further = λ level at left us whole tokens e others low most spells parts stops is. absurd cc;
  choice = λ cond us whole tokens e others spells parts stops is. absurd cc;
}
IsSound-all (suc n) = record {
  operand = elim [
    | [] ↦ λ e others is. absurd cc
    | token ∷ behind_it ↦ λ e others is. operand-sound n (IsSound-all n) token behind_it e others
        (OperandIs-from_operand token.kind token.line behind_it (whole_within n behind_it) (operand_within n behind_it) e others is)
  ];
  further = λ level at left us whole tokens e others low most spells parts stops is.
      further-sound n (IsSound-all n) level at left us whole tokens e others low most spells parts stops
      (JoinedIs-from_joined left tokens level (level_within n) (further_within n level) e others is);
  choice = λ cond us whole tokens e others spells parts stops is.
      choice-sound n (IsSound-all n) cond us whole tokens e others spells parts stops
      (ChosenIs-from_chosen cond tokens (whole_within n) e others is);
}

-- The operand that is read at the front is spelled.
pub operand_at-sound : (tokens : List Token) (e : RawExpression) (others : List Token)
    → operand_at tokens ≡ Some (e, others) → BeginsAt 7 tokens e others
unfolding operand_at
operand_at-sound tokens e others is = (IsSound-all (length tokens)).operand tokens e others is

-- The expression that is read at the front is spelled.
pub expression_sound : (tokens others : List Token) (e : RawExpression) → expression_at tokens ≡ Some (e, others)
    → BeginsExpression tokens e others
expression_sound tokens others e is =
    whole-sound (length tokens) (IsSound-all (length tokens)) tokens e others
    (whole_within-at (length tokens) tokens (omega arith) ∙ is)
