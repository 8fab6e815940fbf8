-- What is spelled is read.
use Rattle.std.proofs.Common.{◌≡◌, true, false, ℕ, suc, pos, ◌<◌, ◌≤◌, ◌^◌, nat_le, if◌then◌else◌, List, [], ◌∷◌, ◌++◌, Option, Some, None, refl, ap, sym, subst, ◌∙◌, append_assoc, arith}
use Rattle.std.proofs.lemmas.Bool.Decides.{nat_tests}
use Rattle.std.proofs.lemmas.Option.{same_Some}
use Rattle.c_ast.specs.RawTree.{RawExpression, Num, Named, Un, Bin, Cond}
use Rattle.c_ast.specs.declared.expr.UnOp.{UnOp}
use Rattle.c_ast.specs.declared.expr.BinOp.{BinOp}
use Rattle.c_tokens.specs.declared.kind.Kind.{Kind}
use Rattle.c_tokens.specs.declared.kind.Kind.TheVariants as k
use Rattle.c_tokens.specs.declared.token.Token.{Token}
use Rattle.c_reader.specs.Expressions.{unary_of, operator_of, SpellsAt, named, constant, bracketed, signed, joined, chosen, alone, EndsExpression, SpellsExpression}
use Rattle.c_reader.specs.ReadExpressions.{◌>>=◌, Reading, next_operator, operand_at, further_at, level_at, choice_at, expression_at}
use Rattle.c_tokens.specs.declared.fixed.Fixed.TheVariants as fixed
use Rattle.c_tokens.specs.Fixed.{is_kind_of}
use Rattle.c_reader.specs.Fronts.{behind_sign}
use Rattle.c_reader.proofs.Parts.{Stops, under_sign}
use Rattle.c_reader.proofs.ExpressionSoundness.{operator-level}
use Rattle.c_reader.proofs.Readings.{operand_at-name, operand_at-constant, operand_at-bracket, closed, operand_at-sign, level_at-operand, operation_from, further_at-next, further_at-none, expression_at-level, choice_to, choice_from, choice_at-asked, choice_at-none}

-- Where no operator of the level stands first, there is no next one.
next_operator-stops : (level : ℕ) (tokens : List Token) → Stops level tokens → next_operator level tokens ≡ None
next_operator-stops level [] stops = refl
next_operator-stops level (sign ∷ others) stops = by_operator (operator_of sign.kind) refl
  where
    by_operator : (operator : Option (ℕ × BinOp)) → operator_of sign.kind ≡ operator
        → next_operator level (sign ∷ others) ≡ None
    by_operator None is = rw is refl
    by_operator (Some (at, op)) is =
        let below : nat_le level at ≡ false = grind (arith, nat_tests, stops at op is) in
        rw (is, below) refl

-- Where an operator of the level or a tighter one stands first, it is the next one.
next_operator-here : (level at : ℕ) (op : BinOp) (sign : Token) (others : List Token) → operator_of sign.kind ≡ Some (at, op)
    → level ≤ at → next_operator level (sign ∷ others) ≡ Some (at, op, sign.line, others)
next_operator-here level at op sign others is low =
    let taken : nat_le level at ≡ true = grind (arith, nat_tests, low) in rw (is, taken) refl

-- Nothing goes on from an operand there.
further_at-stops : (level : ℕ) (left : RawExpression) (tokens : List Token) → Stops level tokens
    → further_at level left tokens ≡ Some (left, tokens)
further_at-stops level left tokens stops = further_at-none level left tokens (next_operator-stops level tokens stops)

Stops-from_ends : (tokens : List Token) → EndsExpression tokens → Stops 1 tokens
Stops-from_ends [] ends = tt
Stops-from_ends (first ∷ others) ends = λ at op is. absurd cc

no_question : (tokens : List Token) → EndsExpression tokens → behind_sign fixed.Question tokens ≡ None
no_question [] ends = refl
no_question (first ∷ others) ends = by_kind first.kind ends.1
  where
    by_kind : (kind : Kind) → (kind ≡ k.Question → ⊥) → (if is_kind_of fixed.Question kind then Some others else None) ≡ None
    by_kind k.Question none = absurd (none refl)
    by_kind kind none = refl

-- Nothing goes on from a condition there.
choice_at-ends : (cond : RawExpression) (tokens : List Token) → EndsExpression tokens → choice_at cond tokens ≡ Some (cond, tokens)
choice_at-ends cond tokens ends = choice_at-none cond tokens (no_question tokens ends)

-- How tokens that spell an expression at a level are read: as an operand, as what goes on at each looser level, and as an
-- expression.
record IsRead (level : ℕ) (e : RawExpression) (us : List Token) : Type 0 where
  operand : (others : List Token) → 7 ≤ level → operand_at (us ++ others) ≡ Some (e, others)
  further : (at : ℕ) (others : List Token) → 1 ≤ level → at ≤ level → Stops (suc level) others
      → level_at at (us ++ others) ≡ further_at at e others
  whole : (others : List Token) → level ≡ 0 → EndsExpression others → expression_at (us ++ others) ≡ Some (e, others)

Stops-up : (level : ℕ) (tokens : List Token) → Stops level tokens → Stops (suc level) tokens
Stops-up level [] stops = tt
Stops-up level (sign ∷ others) stops = λ at op is. omega (arith, stops at op is)

-- What is read as an operand is read so at each level.
IsRead-operand : (level : ℕ) (e : RawExpression) (us : List Token) → 7 ≤ level
    → ((others : List Token) → operand_at (us ++ others) ≡ Some (e, others)) → IsRead level e us
IsRead-operand level e us least read = record {
  operand = λ others _. read others;
  further = λ at others _ low stops. level_at-operand at (us ++ others) others e (read others);
  whole = λ others is ends. absurd (omega (arith, least, is));
}

read-named : (name : List ℕ) (token : Token) → token.kind ≡ k.Word name → IsRead 8 (Named name token.line) (token ∷ [])
read-named name token is =
    IsRead-operand 8 (Named name token.line) (token ∷ []) (omega arith) λ others. operand_at-name token others name is

read-constant : (value : ℕ) (token : Token) → token.kind ≡ k.Constant value → value < 2 ^ 63
    → IsRead 8 (Num (pos value)) (token ∷ [])
read-constant value token is below =
    IsRead-operand 8 (Num (pos value)) (token ∷ []) (omega arith) λ others. operand_at-constant token others value is below

read-bracketed : (opening closing : Token) (e : RawExpression) (us : List Token) → opening.kind ≡ k.OpenRound
    → closing.kind ≡ k.CloseRound → IsRead 0 e us → IsRead 8 e (opening ∷ (us ++ closing ∷ []))
read-bracketed opening closing e us opens closes read = IsRead-operand 8 e (opening ∷ (us ++ closing ∷ [])) (omega arith) λ others.
    let inside : expression_at ((us ++ closing ∷ []) ++ others) ≡ Some (e, closing ∷ others) =
    ap expression_at (append_assoc us (closing ∷ []) others)
    ∙ read.whole (closing ∷ others) refl (rw closes refl, λ question. absurd cc) in
    let last : behind_sign fixed.CloseRound (closing ∷ others) ≡ Some others =
    ap (λ (kind : Kind). if is_kind_of fixed.CloseRound kind then Some others else None) closes in
    operand_at-bracket opening ((us ++ closing ∷ []) ++ others) opens ∙ ap closed inside
    ∙ ap (λ (after : Option (List Token)). after >>= λ others. Some (e, others)) last

read-signed : (op : UnOp) (sign : Token) (e : RawExpression) (us : List Token) → unary_of sign.kind ≡ Some op
    → IsRead 7 e us → IsRead 7 (Un op e) (sign ∷ us)
read-signed op sign e us is read = IsRead-operand 7 (Un op e) (sign ∷ us) (omega arith) λ others.
    operand_at-sign sign (us ++ others) op is
    ∙ ap (λ (operand : Reading). under_sign operand op) (read.operand others (omega arith))

read-joined : (level : ℕ) (op : BinOp) (sign : Token) (e f : RawExpression) (us vs : List Token)
    → operator_of sign.kind ≡ Some (level, op) → IsRead level e us → IsRead (suc level) f vs
    → IsRead level (Bin op sign.line e f) (us ++ sign ∷ vs)
read-joined level op sign e f us vs is first second =
    let range = operator-level sign.kind level op is in
    record {
      operand = λ others least. absurd (omega (arith, least, range.1));
      further = λ at others least low stops.
          let right : level_at (suc level) (vs ++ others) ≡ Some (f, others) =
          second.further (suc level) others (omega arith) (omega arith) (Stops-up (suc level) others stops)
          ∙ further_at-stops (suc level) f others stops in
          ap (level_at at) (append_assoc us (sign ∷ vs) others)
          ∙ first.further at (sign ∷ (vs ++ others)) least low (λ here other operator. omega (
            arith,
            ap (λ (x : ℕ × BinOp). x.0) (same_Some (level, op) (here, other) (sym is ∙ operator)),
          ))
          ∙ further_at-next at e (sign ∷ (vs ++ others)) level op sign.line (vs ++ others)
          (next_operator-here at level op sign (vs ++ others) is low)
          ∙ ap (operation_from at e level op sign.line) right;
      whole = λ others is_none ends. absurd (omega (arith, range.0, is_none));
    }

-- a `?` with both values
choice_at-chosen : (question colon : Token) (cond e f : RawExpression) (vs ws others : List Token)
    → question.kind ≡ k.Question → colon.kind ≡ k.Colon
    → expression_at (vs ++ colon ∷ (ws ++ others)) ≡ Some (e, colon ∷ (ws ++ others))
    → expression_at (ws ++ others) ≡ Some (f, others)
    → choice_at cond (question ∷ (vs ++ colon ∷ (ws ++ others))) ≡ Some (Cond cond e f, others)
choice_at-chosen question colon cond e f vs ws others asks parts first second =
    choice_at-asked cond (question ∷ (vs ++ colon ∷ (ws ++ others))) (vs ++ colon ∷ (ws ++ others))
    (ap (λ (kind : Kind). if is_kind_of fixed.Question kind then Some (vs ++ colon ∷ (ws ++ others)) else None) asks)
    ∙ ap (choice_from cond) first
    ∙ ap (λ (kind : Kind). (if is_kind_of fixed.Colon kind then Some (ws ++ others) else None)
    >>= λ after. choice_to cond e (expression_at after)) parts
    ∙ ap (choice_to cond e) second

read-chosen : (question colon : Token) (cond e f : RawExpression) (us vs ws : List Token) → question.kind ≡ k.Question
    → colon.kind ≡ k.Colon → IsRead 1 cond us → IsRead 0 e vs → IsRead 0 f ws
    → IsRead 0 (Cond cond e f) (us ++ question ∷ (vs ++ colon ∷ ws))
read-chosen question colon cond e f us vs ws asks parts tested first second = record {
  operand = λ others least. absurd (omega (arith, least));
  further = λ at others least low stops. absurd (omega (arith, least));
  whole = λ others _ ends.
      let all : (us ++ question ∷ (vs ++ colon ∷ ws)) ++ others ≡ us ++ question ∷ (vs ++ colon ∷ (ws ++ others)) =
      append_assoc us (question ∷ (vs ++ colon ∷ ws)) others
      ∙ ap (λ (l : List Token). us ++ question ∷ l) (append_assoc vs (colon ∷ ws) others) in
      let stops : (at : ℕ) (op : BinOp) → operator_of question.kind ≡ Some (at, op) → at < 1 =
      λ at op is. absurd (no_operator question.kind at op asks is) in
      ap expression_at all
      ∙ expression_at-level (us ++ question ∷ (vs ++ colon ∷ (ws ++ others))) (question ∷ (vs ++ colon ∷ (ws ++ others))) cond
      (tested.further 1 (question ∷ (vs ++ colon ∷ (ws ++ others))) (omega arith) (omega arith)
      (Stops-up 1 (question ∷ (vs ++ colon ∷ (ws ++ others))) stops)
      ∙ further_at-stops 1 cond (question ∷ (vs ++ colon ∷ (ws ++ others))) stops)
      ∙ choice_at-chosen question colon cond e f vs ws others asks parts
      (first.whole (colon ∷ (ws ++ others)) refl (rw parts refl, λ question. absurd cc)) (second.whole others refl ends);
}
  where
    no_operator : (kind : Kind) (at : ℕ) (op : BinOp) → kind ≡ k.Question → operator_of kind ≡ Some (at, op) → ⊥
    no_operator kind at op asks is = absurd (cc (rw asks at is))

read-alone : (level : ℕ) (e : RawExpression) (us : List Token) → IsRead (suc level) e us → IsRead level e us
read-alone level e us read = record {
  operand = λ others least. read.operand others (omega (arith, least));
  further = λ at others least low stops. read.further at others (omega arith) (omega (arith, low)) (Stops-up (suc level) others stops);
  whole = λ others is ends.
      let stops = Stops-from_ends others ends in
      let low : Stops (suc (suc level)) others = subst (λ (l : ℕ). Stops (suc (suc l)) others) (sym is) (Stops-up 1 others stops) in
      expression_at-level (us ++ others) others e
      (read.further 1 others (omega arith) (omega arith) low ∙ further_at-stops 1 e others stops)
      ∙ choice_at-ends e others ends;
}

IsRead-from_spelled : (level : ℕ) (e : RawExpression) (us : List Token) → SpellsAt level e us → IsRead level e us
IsRead-from_spelled level e us (named name token is) = read-named name token is
IsRead-from_spelled level e us (constant value token is below) = read-constant value token is below
IsRead-from_spelled level e us (bracketed opening closing _ vs opens closes spells) =
    read-bracketed opening closing e vs opens closes (IsRead-from_spelled 0 e vs spells)
IsRead-from_spelled level e us (signed op sign f vs is spells) =
    read-signed op sign f vs is (IsRead-from_spelled 7 f vs spells)
IsRead-from_spelled level e us (joined _ op sign f g vs ws is first second) =
    read-joined level op sign f g vs ws is (IsRead-from_spelled level f vs first) (IsRead-from_spelled (suc level) g ws second)
IsRead-from_spelled level e us (chosen question colon cond f g vs ws xs asks parts tested first second) =
    read-chosen question colon cond f g vs ws xs asks parts (IsRead-from_spelled 1 cond vs tested)
    (IsRead-from_spelled 0 f ws first) (IsRead-from_spelled 0 g xs second)
IsRead-from_spelled level e us (alone _ _ _ low spells) = read-alone level e us (IsRead-from_spelled (suc level) e us spells)

-- What is spelled, and ends there, is read.
pub expression_complete : (e : RawExpression) (front others : List Token) → SpellsExpression e front → EndsExpression others
    → expression_at (front ++ others) ≡ Some (e, others)
expression_complete e front others spells ends = (IsRead-from_spelled 0 e front spells).whole others refl ends
