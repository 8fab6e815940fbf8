-- What is read as a statement is spelled so, and is no deeper than its room.
use Rattle.std.proofs.Common.{◌≡◌, ℕ, zero, suc, pos, ◌≤◌, ◌-◌, Bool, true, false, if◌then◌else◌, List, [], ◌∷◌, ◌++◌, Option, Some, None, refl, ap, subst, ◌∙◌, arith}
use Rattle.c_ast.specs.declared.expr.BinOp.{BinOp}
use Rattle.c_ast.specs.RawTree as tree
use Rattle.c_ast.specs.RawTree.{RawCondition}
use Rattle.c_tokens.specs.declared.kind.Kind.{Kind}
use Rattle.c_tokens.specs.declared.kind.Kind.TheVariants as k
use Rattle.c_tokens.specs.declared.token.Token.{Token}
use Rattle.c_tokens.specs.declared.fixed.Fixed.TheVariants as fixed
use Rattle.c_reader.specs.Expressions.{expression_depth}
use Rattle.c_reader.specs.ReadExpressions.{◌>>=◌}
use Rattle.c_ast.specs.declared.func.Var.{Var}
use Rattle.c_reader.specs.Declarations.{Statement, SpellsName}
use Rattle.c_reader.specs.Statements as spelled
use Rattle.c_reader.specs.Statements.{update_of, step_of, updated}
use Rattle.c_tokens.specs.Fixed.{is_kind_of}
use Rattle.c_reader.specs.Fronts.{behind_sign, behind_either}
use Rattle.c_reader.specs.ReadDeclarations.{shallow_at, name_at, begins_type, declaration_at}
use Rattle.c_reader.specs.ReadStatements.{increment_at, update_by, change_at, simple_by, simple_at, constant_by, constant_at, mark_at, condition_by, condition_at, start_at}
use Rattle.c_reader.proofs.Reading.{stepped, behind_sign-found, behind_either-found, HasSign-from_test, Front, IsSound, given, append_parts, cons_parts}
use Rattle.c_reader.proofs.Shallow.{shallow-sound}
use Rattle.c_reader.proofs.Depths.{depth-positive}
use Rattle.c_reader.proofs.DeclarationSoundness.{SpellsWithin, name_at-sound, declaration_at-sound}

-- ---- assignments

-- `x + 1` is assigned, and there is room for it.
increment_at-found : (room : ℕ) (name : List ℕ) (line : ℕ) (op : BinOp) (at : ℕ) (tokens : List Token)
    (read : Statement × List Token) → increment_at room name line op at tokens ≡ Some read
    → ((updated name line op at (tree.Num (pos 1)), tokens) ≡ read) × (2 ≤ room)
unfolding increment_at
increment_at-found zero name line op at tokens read found = absurd cc
increment_at-found (suc zero) name line op at tokens read found = absurd cc
increment_at-found (suc (suc room)) name line op at tokens read found = (given found, omega arith)

abbrev SimpleFirst : ℕ → List Token → Statement × List Token → Type 0
SimpleFirst room tokens read = Front (SpellsWithin spelled.SpellsSimple room) tokens read.0 read.1

before-by : (room : ℕ) (first : Token) (others after us : List Token) (op : BinOp) (var : Var) → SpellsName var us
    → others ≡ us ++ after → step_of first.kind ≡ Some op → 2 ≤ room
    → SimpleFirst (suc room) (first ∷ others) (updated var.name var.line op first.line (tree.Num (pos 1)), after)
before-by room first others after _ op _ (SpellsName.name name word named) parts is_step two = record {
  front = first ∷ word ∷ [];
  parts = ap (λ (l : List Token). first ∷ l) parts;
  spells = (spelled.SpellsSimple.step_before name op word first named is_step, omega (arith, two));
}

before-sound : (room : ℕ) (first : Token) (others : List Token) (kind : Kind) (read : Statement × List Token)
    → first.kind ≡ kind
    → (step_of kind >>= λ op. name_at others >>= λ x. increment_at room x.0.name x.0.line op first.line x.1) ≡ Some read
    → SimpleFirst (suc room) (first ∷ others) read
before-sound room first others kind read is found =
    let op = stepped (step_of kind) _ read found in
    let x = stepped (name_at others) _ read op.2 in
    let name = name_at-sound others x.0 x.1 in
    let both = increment_at-found room x.0.0.name x.0.0.line op.0 first.line x.0.1 read x.2 in
    subst (SimpleFirst (suc room) (first ∷ others)) both.0
    (before-by room first others x.0.1 name.front op.0 x.0.0 name.spells name.parts (ap step_of is ∙ op.1) both.1)

updated-sound : (room : ℕ) (name : List ℕ) (word first : Token) (others : List Token) (update step : Option BinOp)
    (read : Statement × List Token) → word.kind ≡ k.Word name → update_of first.kind ≡ update
    → step_of first.kind ≡ step → update_by room name word.line update step first.line others ≡ Some read
    → SimpleFirst (suc room) (word ∷ first ∷ others) read
updated-sound room name word first others (Some op) step read named is_update is_step found =
    let x = stepped (shallow_at (room - 1) others) _ read found in
    let value = shallow-sound (room - 1) others x.0 x.1 in
    subst (SimpleFirst (suc room) (word ∷ first ∷ others)) (given x.2) (record {
      front = word ∷ first ∷ value.at.front;
      parts = ap (λ (l : List Token). word ∷ first ∷ l) value.at.parts;
      spells = (
        spelled.SpellsSimple.update name op x.0.0 word first value.at.front named is_update value.at.spells,
        omega (arith, value.within, depth-positive x.0.0),
      );
    })
updated-sound room name word first others None (Some op) read named is_update is_step found =
    let both = increment_at-found room name word.line op first.line others read found in
    subst (SimpleFirst (suc room) (word ∷ first ∷ others)) both.0 (record {
      front = word ∷ first ∷ [];
      parts = refl;
      spells = (spelled.SpellsSimple.step_behind name op word first named is_step, omega (arith, both.1));
    })
updated-sound room name word first others None None read named is_update is_step found = absurd cc

assigned-sound : (room : ℕ) (name : List ℕ) (word first : Token) (others : List Token) (test : Bool)
    (read : Statement × List Token) → word.kind ≡ k.Word name → is_kind_of fixed.Assign first.kind ≡ test
    → (if test then (shallow_at room others >>= λ x. Some (tree.Assign name word.line x.0, x.1))
    else update_by room name word.line (update_of first.kind) (step_of first.kind) first.line others) ≡ Some read
    → SimpleFirst (suc room) (word ∷ first ∷ others) read
assigned-sound room name word first others true read named is found =
    let x = stepped (shallow_at room others) _ read found in
    let value = shallow-sound room others x.0 x.1 in
    subst (SimpleFirst (suc room) (word ∷ first ∷ others)) (given x.2) (record {
      front = word ∷ first ∷ value.at.front;
      parts = ap (λ (l : List Token). word ∷ first ∷ l) value.at.parts;
      spells = (
        spelled.SpellsSimple.assignment name x.0.0 word first value.at.front named
            (HasSign-from_test fixed.Assign first.kind is)
            value.at.spells,
        omega (arith, value.within),
      );
    })
assigned-sound room name word first others false read named is found =
    updated-sound room name word first others (update_of first.kind) (step_of first.kind) read named refl refl found

changed-sound : (room : ℕ) (name : List ℕ) (word : Token) (tokens : List Token) (read : Statement × List Token)
    → word.kind ≡ k.Word name → change_at room name word.line tokens ≡ Some read
    → SimpleFirst (suc room) (word ∷ tokens) read
unfolding change_at
changed-sound room name word [] read named found = absurd cc
changed-sound room name word (first ∷ others) read named found =
    assigned-sound room name word first others (is_kind_of fixed.Assign first.kind) read named refl found

simple-by : (room : ℕ) (first : Token) (others : List Token) (kind : Kind) (read : Statement × List Token)
    → first.kind ≡ kind → simple_by room kind first.line others ≡ Some read
    → SimpleFirst (suc room) (first ∷ others) read
simple-by room first others (k.Word name) read is found = changed-sound room name first others read is found
simple-by room first others kind read is found = before-sound room first others kind read is found

pub simple_at-sound : (room : ℕ) → IsSound (SpellsWithin spelled.SpellsSimple room) (simple_at room)
unfolding simple_at
simple_at-sound zero tokens read found = absurd cc
simple_at-sound (suc room) [] read found = absurd cc
simple_at-sound (suc room) (first ∷ others) read found = simple-by room first others first.kind read refl found

-- ---- marks, conditions, and what begins a `for`

-- a token that is a constant
record ConstantFirst (tokens : List Token) (value : ℕ) (after : List Token) : Type 0 where
  pub token : Token
  pub parts : tokens ≡ token ∷ after
  pub is : token.kind ≡ k.Constant value

constant-by : (first : Token) (others : List Token) (kind : Kind) (read : ℕ × List Token) → first.kind ≡ kind
    → constant_by kind others ≡ Some read → ConstantFirst (first ∷ others) read.0 read.1
constant-by first others (k.Constant value) read is found =
    subst (λ r. ConstantFirst (first ∷ others) r.0 r.1) (given found) (record { token = first; parts = refl; is = is })
constant-by first others _ read is found = absurd cc

constant_at-sound : (tokens : List Token) (read : ℕ × List Token) → constant_at tokens ≡ Some read
    → ConstantFirst tokens read.0 read.1
constant_at-sound [] read found = absurd cc
constant_at-sound (first ∷ others) read found = constant-by first others first.kind read refl found

pub mark_at-sound : (word : Token) (tokens : List Token) (read : ℕ × List Token) → word.kind ≡ k.MarkWord
    → mark_at tokens ≡ Some read → Front spelled.SpellsMark (word ∷ tokens) read.0 read.1
unfolding mark_at
mark_at-sound word tokens read is found =
    let others = stepped (behind_sign fixed.OpenRound tokens) _ read found in
    let x = stepped (constant_at others.0) _ read others.2 in
    let after = stepped (behind_sign fixed.CloseRound x.0.1) _ read x.2 in
    let opening = behind_sign-found fixed.OpenRound tokens others.0 others.1 in
    let number = constant_at-sound others.0 x.0 x.1 in
    let closing = behind_sign-found fixed.CloseRound x.0.1 after.0 after.1 in
    subst (λ r. Front spelled.SpellsMark (word ∷ tokens) r.0 r.1) (given after.2) (record {
      front = word ∷ opening.token ∷ number.token ∷ closing.token ∷ [];
      parts = cons_parts word (opening.token ∷ number.token ∷ closing.token ∷ []) after.0 (word ∷ tokens) tokens refl
          (cons_parts opening.token (number.token ∷ closing.token ∷ []) after.0 tokens others.0 opening.parts
          (cons_parts number.token (closing.token ∷ []) after.0 others.0 x.0.1 number.parts closing.parts));
      spells = spelled.SpellsMark.mark x.0.0 word opening.token number.token closing.token is opening.has number.is
          closing.has;
    })

-- The tokens spell the condition, and it is shallow.
abbrev pub SpellsShallowCondition : ℕ → RawCondition → List Token → Type 0
SpellsShallowCondition room cond us = spelled.SpellsCondition cond us × (expression_depth cond.cond ≤ room)

condition-by : (room : ℕ) (tokens : List Token) (behind : Option (List Token)) (read : RawCondition × List Token)
    → behind_sign fixed.MarkWord tokens ≡ behind → condition_by room behind tokens ≡ Some read
    → Front (SpellsShallowCondition room) tokens read.0 read.1
condition-by room tokens None read is found =
    let x = stepped (shallow_at room tokens) _ read found in
    let value = shallow-sound room tokens x.0 x.1 in
    subst (λ r. Front (SpellsShallowCondition room) tokens r.0 r.1) (given x.2) (record {
      front = value.at.front;
      parts = value.at.parts;
      spells = (spelled.SpellsCondition.unmarked x.0.0 value.at.front value.at.spells, value.within);
    })
condition-by room tokens (Some others) read is found =
    let x = stepped (mark_at others) _ read found in
    let after = stepped (behind_either fixed.Amp fixed.AmpAmp x.0.1) _ read x.2 in
    let y = stepped (shallow_at room after.0) _ read after.2 in
    let word = behind_sign-found fixed.MarkWord tokens others is in
    let mark = mark_at-sound word.token others x.0 word.has x.1 in
    let joint = behind_either-found fixed.Amp fixed.AmpAmp x.0.1 after.0 after.1 in
    let value = shallow-sound room after.0 y.0 y.1 in
    subst (λ r. Front (SpellsShallowCondition room) tokens r.0 r.1) (given y.2) (record {
      front = mark.front ++ joint.token ∷ value.at.front;
      parts = append_parts mark.front (joint.token ∷ value.at.front) y.0.1 tokens x.0.1 (word.parts ∙ mark.parts)
          (cons_parts joint.token value.at.front y.0.1 x.0.1 after.0 joint.parts value.at.parts);
      spells = (
        spelled.SpellsCondition.marked x.0.0 y.0.0 joint.token mark.front value.at.front mark.spells joint.has
            value.at.spells,
        value.within,
      );
    })

pub condition_at-sound : (room : ℕ) → IsSound (SpellsShallowCondition room) (condition_at room)
unfolding condition_at
condition_at-sound room tokens read found =
    condition-by room tokens (behind_sign fixed.MarkWord tokens) read refl found

start-by : (room : ℕ) (tokens : List Token) (test : Bool) (read : Statement × List Token)
    → (if test then declaration_at room tokens else simple_at room tokens) ≡ Some read
    → Front (SpellsWithin spelled.SpellsStart room) tokens read.0 read.1
start-by room tokens true read found =
    let at = declaration_at-sound room tokens read found in
    record {
      front = at.front;
      parts = at.parts;
      spells = (
        spelled.SpellsStart.declaration read.0 at.front
            at.spells.0,
        at.spells.1,
      );
    }
start-by room tokens false read found =
    let at = simple_at-sound room tokens read found in
    record {
      front = at.front;
      parts = at.parts;
      spells = (
        spelled.SpellsStart.simple read.0 at.front at.spells.0,
        at.spells.1,
      );
    }

pub start_at-sound : (room : ℕ) → IsSound (SpellsWithin spelled.SpellsStart room) (start_at room)
unfolding start_at
start_at-sound room tokens read found = start-by room tokens (begins_type tokens) read found
