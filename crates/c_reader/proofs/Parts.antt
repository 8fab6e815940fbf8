-- What a reading is made of, where it finds something.
use Rattle.std.proofs.Common.{◌≡◌, ℕ, suc, pos, ◌<◌, ◌≤◌, ◌^◌, Bool, true, false, nat_le, nat_lt, if◌then◌else◌, List, [], ◌∷◌, Option, Some, None, refl, ap, subst, ◌∙◌, arith, inl, inr}
use Rattle.std.proofs.lemmas.Bool.{cases_lt}
use Rattle.std.proofs.lemmas.Option.{same_Some}
use Rattle.std.proofs.lemmas.Bool.Decides.{nat_tests}
use Rattle.c_ast.specs.RawTree.{RawExpression, Num, Named, Un, Bin, Cond}
use Rattle.c_ast.specs.declared.expr.UnOp.{UnOp}
use Rattle.c_ast.specs.declared.expr.BinOp.{BinOp}
use Rattle.c_tokens.specs.declared.kind.Kind.{Kind}
use Rattle.c_tokens.specs.declared.kind.Kind.TheVariants as k
use Rattle.c_tokens.specs.declared.token.Token.{Token}
use Rattle.c_reader.specs.Expressions.{unary_of, operator_of}
use Rattle.c_reader.specs.ReadExpressions.{Reader, Further, NextOperator, ◌>>=◌, Reading, next_operator, operand_by, joined_by, chosen_by, level_by, whole_by}
use Rattle.c_tokens.specs.declared.fixed.Fixed.TheVariants as fixed
use Rattle.c_reader.specs.Fronts.{behind_sign}
use Rattle.c_reader.proofs.Reading.{stepped, SignFirst, behind_sign-found}

-- Two readings of equal steps are equal.
pub step-same : {A B : Type 0} (step other : Option A) (go_on further : A → Option B) → step ≡ other
    → ((x : A) → step ≡ Some x → go_on x ≡ further x) → (step >>= go_on) ≡ (other >>= further)
step-same None None go_on further same goes = refl
step-same (Some x) (Some y) go_on further same goes =
    let equal : x ≡ y = cc in goes x refl ∙ ap further equal
step-same None (Some y) go_on further same goes = absurd cc
step-same (Some x) None go_on further same goes = absurd cc

-- A test that let a value through holds.
pub if-Some : {A : Type 0} (test : Bool) (value result : A) → (if test then Some value else None) ≡ Some result
    → (test ≡ true) × (value ≡ result)
if-Some true value result is = (refl, cc)
if-Some false value result is = absurd cc

-- the operator that stands first
pub record IsNext (level : ℕ) (tokens : List Token) (at : ℕ) (op : BinOp) (line : ℕ) (others : List Token) : Type 0 where
  pub sign : Token
  pub parts : tokens ≡ sign ∷ others
  pub operator : operator_of sign.kind ≡ Some (at, op)
  pub binds : level ≤ at
  pub place : sign.line ≡ line

pub IsNext-from_next : (level : ℕ) (tokens : List Token) (at : ℕ) (op : BinOp) (line : ℕ) (others : List Token)
    → next_operator level tokens ≡ Some (at, op, line, others) → IsNext level tokens at op line others
IsNext-from_next level [] at op line others is = absurd cc
IsNext-from_next level (sign ∷ behind_it) at op line others is =
    let step = stepped (operator_of sign.kind) _ (at, op, line, others) is in
    let both = if-Some (nat_le level step.0.0) (step.0.0, step.0.1, sign.line, behind_it) (at, op, line, others) step.2 in
    record {
      sign = sign;
      parts = ap (λ (x : NextOperator). sign ∷ x.3) both.1;
      operator = step.1 ∙ ap (λ (x : NextOperator). Some (x.0, x.1)) both.1;
      binds = subst (λ (n : ℕ). level ≤ n) (ap (λ (x : NextOperator). x.0) both.1) (grind (arith, nat_tests, both.0));
      place = ap (λ (x : NextOperator). x.2) both.1;
    }

-- No operator of the level or of a tighter one stands first.
abbrev pub Stops : ℕ → List Token → Type 0
Stops level [] = Unit {0}
Stops level (sign ∷ others) = (at : ℕ) (op : BinOp) → operator_of sign.kind ≡ Some (at, op) → at < level

pub Stops-from_next : (level : ℕ) (tokens : List Token) → next_operator level tokens ≡ None → Stops level tokens
Stops-from_next level [] is = tt
Stops-from_next level (sign ∷ others) is = λ at op operator. elim (cases_lt at level) [
  | inl less ↦ less
  | inr more ↦ absurd (bound at op operator more)
]
  where
    bound : (at : ℕ) (op : BinOp) → operator_of sign.kind ≡ Some (at, op) → level ≤ at → ⊥
    bound at op operator more =
        let taken : nat_le level at ≡ true = grind (arith, nat_tests, more) in
        let given : next_operator level (sign ∷ others) ≡ Some (at, op, sign.line, others) = rw (operator, taken) refl in
        cc (is, given)

-- what an operand is
pub data OperandIs (kind : Kind) (line : ℕ) (others : List Token) (inside operand : Reading) : RawExpression → List Token → Type 0 where
  named : (name : List ℕ) → kind ≡ k.Word name → OperandIs kind line others inside operand (Named name line) others
  constant : (value : ℕ) → kind ≡ k.Constant value → value < 2 ^ 63
      → OperandIs kind line others inside operand (Num (pos value)) others
  bracketed : (e : RawExpression) (after last : List Token) → kind ≡ k.OpenRound → inside ≡ Some (e, after)
      → SignFirst fixed.CloseRound after last → OperandIs kind line others inside operand e last
  signed : (op : UnOp) (e : RawExpression) (last : List Token) → unary_of kind ≡ Some op → operand ≡ Some (e, last)
      → OperandIs kind line others inside operand (Un op e) last

-- a sign's operand as its operation
abbrev pub under_sign : Reading → UnOp → Reading
under_sign operand op = operand >>= λ x. Some (Un op x.0, x.1)

OperandIs-from_sign : (kind : Kind) (line : ℕ) (others : List Token) (inside operand : Reading) (e : RawExpression)
    (last : List Token) → (unary_of kind >>= under_sign operand) ≡ Some (e, last)
    → OperandIs kind line others inside operand e last
OperandIs-from_sign kind line others inside operand e last is =
    let sign = stepped (unary_of kind) (under_sign operand) (e, last) is in
    let step = stepped operand (λ x. Some (Un sign.0 x.0, x.1)) (e, last) sign.2 in
    subst (λ (x : RawExpression × List Token). OperandIs kind line others inside operand x.0 x.1)
    (same_Some (Un sign.0 step.0.0, step.0.1) (e, last) step.2)
    (signed sign.0 step.0.0 step.0.1 sign.1 step.1)

pub OperandIs-from_operand : (kind : Kind) (line : ℕ) (others : List Token) (inside operand : Reading)
    (e : RawExpression) (last : List Token) → operand_by kind line others inside operand ≡ Some (e, last)
    → OperandIs kind line others inside operand e last
OperandIs-from_operand (k.Word name) line others inside operand e last is =
    subst (λ (x : RawExpression × List Token). OperandIs (k.Word name) line others inside operand x.0 x.1)
    (same_Some (Named name line, others) (e, last) is) (named name refl)
OperandIs-from_operand (k.Constant value) line others inside operand e last is =
    let both = if-Some (nat_lt value (2 ^ 63)) (Num (pos value), others) (e, last) is in
    subst (λ (x : RawExpression × List Token). OperandIs (k.Constant value) line others inside operand x.0 x.1) both.1
    (constant value refl (grind (arith, nat_tests, both.0)))
OperandIs-from_operand k.OpenRound line others inside operand e last is =
    let step = stepped inside _ (e, last) is in
    let closing = stepped (behind_sign fixed.CloseRound step.0.1) _ (e, last) step.2 in
    subst (λ (x : RawExpression × List Token). OperandIs k.OpenRound line others inside operand x.0 x.1)
    (same_Some (step.0.0, closing.0) (e, last) closing.2)
    (bracketed step.0.0 step.0.1 closing.0 refl step.1 (behind_sign-found fixed.CloseRound step.0.1 closing.0 closing.1))
OperandIs-from_operand kind line others inside operand e last is =
    OperandIs-from_sign kind line others inside operand e last is

-- what goes on from a left operand
pub data JoinedIs (left : RawExpression) (tokens : List Token) (level : ℕ) (right : ℕ → Reader) (further : Further) (e : RawExpression)
    (last : List Token) : Type 0 where
  ends : left ≡ e → tokens ≡ last → Stops level tokens → JoinedIs left tokens level right further e last
  goes_on : (at : ℕ) (op : BinOp) (line : ℕ) (others : List Token) (f : RawExpression) (after : List Token)
      → IsNext level tokens at op line others → right (suc at) others ≡ Some (f, after)
      → further (Bin op line left f) after ≡ Some (e, last) → JoinedIs left tokens level right further e last

pub JoinedIs-from_joined : (left : RawExpression) (tokens : List Token) (level : ℕ) (right : ℕ → Reader)
    (further : Further) (e : RawExpression) (last : List Token)
    → joined_by left tokens (next_operator level tokens) right further ≡ Some (e, last)
    → JoinedIs left tokens level right further e last
JoinedIs-from_joined left tokens level right further e last is = by_next (next_operator level tokens) refl is
  where
    by_next : (next : Option NextOperator) → next_operator level tokens ≡ next
        → joined_by left tokens next right further ≡ Some (e, last) → JoinedIs left tokens level right further e last
    by_next None none is =
        let both = same_Some (left, tokens) (e, last) is in
        ends (ap (λ (x : RawExpression × List Token). x.0) both) (ap (λ (x : RawExpression × List Token). x.1) both)
        (Stops-from_next level tokens none)
    by_next (Some (at, op, line, others)) some is =
        let step = stepped (right (suc at) others) _ (e, last) is in
        goes_on at op line others step.0.0 step.0.1 (IsNext-from_next level tokens at op line others some) step.1 step.2

-- what goes on from a condition
pub data ChosenIs (cond : RawExpression) (tokens : List Token) (value : Reader) (e : RawExpression) (last : List Token) : Type 0 where
  ends : cond ≡ e → tokens ≡ last → behind_sign fixed.Question tokens ≡ None → ChosenIs cond tokens value e last
  goes_on : (others after others' : List Token) (f g : RawExpression) → SignFirst fixed.Question tokens others
      → value others ≡ Some (f, after) → SignFirst fixed.Colon after others' → value others' ≡ Some (g, last)
      → Cond cond f g ≡ e → ChosenIs cond tokens value e last

pub ChosenIs-from_chosen : (cond : RawExpression) (tokens : List Token) (value : Reader)
    (e : RawExpression) (last : List Token)
    → chosen_by cond tokens (behind_sign fixed.Question tokens) value ≡ Some (e, last) → ChosenIs cond tokens value e last
ChosenIs-from_chosen cond tokens value e last is = by_behind (behind_sign fixed.Question tokens) refl is
  where
    by_behind : (others : Option (List Token)) → behind_sign fixed.Question tokens ≡ others
        → chosen_by cond tokens others value ≡ Some (e, last) → ChosenIs cond tokens value e last
    by_behind None none is =
        let both = same_Some (cond, tokens) (e, last) is in
        ends (ap (λ (x : RawExpression × List Token). x.0) both) (ap (λ (x : RawExpression × List Token). x.1) both) none
    by_behind (Some others) some is =
        let first = stepped (value others) _ (e, last) is in
        let colon = stepped (behind_sign fixed.Colon first.0.1) _ (e, last) first.2 in
        let second = stepped (value colon.0) _ (e, last) colon.2 in
        let both = same_Some (Cond cond first.0.0 second.0.0, second.0.1) (e, last) second.2 in
        goes_on others first.0.1 colon.0 first.0.0 second.0.0 (behind_sign-found fixed.Question tokens others some)
        first.1 (behind_sign-found fixed.Colon first.0.1 colon.0 colon.1)
        (second.1 ∙ ap (λ (x : RawExpression × List Token). Some (second.0.0, x.1)) both)
        (ap (λ (x : RawExpression × List Token). x.0) both)

-- an operand, and what goes on from it
pub record LevelIs (operand : Reader) (further : Further) (tokens : List Token) (e : RawExpression) (last : List Token) : Type 0 where
  pub left : RawExpression
  pub after : List Token
  pub found : operand tokens ≡ Some (left, after)
  pub goes_on : further left after ≡ Some (e, last)

pub LevelIs-from_level : (operand : Reader) (further : Further)
    (tokens : List Token) (e : RawExpression) (last : List Token) → level_by operand further tokens ≡ Some (e, last)
    → LevelIs operand further tokens e last
LevelIs-from_level operand further tokens e last is =
    let step = stepped (operand tokens) _ (e, last) is in
    record { left = step.0.0; after = step.0.1; found = step.1; goes_on = step.2 }

-- an or-expression, and what goes on from it
pub record WholeIs (operand : Reader) (further choice : Further) (tokens : List Token) (e : RawExpression) (last : List Token) : Type 0 where
  pub cond : RawExpression
  pub after : List Token
  pub found : level_by operand further tokens ≡ Some (cond, after)
  pub goes_on : choice cond after ≡ Some (e, last)

pub WholeIs-from_whole : (operand : Reader) (further choice : Further)
    (tokens : List Token) (e : RawExpression) (last : List Token)
    → whole_by operand further choice tokens ≡ Some (e, last) → WholeIs operand further choice tokens e last
WholeIs-from_whole operand further choice tokens e last is =
    let step = stepped (level_by operand further tokens) _ (e, last) is in
    record {
      cond = step.0.0;
      after = step.0.1;
      found = step.1;
      goes_on = step.2;
    }
