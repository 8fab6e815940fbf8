-- What spells an assignment, a mark or a condition is read as it.
use Rattle.std.proofs.Common.{◌≡◌, ℕ, zero, suc, pos, ◌≤◌, ◌-◌, false, List, ◌∷◌, ◌++◌, Some, None, refl, ap, ◌∙◌, arith}
use Rattle.c_ast.specs.declared.expr.BinOp.{BinOp}
use Rattle.c_ast.specs.RawTree as tree
use Rattle.c_ast.specs.RawTree.{RawExpression, RawCondition}
use Rattle.c_tokens.specs.declared.kind.Kind.{Kind}
use Rattle.c_tokens.specs.declared.kind.Kind.TheVariants as k
use Rattle.c_tokens.specs.declared.token.Token.{Token}
use Rattle.c_tokens.specs.declared.fixed.Fixed.TheVariants as fixed
use Rattle.c_reader.specs.Expressions.{SpellsExpression, EndsExpression, expression_depth}
use Rattle.c_reader.specs.ReadExpressions.{◌>>=◌}
use Rattle.c_reader.specs.Declarations.{Statement}
use Rattle.c_reader.specs.Statements.{SpellsSimple, SpellsMark, SpellsCondition, update_of, step_of, updated}
use Rattle.c_reader.specs.Depth.{statements_depth}
use Rattle.c_tokens.specs.Fixed.{is_kind_of}
use Rattle.c_reader.specs.ReadDeclarations.{name_by, name_at}
use Rattle.c_reader.specs.ReadStatements.{increment_at, update_by, change_at, simple_by, simple_at, constant_by, mark_at, condition_by, condition_at}
use Rattle.c_reader.proofs.Reading.{step, behind_sign-here, behind_either-here, test-from_HasSign}
use Rattle.c_reader.proofs.Shallow.{shallow-complete}
use Rattle.c_reader.proofs.Depths.{depth-positive}
use Rattle.c_reader.proofs.Firsts.{FirstIs-append, behind_sign-not, expression-first, expression-no_mark, starts_expression}

update-no_assign : (kind : Kind) (op : BinOp) → update_of kind ≡ Some op → is_kind_of fixed.Assign kind ≡ false
update-no_assign k.Assign op is = absurd cc
update-no_assign _ op is = refl

step-no_assign : (kind : Kind) (op : BinOp) → step_of kind ≡ Some op → is_kind_of fixed.Assign kind ≡ false
step-no_assign k.Assign op is = absurd cc
step-no_assign _ op is = refl

step-no_update : (kind : Kind) (op : BinOp) → step_of kind ≡ Some op → update_of kind ≡ None
step-no_update k.PlusPlus op is = refl
step-no_update k.MinusMinus op is = refl
step-no_update _ op is = absurd cc

-- a sign before the name
before-by : (room : ℕ) (kind : Kind) (line : ℕ) (op : BinOp) (others : List Token) → step_of kind ≡ Some op
    → simple_by room kind line others ≡ (name_at others >>= λ x. increment_at room x.0.name x.0.line op line x.1)
before-by room (k.Word name) line op others is = absurd cc
before-by room kind line op others is =
    ap (λ o. o >>= λ sign_op. name_at others >>= λ x. increment_at room x.0.name x.0.line sign_op line x.1) is

increment_at-here : (room : ℕ) (name : List ℕ) (line : ℕ) (op : BinOp) (at : ℕ) (after : List Token) → 2 ≤ room
    → increment_at room name line op at after ≡ Some (updated name line op at (tree.Num (pos 1)), after)
unfolding increment_at
increment_at-here zero name line op at after two = absurd (omega (arith, two))
increment_at-here (suc zero) name line op at after two = absurd (omega (arith, two))
increment_at-here (suc (suc room)) name line op at after two = refl

change-assign : (room : ℕ) (name : List ℕ) (line : ℕ) (e : RawExpression) (first : Token) (us after : List Token)
    → first.kind ≡ k.Assign → SpellsExpression e us → expression_depth e ≤ room → EndsExpression after
    → change_at room name line (first ∷ us ++ after) ≡ Some (tree.Assign name line e, after)
unfolding change_at
change-assign room name line e first us after is spells low ends =
    rw (test-from_HasSign fixed.Assign first.kind is) (step _ (e, after)
    (shallow-complete room e us after spells ends low) refl)

change-update : (room : ℕ) (name : List ℕ) (line : ℕ) (op : BinOp) (e : RawExpression) (first : Token)
    (us after : List Token) → update_of first.kind ≡ Some op → SpellsExpression e us → expression_depth e ≤ room - 1
    → EndsExpression after
    → change_at room name line (first ∷ us ++ after) ≡ Some (updated name line op first.line e, after)
unfolding change_at
change-update room name line op e first us after is spells low ends =
    rw (update-no_assign first.kind op is)
    (ap (λ o. update_by room name line o (step_of first.kind) first.line (us ++ after)) is
    ∙ step _ (e, after) (shallow-complete (room - 1) e us after spells ends low) refl)

change-step : (room : ℕ) (name : List ℕ) (line : ℕ) (op : BinOp) (first : Token) (after : List Token)
    → step_of first.kind ≡ Some op → 2 ≤ room
    → change_at room name line (first ∷ after) ≡ Some (updated name line op first.line (tree.Num (pos 1)), after)
unfolding change_at
change-step room name line op first after is two =
    rw (step-no_assign first.kind op is)
    (ap (λ o. update_by room name line o (step_of first.kind) first.line after) (step-no_update first.kind op is)
    ∙ step (λ x. increment_at room name line x first.line after) op is (increment_at-here room name line op first.line after two))

pub simple-complete : (s : Statement) (us after : List Token) (room : ℕ) → SpellsSimple s us
    → statements_depth (s tree.Nil) ≤ room → EndsExpression after → simple_at room (us ++ after) ≡ Some (s, after)
unfolding simple_at
simple-complete _ _ after zero (SpellsSimple.assignment name e word first us named is spells) low ends =
    absurd (omega (arith, low))
simple-complete _ _ after zero (SpellsSimple.update name op e word first us named is spells) low ends =
    absurd (omega (arith, low))
simple-complete _ _ after zero (SpellsSimple.step_behind name op word first named is) low ends = absurd (omega (arith, low))
simple-complete _ _ after zero (SpellsSimple.step_before name op word first named is) low ends = absurd (omega (arith, low))
simple-complete _ _ after (suc room) (SpellsSimple.assignment name e word first us named is spells) low ends =
    ap (λ kind. simple_by room kind word.line (first ∷ us ++ after)) named
    ∙ change-assign room name word.line e first us after is spells (omega (arith, low)) ends
simple-complete _ _ after (suc room) (SpellsSimple.update name op e word first us named is spells) low ends =
    ap (λ kind. simple_by room kind word.line (first ∷ us ++ after)) named
    ∙ change-update room name word.line op e first us after is spells (omega (arith, low, depth-positive e)) ends
simple-complete _ _ after (suc room) (SpellsSimple.step_behind name op word first named is) low ends =
    ap (λ kind. simple_by room kind word.line (first ∷ after)) named
    ∙ change-step room name word.line op first after is (omega (arith, low))
simple-complete _ _ after (suc room) (SpellsSimple.step_before name op word first named is) low ends =
    before-by room first.kind first.line op (word ∷ after) is
    ∙ step (λ x. increment_at room x.0.name x.0.line op first.line x.1) (record { name = name; line = word.line }, after)
    (ap (λ kind. name_by kind word.line after) named)
    (increment_at-here room name word.line op first.line after (omega (arith, low)))

-- ---- marks and conditions

pub mark-complete : (number : ℕ) (opening constant closing : Token) (after : List Token) → opening.kind ≡ k.OpenRound
    → constant.kind ≡ k.Constant number → closing.kind ≡ k.CloseRound
    → mark_at (opening ∷ constant ∷ closing ∷ after) ≡ Some (number, after)
unfolding mark_at
mark-complete number opening constant closing after opens is_constant closes =
    step _ (constant ∷ closing ∷ after) (behind_sign-here fixed.OpenRound opening (constant ∷ closing ∷ after) opens)
    (step _ (number, closing ∷ after) (ap (λ kind. constant_by kind (closing ∷ after)) is_constant)
    (step _ after (behind_sign-here fixed.CloseRound closing after closes) refl))

pub condition-complete : (room : ℕ) (cond : RawCondition) (us after : List Token) → SpellsCondition cond us
    → expression_depth cond.cond ≤ room → EndsExpression after
    → condition_at room (us ++ after) ≡ Some (cond, after)
unfolding condition_at
condition-complete room _ us after (SpellsCondition.unmarked e _ spells) low ends =
    ap (λ behind. condition_by room behind (us ++ after)) (behind_sign-not starts_expression fixed.MarkWord (us ++ after)
    expression-no_mark (FirstIs-append starts_expression us after (expression-first e us spells)))
    ∙ step _ (e, after) (shallow-complete room e us after spells ends low) refl
condition-complete room _ _ after
    (SpellsCondition.marked _ e joint _ vs (SpellsMark.mark number word opening constant closing is_mark opens
    is_constant closes) is spells) low
    ends =
    ap (λ behind. condition_by room behind (word ∷ opening ∷ constant ∷ closing ∷ joint ∷ vs ++ after))
    (behind_sign-here fixed.MarkWord word (opening ∷ constant ∷ closing ∷ joint ∷ vs ++ after) is_mark)
    ∙ step _ (number, joint ∷ vs ++ after) (mark-complete number opening constant closing
    (joint ∷ vs ++ after) opens is_constant closes)
    (step _ (vs ++ after) (behind_either-here fixed.Amp fixed.AmpAmp joint (vs ++ after) is)
    (step _ (e, after) (shallow-complete room e vs after spells ends low) refl))
