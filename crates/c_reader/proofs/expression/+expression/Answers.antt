use Rattle.std.proofs.Common.{◌≡◌, ℕ, suc, ◌+◌, ◌-◌, ◌≤◌, length, Some, None, sym, ap, ◌∙◌, arith}
use Rattle.std.proofs.lemmas.Result.{err_from_is_err_and}
use Rattle.c_ast.specs.RawView.{raw_expression_of}
use Rattle.c_reader.specs.ReadExpressions.{operand_at, level_at, expression_at, IsDeeper}
use Rattle.c_tokens.specs.declared.fixed.Fixed.TheVariants as fixed
use Rattle.c_reader.specs.Fronts.{first_of, lowered, behind_sign}
use Rattle.c_reader.proofs.Reading.{first_of-is, first_of-none, lowered-is, lowered-none}
use Rattle.c_reader.proofs.Equations.{operand_at-empty}
use Rattle.c_reader.proofs.Readings.{level_at-operand, further_at-none, expression_at-level, choice_at-none, operand_at-wide, operand_at-none, reads-name, reads-constant, reads-bracket, reads-sign, reads-operation, reads-choice}
use Rattle.c_reader.proofs.Refusals.{handed_on, deeper-zero, deeper-none, deeper-same, deeper-bracket, deeper-sign, deeper-level, deeper-operation, deeper-expression, deeper-choice, deeper-no_colon, deeper-second}
use Rattle.c_reader.proofs.expression.+expression.Goals as goal

-- ---- expressions

pub read_expression-returns-in_err-cond-clause-refused : goal.read_expression-returns-in_err-cond-clause-refused
read_expression-returns-in_err-cond-clause-refused t c =
    let p = err_from_is_err_and c.from_residual.result c.from_residual.ensures.1 in
    handed_on (deeper-expression c.args.room c.args.tokens.now) c.from_residual.result p.0 c.in_err-cond.field-0.0 p.1 p.2
    c.in_err-cond.ensures.refused

pub read_expression-returns-in_default-clause-read : goal.read_expression-returns-in_default-clause-read
read_expression-returns-in_default-clause-read t c =
    expression_at-level c.args.tokens.now c.in_ok-cond.others.now (raw_expression_of c.in_ok-cond.cond.expr)
    c.in_ok-cond.ensures.read
    ∙ choice_at-none (raw_expression_of c.in_ok-cond.cond.expr) c.in_ok-cond.others.now (sym c.in_default.ensures.behind)

pub read_expression-returns-in_err-inside-clause-refused : goal.read_expression-returns-in_err-inside-clause-refused
read_expression-returns-in_err-inside-clause-refused t c =
    let p = err_from_is_err_and c.from_residual-in_err-inside.result c.from_residual-in_err-inside.ensures.1 in
    let too_deep : c.args.room ≤ c.in_ok-cond.cond.depth
    → IsDeeper c.args.room (expression_at c.args.tokens.now) =
    λ most. deeper-choice c.args.room c.args.tokens.now _ _ _ c.in_ok-cond.ensures.read (sym c.in-Some.ensures.behind)
    λ x y after first colon second. omega (arith, most, c.in_ok-cond.cond.measured) in
    handed_on too_deep c.from_residual-in_err-inside.result p.0 c.in_err-inside.field-0.0 p.1 p.2 c.in_err-inside.ensures.refused

pub read_expression-returns-in_err-first-clause-refused : goal.read_expression-returns-in_err-first-clause-refused
read_expression-returns-in_err-first-clause-refused t c =
    let p = err_from_is_err_and c.from_residual-in_err-first.result c.from_residual-in_err-first.ensures.1 in
    let too_deep : IsDeeper c.in_ok-inside.inside (expression_at c.in-Some.others.now)
    → IsDeeper c.args.room (expression_at c.args.tokens.now) =
    λ deeper. deeper-choice c.args.room c.args.tokens.now _ _ _ c.in_ok-cond.ensures.read (sym c.in-Some.ensures.behind)
    λ x y after first colon second. omega (arith, deeper x.0 x.1 first, c.in_ok-inside.ensures.room) in
    handed_on too_deep c.from_residual-in_err-first.result p.0 c.in_err-first.field-0.0 p.1 p.2 c.in_err-first.ensures.refused

pub read_expression-returns-in_err-after-clause-refused : goal.read_expression-returns-in_err-after-clause-refused
read_expression-returns-in_err-after-clause-refused t c =
    let p = err_from_is_err_and c.from_residual-in_err-after.result c.from_residual-in_err-after.ensures.1 in
    let no_colon : behind_sign fixed.Colon c.in_ok-first.after.now ≡ None → IsDeeper c.args.room (expression_at c.args.tokens.now) =
    λ none. deeper-no_colon c.args.room c.args.tokens.now _ _ _ _ _ c.in_ok-cond.ensures.read c.in-Some.ensures.behind
    c.in_ok-first.ensures.read (sym none) in
    handed_on no_colon c.from_residual-in_err-after.result p.0 c.in_err-after.field-0.0 p.1 p.2 c.in_err-after.ensures

pub read_expression-returns-in_err-second-clause-refused : goal.read_expression-returns-in_err-second-clause-refused
read_expression-returns-in_err-second-clause-refused t c =
    let p = err_from_is_err_and c.from_residual-in_err-second.result c.from_residual-in_err-second.ensures.1 in
    handed_on (deeper-second c.args.room c.in_ok-inside.inside c.args.tokens.now _ _ _ _ _ _ c.in_ok-cond.ensures.read
    c.in-Some.ensures.behind c.in_ok-first.ensures.read (sym c.in_ok-after.ensures) c.in_ok-inside.ensures.room)
    c.from_residual-in_err-second.result p.0 c.in_err-second.field-0.0 p.1 p.2 c.in_err-second.ensures.refused

pub read_expression-returns-clause-read : goal.read_expression-returns-clause-read
read_expression-returns-clause-read t c =
    rw c.in_ok-chosen.ensures.made (reads-choice c.args.tokens.now _ _ _ _ _ _ _ _ c.in_ok-cond.ensures.read
    c.in-Some.ensures.behind c.in_ok-first.ensures.read (sym c.in_ok-after.ensures) c.in_ok-second.ensures.read)

-- ---- levels

pub read_level-returns-in_err-left-clause-refused : goal.read_level-returns-in_err-left-clause-refused
read_level-returns-in_err-left-clause-refused t c =
    let p = err_from_is_err_and c.from_residual.result c.from_residual.ensures.1 in
    handed_on (deeper-level c.args.room c.args.level c.args.tokens.now) c.from_residual.result p.0 c.in_err-left.field-0.0 p.1
    p.2 c.in_err-left.ensures.refused

pub read_level-loop-at-init : goal.read_level-loop-at-init
read_level-loop-at-init t c = record {
  reads = level_at-operand c.args.level c.args.tokens.now _ _ c.in_ok-left.ensures.read;
  within = c.in_ok-left.ensures.within;
  shorter = omega (arith, c.in_ok-left.ensures.shorter);
}

pub read_level-returns-in_err-inside-clause-refused : goal.read_level-returns-in_err-inside-clause-refused
read_level-returns-in_err-inside-clause-refused t c =
    let p = err_from_is_err_and c.from_residual-in_err-inside.result c.from_residual-in_err-inside.ensures.1 in
    let too_deep : c.args.room ≤ c.loop-at.left.depth → IsDeeper c.args.room (level_at c.args.level c.args.tokens.now) =
    λ most. deeper-same c.args.room _ _ c.loop-at.invariant.reads
    (deeper-operation c.args.room c.args.level _ _ _ _ _ _ (sym c.in-Some.ensures.next)
    λ x right. omega (arith, most, c.loop-at.left.measured)) in
    handed_on too_deep c.from_residual-in_err-inside.result p.0 c.in_err-inside.field-0.0 p.1 p.2 c.in_err-inside.ensures.refused

pub read_level-returns-in_err-right-clause-refused : goal.read_level-returns-in_err-right-clause-refused
read_level-returns-in_err-right-clause-refused t c =
    let p = err_from_is_err_and c.from_residual-in_err-right.result c.from_residual-in_err-right.ensures.1 in
    let too_deep : IsDeeper c.in_ok-inside.inside (level_at (c.in-Some.at + 1) c.in-Some.behind.now)
    → IsDeeper c.args.room (level_at c.args.level c.args.tokens.now) =
    λ deeper. deeper-same c.args.room _ _ c.loop-at.invariant.reads
    (deeper-operation c.args.room c.args.level _ _ _ _ _ _ (sym c.in-Some.ensures.next)
    λ x right. let next : c.in-Some.at + 1 ≡ suc c.in-Some.at = omega arith in
    omega (arith, deeper x.0 x.1 (ap (λ (l : ℕ). level_at l c.in-Some.behind.now) next ∙ right), c.in_ok-inside.ensures.room)) in
    handed_on too_deep c.from_residual-in_err-right.result p.0 c.in_err-right.field-0.0 p.1 p.2 c.in_err-right.ensures.refused

pub read_level-loop-at-preserved : goal.read_level-loop-at-preserved
read_level-loop-at-preserved t c = record {
  reads = rw c.in_ok-left-2.ensures.made (reads-operation c.args.level c.args.tokens.now _ _ _ _ _ _ (c.in-Some.at + 1) _ _
      c.loop-at.invariant.reads c.in-Some.ensures.next (omega arith) c.in_ok-right.ensures.read);
  within = omega (
    arith,
    c.in_ok-left-2.ensures.depth,
    c.in_ok-inside.ensures.room,
    c.in_ok-inside.ensures.beside,
    c.in_ok-right.ensures.within,
  );
  shorter = omega (arith, c.in_ok-right.ensures.shorter, c.in-Some.ensures.shorter, c.loop-at.invariant.shorter);
}

pub read_level-returns-clause-read : goal.read_level-returns-clause-read
read_level-returns-clause-read t c =
    c.loop-at.invariant.reads ∙ further_at-none c.args.level _ _ (sym c.in_default.ensures.next)

-- ---- operands

pub read_operand-returns-in_err-below-clause-refused : goal.read_operand-returns-in_err-below-clause-refused
read_operand-returns-in_err-below-clause-refused t c =
    let p = err_from_is_err_and c.from_residual.result c.from_residual.ensures.1 in
    let no_room : lowered c.args.room ≡ None → IsDeeper c.args.room (operand_at c.args.tokens.now) =
    λ none. deeper-zero c.args.room (operand_at c.args.tokens.now) (lowered-none c.args.room none) in
    handed_on no_room c.from_residual.result p.0 c.in_err-below.field-0.0 p.1 p.2 c.in_err-below.ensures

pub read_operand-returns-in_err-token-clause-refused : goal.read_operand-returns-in_err-token-clause-refused
read_operand-returns-in_err-token-clause-refused t c =
    let p = err_from_is_err_and c.from_residual-in_err-token.result c.from_residual-in_err-token.ensures.1 in
    let no_token : first_of c.args.tokens.now ≡ None → IsDeeper c.args.room (operand_at c.args.tokens.now) =
    λ none. deeper-none c.args.room (operand_at c.args.tokens.now)
    (operand_at-empty c.args.tokens.now (ap length (first_of-none c.args.tokens.now none))) in
    handed_on no_token c.from_residual-in_err-token.result p.0 c.in_err-token.field-0.0 p.1 p.2 c.in_err-token.ensures

pub read_operand-returns-in_err-tree-in-Constant-clause-refused :
    goal.read_operand-returns-in_err-tree-in-Constant-clause-refused
read_operand-returns-in_err-tree-in-Constant-clause-refused t c =
    let p = err_from_is_err_and c.from_residual-in_err-tree-in-Constant.result
    c.from_residual-in_err-tree-in-Constant.ensures.1 in
    let parts = first_of-is c.args.tokens.now c.in_ok-token.token.now c.in_ok-token.others.now c.in_ok-token.ensures in
    let too_wide : c.constant.result ≡ None → IsDeeper c.args.room (operand_at c.args.tokens.now) =
    λ none. deeper-none c.args.room (operand_at c.args.tokens.now) (ap operand_at parts
    ∙ operand_at-wide c.in_ok-token.token.now c.in_ok-token.others.now c.in-Constant.value c.in-Constant.is (c.constant.ensures.wide none)) in
    handed_on too_wide c.from_residual-in_err-tree-in-Constant.result p.0 c.in_err-tree-in-Constant.field-0.0 p.1 p.2
    c.in_err-tree-in-Constant.ensures

pub read_operand-returns-in_err-inside-in-OpenRound-clause-refused :
    goal.read_operand-returns-in_err-inside-in-OpenRound-clause-refused
read_operand-returns-in_err-inside-in-OpenRound-clause-refused t c =
    let p = err_from_is_err_and c.from_residual-in_err-inside-in-OpenRound.result
    c.from_residual-in_err-inside-in-OpenRound.ensures.1 in
    let parts = first_of-is c.args.tokens.now c.in_ok-token.token.now c.in_ok-token.others.now c.in_ok-token.ensures in
    let too_deep : IsDeeper c.args.room (expression_at c.in_ok-token.others.now) → IsDeeper c.args.room (operand_at c.args.tokens.now) =
    λ deeper. deeper-same c.args.room _ _ (ap operand_at parts)
    (deeper-bracket c.args.room c.in_ok-token.token.now c.in_ok-token.others.now c.in-OpenRound.is deeper) in
    handed_on too_deep c.from_residual-in_err-inside-in-OpenRound.result p.0 c.in_err-inside-in-OpenRound.field-0.0 p.1 p.2
    c.in_err-inside-in-OpenRound.ensures.refused

pub read_operand-returns-in_err-after-in-OpenRound-clause-refused :
    goal.read_operand-returns-in_err-after-in-OpenRound-clause-refused
read_operand-returns-in_err-after-in-OpenRound-clause-refused t c =
    let p = err_from_is_err_and c.from_residual-in_err-after-in-OpenRound.result
    c.from_residual-in_err-after-in-OpenRound.ensures.1 in
    let parts = first_of-is c.args.tokens.now c.in_ok-token.token.now c.in_ok-token.others.now c.in_ok-token.ensures in
    let no_bracket : behind_sign fixed.CloseRound c.in_ok-inside-in-OpenRound.after.now ≡ None
    → IsDeeper c.args.room (operand_at c.args.tokens.now) =
    λ none. deeper-none c.args.room (operand_at c.args.tokens.now) (reads-bracket c.args.tokens.now _ _ _ _ None parts
    c.in-OpenRound.is c.in_ok-inside-in-OpenRound.ensures.read (sym none)) in
    handed_on no_bracket c.from_residual-in_err-after-in-OpenRound.result p.0 c.in_err-after-in-OpenRound.field-0.0 p.1 p.2
    c.in_err-after-in-OpenRound.ensures

pub read_operand-returns-in_err-op-in_default : goal.read_operand-returns-in_err-op-in_default
read_operand-returns-in_err-op-in_default t c =
    let p = err_from_is_err_and c.from_residual-in_err-op-in_default.result
    c.from_residual-in_err-op-in_default.ensures.1 in
    let parts = first_of-is c.args.tokens.now c.in_ok-token.token.now c.in_ok-token.others.now c.in_ok-token.ensures in
    let no_sign : c.unary_of.result ≡ None → IsDeeper c.args.room (operand_at c.args.tokens.now) =
    λ none. deeper-none c.args.room (operand_at c.args.tokens.now) (ap operand_at parts
    ∙ operand_at-none c.in_ok-token.token.now c.in_ok-token.others.now c.in_default.not-Word c.in_default.not-Constant
    c.in_default.not-OpenRound (sym c.unary_of.ensures ∙ none)) in
    record {
      read = rw p.1 tt;
      within = rw p.1 tt;
      shorter = rw p.1 tt;
      refused = handed_on no_sign c.from_residual-in_err-op-in_default.result p.0
          c.in_err-op-in_default.field-0.0 p.1 p.2 c.in_err-op-in_default.ensures;
    }

pub read_operand-returns-in_err-operand-in_default : goal.read_operand-returns-in_err-operand-in_default
read_operand-returns-in_err-operand-in_default t c =
    let p = err_from_is_err_and c.from_residual-in_err-operand-in_default.result
    c.from_residual-in_err-operand-in_default.ensures.1 in
    let parts = first_of-is c.args.tokens.now c.in_ok-token.token.now c.in_ok-token.others.now c.in_ok-token.ensures in
    let less : c.args.room - 1 ≡ c.in_ok-below.below = omega (arith, lowered-is c.args.room c.in_ok-below.below c.in_ok-below.ensures) in
    let too_deep : IsDeeper c.in_ok-below.below (operand_at c.in_ok-token.others.now) → IsDeeper c.args.room (operand_at c.args.tokens.now) =
    λ deeper. deeper-same c.args.room _ _ (ap operand_at parts)
    (deeper-sign c.args.room c.in_ok-token.token.now c.in_ok-token.others.now _ (sym c.unary_of.ensures ∙ c.in_ok-op-in_default.ensures)
    (rw less deeper)) in
    record {
      read = rw p.1 tt;
      within = rw p.1 tt;
      shorter = rw p.1 tt;
      refused = handed_on too_deep c.from_residual-in_err-operand-in_default.result p.0
          c.in_err-operand-in_default.field-0.0 p.1 p.2 c.in_err-operand-in_default.ensures.refused;
    }

pub read_operand-returns-in_ok-copy-in-Word-clause-read : goal.read_operand-returns-in_ok-copy-in-Word-clause-read
read_operand-returns-in_ok-copy-in-Word-clause-read t c =
    let parts = first_of-is c.args.tokens.now c.in_ok-token.token.now c.in_ok-token.others.now c.in_ok-token.ensures in
    rw (c.named.ensures.made, c.in_ok-copy-in-Word.ensures)
    (reads-name c.args.tokens.now c.in_ok-token.others.now c.in_ok-token.token.now c.in-Word.name parts c.in-Word.is)

pub read_operand-returns-in_ok-tree-in-Constant-clause-read : goal.read_operand-returns-in_ok-tree-in-Constant-clause-read
read_operand-returns-in_ok-tree-in-Constant-clause-read t c =
    let parts = first_of-is c.args.tokens.now c.in_ok-token.token.now c.in_ok-token.others.now c.in_ok-token.ensures in
    let made = rw c.in_ok-tree-in-Constant.ensures at c.constant.ensures.made in
    let below = rw c.in_ok-tree-in-Constant.ensures at c.constant.ensures.below in
    rw made (reads-constant c.args.tokens.now c.in_ok-token.others.now c.in_ok-token.token.now c.in-Constant.value parts
    c.in-Constant.is below)

pub read_operand-returns-in_ok-after-in-OpenRound-clause-read : goal.read_operand-returns-in_ok-after-in-OpenRound-clause-read
read_operand-returns-in_ok-after-in-OpenRound-clause-read t c =
    let parts = first_of-is c.args.tokens.now c.in_ok-token.token.now c.in_ok-token.others.now c.in_ok-token.ensures in
    reads-bracket c.args.tokens.now _ _ _ _ (Some c.in_ok-after-in-OpenRound.after.now) parts
    c.in-OpenRound.is c.in_ok-inside-in-OpenRound.ensures.read (sym c.in_ok-after-in-OpenRound.ensures)

pub read_operand-returns-in_ok-signed-in_default : goal.read_operand-returns-in_ok-signed-in_default
read_operand-returns-in_ok-signed-in_default t c =
    let parts = first_of-is c.args.tokens.now c.in_ok-token.token.now c.in_ok-token.others.now c.in_ok-token.ensures in
    record {
      read = rw c.in_ok-signed-in_default.ensures.made (reads-sign c.args.tokens.now c.in_ok-token.others.now _
          c.in_ok-token.token.now _ _ parts (sym c.unary_of.ensures ∙ c.in_ok-op-in_default.ensures)
          c.in_ok-operand-in_default.ensures.read);
      within = omega (
        arith,
        c.in_ok-signed-in_default.ensures.depth,
        c.in_ok-operand-in_default.ensures.within,
        lowered-is c.args.room c.in_ok-below.below c.in_ok-below.ensures,
      );
      shorter = omega (arith, c.in_ok-operand-in_default.ensures.shorter, ap length parts);
      refused = tt;
    }
