use Rattle.std.proofs.Common.{◌+◌, ◌-◌, ◌∙◌, sym, ap, List, Ok, Result}
use Rattle.std.proofs.lemmas.Result.{err_from_is_err_and}
use Rattle.elimination.specs.declared.answer.EarlyEnd.{EarlyEnd}
use Rattle.elimination.specs.Combination.{Combination}
use Rattle.elimination.specs.Column.{projected}
use Rattle.elimination.specs.Joining.{list_of}
use Rattle.elimination.specs.Eliminated.{eliminate}
use Rattle.elimination.proofs.Stepping.{eliminate_ended, ends_first}
use Rattle.elimination.proofs.Ending.{next_column}
use Rattle.elimination.proofs.eliminate.eliminate_columns.Goals as goal

pub returns-in_err-rows : goal.returns-in_err-rows
returns-in_err-rows c =
    let p = err_from_is_err_and c.from_residual.result c.from_residual.ensures.1 in
    let cap = c.args.cap in
    let j = c.loop-j.j in
    let left = c.args.columns - (j + 1) in
    let rows : List Combination = c.loop-j.rows.items in
    let target : Result (List Combination) EarlyEnd = eliminate cap c.args.columns 0 (Ok c.args.first.items) in
    rw (p.1, p.2) (ends_first (λ before. eliminate cap left (j + 1) before) (eliminate_ended cap left (j + 1)) (list_of cap (projected j rows)) target
    c.in_err-rows.field-0.0 (next_column cap c.args.columns j rows target c.loop-j-test.true c.loop-j.invariant) c.in_err-rows.ensures)

pub loop-j-preserved : goal.loop-j-preserved
loop-j-preserved c =
    let cap = c.args.cap in
    let j = c.loop-j.j in
    let rows : List Combination = c.loop-j.rows.items in
    let target : Result (List Combination) EarlyEnd = eliminate cap c.args.columns 0 (Ok c.args.first.items) in
    ap (λ (t : Result (List Combination) EarlyEnd). eliminate cap (c.args.columns - (j + 1)) (j + 1) t) (sym c.in_ok-rows.ensures)
    ∙ next_column cap c.args.columns j rows target c.loop-j-test.true c.loop-j.invariant
