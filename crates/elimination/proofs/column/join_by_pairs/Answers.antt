use Rattle.std.proofs.Common.{◌∙◌, refl, subst, List, [], ◌++◌, Ok, Err, Result}
use Rattle.std.proofs.lemmas.Result.{err_from_is_err_and}
use Rattle.elimination.specs.declared.answer.EarlyEnd.{EarlyEnd}
use Rattle.elimination.specs.declared.joining.JoinedRows.{JoinedRows}
use Rattle.elimination.specs.Combination.{Combination}
use Rattle.elimination.specs.Column.{without, pairs, lower_bounds, upper_bounds}
use Rattle.elimination.specs.Outcome.{Joins}
use Rattle.elimination.proofs.Stepping.{joins_nothing, ends_then, joins_on}
use Rattle.elimination.proofs.column.join_by_pairs.Goals as goal

pub returns-in_err-join_each : goal.returns-in_err-join_each
returns-in_err-join_each c =
    let p = err_from_is_err_and c.from_residual-in_err-join_each.result c.from_residual-in_err-join_each.ensures.1 in
    let start : JoinedRows = c.args.rows.now in
    let new : JoinedRows = c.join_each.new.rows in
    let j = c.args.j in
    let old : List Combination = c.args.old.items in
    let early : EarlyEnd = c.in_err-join_each.field-0.0 in
    let later : List Combination = pairs j (lower_bounds j old) (upper_bounds j old) in
    let ends = subst (λ (rows : List Combination). Joins start rows new (Err early)) c.in_ok-split.ensures.without c.in_err-join_each.ensures in
    rw (p.1, p.2) (ends_then start start [] (joins_nothing start) (without j old) later (without j old ++ later) new early refl ends)

pub returns : goal.returns
returns c =
    let start : JoinedRows = c.args.rows.now in
    let mid : JoinedRows = c.join_each.new.rows in
    let new : JoinedRows = c.join_pairs.new.rows in
    let result : Result (Unit {0}) EarlyEnd = c.join_pairs.result in
    let j = c.args.j in
    let old : List Combination = c.args.old.items in
    let lower = c.as_slice.ensures.value ∙ c.in_ok-split.ensures.lower in
    let upper = c.as_slice-2.ensures.value ∙ c.in_ok-split.ensures.upper in
    let so_far = subst (λ (rows : List Combination). Joins start rows mid (Ok tt)) c.in_ok-split.ensures.without c.in_ok-join_each.ensures in
    let next = subst (λ (rows : List Combination). Joins mid (pairs j (lower_bounds j old) rows) new result) upper
    (subst (λ (rows : List Combination). Joins mid (pairs j rows c.as_slice-2.result.now) new result) lower c.join_pairs.ensures) in
    joins_on start mid (without j old) so_far (pairs j (lower_bounds j old) (upper_bounds j old)) new result next
