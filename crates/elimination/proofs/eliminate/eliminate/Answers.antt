use Rattle.std.proofs.Common.{refl, sym, subst, List, Ok, Result}
use Rattle.std.proofs.lemmas.Result.{err_from_is_err_and}
use Rattle.lin_terms.specs.declared.row.Row.{Row}
use Rattle.lin_terms.specs.Row.{columns_of}
use Rattle.elimination.specs.declared.answer.EarlyEnd.{EarlyEnd}
use Rattle.elimination.specs.Combination.{Combination}
use Rattle.elimination.specs.Joining.{list_of}
use Rattle.elimination.specs.Eliminated.{initial, eliminate}
use Rattle.elimination.specs.Outcome.{IsEnd}
use Rattle.elimination.proofs.Stepping.{eliminate_ended, ends_first}
use Rattle.elimination.proofs.eliminate.eliminate.Goals as goal

pub returns-in_err-rows : goal.returns-in_err-rows
returns-in_err-rows c =
    let p = err_from_is_err_and c.from_residual.result c.from_residual.ensures.1 in
    let cap = c.args.cap in
    let given : List Row = c.args.given.now in
    let first : Result (List Combination) EarlyEnd = list_of cap (initial 0 given) in
    rw (p.1, p.2) (ends_first (λ before. eliminate cap (columns_of given) 0 before) (eliminate_ended cap (columns_of given) 0) first
    (eliminate cap (columns_of given) 0 first)
    c.in_err-rows.field-0.0 refl c.in_err-rows.ensures)

pub returns : goal.returns
returns c =
    let cap = c.args.cap in
    let given : List Row = c.args.given.now in
    let rows : List Combination = c.in_ok-rows.rows.items in
    let result : Result (Unit {0}) EarlyEnd = c.eliminate_columns.result in
    subst (λ (first : Result (List Combination) EarlyEnd). IsEnd (eliminate cap (columns_of given) 0 first) result) (sym c.in_ok-rows.ensures)
    (subst (λ n. IsEnd (eliminate cap n 0 (Ok rows)) result) c.columns_of.ensures c.eliminate_columns.ensures)
