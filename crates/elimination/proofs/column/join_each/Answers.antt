use Rattle.std.proofs.Common.{rules, subst, refl, suc, length, drop, List, ◌∷◌, [], Ok, Err}
use Rattle.std.proofs.lemmas.Iterator.Adapters.{YieldsList-from_vec}
use Rattle.std.proofs.lemmas.Result.{err_from_is_err_and}
use Rattle.elimination.specs.declared.joining.JoinedRows.{JoinedRows}
use Rattle.elimination.specs.Combination.{Combination}
use Rattle.elimination.specs.Outcome.{Joins}
use Rattle.elimination.proofs.Stepping.{walk_more, walk_ends, yielded_parts, yielded_all}
use Rattle.elimination.proofs.column.join_each.Goals as goal

pub returns-in_err-join : goal.returns-in_err-join
returns-in_err-join c =
    let p = err_from_is_err_and c.from_residual.result c.from_residual.ensures.1 in
    let old : JoinedRows = c.args.rows.now in
    let mid : JoinedRows = c.loop-row.rows in
    let new : JoinedRows = c.join.new.self in
    let others : List Combination = c.args.others.items in
    let xs : List Combination = c.loop-row.yielded in
    let row : Combination = c.in-Some.row in
    let road = YieldsList-from_vec {s = c.into_iter-row-iterator.result} others (search rules) (search rules) in
    let is = yielded_parts road xs c.loop-row.row-iterator c.loop-row.yielded_by c.next.result c.next.new.self row c.in-Some.is c.next.ensures.steps in
    rw (p.1, p.2) (walk_ends (λ (rs : List Combination). rs) (λ xs ys. refl) old mid new xs
    (drop (suc (length xs)) others) others row c.in_err-join.field-0.0 is c.loop-row.invariant
    (subst (λ (r : Combination). Joins mid (r ∷ []) new (Err c.in_err-join.field-0.0)) c.into_sum.ensures c.in_err-join.ensures))

pub loop-row-preserved : goal.loop-row-preserved
loop-row-preserved c =
    let old : JoinedRows = c.args.rows.now in
    let mid : JoinedRows = c.loop-row.rows in
    let new : JoinedRows = c.join.new.self in
    walk_more (λ (rs : List Combination). rs) (λ xs ys. refl) old mid new c.loop-row.yielded c.in-Some.row c.loop-row.invariant
    (subst (λ (r : Combination). Joins mid (r ∷ []) new (Ok tt)) c.into_sum.ensures c.in_ok-join.ensures)

pub returns : goal.returns
returns c =
    let others : List Combination = c.args.others.items in
    let road = YieldsList-from_vec {s = c.into_iter-row-iterator.result} others (search rules) (search rules) in
    let is = yielded_all road c.loop-row.yielded c.loop-row.row-iterator c.loop-row.yielded_by c.next.result c.next.new.self c.in-None.is c.next.ensures.steps
    in
    subst (λ (rows : List Combination). Joins c.args.rows.now (rows) c.loop-row.rows (Ok tt)) is c.loop-row.invariant
