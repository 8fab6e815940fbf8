use Rattle.std.proofs.Common.{map, suc, sym, subst, List, take, drop, ◌∷◌, [], Ok, Err}
use Rattle.std.proofs.lemmas.List.{map-append}
use Rattle.std.proofs.lemmas.Result.{err_from_is_err_and}
use Rattle.elimination.specs.declared.joining.JoinedRows.{JoinedRows}
use Rattle.elimination.specs.Combination.{Combination}
use Rattle.elimination.specs.Column.{paired}
use Rattle.elimination.specs.Outcome.{Joins}
use Rattle.elimination.proofs.Stepping.{walk_more, walk_ends, parts, taken}
use Rattle.elimination.proofs.column.join_pairs_of.Goals as goal

pub returns-in_err-join : goal.returns-in_err-join
returns-in_err-join c =
    let p = err_from_is_err_and c.from_residual-in_err-join.result c.from_residual-in_err-join.ensures.1 in
    let old : JoinedRows = c.args.rows.now in
    let mid : JoinedRows = c.loop-upper.rows in
    let new : JoinedRows = c.join.new.self in
    let uppers : List Combination = c.args.uppers.now in
    let upper : Combination = c.upper-item.result in
    let i = c.loop-upper.upper-index in
    let pair : Combination → Combination = paired c.args.j c.args.lower.now in
    let ends = subst (λ (r : Combination). Joins mid (r ∷ []) new (Err c.in_err-join.field-0.0)) c.in_ok-made.ensures c.in_err-join.ensures in
    rw (p.1, p.2) (walk_ends (map pair) (map-append pair) old mid new (take i uppers) (drop (suc i) uppers) uppers upper c.in_err-join.field-0.0
    (parts uppers i upper c.loop-upper-test.true c.upper-item.is) c.loop-upper.invariant ends)

pub loop-upper-preserved : goal.loop-upper-preserved
loop-upper-preserved c =
    let old : JoinedRows = c.args.rows.now in
    let mid : JoinedRows = c.loop-upper.rows in
    let new : JoinedRows = c.join.new.self in
    let uppers : List Combination = c.args.uppers.now in
    let upper : Combination = c.upper-item.result in
    let i = c.loop-upper.upper-index in
    let pair : Combination → Combination = paired c.args.j c.args.lower.now in
    let more = subst (λ (r : Combination). Joins mid (r ∷ []) new (Ok tt)) c.in_ok-made.ensures c.in_ok-join.ensures in
    subst (λ (rows : List Combination). Joins old (map pair rows) new (Ok tt)) (sym (taken uppers i upper c.loop-upper-test.true c.upper-item.is))
    (walk_more (map pair) (map-append pair) old mid new (take i uppers) upper c.loop-upper.invariant more)
