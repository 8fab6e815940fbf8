use Rattle.std.proofs.Common.{map, suc, sym, subst, List, take, drop, append-nil, Ok, Err}
use Rattle.std.proofs.lemmas.List.Concat.{flat_map-append}
use Rattle.std.proofs.lemmas.Result.{err_from_is_err_and}
use Rattle.elimination.specs.declared.joining.JoinedRows.{JoinedRows}
use Rattle.elimination.specs.Combination.{Combination}
use Rattle.elimination.specs.Column.{paired, pairs}
use Rattle.elimination.specs.Outcome.{Joins}
use Rattle.elimination.proofs.Stepping.{walk_more, walk_ends, parts, taken}
use Rattle.elimination.proofs.column.join_pairs.Goals as goal

pub returns-in_err-join_pairs_of : goal.returns-in_err-join_pairs_of
returns-in_err-join_pairs_of c =
    let p = err_from_is_err_and c.from_residual.result c.from_residual.ensures.1 in
    let old : JoinedRows = c.args.rows.now in
    let mid : JoinedRows = c.loop-lower.rows in
    let new : JoinedRows = c.join_pairs_of.new.rows in
    let lowers : List Combination = c.args.lowers.now in
    let lower : Combination = c.lower-item.result in
    let i = c.loop-lower.lower-index in
    let each : Combination → List Combination = λ row. map (paired c.args.j row) c.args.uppers.now in
    let ends = subst (λ (rows : List Combination). Joins mid rows new (Err c.in_err-join_pairs_of.field-0.0))
    (sym (append-nil (each lower))) c.in_err-join_pairs_of.ensures in
    rw (p.1, p.2) (walk_ends (λ rows. pairs c.args.j rows c.args.uppers.now) (flat_map-append each) old mid new (take i lowers)
    (drop (suc i) lowers) lowers lower
    c.in_err-join_pairs_of.field-0.0 (parts lowers i lower c.loop-lower-test.true c.lower-item.is) c.loop-lower.invariant ends)

pub loop-lower-preserved : goal.loop-lower-preserved
loop-lower-preserved c =
    let old : JoinedRows = c.args.rows.now in
    let mid : JoinedRows = c.loop-lower.rows in
    let new : JoinedRows = c.join_pairs_of.new.rows in
    let lowers : List Combination = c.args.lowers.now in
    let lower : Combination = c.lower-item.result in
    let i = c.loop-lower.lower-index in
    let each : Combination → List Combination = λ row. map (paired c.args.j row) c.args.uppers.now in
    let more = subst (λ (rows : List Combination). Joins mid rows new (Ok tt)) (sym (append-nil (each lower))) c.in_ok-join_pairs_of.ensures in
    subst (λ (rows : List Combination). Joins old (pairs c.args.j rows c.args.uppers.now) new (Ok tt))
    (sym (taken lowers i lower c.loop-lower-test.true c.lower-item.is))
    (walk_more (λ rows. pairs c.args.j rows c.args.uppers.now) (flat_map-append each) old mid new (take i lowers) lower c.loop-lower.invariant more)
