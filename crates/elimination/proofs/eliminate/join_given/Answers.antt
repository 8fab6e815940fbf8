use Rattle.std.proofs.Common.{◌+◌, ◌∙◌, sym, ap, List, ◌∷◌, [], drop, Ok, Result}
use Rattle.std.proofs.lemmas.Result.{err_from_is_err_and}
use Rattle.lin_terms.specs.declared.row.Row.{Row}
use Rattle.elimination.specs.declared.answer.EarlyEnd.{EarlyEnd}
use Rattle.elimination.specs.declared.joining.JoinedRows.{JoinedRows}
use Rattle.elimination.specs.Combination.{Combination}
use Rattle.elimination.specs.Joining.{joined_each}
use Rattle.elimination.specs.Eliminated.{initial}
use Rattle.elimination.proofs.Stepping.{ended_each, ends_first}
use Rattle.elimination.proofs.Ending.{given_joins}
use Rattle.elimination.proofs.eliminate.join_given.Goals as goal

pub returns-in_err-join : goal.returns-in_err-join
returns-in_err-join c =
    let p = err_from_is_err_and c.from_residual-in_err-join.result c.from_residual-in_err-join.ensures.1 in
    let old : JoinedRows = c.args.rows.now in
    let mid : JoinedRows = c.loop-i.rows in
    let i = c.loop-i.i in
    let given : List Row = c.args.given.now in
    let made : Combination = c.in_ok-made.made in
    let target : Result (List Combination) EarlyEnd = joined_each old.cap (Ok old.rows) (initial 0 given) in
    let later : List Combination = initial (i + 1) (drop (i + 1) given) in
    let joins = given_joins mid.cap i given c.index-given-i.result made mid.rows target c.loop-i-test.true c.index-given-i.is c.in_ok-made.ensures
    c.loop-i.invariant.left in
    rw (p.1, p.2) (ends_first (λ before. joined_each mid.cap before later) (λ early. ended_each mid.cap early later)
    (joined_each mid.cap (Ok mid.rows) (made ∷ [])) target
    c.in_err-join.field-0.0 joins c.in_err-join.ensures)

pub loop-i-preserved : goal.loop-i-preserved
loop-i-preserved c =
    let old : JoinedRows = c.args.rows.now in
    let mid : JoinedRows = c.loop-i.rows in
    let new : JoinedRows = c.join.new.self in
    let i = c.loop-i.i in
    let given : List Row = c.args.given.now in
    let made : Combination = c.in_ok-made.made in
    let target : Result (List Combination) EarlyEnd = joined_each old.cap (Ok old.rows) (initial 0 given) in
    let later : List Combination = initial (i + 1) (drop (i + 1) given) in
    let joins = given_joins mid.cap i given c.index-given-i.result made mid.rows target c.loop-i-test.true c.index-given-i.is c.in_ok-made.ensures
    c.loop-i.invariant.left in
    let more = c.in_ok-join.ensures in
    record {
      left = ap (λ cap. joined_each cap (Ok new.rows) later) more.1
          ∙ ap (λ (t : Result (List Combination) EarlyEnd). joined_each mid.cap t later) (sym more.0) ∙ joins;
      cap = more.1 ∙ c.loop-i.invariant.cap;
    }
