use Rattle.std.proofs.Common.{◌∙◌, sym, ap, subst, List, Result}
use Rattle.elimination.specs.declared.answer.EarlyEnd.{EarlyEnd}
use Rattle.elimination.specs.Combination.{Combination}
use Rattle.elimination.specs.Joining.{numbers_of, is_wide, kept}
use Rattle.elimination.specs.Outcome.{Leaves}
use Rattle.elimination.proofs.Places.{kept_same, joined_kept}
use Rattle.elimination.proofs.Stepping.{joined_one}
use Rattle.elimination.proofs.joining.JoinedRows.join.Goals as goal

pub returns-in-Some : goal.returns-in-Some
returns-in-Some c =
    let row : Combination = c.in_ok-row.row in
    let cap = c.args.self.now.cap in
    let rows : List Combination = c.args.self.now.rows in
    let same = kept_same (is_wide (numbers_of row)) row c.in-Some.row c.in-Some.ensures in
    subst (λ (wanted : Result (List Combination) EarlyEnd). Leaves c.args.self.now wanted c.keep.new.self c.keep.result)
    (sym (joined_one cap rows c.args.row ∙ joined_kept cap rows c.args.row row c.in_ok-row.ensures same.1 ∙ ap (kept cap rows) same.0)) c.keep.ensures
