use Rattle.std.proofs.Common.{◌≡◌, List, sym, subst}
use Rattle.std.specs.Prelude.{All}
use Rattle.std.proofs.lemmas.Result.{IfOk-weaker}
use Rattle.lin_terms.specs.declared.row.Row.{Row}
use Rattle.lin_terms.specs.Row.{IsFittingRow, HaveOneLength}
use Rattle.horn_clauses.specs.Obligations.{obligation_rows}
use Rattle.horn_clauses.proofs.Shapes.{rows_have_one_length, rows_fit}
use Rattle.horn_clauses.proofs.obligation.obligation_rows.Goals as goal

pub returns-clause-length : goal.returns-clause-length
returns-clause-length c =
    let wanted : List Row = obligation_rows c.args.family.now c.args.clause.now c.args.atom.now c.args.upper in
    let all = rows_have_one_length c.args.family.now c.args.clause.now c.args.atom.now c.requires c.args.upper in
    IfOk-weaker c.made_rows.result (λ (rows : List Row). rows ≡ wanted) HaveOneLength (λ rows is. subst HaveOneLength (sym is) all) c.made_rows.ensures

pub returns-clause-fit : goal.returns-clause-fit
returns-clause-fit c =
    let Fit : List Row → Type 0 = λ rows. All IsFittingRow rows in
    let wanted : List Row = obligation_rows c.args.family.now c.args.clause.now c.args.atom.now c.args.upper in
    let all = rows_fit c.args.family.now c.args.clause.now c.args.atom.now c.requires c.args.upper in
    IfOk-weaker c.made_rows.result (λ (rows : List Row). rows ≡ wanted) Fit (λ rows is. subst Fit (sym is) all) c.made_rows.ensures
