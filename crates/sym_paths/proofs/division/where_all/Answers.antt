use Rattle.std.proofs.Common.{ℕ, ◌+◌, false, Bor, subst, ◌∙◌, List}
use Rattle.lin_terms.specs.declared.form.Form.{Form}
use Rattle.lin_terms.specs.declared.row.Row.{Row}
use Rattle.lin_terms.specs.declared.sign.Sign.{Sign}
use Rattle.lin_terms.specs.Row.{IsDecided}
use Rattle.lin_terms.specs.Sign.{sign_row}
use Rattle.sym_paths.specs.Walk.{State}
use Rattle.sym_paths.proofs.Joining.{next_kept, next_true, next_never, left_joins}
use Rattle.sym_paths.proofs.division.where_all.Goals as goal
use Rattle.sym_paths.proofs.division.where_all.Goals.{in-None+in_ok-push-in-None, in-Some-true}

abbrev row_of : Sign × Bor Form → Row
row_of c = sign_row c.0 c.1.now

abbrev begun : ℕ → List Row → State
begun columns rows = record { rows = rows; columns = columns }

pub returns-in-Some-false-clause-exact : goal.returns-in-Some-false-clause-exact
returns-in-Some-false-clause-exact c =
    let is : IsDecided c.in-Ok.row false = subst (IsDecided c.in-Ok.row) c.in-Some-false.field-0-test c.in-Some-false.ensures in
    next_never row_of c.args.conditions.now c.loop-sign.sign-index c.loop-sign-item.result c.loop-sign-test.true c.loop-sign-item.is
    c.args.form.now (begun c.args.columns c.loop-sign.rows) c.in-Ok.row c.in-Ok.ensures.made is ∙ c.loop-sign.invariant

pub loop-sign-preserved : goal.loop-sign-preserved
loop-sign-preserved c = elim c.match-decided.branch [
  | in-None+in_ok-push-in-None w ↦
      left_joins row_of c.args.conditions.now (c.loop-sign.sign-index + 1) c.args.form.now c.args.columns
      (w.rows-is ∙ w.in_ok-push-in-None.ensures.ok)
      ∙ next_kept row_of c.args.conditions.now c.loop-sign.sign-index c.loop-sign-item.result c.loop-sign-test.true c.loop-sign-item.is
      c.args.form.now (begun c.args.columns c.loop-sign.rows) c.in-Ok.row c.in-Ok.ensures.made w.in-None.ensures ∙ c.loop-sign.invariant
  | in-Some-true w ↦
      left_joins row_of c.args.conditions.now (c.loop-sign.sign-index + 1) c.args.form.now c.args.columns w.rows-is
      ∙ next_true row_of c.args.conditions.now c.loop-sign.sign-index c.loop-sign-item.result c.loop-sign-test.true c.loop-sign-item.is
      c.args.form.now (begun c.args.columns c.loop-sign.rows) c.in-Ok.row c.in-Ok.ensures.made
      (subst (IsDecided c.in-Ok.row) w.in-Some-true.field-0-test w.in-Some-true.ensures) ∙ c.loop-sign.invariant
]
