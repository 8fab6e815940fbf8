use Rattle.std.proofs.Common.{sym, subst, true, false}
use Rattle.lin_terms.specs.Row.{IsDecided}
use Rattle.sym_paths.specs.Arrivals.{fresh}
use Rattle.sym_paths.proofs.Joining.{joining_decided}
use Rattle.sym_paths.proofs.tested.under.Goals as goal

pub returns-in-Some-true : goal.returns-in-Some-true
returns-in-Some-true c columns =
    let is : IsDecided c.args.row true = subst (IsDecided c.args.row) c.in-Some-true.field-0-test c.in-Some-true.ensures in
    sym (joining_decided c.args.row c.args.answer (fresh columns) true is)

pub returns : goal.returns
returns c columns =
    let is : IsDecided c.args.row false = subst (IsDecided c.args.row) c.in-Some-false.field-0-test c.in-Some-false.ensures in
    sym (joining_decided c.args.row c.args.answer (fresh columns) false is)
