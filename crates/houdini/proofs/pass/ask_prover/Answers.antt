use Rattle.lin_prover.proofs.Laws.{points_exclude}
use Rattle.houdini.proofs.pass.ask_prover.Goals as goal

pub returns-in-Ok-NotRefutable : goal.returns-in-Ok-NotRefutable
returns-in-Ok-NotRefutable c = points_exclude c.args.rows.now (rw c.in-Ok-NotRefutable.field-0-is at c.in-Ok-NotRefutable.ensures)
