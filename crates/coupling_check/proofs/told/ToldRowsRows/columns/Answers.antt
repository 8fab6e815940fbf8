use Rattle.std.proofs.Common.{arith}
use Rattle.coupling_check.specs.Told.{told_rows}
use Rattle.coupling_check.proofs.Telling.{columns_are}
use Rattle.coupling_check.proofs.told.ToldRowsRows.columns.Goals as goal

pub returns-else-count-eq0 : goal.returns-else-count-eq0
returns-else-count-eq0 c =
    columns_are c.args.self.now.columns
    (told_rows c.args.self.now.columns c.args.self.now.atoms.now c.args.self.now.clause.now c.args.self.now.atom.now c.args.self.now.upper)
    (omega (arith, c.count.ensures, c.if-count-eq0.false)) c.args.self.now.long
