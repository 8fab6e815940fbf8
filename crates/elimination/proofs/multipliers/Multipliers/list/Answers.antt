use Rattle.std.proofs.Common.{sym, subst}
use Rattle.elimination.proofs.Merging.{AreFittingEntries}
use Rattle.elimination.proofs.Tables.{fitting_entries}
use Rattle.elimination.proofs.multipliers.Multipliers.list.Goals as goal

pub scaled_list-requires-clause-fits : goal.scaled_list-requires-clause-fits
scaled_list-requires-clause-fits c =
    subst AreFittingEntries (sym c.as_slice.ensures)
    (fitting_entries c.self.inside.count c.self.inside.entries c.args.self.now c.self.invariant c.self.view_is c.requires.fits)
