use Rattle.std.proofs.Common.{ap}
use Rattle.sym_paths.specs.Walk.{gives}
use Rattle.sym_paths.specs.Machine.{Pending, Goes}
use Rattle.sym_paths.proofs.entries.made_entry.Goals as goal

pub returns-clause-entry : goal.returns-clause-entry
returns-clause-entry c room graph =
    let next = c.in_ok-next-in-Arrives.ensures.case room graph in
    rw c.in-Arrives.is (ap (λ (p : Pending). gives (Goes p) (record { rows = c.in-Arrives.rows; columns = c.in-Arrives.columns })) next)

pub returns-clause-sound : goal.returns-clause-sound
returns-clause-sound c room graph under has =
    c.in_ok-next-in-Arrives.ensures.sound room graph under (rw c.in-Arrives.is at has)
