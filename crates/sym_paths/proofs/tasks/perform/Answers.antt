use Rattle.std.proofs.Common.{rules, to_z-of_z, FitsSigned}
use Rattle.std.specs.Int.{w64}
use Rattle.sym_paths.proofs.tasks.perform.Goals as goal

pub returns-in_ok-moves-in-Value-clause-moves : goal.returns-in_ok-moves-in-Value-clause-moves
returns-in_ok-moves-in-Value-clause-moves c graph =
    rw c.in-Value.is (c.in_ok-moves-in-Value.ensures.moves graph)

pub returns-in_ok-moves-in-Value-clause-sound : goal.returns-in_ok-moves-in-Value-clause-sound
returns-in_ok-moves-in-Value-clause-sound c graph under can =
    c.in_ok-moves-in-Value.ensures.sound graph under (rw c.in-Value.is at can)

pub returns-in_ok-moves-in-Unary-clause-moves : goal.returns-in_ok-moves-in-Unary-clause-moves
returns-in_ok-moves-in-Unary-clause-moves c graph =
    rw c.in-Unary.is (c.in_ok-moves-in-Unary.ensures.moves graph)

pub returns-in_ok-moves-in-Unary-clause-sound : goal.returns-in_ok-moves-in-Unary-clause-sound
returns-in_ok-moves-in-Unary-clause-sound c graph under can =
    c.in_ok-moves-in-Unary.ensures.sound graph under

pub returns-in_ok-moves-in-Binary-clause-moves : goal.returns-in_ok-moves-in-Binary-clause-moves
returns-in_ok-moves-in-Binary-clause-moves c graph =
    rw c.in-Binary.is (c.in_ok-moves-in-Binary.ensures.moves graph)

pub returns-in_ok-moves-in-Binary-clause-sound : goal.returns-in_ok-moves-in-Binary-clause-sound
returns-in_ok-moves-in-Binary-clause-sound c graph under can =
    c.in_ok-moves-in-Binary.ensures.sound graph under

pub returns-in_ok-moves-in-Quotient-clause-moves : goal.returns-in_ok-moves-in-Quotient-clause-moves
returns-in_ok-moves-in-Quotient-clause-moves c graph =
    let fits : FitsSigned w64 c.in-Quotient.divisor = search rules in
    rw c.in-Quotient.is (simp to_z-of_z at (c.in_ok-moves-in-Quotient.ensures.moves graph))

pub returns-in_ok-moves-in-Quotient-clause-sound : goal.returns-in_ok-moves-in-Quotient-clause-sound
returns-in_ok-moves-in-Quotient-clause-sound c graph under can =
    c.in_ok-moves-in-Quotient.ensures.sound graph under

pub returns-in_ok-moves-in-Rest-clause-moves : goal.returns-in_ok-moves-in-Rest-clause-moves
returns-in_ok-moves-in-Rest-clause-moves c graph =
    let fits : FitsSigned w64 c.in-Rest.divisor = search rules in
    rw c.in-Rest.is (simp to_z-of_z at (c.in_ok-moves-in-Rest.ensures.moves graph))

pub returns-in_ok-moves-in-Rest-clause-sound : goal.returns-in_ok-moves-in-Rest-clause-sound
returns-in_ok-moves-in-Rest-clause-sound c graph under can =
    c.in_ok-moves-in-Rest.ensures.sound graph under

pub returns-in_ok-moves-in-Test-clause-moves : goal.returns-in_ok-moves-in-Test-clause-moves
returns-in_ok-moves-in-Test-clause-moves c graph =
    rw c.in-Test.is (c.in_ok-moves-in-Test.ensures.moves graph)

pub returns-in_ok-moves-in-Test-clause-sound : goal.returns-in_ok-moves-in-Test-clause-sound
returns-in_ok-moves-in-Test-clause-sound c graph under can =
    c.in_ok-moves-in-Test.ensures.sound graph under

pub returns-in_ok-moves-in-AndThen-clause-moves : goal.returns-in_ok-moves-in-AndThen-clause-moves
returns-in_ok-moves-in-AndThen-clause-moves c graph =
    rw c.in-AndThen.is (c.in_ok-moves-in-AndThen.ensures.moves graph)

pub returns-in_ok-moves-in-AndThen-clause-sound : goal.returns-in_ok-moves-in-AndThen-clause-sound
returns-in_ok-moves-in-AndThen-clause-sound c graph under can =
    c.in_ok-moves-in-AndThen.ensures.sound graph under (rw c.in-AndThen.is at can)

pub returns-in_ok-moves-in-OrElse-clause-moves : goal.returns-in_ok-moves-in-OrElse-clause-moves
returns-in_ok-moves-in-OrElse-clause-moves c graph =
    rw c.in-OrElse.is (c.in_ok-moves-in-OrElse.ensures.moves graph)

pub returns-in_ok-moves-in-OrElse-clause-sound : goal.returns-in_ok-moves-in-OrElse-clause-sound
returns-in_ok-moves-in-OrElse-clause-sound c graph under can =
    c.in_ok-moves-in-OrElse.ensures.sound graph under (rw c.in-OrElse.is at can)

pub returns-in_ok-moves-in-Choose-clause-moves : goal.returns-in_ok-moves-in-Choose-clause-moves
returns-in_ok-moves-in-Choose-clause-moves c graph =
    rw c.in-Choose.is (c.in_ok-moves-in-Choose.ensures.moves graph)

pub returns-in_ok-moves-in-Choose-clause-sound : goal.returns-in_ok-moves-in-Choose-clause-sound
returns-in_ok-moves-in-Choose-clause-sound c graph under can =
    let parts = rw c.in-Choose.is at can in
    c.in_ok-moves-in-Choose.ensures.sound graph under parts.0 parts.1
