use Rattle.std.proofs.Common.{rules, refl, map, to_z-of_z, FitsSigned}
use Rattle.std.specs.Int.{w64}
use Rattle.sym_paths.specs.Symbolic.{quotient_made}
use Rattle.sym_paths.specs.Machine.{Quotient}
use Rattle.sym_paths.specs.Arrivals.{fresh, made_of, entry_of, pending_of}
use Rattle.sym_paths.proofs.Advancing.{made_advanced}
use Rattle.sym_paths.proofs.tasks.quotient_step.Goals as goal

pub returns-in_ok-moves-in-Some-clause-moves : goal.returns-in_ok-moves-in-Some-clause-moves
returns-in_ok-moves-in-Some-clause-moves c graph =
    let fits : FitsSigned w64 c.args.divisor = search rules in
    made_advanced c.args.room graph (pending_of c.args.pending) (pending_of c.in-Some.pending) c.in-Some.form (Quotient c.args.divisor)
    (fresh c.args.columns) (quotient_made c.args.room c.args.divisor c.in-Some.form (fresh c.args.columns))
    (map made_of c.in_ok-made-in-Some.made.items) (map entry_of c.in_ok-moves-in-Some.moves.items)
    (c.in-Some.ensures.case c.args.room graph) refl (simp to_z-of_z at c.in_ok-made-in-Some.ensures.made)
    (c.in_ok-moves-in-Some.ensures.moves c.args.room graph)

pub returns-in_ok-moves-in-Some-clause-sound : goal.returns-in_ok-moves-in-Some-clause-sound
returns-in_ok-moves-in-Some-clause-sound c graph under =
    c.in_ok-moves-in-Some.ensures.sound c.args.room graph (c.in-Some.ensures.sound c.args.room graph under) c.in_ok-made-in-Some.ensures.room
