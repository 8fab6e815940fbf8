use Rattle.std.proofs.Common.{refl, map}
use Rattle.sym_paths.specs.Symbolic.{unary_made}
use Rattle.sym_paths.specs.Machine.{Unary}
use Rattle.sym_paths.specs.Arrivals.{fresh, made_of, entry_of, pending_of}
use Rattle.sym_paths.proofs.Advancing.{made_advanced}
use Rattle.sym_paths.proofs.tasks.unary_step.Goals as goal

pub returns-in_ok-moves-in-Some-clause-moves : goal.returns-in_ok-moves-in-Some-clause-moves
returns-in_ok-moves-in-Some-clause-moves c graph =
    made_advanced c.args.room graph (pending_of c.args.pending) (pending_of c.in-Some.pending) c.in-Some.form (Unary c.args.op)
    (fresh c.args.columns) (unary_made c.args.room c.args.op c.in-Some.form (fresh c.args.columns))
    (map made_of c.in_ok-made-in-Some.made.items) (map entry_of c.in_ok-moves-in-Some.moves.items)
    (c.in-Some.ensures.case c.args.room graph) refl c.in_ok-made-in-Some.ensures.made (c.in_ok-moves-in-Some.ensures.moves c.args.room graph)

pub returns-in_ok-moves-in-Some-clause-sound : goal.returns-in_ok-moves-in-Some-clause-sound
returns-in_ok-moves-in-Some-clause-sound c graph under =
    c.in_ok-moves-in-Some.ensures.sound c.args.room graph (c.in-Some.ensures.sound c.args.room graph under) c.in_ok-made-in-Some.ensures.room
