use Rattle.std.proofs.Common.{map}
use Rattle.sym_paths.specs.Arrivals.{fresh, made_of, entry_of, pending_of}
use Rattle.sym_paths.proofs.Advancing.{binary_advanced}
use Rattle.sym_paths.proofs.tasks.binary_with.Goals as goal

pub returns-clause-moves : goal.returns-clause-moves
returns-clause-moves c graph =
    binary_advanced c.args.room graph (pending_of c.args.pending) (pending_of c.in-Some.pending) c.in-Some.left c.args.right c.args.op
    (fresh c.args.columns) (map made_of c.in_ok-made-in-Some.made.items) (map entry_of c.in_ok-moves-in-Some.moves.items)
    (c.in-Some.ensures.case c.args.room graph) c.in_ok-made-in-Some.ensures.made (c.in_ok-moves-in-Some.ensures.moves c.args.room graph)

pub returns-clause-sound : goal.returns-clause-sound
returns-clause-sound c graph under =
    c.in_ok-moves-in-Some.ensures.sound c.args.room graph (c.in-Some.ensures.sound c.args.room graph under) c.in_ok-made-in-Some.ensures.room
