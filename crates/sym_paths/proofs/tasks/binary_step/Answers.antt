use Rattle.std.proofs.Common.{ap, sym, ◌∙◌, ◌∷◌}
use Rattle.sym_paths.specs.Machine.{Pending, Binary, advanced_by}
use Rattle.sym_paths.specs.Arrivals.{fresh}
use Rattle.sym_paths.proofs.tasks.binary_step.Goals as goal

pub returns-in_ok-moves-in-Some-clause-moves : goal.returns-in_ok-moves-in-Some-clause-moves
returns-in_ok-moves-in-Some-clause-moves c graph =
    c.in_ok-moves-in-Some.ensures.moves graph
    ∙ sym (ap (λ (r : Pending). advanced_by c.args.room graph r (Binary c.args.op ∷ r.tasks) (fresh c.args.columns)) (c.in-Some.ensures.case c.args.room graph))

pub returns-in_ok-moves-in-Some-clause-sound : goal.returns-in_ok-moves-in-Some-clause-sound
returns-in_ok-moves-in-Some-clause-sound c graph under =
    c.in_ok-moves-in-Some.ensures.sound graph (c.in-Some.ensures.sound c.args.room graph under)
