use Rattle.std.proofs.Common.{ap, sym, ◌∙◌}
use Rattle.sym_paths.specs.Machine.{Pending, used}
use Rattle.sym_paths.specs.Arrivals.{graph_of, fresh}
use Rattle.sym_paths.proofs.node.used.Goals as goal

pub used_form-requires-clause-under : goal.used_form-requires-clause-under
used_form-requires-clause-under c =
    c.in-Some.ensures.sound c.args.room (graph_of c.args.subject) c.requires.under

pub returns-in_ok-moves-in-Some-clause-moves : goal.returns-in_ok-moves-in-Some-clause-moves
returns-in_ok-moves-in-Some-clause-moves c =
    c.in_ok-moves-in-Some.ensures.moves
    ∙ sym (ap (λ (p : Pending). used c.args.room (graph_of c.args.subject) p.left p.goal p.forms p.stack (fresh c.args.columns))
    (c.in-Some.ensures.case c.args.room (graph_of c.args.subject)))
