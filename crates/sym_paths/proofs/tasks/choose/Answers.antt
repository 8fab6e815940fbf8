use Rattle.std.proofs.Common.{refl, map, ap, ◌∙◌, [], ◌∷◌}
use Rattle.c_ast.specs.View.{expression_of}
use Rattle.sym_paths.specs.Machine.{Value, Choose, Pending, todo}
use Rattle.sym_paths.specs.Arrivals.{fresh, answer_of, entry_of, pending_of}
use Rattle.sym_paths.proofs.Advancing.{case_of, test_advanced}
use Rattle.sym_paths.proofs.tasks.choose.Goals as goal

pub returns-in_ok-moves-in-Some-clause-moves : goal.returns-in_ok-moves-in-Some-clause-moves
returns-in_ok-moves-in-Some-clause-moves c graph =
    let q = pending_of c.in-Some.pending in
    test_advanced c.args.room graph (pending_of c.args.pending) q (pending_of c.in_ok-first-in-Some.first)
    (pending_of c.in_ok-second-in-Some.second) c.in-Some.form (Choose (expression_of c.args.yes.now) (expression_of c.args.no.now)) (fresh c.args.columns)
    (todo (Value (expression_of c.args.yes.now) ∷ []) q.stack) (todo (Value (expression_of c.args.no.now) ∷ []) q.stack)
    (map (answer_of c.args.columns) c.in_ok-tests-in-Some.tests.items) (map entry_of c.in_ok-moves-in-Some.moves.items)
    (c.in-Some.ensures.case c.args.room graph) refl (c.in_ok-tests-in-Some.ensures c.args.columns)
    (c.in_ok-first-in-Some.ensures.case c.args.room graph
    ∙ ap (λ (p : Pending). case_of c.args.room graph p (todo (Value (expression_of c.args.yes.now) ∷ []) p.stack)) c.in_ok-copied-in-Some.ensures.same)
    (c.in_ok-second-in-Some.ensures.case c.args.room graph)
    c.in_ok-moves-in-Some.ensures.moves

pub returns-in_ok-moves-in-Some-clause-sound : goal.returns-in_ok-moves-in-Some-clause-sound
returns-in_ok-moves-in-Some-clause-sound c graph under first second =
    let sound = c.in-Some.ensures.sound c.args.room graph under in
    c.in_ok-moves-in-Some.ensures.sound c.args.room graph
    (c.in_ok-first-in-Some.ensures.sound c.args.room graph (c.in_ok-copied-in-Some.ensures.sound c.args.room graph sound) first)
    (c.in_ok-second-in-Some.ensures.sound c.args.room graph sound second)
