use Rattle.miners.proofs.KeptLemmas.{pushed_fixed, kept_fixed, all_fixed}
use Rattle.miners.proofs.kept.add_fixed.Goals as goal

pub returns-in-None-clause-atoms : goal.returns-in-None-clause-atoms
returns-in-None-clause-atoms c = λ n. kept_fixed n c.args.made.now.items c.args.shape.now c.args.point.now c.in-None.ensures

pub returns-in_ok-push-in-Some-clause-atoms : goal.returns-in_ok-push-in-Some-clause-atoms
returns-in_ok-push-in-Some-clause-atoms c = λ n.
    rw c.in_ok-push-in-Some.ensures.items (pushed_fixed n c.args.made.now.items c.args.shape.now c.args.point.now c.in-Some.equality_there c.in-Some.ensures)

pub returns-in_ok-push-in-Some-clause-fixed : goal.returns-in_ok-push-in-Some-clause-fixed
returns-in_ok-push-in-Some-clause-fixed c = λ all.
    rw c.in_ok-push-in-Some.ensures.items (all_fixed c.args.made.now.items c.args.shape.now c.args.point.now c.in-Some.equality_there c.in-Some.ensures all)
