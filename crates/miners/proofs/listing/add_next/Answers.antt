use Rattle.miners.proofs.Enumerated.{pushed_ended, kept_ended}
use Rattle.miners.proofs.listing.add_next.Goals as goal

pub returns-in_ok-push-in-Some : goal.returns-in_ok-push-in-Some
returns-in_ok-push-in-Some c = λ n k.
    rw c.in_ok-push-in-Some.ensures.items
    (pushed_ended c.args.kind n c.args.index k c.args.made.now.items c.args.shape.now c.in-Some.next c.args.coef c.in-Some.ensures)

pub returns-in-None : goal.returns-in-None
returns-in-None c = λ n k.
    kept_ended c.args.kind n c.args.index k c.args.made.now.items c.args.shape.now c.args.coef c.in-None.ensures
