use Rattle.miners.proofs.Enumerated.{five_ended}
use Rattle.miners.proofs.listing.add_nexts.Goals as goal

pub returns : goal.returns
returns c = λ n k.
    five_ended c.args.kind n c.args.index k c.args.shape.now _ _ _ _ _ _ (c.in_ok-add_next.ensures n k) (c.in_ok-add_next-2.ensures n k)
    (c.in_ok-add_next-3.ensures n k) (c.in_ok-add_next-4.ensures n k) (c.in_ok-add_next-5.ensures n k)
