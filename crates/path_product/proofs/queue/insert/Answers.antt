use Rattle.path_product.proofs.NodeOrder.{among_inserted}
use Rattle.path_product.proofs.queue.insert.Goals as goal

pub returns-clause-ok : goal.returns-clause-ok
returns-clause-ok c n =
    among_inserted n c.args.node c.args.met.now.keys c.insert.new.self.keys (c.in_ok-insert.ensures.updates.0 n)
