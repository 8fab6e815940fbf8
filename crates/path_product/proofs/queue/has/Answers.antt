use Rattle.std.proofs.Common.{◌∙◌}
use Rattle.path_product.proofs.NodeOrder.{among_keys}
use Rattle.path_product.proofs.queue.has.Goals as goal

pub returns : goal.returns
returns c = c.contains.ensures ∙ among_keys c.args.node c.args.met.now.keys
