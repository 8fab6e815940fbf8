use Rattle.std.proofs.Common.{refl}
use Rattle.elimination.proofs.Wide.{product_back, unsigned_abs-product}
use Rattle.elimination.proofs.multipliers.product.Goals as goal

pub returns-clause-value : goal.returns-clause-value
returns-clause-value c = product_back c.args.x.now c.args.y.now c.args.y.now c.requires.x_fits c.requires.y_fits refl

pub returns-clause-small : goal.returns-clause-small
returns-clause-small c =
    rw (product_back c.args.x.now c.args.y.now c.args.y.now c.requires.x_fits c.requires.y_fits refl)
    (unsigned_abs-product c.args.x.now c.args.y.now c.requires.x_fits c.requires.y_fits)
