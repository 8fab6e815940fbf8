use Rattle.std.proofs.Common.{rules, FitsSigned, w64, to_z-of_z}
use Rattle.farkas_check.proofs.Wide.{unsigned_abs-product, product_back}
use Rattle.farkas_check.proofs.sums.product.Goals as goal

pub returns-clause-value : goal.returns-clause-value
returns-clause-value c =
    let fits : FitsSigned w64 c.args.entry.now = search rules in
    product_back c.args.multiplier.now c.args.entry.now c.from.result c.requires.multiplier_fits c.requires.fits (simp to_z-of_z at c.from.ensures)

pub returns-clause-small : goal.returns-clause-small
returns-clause-small c =
    let fits : FitsSigned w64 c.args.entry.now = search rules in
    rw (product_back c.args.multiplier.now c.args.entry.now c.from.result c.requires.multiplier_fits c.requires.fits (simp to_z-of_z at c.from.ensures))
    (unsigned_abs-product c.args.multiplier.now c.args.entry.now c.requires.multiplier_fits c.requires.fits)
