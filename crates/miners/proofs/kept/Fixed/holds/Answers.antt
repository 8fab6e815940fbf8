use Rattle.std.proofs.Common.{rules, FitsSigned}
use Rattle.std.specs.Int.{w128}
use Rattle.std.proofs.lemmas.Int.{to_z-of_z}
use Rattle.miners.proofs.KeptLemmas.{equality_test}
use Rattle.miners.proofs.kept.Fixed.holds.Goals as goal

pub returns : goal.returns
returns c =
    let fits : FitsSigned w128 c.sum.result = search rules in
    let tested = simp to_z-of_z at c.equals.ensures in
    rw (← c.sum.ensures.sum) (equality_test c.equals.result c.sum.result c.args.self.now.constant tested)
