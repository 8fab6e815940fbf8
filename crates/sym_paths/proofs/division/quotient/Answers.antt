use Rattle.std.proofs.Common.{FitsSigned, w64, to_z-of_z}
use Rattle.sym_paths.proofs.division.quotient.Goals as goal

pub returns-clause-made : goal.returns-clause-made
returns-clause-made c =
    let fits : FitsSigned w64 c.args.divisor = c.ranges.divisor in
    simp to_z-of_z at c.divided.ensures.exact
