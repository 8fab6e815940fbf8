use Rattle.lin_prover.proofs.Points.{has_point, tested_excludes}
use Rattle.lin_prover.proofs.point.is_point_of.Goals as goal

pub returns-clause-point : goal.returns-clause-point
returns-clause-point c said = has_point c.args.rows.now c.args.point.now (c.meets_all.ensures.0 said)

pub returns-clause-not_refutable : goal.returns-clause-not_refutable
returns-clause-not_refutable c said = tested_excludes c.args.rows.now c.args.point.now (c.meets_all.ensures.0 said)
