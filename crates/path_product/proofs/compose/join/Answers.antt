use Rattle.path_product.proofs.ComposedRows.{joining_decided}
use Rattle.path_product.specs.Coded.{state_of}
use Rattle.path_product.proofs.compose.join.Goals as goal

pub returns-in-Some-clause-joined : goal.returns-in-Some-clause-joined
returns-in-Some-clause-joined c columns = joining_decided c.args.row (tt {0}) (state_of c.args.rows.now columns) c.in-Some.holds c.in-Some.ensures
