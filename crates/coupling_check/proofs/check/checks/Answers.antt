use Rattle.coupling_check.proofs.Proving.{counts_where_checked}
use Rattle.coupling_check.proofs.check.checks.Goals as goal

pub returns : goal.returns
returns c =
    rw c.is_ok.ensures.value (counts_where_checked c.args.product.now c.args.family.now c.args.proofs.now c.check_obligations.result
    c.check_obligations.ensures)
