use Rattle.std.proofs.Common.{◌≡◌, true}
use Rattle.std.specs.List.{list_any}
use Rattle.pool_core.specs.History.{has_index}
use Rattle.pool_core.proofs.Looking.{have_more_samples}
use Rattle.pool_core.proofs.conclude.missing_sample.Goals as goal

pub loop-index-preserved : goal.loop-index-preserved
loop-index-preserved c =
    let items = c.args.log.now.items in
    let there : list_any (has_index c.loop-index.index) items ≡ true = cc in
    have_more_samples items c.loop-index.index c.loop-index.invariant there
