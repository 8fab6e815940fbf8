use Rattle.std.proofs.Common.{rules, refl, arith, ◌<◌, length}
use Rattle.std.proofs.lemmas.Option.{slice_get_read}
use Rattle.pool_core.proofs.Comparing.{greedy_taken}
use Rattle.pool_core.proofs.pool.found_with.Goals as goal

pub returns-then-same-clause-step : goal.returns-then-same-clause-step
returns-then-same-clause-step c =
    let below : c.args.count < length c.args.atoms.now = omega (arith, c.requires, c.if-count-atoms.false) in
    greedy_taken c.args.atoms.now c.args.count c.index-atoms-count.result c.args.next.now
    (slice_get_read c.args.atoms.now (length c.args.atoms.now) c.args.count c.index-atoms-count.result refl below c.index-atoms-count.is)
    (c.if-same.ensures.0 (search rules))
