use Rattle.std.proofs.Common.{rules, sym, ◌∙◌}
use Rattle.pool_core.proofs.Playing.{pair_may_follow}
use Rattle.pool_core.proofs.pool.Pool.append.Goals as goal

pub put_pair-requires : goal.put_pair-requires
put_pair-requires c =
    pair_may_follow c.args.self.now c.if-not-is_open.ensures.legal c.args.worker c.args.subject.now c.args.index c.args.pair c.requires
    ((c.if-not-is_open.ensures.undecided.0 (search rules), c.if-not-is_own.ensures.0 (search rules)), tt, tt, tt)
    (sym c.sample_at.ensures ∙ c.in_default.is)
