use Rattle.std.proofs.Common.{rules, sym, ◌∙◌}
use Rattle.pool_core.proofs.Playing.{skip_may_follow}
use Rattle.pool_core.proofs.pool.Pool.skip.Goals as goal

pub put-requires-clause-follows : goal.put-requires-clause-follows
put-requires-clause-follows c =
    skip_may_follow c.args.self.now c.if-not-is_open.ensures.legal c.args.worker c.args.subject.now c.args.index c.args.skipped c.requires
    ((c.if-not-is_open.ensures.undecided.0 (search rules), c.if-not-is_own.ensures.0 (search rules)), tt, tt, tt)
    (sym c.sample_at.ensures ∙ c.in_default.is)
