use Rattle.std.proofs.Common.{rules}
use Rattle.pool_core.proofs.Posting.{difference_may_follow}
use Rattle.pool_core.proofs.Pooling.{seen_of}
use Rattle.pool_core.proofs.pool.Pool.post_difference.Goals as goal

pub put-requires-clause-follows : goal.put-requires-clause-follows
put-requires-clause-follows c =
    let seen = seen_of c.args.self.now.items c.args.index c.as_slice.result.now c.args.input c.as_slice.ensures
    (c.if-not-is_seen.ensures.0 (search rules)) in
    difference_may_follow c.args.self.now c.if-not-is_open.ensures.legal c.args.worker c.args.index c.args.input _ _
    ((c.if-not-is_open.ensures.undecided.0 (search rules), tt), tt, seen, tt)
