use Rattle.std.proofs.Common.{sym}
use Rattle.trace_pair.proofs.Asking.{can_ask}
use Rattle.trace_pair.proofs.pairs.admit.Goals as goal

pub kept_out-requires : goal.kept_out-requires
kept_out-requires c =
    can_ask c.args.subject.now c.in-Some.condition.now c.args.input.now c.condition.ensures.formed (sym c.in-Some.ensures.condition) c.requires
