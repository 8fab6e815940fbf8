-- The public laws (src/law.rt), each with its proof: what the proofs of other crates may cite.
use Rattle.trace_pair.specs.Laws.{IsOnePair, IsOneSkip, PairIsNoSkip, PairHasTraces, AllAreAdmitted}
use Rattle.trace_pair.proofs.Answering as answering
use Rattle.trace_pair.proofs.Asking as asking

pub one_pair : IsOnePair
one_pair = answering.one_pair

pub one_skip : IsOneSkip
one_skip = answering.one_skip

pub pair_is_no_skip : PairIsNoSkip
pair_is_no_skip = answering.pair_is_no_skip

pub pair_has_traces : PairHasTraces
pair_has_traces = answering.pair_has_traces

pub all_are_admitted : AllAreAdmitted
all_are_admitted = asking.all_are_admitted
