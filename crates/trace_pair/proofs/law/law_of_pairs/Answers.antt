use Rattle.trace_pair.proofs.Laws.{one_pair, one_skip, pair_is_no_skip, pair_has_traces, all_are_admitted}
use Rattle.trace_pair.proofs.law.law_of_pairs.Goals as goal

pub returns : goal.returns
returns c = record { pair = one_pair; skip = one_skip; not_both = pair_is_no_skip; traces = pair_has_traces; admitted = all_are_admitted }
