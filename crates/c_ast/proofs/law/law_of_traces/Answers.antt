use Rattle.c_ast.proofs.Laws.{has_one_trace, outcome_is_trace, trace_fits, trace_is_segments, trace_returns}
use Rattle.c_ast.proofs.law.law_of_traces.Goals as goal

pub returns : goal.returns
returns c = record { one = has_one_trace; result = trace_returns; fits = trace_fits; interpreted = outcome_is_trace; segments = trace_is_segments }
