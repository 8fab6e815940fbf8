use Rattle.c_ast.proofs.Laws.{cut_off_passes_more, is_judged_once, judged_is_trace, trace_is_judged}
use Rattle.c_ast.proofs.law.law_of_outcomes.Goals as goal

pub returns : goal.returns
returns c = record { one = is_judged_once; trace = judged_is_trace; cut_off = cut_off_passes_more; judged = trace_is_judged }
