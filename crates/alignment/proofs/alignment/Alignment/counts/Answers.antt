use Rattle.std.proofs.Common.{ap}
use Rattle.alignment.specs.Counts.{table, counts_of}
use Rattle.alignment.proofs.Rows.{some_at_marks, p_is_small, q_is_small}
use Rattle.alignment.proofs.alignment.Alignment.counts.Goals as goal

pub returns-clause-counts : goal.returns-clause-counts
unfolding table
returns-clause-counts c = ap counts_of c.self.view_is

pub returns-clause-few_first : goal.returns-clause-few_first
unfolding table
returns-clause-few_first c = p_is_small c.self.inside.number c.self.invariant

pub returns-clause-few_second : goal.returns-clause-few_second
unfolding table
returns-clause-few_second c = q_is_small c.self.inside.number c.self.invariant

pub returns-clause-some_at_marks : goal.returns-clause-some_at_marks
unfolding table
returns-clause-some_at_marks c = some_at_marks c.self.inside.number c.self.invariant
