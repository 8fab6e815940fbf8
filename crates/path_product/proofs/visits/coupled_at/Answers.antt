use Rattle.std.specs.Prelude.{if◌then◌else◌}
use Rattle.std.proofs.lemmas.Result.{IfOk-weaker}
use Rattle.horn_clauses.specs.Node.{entries, is_same_node}
use Rattle.path_product.specs.Clauses.{no_rows}
use Rattle.path_product.proofs.Meeting.{coded_ends_are_met}
use Rattle.path_product.proofs.visits.coupled_at.Goals as goal

pub returns-clause-met : goal.returns-clause-met
returns-clause-met c =
    IfOk-weaker c.clauses_under.result _ _ (λ clauses made.
    coded_ends_are_met c.args.first.now c.args.second.now c.requires.first c.requires.second c.args.alignment
    (if is_same_node c.args.node entries then c.args.condition.now else no_rows) c.args.node c.requires.met c.moves-first_count.result
    c.moves-first_count.ensures.counts c.in_ok-left.left.items c.in_ok-right.right.items c.in_ok-left.ensures.cases c.in_ok-right.ensures.cases
    c.width_in.result c.width_in-2.result c.width_in.ensures c.width_in-2.ensures c.as_slice.result.now c.as_slice-2.result.now
    c.as_slice.ensures.value c.as_slice-2.ensures.value clauses.items made) c.clauses_under.ensures.clauses
