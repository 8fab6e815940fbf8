use Rattle.c_ast.specs.View.{statements_of}
use Rattle.flow_graph.proofs.Growing.{head_within}
use Rattle.flow_graph.proofs.layout.+laying.Goals as goal

pub lay_one-fill-requires-clause-within : goal.lay_one-fill-requires-clause-within
lay_one-fill-requires-clause-within t c =
    head_within _ _ _ _ (statements_of c.as_slice-in-Loop-2.result.now)
    (statements_of c.as_slice-in-Loop.result.now) _ _ _ c.args.next c.args.out c.args.again c.in_ok-head-in-Loop.ensures.added
    c.in_ok-tail-in-Loop.ensures.laid c.in_ok-inner-in-Loop.ensures.laid
