use Rattle.std.proofs.Common.{◌∙◌}
use Rattle.c_ast.specs.declared.place.Place.TheVariants as place
use Rattle.path_product.specs.Queue.{is_listed}
use Rattle.path_product.proofs.UnderWay.{rows_next}
use Rattle.path_product.proofs.visits.push_rows.Goals as goal

pub loop-place-preserved : goal.loop-place-preserved
loop-place-preserved c =
    rows_next (is_listed c.args.queue.now) c.args.first.now c.args.second.now c.loop-place.place-index place.Entry c.loop-place.nodes.items
    c.push_row.new.nodes.items c.loop-place-test.true c.in_ok-push_row.ensures
    ∙ c.loop-place.invariant
