use Rattle.std.proofs.Common.{◌∙◌, ◌+◌, ◌<◌, List, [], ◌∷◌, length, sym, ap, arith}
use Rattle.horn_clauses.specs.declared.node.Node.{Node}
use Rattle.horn_clauses.specs.Node.{entries}
use Rattle.path_product.specs.declared.limit.ProductLimit.{ProductLimit}
use Rattle.path_product.specs.Product.{all_nodes}
use Rattle.path_product.specs.Queue.{met_with}
use Rattle.path_product.proofs.Refusing.{refused}
use Rattle.path_product.proofs.UnderWay.{under_way_at_first, next_is_met, work_fails, work_goes_on, left_to_take, product_is, under_way_as}
use Rattle.path_product.proofs.visits.product_over.Goals as goal

pub loop-node-init : goal.loop-node-init
loop-node-init c =
    under_way_as c.args.first.now c.args.second.now c.args.condition.now c.args.alignment (entries ∷ []) c.join.new.self 0 [] c.new-clauses.result.items
    (c.in_ok-join.ensures ∙ ap (λ (met : List Node). met_with met entries) c.new-queue.ensures) c.new-clauses.ensures.items
    (under_way_at_first c.args.first.now c.args.second.now c.args.condition.now c.args.alignment c.requires.first c.requires.second)

pub clauses_at-requires-clause-met : goal.clauses_at-requires-clause-met
clauses_at-requires-clause-met c =
    next_is_met c.args.first.now c.args.second.now c.args.condition.now c.args.alignment c.loop-node.queue c.loop-node.count c.loop-node.clauses.items
    c.loop-node.invariant c.in-Some.node (sym c.at.ensures.node ∙ c.in-Some.is)

pub returns-in_err-made-clause-limit : goal.returns-in_err-made-clause-limit
returns-in_err-made-clause-limit c =
    refused _ ProductLimit _ c.in_err-made.field-0.0 c.from_residual-in_err-made.result _ c.from_residual-in_err-made.ensures.1 (λ other is. is)
    (work_fails c.args.first.now c.args.second.now c.args.condition.now c.args.alignment c.loop-node.queue c.loop-node.count c.loop-node.clauses.items
    c.loop-node.invariant c.in-Some.node (sym c.at.ensures.node ∙ c.in-Some.is) c.in_err-made.field-0.0 c.in_err-made.ensures.limit)

pub loop-node-smaller : goal.loop-node-smaller
loop-node-smaller c =
    let left : c.loop-node.count < length (all_nodes c.args.first.now c.args.second.now) =
    left_to_take c.args.first.now c.args.second.now c.args.condition.now c.args.alignment c.loop-node.queue c.loop-node.count c.loop-node.clauses.items
    c.loop-node.invariant c.in-Some.node (sym c.at.ensures.node ∙ c.in-Some.is) in
    omega (arith, left)

pub loop-node-preserved : goal.loop-node-preserved
loop-node-preserved c =
    under_way_as c.args.first.now c.args.second.now c.args.condition.now c.args.alignment _ c.take.new.queue (c.loop-node.count + 1) _
    c.take.new.clauses.items c.in_ok-take.ensures.queue c.in_ok-take.ensures.clauses
    (work_goes_on c.args.first.now c.args.second.now c.args.condition.now c.args.alignment c.loop-node.queue c.loop-node.count c.loop-node.clauses.items
    c.loop-node.invariant c.in-Some.node (sym c.at.ensures.node ∙ c.in-Some.is) c.in_ok-made.made.items c.in_ok-made.ensures.clauses
    c.in_ok-made.ensures.met)

pub returns-clause-product : goal.returns-clause-product
returns-clause-product c =
    product_is c.args.first.now c.args.second.now c.args.condition.now c.args.alignment c.loop-node.queue c.loop-node.count c.loop-node.clauses.items
    c.loop-node.invariant (λ n at. c.in_default.not-Some n (c.at.ensures.node ∙ at)) c.from_vec.result c.from_vec-2.result
    (c.from_vec.ensures ∙ c.in_ok-nodes.ensures) c.from_vec-2.ensures
