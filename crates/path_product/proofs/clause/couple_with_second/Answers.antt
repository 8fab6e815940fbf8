use Rattle.sym_paths.specs.declared.limit.PathLimit.{PathLimit}
use Rattle.sym_paths.specs.Walk.{Path}
use Rattle.sym_paths.specs.Nodes.{End}
use Rattle.path_product.specs.declared.side.SidePath.{SidePath}
use Rattle.path_product.specs.Clauses.{coupled_walk}
use Rattle.path_product.specs.Coded.{path_of_side}
use Rattle.path_product.proofs.Making.{mapped_turn_adds, mapped_turn_ends}
use Rattle.path_product.proofs.Refusing.{refused}
use Rattle.path_product.proofs.clause.couple_with_second.Goals as goal

pub returns-in_err-couple-clause-limit : goal.returns-in_err-couple-clause-limit
returns-in_err-couple-clause-limit c =
    let source = c.args.source.now in
    let walk = coupled_walk source.node source.first source.second c.args.condition.now (path_of_side c.args.left.now) in
    refused _ PathLimit _ c.in_err-couple.field-0.0 c.from_residual.result _ c.from_residual.ensures.1 (λ other is. is)
    (mapped_turn_ends SidePath (Path End) path_of_side walk c.args.second.now c.loop-right.right-index c.right-item.result c.loop-right-test.true
    c.right-item.is c.args.clauses.now.items c.loop-right.clauses.items c.loop-right.invariant c.in_err-couple.field-0.0 c.in_err-couple.ensures.limit)

pub loop-right-preserved : goal.loop-right-preserved
loop-right-preserved c =
    let source = c.args.source.now in
    let walk = coupled_walk source.node source.first source.second c.args.condition.now (path_of_side c.args.left.now) in
    mapped_turn_adds SidePath (Path End) path_of_side walk c.args.second.now c.loop-right.right-index c.right-item.result c.loop-right-test.true
    c.right-item.is c.args.clauses.now.items c.loop-right.clauses.items c.loop-right.invariant c.couple.new.clauses.items c.in_ok-couple.ensures.joined
