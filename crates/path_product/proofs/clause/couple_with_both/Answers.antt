use Rattle.std.proofs.Common.{map}
use Rattle.sym_paths.specs.declared.limit.PathLimit.{PathLimit}
use Rattle.sym_paths.specs.Walk.{Path}
use Rattle.sym_paths.specs.Nodes.{End}
use Rattle.path_product.specs.declared.side.SidePath.{SidePath}
use Rattle.path_product.specs.Coded.{path_of_side}
use Rattle.path_product.specs.Making.{second_walk}
use Rattle.path_product.proofs.Making.{mapped_turn_adds, mapped_turn_ends}
use Rattle.path_product.proofs.Refusing.{refused}
use Rattle.path_product.proofs.clause.couple_with_both.Goals as goal

pub returns-in_err-couple_with_second-clause-limit : goal.returns-in_err-couple_with_second-clause-limit
returns-in_err-couple_with_second-clause-limit c =
    let source = c.args.source.now in
    let walk = second_walk source.node source.first source.second (map path_of_side c.args.second.now) c.args.condition.now in
    refused _ PathLimit _ c.in_err-couple_with_second.field-0.0 c.from_residual.result _ c.from_residual.ensures.1 (λ other is. is)
    (mapped_turn_ends SidePath (Path End) path_of_side walk c.args.first.now c.loop-left.left-index c.left-item.result c.loop-left-test.true
    c.left-item.is c.args.clauses.now.items c.loop-left.clauses.items c.loop-left.invariant c.in_err-couple_with_second.field-0.0
    c.in_err-couple_with_second.ensures.limit)

pub loop-left-preserved : goal.loop-left-preserved
loop-left-preserved c =
    let source = c.args.source.now in
    let walk = second_walk source.node source.first source.second (map path_of_side c.args.second.now) c.args.condition.now in
    mapped_turn_adds SidePath (Path End) path_of_side walk c.args.first.now c.loop-left.left-index c.left-item.result c.loop-left-test.true
    c.left-item.is c.args.clauses.now.items c.loop-left.clauses.items c.loop-left.invariant c.couple_with_second.new.clauses.items
    c.in_ok-couple_with_second.ensures.joined
