use Rattle.std.proofs.Common.{[], List, map}
use Rattle.lin_terms.specs.declared.row.Row.{Row}
use Rattle.sym_paths.specs.declared.limit.PathLimit.{PathLimit}
use Rattle.path_product.specs.Compose.{each}
use Rattle.path_product.specs.Coded.{path_of_side}
use Rattle.path_product.specs.Making.{both_walk}
use Rattle.path_product.proofs.Making.{turn_adds, turn_ends, limit_met, all_turned}
use Rattle.path_product.proofs.Refusing.{refused}
use Rattle.path_product.proofs.clause.clauses_of.Goals as goal

pub returns-in_err-couple_with_both-clause-limit : goal.returns-in_err-couple_with_both-clause-limit
returns-in_err-couple_with_both-clause-limit c =
    let source = c.args.source.now in
    let walk = both_walk source.node source.first source.second (map path_of_side c.args.first.now) (map path_of_side c.args.second.now) in
    refused _ PathLimit _ c.in_err-couple_with_both.field-0.0 c.from_residual.result _ c.from_residual.ensures.1 (λ other is. is)
    (limit_met (each c.args.conditions.now walk) c.in_err-couple_with_both.field-0.0
    (turn_ends (List Row) walk c.args.conditions.now c.loop-condition.condition-index c.condition-item.result c.loop-condition-test.true
    c.condition-item.is [] c.loop-condition.clauses.items c.loop-condition.invariant c.in_err-couple_with_both.field-0.0
    (rw c.as_slice.ensures at c.in_err-couple_with_both.ensures.limit)))

pub loop-condition-preserved : goal.loop-condition-preserved
loop-condition-preserved c =
    let source = c.args.source.now in
    let walk = both_walk source.node source.first source.second (map path_of_side c.args.first.now) (map path_of_side c.args.second.now) in
    turn_adds (List Row) walk c.args.conditions.now c.loop-condition.condition-index c.condition-item.result c.loop-condition-test.true
    c.condition-item.is [] c.loop-condition.clauses.items c.loop-condition.invariant c.couple_with_both.new.clauses.items
    (rw c.as_slice.ensures at c.in_ok-couple_with_both.ensures.joined)

pub returns-clause-clauses : goal.returns-clause-clauses
returns-clause-clauses c =
    let source = c.args.source.now in
    let walk = both_walk source.node source.first source.second (map path_of_side c.args.first.now) (map path_of_side c.args.second.now) in
    all_turned (List Row) walk c.args.conditions.now c.loop-condition.condition-index c.loop-condition.clauses.items c.loop-condition-test.false
    c.loop-condition.invariant
