use Rattle.std.proofs.Common.{◌∙◌, sym, ap, subst, map, List}
use Rattle.std.specs.Prelude.{position}
use Rattle.elimination.specs.Combination.{Combination}
use Rattle.elimination.specs.Column.{is_pivot, reduced}
use Rattle.elimination.specs.Outcome.{Joins}
use Rattle.elimination.proofs.Picking.{projected_pairs, projected_reduced}
use Rattle.elimination.proofs.column.eliminate_column.Goals as goal

pub returns-in-Some : goal.returns-in-Some
returns-in-Some c =
    let j = c.args.j in
    let old : List Combination = c.args.old.items in
    let pivot : Combination = c.remove-pivot.result in
    let place = c.pivot_place.ensures ∙ ap (λ (rows : List Combination). position (is_pivot j) rows) c.as_slice.ensures.value in
    let wanted = projected_reduced j old pivot c.pivot_place.result c.in-Some.at place c.in-Some.is c.remove-pivot.ensures.value
    ∙ ap (λ (rows : List Combination). map (reduced j pivot) rows) (sym c.remove-pivot.ensures.by_index.2) in
    subst (λ (rows : List Combination). Joins c.args.rows.now rows c.join_reduced.new.rows c.join_reduced.result) (sym wanted) c.join_reduced.ensures

pub returns-in-None : goal.returns-in-None
returns-in-None c =
    let j = c.args.j in
    let old : List Combination = c.args.old.items in
    let place = c.pivot_place.ensures ∙ ap (λ (rows : List Combination). position (is_pivot j) rows) c.as_slice.ensures.value in
    subst (λ (rows : List Combination). Joins c.args.rows.now rows c.join_by_pairs.new.rows c.join_by_pairs.result)
    (sym (projected_pairs j old c.pivot_place.result place c.in-None.is)) c.join_by_pairs.ensures
