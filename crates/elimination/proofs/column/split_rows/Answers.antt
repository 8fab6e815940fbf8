use Rattle.std.proofs.Common.{rules, ◌∙◌, sym, ap, List, ◌++◌, ◌∷◌, []}
use Rattle.std.proofs.lemmas.Iterator.Adapters.{YieldsList-from_vec}
use Rattle.std.proofs.lemmas.List.Elements.{filter-append}
use Rattle.elimination.specs.Combination.{Combination, entry, is_zero, is_positive, is_negative}
use Rattle.elimination.specs.Column.{without, lower_bounds, upper_bounds}
use Rattle.elimination.proofs.Stepping.{yielded_all}
use Rattle.elimination.proofs.column.split_rows.Goals as goal

pub loop-row-preserved : goal.loop-row-preserved
loop-row-preserved c =
    let j = c.args.j in
    let xs : List Combination = c.loop-row.yielded in
    let one : List Combination = c.in-Some.row ∷ [] in
    let so_far = c.loop-row.invariant in
    let added = c.in_ok-add.ensures in
    record {
      without = added.without ∙ ap (λ (t : List Combination). t ++ without j one) so_far.without
          ∙ sym (filter-append (λ (r : Combination). is_zero (entry j r)) xs one);
      lower = added.lower ∙ ap (λ (t : List Combination). t ++ lower_bounds j one) so_far.lower
          ∙ sym (filter-append (λ (r : Combination). is_positive (entry j r)) xs one);
      upper = added.upper ∙ ap (λ (t : List Combination). t ++ upper_bounds j one) so_far.upper
          ∙ sym (filter-append (λ (r : Combination). is_negative (entry j r)) xs one);
    }

pub returns-clause-without : goal.returns-clause-without
returns-clause-without c =
    let road = YieldsList-from_vec {s = c.into_iter-row-iterator.result} c.args.rows.items (search rules) (search rules) in
    let all = yielded_all road c.loop-row.yielded c.loop-row.row-iterator c.loop-row.yielded_by c.next.result c.next.new.self c.in-None.is c.next.ensures.steps
    in
    c.loop-row.invariant.without ∙ ap (without c.args.j) all

pub returns-clause-lower : goal.returns-clause-lower
returns-clause-lower c =
    let road = YieldsList-from_vec {s = c.into_iter-row-iterator.result} c.args.rows.items (search rules) (search rules) in
    let all = yielded_all road c.loop-row.yielded c.loop-row.row-iterator c.loop-row.yielded_by c.next.result c.next.new.self c.in-None.is c.next.ensures.steps
    in
    c.loop-row.invariant.lower ∙ ap (lower_bounds c.args.j) all

pub returns-clause-upper : goal.returns-clause-upper
returns-clause-upper c =
    let road = YieldsList-from_vec {s = c.into_iter-row-iterator.result} c.args.rows.items (search rules) (search rules) in
    let all = yielded_all road c.loop-row.yielded c.loop-row.row-iterator c.loop-row.yielded_by c.next.result c.next.new.self c.in-None.is c.next.ensures.steps
    in
    c.loop-row.invariant.upper ∙ ap (upper_bounds c.args.j) all
