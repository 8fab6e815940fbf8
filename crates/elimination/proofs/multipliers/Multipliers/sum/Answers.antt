use Rattle.std.proofs.Common.{arith, List, sym, subst, ◌∙◌, ap}
use Rattle.elimination.specs.declared.multipliers.Multiplier.{Multiplier}
use Rattle.elimination.specs.Sparse.{table, IsRising}
use Rattle.elimination.proofs.Merging.{AreFittingEntries, rising_higher}
use Rattle.elimination.proofs.Tables.{fitting_entries}
use Rattle.elimination.proofs.Weighted.{table-sum}
use Rattle.elimination.proofs.multipliers.Multipliers.sum.Goals as goal

pub sum_of_entries-requires-clause-ps_fits : goal.sum_of_entries-requires-clause-ps_fits
sum_of_entries-requires-clause-ps_fits c =
    subst AreFittingEntries (sym c.as_slice.ensures)
    (fitting_entries c.first.inside.count c.first.inside.entries c.args.first.now c.first.invariant c.first.view_is c.requires.first_fits)

pub sum_of_entries-requires-clause-qs_fits : goal.sum_of_entries-requires-clause-qs_fits
sum_of_entries-requires-clause-qs_fits c =
    subst AreFittingEntries (sym c.as_slice-2.ensures)
    (fitting_entries c.second.inside.count c.second.inside.entries c.args.second.now c.second.invariant c.second.view_is c.requires.second_fits)

pub sum_of_entries-requires-clause-ps_rising : goal.sum_of_entries-requires-clause-ps_rising
sum_of_entries-requires-clause-ps_rising c =
    subst (IsRising 0 c.max-count.result) (sym c.as_slice.ensures)
    (rising_higher 0 c.first.inside.count c.max-count.result c.first.inside.entries c.first.invariant (omega (arith, c.max-count.ensures)))

pub sum_of_entries-requires-clause-qs_rising : goal.sum_of_entries-requires-clause-qs_rising
sum_of_entries-requires-clause-qs_rising c =
    subst (IsRising 0 c.max-count.result) (sym c.as_slice-2.ensures)
    (rising_higher 0 c.second.inside.count c.max-count.result c.second.inside.entries c.second.invariant (omega (arith, c.max-count.ensures)))

pub returns : goal.returns
returns c =
    let ps : List Multiplier = c.as_slice.result.now in
    let qs : List Multiplier = c.as_slice-2.result.now in
    let n = c.first.inside.count in
    let m = c.second.inside.count in
    ap (λ (entries : List Multiplier). table 0 c.max-count.result entries) c.from_vec.ensures
    ∙ table-sum c.args.weights.now.first c.args.weights.now.second n m c.max-count.result c.in_ok-entries.entries.items ps qs c.args.first.now c.args.second.now
    c.max-count.ensures c.in_ok-entries.ensures.sums
    (subst (IsRising 0 n) (sym c.as_slice.ensures) c.first.invariant) (subst (IsRising 0 m) (sym c.as_slice-2.ensures) c.second.invariant)
    (ap (λ (entries : List Multiplier). table 0 n entries) c.as_slice.ensures ∙ c.first.view_is)
    (ap (λ (entries : List Multiplier). table 0 m entries) c.as_slice-2.ensures ∙ c.second.view_is)
