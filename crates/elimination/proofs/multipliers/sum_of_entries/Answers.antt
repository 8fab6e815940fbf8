use Rattle.std.proofs.Common.{rules, ◌≡◌, ◌≢◌, ◌⊎◌, inl, inr, ℕ, [], List, sym, subst, length, FitsSigned}
use Rattle.std.specs.Prelude.{ℤ, ◌+ℤ◌, ◌*ℤ◌}
use Rattle.std.specs.Int.{w128}
use Rattle.std.proofs.lemmas.Int.{to_z-of_z}
use Rattle.elimination.specs.declared.multipliers.Multiplier.{Multiplier}
use Rattle.elimination.specs.Sparse.{at, behind_row, IsAdded}
use Rattle.elimination.proofs.Merging.{next_row, shorter, IsMerging, merging_step, merging_ends, AreFittingEntries, fitting_behind}
use Rattle.elimination.proofs.multipliers.sum_of_entries.Goals as goal
use Rattle.elimination.proofs.multipliers.sum_of_entries.Goals.{then-not-is_empty, else-not-is_empty+then-not-is_empty-2}

pub loop-ps_left-smaller : goal.loop-ps_left-smaller
loop-ps_left-smaller c =
    let ps : List Multiplier = c.loop-ps_left.ps_left.now in
    let qs : List Multiplier = c.loop-ps_left.qs_left.now in
    let some : (ps ≢ []) ⊎ (qs ≢ []) = elim c.if-not-is_empty.branch
    [ then-not-is_empty w ↦ inl (search rules) | else-not-is_empty+then-not-is_empty-2 w ↦ inr (search rules) ] in
    let merging = c.loop-ps_left.invariant.merging in
    let row : c.min-row.result ≡ next_row c.args.count ps qs = search rules in
    rw (c.behind_row-ps_left.ensures, c.behind_row-qs_left.ensures)
    (shorter merging.from c.args.count c.min-row.result ps qs row merging.ps_rising merging.qs_rising some)

pub loop-ps_left-preserved : goal.loop-ps_left-preserved
loop-ps_left-preserved c =
    let k : ℤ = c.args.weights.now.first in
    let l : ℤ = c.args.weights.now.second in
    let count = c.args.count in
    let ps : List Multiplier = c.loop-ps_left.ps_left.now in
    let qs : List Multiplier = c.loop-ps_left.qs_left.now in
    let made : List Multiplier = c.loop-ps_left.made.items in
    let after : List Multiplier = c.add_entry.new.made.items in
    let n = c.min-row.result in
    let target : ℕ → ℤ = λ row. (k *ℤ at c.args.ps.now row) +ℤ (l *ℤ at c.args.qs.now row) in
    let some : (ps ≢ []) ⊎ (qs ≢ []) = elim c.if-not-is_empty.branch
    [ then-not-is_empty w ↦ inl (search rules) | else-not-is_empty+then-not-is_empty-2 w ↦ inr (search rules) ] in
    let row : n ≡ next_row count ps qs = search rules in
    let value : ℤ = c.front_sum-value.result in
    let fits : FitsSigned w128 value = record { sfits = c.front_sum-value.type_inv } in
    let added = subst (λ v. IsAdded n v made after) (to_z-of_z w128 value fits) c.in_ok-add_entry.ensures in
    let step = merging_step k l count n target made after ps qs value c.loop-ps_left.invariant.merging row some c.front_sum-value.ensures added in
    record {
      merging = subst (IsMerging k l count target after c.behind_row-ps_left.result.now) (sym c.behind_row-qs_left.ensures)
          (subst (λ rest. IsMerging k l count target after rest (behind_row n qs)) (sym c.behind_row-ps_left.ensures) step);
      ps_fits = subst AreFittingEntries (sym c.behind_row-ps_left.ensures) (fitting_behind n ps c.loop-ps_left.invariant.ps_fits);
      qs_fits = subst AreFittingEntries (sym c.behind_row-qs_left.ensures) (fitting_behind n qs c.loop-ps_left.invariant.qs_fits);
    }

pub returns-clause-rising : goal.returns-clause-rising
returns-clause-rising c =
    let ps_end : length c.loop-ps_left.ps_left.now ≡ 0 = search rules in
    let qs_end : length c.loop-ps_left.qs_left.now ≡ 0 = search rules in
    (merging_ends _ _ c.args.count _ c.loop-ps_left.made.items c.loop-ps_left.ps_left.now c.loop-ps_left.qs_left.now ps_end qs_end
    c.loop-ps_left.invariant.merging).0

pub returns-clause-sums : goal.returns-clause-sums
returns-clause-sums c =
    let ps_end : length c.loop-ps_left.ps_left.now ≡ 0 = search rules in
    let qs_end : length c.loop-ps_left.qs_left.now ≡ 0 = search rules in
    (merging_ends _ _ c.args.count _ c.loop-ps_left.made.items c.loop-ps_left.ps_left.now c.loop-ps_left.qs_left.now ps_end qs_end
    c.loop-ps_left.invariant.merging).1
