use Rattle.std.proofs.Common.{◌+◌, ◌+ℤ◌, ◌*ℤ◌, All, length}
use Rattle.lin_terms.specs.Bounds.{FitsRow}
use Rattle.elimination.specs.Sparse.{at}
use Rattle.elimination.proofs.Merging.{IsMerging}
use Rattle.elimination.proofs.multipliers.sum_of_entries.Given as goal

abbrev pub invariant-loop-ps_left : goal.invariant-loop-ps_left
invariant-loop-ps_left l = record {
  merging : IsMerging l.weights.first l.weights.second l.count
      (λ row. (l.weights.first *ℤ at l.ps row) +ℤ (l.weights.second *ℤ at l.qs row)) l.made.items l.ps_left l.qs_left;
  ps_fits : All (λ entry. FitsRow entry.value) l.ps_left;
  qs_fits : All (λ entry. FitsRow entry.value) l.qs_left;
}

abbrev pub decreases-loop-ps_left : goal.decreases-loop-ps_left
decreases-loop-ps_left l = length l.ps_left + length l.qs_left
