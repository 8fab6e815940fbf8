use Rattle.std.proofs.Common.{◌≡◌, ◌+◌, ◌-◌, ◌++◌, List, sym, subst}
use Rattle.std.specs.Prelude.{ℤ}
use Rattle.lin_terms.specs.Vectors.{scaled}
use Rattle.elimination.specs.declared.multipliers.Multiplier.{Multiplier}
use Rattle.elimination.specs.Sparse.{table, IsRising}
use Rattle.elimination.proofs.Merging.{AreFittingEntries, fitting_behind}
use Rattle.elimination.proofs.Tables.{list_step, rising_step}
use Rattle.elimination.proofs.multipliers.scaled_list.Goals as goal

pub loop-row-preserved : goal.loop-row-preserved
loop-row-preserved c =
    let times : ℤ = c.args.times.now in
    let row = c.loop-row.row in
    let count = c.args.count in
    let left : List Multiplier = c.loop-row.left.now in
    let after : List ℤ = c.push_product.new.made.items in
    let behind = sym c.behind_row-left.ensures in
    record {
      all = subst (λ (rest : List Multiplier). after ++ scaled times (table (row + 1) (count - (row + 1)) rest) ≡ scaled times
          (table 0 count c.args.entries.now)) behind
          (list_step times row count left c.loop-row.made.items after
          (scaled times (table 0 count c.args.entries.now)) c.loop-row-test.true c.loop-row.invariant.rising c.loop-row.invariant.all
          c.in_ok-push_product.ensures);
      rising = subst (λ (rest : List Multiplier). IsRising (row + 1) count rest) behind
          (rising_step row count left c.loop-row-test.true c.loop-row.invariant.rising);
      fits = subst AreFittingEntries behind (fitting_behind row left c.loop-row.invariant.fits);
    }
