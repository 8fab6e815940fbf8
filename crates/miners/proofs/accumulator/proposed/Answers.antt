use Rattle.std.proofs.Common.{◌++◌, ◌∙◌, ap, map, flat_map}
use Rattle.miners.specs.Mined.{equality_of}
use Rattle.miners.specs.Sparse.{coefs_of}
use Rattle.miners.specs.Kept.{sum_at, least_at}
use Rattle.miners.proofs.Leaving.{sums_are_least, first_held}
use Rattle.miners.proofs.accumulator.proposed.Goals as goal

pub invariant_of-result : goal.invariant_of-result
invariant_of-result c = record {
  narrow = c.requires.narrow;
  fixed = c.in_ok-fixed.ensures.fixed;
  least = rw c.in_ok-least.ensures (sums_are_least c.of-point.result c.as_slice-2.result.now);
}

pub returns-clause-left : goal.returns-clause-left
returns-clause-left c = λ constants.
    first_held constants c.args.node c.args.width (c.args.first.now ++ c.args.second.now) c.of-point.result c.in_ok-equalities.equalities.items
    c.in_ok-bounds.bounds.items c.in_ok-fixed.fixed.items c.in_ok-least.least.items c.requires.all c.of-point.ensures
    c.in_ok-equalities.ensures c.in_ok-bounds.ensures
    (c.in_ok-fixed.ensures.atoms c.args.width
    ∙ ap (flat_map (λ shape. equality_of (coefs_of c.args.width shape) (sum_at shape c.of-point.result))) c.as_slice.ensures.value)
    (c.in_ok-least.ensures ∙ ap (map (least_at c.of-point.result)) c.as_slice-2.ensures.value)
