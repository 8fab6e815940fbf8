use Rattle.std.proofs.Common.{◌≡◌, ◌++◌, drop}
use Rattle.lin_terms.specs.Vectors.{plus, scaled}
use Rattle.elimination.proofs.combination.weighted_sums.Given as goal

abbrev pub invariant-loop-i : goal.invariant-loop-i
invariant-loop-i l =
    l.made.items ++ plus (scaled l.weights.first (drop l.i l.xs)) (scaled l.weights.second (drop l.i l.ys)) ≡ plus (scaled l.weights.first l.xs)
    (scaled l.weights.second l.ys)
