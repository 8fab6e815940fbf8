use Rattle.std.proofs.Common.{rules, arith, ◌<◌, ◌++◌, ◌∷◌, [], max, length, ◌∙◌, ap, List, FitsSigned}
use Rattle.std.specs.Prelude.{ℤ}
use Rattle.std.specs.Int.{w128}
use Rattle.std.proofs.lemmas.Int.{to_z-of_z}
use Rattle.lin_terms.specs.Vectors.{plus, scaled}
use Rattle.elimination.proofs.Weighted.{sums_step}
use Rattle.elimination.proofs.combination.weighted_sums.Goals as goal

pub loop-i-preserved : goal.loop-i-preserved
loop-i-preserved c =
    let k : ℤ = c.args.weights.now.first in
    let l : ℤ = c.args.weights.now.second in
    let xs : List ℤ = c.args.xs.now in
    let ys : List ℤ = c.args.ys.now in
    let entry : ℤ = c.weighted_sum.result in
    let fits : FitsSigned w128 entry = search rules in
    let inside : c.loop-i.i < max (length xs) (length ys) = omega (arith, c.max-count.ensures) in
    sums_step k l xs ys c.loop-i.made.items c.push.new.self.items
    (plus (scaled k xs) (scaled l ys)) c.loop-i.i c.number_at.result.now c.number_at-in-loop-i.result.now entry inside
    c.number_at.ensures.number c.number_at-in-loop-i.ensures.number c.weighted_sum.ensures c.loop-i.invariant
    (c.in_ok-push.ensures.items ∙ ap (λ (v : ℤ). c.loop-i.made.items ++ v ∷ []) (to_z-of_z w128 entry fits))
