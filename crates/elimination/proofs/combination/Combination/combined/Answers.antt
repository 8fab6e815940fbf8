use Rattle.std.proofs.Common.{rules, ◌≡◌, ◌∙◌, ap, sym, subst, FitsSigned}
use Rattle.std.specs.Prelude.{ℤ}
use Rattle.std.specs.Int.{w128}
use Rattle.std.proofs.lemmas.Int.{to_z-of_z}
use Rattle.elimination.specs.Combination.{combination_of, combined}
use Rattle.elimination.specs.Working.{IsSmallCombination, IsFittingCombination}
use Rattle.elimination.proofs.Sizes.{small_combined}
use Rattle.elimination.proofs.combination.Combination.combined.Goals as goal

pub invariant_of-result : goal.invariant_of-result
invariant_of-result c =
    let constant : ℤ = c.weighted_sum.result in
    let fits : FitsSigned w128 constant = search rules in
    let is : combination_of c.from_vec.result c.weighted_sum.result c.self.inside.equality c.in_ok-multipliers.multipliers ≡ combined c.args.weights.now.first
    c.args.self.now c.args.weights.now.second c.args.second.now = search rules in
    subst IsSmallCombination (sym (ap (λ (z : ℤ). combination_of c.from_vec.result z c.self.inside.equality c.in_ok-multipliers.multipliers)
    (to_z-of_z w128 constant fits) ∙ is))
    (small_combined c.args.weights.now.first c.args.self.now c.args.weights.now.second c.args.second.now c.args.weights.now.first_fits
    c.args.weights.now.second_fits
    (subst IsFittingCombination c.self.view_is c.self.invariant) (subst IsFittingCombination c.second.view_is c.second.invariant))
