use Rattle.std.proofs.Common.{rules, ◌≡◌, ◌∙◌, ap, sym, subst, FitsSigned}
use Rattle.std.specs.Prelude.{ℤ}
use Rattle.std.specs.Int.{w128}
use Rattle.std.proofs.lemmas.Int.{to_z-of_z}
use Rattle.elimination.specs.Combination.{combination_of}
use Rattle.elimination.specs.Working.{IsSmallCombination}
use Rattle.elimination.specs.Joining.{divided}
use Rattle.elimination.proofs.Sizes.{small_divided}
use Rattle.elimination.proofs.combination.Sum.over.Goals as goal

pub invariant_of-result : goal.invariant_of-result
invariant_of-result c =
    let constant : ℤ = c.div_euclid.result in
    let fits : FitsSigned w128 constant = search rules in
    let is : combination_of c.from_vec.result c.div_euclid.result c.self.inside.equality c.in_ok-multipliers.multipliers ≡ divided c.args.divisor
    c.args.self.now = search rules in
    subst IsSmallCombination (sym (ap (λ (z : ℤ). combination_of c.from_vec.result z c.self.inside.equality c.in_ok-multipliers.multipliers)
    (to_z-of_z w128 constant fits) ∙ is))
    (small_divided c.args.divisor c.args.self.now c.requires.positive (subst IsSmallCombination c.self.view_is c.self.invariant))
