use Rattle.std.proofs.Common.{rules, ◌≡◌, ◌∙◌, ◌-◌, ap, sym, subst, FitsSigned}
use Rattle.std.specs.Prelude.{ℤ}
use Rattle.std.specs.Int.{w128}
use Rattle.std.proofs.lemmas.Int.{to_z-of_z}
use Rattle.elimination.specs.Combination.{combination_of}
use Rattle.elimination.specs.Working.{IsSmallCombination}
use Rattle.elimination.specs.Eliminated.{given_row}
use Rattle.elimination.proofs.Ending.{small_given}
use Rattle.elimination.proofs.combination.Sum.given.Goals as goal

pub invariant_of-result : goal.invariant_of-result
invariant_of-result c =
    let constant : ℤ = c.from.result in
    let fits : FitsSigned w128 constant = search rules in
    let is : combination_of c.from_vec.result c.from.result c.args.row.now.equality c.in_ok-multipliers.multipliers ≡ given_row c.args.before
    (c.args.count - c.args.before - 1) c.args.row.now = search rules in
    subst IsSmallCombination (sym (ap (λ (z : ℤ). combination_of c.from_vec.result z c.args.row.now.equality c.in_ok-multipliers.multipliers)
    (to_z-of_z w128 constant fits) ∙ is))
    (small_given c.args.before (c.args.count - c.args.before - 1) c.args.row.now c.requires.fits)
