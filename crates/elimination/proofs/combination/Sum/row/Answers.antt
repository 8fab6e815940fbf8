use Rattle.std.proofs.Common.{rules, ◌∙◌, ap, sym, FitsSigned, Some}
use Rattle.std.specs.Prelude.{ℤ}
use Rattle.std.specs.Int.{w128}
use Rattle.std.proofs.lemmas.Int.{to_z-of_z}
use Rattle.elimination.specs.Combination.{Combination, combination_of}
use Rattle.elimination.proofs.Places.{some_row}
use Rattle.elimination.proofs.combination.Sum.row.Goals as goal

pub returns : goal.returns
returns c =
    let constant : ℤ = c.self.inside.constant in
    let fits : FitsSigned w128 constant = search rules in
    ap (λ (z : ℤ). Some (combination_of c.self.inside.coefs z c.self.inside.equality c.self.inside.multipliers)) (to_z-of_z w128 constant fits)
    ∙ ap (λ (row : Combination). Some row) c.self.view_is
    ∙ sym (some_row c.args.self c.fits.result c.fits.ensures c.if-not-fits.false)
