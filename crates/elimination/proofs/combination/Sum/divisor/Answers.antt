use Rattle.std.proofs.Common.{rules, ◌∙◌, ◌∷◌, ap, subst, List, FitsSigned}
use Rattle.std.specs.Prelude.{ℤ, unsigned_abs}
use Rattle.std.specs.Int.{w128}
use Rattle.std.proofs.lemmas.Int.{to_z-of_z}
use Rattle.lin_terms.specs.Divisor.{gcd, gcd_of, gcd_with}
use Rattle.elimination.specs.Combination.{Combination}
use Rattle.elimination.specs.Joining.{numbers_of}
use Rattle.elimination.specs.Working.{IsSmallCombination}
use Rattle.elimination.proofs.combination.Sum.divisor.Goals as goal
use Rattle.elimination.proofs.Gcds.{divisor_below}

pub returns-clause-divisor : goal.returns-clause-divisor
returns-clause-divisor c =
    let constant : ℤ = c.self.inside.constant in
    let coefs : List ℤ = c.self.inside.coefs in
    let fits : FitsSigned w128 constant = search rules in
    let start = c.gcd_of_numbers-coefs.ensures
    ∙ ap (λ (xs : List ℤ). gcd_with c.gcd-constant.result xs) c.as_slice.ensures
    ∙ ap (λ g. gcd_with g coefs) c.gcd-constant.ensures.exact
    ∙ ap (λ n. gcd_with (gcd 0 n) coefs) (c.unsigned_abs.ensures.value ∙ ap unsigned_abs (to_z-of_z w128 constant fits)) in
    c.gcd_with.ensures (constant ∷ coefs) start ∙ ap (λ (row : Combination). gcd_of (numbers_of row)) c.self.view_is

pub returns-clause-small : goal.returns-clause-small
returns-clause-small c =
    divisor_below c.args.self.now c.gcd_with.result (returns-clause-divisor c) (subst IsSmallCombination c.self.view_is c.self.invariant)
