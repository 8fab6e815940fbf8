use Rattle.std.proofs.Common.{◌≡◌, ◌<◌, ◌^◌, sym, subst, arith}
use Rattle.std.proofs.lemmas.Grind.{common_steps}
use Rattle.lin_terms.specs.Divisor.{gcd_of, IsGcdOf}
use Rattle.lin_terms.proofs.Divisors.{gcd_of_is, gcd_below}
use Rattle.lin_terms.proofs.divisor.gcd_of.Goals as goal

pub loop-x-preserved : goal.loop-x-preserved
loop-x-preserved c =
    let size : c.from.result < 2 ^ 64 = omega (arith, c.from.ensures, c.unsigned_abs.type_inv) in
    record {
      exact = grind (arith, common_steps);
      small = subst (λ g. g < 2 ^ 64) (sym c.gcd-g.ensures.exact) (gcd_below (2 ^ 64) c.loop-x.g c.from.result c.loop-x.invariant.small size);
    }

pub returns-clause-greatest : goal.returns-clause-greatest
returns-clause-greatest c =
    let exact : c.loop-x.g ≡ gcd_of c.args.xs.now = grind (arith, common_steps) in
    subst (λ g. IsGcdOf g c.args.xs.now) (sym exact) (gcd_of_is c.args.xs.now)
