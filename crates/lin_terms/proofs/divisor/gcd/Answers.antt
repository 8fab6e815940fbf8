use Rattle.std.proofs.Common.{◌≡◌, rules, sym, subst}
use Rattle.std.specs.Int.{IsGcd}
use Rattle.std.proofs.lemmas.Nat.Gcd.{IsGcd-from_zero, IsGcd-from_mod, same_from_IsGcd}
use Rattle.lin_terms.specs.Divisor.{gcd}
use Rattle.lin_terms.proofs.Divisors.{gcd_is, one_is, gcd_one}
use Rattle.lin_terms.proofs.divisor.gcd.Goals as goal

pub returns-then-a-eq1-clause-exact : goal.returns-then-a-eq1-clause-exact
returns-then-a-eq1-clause-exact c =
    let one : c.args.a ≡ 1 = search rules in subst (λ a. 1 ≡ gcd a c.args.b) (sym one) (sym (gcd_one c.args.b))

pub returns-then-a-eq1-clause-greatest : goal.returns-then-a-eq1-clause-greatest
returns-then-a-eq1-clause-greatest c =
    let one : c.args.a ≡ 1 = search rules in subst (λ a. IsGcd a c.args.b 1) (sym one) (one_is c.args.b)

pub loop-b-preserved : goal.loop-b-preserved
loop-b-preserved c = λ g h. c.loop-b.invariant g (IsGcd-from_mod c.loop-b.a c.loop-b.b g h)

pub returns-clause-greatest : goal.returns-clause-greatest
returns-clause-greatest c =
    let ended : c.loop-b.b ≡ 0 = search rules in
    c.loop-b.invariant c.loop-b.a (IsGcd-from_zero c.loop-b.a c.loop-b.b ended)

pub returns-clause-exact : goal.returns-clause-exact
returns-clause-exact c =
    let ended : c.loop-b.b ≡ 0 = search rules in
    same_from_IsGcd c.args.a c.args.b c.loop-b.a (gcd c.args.a c.args.b) (c.loop-b.invariant c.loop-b.a (IsGcd-from_zero c.loop-b.a c.loop-b.b ended))
    (gcd_is c.args.a c.args.b)
