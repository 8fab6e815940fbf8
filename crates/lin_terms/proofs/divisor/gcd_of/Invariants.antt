use Rattle.std.proofs.Common.{◌≡◌, ◌<◌, ◌^◌, drop}
use Rattle.lin_terms.specs.Divisor.{gcd_with, gcd_of}
use Rattle.lin_terms.proofs.divisor.gcd_of.Given as goal

abbrev pub invariant-loop-x : goal.invariant-loop-x
invariant-loop-x l = record {
  exact : gcd_with l.g (drop l.x-index l.xs) ≡ gcd_of l.xs;
  small : l.g < 2 ^ 64;
}
