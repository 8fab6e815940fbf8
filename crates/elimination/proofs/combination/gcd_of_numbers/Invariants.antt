use Rattle.std.proofs.Common.{◌≡◌, drop}
use Rattle.lin_terms.specs.Divisor.{gcd_with}
use Rattle.elimination.proofs.combination.gcd_of_numbers.Given as goal

abbrev pub invariant-loop-number : goal.invariant-loop-number
invariant-loop-number l = gcd_with l.g (drop l.number-index l.numbers) ≡ gcd_with l.start l.numbers
