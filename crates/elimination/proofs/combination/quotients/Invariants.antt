use Rattle.std.proofs.Common.{◌≡◌, map, take}
use Rattle.std.specs.Int.{int_div_euclid}
use Rattle.elimination.proofs.combination.quotients.Given as goal

abbrev pub invariant-loop-number : goal.invariant-loop-number
invariant-loop-number l = l.made.items ≡ map (λ x. int_div_euclid x l.divisor) (take l.number-index l.numbers)
