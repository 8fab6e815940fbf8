use Rattle.std.proofs.Common.{◌≡◌, take, map}
use Rattle.lin_terms.specs.Divisor.{floor_div}
use Rattle.lin_terms.proofs.row.quotients.Given as goal

abbrev pub invariant-loop-x : goal.invariant-loop-x
invariant-loop-x l = l.made.items ≡ map (λ x. floor_div x l.divisor) (take l.x-index l.xs)
