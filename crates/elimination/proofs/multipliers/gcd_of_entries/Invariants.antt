use Rattle.std.proofs.Common.{◌≡◌, map, drop}
use Rattle.lin_terms.specs.Divisor.{gcd_with}
use Rattle.elimination.proofs.multipliers.gcd_of_entries.Given as goal

abbrev pub invariant-loop-entry : goal.invariant-loop-entry
invariant-loop-entry l = gcd_with l.g (map (λ entry. entry.value) (drop l.entry-index l.entries)) ≡ gcd_with l.start (map (λ entry. entry.value) l.entries)
