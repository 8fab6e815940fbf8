use Rattle.std.proofs.Common.{◌≡◌, take, length}
use Rattle.relation.proofs.coupled.first_lists.Given as goal

abbrev pub invariant-loop-lists : goal.invariant-loop-lists
invariant-loop-lists l = take l.count l.lists ≡ take l.count l.initial.lists

abbrev pub decreases-loop-lists : goal.decreases-loop-lists
decreases-loop-lists l = length l.lists
