use Rattle.std.proofs.Common.{◌≡◌, ◌≤◌, length, take, map}
use Rattle.pool_core.specs.declared.pages.Added.{Added}
use Rattle.pool_core.proofs.pages.Pages.are_first_of.Given as goal

abbrev pub invariant-loop-at : goal.invariant-loop-at
invariant-loop-at l = record {
  shorter : length l.self ≤ length l.others;
  same : take l.at (map (λ (added : Added). added.index) l.self) ≡ take l.at (map (λ (added : Added). added.index) l.others);
}
