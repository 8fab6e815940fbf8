use Rattle.std.proofs.Common.{length, ◌-◌, ◌≡◌, ◌≤◌, ◌++◌, take, drop}
use Rattle.miners.specs.Constants.{with_constant}
use Rattle.miners.proofs.constants.place_for.Given as goal

abbrev pub invariant-loop-i : goal.invariant-loop-i
invariant-loop-i l = record {
  within : l.i ≤ length l.kept;
  passed : with_constant l.constant l.kept ≡ take l.i l.kept ++ with_constant l.constant (drop l.i l.kept);
}

abbrev pub decreases-loop-i : goal.decreases-loop-i
decreases-loop-i l = length l.kept - l.i
