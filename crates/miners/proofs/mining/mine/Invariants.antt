use Rattle.std.proofs.Common.{◌≡◌, fold, drop}
use Rattle.miners.specs.Gathered.{nothing_gathered, with_pair}
use Rattle.miners.proofs.mining.mine.Given as goal

abbrev pub invariant-loop-pair : goal.invariant-loop-pair
invariant-loop-pair l =
    fold with_pair l.mining (drop l.pair-index l.pairs) ≡ fold with_pair (nothing_gathered l.subject l.fn.alignment) l.pairs
