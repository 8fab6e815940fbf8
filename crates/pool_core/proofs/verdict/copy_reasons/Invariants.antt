use Rattle.std.proofs.Common.{◌≡◌, ◌++◌, drop}
use Rattle.pool_core.proofs.verdict.copy_reasons.Given as goal

abbrev pub invariant-loop-why : goal.invariant-loop-why
invariant-loop-why l = l.made ++ drop l.why-index l.reasons ≡ l.reasons
