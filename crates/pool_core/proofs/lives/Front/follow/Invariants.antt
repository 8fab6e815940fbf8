use Rattle.std.proofs.Common.{◌-◌, ℕ, length, map}
use Rattle.c_ast.specs.Comparison.{Comparison}
use Rattle.pool_core.specs.declared.pages.Added.{Added}
use Rattle.pool_core.specs.Beside.{IsFront}
use Rattle.pool_core.proofs.lives.Front.follow.Given as goal

abbrev pub invariant-loop-self : goal.invariant-loop-self
invariant-loop-self l = (subject : Comparison) (alignment : ℕ)
    → IsFront subject (map (λ (added : Added). added.pair) l.pages) alignment l.initial.self
    → IsFront subject (map (λ (added : Added). added.pair) l.pages) alignment l.self

abbrev pub decreases-loop-self : goal.decreases-loop-self
decreases-loop-self l = length l.pages - l.self.count
