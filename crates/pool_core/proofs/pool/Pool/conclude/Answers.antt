use Rattle.std.proofs.Common.{arith, ◌∙◌, sym, subst}
use Rattle.pool_core.specs.Plays.{State, AnswersConclusion}
use Rattle.pool_core.proofs.Pooling.{kept_few, kept_count, never_unknown}
use Rattle.pool_core.proofs.pool.Pool.conclude.Goals as goal

pub conclude-requires-clause-few : goal.conclude-requires-clause-few
conclude-requires-clause-few c =
    omega (arith, c.len.ensures.number, kept_count c.self.inside.subject c.self.inside.log c.self.inside.pairs c.self.inside.lives.fronts.items c.self.invariant, kept_few c.self.inside.subject c.self.inside.log c.self.inside.pairs c.self.inside.lives.fronts.items c.self.invariant)

pub conclude-requires-clause-all : goal.conclude-requires-clause-all
conclude-requires-clause-all c = c.len.ensures.number ∙ kept_count c.self.inside.subject c.self.inside.log c.self.inside.pairs c.self.inside.lives.fronts.items c.self.invariant

pub conclude-requires-clause-found : goal.conclude-requires-clause-found
conclude-requires-clause-found c = λ samples alignments is.
    never_unknown c.self.inside.subject c.self.inside.log.items samples alignments c.self.invariant.legal is

pub returns : goal.returns
returns c =
    subst (λ (s : State). AnswersConclusion s c.conclude.result) c.self.view_is (c.conclude.ensures c.self.inside.subject (sym c.self.invariant.samples))
