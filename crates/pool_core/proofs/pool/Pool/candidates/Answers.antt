use Rattle.std.proofs.Common.{List, subst}
use Rattle.c_ast.specs.declared.trace.Pair.{Pair}
use Rattle.miners.specs.Candidates.{AreMinedFrom}
use Rattle.pool_core.specs.History.{pairs_of}
use Rattle.pool_core.specs.Plays.{State}
use Rattle.pool_core.proofs.Pooling.{kept_narrow, kept_mapped, kept_again, kept_pairs}
use Rattle.pool_core.proofs.pool.Pool.candidates.Goals as goal

pub candidates-requires : goal.candidates-requires
candidates-requires c = record {
  narrow = kept_narrow c.self.inside.subject c.self.inside.log c.self.inside.pairs c.self.inside.lives.fronts.items c.self.invariant;
}

pub invariant_of-self : goal.invariant_of-self
invariant_of-self c =
    kept_again c.self.inside.subject c.self.inside.log c.self.inside.pairs c.self.inside.lives.fronts.items c.self.invariant
    c.candidates.new.self.fronts.items (c.candidates.ensures.fronts c.self.inside.subject
    (kept_mapped c.self.inside.subject c.self.inside.log c.self.inside.pairs c.self.inside.lives.fronts.items c.self.invariant))

pub invariant_of-self-2 : goal.invariant_of-self-2
invariant_of-self-2 c =
    kept_again c.self.inside.subject c.self.inside.log c.self.inside.pairs c.self.inside.lives.fronts.items c.self.invariant
    c.candidates.new.self.fronts.items (c.candidates.ensures.fronts c.self.inside.subject
    (kept_mapped c.self.inside.subject c.self.inside.log c.self.inside.pairs c.self.inside.lives.fronts.items c.self.invariant))

pub returns-clause-mined : goal.returns-clause-mined
returns-clause-mined c =
    subst (λ (s : State). AreMinedFrom s.subject c.args.alignment (pairs_of s.items) c.in_ok-candidates.candidates) c.self.view_is
    (subst (λ (all : List Pair). AreMinedFrom c.self.inside.subject c.args.alignment all c.in_ok-candidates.candidates)
    (kept_pairs c.self.inside.subject c.self.inside.log c.self.inside.pairs c.self.inside.lives.fronts.items c.self.invariant)
    (c.in_ok-candidates.ensures.candidates c.self.inside.subject
    (kept_mapped c.self.inside.subject c.self.inside.log c.self.inside.pairs c.self.inside.lives.fronts.items c.self.invariant)))
