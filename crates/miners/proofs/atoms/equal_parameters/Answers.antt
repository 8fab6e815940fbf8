use Rattle.std.proofs.Common.{◌∙◌, ◌++◌, ◌∷◌, [], ap, sym, arith}
use Rattle.std.proofs.lemmas.List.{append-nil}
use Rattle.miners.proofs.KeptLemmas.{equalities_step}
use Rattle.miners.proofs.atoms.equal_parameters.Goals as goal

pub loop-place-preserved : goal.loop-place-preserved
loop-place-preserved c = λ k e.
    equalities_step c.loop-place.atoms _ _ c.loop-place.place k c.args.count
    (c.in_ok-push.ensures.ok ∙ ap (λ x. c.loop-place.atoms ++ x ∷ []) c.in_ok-equality_at.ensures) e c.loop-place.invariant

pub returns : goal.returns
returns c = sym (append-nil c.loop-place.atoms) ∙ c.loop-place.invariant 0 (omega (arith, c.loop-place-test.false))
