use Rattle.std.proofs.Common.{◌∙◌, ◌++◌, ◌∷◌, [], ap, sym, arith, rules, FitsSigned}
use Rattle.std.specs.Int.{w64}
use Rattle.std.proofs.lemmas.Int.{to_z-of_z}
use Rattle.std.proofs.lemmas.List.{append-nil}
use Rattle.miners.specs.Sparse.{coef_at}
use Rattle.miners.proofs.KeptLemmas.{told_step}
use Rattle.miners.proofs.atoms.coefs_of.Goals as goal

pub loop-place-preserved : goal.loop-place-preserved
loop-place-preserved c =
    let fits : FitsSigned w64 c.coef_at.result = search rules in
    let pushed = simp to_z-of_z at c.in_ok-push.ensures.ok in
    λ k e. told_step (coef_at c.args.shape.now) c.loop-place.coefs _ _ c.loop-place.place k c.args.width
    (pushed ∙ ap (λ x. c.loop-place.coefs ++ x ∷ []) c.coef_at.ensures) e c.loop-place.invariant

pub returns : goal.returns
returns c = sym (append-nil c.loop-place.coefs) ∙ c.loop-place.invariant 0 (omega (arith, c.loop-place-test.false))
