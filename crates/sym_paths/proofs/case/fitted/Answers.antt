use Rattle.std.proofs.Common.{◌<◌, ◌++◌, ◌∙◌, List, [], ◌∷◌, ℤ, get_or, ap, arith}
use Rattle.std.specs.Prelude.{pos}
use Rattle.sym_paths.proofs.Fitted.{fitted_next}
use Rattle.sym_paths.proofs.case.fitted.Goals as goal

pub loop-place-preserved : goal.loop-place-preserved
loop-place-preserved c =
    let kept = c.loop-place.invariant in
    let test = c.loop-place-test.true in
    let all = c.loop-place.auto.place-end in
    let below : c.loop-place.place < c.args.count = omega (arith, test, all) in (
      c.in_ok-push_number.ensures ∙ ap (λ (xs : List ℤ). xs ++ get_or c.args.numbers.now c.loop-place.place (pos 0) ∷ []) kept.0
          ∙ fitted_next c.args.numbers.now c.args.count c.loop-place.place below,
      omega (arith, below),
    )
