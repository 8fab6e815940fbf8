use Rattle.std.proofs.Common.{rules, arith, FitsSigned, w64, to_z-of_z, get_or, pos}
use Rattle.lin_terms.proofs.Entries.{scaled-drop, moved, fit_after}
use Rattle.lin_terms.proofs.form.multiples.Goals as goal

pub loop-x-preserved : goal.loop-x-preserved
loop-x-preserved c =
    let x-fits : FitsSigned w64 (get_or c.args.xs.now c.loop-x.x-index (pos 0)) = search rules in
    let k-fits : FitsSigned w64 c.args.k.now = search rules in
    let made-fits : FitsSigned w64 c.fitting_product.result = search rules in
    let made = simp to_z-of_z at c.fitting_product.ensures in
    let pushed = simp to_z-of_z at c.in_ok-push.ensures.items in
    let next = scaled-drop c.args.k.now c.args.xs.now c.loop-x.x-index (omega arith) in
    record {
      so_far = rw (pushed, made) (moved _ _ _ _ _ next c.loop-x.invariant.so_far);
      fit = fit_after _ _ _ next c.loop-x.invariant.fit;
    }
