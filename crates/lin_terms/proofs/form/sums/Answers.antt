use Rattle.std.proofs.Common.{rules, arith, FitsSigned, w64, to_z-of_z, get_or, pos}
use Rattle.lin_terms.proofs.Entries.{sum-drop, moved, fit_after}
use Rattle.lin_terms.proofs.form.sums.Goals as goal

pub loop-i-preserved : goal.loop-i-preserved
loop-i-preserved c =
    let x-fits : FitsSigned w64 (get_or c.args.xs.now c.loop-i.i (pos 0)) = search rules in
    let y-fits : FitsSigned w64 (get_or c.args.ys.now c.loop-i.i (pos 0)) = search rules in
    let k-fits : FitsSigned w64 c.args.k.now = search rules in
    let made-fits : FitsSigned w64 c.fitting_sum.result = search rules in
    let made = simp to_z-of_z at c.fitting_sum.ensures in
    let pushed = simp to_z-of_z at c.in_ok-push.ensures.items in
    let next = sum-drop c.args.k.now c.args.xs.now c.args.ys.now c.loop-i.i (omega arith) (omega (arith, c.requires.lengths)) in
    record {
      so_far = rw (pushed, made) (moved _ _ _ _ _ next c.loop-i.invariant.so_far);
      fit = fit_after _ _ _ next c.loop-i.invariant.fit;
    }
