use Rattle.std.proofs.Common.{◌≡◌, drop}
use Rattle.lin_terms.specs.Vectors.{plus, scaled}
use Rattle.lin_terms.specs.Bounds.{fit_form}
use Rattle.lin_terms.proofs.form.are_fitting_sums.Given as goal

abbrev pub invariant-loop-i : goal.invariant-loop-i
invariant-loop-i l = fit_form (plus (drop l.i l.xs) (scaled l.k (drop l.i l.ys))) ≡ fit_form (plus l.xs (scaled l.k l.ys))
