use Rattle.std.proofs.Common.{◌≡◌, drop}
use Rattle.lin_terms.specs.Vectors.{scaled}
use Rattle.lin_terms.specs.Bounds.{fit_form}
use Rattle.lin_terms.proofs.form.are_fitting_multiples.Given as goal

abbrev pub invariant-loop-x : goal.invariant-loop-x
invariant-loop-x l = fit_form (scaled l.k (drop l.x-index l.xs)) ≡ fit_form (scaled l.k l.xs)
