use Rattle.std.proofs.Common.{◌≡◌, ◌++◌, drop, true}
use Rattle.lin_terms.specs.Vectors.{plus, scaled}
use Rattle.lin_terms.specs.Bounds.{fit_form}
use Rattle.lin_terms.proofs.form.sums.Given as goal

abbrev pub invariant-loop-i : goal.invariant-loop-i
invariant-loop-i l = record {
  so_far : l.made.items ++ plus (drop l.i l.xs) (scaled l.k (drop l.i l.ys)) ≡ plus l.xs (scaled l.k l.ys);
  fit : fit_form (plus (drop l.i l.xs) (scaled l.k (drop l.i l.ys))) ≡ true;
}
