use Rattle.std.proofs.Common.{◌≡◌, ◌++◌, drop, true}
use Rattle.lin_terms.specs.Vectors.{scaled}
use Rattle.lin_terms.specs.Bounds.{fit_form}
use Rattle.lin_terms.proofs.form.multiples.Given as goal

abbrev pub invariant-loop-x : goal.invariant-loop-x
invariant-loop-x l = record {
  so_far : l.made.items ++ scaled l.k (drop l.x-index l.xs) ≡ scaled l.k l.xs;
  fit : fit_form (scaled l.k (drop l.x-index l.xs)) ≡ true;
}
