use Rattle.std.proofs.Common.{◌≡◌, take, true}
use Rattle.lin_terms.specs.Bounds.{fit_form}
use Rattle.lin_terms.specs.Form.{composed_coefs}
use Rattle.lin_terms.proofs.over.coefs_over.Given as goal

abbrev pub invariant-loop-j : goal.invariant-loop-j
invariant-loop-j l = record {
  so_far : l.made.items ≡ take l.j (composed_coefs l.columns l.coefs l.at);
  fit : fit_form (take l.j (composed_coefs l.columns l.coefs l.at)) ≡ true;
}
