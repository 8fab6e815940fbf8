use Rattle.std.proofs.Common.{◌≡◌, ◌++◌, map, drop}
use Rattle.sym_paths.specs.Cases.{fitted_form}
use Rattle.sym_paths.proofs.case.fitted_forms.Given as goal

abbrev pub invariant-loop-form : goal.invariant-loop-form
invariant-loop-form l = l.made ++ map (fitted_form l.columns) (drop l.form-index l.forms) ≡ map (fitted_form l.columns) l.forms
