use Rattle.std.proofs.Common.{◌≡◌, ◌++◌, map, drop, true}
use Rattle.path_product.specs.Compose.{form_over, all_fit}
use Rattle.path_product.specs.Coded.{AreOver}
use Rattle.path_product.proofs.compose.forms_over.Given as goal

abbrev pub invariant-loop-form : goal.invariant-loop-form
invariant-loop-form l = record {
  same : l.made ++ map (form_over l.columns l.at) (drop l.form-index l.forms) ≡ map (form_over l.columns l.at) l.forms;
  fit : all_fit l.made ≡ true;
  over : AreOver l.columns l.made;
}
