use Rattle.std.proofs.Common.{◌≡◌, pos, take}
use Rattle.lin_terms.specs.Form.{constant_form}
use Rattle.flow_graph.specs.Run.{values_with}
use Rattle.sym_paths.proofs.forms.forms_of.Given as goal

abbrev pub invariant-loop-x : goal.invariant-loop-x
invariant-loop-x l = l.found.items ≡ values_with (constant_form l.room (pos 0)) (take l.x-index l.variables) l.forms
