use Rattle.std.proofs.Common.{◌≡◌, ◌++◌, map, drop}
use Rattle.path_product.specs.Clauses.{placed_form}
use Rattle.path_product.specs.Placing.{spot_of}
use Rattle.path_product.proofs.columns.Spot.place_forms.Given as goal

abbrev pub invariant-loop-form : goal.invariant-loop-form
invariant-loop-form l = l.made.items ++ map (placed_form (spot_of l.self)) (drop l.form-index l.forms)
    ≡ l.initial.made.items ++ map (placed_form (spot_of l.self)) l.forms
