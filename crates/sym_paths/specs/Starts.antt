-- How the forms of the start are made, one variable after the other.
use Rattle.std.specs.Prelude.{ℕ, suc, pos, Bool, true, false}
use Rattle.lin_terms.specs.declared.form.Form.{Form}
use Rattle.lin_terms.specs.Form.{constant_form, variable_form}

-- The form of the next variable in scope, of which so many are behind, or of one that is not in scope.
abbrev pub begun : ℕ → Bool → ℕ → Form
begun room true met = variable_form room met
begun room false met = constant_form room (pos 0)

-- How many are behind then.
abbrev pub met_after : Bool → ℕ → ℕ
met_after true met = suc met
met_after false met = met
