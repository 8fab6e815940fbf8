-- Forms that take the places of variables, and the sizes with which a form over them can be made.
use Rattle.std.specs.Prelude.{ℤ, ◌≤◌, List, length, All}
use Rattle.lin_terms.specs.declared.form.Form.{Form}
use Rattle.lin_terms.specs.Makes.{IsFittingForm}

-- The forms can take the places of so many variables: with these bounds each sum of products stays below 2^124 in size.
pub record CanTakePlaces (coefs : List ℤ) (forms : List Form) : Type 0 where
  pub enough : length coefs ≤ length forms
  pub few : length coefs ≤ 1024
  pub fit : All IsFittingForm forms
