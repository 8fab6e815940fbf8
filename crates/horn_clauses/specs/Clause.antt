-- Clauses: their columns, and what they say.
use Rattle.std.specs.Prelude.{◌≡◌, ℕ, ◌+◌, ◌≤◌, ◌^◌, ℤ, List, [], ◌∷◌, ◌++◌, length, map, All}
use Rattle.lin_terms.specs.declared.form.Form.{Form}
use Rattle.lin_terms.specs.declared.row.Row.{Row}
use Rattle.lin_terms.specs.Form.{value_at}
use Rattle.lin_terms.specs.Makes.{IsFittingForm}
use Rattle.lin_terms.specs.Row.{Holds, EntriesAreBelow}
use Rattle.horn_clauses.specs.declared.clause.Clause.{Clause}

-- How many columns rows and forms of one length have: as many as the first of them, or this many where there is none.
abbrev pub columns_in : ℕ → List Row → List Form → ℕ
columns_in width (row ∷ rows) forms = length row.coefs
columns_in width [] (form ∷ forms) = length form.coefs
columns_in width [] [] = width

-- How many columns the clause has, whose start has so many variables.
abbrev pub columns_of_clause : ℕ → Clause → ℕ
columns_of_clause start clause = columns_in start clause.rows clause.after

-- The clause is over so many variables at its start, and at most 16 unknowns; it has a form for each of so many
-- variables at its end. Rows and forms have one length, and entries below 2^50 in size.
pub record FitsClause (start end : ℕ) (clause : Clause) : Type 0 where
  pub rows : All (λ row. length row.coefs ≡ columns_of_clause start clause) clause.rows
  pub forms : All (λ form. length form.coefs ≡ columns_of_clause start clause) clause.after
  pub enough : start ≤ columns_of_clause start clause
  pub few : columns_of_clause start clause ≤ start + 16
  pub after : length clause.after ≡ end
  pub rows_fit : All (EntriesAreBelow (2 ^ 50)) clause.rows
  pub forms_fit : All IsFittingForm clause.after

-- With these numbers for its unknowns the clause is taken from the values at its start, and gives those at its end.
pub record LeadsWith (before after : List ℤ) (clause : Clause) (unknowns : List ℤ) : Type 0 where
  pub columns : All (λ row. length row.coefs ≡ length (before ++ unknowns)) clause.rows
      × All (λ form. length form.coefs ≡ length (before ++ unknowns)) clause.after
  pub holds : All (Holds (before ++ unknowns)) clause.rows
  pub values : map (λ form. value_at form (before ++ unknowns)) clause.after ≡ after

-- The clause is taken from the values, with whole numbers for its unknowns, and gives these at its end.
abbrev pub LeadsTo : List ℤ → List ℤ → Clause → Type 0
LeadsTo values after clause = (unknowns : List ℤ) × LeadsWith values after clause unknowns
