-- A later segment's case in terms of a move's start: its variables are the forms that an earlier segment ended with,
-- and its unknowns are new columns.
use Rattle.std.specs.Prelude.{ℕ, ◌+◌, ◌-◌, nat_le, Bool, if◌then◌else◌, ◌&&◌, List, [], ◌∷◌, ◌++◌, map, length}
use Rattle.std.specs.List.{list_all}
use Rattle.c_ast.specs.declared.place.Place.{Place}
use Rattle.lin_terms.specs.declared.form.Form.{Form}
use Rattle.lin_terms.specs.declared.row.Row.{Row}
use Rattle.lin_terms.specs.Bounds.{fits_form, fit_form}
use Rattle.lin_terms.specs.Form.{composed}
use Rattle.sym_paths.specs.declared.limit.PathLimit.TheVariants as limit
use Rattle.sym_paths.specs.declared.case.Case.{Case}
use Rattle.sym_paths.specs.Walk.{State, Walk, gives, stops, onward}
use Rattle.sym_paths.specs.Rows.{all_joined}
use Rattle.sym_paths.specs.Nodes.{End, end_at}
use Rattle.sym_paths.specs.Cases.{variables_from}
use Rattle.horn_clauses.specs.Clause.{columns_in}

-- The form of a row's left side.
abbrev pub left_side : Row → Form
left_side row = record { coefs = row.coefs; constant = row.constant }

-- The row over so many columns, once the forms take the places of its variables.
abbrev pub row_over : ℕ → List Form → Row → Row
row_over columns forms row =
    let form : Form = composed columns (left_side row) forms in
    record { coefs = form.coefs; constant = form.constant; equality = row.equality }

-- The same of a form.
abbrev pub form_over : ℕ → List Form → Form → Form
form_over columns forms form = composed columns form forms

-- Whether each entry of all forms is below 2^50 in size. An entry is judged when all its products are added up.
abbrev pub all_fit : List Form → Bool
all_fit forms = list_all (λ form. fits_form form.constant && fit_form form.coefs) forms

-- The walk ends at a place with these forms, unless one of them is too wide.
abbrev pub ended : Place → List Form → State → Walk End
ended l forms state = if all_fit forms then gives (end_at l forms) state else stops limit.WideForm

-- The case's rows join one after another, and only then its forms are made.
abbrev pub rows_and_end : ℕ → List Form → Case → State → Walk End
rows_and_end columns forms case state =
    onward (all_joined (map (row_over columns forms) case.rows) (tt {0}) state)
    (λ _ next. ended case.to (map (form_over columns forms) case.after) next)

-- How many unknowns the case has, whose start has so many variables.
abbrev pub unknowns_of : ℕ → Case → ℕ
unknowns_of width case = columns_in width case.rows case.after - width

-- The state with so many columns.
abbrev pub with_columns : ℕ → State → State
with_columns columns state = record { rows = state.rows; columns = columns }

-- The case with so many new columns, behind which there are so many in all.
abbrev pub case_with : ℕ → ℕ → List Form → Case → State → Walk End
case_with columns unknowns forms case state =
    rows_and_end columns (forms ++ variables_from columns state.columns unknowns) case (with_columns columns state)

-- The case over these forms of its variables. Its unknowns are taken in first: one too many is the limit that is met.
abbrev pub case_over : ℕ → List Form → Case → State → Walk End
case_over most forms case state =
    let unknowns : ℕ = unknowns_of (length forms) case in
    let columns : ℕ = state.columns + unknowns in
    if nat_le columns most then case_with columns unknowns forms case state else stops limit.ManyUnknowns

-- A walk for each, one after another.
abbrev pub each : {A B : Type 0} → List A → (A → Walk B) → Walk B
each [] walk = []
each (x ∷ xs) walk = walk x ++ each xs walk

-- The cases of a later segment, in their order.
abbrev pub cases_over : ℕ → List Form → List Case → State → Walk End
cases_over most forms cases state = each cases (λ case. case_over most forms case state)
