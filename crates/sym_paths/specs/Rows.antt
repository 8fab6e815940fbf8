-- How rows join a walk, and how a walk splits by the signs that a form may have.
use Rattle.std.specs.Prelude.{Bool, true, false, if◌then◌else◌, int_le, pos, unsigned_abs, ◌==◌, List, [], ◌∷◌, ◌++◌, Option, Some, None}
use Rattle.lin_terms.specs.declared.form.Form.{Form}
use Rattle.lin_terms.specs.declared.row.Row.{Row}
use Rattle.lin_terms.specs.declared.sign.Sign.{Sign}
use Rattle.lin_terms.specs.Form.{are_zeros}
use Rattle.lin_terms.specs.Makes.{fitting}
use Rattle.lin_terms.specs.Sign.{sign_row, tight_fitting}
use Rattle.sym_paths.specs.declared.limit.PathLimit.TheVariants as limit
use Rattle.sym_paths.specs.Walk.{State, Walk, gives, stops, onward}

-- Whether a row without variables holds.
abbrev pub holds_alone : Row → Bool
holds_alone row = if row.equality then unsigned_abs row.constant == 0 else int_le (pos 0) row.constant

-- The state with one more row.
abbrev pub with_row : State → Row → State
with_row state row = record { rows = state.rows ++ row ∷ []; columns = state.columns }

module _ {A : Type 0} where
  -- A row without variables, as it holds or not: it is left out where it holds, and else the walk arrives nowhere.
  abbrev pub decided : Bool → A → State → Walk A
  decided true value state = gives value state
  decided false value state = []

  -- A tight row joins, as it has variables or not.
  abbrev pub joining : Bool → Row → A → State → Walk A
  joining true row value state = decided (holds_alone row) value state
  joining false row value state = gives value (with_row state row)

  -- A tight row joins, where there is one; a row with an entry that is too wide ends the walk.
  abbrev pub joined_tight : Option Row → A → State → Walk A
  joined_tight None value state = stops limit.WideForm
  joined_tight (Some row) value state = joining (are_zeros row.coefs) row value state

  -- The row is made tight and joins; the walk arrives at this then.
  abbrev pub joined : Row → A → State → Walk A
  joined row value state = joined_tight (tight_fitting row) value state

  -- The signs that the form may have, one after another, each with what the walk arrives at then.
  abbrev pub split : List (Sign × A) → Form → State → Walk A
  split [] form state = []
  split (option ∷ options) form state = joined (sign_row option.0 form) option.1 state ++ split options form state

-- The rows join one after another.
abbrev pub all_joined : {A : Type 0} → List Row → A → State → Walk A
all_joined [] value state = gives value state
all_joined (row ∷ rows) value state = onward (joined row (tt {0}) state) (λ _ next. all_joined rows value next)

-- The form, where it is not too wide.
abbrev pub judged : Option Form → State → Walk Form
judged None state = stops limit.WideForm
judged (Some form) state = gives form state

-- A form is judged when it is made.
abbrev pub made : Form → State → Walk Form
made form state = judged (fitting form) state
