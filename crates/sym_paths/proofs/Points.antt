-- What holds at a point holds at longer ones.
use Rattle.std.proofs.Common.{◌≡◌, ℕ, zero, suc, ◌+◌, ◌≤◌, ◌<◌, List, [], ◌∷◌, ◌++◌, length, All, get_or, set, drop, map, Bool, true, false, refl, sym, ap, subst, ◌∙◌, append_assoc, append-nil, arith}
use Rattle.std.specs.Prelude.{ℤ, pos}
use Rattle.std.proofs.lemmas.List.Elements.{All-weaker}
use Rattle.lin_terms.specs.declared.form.Form.{Form}
use Rattle.lin_terms.specs.declared.row.Row.{Row}
use Rattle.lin_terms.specs.Form.{value_at, constant_form, variable_form}
use Rattle.lin_terms.specs.Row.{Holds}
use Rattle.lin_terms.proofs.Laws.{value_at-constant_form, value_at-variable_form}
use Rattle.c_ast.specs.Step.{Scope, is_in, spread_one, spread_from}
use Rattle.flow_graph.specs.Run.{values_with, values_of}
use Rattle.sym_paths.specs.Cases.{variables_from}
use Rattle.sym_paths.specs.Points.{HasValue, HaveValues, HoldsBefore, Extends}

pub has_longer : (point longer : List ℤ) (form : Form) (value : ℤ) → Extends point longer → HasValue point form value → HasValue longer form value
has_longer point longer form value x has behind =
    ap (λ (t : List ℤ). value_at form (t ++ behind)) x.is ∙ ap (λ (t : List ℤ). value_at form t) (append_assoc point x.behind behind)
    ∙ has (x.behind ++ behind)

pub have_longer : (point longer : List ℤ) (forms : List Form) (values : List ℤ) → Extends point longer → HaveValues point forms values
    → HaveValues longer forms values
have_longer point longer [] [] x have = tt
have_longer point longer [] (v ∷ values) x have = absurd have
have_longer point longer (f ∷ forms) [] x have = absurd have
have_longer point longer (f ∷ forms) (v ∷ values) x have = (has_longer point longer f v x have.0, have_longer point longer forms values x have.1)

-- a form has its value at the point itself
pub has_here : (point : List ℤ) (form : Form) (value : ℤ) → HasValue point form value → value_at form point ≡ value
has_here point form value has = ap (λ (t : List ℤ). value_at form t) (sym (append-nil point)) ∙ has []

pub holds_longer : (point longer : List ℤ) (row : Row) → Extends point longer → HoldsBefore point row → HoldsBefore longer row
holds_longer point longer row x holds behind =
    subst (λ (t : List ℤ). Holds t row) (sym (ap (λ (t : List ℤ). t ++ behind) x.is ∙ append_assoc point x.behind behind)) (holds (x.behind ++ behind))

pub hold_longer : (point longer : List ℤ) (rows : List Row) → Extends point longer → All (HoldsBefore point) rows → All (HoldsBefore longer) rows
hold_longer point longer rows x hold = All-weaker (HoldsBefore point) (HoldsBefore longer) (λ row. holds_longer point longer row x) rows hold

pub holds_here : (point : List ℤ) (row : Row) → HoldsBefore point row → Holds point row
holds_here point row holds = subst (λ (t : List ℤ). Holds t row) (append-nil point) (holds [])

pub hold_here : (point : List ℤ) (rows : List Row) → All (HoldsBefore point) rows → All (Holds point) rows
hold_here point rows hold = All-weaker (HoldsBefore point) (Holds point) (λ row. holds_here point row) rows hold

pub extends_by : (point behind : List ℤ) → Extends point (point ++ behind)
extends_by point behind = record { behind = behind; is = refl }

-- a constant has its value everywhere
pub constant_has : (point : List ℤ) (room : ℕ) (z value : ℤ) → z ≡ value → HasValue point (constant_form room z) value
constant_has point room z value is behind = value_at-constant_form room z (point ++ behind) ∙ is

at_end : (point : List ℤ) (q : ℤ) (behind : List ℤ) → get_or ((point ++ q ∷ []) ++ behind) (length point) (pos 0) ≡ q
at_end [] q behind = refl
at_end (x ∷ point) q behind = at_end point q behind

-- the next unknown has the number that is put behind the point
pub unknown_has : (point : List ℤ) (room columns : ℕ) (q : ℤ) → length point ≡ columns → columns < room
    → HasValue (point ++ q ∷ []) (variable_form room columns) q
unknown_has point room columns q exact below behind =
    value_at-variable_form room columns ((point ++ q ∷ []) ++ behind) below
    ∙ subst (λ (n : ℕ). get_or ((point ++ q ∷ []) ++ behind) n (pos 0) ≡ q) exact (at_end point q behind)

-- the value of a variable
pub variable_has : (point : List ℤ) (room : ℕ) (forms : List Form) (values : List ℤ) (x : ℕ) → HaveValues point forms values
    → HasValue point (get_or forms x (constant_form room (pos 0))) (get_or values x (pos 0))
variable_has point room [] [] x have = constant_has point room (pos 0) (pos 0) refl
variable_has point room [] (v ∷ values) x have = absurd have
variable_has point room (f ∷ forms) [] x have = absurd have
variable_has point room (f ∷ forms) (v ∷ values) zero have = have.0
variable_has point room (f ∷ forms) (v ∷ values) (suc x) have = variable_has point room forms values x have.1

-- ---- environments

pub have_set : (point : List ℤ) (forms : List Form) (values : List ℤ) (x : ℕ) (f : Form) (v : ℤ) → HaveValues point forms values → HasValue point f v
    → HaveValues point (set forms x f) (set values x v)
have_set point [] [] x f v have has = tt
have_set point [] (u ∷ values) x f v have has = absurd have
have_set point (g ∷ forms) [] x f v have has = absurd have
have_set point (g ∷ forms) (u ∷ values) zero f v have has = (has, have.1)
have_set point (g ∷ forms) (u ∷ values) (suc x) f v have has = (have.0, have_set point forms values x f v have.1 has)

-- those of some variables
pub listed_have : (point : List ℤ) (room : ℕ) (variables : List ℕ) (forms : List Form) (values : List ℤ) → HaveValues point forms values
    → HaveValues point (values_with (constant_form room (pos 0)) variables forms) (values_of variables values)
listed_have point room [] forms values have = tt
listed_have point room (x ∷ variables) forms values have =
    (variable_has point room forms values x have, listed_have point room variables forms values have)

one_has : (point : List ℤ) (room : ℕ) (is : Bool) (forms : List Form) (values : List ℤ) (others : List Form → List Form) (others' : List ℤ → List ℤ)
    → ((gs : List Form) (vs : List ℤ) → HaveValues point gs vs → HaveValues point (others gs) (others' vs)) → HaveValues point forms values
    → HaveValues point (spread_one (constant_form room (pos 0)) is forms others) (spread_one (pos 0) is values others')
one_has point room true [] [] others others' go have = (constant_has point room (pos 0) (pos 0) refl, go [] [] tt)
one_has point room true [] (v ∷ values) others others' go have = absurd have
one_has point room true (f ∷ forms) [] others others' go have = absurd have
one_has point room true (f ∷ forms) (v ∷ values) others others' go have = (have.0, go forms values have.1)
one_has point room false forms values others others' go have = (constant_has point room (pos 0) (pos 0) refl, go forms values have)

-- those of all variables, of which the ones in scope have values
pub spread_have : (point : List ℤ) (room : ℕ) (scope : Scope) (i n : ℕ) (forms : List Form) (values : List ℤ) → HaveValues point forms values
    → HaveValues point (spread_from (constant_form room (pos 0)) scope i n forms) (spread_from (pos 0) scope i n values)
spread_have point room scope i zero forms values have = tt
spread_have point room scope i (suc n) forms values have =
    one_has point room (is_in scope i) forms values (spread_from (constant_form room (pos 0)) scope (suc i) n) (spread_from (pos 0) scope (suc i) n)
    (λ gs vs. spread_have point room scope (suc i) n gs vs) have

-- forms that have values there are those values
pub values_are : (point : List ℤ) (forms : List Form) (values : List ℤ) → HaveValues point forms values
    → map (λ (f : Form). value_at f point) forms ≡ values
values_are point [] [] have = refl
values_are point [] (v ∷ values) have = absurd have
values_are point (f ∷ forms) [] have = absurd have
values_are point (f ∷ forms) (v ∷ values) have =
    ap (λ (z : ℤ). z ∷ map (λ (f : Form). value_at f point) forms) (has_here point f v have.0)
    ∙ ap (λ (vs : List ℤ). v ∷ vs) (values_are point forms values have.1)

-- ---- the variables of the start

get_in : (values behind : List ℤ) (i : ℕ) → i < length values → get_or (values ++ behind) i (pos 0) ≡ get_or values i (pos 0)
get_in [] behind i below = absurd (omega arith)
get_in (v ∷ values) behind zero below = refl
get_in (v ∷ values) behind (suc i) below = get_in values behind i (omega arith)

drop_none : (values : List ℤ) (j : ℕ) → length values ≡ j → drop j values ≡ []
drop_none [] zero is = refl
drop_none [] (suc j) is = refl
drop_none (v ∷ values) zero is = absurd (omega (arith, is))
drop_none (v ∷ values) (suc j) is = drop_none values j (omega (arith, is))

drop_one : (values : List ℤ) (j : ℕ) → j < length values → drop j values ≡ get_or values j (pos 0) ∷ drop (suc j) values
drop_one [] j below = absurd (omega arith)
drop_one (v ∷ values) zero below = refl
drop_one (v ∷ values) (suc j) below = drop_one values j (omega arith)

pub variables_have : (room j n : ℕ) (values : List ℤ) → j + n ≡ length values → length values ≤ room
    → HaveValues values (variables_from room j n) (drop j values)
variables_have room j zero values is fits = subst (λ (vs : List ℤ). HaveValues values [] vs) (sym (drop_none values j (omega (arith, is)))) tt
variables_have room j (suc n) values is fits =
    let below : j < length values = omega (arith, is) in
    subst (λ (vs : List ℤ). HaveValues values (variables_from room j (suc n)) vs) (sym (drop_one values j below)) (
      (λ behind. value_at-variable_form room j (values ++ behind) (omega (arith, below, fits)) ∙ get_in values behind j below),
      variables_have room (suc j) n values (omega (arith, is)) fits,
    )
