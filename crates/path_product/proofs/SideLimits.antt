-- The limits that the walk of a move meets.
use Rattle.std.proofs.Common.{◌≡◌, ℕ, zero, suc, ◌+◌, ◌⊎◌, Bool, true, false, cond, List, [], ◌∷◌, ◌++◌, map, length, Option, Some, None, refl, subst, inl, inr}
use Rattle.std.specs.Prelude.{nat_le, Result, Ok, Err}
use Rattle.c_ast.specs.declared.place.Place.{Place}
use Rattle.c_ast.specs.declared.place.Place.TheVariants as place
use Rattle.lin_terms.specs.declared.form.Form.{Form}
use Rattle.lin_terms.specs.declared.row.Row.{Row}
use Rattle.lin_terms.specs.Form.{are_zeros}
use Rattle.lin_terms.specs.Sign.{tight_fitting}
use Rattle.sym_paths.specs.declared.limit.PathLimit.{PathLimit}
use Rattle.sym_paths.specs.declared.limit.PathLimit.TheVariants as limit
use Rattle.sym_paths.specs.declared.case.Case.{Case}
use Rattle.sym_paths.specs.Walk.{State, Path, Arrives, Stops, Walk, gives, stops, more, collect, onward}
use Rattle.sym_paths.specs.Rows.{holds_alone, decided, joining, joined_tight, joined, all_joined}
use Rattle.sym_paths.specs.Nodes.{End, end_at}
use Rattle.sym_paths.specs.Cases.{room_for, variables_from, start_state}
use Rattle.path_product.specs.declared.starts.Start.{Start}
use Rattle.path_product.specs.Starts.{width_in, cases_in}
use Rattle.path_product.specs.Compose.{row_over, form_over, all_fit, ended, unknowns_of, with_columns, case_with, case_over, each, cases_over}
use Rattle.path_product.specs.Sides.{Onward, goes_on, goes_on_or_stays, moved, walk_of_cases, at_start, side_from, side_walk, side_cases}

-- It is a limit of walks over forms: products are not linear in expressions alone, and memory is of the code.
abbrev pub IsOverForms : PathLimit → Type 0
IsOverForms why = (why ≡ limit.WideForm) ⊎ (why ≡ limit.ManyUnknowns) ⊎ (why ≡ limit.ManyPaths)

-- Each limit that the walk meets is one.
abbrev pub MeetsThese : {A : Type 0} → Walk A → Type 0
MeetsThese [] = Unit {0}
MeetsThese (Arrives path ∷ walk) = MeetsThese walk
MeetsThese (Stops why ∷ walk) = IsOverForms why × MeetsThese walk

pub wide : IsOverForms limit.WideForm
wide = inl refl

pub unknowns : IsOverForms limit.ManyUnknowns
unknowns = inr (inl refl)

pub many : IsOverForms limit.ManyPaths
many = inr (inr refl)

module _ {A : Type 0} where
  meets_append : (v w : Walk A) → MeetsThese v → MeetsThese w → MeetsThese (v ++ w)
  meets_append [] w first second = second
  meets_append (Arrives path ∷ v) w first second = meets_append v w first second
  meets_append (Stops why ∷ v) w first second = (first.0, meets_append v w first.1 second)

  by_more : (path : Path A) (why : PathLimit) (r : Result (List (Path A)) PathLimit) → more path r ≡ Err why → r ≡ Err why
  by_more path why (Ok paths) is = cc
  by_more path why (Err other) is = cc

  -- the limit that the collecting of such a walk meets is one
  pub meets_collected : (n : ℕ) (walk : Walk A) (why : PathLimit) → collect n walk ≡ Err why → MeetsThese walk → IsOverForms why
  meets_collected n [] why is meets = cc
  meets_collected n (Stops other ∷ walk) why is meets = let same : other ≡ why = cc in subst IsOverForms same meets.0
  meets_collected zero (Arrives path ∷ walk) why is meets = let same : limit.ManyPaths ≡ why = cc in subst IsOverForms same many
  meets_collected (suc n) (Arrives path ∷ walk) why is meets = meets_collected n walk why (by_more path why (collect n walk) is) meets

module _ {A B : Type 0} where
  pub meets_onward : (walk : Walk A) (next : A → State → Walk B) → MeetsThese walk → ((value : A) (state : State) → MeetsThese (next value state))
      → MeetsThese (onward walk next)
  meets_onward [] next first later = tt
  meets_onward (Arrives path ∷ walk) next first later =
      meets_append (next path.value path.state) (onward walk next) (later path.value path.state) (meets_onward walk next first later)
  meets_onward (Stops why ∷ walk) next first later = (first.0, meets_onward walk next first.1 later)

  pub meets_each : (xs : List A) (walk : A → Walk B) → ((x : A) → MeetsThese (walk x)) → MeetsThese (each xs walk)
  meets_each [] walk all = tt
  meets_each (x ∷ xs) walk all = meets_append (walk x) (each xs walk) (all x) (meets_each xs walk all)

-- ---- rows and ends

module _ {A : Type 0} (value : A) (state : State) where
  decided_meets : (answer : Bool) → MeetsThese (decided answer value state)
  decided_meets true = tt
  decided_meets false = tt

  joining_meets : (without : Bool) (row : Row) → MeetsThese (joining without row value state)
  joining_meets true row = decided_meets (holds_alone row)
  joining_meets false row = tt

  tight_meets : (o : Option Row) → MeetsThese (joined_tight o value state)
  tight_meets None = (wide, tt)
  tight_meets (Some row) = joining_meets (are_zeros row.coefs) row

all_joined_meet : {A : Type 0} → (rows : List Row) (value : A) (state : State) → MeetsThese (all_joined rows value state)
all_joined_meet [] value state = tt
all_joined_meet (row ∷ rows) value state =
    meets_onward (joined row (tt {0}) state) (λ _ next. all_joined rows value next) (tight_meets (tt {0}) state (tight_fitting row))
    (λ _ next. all_joined_meet rows value next)

ended_meets : (l : Place) (forms : List Form) (state : State) → MeetsThese (ended l forms state)
ended_meets l forms state = on (all_fit forms)
  where
    on : (t : Bool) → MeetsThese (cond t (gives (end_at l forms) state) (stops limit.WideForm))
    on true = tt
    on false = (wide, tt)

case_meets : (most : ℕ) (forms : List Form) (case : Case) (state : State) → MeetsThese (case_over most forms case state)
case_meets most forms case state = on (nat_le (state.columns + unknowns_of (length forms) case) most)
  where
    on : (t : Bool) → MeetsThese (cond t
        (case_with (state.columns + unknowns_of (length forms) case) (unknowns_of (length forms) case) forms case state) (stops limit.ManyUnknowns))
    on true =
        let columns : ℕ = state.columns + unknowns_of (length forms) case in
        let over : List Form = forms ++ variables_from columns state.columns (unknowns_of (length forms) case) in
        meets_onward (all_joined (map (row_over columns over) case.rows) (tt {0}) (with_columns columns state))
        (λ _ next. ended case.to (map (form_over columns over) case.after) next)
        (all_joined_meet (map (row_over columns over) case.rows) (tt {0}) (with_columns columns state))
        (λ _ next. ended_meets case.to (map (form_over columns over) case.after) next)
    on false = (unknowns, tt)

-- ---- a move

hand_meets : (width : ℕ) (cases : List Case) → MeetsThese (walk_of_cases width cases)
hand_meets width [] = tt
hand_meets width (case ∷ cases) = hand_meets width cases

stays_meet : (goes : Bool) (others : Onward) (end : End) (state : State) → MeetsThese (others end state)
    → MeetsThese (goes_on_or_stays goes others end state)
stays_meet true others end state later = later
stays_meet false others end state later = tt

moved_meets : (l : Place) (segments : Walk End) (others : Onward) (end : End) (state : State) → MeetsThese segments
    → ((next : End) (after : State) → MeetsThese (others next after)) → MeetsThese (moved l segments others end state)
moved_meets place.Entry segments others end state first later =
    meets_onward segments (λ next after. goes_on_or_stays (goes_on place.Entry next.place) others next after) first
    (λ next after. stays_meet (goes_on place.Entry next.place) others next after (later next after))
moved_meets (place.Mark mark) segments others end state first later =
    meets_onward segments (λ next after. goes_on_or_stays (goes_on (place.Mark mark) next.place) others next after) first
    (λ next after. stays_meet (goes_on (place.Mark mark) next.place) others next after (later next after))
moved_meets place.Exit segments others end state first later = tt

module _ (starts : List Start) where
  from_meets : (most count : ℕ) (end : End) (state : State) → MeetsThese (side_from starts most count end state)
  from_meets most zero end state = tt
  from_meets most (suc count) end state =
      moved_meets end.place (cases_over most end.forms (cases_in starts end.place) state) (side_from starts most count) end state
      (meets_each (cases_in starts end.place) (λ case. case_over most end.forms case state) (λ case. case_meets most end.forms case state))
      (λ next after. from_meets most count next after)

  walk_meets : (count : ℕ) (l : Place) → MeetsThese (side_walk starts count l)
  walk_meets zero l = tt
  walk_meets (suc count) l =
      moved_meets l (walk_of_cases (width_in starts l) (cases_in starts l)) (side_from starts (room_for (width_in starts l)) count)
      (at_start (width_in starts l) l) (start_state (width_in starts l)) (hand_meets (width_in starts l) (cases_in starts l))
      (λ next after. from_meets (room_for (width_in starts l)) count next after)

-- The limit of a side's move is one of three.
pub side_limit : (starts : List Start) (count : ℕ) (l : Place) (why : PathLimit) → side_cases starts count l ≡ Err why
    → (why ≡ limit.WideForm) ⊎ (why ≡ limit.ManyUnknowns) ⊎ (why ≡ limit.ManyPaths)
side_limit starts count l why is = meets_collected 1024 (side_walk starts count l) why is (walk_meets starts count l)
