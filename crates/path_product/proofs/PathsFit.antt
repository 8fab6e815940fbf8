-- The paths of a side's move fit: their rows and forms are over the columns in use, with small entries, and each ends at a place
-- with a form for each value there.
use Rattle.std.proofs.Common.{◌≡◌, ◌≢◌, ℕ, zero, suc, ◌+◌, ◌<◌, ◌≤◌, ◌^◌, ◌⊎◌, Bool, true, false, cond, ◌&&◌, List, [], ◌∷◌, ◌++◌, map, length, replicate, get_or, All, Option, Some, None, refl, sym, ap, subst, ◌∙◌, inl, inr, lit<, length-set, arith}
use Rattle.std.specs.Prelude.{ℤ, pos, negsuc, unsigned_abs, nat_le, Ok, find}
use Rattle.std.proofs.Math.Nat.{div-le_self}
use Rattle.std.proofs.lemmas.Bool.{and_parts}
use Rattle.std.proofs.lemmas.Bool.Decides.{nat_tests}
use Rattle.std.proofs.lemmas.Int.{ints}
use Rattle.std.proofs.lemmas.List.{length-replicate, length-map}
use Rattle.std.proofs.lemmas.List.Elements.{All-nil, All-cons, All-head, All-tail, All-map, All-weaker, All-append, All-push, All-replicate}
use Rattle.c_ast.specs.declared.place.Place.{Place}
use Rattle.c_ast.specs.declared.place.Place.TheVariants as place
use Rattle.lin_terms.specs.declared.form.Form.{Form}
use Rattle.lin_terms.specs.declared.row.Row.{Row}
use Rattle.lin_terms.specs.Bounds.{fits_form, fit_form}
use Rattle.lin_terms.specs.Divisor.{gcd_of, floor_div}
use Rattle.lin_terms.specs.Form.{are_zeros, variable_form, combined_coefs, composed_coefs}
use Rattle.lin_terms.specs.Makes.{IsFittingForm}
use Rattle.lin_terms.specs.Row.{EntriesAreBelow}
use Rattle.lin_terms.specs.Sign.{tight_fitting}
use Rattle.lin_terms.specs.Tight.{never_row, divided_row, is_unsolvable, tight_by, tight_of}
use Rattle.lin_terms.specs.Vectors.{plus, scaled}
use Rattle.lin_terms.proofs.Laws.{fitting_fits, variable_fits, tight_columns, length-scaled}
use Rattle.horn_clauses.specs.Clause.{columns_in}
use Rattle.sym_paths.specs.declared.limit.PathLimit.TheVariants as limit
use Rattle.sym_paths.specs.declared.case.Case.{Case}
use Rattle.sym_paths.specs.Walk.{State, Path, Arrives, Stops, Walk, gives, stops, onward}
use Rattle.sym_paths.specs.Points.{EachArrives, EachOf}
use Rattle.sym_paths.specs.Rows.{holds_alone, decided, joining, joined_tight, joined, all_joined}
use Rattle.sym_paths.specs.Nodes.{End, end_at}
use Rattle.sym_paths.specs.Cases.{room_for, variables_from, start_state}
use Rattle.sym_paths.proofs.Laws.{each_append, onward_each, each_collected}
use Rattle.path_product.specs.declared.starts.Start.{Start}
use Rattle.path_product.specs.Starts.{start_at, width_of_start, width_in, cases_of_start, cases_in}
use Rattle.path_product.specs.Compose.{left_side, row_over, form_over, all_fit, ended, rows_and_end, unknowns_of, with_columns, case_with, case_over, each, cases_over}
use Rattle.path_product.specs.Fits.{HasStart, FitsPath, FitsCase, FitsStart, FitStarts}
use Rattle.path_product.specs.Sides.{Onward, goes_on, goes_on_or_stays, moved, path_of, walk_of_cases, at_start, side_from, side_walk, side_cases}

-- ---- walks of lists

module _ {A B : Type 0} (P : Path B → Type 0) (walk : A → Walk B) where
  -- what holds of each path from each of these holds of all
  pub each_holds : (xs : List A) → All (λ x. EachArrives P (walk x)) xs → EachArrives P (each xs walk)
  each_holds [] all = tt
  each_holds (x ∷ xs) all =
      each_append P (walk x) (each xs walk) (All-head (λ (y : A). EachArrives P (walk y)) x xs all)
      (each_holds xs (All-tail (λ (y : A). EachArrives P (walk y)) x xs all))

module _ (P : Path End → Type 0) where
  -- what holds of each case at hand holds of each path of their walk
  pub at_hand : (width : ℕ) (cases : List Case) → All (λ case. P (path_of width case)) cases → EachArrives P (walk_of_cases width cases)
  at_hand width [] all = tt
  at_hand width (case ∷ cases) all =
      (All-head (λ (c : Case). P (path_of width c)) case cases all, at_hand width cases (All-tail (λ (c : Case). P (path_of width c)) case cases all))

  stays_each : (goes : Bool) (others : Onward) (end : End) (state : State) → P (record { state = state; value = end })
      → EachArrives P (others end state) → EachArrives P (goes_on_or_stays goes others end state)
  stays_each true others end state here on = on
  stays_each false others end state here on = (here, tt)

  moves_each : (l : Place) (segments : Walk End) (others : Onward) → EachArrives P segments
      → ((path : Path End) → P path → EachArrives P (others path.value path.state))
      → EachArrives P (onward segments (λ next after. goes_on_or_stays (goes_on l next.place) others next after))
  moves_each l segments others first on =
      onward_each (λ next after. goes_on_or_stays (goes_on l next.place) others next after) P P segments
      (λ path here. stays_each (goes_on l path.value.place) others path.value path.state here (on path here)) first

  -- what holds of each path of a segment, and is kept by what comes behind it, holds of each path of a move
  pub moved_each : (l : Place) (segments : Walk End) (others : Onward) (end : End) (state : State)
      → (l ≡ place.Exit → P (record { state = state; value = end })) → (l ≢ place.Exit → EachArrives P segments)
      → ((path : Path End) → P path → EachArrives P (others path.value path.state)) → EachArrives P (moved l segments others end state)
  moved_each place.Entry segments others end state here first on = moves_each place.Entry segments others (first (λ is. no_exit is)) on
    where
      no_exit : place.Entry ≡ place.Exit → ⊥
      no_exit is = cc
  moved_each (place.Mark mark) segments others end state here first on = moves_each (place.Mark mark) segments others (first (λ is. no_exit is)) on
    where
      no_exit : place.Mark mark ≡ place.Exit → ⊥
      no_exit is = cc
  moved_each place.Exit segments others end state here first on = (here refl, tt)

module _ {A : Type 0} (P : A → Type 0) where
  -- between the two words for what holds of each
  pub all_of_each : (xs : List A) → EachOf P xs → All P xs
  all_of_each [] each = All-nil P
  all_of_each (x ∷ xs) each = All-cons P x xs each.0 (all_of_each xs each.1)

-- ---- the cases from a place

module _ {A : Type 0} (P : A → Type 0) (test : A → Bool) where
  -- what holds of each holds of the one that is found
  pub found_has : (xs : List A) → All P xs → (x : A) → find test xs ≡ Some x → P x
  found_has [] all x found = cc
  found_has (y ∷ xs) all x found = on (found_has xs (All-tail P y xs all) x) (test y) found
    where
      on : (find test xs ≡ Some x → P x) → (t : Bool) → cond t (Some y) (find test xs) ≡ Some x → P x
      on later true found = let same : y ≡ x = cc in subst P same (All-head P y xs all)
      on later false found = later found

module _ (starts : List Start) (fits : FitStarts starts) where
  start_cases_fit : (l : Place) (o : Option Start) → start_at starts l ≡ o → All (FitsCase starts (width_of_start o)) (cases_of_start o)
  start_cases_fit l None found = All-nil (FitsCase starts 0)
  start_cases_fit l (Some start) found = (found_has (FitsStart starts) _ starts fits.each start found).cases

  -- the cases from a place fit it
  pub cases_fit_in : (l : Place) → l ≢ place.Exit → All (FitsCase starts (width_in starts l)) (cases_in starts l)
  cases_fit_in place.Entry other = start_cases_fit place.Entry (start_at starts place.Entry) refl
  cases_fit_in (place.Mark mark) other = start_cases_fit (place.Mark mark) (start_at starts (place.Mark mark)) refl
  cases_fit_in place.Exit other = absurd (other refl)

-- ---- entries

side_fits : (row : Row) → (fits_form row.constant && fit_form row.coefs) ≡ true → IsFittingForm (left_side row)
side_fits row fits = fitting_fits (left_side row) (left_side row) (ap (λ (t : Bool). cond t (Some (left_side row)) None) fits)

-- a form that passes the test has small entries
pub form_fits : (form : Form) → (fits_form form.constant && fit_form form.coefs) ≡ true → IsFittingForm form
form_fits form fits = fitting_fits form form (ap (λ (t : Bool). cond t (Some form) None) fits)

-- the same of several
pub forms_fit : (forms : List Form) → all_fit forms ≡ true → All IsFittingForm forms
forms_fit [] fits = All-nil IsFittingForm
forms_fit (form ∷ forms) fits =
    let parts = and_parts (fits_form form.constant && fit_form form.coefs) (all_fit forms) fits in
    All-cons IsFittingForm form forms (form_fits form parts.0) (forms_fit forms parts.1)

quotient_below : (bound n : ℕ) (x : ℤ) → unsigned_abs x < bound → unsigned_abs (floor_div x (suc n)) < bound
quotient_below bound n (pos a) below = omega (arith, ints, div-le_self a (suc n))
quotient_below bound n (negsuc a) below = omega (arith, ints, div-le_self a (suc n))

divided_below : (bound n : ℕ) (row : Row) → 1 < bound → EntriesAreBelow bound row → (t : Bool)
    → EntriesAreBelow bound (cond t (never_row (length row.coefs)) (divided_row (suc n) row))
divided_below bound n row more below true = record {
  coefs = All-replicate (λ (x : ℤ). unsigned_abs x < bound) (length row.coefs) (pos 0) (omega (arith, ints));
  constant = omega (arith, ints);
}
divided_below bound n row more below false = record {
  coefs = All-map (λ (x : ℤ). unsigned_abs x < bound) (λ x. floor_div x (suc n)) row.coefs
      (All-weaker (λ (x : ℤ). unsigned_abs x < bound) (λ (x : ℤ). unsigned_abs (floor_div x (suc n)) < bound) (quotient_below bound n) row.coefs below.coefs);
  constant = quotient_below bound n row.constant below.constant;
}

tight_by_below : (bound g : ℕ) (row : Row) → 1 < bound → EntriesAreBelow bound row → EntriesAreBelow bound (tight_by g row)
tight_by_below bound zero row more below = below
tight_by_below bound (suc n) row more below = divided_below bound n row more below (is_unsolvable (suc n) row)

-- the tight row has small entries, and as many
pub tight_is_small : (row tight : Row) → tight_fitting row ≡ Some tight → EntriesAreBelow (2 ^ 50) tight × (length tight.coefs ≡ length row.coefs)
tight_is_small row tight is = on (fits_form row.constant && fit_form row.coefs) refl is
  where
    on : (t : Bool) → (fits_form row.constant && fit_form row.coefs) ≡ t → cond t (Some (tight_of row)) None ≡ Some tight
        → EntriesAreBelow (2 ^ 50) tight × (length tight.coefs ≡ length row.coefs)
    on true fits is =
        let same : tight_of row ≡ tight = cc in
        let side = side_fits row fits in
        subst (λ (r : Row). EntriesAreBelow (2 ^ 50) r × (length r.coefs ≡ length row.coefs)) same
        (tight_by_below (2 ^ 50) (gcd_of row.coefs) row (lit< tt) (record { coefs = side.coefs; constant = side.constant }), tight_columns row)
    on false fits is = cc

-- ---- rows that join

-- The state has so many columns; its rows are over these at most, with small entries.
record FitsState (columns : ℕ) (state : State) : Type 0 where
  same : state.columns ≡ columns
  rows : All (λ row. length row.coefs ≤ columns) state.rows
  small : All (EntriesAreBelow (2 ^ 50)) state.rows

module _ {A : Type 0} (columns : ℕ) (value : A) where
  abbrev Kept : Path A → Type 0
  Kept path = FitsState columns path.state

  decided_keeps : (answer : Bool) (state : State) → FitsState columns state → EachArrives Kept (decided answer value state)
  decided_keeps true state fits = (fits, tt)
  decided_keeps false state fits = tt

  joining_keeps : (without : Bool) (row : Row) (state : State) → length row.coefs ≤ columns → EntriesAreBelow (2 ^ 50) row → FitsState columns state
      → EachArrives Kept (joining without row value state)
  joining_keeps true row state long small fits = decided_keeps (holds_alone row) state fits
  joining_keeps false row state long small fits = (
    record {
      same = fits.same;
      rows = All-push (λ (r : Row). length r.coefs ≤ columns) state.rows row fits.rows long;
      small = All-push (EntriesAreBelow (2 ^ 50)) state.rows row fits.small small;
    },
    tt,
  )

  tight_keeps : (o : Option Row) (row : Row) (state : State) → tight_fitting row ≡ o → length row.coefs ≤ columns → FitsState columns state
      → EachArrives Kept (joined_tight o value state)
  tight_keeps None row state is long fits = tt
  tight_keeps (Some tight) row state is long fits =
      let small = tight_is_small row tight is in
      joining_keeps (are_zeros tight.coefs) tight state (omega (arith, small.1, long)) small.0 fits

  joined_keeps : (row : Row) (state : State) → length row.coefs ≤ columns → FitsState columns state → EachArrives Kept (joined row value state)
  joined_keeps row state long fits = tight_keeps (tight_fitting row) row state refl long fits

all_keep : {A : Type 0} (columns : ℕ) (value : A) (rows : List Row) (state : State) → All (λ row. length row.coefs ≤ columns) rows
    → FitsState columns state → EachArrives (λ path. FitsState columns path.state) (all_joined rows value state)
all_keep columns value [] state long fits = (fits, tt)
all_keep columns value (row ∷ rows) state long fits =
    onward_each (λ _ next. all_joined rows value next) (λ path. FitsState columns path.state) (λ path. FitsState columns path.state)
    (joined row (tt {0}) state)
    (λ path kept. all_keep columns value rows path.state (All-tail (λ (r : Row). length r.coefs ≤ columns) row rows long) kept)
    (joined_keeps columns (tt {0}) row state (All-head (λ (r : Row). length r.coefs ≤ columns) row rows long) fits)

-- ---- lengths of forms over forms

length-plus_longer : (xs ys : List ℤ) → length ys ≤ length xs → length (plus xs ys) ≡ length xs
length-plus_longer [] [] long = refl
length-plus_longer [] (y ∷ ys) long = absurd (omega arith)
length-plus_longer (x ∷ xs) [] long = refl
length-plus_longer (x ∷ xs) (y ∷ ys) long = ap suc (length-plus_longer xs ys (omega arith))

length-plus_below : (n : ℕ) (xs ys : List ℤ) → length xs ≤ n → length ys ≤ n → length (plus xs ys) ≤ n
length-plus_below n [] ys long_x long_y = long_y
length-plus_below n (x ∷ xs) [] long_x long_y = long_x
length-plus_below zero (x ∷ xs) (y ∷ ys) long_x long_y = absurd (omega arith)
length-plus_below (suc n) (x ∷ xs) (y ∷ ys) long_x long_y =
    let later = length-plus_below n xs ys (omega arith) (omega arith) in omega arith

length-combined : (n : ℕ) (factors : List ℤ) (forms : List Form) → All (λ form. length form.coefs ≤ n) forms
    → length (combined_coefs factors forms) ≤ n
length-combined n [] forms long = omega arith
length-combined n (k ∷ factors) [] long = omega arith
length-combined n (k ∷ factors) (form ∷ forms) long =
    let first : length form.coefs ≤ n = All-head (λ (f : Form). length f.coefs ≤ n) form forms long in
    length-plus_below n (scaled k form.coefs) (combined_coefs factors forms) (omega (arith, length-scaled k form.coefs, first))
    (length-combined n factors forms (All-tail (λ (f : Form). length f.coefs ≤ n) form forms long))

-- a form over forms of at most n columns has n columns
pub length-composed : (n : ℕ) (factors : List ℤ) (forms : List Form) → All (λ form. length form.coefs ≤ n) forms
    → length (composed_coefs n factors forms) ≡ n
length-composed n factors forms long =
    let zeros = length-replicate n (pos 0) in
    length-plus_longer (replicate n (pos 0)) (combined_coefs factors forms) (omega (arith, zeros, length-combined n factors forms long)) ∙ zeros

-- the forms of variables have a column for each
pub variables_long : (room j n : ℕ) → All (λ form. length form.coefs ≤ room) (variables_from room j n)
variables_long room j zero = All-nil (λ (f : Form). length f.coefs ≤ room)
variables_long room j (suc n) =
    let here : length (variable_form room j).coefs ≡ room = length-set (replicate room (pos 0)) j (pos 1) ∙ length-replicate room (pos 0) in
    All-cons (λ (f : Form). length f.coefs ≤ room) (variable_form room j) (variables_from room (suc j) n) (omega (arith, here))
    (variables_long room (suc j) n)

-- and small entries
pub variables_small : (room j n : ℕ) → j + n ≤ room → All IsFittingForm (variables_from room j n)
variables_small room j zero few = All-nil IsFittingForm
variables_small room j (suc n) few =
    All-cons IsFittingForm (variable_form room j) (variables_from room (suc j) n) (variable_fits room j (omega (arith, few)))
    (variables_small room (suc j) n (omega (arith, few)))

pub length-variables : (room j n : ℕ) → length (variables_from room j n) ≡ n
length-variables room j zero = refl
length-variables room j (suc n) = ap suc (length-variables room (suc j) n)

-- ---- a later segment's case

module _ (starts : List Start) (width : ℕ) where
  ended_fits : (columns : ℕ) (l : Place) (forms : List Form) (state : State) → width ≤ columns → columns ≤ room_for width
      → FitsState columns state → All (λ form. length form.coefs ≤ columns) forms → HasStart starts l → length forms ≡ width_in starts l
      → EachArrives (FitsPath starts width) (ended l forms state)
  ended_fits columns l forms state enough few fits long has after = on (all_fit forms) refl
    where
      on : (t : Bool) → all_fit forms ≡ t → EachArrives (FitsPath starts width) (cond t (gives (end_at l forms) state) (stops limit.WideForm))
      on true small = (
        record {
          enough = omega (arith, fits.same, enough);
          few = omega (arith, fits.same, few);
          rows = subst (λ (n : ℕ). All (λ row. length row.coefs ≤ n) state.rows) (sym fits.same) fits.rows;
          rows_fit = fits.small;
          forms = subst (λ (n : ℕ). All (λ form. length form.coefs ≤ n) forms) (sym fits.same) long;
          forms_fit = forms_fit forms small;
          has = has;
          after = after;
        },
        tt,
      )
      on false small = tt

  module _ (end : End) (state : State) (here : FitsPath starts width (record { state = state; value = end })) where
    module _ (columns unknowns : ℕ) (more : state.columns ≤ columns) (few : columns ≤ room_for width) where
      abbrev forms_over : List Form
      forms_over = end.forms ++ variables_from columns state.columns unknowns

      over_long : All (λ form. length form.coefs ≤ columns) forms_over
      over_long =
          All-append (λ (f : Form). length f.coefs ≤ columns) end.forms (variables_from columns state.columns unknowns)
          (All-weaker (λ (f : Form). length f.coefs ≤ state.columns) (λ (f : Form). length f.coefs ≤ columns) (λ f long. omega (arith, long, more))
          end.forms here.forms)
          (variables_long columns state.columns unknowns)

      wider_state : FitsState columns (with_columns columns state)
      wider_state = record {
        same = refl;
        rows = All-weaker (λ (r : Row). length r.coefs ≤ state.columns) (λ (r : Row). length r.coefs ≤ columns) (λ r long. omega (arith, long, more))
            state.rows here.rows;
        small = here.rows_fit;
      }

      rows_long : (rows : List Row) → All (λ row. length row.coefs ≤ columns) (map (row_over columns forms_over) rows)
      rows_long rows =
          All-map (λ (r : Row). length r.coefs ≤ columns) (row_over columns forms_over) rows
          (λ k d below. omega (arith, length-composed columns (get_or rows k d).coefs forms_over over_long))

      forms_long : (forms : List Form) → All (λ form. length form.coefs ≤ columns) (map (form_over columns forms_over) forms)
      forms_long forms =
          All-map (λ (f : Form). length f.coefs ≤ columns) (form_over columns forms_over) forms
          (λ k d below. omega (arith, length-composed columns (get_or forms k d).coefs forms_over over_long))

      case_with_fits : (before : ℕ) (case : Case) → FitsCase starts before case
          → EachArrives (FitsPath starts width) (case_with columns unknowns end.forms case state)
      case_with_fits before case fits =
          onward_each (λ _ next. ended case.to (map (form_over columns forms_over) case.after) next) (λ path. FitsState columns path.state)
          (FitsPath starts width) (all_joined (map (row_over columns forms_over) case.rows) (tt {0}) (with_columns columns state))
          (λ path kept. ended_fits columns case.to (map (form_over columns forms_over) case.after) path.state (omega (arith, here.enough, more)) few kept
          (forms_long case.after) fits.has (length-map case.after (form_over columns forms_over) ∙ fits.after))
          (all_keep columns (tt {0}) (map (row_over columns forms_over) case.rows) (with_columns columns state) (rows_long case.rows) wider_state)

    -- the paths of a later segment's case fit, where the path to its start does
    pub case_over_fits : (before : ℕ) (case : Case) → FitsCase starts before case
        → EachArrives (FitsPath starts width) (case_over (room_for width) end.forms case state)
    case_over_fits before case fits = on (nat_le (state.columns + unknowns_of (length end.forms) case) (room_for width)) refl
      where
        on : (t : Bool) → nat_le (state.columns + unknowns_of (length end.forms) case) (room_for width) ≡ t
            → EachArrives (FitsPath starts width) (cond t
            (case_with (state.columns + unknowns_of (length end.forms) case) (unknowns_of (length end.forms) case) end.forms case state)
            (stops limit.ManyUnknowns))
        on true within =
            case_with_fits (state.columns + unknowns_of (length end.forms) case) (unknowns_of (length end.forms) case) (omega arith)
            (grind (arith, nat_tests)) before case fits
        on false within = tt

    -- the same of all cases
    pub cases_over_fit : (before : ℕ) (cases : List Case) → All (FitsCase starts before) cases
        → EachArrives (FitsPath starts width) (cases_over (room_for width) end.forms cases state)
    cases_over_fit before cases fit =
        each_holds (FitsPath starts width) (λ case. case_over (room_for width) end.forms case state) cases
        (All-weaker (FitsCase starts before) (λ (c : Case). EachArrives (FitsPath starts width) (case_over (room_for width) end.forms c state))
        (λ c fits. case_over_fits before c fits) cases fit)

-- ---- a move

module _ (starts : List Start) (fits : FitStarts starts) where
  -- the paths of the segments behind an end fit, where the path to it does
  pub from_fits : (width count : ℕ) (end : End) (state : State) → FitsPath starts width (record { state = state; value = end })
      → EachArrives (FitsPath starts width) (side_from starts (room_for width) count end state)
  from_fits width zero end state here = (here, tt)
  from_fits width (suc count) end state here =
      moved_each (FitsPath starts width) end.place (cases_over (room_for width) end.forms (cases_in starts end.place) state)
      (side_from starts (room_for width) count) end state (λ at_exit. here)
      (λ other. cases_over_fit starts width end state here (width_in starts end.place) (cases_in starts end.place) (cases_fit_in starts fits end.place other))
      (λ path kept. from_fits width count path.value path.state kept)

  -- a side that stays has a path that fits
  pub start_fits_itself : (l : Place) → HasStart starts l
      → FitsPath starts (width_in starts l) (record { state = start_state (width_in starts l); value = at_start (width_in starts l) l })
  start_fits_itself l has = record {
    enough = omega arith;
    few = omega arith;
    rows = All-nil (λ (r : Row). length r.coefs ≤ width_in starts l);
    rows_fit = All-nil (EntriesAreBelow (2 ^ 50));
    forms = variables_long (width_in starts l) 0 (width_in starts l);
    forms_fit = variables_small (width_in starts l) 0 (width_in starts l) (omega arith);
    has = has;
    after = length-variables (width_in starts l) 0 (width_in starts l);
  }

  -- a case at hand is a path that fits
  pub case_fits_itself : (width : ℕ) (case : Case) → FitsCase starts width case → FitsPath starts width (path_of width case)
  case_fits_itself width case over = record {
    enough = over.enough;
    few = over.few;
    rows = All-weaker (λ (r : Row). length r.coefs ≡ columns_in width case.rows case.after)
        (λ (r : Row). length r.coefs ≤ columns_in width case.rows case.after) (λ r long. omega (arith, long)) case.rows over.rows;
    rows_fit = over.rows_fit;
    forms = All-weaker (λ (f : Form). length f.coefs ≡ columns_in width case.rows case.after)
        (λ (f : Form). length f.coefs ≤ columns_in width case.rows case.after) (λ f long. omega (arith, long)) case.after over.forms;
    forms_fit = over.forms_fit;
    has = over.has;
    after = over.after;
  }

  -- the paths that the walk of a move arrives by fit
  pub walk_fits : (count : ℕ) (l : Place) → HasStart starts l → EachArrives (FitsPath starts (width_in starts l)) (side_walk starts count l)
  walk_fits zero l has = (start_fits_itself l has, tt)
  walk_fits (suc count) l has =
      moved_each (FitsPath starts (width_in starts l)) l (walk_of_cases (width_in starts l) (cases_in starts l))
      (side_from starts (room_for (width_in starts l)) count) (at_start (width_in starts l) l) (start_state (width_in starts l))
      (λ at_exit. start_fits_itself l has)
      (λ other. at_hand (FitsPath starts (width_in starts l)) (width_in starts l) (cases_in starts l)
      (All-weaker (FitsCase starts (width_in starts l)) (λ (c : Case). FitsPath starts (width_in starts l) (path_of (width_in starts l) c))
      (case_fits_itself (width_in starts l)) (cases_in starts l) (cases_fit_in starts fits l other)))
      (λ path kept. from_fits (width_in starts l) count path.value path.state kept)

-- The paths of a side's move fit.
pub paths_fit : (starts : List Start) → FitStarts starts → (count : ℕ) (l : Place) → HasStart starts l → (paths : List (Path End))
    → side_cases starts count l ≡ Ok paths → All (FitsPath starts (width_in starts l)) paths
paths_fit starts fits count l has paths made =
    all_of_each (FitsPath starts (width_in starts l)) paths
    (each_collected (FitsPath starts (width_in starts l)) 1024 (side_walk starts count l) paths made (walk_fits starts fits count l has))

-- ---- where it ends

-- The path ends at a place that is not the entry.
abbrev pub IsElsewhere : Path End → Type 0
IsElsewhere path = path.value.place ≢ place.Entry

module _ (starts : List Start) (fits : FitStarts starts) where
  ended_elsewhere : (l : Place) (forms : List Form) (state : State) → l ≢ place.Entry → EachArrives IsElsewhere (ended l forms state)
  ended_elsewhere l forms state other = on (all_fit forms)
    where
      on : (t : Bool) → EachArrives IsElsewhere (cond t (gives (end_at l forms) state) (stops limit.WideForm))
      on true = (other, tt)
      on false = tt

  each_is_unit : {A : Type 0} → (walk : Walk A) → EachArrives (λ path. Unit {0}) walk
  each_is_unit [] = tt
  each_is_unit (Arrives path ∷ walk) = (tt, each_is_unit walk)
  each_is_unit (Stops why ∷ walk) = each_is_unit walk

  rows_and_end_elsewhere : (columns : ℕ) (forms : List Form) (case : Case) (state : State) → case.to ≢ place.Entry
      → EachArrives IsElsewhere (rows_and_end columns forms case state)
  rows_and_end_elsewhere columns forms case state other =
      onward_each (λ _ next. ended case.to (map (form_over columns forms) case.after) next) (λ path. Unit {0}) IsElsewhere
      (all_joined (map (row_over columns forms) case.rows) (tt {0}) state)
      (λ path _. ended_elsewhere case.to (map (form_over columns forms) case.after) path.state other)
      (each_is_unit (all_joined (map (row_over columns forms) case.rows) (tt {0}) state))

  case_elsewhere : (most : ℕ) (forms : List Form) (case : Case) (state : State) → case.to ≢ place.Entry
      → EachArrives IsElsewhere (case_over most forms case state)
  case_elsewhere most forms case state other = on (nat_le (state.columns + unknowns_of (length forms) case) most)
    where
      on : (t : Bool) → EachArrives IsElsewhere (cond t
          (case_with (state.columns + unknowns_of (length forms) case) (unknowns_of (length forms) case) forms case state) (stops limit.ManyUnknowns))
      on true = rows_and_end_elsewhere (state.columns + unknowns_of (length forms) case)
          (forms ++ variables_from (state.columns + unknowns_of (length forms) case) state.columns (unknowns_of (length forms) case)) case
          (with_columns (state.columns + unknowns_of (length forms) case) state) other
      on false = tt

  cases_elsewhere : (most : ℕ) (forms : List Form) (l : Place) (state : State) → l ≢ place.Exit
      → EachArrives IsElsewhere (cases_over most forms (cases_in starts l) state)
  cases_elsewhere most forms l state other =
      each_holds IsElsewhere (λ case. case_over most forms case state) (cases_in starts l)
      (All-weaker (FitsCase starts (width_in starts l)) (λ (c : Case). EachArrives IsElsewhere (case_over most forms c state))
      (λ c over. case_elsewhere most forms c state over.elsewhere) (cases_in starts l) (cases_fit_in starts fits l other))

  from_elsewhere : (most count : ℕ) (end : End) (state : State) → end.place ≢ place.Entry
      → EachArrives IsElsewhere (side_from starts most count end state)
  from_elsewhere most zero end state other = (other, tt)
  from_elsewhere most (suc count) end state other =
      moved_each IsElsewhere end.place (cases_over most end.forms (cases_in starts end.place) state) (side_from starts most count) end state
      (λ at_exit. other) (λ no_exit. cases_elsewhere most end.forms end.place state no_exit)
      (λ path kept. from_elsewhere most count path.value path.state kept)

  walk_elsewhere : (count : ℕ) (l : Place) → (l ≢ place.Entry) ⊎ (0 < count) → EachArrives IsElsewhere (side_walk starts count l)
  walk_elsewhere zero l (inl other) = (other, tt)
  walk_elsewhere zero l (inr some) = absurd (omega (arith, some))
  walk_elsewhere (suc count) l either =
      moved_each IsElsewhere l (walk_of_cases (width_in starts l) (cases_in starts l)) (side_from starts (room_for (width_in starts l)) count)
      (at_start (width_in starts l) l) (start_state (width_in starts l))
      (λ at_exit entry. let same : place.Exit ≡ place.Entry = sym at_exit ∙ entry in cc)
      (λ other. at_hand IsElsewhere (width_in starts l) (cases_in starts l)
      (All-weaker (FitsCase starts (width_in starts l)) (λ (c : Case). c.to ≢ place.Entry) (λ c over. over.elsewhere) (cases_in starts l)
      (cases_fit_in starts fits l other)))
      (λ path kept. from_elsewhere (room_for (width_in starts l)) count path.value path.state kept)

-- A path of a move ends at a place that is not the entry, unless the side stays there.
pub paths_end : (starts : List Start) → FitStarts starts → (count : ℕ) (l : Place) → (l ≢ place.Entry) ⊎ (0 < count) → (paths : List (Path End))
    → side_cases starts count l ≡ Ok paths → All (λ path. path.value.place ≢ place.Entry) paths
paths_end starts fits count l either paths made =
    all_of_each IsElsewhere paths (each_collected IsElsewhere 1024 (side_walk starts count l) paths made (walk_elsewhere starts fits count l either))
