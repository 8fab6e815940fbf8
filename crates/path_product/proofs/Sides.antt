-- The paths of a side's move say where the side moves, both ways.
use Rattle.std.proofs.Common.{◌≡◌, ◌≢◌, ◌↔◌, ℕ, zero, suc, ◌+◌, ◌-◌, ◌≤◌, Bool, true, false, List, [], ◌∷◌, ◌++◌, map, length, take, drop, All, refl, sym, ap, subst, ◌∙◌, inl, inr, append_assoc, length-append, length-take-le, take-append-drop, append-nil, arith}
use Rattle.std.specs.Prelude.{ℤ, ◌+ℤ◌, ◌*ℤ◌, Ok}
use Rattle.std.proofs.lemmas.List.Elements.{All-nil, All-cons, All-head, All-tail}
use Rattle.c_ast.specs.declared.place.Place.{Place}
use Rattle.c_ast.specs.declared.place.Place.TheVariants as place
use Rattle.c_ast.specs.Place.{is_same_place}
use Rattle.alignment.specs.Moves.{GoesOnOrStops, Takes}
use Rattle.lin_terms.specs.declared.form.Form.{Form}
use Rattle.lin_terms.specs.declared.row.Row.{Row}
use Rattle.lin_terms.specs.Form.{value_at}
use Rattle.lin_terms.specs.Row.{Allows, Holds}
use Rattle.lin_terms.specs.Vectors.{dot}
use Rattle.horn_clauses.specs.Clause.{columns_in}
use Rattle.flow_graph.specs.FlowGraph.{FlowGraph, width_at, GoesOnAt, HasPlace}
use Rattle.flow_graph.specs.Run.{IsGraphSegment}
use Rattle.flow_graph.specs.WellFormed.{IsFlowGraph}
use Rattle.flow_graph.proofs.Laws.{graph_segment_exists, graph_segment_fits}
use Rattle.sym_paths.specs.declared.case.Case.{Case}
use Rattle.sym_paths.specs.Walk.{State, Path, gives}
use Rattle.sym_paths.specs.Nodes.{End, end_at}
use Rattle.sym_paths.specs.Cases.{room_for, variables_from, start_state, LeadsWith, LeadsTo}
use Rattle.sym_paths.specs.Points.{HaveValues, HoldsBefore, Extends, IsPoint, EachArrives, SomeArrives, SomeOf, ReachedFrom, Splits}
use Rattle.sym_paths.proofs.Laws.{each_changed, some_changed, changed, gives_splits, onward_splits, values_stay, values_are_those, rows_hold_there, variables_have_values, law_of_cases}
use Rattle.path_product.specs.declared.starts.Start.{Start}
use Rattle.path_product.specs.Starts.{starts_of, width_in, cases_in}
use Rattle.path_product.specs.Compose.{unknowns_of, cases_over}
use Rattle.path_product.specs.Fits.{HasStart, FitsCase, FitStarts}
use Rattle.path_product.specs.Sides.{goes_on, goes_on_or_stays, path_of, walk_of_cases, at_start, side_from, side_walk, side_cases}
use Rattle.path_product.proofs.StartsFit.{cases_stand, widths_are, starts_have}
use Rattle.path_product.proofs.PathsFit.{cases_fit_in}
use Rattle.path_product.proofs.Begins.{EndsAs, IsRightFrom, Begins, BeginBy, begins_collected, begins_splits, some_splits, onward_begins}
use Rattle.path_product.proofs.Composing.{extends_by, same_length, Composed, HeldBy, ComposedOf, cases_sound, cases_complete}

-- ---- cases at hand

-- what holds of a case that some fact picks
chosen : (P : Path End → Type 0) (Q : Case → Type 0) (R : Type 0) (width : ℕ) (cases : List Case) → ((case : Case) → P (path_of width case) → Q case → R)
    → EachArrives P (walk_of_cases width cases) → SomeOf Q cases → R
chosen P Q R width [] both each some = absurd some
chosen P Q R width (case ∷ cases) both each (inl here) = both case each.0 here
chosen P Q R width (case ∷ cases) both each (inr later) = chosen P Q R width cases both each.1 later

some_at_hand : (P : Path End → Type 0) (Q : Case → Type 0) (width : ℕ) (cases : List Case) → ((case : Case) → P (path_of width case) → Q case)
    → SomeArrives P (walk_of_cases width cases) → SomeOf Q cases
some_at_hand P Q width [] one some = some
some_at_hand P Q width (case ∷ cases) one (inl here) = inl (one case here)
some_at_hand P Q width (case ∷ cases) one (inr later) = inr (some_at_hand P Q width cases one later)

-- ---- several segments, of any relation between places and values

-- The place is one of the starts, or the exit, and there are as many values as a run has there.
pub record StandsAt (starts : List Start) (l : Place) (e : List ℤ) : Type 0 where
  pub has : HasStart starts l
  pub long : length e ≡ width_in starts l

module _ (starts : List Start) (Segment : Place → List ℤ → Place → List ℤ → Type 0) where
  -- From each place and all values there, the cases say where a segment leads.
  abbrev pub AreExact : Type 0
  AreExact = (l : Place) (e : List ℤ) → l ≢ place.Exit → StandsAt starts l e
      → Begins e (EndsAs (λ l' e'. Segment l e l' e' × StandsAt starts l' e')) (walk_of_cases (width_in starts l) (cases_in starts l))

module _ (starts : List Start) (Segment : Place → List ℤ → Place → List ℤ → Type 0) (exact : AreExact starts Segment) where
  abbrev Left : Place → List ℤ → List ℤ → End → Type 0
  Left l e = EndsAs (λ l' e'. Segment l e l' e' × StandsAt starts l' e')

  abbrev Moved : ℕ → Place → List ℤ → List ℤ → End → Type 0
  Moved count l e = EndsAs (λ l' e'. Takes Segment count l e l' e')

  abbrev Stands : Place → List Form → List ℤ → List ℤ → Type 0
  Stands l forms e point = HaveValues point forms e × StandsAt starts l e

  -- ---- one segment

  module _ (l : Place) (e : List ℤ) (forms : List Form) (same : length forms ≡ length e) (stands : StandsAt starts l e) where
    width_is : length forms ≡ width_in starts l
    width_is = same ∙ stands.long

    columns_are : (case : Case) → columns_in (length forms) case.rows case.after ≡ columns_in (width_in starts l) case.rows case.after
    columns_are case = ap (λ (k : ℕ). columns_in k case.rows case.after) width_is

    left_of_case : (point : List ℤ) (end : End) (case : Case) → IsRightFrom e (Left l e) (path_of (width_in starts l) case)
        → Composed e (unknowns_of (length forms) case) case point end → Left l e point end
    left_of_case point end case right composed =
        let long = length-append e composed.numbers in
        let unknowns : unknowns_of (length forms) case ≡ columns_in (length forms) case.rows case.after - length forms = refl in
        let at : IsPoint (e ++ composed.numbers) (path_of (width_in starts l) case).state = record {
          room = omega (arith, long, composed.many, unknowns, columns_are case, same);
          holds = composed.holds;
        } in
        let ends = right (e ++ composed.numbers) (extends_by e composed.numbers) at in (
          ends.0,
          subst (HaveValues point end.forms) (values_are_those (e ++ composed.numbers) case.after ends.0 ends.1) composed.have,
          subst (λ (p : Place). Segment l e p ends.0 × StandsAt starts p ends.0) (sym composed.place) ends.2,
        )

    held_of_case : (most : ℕ) (state : State) (case : Case) → ReachedFrom e (Left l e) (path_of (width_in starts l) case) → HeldBy most e forms state case
    held_of_case most state case reached =
        let long = length-append e reached.extends.behind in
        let all : length reached.longer ≡ length (e ++ reached.extends.behind) = ap (λ (xs : List ℤ). length xs) reached.extends.is in
        let unknowns : unknowns_of (length forms) case ≡ columns_in (length forms) case.rows case.after - length forms = refl in (
          reached.extends.behind,
          omega (arith, long, all, unknowns, columns_are case, same, reached.whole.exact),
          subst (λ (xs : List ℤ). All (Holds xs) case.rows) reached.extends.is (rows_hold_there reached.longer case.rows reached.whole.holds),
        )

  segment_splits : (most : ℕ) (l : Place) → l ≢ place.Exit → (e : List ℤ) (forms : List Form) (state : State)
      → Splits state (Stands l forms e) (Left l e) (cases_over most forms (cases_in starts l) state)
  segment_splits most l other e forms state = record {
    sound = each_changed _ _ (cases_over most forms (cases_in starts l) state)
        (λ path right point is.
        let both = right point is in (
          both.0,
          λ stands.
              let same = same_length point forms e stands.0 in
              chosen (IsRightFrom e (Left l e)) (λ case. Composed e (unknowns_of (length forms) case) case point path.value) (Left l e point path.value)
              (width_in starts l) (cases_in starts l) (λ case. left_of_case l e forms same stands.1 point path.value case)
              (exact l e other stands.1).sound (both.1 stands.0),
        ))
        (cases_sound most e forms state (cases_in starts l));
    complete = λ point whole stands.
        let same = same_length point forms e stands.0 in
        some_changed (ReachedFrom point (ComposedOf most e forms state (cases_in starts l))) (ReachedFrom point (Left l e))
        (cases_over most forms (cases_in starts l) state)
        (λ path r. record {
          longer = r.longer;
          extends = r.extends;
          whole = r.whole;
          has = chosen (IsRightFrom e (Left l e)) (λ case. Composed e (unknowns_of (length forms) case) case r.longer path.value)
              (Left l e r.longer path.value) (width_in starts l) (cases_in starts l)
              (λ case. left_of_case l e forms same stands.1 r.longer path.value case) (exact l e other stands.1).sound r.has;
        })
        (cases_complete most e forms state (cases_in starts l)
        (some_at_hand (ReachedFrom e (Left l e)) (HeldBy most e forms state) (width_in starts l) (cases_in starts l)
        (held_of_case l e forms same stands.1 most state) (exact l e other stands.1).complete) point whole stands.0);
  }

  -- ---- several

  stays_splits : (count : ℕ) (l : Place) (e : List ℤ) (forms : List Form) (state : State) → Takes Segment count l e l e
      → Splits state (Stands l forms e) (Moved count l e) (gives (end_at l forms) state)
  stays_splits count l e forms state takes =
      gives_splits state (Stands l forms e) (Moved count l e) (end_at l forms) (λ point stands. (e, stands.0, takes))

  -- a segment was taken, and the side goes on, or it stays
  on_or_stays_splits : (most count : ℕ) (goes : Bool) (l : Place) (e : List ℤ) (forms : List Form) (state : State)
      → Splits state (Stands l forms e) (Moved count l e) (side_from starts most count (end_at l forms) state)
      → Splits state (Stands l forms e)
      (EndsAs (λ l' e'. GoesOnOrStops goes (Takes Segment count l e l' e') ((l' ≡ l) × (e' ≡ e))))
      (goes_on_or_stays goes (side_from starts most count) (end_at l forms) state)
  on_or_stays_splits most count true l e forms state splits = splits
  on_or_stays_splits most count false l e forms state splits =
      gives_splits state (Stands l forms e) _ (end_at l forms) (λ point stands. (e, stands.0, (refl, refl)))

  -- what is known behind the first segment
  abbrev Between : Place → List ℤ → End → List ℤ → List ℤ → Type 0
  Between l e end values point = HaveValues point end.forms values × Segment l e end.place values × StandsAt starts end.place values

  entry_on : (most count : ℕ) (e : List ℤ) (end : End) (state : State)
      → ((values : List ℤ) → Splits state (Stands end.place end.forms values) (Moved count end.place values) (side_from starts most count end state))
      → Splits state (λ point. Left place.Entry e point end) (Moved (suc count) place.Entry e) (side_from starts most count end state)
  entry_on most count e end state splits =
      some_splits state (λ point. Left place.Entry e point end) (Between place.Entry e end) (Moved (suc count) place.Entry e)
      (side_from starts most count end state) (λ point left. (left.0, (left.1, left.2.0, left.2.1)))
      (λ values. changed state (Stands end.place end.forms values) (Between place.Entry e end values) (Moved count end.place values)
      (Moved (suc count) place.Entry e) (side_from starts most count end state) (λ point between. (between.0, between.2))
      (λ last point longer further between moved. (moved.0, moved.1, (end.place, values, between.1, moved.2))) (splits values))

  mark_on : (most count mark : ℕ) (e : List ℤ) (end : End) (state : State)
      → ((values : List ℤ) → Splits state (Stands end.place end.forms values) (Moved count end.place values) (side_from starts most count end state))
      → Splits state (λ point. Left (place.Mark mark) e point end) (Moved (suc count) (place.Mark mark) e)
      (goes_on_or_stays (is_same_place end.place (place.Mark mark)) (side_from starts most count) end state)
  mark_on most count mark e end state splits =
      some_splits state (λ point. Left (place.Mark mark) e point end) (Between (place.Mark mark) e end) (Moved (suc count) (place.Mark mark) e)
      (goes_on_or_stays (is_same_place end.place (place.Mark mark)) (side_from starts most count) end state)
      (λ point left. (left.0, (left.1, left.2.0, left.2.1)))
      (λ values. changed state (Stands end.place end.forms values) (Between (place.Mark mark) e end values)
      (EndsAs (λ l' e'. GoesOnOrStops (is_same_place end.place (place.Mark mark)) (Takes Segment count end.place values l' e')
      ((l' ≡ end.place) × (e' ≡ values))))
      (Moved (suc count) (place.Mark mark) e) (goes_on_or_stays (is_same_place end.place (place.Mark mark)) (side_from starts most count) end state)
      (λ point between. (between.0, between.2))
      (λ last point longer further between moved. (moved.0, moved.1, (end.place, values, between.1, moved.2)))
      (on_or_stays_splits most count (is_same_place end.place (place.Mark mark)) end.place values end.forms state (splits values)))

  mark_is_no_exit : (mark : ℕ) → place.Mark mark ≢ place.Exit
  mark_is_no_exit mark is = cc

  entry_is_no_exit : place.Entry ≢ place.Exit
  entry_is_no_exit is = cc

  -- the segments behind an end split its points, and each path ends as the side does then
  pub from_splits : (most count : ℕ) (l : Place) (e : List ℤ) (forms : List Form) (state : State)
      → Splits state (Stands l forms e) (Moved count l e) (side_from starts most count (end_at l forms) state)
  from_splits most zero l e forms state = stays_splits 0 l e forms state (refl, refl)
  from_splits most (suc count) place.Entry e forms state =
      onward_splits (Moved (suc count) place.Entry e) (λ next after. goes_on_or_stays (goes_on place.Entry next.place) (side_from starts most count) next after)
      state (Stands place.Entry forms e) (Left place.Entry e) (cases_over most forms (cases_in starts place.Entry) state)
      (segment_splits most place.Entry entry_is_no_exit e forms state)
      (λ end after. entry_on most count e end after (λ values. from_splits most count end.place values end.forms after))
  from_splits most (suc count) (place.Mark mark) e forms state =
      onward_splits (Moved (suc count) (place.Mark mark) e)
      (λ next after. goes_on_or_stays (goes_on (place.Mark mark) next.place) (side_from starts most count) next after) state
      (Stands (place.Mark mark) forms e) (Left (place.Mark mark) e) (cases_over most forms (cases_in starts (place.Mark mark)) state)
      (segment_splits most (place.Mark mark) (mark_is_no_exit mark) e forms state)
      (λ end after. mark_on most count mark e end after (λ values. from_splits most count end.place values end.forms after))
  from_splits most (suc count) place.Exit e forms state = stays_splits (suc count) place.Exit e forms state (refl, refl)

  -- ---- from the start

  stay_begins : (count : ℕ) (l : Place) (e : List ℤ) → StandsAt starts l e → Takes Segment count l e l e
      → Begins e (Moved count l e) (gives (at_start (width_in starts l) l) (start_state (width_in starts l)))
  stay_begins count l e stands takes =
      let width : ℕ = width_in starts l in
      begins_splits e (start_state width) (Extends e) (Moved count l e) (gives (at_start width l) (start_state width))
      (record { exact = stands.long; holds = All-nil (HoldsBefore e) }) (λ point further. further)
      (gives_splits (start_state width) (Extends e) (Moved count l e) (at_start width l)
      (λ point further. (
        e,
        values_stay e point (variables_from width 0 width) e further
            (variables_have_values width 0 width e (omega (arith, stands.long)) (omega (arith, stands.long))),
        takes,
      )))

  -- the walk of a move, over any segments that the cases are exact for
  pub walk_begins : (count : ℕ) (l : Place) (e : List ℤ) → StandsAt starts l e
      → Begins e (EndsAs (λ l' e'. Takes Segment count l e l' e')) (side_walk starts count l)
  walk_begins zero l e stands = stay_begins 0 l e stands (refl, refl)
  walk_begins (suc count) place.Entry e stands =
      let most : ℕ = room_for (width_in starts place.Entry) in
      onward_begins (Moved (suc count) place.Entry e) (λ next after. goes_on_or_stays (goes_on place.Entry next.place) (side_from starts most count) next after)
      e (Left place.Entry e) (walk_of_cases (width_in starts place.Entry) (cases_in starts place.Entry)) (exact place.Entry e entry_is_no_exit stands)
      (λ end after. entry_on most count e end after (λ values. from_splits most count end.place values end.forms after))
  walk_begins (suc count) (place.Mark mark) e stands =
      let most : ℕ = room_for (width_in starts (place.Mark mark)) in
      onward_begins (Moved (suc count) (place.Mark mark) e)
      (λ next after. goes_on_or_stays (goes_on (place.Mark mark) next.place) (side_from starts most count) next after) e (Left (place.Mark mark) e)
      (walk_of_cases (width_in starts (place.Mark mark)) (cases_in starts (place.Mark mark)))
      (exact (place.Mark mark) e (mark_is_no_exit mark) stands)
      (λ end after. mark_on most count mark e end after (λ values. from_splits most count end.place values end.forms after))
  walk_begins (suc count) place.Exit e stands = stay_begins (suc count) place.Exit e stands (refl, refl)

-- ---- numbers behind those of the columns change nothing

dot_front : (coefs xs ys : List ℤ) → length coefs ≤ length xs → dot coefs (xs ++ ys) ≡ dot coefs xs
dot_front [] xs ys long = refl
dot_front (c ∷ coefs) [] ys long = absurd (omega arith)
dot_front (c ∷ coefs) (x ∷ xs) ys long = ap (λ (z : ℤ). (c *ℤ x) +ℤ z) (dot_front coefs xs ys (omega arith))

values_there : (point : List ℤ) (forms : List Form) → All (λ form. length form.coefs ≡ length point) forms
    → HaveValues point forms (map (λ form. value_at form point) forms)
values_there point [] lengths = tt
values_there point (form ∷ forms) lengths =
    let here : length form.coefs ≡ length point = All-head (λ (f : Form). length f.coefs ≡ length point) form forms lengths in (
      λ behind. ap (λ (z : ℤ). z +ℤ form.constant) (dot_front form.coefs point behind (omega (arith, here))),
      values_there point forms (All-tail (λ (f : Form). length f.coefs ≡ length point) form forms lengths),
    )

row_front : (point behind : List ℤ) (row : Row) → length row.coefs ≡ length point → Holds (point ++ behind) row ↔ Holds point row
row_front point behind row long =
    let same = ap (λ (z : ℤ). z +ℤ row.constant) (dot_front row.coefs point behind (omega (arith, long))) in
    (λ holds. subst (Allows row.equality) same holds, λ holds. subst (Allows row.equality) (sym same) holds)

rows_stay_there : (point : List ℤ) (rows : List Row) → All (λ row. length row.coefs ≡ length point) rows → All (Holds point) rows
    → All (HoldsBefore point) rows
rows_stay_there point [] lengths hold = All-nil (HoldsBefore point)
rows_stay_there point (row ∷ rows) lengths hold =
    All-cons (HoldsBefore point) row rows
    (λ behind. (row_front point behind row (All-head (λ (r : Row). length r.coefs ≡ length point) row rows lengths)).1
    (All-head (Holds point) row rows hold))
    (rows_stay_there point rows (All-tail (λ (r : Row). length r.coefs ≡ length point) row rows lengths) (All-tail (Holds point) row rows hold))

rows_hold_in_front : (point behind : List ℤ) (rows : List Row) → All (λ row. length row.coefs ≡ length point) rows → All (Holds (point ++ behind)) rows
    → All (Holds point) rows
rows_hold_in_front point behind [] lengths hold = All-nil (Holds point)
rows_hold_in_front point behind (row ∷ rows) lengths hold =
    All-cons (Holds point) row rows
    ((row_front point behind row (All-head (λ (r : Row). length r.coefs ≡ length point) row rows lengths)).0
    (All-head (Holds (point ++ behind)) row rows hold))
    (rows_hold_in_front point behind rows (All-tail (λ (r : Row). length r.coefs ≡ length point) row rows lengths)
    (All-tail (Holds (point ++ behind)) row rows hold))

-- ---- the cases of a graph are exact

-- A case leads, with as many unknowns as it has columns besides its variables.
record LeadsFully (width : ℕ) (e : List ℤ) (l' : Place) (e' : List ℤ) (case : Case) : Type 0 where
  numbers : List ℤ
  many : length (e ++ numbers) ≡ columns_in width case.rows case.after
  leads : LeadsWith e l' e' case numbers

leads_fully : (width : ℕ) (e : List ℤ) (l' : Place) (e' : List ℤ) (rows : List Row) (to : Place) (after : List Form) → length e ≡ width
    → LeadsTo e l' e' (record { rows = rows; to = to; after = after }) → LeadsFully width e l' e' (record { rows = rows; to = to; after = after })
leads_fully width e l' e' (row ∷ rows) to after exact (numbers, leads) =
    record { numbers = numbers; many = sym (All-head (λ (r : Row). length r.coefs ≡ length (e ++ numbers)) row rows leads.columns.0); leads = leads }
leads_fully width e l' e' [] to (form ∷ after) exact (numbers, leads) =
    record { numbers = numbers; many = sym (All-head (λ (f : Form). length f.coefs ≡ length (e ++ numbers)) form after leads.columns.1); leads = leads }
leads_fully width e l' e' [] to [] exact (numbers, leads) = record {
  numbers = [];
  many = ap (λ (xs : List ℤ). length xs) (append-nil e) ∙ exact;
  leads = record {
    columns = (All-nil (λ (r : Row). length r.coefs ≡ length (e ++ [])), All-nil (λ (f : Form). length f.coefs ≡ length (e ++ [])));
    holds = All-nil (Holds (e ++ []));
    place = leads.place;
    values = leads.values;
  };
}

-- each case is right where what some case says is so
each_right : (P : Path End → Type 0) (C : Case → Type 0) (L : Place → List ℤ → Case → Type 0) (S : Place → List ℤ → Type 0) (width : ℕ)
    → ((case : Case) → C case → ((l' : Place) (e' : List ℤ) → L l' e' case → S l' e') → P (path_of width case)) → (cases : List Case) → All C cases
    → ((l' : Place) (e' : List ℤ) → SomeOf (L l' e') cases → S l' e') → EachArrives P (walk_of_cases width cases)
each_right P C L S width one [] fit says = tt
each_right P C L S width one (case ∷ cases) fit says = (
  one case (All-head C case cases fit) (λ l' e' leads. says l' e' (inl leads)),
  each_right P C L S width one cases (All-tail C case cases fit) (λ l' e' some. says l' e' (inr some)),
)

some_reached : (P : Path End → Type 0) (C : Case → Type 0) (L : Case → Type 0) (width : ℕ) → ((case : Case) → C case → L case → P (path_of width case))
    → (cases : List Case) → All C cases → SomeOf L cases → SomeArrives P (walk_of_cases width cases)
some_reached P C L width one [] fit some = absurd some
some_reached P C L width one (case ∷ cases) fit (inl here) = inl (one case (All-head C case cases fit) here)
some_reached P C L width one (case ∷ cases) fit (inr later) = inr (some_reached P C L width one cases (All-tail C case cases fit) later)

module _ (Segment : Place → List ℤ → Type 0) (starts : List Start) (width : ℕ) (e : List ℤ) (exact : length e ≡ width) where
  -- a case of which all that leads is a segment is right
  case_is_right : (case : Case) → FitsCase starts width case → ((l' : Place) (e' : List ℤ) → LeadsTo e l' e' case → Segment l' e')
      → IsRightFrom e (EndsAs Segment) (path_of width case)
  case_is_right case fits says point further is =
      let columns : ℕ = columns_in width case.rows case.after in
      let count : ℕ = columns - width in
      let room : columns ≤ length point = is.room in
      let behind : List ℤ = further.behind in
      let all : length point ≡ length e + length behind = ap (λ (xs : List ℤ). length xs) further.is ∙ length-append e behind in
      let numbers : List ℤ = take count behind in
      let others : List ℤ = drop count behind in
      let many : length numbers ≡ count = length-take-le count behind (omega (arith, room, all, exact)) in
      let long : length (e ++ numbers) ≡ columns = length-append e numbers ∙ omega (arith, many, exact, fits.enough) in
      let point_is : point ≡ (e ++ numbers) ++ others =
      further.is ∙ ap (λ (xs : List ℤ). e ++ xs) (sym (take-append-drop count behind)) ∙ sym (append_assoc e numbers others) in
      let rows_long : All (λ row. length row.coefs ≡ length (e ++ numbers)) case.rows =
      subst (λ (k : ℕ). All (λ (r : Row). length r.coefs ≡ k) case.rows) (sym long) fits.rows in
      let forms_long : All (λ form. length form.coefs ≡ length (e ++ numbers)) case.after =
      subst (λ (k : ℕ). All (λ (f : Form). length f.coefs ≡ k) case.after) (sym long) fits.forms in
      let values : List ℤ = map (λ form. value_at form (e ++ numbers)) case.after in (
        values,
        values_stay (e ++ numbers) point case.after values (record { behind = others; is = point_is }) (values_there (e ++ numbers) case.after forms_long),
        says case.to values (
          numbers,
          record {
            columns = (rows_long, forms_long);
            holds = rows_hold_in_front (e ++ numbers) others case.rows rows_long (subst (λ (xs : List ℤ). All (Holds xs) case.rows) point_is is.holds);
            place = refl;
            values = refl;
          },
        ),
      )

  -- a case that leads where a segment does is reached
  case_is_reached : (l' : Place) (e' : List ℤ) → Segment l' e' → (case : Case) → FitsCase starts width case → LeadsTo e l' e' case
      → ReachedFrom e (EndsAs Segment) (path_of width case)
  case_is_reached l' e' segment case fits some =
      let fully = leads_fully width e l' e' case.rows case.to case.after exact some in
      let leads = fully.leads in record {
        longer = e ++ fully.numbers;
        extends = extends_by e fully.numbers;
        whole = record { exact = fully.many; holds = rows_stay_there (e ++ fully.numbers) case.rows leads.columns.0 leads.holds };
        has = (
          e',
          subst (HaveValues (e ++ fully.numbers) case.after) leads.values (values_there (e ++ fully.numbers) case.after leads.columns.1),
          subst (λ (p : Place). Segment p e') (sym leads.place) segment,
        );
      }

goes_no_exit : (graph : FlowGraph) (l : Place) → GoesOnAt graph l → l ≢ place.Exit
goes_no_exit graph l goes is = subst (GoesOnAt graph) is goes

goes_has : (graph : FlowGraph) (l : Place) → GoesOnAt graph l → HasPlace graph l
goes_has graph place.Entry goes = tt
goes_has graph (place.Mark mark) goes = goes
goes_has graph place.Exit goes = absurd goes

has_goes : (graph : FlowGraph) (l : Place) → l ≢ place.Exit → HasPlace graph l → GoesOnAt graph l
has_goes graph place.Entry other has = tt
has_goes graph (place.Mark mark) other has = has
has_goes graph place.Exit other has = absurd (other refl)

module _ (graph : FlowGraph) (is : IsFlowGraph graph) (starts : List Start) (made : starts_of graph ≡ Ok starts) (fits : FitStarts starts) where
  -- The cases from a place say where a segment leads from there.
  pub starts_exact : (l : Place) (e : List ℤ) → GoesOnAt graph l → length e ≡ width_at graph l
      → Begins e (EndsAs (IsGraphSegment graph l e)) (walk_of_cases (width_in starts l) (cases_in starts l))
  starts_exact l e goes exact =
      let width : ℕ = width_in starts l in
      let cases : List Case = cases_in starts l in
      let law = law_of_cases graph is l goes cases (cases_stand graph starts made l goes) e in
      let long : length e ≡ width = exact ∙ sym (widths_are graph starts made l (goes_has graph l goes)) in
      let fit = cases_fit_in starts fits l (goes_no_exit graph l goes) in
      let met = graph_segment_exists graph is l e goes in record {
        sound = each_right (IsRightFrom e (EndsAs (IsGraphSegment graph l e))) (FitsCase starts width) (LeadsTo e) (IsGraphSegment graph l e) width
            (case_is_right (IsGraphSegment graph l e) starts width e long) cases fit (λ l' e' some. (law l' e' exact).1 some);
        complete = some_reached (ReachedFrom e (EndsAs (IsGraphSegment graph l e))) (FitsCase starts width) (LeadsTo e met.0 met.1) width
            (case_is_reached (IsGraphSegment graph l e) starts width e long met.0 met.1 met.2) cases fit ((law met.0 met.1 exact).0 met.2);
      }

  stands_there : (l : Place) (e : List ℤ) (l' : Place) (e' : List ℤ) → IsGraphSegment graph l e l' e' → StandsAt starts l' e'
  stands_there l e l' e' segment =
      let there = graph_segment_fits graph is l e l' e' segment in
      record { has = (starts_have graph starts made l').1 there.0; long = there.1 ∙ sym (widths_are graph starts made l' there.0) }

  are_exact : AreExact starts (IsGraphSegment graph)
  are_exact l e other stands =
      let has = (starts_have graph starts made l).0 stands.has in
      let begins = starts_exact l e (has_goes graph l other has) (stands.long ∙ widths_are graph starts made l has) in record {
        sound = each_changed (IsRightFrom e (EndsAs (IsGraphSegment graph l e)))
            (IsRightFrom e (EndsAs (λ l' e'. IsGraphSegment graph l e l' e' × StandsAt starts l' e')))
            (walk_of_cases (width_in starts l) (cases_in starts l))
            (λ path right point further at.
            let ends = right point further at in (ends.0, ends.1, (ends.2, stands_there l e path.value.place ends.0 ends.2)))
            begins.sound;
        complete = some_changed (ReachedFrom e (EndsAs (IsGraphSegment graph l e)))
            (ReachedFrom e (EndsAs (λ l' e'. IsGraphSegment graph l e l' e' × StandsAt starts l' e')))
            (walk_of_cases (width_in starts l) (cases_in starts l))
            (λ path r. record {
              longer = r.longer;
              extends = r.extends;
              whole = r.whole;
              has = (r.has.0, r.has.1, (r.has.2, stands_there l e path.value.place r.has.0 r.has.2));
            })
            begins.complete;
      }

  -- The walk of a side's move says where the side moves.
  pub side_begins : (count : ℕ) (l : Place) (e : List ℤ) → HasPlace graph l → length e ≡ width_at graph l
      → Begins e (EndsAs (λ l' e'. Takes (IsGraphSegment graph) count l e l' e')) (side_walk starts count l)
  side_begins count l e has exact =
      walk_begins starts (IsGraphSegment graph) are_exact count l e
      (record { has = (starts_have graph starts made l).1 has; long = exact ∙ sym (widths_are graph starts made l has) })

  -- The same of its paths.
  pub side_paths_begin : (count : ℕ) (l : Place) (e : List ℤ) → HasPlace graph l → length e ≡ width_at graph l → (paths : List (Path End))
      → side_cases starts count l ≡ Ok paths → BeginBy e (EndsAs (λ l' e'. Takes (IsGraphSegment graph) count l e l' e')) paths
  side_paths_begin count l e has exact paths collected =
      begins_collected e (EndsAs (λ l' e'. Takes (IsGraphSegment graph) count l e l' e')) 1024 (side_walk starts count l) paths collected
      (side_begins count l e has exact)
