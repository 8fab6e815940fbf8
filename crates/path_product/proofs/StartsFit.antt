-- What is known of a graph's places: each from which segments lead has its cases, and these fit.
use Rattle.std.proofs.Common.{◌≡◌, ◌↔◌, ℕ, suc, ◌+◌, ◌<◌, ◌≤◌, Bool, true, false, cond, eqb, ◌||◌, List, [], ◌∷◌, map, length, All, Option, Some, None, IsSome, is_some, refl, sym, ap, subst, ◌∙◌, true≢false, arith}
use Rattle.std.specs.Prelude.{Result, Ok, Err, slice_index}
use Rattle.std.specs.List.Sorted.{IsStrictlyIncreasing}
use Rattle.std.proofs.lemmas.Bool.{eq-eqb}
use Rattle.std.proofs.lemmas.List.Elements.{All-nil, All-cons, All-head, All-tail, All-map, All-weaker}
use Rattle.c_ast.specs.declared.place.Place.{Place}
use Rattle.c_ast.specs.declared.place.Place.TheVariants as place
use Rattle.c_ast.specs.Place.{is_same_place}
use Rattle.c_ast.proofs.Laws.{law_of_places}
use Rattle.lin_terms.specs.declared.form.Form.{Form}
use Rattle.lin_terms.specs.declared.row.Row.{Row}
use Rattle.horn_clauses.specs.Clause.{columns_in}
use Rattle.flow_graph.specs.declared.stop.Stop.{Stop}
use Rattle.flow_graph.specs.FlowGraph.{FlowGraph, stop_of, width_at, scope_of_stop, GoesOnAt, HasPlace}
use Rattle.flow_graph.specs.WellFormed.{IsFlowGraph}
use Rattle.flow_graph.proofs.Laws.{entry_has_parameters}
use Rattle.sym_paths.specs.declared.limit.PathLimit.{PathLimit}
use Rattle.sym_paths.specs.declared.case.Case.{Case}
use Rattle.sym_paths.specs.Cases.{room_for, cases_of}
use Rattle.sym_paths.specs.Fits.{FitsSegment, CasesFit}
use Rattle.path_product.specs.declared.starts.Start.{Start}
use Rattle.path_product.specs.Starts.{places_from, start, with_start, starts_among, starts_of, start_at, width_of_start, width_in, cases_of_start, cases_in}
use Rattle.path_product.specs.Fits.{HasStart, FitsCase, FitsStart, FitStarts}

-- ---- what is found

-- Whether the place is one of them.
abbrev is_one : Place → List Place → Bool
is_one l [] = false
is_one l (m ∷ places) = is_same_place m l || is_one l places

-- The place has its cases, and they stand there.
pub record Known (graph : FlowGraph) (starts : List Start) (l : Place) : Type 0 where
  pub cases : List Case
  pub made : cases_of graph l ≡ Ok cases
  pub found : start_at starts l ≡ Some (start graph l cases)

same_itself : (l : Place) → is_same_place l l ≡ true
same_itself l = (law_of_places l l).1 refl

-- One place more is there only where nothing meets a limit.
record Begun (graph : FlowGraph) (l : Place) (places : List Place) (starts : List Start) : Type 0 where
  cases : List Case
  others : List Start
  made : cases_of graph l ≡ Ok cases
  later : starts_among graph places ≡ Ok others
  both : starts ≡ start graph l cases ∷ others

begun : (graph : FlowGraph) (l : Place) (places : List Place) (starts : List Start) → starts_among graph (l ∷ places) ≡ Ok starts
    → Begun graph l places starts
begun graph l places starts made = on (cases_of graph l) (starts_among graph places) refl refl made
  where
    on : (first : Result (List Case) PathLimit) (others : Result (List Start) (Place × PathLimit)) → cases_of graph l ≡ first
        → starts_among graph places ≡ others → with_start graph l first others ≡ Ok starts → Begun graph l places starts
    on (Err limit) others first_is others_are made = cc
    on (Ok cases) (Err refused) first_is others_are made = cc
    on (Ok cases) (Ok others) first_is others_are made =
        record { cases = cases; others = others; made = first_is; later = others_are; both = cc }

found_first : (graph : FlowGraph) (m l : Place) (cases : List Case) (others : List Start) (places : List Place) → cases_of graph m ≡ Ok cases
    → (is_one l places ≡ true → Known graph others l) → (t : Bool) → is_same_place m l ≡ t → (t || is_one l places) ≡ true
    → Known graph (start graph m cases ∷ others) l
found_first graph m l cases others places made more true same one =
    subst (λ (z : Place). Known graph (start graph m cases ∷ others) z) ((law_of_places m l).0 same)
    (record { cases = cases; made = made; found = ap (λ (t : Bool). cond t (Some (start graph m cases)) (start_at others m)) (same_itself m) })
found_first graph m l cases others places made more false same one =
    let later = more one in
    record {
      cases = later.cases;
      made = later.made;
      found = ap (λ (t : Bool). cond t (Some (start graph m cases)) (start_at others l)) same ∙ later.found;
    }

found_among : (graph : FlowGraph) (l : Place) (places : List Place) (starts : List Start) → starts_among graph places ≡ Ok starts
    → is_one l places ≡ true → Known graph starts l
found_among graph l [] starts made one = absurd (true≢false (sym one))
found_among graph l (m ∷ places) starts made one =
    let parts = begun graph m places starts made in
    subst (λ (z : List Start). Known graph z l) (sym parts.both)
    (found_first graph m l parts.cases parts.others places parts.made (found_among graph l places parts.others parts.later) (is_same_place m l) refl one)

none_first : (graph : FlowGraph) (m l : Place) (cases : List Case) (others : List Start) (places : List Place)
    → (is_one l places ≡ false → start_at others l ≡ None) → (t : Bool) → is_same_place m l ≡ t → (t || is_one l places) ≡ false
    → start_at (start graph m cases ∷ others) l ≡ None
none_first graph m l cases others places more true same one = absurd (true≢false one)
none_first graph m l cases others places more false same one =
    ap (λ (t : Bool). cond t (Some (start graph m cases)) (start_at others l)) same ∙ more one

none_among : (graph : FlowGraph) (l : Place) (places : List Place) (starts : List Start) → starts_among graph places ≡ Ok starts
    → is_one l places ≡ false → start_at starts l ≡ None
none_among graph l [] starts made one = let none : starts ≡ [] = cc in ap (λ (z : List Start). start_at z l) none
none_among graph l (m ∷ places) starts made one =
    let parts = begun graph m places starts made in
    ap (λ (z : List Start). start_at z l) parts.both
    ∙ none_first graph m l parts.cases parts.others places (none_among graph l places parts.others parts.later) (is_same_place m l) refl one

-- ---- the places of a graph

mark_is_one : (stops : List Stop) (mark : ℕ) → is_one (place.Mark mark) (map (λ stop. place.Mark stop.mark) stops) ≡ is_some (stop_of stops mark)
mark_is_one [] mark = refl
mark_is_one (stop ∷ stops) mark = on (eqb stop.mark mark) (mark_is_one stops mark)
  where
    on : (t : Bool) → is_one (place.Mark mark) (map (λ (s : Stop). place.Mark s.mark) stops) ≡ is_some (stop_of stops mark)
        → (t || is_one (place.Mark mark) (map (λ (s : Stop). place.Mark s.mark) stops)) ≡ is_some (cond t (Some stop) (stop_of stops mark))
    on true later = refl
    on false later = later

goes_is_one : (graph : FlowGraph) (l : Place) → GoesOnAt graph l → is_one l (places_from graph) ≡ true
goes_is_one graph place.Entry goes = refl
goes_is_one graph (place.Mark mark) goes = mark_is_one graph.stops mark ∙ goes
goes_is_one graph place.Exit goes = absurd goes

-- A place from which segments lead has its cases.
pub starts_know : (graph : FlowGraph) (starts : List Start) → starts_of graph ≡ Ok starts → (l : Place) → GoesOnAt graph l → Known graph starts l
starts_know graph starts made l goes = found_among graph l (places_from graph) starts made (goes_is_one graph l goes)

-- The cases that stand there are those of the graph.
pub cases_stand : (graph : FlowGraph) (starts : List Start) → starts_of graph ≡ Ok starts → (l : Place) → GoesOnAt graph l
    → cases_of graph l ≡ Ok (cases_in starts l)
cases_stand graph starts made l goes =
    let known = starts_know graph starts made l goes in
    known.made ∙ ap (λ (z : List Case). Ok z) (sym (ap cases_of_start known.found))

-- As many values as a run has at a place of the graph.
pub widths_are : (graph : FlowGraph) (starts : List Start) → starts_of graph ≡ Ok starts → (l : Place) → HasPlace graph l
    → width_in starts l ≡ width_at graph l
widths_are graph starts made place.Entry has = ap width_of_start (starts_know graph starts made place.Entry tt).found
widths_are graph starts made (place.Mark mark) has = ap width_of_start (starts_know graph starts made (place.Mark mark) has).found
widths_are graph starts made place.Exit has = refl

-- The places of a graph, and no others, have a start or are the exit.
pub starts_have : (graph : FlowGraph) (starts : List Start) → starts_of graph ≡ Ok starts → (l : Place) → HasStart starts l ↔ HasPlace graph l
starts_have graph starts made place.Entry =
    (λ has. tt, λ has. ap is_some (starts_know graph starts made place.Entry tt).found)
starts_have graph starts made (place.Mark mark) =
    (λ has. on (is_one (place.Mark mark) (places_from graph)) refl has, λ has. ap is_some (starts_know graph starts made (place.Mark mark) has).found)
  where
    on : (t : Bool) → is_one (place.Mark mark) (places_from graph) ≡ t → IsSome (start_at starts (place.Mark mark)) → HasPlace graph (place.Mark mark)
    on true one has = sym (mark_is_one graph.stops mark) ∙ one
    on false one has =
        absurd (true≢false (sym has ∙ ap is_some (none_among graph (place.Mark mark) (places_from graph) starts made one)))
starts_have graph starts made place.Exit = (λ has. has, λ has. has)

-- ---- at most 64 variables are in scope

first_below : (x y : ℕ) (ys : List ℕ) → IsStrictlyIncreasing (x ∷ y ∷ ys) → x < y
first_below x y ys rising = rising 0 (omega arith)

others_increase : (x : ℕ) (xs : List ℕ) → IsStrictlyIncreasing (x ∷ xs) → IsStrictlyIncreasing xs
others_increase x xs rising = λ k within. subst (λ (i : ℕ). slice_index xs k < slice_index (x ∷ xs) i) (after_next k) (rising (suc k) (omega arith))
  where
    after_next : (k : ℕ) → suc k + 1 ≡ suc (k + 1)
    after_next k = omega arith

-- numbers below n that rise are at most n
as_many_from : (n x : ℕ) (xs : List ℕ) → IsStrictlyIncreasing (x ∷ xs) → All (λ y. y < n) (x ∷ xs) → x + length (x ∷ xs) ≤ n
as_many_from n x [] rising below = omega (arith, All-head (λ (y : ℕ). y < n) x [] below)
as_many_from n x (y ∷ ys) rising below =
    omega (arith, first_below x y ys rising, as_many_from n y ys (others_increase x (y ∷ ys) rising) (All-tail (λ (z : ℕ). z < n) x (y ∷ ys) below))

as_many_below : (n : ℕ) (xs : List ℕ) → IsStrictlyIncreasing xs → All (λ y. y < n) xs → length xs ≤ n
as_many_below n [] rising below = omega arith
as_many_below n (x ∷ xs) rising below = omega (arith, as_many_from n x xs rising below)

few_at : (graph : FlowGraph) → IsFlowGraph graph → (l : Place) → GoesOnAt graph l → width_at graph l ≤ 64
few_at graph is place.Entry goes = omega (arith, entry_has_parameters graph is, is.parameters, is.few)
few_at graph is (place.Mark mark) goes = on (stop_of graph.stops mark) refl goes
  where
    on : (o : Option Stop) → stop_of graph.stops mark ≡ o → IsSome o → length (scope_of_stop o) ≤ 64
    on None found some = absurd (true≢false (sym some))
    on (Some stop) found some =
        let behind = is.afters mark stop found in
        omega (arith, as_many_below graph.vars stop.scope behind.2 behind.1, is.few)
few_at graph is place.Exit goes = absurd goes

-- ---- cases fit

-- rows and forms of one length have the columns that are counted, and where there are none the variables alone
record Counted (width : ℕ) (rows : List Row) (after : List Form) : Type 0 where
  enough : width ≤ columns_in width rows after
  few : columns_in width rows after ≤ room_for width
  row_lengths : All (λ row. length row.coefs ≡ columns_in width rows after) rows
  form_lengths : All (λ form. length form.coefs ≡ columns_in width rows after) after

counted : (width columns : ℕ) (rows : List Row) (after : List Form) → width ≤ columns → columns ≤ width + 16
    → All (λ row. length row.coefs ≡ columns) rows → All (λ form. length form.coefs ≡ columns) after → Counted width rows after
counted width columns (row ∷ rows) after enough few row_lengths form_lengths =
    let first : length row.coefs ≡ columns = All-head (λ (r : Row). length r.coefs ≡ columns) row rows row_lengths in
    record {
      enough = omega (arith, first);
      few = omega (arith, first);
      row_lengths = subst (λ (n : ℕ). All (λ (r : Row). length r.coefs ≡ n) (row ∷ rows)) (sym first) row_lengths;
      form_lengths = subst (λ (n : ℕ). All (λ (f : Form). length f.coefs ≡ n) after) (sym first) form_lengths;
    }
counted width columns [] (form ∷ after) enough few row_lengths form_lengths =
    let first : length form.coefs ≡ columns = All-head (λ (f : Form). length f.coefs ≡ columns) form after form_lengths in
    record {
      enough = omega (arith, first);
      few = omega (arith, first);
      row_lengths = All-nil (λ (r : Row). length r.coefs ≡ length form.coefs);
      form_lengths = subst (λ (n : ℕ). All (λ (f : Form). length f.coefs ≡ n) (form ∷ after)) (sym first) form_lengths;
    }
counted width columns [] [] enough few row_lengths form_lengths = record {
  enough = omega arith;
  few = omega arith;
  row_lengths = All-nil (λ (r : Row). length r.coefs ≡ width);
  form_lengths = All-nil (λ (f : Form). length f.coefs ≡ width);
}

module _ (fit : CasesFit) (graph : FlowGraph) (is : IsFlowGraph graph) (all : List Start) (all_made : starts_of graph ≡ Ok all) where
  case_fits : (l : Place) (case : Case) → FitsSegment graph l case → FitsCase all (width_at graph l) case
  case_fits l case fits =
      let over = counted (width_at graph l) fits.columns case.rows case.after fits.rows.enough fits.rows.few fits.rows.lengths fits.lengths in
      record {
        enough = over.enough;
        few = over.few;
        rows = over.row_lengths;
        rows_fit = fits.rows.small;
        forms = over.form_lengths;
        forms_fit = fits.small;
        has = (starts_have graph all all_made case.to).1 fits.has;
        elsewhere = fits.elsewhere;
        after = fits.after ∙ sym (widths_are graph all all_made case.to fits.has);
      }

  start_fits : (l : Place) (cases : List Case) → GoesOnAt graph l → cases_of graph l ≡ Ok cases → FitsStart all (start graph l cases)
  start_fits l cases goes made = record {
    few = few_at graph is l goes;
    cases = All-weaker (FitsSegment graph l) (FitsCase all (width_at graph l)) (case_fits l) cases (fit graph is l goes cases made);
  }

  each_fits : (places : List Place) (starts : List Start) → All (GoesOnAt graph) places → starts_among graph places ≡ Ok starts
      → All (FitsStart all) starts
  each_fits [] starts go made = let none : [] ≡ starts = cc in subst (λ (z : List Start). All (FitsStart all) z) none (All-nil (FitsStart all))
  each_fits (l ∷ places) starts go made =
      let parts = begun graph l places starts made in
      subst (λ (z : List Start). All (FitsStart all) z) (sym parts.both)
      (All-cons (FitsStart all) (start graph l parts.cases) parts.others
      (start_fits l parts.cases (All-head (GoesOnAt graph) l places go) parts.made)
      (each_fits places parts.others (All-tail (GoesOnAt graph) l places go) parts.later))

-- each of the stops is found
stops_found : (stops : List Stop) → All (λ stop. IsSome (stop_of stops stop.mark)) stops
stops_found [] = All-nil (λ (stop : Stop). IsSome (stop_of [] stop.mark))
stops_found (stop ∷ stops) =
    All-cons (λ (z : Stop). IsSome (stop_of (stop ∷ stops) z.mark)) stop stops (here (eqb stop.mark stop.mark) (eq-eqb stop.mark stop.mark refl))
    (All-weaker (λ (z : Stop). IsSome (stop_of stops z.mark)) (λ (z : Stop). IsSome (stop_of (stop ∷ stops) z.mark))
    (λ z found. later (eqb stop.mark z.mark) (stop_of stops z.mark) found) stops (stops_found stops))
  where
    here : (t : Bool) → t ≡ true → IsSome (cond t (Some stop) (stop_of stops stop.mark))
    here t is = ap (λ (b : Bool). is_some (cond b (Some stop) (stop_of stops stop.mark))) is

    later : (t : Bool) (others : Option Stop) → IsSome others → IsSome (cond t (Some stop) others)
    later true others found = refl
    later false others found = found

places_go : (graph : FlowGraph) → All (GoesOnAt graph) (places_from graph)
places_go graph =
    All-cons (GoesOnAt graph) place.Entry (map (λ (stop : Stop). place.Mark stop.mark) graph.stops) tt
    (All-map (GoesOnAt graph) (λ (stop : Stop). place.Mark stop.mark) graph.stops (stops_found graph.stops))

-- The starts of a graph fit.
pub starts_fit : CasesFit → (graph : FlowGraph) → IsFlowGraph graph → (starts : List Start) → starts_of graph ≡ Ok starts → FitStarts starts
starts_fit fit graph is starts made = record {
  entry = (starts_have graph starts made place.Entry).1 tt;
  each = each_fits fit graph is starts made (places_from graph) starts (places_go graph) made;
}
