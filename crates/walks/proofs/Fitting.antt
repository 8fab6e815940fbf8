-- How many values there are at the spots of a walk, and of which size.
use Rattle.std.proofs.Common.{◌≡◌, ℕ, zero, suc, List, [], ◌∷◌, length, map, All, ℤ, refl}
use Rattle.std.specs.Prelude.{slice_get}
use Rattle.std.proofs.lemmas.List.Elements.{All-head, All-tail, All-nil, All-cons, All-map}
use Rattle.c_ast.specs.declared.trace.Event.{Event}
use Rattle.c_ast.specs.declared.trace.Trace.{Trace}
use Rattle.c_ast.specs.declared.trace.Pair.{Pair}
use Rattle.c_ast.specs.Tree.{Program}
use Rattle.c_ast.specs.Segment.{FitsPlace}
use Rattle.c_ast.specs.FitsRun.{FitsRun}
use Rattle.c_ast.specs.Laws.{FitsEvent}
use Rattle.c_ast.proofs.Laws.{trace_fits}
use Rattle.walks.specs.declared.position.Position.{Position}
use Rattle.walks.specs.declared.spot.Spot.{Spot}
use Rattle.walks.specs.Side.{place_of, place_at, values_of, values_at}
use Rattle.walks.specs.Walk.{spot_at, positions_of}
use Rattle.walks.specs.Laws.{FitsSpot, PositionsFit, ValuesFit, TracesFit}
use Rattle.walks.specs.Laws.{IsNarrowEvent, IsNarrowTrace, IsNarrowSpot, PositionsAreNarrow, ValuesStayNarrow}

-- What holds at every position holds of all spots of a walk.
of_walk : (P : Spot → Type 0) (alignment : ℕ) (pair : Pair) → ((at : Position) → P (spot_at pair at))
    → All P (map (spot_at pair) (positions_of alignment pair))
of_walk P alignment pair each = All-map P (spot_at pair) (positions_of alignment pair) (of_all (positions_of alignment pair) each)
  where
    of_all : (positions : List Position) → ((at : Position) → P (spot_at pair at)) → All (λ at. P (spot_at pair at)) positions
    of_all [] each = All-nil (λ (at : Position). P (spot_at pair at))
    of_all (at ∷ positions) each = All-cons (λ (at : Position). P (spot_at pair at)) at positions (each at) (of_all positions each)

-- ---- how many

event_fits : (f : Program) (events : List Event) (result : ℤ) (i : ℕ) → All (FitsEvent f) events
    → FitsPlace f (place_of (slice_get events i)) (values_of result (slice_get events i))
event_fits f [] result i all = refl
event_fits f (event ∷ events) result zero all = (All-head (FitsEvent f) event events all).fits
event_fits f (event ∷ events) result (suc i) all = event_fits f events result i (All-tail (FitsEvent f) event events all)

side_fits : (f : Program) (input : List ℤ) (trace : Trace) (i : ℕ) → length input ≡ f.params → All (FitsEvent f) trace.events
    → FitsPlace f (place_at trace i) (values_at input trace i)
side_fits f input trace zero long all = long
side_fits f input trace (suc i) long all = event_fits f trace.events trace.result i all

pub positions_fit : PositionsFit
positions_fit f g pair fits at = record {
  first = side_fits f pair.input pair.first at.first fits.first_arity fits.first;
  second = side_fits g pair.input pair.second at.second fits.second_arity fits.second;
}

pub values_fit : ValuesFit
values_fit f g alignment pair fits = of_walk (FitsSpot f g) alignment pair (positions_fit f g pair fits)

pub traces_fit : TracesFit
traces_fit f g pair have = record {
  first_arity = have.first_arity;
  second_arity = have.second_arity;
  first = trace_fits f have.first_formed pair.input pair.first have.first;
  second = trace_fits g have.second_formed pair.input pair.second have.second;
}

-- ---- of which size

event_is_narrow : (events : List Event) (result : ℤ) (i : ℕ) → All IsNarrowEvent events → FitsRun result → All FitsRun (values_of result (slice_get events i))
event_is_narrow [] result i all narrow = All-cons FitsRun result [] narrow (All-nil FitsRun)
event_is_narrow (event ∷ events) result zero all narrow = All-head IsNarrowEvent event events all
event_is_narrow (event ∷ events) result (suc i) all narrow = event_is_narrow events result i (All-tail IsNarrowEvent event events all) narrow

side_is_narrow : (input : List ℤ) (trace : Trace) (i : ℕ) → All FitsRun input → IsNarrowTrace trace → All FitsRun (values_at input trace i)
side_is_narrow input trace zero all narrow = all
side_is_narrow input trace (suc i) all narrow = event_is_narrow trace.events trace.result i narrow.events narrow.result

pub positions_are_narrow : PositionsAreNarrow
positions_are_narrow pair narrow at = record {
  first = side_is_narrow pair.input pair.first at.first narrow.input narrow.first;
  second = side_is_narrow pair.input pair.second at.second narrow.input narrow.second;
}

pub values_stay_narrow : ValuesStayNarrow
values_stay_narrow alignment pair narrow = of_walk IsNarrowSpot alignment pair (positions_are_narrow pair narrow)
