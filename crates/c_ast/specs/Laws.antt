-- Laws of runs: what is returned, traces, the places that follow one another, and runs with a limit of marks.
use Rattle.std.specs.Prelude.{◌≡◌, ◌≢◌, ℕ, ◌<◌, ◌≤◌, ◌↔◌, ◌⊎◌, List, ℤ, length, All}
use Rattle.c_ast.specs.declared.place.Place.{Place}
use Rattle.c_ast.specs.declared.place.Place.TheVariants as place
use Rattle.c_ast.specs.declared.trace.Event.{Event}
use Rattle.c_ast.specs.declared.trace.Trace.{Trace}
use Rattle.c_ast.specs.declared.trace.Outcome.{Outcome}
use Rattle.c_ast.specs.declared.trace.Outcome.TheVariants as outcome
use Rattle.c_ast.specs.Tree.{Program}
use Rattle.c_ast.specs.Step.{Work}
use Rattle.c_ast.specs.Returns.{Returns}
use Rattle.c_ast.specs.Trace.{IsTrace}
use Rattle.c_ast.specs.Segment.{GoesOnFrom, FitsPlace, IsSegment}
use Rattle.c_ast.specs.Formed.{IsProgram}
use Rattle.c_ast.specs.Outcome.{outcome_within}
use Rattle.c_ast.specs.Judged.{IsJudged}

-- A function returns at most one value on an input.
abbrev pub ReturnsOnce : Type 0
ReturnsOnce = (f : Program) (inputs : List ℤ) (v w : ℤ) → Returns f inputs v → Returns f inputs w → v ≡ w

-- A function has at most one trace on an input.
abbrev pub HasOneTrace : Type 0
HasOneTrace = (f : Program) (inputs : List ℤ) (s t : Trace) → IsTrace f inputs s → IsTrace f inputs t → s ≡ t

-- What is returned is the result of a trace.
abbrev pub TraceReturns : Type 0
TraceReturns = (f : Program) (inputs : List ℤ) (value : ℤ)
    → Returns f inputs value ↔ ((trace : Trace) × IsTrace f inputs trace × (trace.result ≡ value))

-- Two works with which a run goes on from a place are equal.
abbrev pub WorkIsDetermined : Type 0
WorkIsDetermined = (f : Program) → IsProgram f → (l : Place) (v w : Work) → GoesOnFrom f l v → GoesOnFrom f l w → v ≡ w

-- From a place with any values at most one place is met next, with one list of values.
abbrev pub NextPlaceIsDetermined : Type 0
NextPlaceIsDetermined = (f : Program) → IsProgram f → (l : Place) (e : List ℤ) (a b : Place) (c d : List ℤ)
    → IsSegment f l e a c → IsSegment f l e b d
    → (a ≡ b) × (c ≡ d)

-- From the entry and from each mark, with any values, a place is met next: every turn of a loop passes a mark.
abbrev pub NextPlaceExists : Type 0
NextPlaceExists = (f : Program) → IsProgram f → (l : Place) (e : List ℤ) (work : Work) → GoesOnFrom f l work
    → (l' : Place) × (e' : List ℤ)
    × IsSegment f l e l' e'

-- The values with which a place is met are as many as the variables in scope there.
abbrev pub MeetsFittingValues : Type 0
MeetsFittingValues =
    (f : Program) (l : Place) (e : List ℤ) (l' : Place) (e' : List ℤ) → IsSegment f l e l' e' → FitsPlace f l' e'

-- The values that fit one place are equally many.
abbrev pub FittingValuesAreAsMany : Type 0
FittingValuesAreAsMany =
    (f : Program) → IsProgram f → (l : Place) (d e : List ℤ) → FitsPlace f l d → FitsPlace f l e → length d ≡ length e

-- No segment ends at the entry.
abbrev pub EntryIsNotMet : Type 0
EntryIsNotMet =
    (f : Program) (l : Place) (e : List ℤ) (l' : Place) (e' : List ℤ) → IsSegment f l e l' e' → l' ≢ place.Entry

-- No segment begins at the exit.
abbrev pub ExitIsLast : Type 0
ExitIsLast = (f : Program) (e : List ℤ) (l' : Place) (e' : List ℤ) → ¬ IsSegment f place.Exit e l' e'

-- An event's mark is one of the function's, with as many values as variables in scope there, at most 64.
pub record FitsEvent (f : Program) (event : Event) : Type 0 where
  pub fits : FitsPlace f (place.Mark event.mark) event.values
  pub few : length event.values ≤ 64

-- Each mark that a trace passes is one of the function's, and its values fit it.
abbrev pub TraceFits : Type 0
TraceFits = (f : Program) → IsProgram f → (inputs : List ℤ) (trace : Trace) → IsTrace f inputs trace
    → All (FitsEvent f) trace.events

-- What comes of some number of steps, where it is a trace, is the function's trace.
abbrev pub OutcomeIsTrace : Type 0
OutcomeIsTrace = (f : Program) (inputs : List ℤ) (steps : ℕ) (trace : Trace)
    → outcome_within steps f inputs ≡ outcome.Returned trace → IsTrace f inputs trace

-- A run with a limit of marks has at most one outcome.
abbrev pub IsJudgedOnce : Type 0
IsJudgedOnce = (f : Program) (inputs : List ℤ) (limit : ℕ) (o p : Outcome) → IsJudged f inputs limit o
    → IsJudged f inputs limit p → o ≡ p

-- A trace that comes of a run with a limit is the function's, and passes at most so many marks.
abbrev pub JudgedIsTrace : Type 0
JudgedIsTrace = (f : Program) (inputs : List ℤ) (limit : ℕ) (trace : Trace)
    → IsJudged f inputs limit (outcome.Returned trace) → IsTrace f inputs trace
    × (length trace.events ≤ limit)

-- Where a run is cut off, a trace of the function passes more marks than the limit.
abbrev pub CutOffPassesMore : Type 0
CutOffPassesMore = (f : Program) (inputs : List ℤ) (limit : ℕ) (trace : Trace) → IsJudged f inputs limit outcome.CutOff
    → IsTrace f inputs trace
    → limit < length trace.events

-- Where a trace of the function passes at most so many marks, the run returns it or meets a wide value.
abbrev pub TraceIsJudged : Type 0
TraceIsJudged =
    (f : Program) (inputs : List ℤ) (limit : ℕ) (trace : Trace) → IsTrace f inputs trace → length trace.events ≤ limit
    → IsJudged f inputs limit (outcome.Returned trace) ⊎ IsJudged f inputs limit outcome.Wide
