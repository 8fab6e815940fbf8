-- The public laws (src/law.rt), each with its proof: what the proofs of other crates may cite.
use Rattle.c_ast.specs.Division.{LawOfDivision}
use Rattle.c_ast.specs.Place.{LawOfPlaces}
use Rattle.c_ast.specs.Fronts.{Fronts, OneTree, OneExpression}
use Rattle.c_ast.specs.Environments.{MapOfSpread, MapOfValues, SpreadHasLength, StepKeepsLength, ValuesAreListed, ListedAreBelow, FirstVariablesAreBelow, ParametersAreBelow}
use Rattle.c_ast.specs.Environments.{SetStaysBelow, OverCanEvaluate, SetCanEvaluate}
use Rattle.c_ast.specs.Ahead.{MarksAreAhead, MarksAreAheadAtStart, MarksStayAhead}
use Rattle.c_ast.specs.Agreement.{StepsAreAlike}
use Rattle.c_ast.specs.Passing.{TraceIsSegments}
use Rattle.c_ast.specs.Laws.{ReturnsOnce, HasOneTrace, TraceReturns, TraceFits, OutcomeIsTrace}
use Rattle.c_ast.specs.Laws.{WorkIsDetermined, NextPlaceIsDetermined, NextPlaceExists, MeetsFittingValues}
use Rattle.c_ast.specs.Laws.{FittingValuesAreAsMany, EntryIsNotMet, ExitIsLast}
use Rattle.c_ast.specs.Laws.{IsJudgedOnce, JudgedIsTrace, CutOffPassesMore, TraceIsJudged}
use Rattle.c_ast.proofs.Division as division
use Rattle.c_ast.proofs.SamePlace as same_place
use Rattle.c_ast.proofs.Fronts as front
use Rattle.c_ast.proofs.Distinct as distinct
use Rattle.c_ast.proofs.Lengths as lengths
use Rattle.c_ast.proofs.Environments as environments
use Rattle.c_ast.proofs.InScope as scopes
use Rattle.c_ast.proofs.Scoped as scoped
use Rattle.c_ast.proofs.MarksAhead as ahead
use Rattle.c_ast.proofs.Stepping as stepping
use Rattle.c_ast.proofs.Passing as passing
use Rattle.c_ast.proofs.Runs as runs
use Rattle.c_ast.proofs.Places as places
use Rattle.c_ast.proofs.Outcomes as outcomes
use Rattle.c_ast.proofs.Following as following
use Rattle.c_ast.proofs.NextPlace as next_place
use Rattle.c_ast.proofs.Judging as judging

-- ---- values

pub law_of_division : LawOfDivision
law_of_division = division.law_of_division

-- ---- places

pub law_of_places : LawOfPlaces
law_of_places = same_place.law_of_places

-- ---- trees

pub fronts : Fronts
fronts = front.fronts

pub one_tree : OneTree
one_tree = distinct.one_tree

pub one_expression : OneExpression
one_expression = distinct.one_expression

-- ---- environments

pub spread_has_length : SpreadHasLength
spread_has_length = lengths.length-spread

pub map_of_spread : (A B : Type 0) → MapOfSpread A B
map_of_spread A B = lengths.map_of_spread

pub map_of_values : (A B : Type 0) → MapOfValues A B
map_of_values A B = lengths.map_of_values

pub step_keeps_length : StepKeepsLength
step_keeps_length = lengths.length-step

pub values_are_listed : ValuesAreListed
values_are_listed = environments.values_in-listed

pub listed_are_below : ListedAreBelow
listed_are_below = environments.variables_in-below

pub first_variables_are_below : FirstVariablesAreBelow
first_variables_are_below = scopes.is_in-first_variables

pub parameters_are_below : ParametersAreBelow
parameters_are_below = scoped.first_below

pub set_stays_below : SetStaysBelow
set_stays_below = scoped.more_below

pub over_can_evaluate : OverCanEvaluate
over_can_evaluate = scoped.over_below

pub set_can_evaluate : SetCanEvaluate
set_can_evaluate = scoped.set_below

-- ---- marks and scopes

pub marks_are_ahead : MarksAreAhead
marks_are_ahead = ahead.ahead_from

pub marks_are_ahead_at_start : MarksAreAheadAtStart
marks_are_ahead_at_start = ahead.ahead_at_start

pub marks_stay_ahead : MarksStayAhead
marks_stay_ahead = ahead.ahead_next

pub steps_are_alike : StepsAreAlike
steps_are_alike = stepping.step_alike

-- ---- runs

pub returns_once : ReturnsOnce
returns_once = runs.returns_once

pub has_one_trace : HasOneTrace
has_one_trace = runs.one_trace

pub trace_returns : TraceReturns
trace_returns = runs.trace_returns

pub trace_fits : TraceFits
trace_fits = places.trace_fits

pub outcome_is_trace : OutcomeIsTrace
outcome_is_trace = outcomes.outcome_is_trace

pub trace_is_segments : TraceIsSegments
trace_is_segments = passing.trace_is_segments

-- ---- segments

pub work_is_determined : WorkIsDetermined
work_is_determined = following.work_once

pub next_place_is_determined : NextPlaceIsDetermined
next_place_is_determined = following.next_place_once

pub next_place_exists : NextPlaceExists
next_place_exists = next_place.next_place_exists

pub meets_fitting_values : MeetsFittingValues
meets_fitting_values = places.meets_fitting_values

pub fitting_values_are_as_many : FittingValuesAreAsMany
fitting_values_are_as_many = places.as_many_values

pub entry_is_not_met : EntryIsNotMet
entry_is_not_met = places.entry_is_not_met

pub exit_is_last : ExitIsLast
exit_is_last = places.exit_is_last

-- ---- runs with a limit of marks

pub is_judged_once : IsJudgedOnce
is_judged_once = runs.judged_once

pub judged_is_trace : JudgedIsTrace
judged_is_trace = judging.judged_is_trace

pub cut_off_passes_more : CutOffPassesMore
cut_off_passes_more = judging.cut_off_passes_more

pub trace_is_judged : TraceIsJudged
trace_is_judged = judging.trace_is_judged
