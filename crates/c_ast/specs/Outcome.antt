-- What comes of a run of few steps: its trace, or the first step that meets a value of 2^100 or more in size.
use Rattle.std.specs.Prelude.{ℕ, List, ◌∷◌, Option, Some, None, ℤ}
use Rattle.c_ast.specs.declared.trace.Event.{Event}
use Rattle.c_ast.specs.declared.trace.Outcome.{Outcome}
use Rattle.c_ast.specs.declared.trace.Outcome.TheVariants as outcome
use Rattle.c_ast.specs.Tree.{Program}
use Rattle.c_ast.specs.Step.{Work, first_variables, start, spread, seen}
use Rattle.c_ast.specs.Trace.{no_event}
use Rattle.c_ast.specs.FitsRun.{evaluates_fitting}

-- An event in front of what comes of the rest of the run.
abbrev pub with_first : Event → Option Outcome → Option Outcome
with_first event None = None
with_first event (Some (outcome.Returned trace)) =
    Some (outcome.Returned (record { events = event ∷ trace.events; result = trace.result }))
with_first event (Some outcome.Wide) = Some outcome.Wide
with_first event (Some outcome.CutOff) = Some outcome.CutOff

-- The event of a mark in front of what comes of the rest of the run.
abbrev pub at_event : ℕ → ℕ → List ℤ → Option Outcome → Option Outcome
at_event marks mark values later = with_first (record { mark = mark; values = values }) later

-- A run that ends with this value, of which no event is told.
abbrev pub returned : ℤ → Outcome
returned value = outcome.Returned (no_event value)

-- What is seen of at most n steps: the trace, or the first step that evaluates a part whose value is wide.
abbrev pub interpreted : ℕ → ℕ → Work → List ℤ → Option Outcome
interpreted = seen evaluates_fitting (Some outcome.Wide) at_event returned

-- Where neither is met, the run was cut off.
abbrev pub or_cut_off : Option Outcome → Outcome
or_cut_off None = outcome.CutOff
or_cut_off (Some o) = o

-- What comes of at most this many steps, where the parameters have these values and all other variables are 0.
abbrev pub outcome_within : ℕ → Program → List ℤ → Outcome
outcome_within steps f inputs =
    or_cut_off (interpreted steps 0 (start f) (spread (first_variables f.params) f.vars inputs))
