-- The trace of a run that returns.
use Rattle.std.specs.Prelude.{◌≡◌, ℕ, List, [], ◌∷◌, Option, Some, None, ℤ}
use Rattle.c_ast.specs.declared.trace.Trace.{Trace}
use Rattle.c_ast.specs.Tree.{Program}
use Rattle.c_ast.specs.Step.{Work, first_variables, start, spread, seen}
use Rattle.c_ast.specs.Returns.{always}

-- A mark in front of the trace that follows it.
abbrev pub with_event : ℕ → ℕ → List ℤ → Option Trace → Option Trace
with_event marks mark values None = None
with_event marks mark values (Some trace) =
    Some (record { events = record { mark = mark; values = values } ∷ trace.events; result = trace.result })

-- The trace of a run that passes no mark.
abbrev pub no_event : ℤ → Trace
no_event value = record { events = []; result = value }

-- The trace, where at most n steps end the run.
abbrev pub trace_within : ℕ → Work → List ℤ → Option Trace
trace_within n = seen always None with_event no_event n 0

-- Where the parameters have these values and all other variables are 0, some number of steps has this trace.
pub record IsTrace (f : Program) (inputs : List ℤ) (trace : Trace) : Type 0 where
  pub steps : ℕ
  pub ran : trace_within steps (start f) (spread (first_variables f.params) f.vars inputs) ≡ Some trace
