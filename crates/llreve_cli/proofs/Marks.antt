-- The marks that a run passes are places of its function.
use Rattle.std.proofs.Common.{◌≡◌, ℕ, ◌<◌, List, length, ℤ, get_or}
use Rattle.c_ast.specs.declared.place.Place.TheVariants as place
use Rattle.c_ast.specs.declared.trace.Event.{Event}
use Rattle.c_ast.specs.declared.trace.Trace.{Trace}
use Rattle.c_ast.specs.declared.trace.Outcome.TheVariants as outcome
use Rattle.c_ast.specs.Tree.{Program}
use Rattle.c_ast.specs.Formed.{IsProgram}
use Rattle.c_ast.specs.Scope.{IsPlace}
use Rattle.c_ast.specs.Outcome.{outcome_within}
use Rattle.c_ast.proofs.Laws.{outcome_is_trace, trace_fits}

pub passed_place : (f : Program) → IsProgram f → (inputs : List ℤ) (steps : ℕ) (trace : Trace) → outcome_within steps f inputs ≡ outcome.Returned trace
    → (i : ℕ) (default : Event) → i < length trace.events → IsPlace f (place.Mark (get_or trace.events i default).mark)
passed_place f is inputs steps trace ran i default below =
    let fits = (trace_fits f is inputs trace (outcome_is_trace f inputs steps trace ran)) i default below in
    record { work = fits.fits.0; from = fits.fits.1 }
