-- Traces as lists of segments.
use Rattle.std.specs.Prelude.{◌≡◌, ◌↔◌, List, [], ◌∷◌, length, ℤ}
use Rattle.c_ast.specs.declared.place.Place.{Place}
use Rattle.c_ast.specs.declared.place.Place.TheVariants as place
use Rattle.c_ast.specs.declared.trace.Event.{Event}
use Rattle.c_ast.specs.declared.trace.Trace.{Trace}
use Rattle.c_ast.specs.Tree.{Program}
use Rattle.c_ast.specs.Formed.{IsProgram}
use Rattle.c_ast.specs.Segment.{IsSegment}
use Rattle.c_ast.specs.Trace.{IsTrace}

-- From the place `l` with the values `e` segments lead through these marks, with these values there, to the exit with
-- the result.
abbrev pub LeadsThrough : Program → Place → List ℤ → List Event → ℤ → Type 0
LeadsThrough f l e [] result = IsSegment f l e place.Exit (result ∷ [])
LeadsThrough f l e (event ∷ events) result =
    IsSegment f l e (place.Mark event.mark) event.values
    × LeadsThrough f (place.Mark event.mark) event.values events result

-- A trace of a function is what segments lead through from the entry.
abbrev pub TraceIsSegments : Type 0
TraceIsSegments = (f : Program) (inputs : List ℤ) (trace : Trace) → IsProgram f → length inputs ≡ f.params
    → (IsTrace f inputs trace ↔ LeadsThrough f place.Entry inputs trace.events trace.result)
