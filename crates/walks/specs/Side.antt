-- One side of a walk. The places of a trace have numbers: 0 is the entry, its marks follow in their order, and every
-- later number is the exit.
use Rattle.std.specs.Prelude.{ℕ, zero, suc, Bool, false, not, nat_lt, if◌then◌else◌, List, [], ◌∷◌, length, slice_get}
use Rattle.std.specs.Prelude.{Option, Some, None, ℤ}
use Rattle.c_ast.specs.declared.place.Place.{Place}
use Rattle.c_ast.specs.declared.place.Place.TheVariants as place
use Rattle.c_ast.specs.declared.trace.Event.{Event}
use Rattle.c_ast.specs.declared.trace.Trace.{Trace}
use Rattle.c_ast.specs.Place.{is_same_place}

-- The mark of an event; the exit where there is none.
abbrev pub place_of : Option Event → Place
place_of None = place.Exit
place_of (Some event) = place.Mark event.mark

-- The place of the trace with this number.
abbrev pub place_at : Trace → ℕ → Place
place_at trace zero = place.Entry
place_at trace (suc i) = place_of (slice_get trace.events i)

-- The values of an event; the result alone where there is none.
abbrev pub values_of : ℤ → Option Event → List ℤ
values_of result None = result ∷ []
values_of result (Some event) = event.values

-- The values at the place of the trace with this number, where the entry has the input.
abbrev pub values_at : List ℤ → Trace → ℕ → List ℤ
values_at input trace zero = input
values_at input trace (suc i) = values_of trace.result (slice_get trace.events i)

-- Whether the place with this number is the exit.
abbrev pub is_exit : Trace → ℕ → Bool
is_exit trace i = nat_lt (length trace.events) i

-- Whether a segment between these places begins at a mark and ends elsewhere.
abbrev pub leaves_mark : Place → Place → Bool
leaves_mark place.Entry to = false
leaves_mark (place.Mark k) to = not (is_same_place to (place.Mark k))
leaves_mark place.Exit to = false

-- The number of the place at which a side stops, which may take n segments from a place: it stops before that at the
-- exit, and after a segment that begins at a mark and ends elsewhere.
abbrev pub taken : Trace → ℕ → ℕ → ℕ
taken trace zero i = i
taken trace (suc n) i =
    if is_exit trace i then i
    else (if leaves_mark (place_at trace i) (place_at trace (suc i)) then suc i else taken trace n (suc i))
