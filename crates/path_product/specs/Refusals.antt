-- Why the cases of a graph's places are not made.
use Rattle.std.specs.Prelude.{◌≡◌, ◌≢◌, List, Result, Err}
use Rattle.c_ast.specs.declared.place.Place.{Place}
use Rattle.sym_paths.specs.declared.limit.PathLimit.{PathLimit}
use Rattle.sym_paths.specs.declared.limit.PathLimit.TheVariants as limit
use Rattle.path_product.specs.declared.starts.Start.{Start}
use Rattle.path_product.specs.declared.starts.SegmentsFault.{SegmentsFault}
use Rattle.path_product.specs.declared.starts.SegmentsFault.TheVariants.{AtPlace, Memory}

-- What a limit of the walk from a place comes to.
abbrev pub fault_at : Place → PathLimit → SegmentsFault
fault_at l limit.Memory = Memory
fault_at l why = AtPlace l why

-- The place that is refused, and the limit there, are the wanted ones, unless memory ran out.
abbrev pub IsFault : Result (List Start) (Place × PathLimit) → SegmentsFault → Type 0
IsFault wanted Memory = Unit {0}
IsFault wanted (AtPlace l why) = (why ≢ limit.Memory) × (wanted ≡ Err (l, why))
