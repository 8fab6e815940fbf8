-- What a refusal comes to where the product of two graphs is made.
use Rattle.c_ast.specs.declared.place.Side.{Side}
use Rattle.sym_paths.specs.declared.limit.PathLimit.{PathLimit}
use Rattle.sym_paths.specs.declared.limit.PathLimit.TheVariants as path_limit
use Rattle.path_product.specs.declared.starts.SegmentsFault.{SegmentsFault}
use Rattle.path_product.specs.declared.starts.SegmentsFault.TheVariants as fault
use Rattle.path_product.specs.declared.limit.ProductLimit.{ProductLimit}
use Rattle.path_product.specs.declared.limit.ProductLimit.TheVariants as limit

-- The limit of the condition's walk.
abbrev pub at_condition : PathLimit → ProductLimit
at_condition path_limit.Memory = limit.Memory
at_condition why = limit.AtPre why

-- The limit of the walks of a side's function.
abbrev pub at_side : Side → SegmentsFault → ProductLimit
at_side side fault.Memory = limit.Memory
at_side side (fault.AtPlace l why) = limit.AtPlace side l why
