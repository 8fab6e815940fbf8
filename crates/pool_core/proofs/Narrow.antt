-- The values of a pair are below 2^100 in size.
use Rattle.std.proofs.Common.{ℕ, ℤ, arith}
use Rattle.std.proofs.lemmas.List.Elements.{All-weaker}
use Rattle.std.proofs.lemmas.Bool.Decides.{nat_tests}
use Rattle.c_ast.specs.declared.trace.Pair.{Pair}
use Rattle.c_ast.specs.FitsRun.{FitsRun}
use Rattle.c_ast.specs.Comparison.{Comparison}
use Rattle.trace_pair.specs.Inputs.{IsNear}
use Rattle.trace_pair.specs.Pairs.{IsPair}
use Rattle.trace_pair.proofs.Laws.{pair_has_traces}
use Rattle.walks.specs.Laws.{IsNarrowPair}

near_fits : (z : ℤ) → IsNear z → FitsRun z
near_fits z near = grind (arith, nat_tests)

-- So are those of each pair.
pub pair_is_narrow : (subject : Comparison) (index : ℕ) (pair : Pair) → IsPair subject index pair → IsNarrowPair pair
pair_is_narrow subject index pair is =
    let traces = pair_has_traces subject index pair is in
    record {
      input = All-weaker IsNear FitsRun near_fits pair.input traces.near;
      first = record { events = traces.first.fits.events; result = traces.first.fits.result };
      second = record { events = traces.second.fits.events; result = traces.second.fits.result };
    }
