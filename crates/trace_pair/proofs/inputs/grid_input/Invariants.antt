use Rattle.std.proofs.Common.{◌≡◌, map}
use Rattle.std.specs.List.{range_with_len}
use Rattle.trace_pair.specs.Inputs.{grid_value}
use Rattle.trace_pair.proofs.inputs.grid_input.Given as goal

abbrev pub invariant-loop-parameter : goal.invariant-loop-parameter
invariant-loop-parameter l = l.values.items ≡ map (grid_value l.index) (range_with_len 0 l.parameter)
