use Rattle.std.proofs.Common.{◌≡◌, ◌-◌, ◌++◌, map}
use Rattle.trace_pair.specs.Inputs.{word_value, words, generator_of}
use Rattle.trace_pair.proofs.inputs.later_input.Given as goal

abbrev pub invariant-loop-parameter : goal.invariant-loop-parameter
invariant-loop-parameter l = l.values.items ++ map word_value (words (l.arity - l._parameter) l.generator)
    ≡ map word_value (words l.arity (generator_of l.seed l.index))
