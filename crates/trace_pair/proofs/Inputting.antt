-- What holds of every input.
use Rattle.std.proofs.Common.{◌≡◌, ℕ, ℤ, Bool, true, false, cond, nat_lt, List, map, length, arith}
use Rattle.std.specs.Prelude.{All}
use Rattle.std.specs.List.{range_with_len}
use Rattle.std.proofs.lemmas.Bool.Decides.{nat_tests}
use Rattle.std.proofs.lemmas.List.{length-map}
use Rattle.std.proofs.lemmas.List.Elements.{All-weaker}
use Rattle.std.proofs.lemmas.List.FromFn.{length-map-range_with_len}
use Rattle.std.proofs.Common.{◌∙◌}
use Rattle.rand_pcg.specs.Lcg.{Lcg}
use Rattle.c_ast.specs.Bounds.{Bounds}
use Rattle.c_ast.specs.FitsRun.{FitsRun}
use Rattle.graph_run.specs.Answers.{AllFitRun}
use Rattle.trace_pair.specs.Inputs.{grid_size, grid_value, word_value, words, generator_of, input_of, IsNear}
use Rattle.trace_pair.proofs.Grid.{grid_is_near}
use Rattle.trace_pair.proofs.Words.{length-words, words_are_near}

pub length-grid : (index arity : ℕ) → length (map (grid_value index) (range_with_len 0 arity)) ≡ arity
length-grid index arity = length-map-range_with_len (grid_value index) 0 arity

pub length-later : (arity : ℕ) (generator : Lcg) → length (map word_value (words arity generator)) ≡ arity
length-later arity generator = length-map (words arity generator) word_value ∙ length-words arity generator

pub length_of_input : (settings : Bounds) (index arity : ℕ) → length (input_of settings index arity) ≡ arity
length_of_input settings index arity = on (nat_lt index (grid_size arity))
  where
    on : (early : Bool)
        → length (cond early (map (grid_value index) (range_with_len 0 arity)) (map word_value (words arity (generator_of settings.seed index)))) ≡ arity
    on true = length-grid index arity
    on false = length-later arity (generator_of settings.seed index)

pub near_input_of : (settings : Bounds) (index arity : ℕ) → All IsNear (input_of settings index arity)
near_input_of settings index arity = on (nat_lt index (grid_size arity))
  where
    on : (early : Bool)
        → All IsNear (cond early (map (grid_value index) (range_with_len 0 arity)) (map word_value (words arity (generator_of settings.seed index))))
    on true = grid_is_near index arity
    on false = words_are_near arity (generator_of settings.seed index)

near_fits : (value : ℤ) → IsNear value → FitsRun value
near_fits value near = grind (arith, nat_tests)

pub near_all_fit : (values : List ℤ) → All IsNear values → AllFitRun values
near_all_fit values near = All-weaker IsNear FitsRun near_fits values near
