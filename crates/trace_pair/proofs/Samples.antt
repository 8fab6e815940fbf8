-- The definitions on small samples.
use Rattle.std.proofs.Common.{◌≡◌, [], ◌∷◌, pos, negsuc, refl}
use Rattle.c_ast.specs.Bounds.{bounds}
use Rattle.trace_pair.specs.Inputs.{word_value, input_of}

last_of_the_grid : input_of (bounds 100 64 400 0) 124 4 ≡ pos 7 ∷ pos 7 ∷ pos 7 ∷ pos 0 ∷ []
last_of_the_grid = refl

lowest_digit_first : input_of (bounds 100 64 400 0) 23 2 ≡ negsuc 0 ∷ pos 7 ∷ []
lowest_digit_first = refl

least_word : word_value 41 ≡ negsuc 19
least_word = refl

greatest_word : word_value 40 ≡ pos 20
greatest_word = refl
