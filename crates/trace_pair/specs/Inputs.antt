-- The inputs of samples: a grid of small values first, and then words of a generator (O'Neill, "PCG: a family of simple
-- fast space-efficient statistically good algorithms for random number generation").
use Rattle.std.specs.Prelude.{ℕ, zero, suc, ◌≤◌, ◌/◌, ◌%◌, ◌^◌, min, nat_lt, if◌then◌else◌, List, [], ◌∷◌, map, ℤ, pos, negsuc, ◌-ℤ◌, unsigned_abs, slice_index_or}
use Rattle.std.specs.List.{range_with_len}
use Rattle.rand_pcg.specs.Lcg.{Lcg, started, increment_of}
use Rattle.rand_pcg.specs.Pcg.{pcg32, multiplier_64}
use Rattle.c_ast.specs.Bounds.{Bounds}

-- the values that a parameter takes in the grid
abbrev pub grid : List ℤ
grid = pos 0 ∷ pos 1 ∷ pos 2 ∷ negsuc 0 ∷ pos 7 ∷ []

-- how many inputs the grid has: the first three parameters take its values, and all others are 0
abbrev pub grid_size : ℕ → ℕ
grid_size arity = 5 ^ min arity 3

-- A parameter takes the value whose number is its digit of the index to base 5, the lowest digit being parameter 0's.
abbrev pub grid_value : ℕ → ℕ → ℤ
grid_value index parameter =
    if nat_lt parameter 3 then slice_index_or grid (index / 5 ^ parameter % 5) (pos 0) else pos 0

-- the generator of an index: the settings' seed, on a stream of the index's own
abbrev pub generator_of : ℕ → ℕ → Lcg
generator_of seed index = started 64 multiplier_64 seed (increment_of 64 index)

-- the next words of a generator
abbrev pub words : ℕ → Lcg → List ℕ
words zero generator = []
words (suc n) generator = (pcg32 generator).0 ∷ words n (pcg32 generator).1

-- the value from -20 to 20 that a word stands for
abbrev pub word_value : ℕ → ℤ
word_value word = pos (word % 41) -ℤ pos 20

-- the values of the parameters at an index, of which there are `arity`
abbrev pub input_of : Bounds → ℕ → ℕ → List ℤ
input_of settings index arity =
    if nat_lt index (grid_size arity) then map (grid_value index) (range_with_len 0 arity)
    else map word_value (words arity (generator_of settings.seed index))

-- The value is one from -20 to 20.
abbrev pub IsNear : ℤ → Type 0
IsNear value = unsigned_abs value ≤ 20
