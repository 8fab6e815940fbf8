-- Lists of integers, entry by entry. No definition asks for equal lengths.
use Rattle.std.specs.Prelude.{ℕ, ℤ, pos, ◌+ℤ◌, ◌*ℤ◌, List, [], ◌∷◌, map, replicate, slice_set}

-- the sum of the products; past the end of one list nothing is added
abbrev pub dot : List ℤ → List ℤ → ℤ
dot [] ys = pos 0
dot (x ∷ xs) [] = pos 0
dot (x ∷ xs) (y ∷ ys) = (x *ℤ y) +ℤ dot xs ys

-- the sums; past the end of one list stand the entries of the other
abbrev pub plus : List ℤ → List ℤ → List ℤ
plus [] ys = ys
plus (x ∷ xs) [] = x ∷ xs
plus (x ∷ xs) (y ∷ ys) = (x +ℤ y) ∷ plus xs ys

-- the multiples by k
abbrev pub scaled : ℤ → List ℤ → List ℤ
scaled k xs = map (λ x. k *ℤ x) xs

-- so many numbers, of which the one at i is this and all others are 0
abbrev pub only_at : ℕ → ℕ → ℤ → List ℤ
only_at count i entry = slice_set (replicate count (pos 0)) i entry
