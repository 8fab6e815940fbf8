-- The sizes of products and of sums, and numbers of 128 bits.
use Rattle.std.proofs.Common.{◌≡◌, ℕ, ◌+◌, ◌*◌, ◌<◌, ◌≤◌, ◌^◌, arith, List, length, drop, get_or, map, ap, sym, ◌∙◌, to_z, of_z}
use Rattle.std.specs.Int.{w128}
use Rattle.std.specs.Prelude.{ℤ, pos, ◌+ℤ◌, ◌*ℤ◌, unsigned_abs}
use Rattle.std.proofs.lemmas.Int.{ints, to_z-of_z, unsigned_abs-mul, fits_signed_from_abs}
use Rattle.std.proofs.lemmas.Nat.{mul-lt}
use Rattle.std.proofs.lemmas.List.{get_or-map}
use Rattle.std.proofs.Math.ListN.{drop_of_length-le}
use Rattle.lin_terms.specs.Vectors.{dot}
use Rattle.lin_terms.proofs.Dots.{dot-drop}

pub unsigned_abs-product : (x y : ℤ) (m n : ℕ) → unsigned_abs x < m → unsigned_abs y < n → unsigned_abs (x *ℤ y) < m * n
unsigned_abs-product x y m n small_x small_y = rw (unsigned_abs-mul x y) (mul-lt (unsigned_abs x) (unsigned_abs y) m n small_x small_y)

pub unsigned_abs-sum : (x y : ℤ) → unsigned_abs (x +ℤ y) ≤ unsigned_abs x + unsigned_abs y
unsigned_abs-sum x y = omega (arith, ints)

-- a number that 128 bits hold, as the code reads it
pub back : (x : ℤ) → unsigned_abs x < 2 ^ 127 → to_z w128 (of_z w128 x) ≡ x
back x small = to_z-of_z w128 x (fits_signed_from_abs w128 x small)

-- a sum with room for one more number, as the code computes it
pub sum_back : (x y : ℤ) → unsigned_abs x < 2 ^ 126 → unsigned_abs y < 2 ^ 126 → to_z w128 (of_z w128 (x +ℤ to_z w128 (of_z w128 y))) ≡ x +ℤ y
sum_back x y room small = rw (back y (omega arith)) (back (x +ℤ y) (omega (arith, unsigned_abs-sum x y)))

-- ---- sums of products that are made one product after the other

-- one more product
pub summed : (xs ys : List ℤ) (i : ℕ) (sum product all : ℤ) → i < length xs
    → product ≡ get_or xs i (pos 0) *ℤ get_or ys i (pos 0)
    → sum +ℤ dot (drop i xs) (drop i ys) ≡ all
    → (sum +ℤ product) +ℤ dot (drop (i + 1) xs) (drop (i + 1) ys) ≡ all
summed xs ys i sum product all in_xs is so_far =
    let next = rw (dot-drop xs ys i in_xs, ← is) at so_far in omega (arith, ints)

-- the same, where the second list tells something of other things
pub mapped_summed : {X : Type 0} (g : X → ℤ) (xs : List ℤ) (others : List X) (i : ℕ) (other : X) (sum product all : ℤ)
    → i < length xs → i < length others → other ≡ get_or others i other → product ≡ get_or xs i (pos 0) *ℤ g other
    → sum +ℤ dot (drop i xs) (drop i (map g others)) ≡ all
    → (sum +ℤ product) +ℤ dot (drop (i + 1) xs) (drop (i + 1) (map g others)) ≡ all
mapped_summed g xs others i other sum product all in_xs in_others is made so_far =
    let there : get_or (map g others) i (pos 0) ≡ g other = get_or-map g others i other (pos 0) in_others ∙ ap g (sym is) in
    summed xs (map g others) i sum product all in_xs (made ∙ ap (λ z. get_or xs i (pos 0) *ℤ z) (sym there)) so_far

-- all products are added
pub summed_all : (xs ys : List ℤ) (i : ℕ) (sum all : ℤ) → length xs ≤ i → sum +ℤ dot (drop i xs) (drop i ys) ≡ all → sum ≡ all
summed_all xs ys i sum all past so_far =
    let at_end = rw (drop_of_length-le xs past) at so_far in omega (arith, ints)

-- the bound grows by that of a product
pub grown : (i most : ℕ) (sum product : ℤ) → unsigned_abs sum ≤ i * most → unsigned_abs product ≤ most
    → unsigned_abs (sum +ℤ product) ≤ (i + 1) * most
grown i most sum product bound small = omega (arith, unsigned_abs-sum sum product)
