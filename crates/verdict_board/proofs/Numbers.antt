-- The numbers below k, each once: how many they are, and where they stand.
use Rattle.std.proofs.Common.{◌≡◌, ℕ, ◌+◌, ◌<◌, ◌≤◌, ◌==◌, if◌then◌else◌, nat_lt, Bool, true, false, zero, suc, List, [], ◌∷◌, length, refl, ap, arith, Some, slice_get}
use Rattle.std.proofs.lemmas.Bool.Decides.{nat_tests}
use Rattle.std.proofs.lemmas.Option.{none-some, same_Some}
use Rattle.verdict_board.specs.Numbers.{times, past, once_below, AreBelow}
use Rattle.verdict_board.specs.Laws.{LengthOfNumbers, NumbersStand, NumbersAreBelow, NumbersStandOnce}

-- ---- how many they are

-- how many numbers of the list are below m
abbrev counted : ℕ → List ℕ → ℕ
counted zero xs = 0
counted (suc m) xs = counted m xs + times m xs

counted-nil : (m : ℕ) → counted m [] ≡ 0
counted-nil zero = refl
counted-nil (suc m) = let fewer = counted-nil m in omega arith

counted-cons : (m y : ℕ) (ys : List ℕ) → counted m (y ∷ ys) ≡ counted m ys + (if nat_lt y m then 1 else 0)
counted-cons zero y ys = grind (arith, nat_tests)
counted-cons (suc m) y ys = let fewer = counted-cons m y ys in grind (arith, nat_tests)

-- each number is below m, or at or past it
counted-past : (m : ℕ) (xs : List ℕ) → counted m xs + past m xs ≡ length xs
counted-past m [] = let none = counted-nil m in omega arith
counted-past m (y ∷ ys) =
    let others = counted-past m ys in
    let one = counted-cons m y ys in
    grind (arith, nat_tests)

once_of_below : (x k : ℕ) → x < k → once_below x k ≡ 1
once_of_below x k below = grind (arith, nat_tests)

below_of_once : (x k : ℕ) → 0 < once_below x k → x < k
below_of_once x k once = grind (arith, nat_tests)

counted_up_to : (k m : ℕ) (xs : List ℕ) → AreBelow k xs → m ≤ k → counted m xs ≡ m
counted_up_to k zero xs are le = refl
counted_up_to k (suc m) xs are le =
    let fewer = counted_up_to k m xs are (omega arith) in
    let here = are m in
    let one = once_of_below m k (omega arith) in
    omega arith

-- where each number that is counted is below k, none is past it
none_past : (k : ℕ) (xs : List ℕ) → ((x : ℕ) → 0 < times x xs → x < k) → past k xs ≡ 0
none_past k [] low = refl
none_past k (y ∷ ys) low =
    let same : (y == y) ≡ true = grind (arith, nat_tests) in
    let here : y < k = low y (rw same (omega arith)) in
    let others = none_past k ys (λ x has. low x (omega arith)) in
    grind (arith, nat_tests)

-- ---- where they stand

stands_counted : (xs : List ℕ) (i x : ℕ) → slice_get xs i ≡ Some x → 0 < times x xs
stands_counted [] i x at = absurd (none-some x at)
stands_counted (y ∷ ys) zero x at = let same = same_Some y x at in grind (arith, nat_tests)
stands_counted (y ∷ ys) (suc i) x at = let others = stands_counted ys i x at in omega arith

counted_stands : (xs : List ℕ) (x : ℕ) → 0 < times x xs → (i : ℕ) × (slice_get xs i ≡ Some x)
counted_stands [] x has = absurd (omega arith)
counted_stands (y ∷ ys) x has = here_or_further y ys x (y == x) refl has (counted_stands ys x)
  where
    here_or_further : (y : ℕ) (ys : List ℕ) (x : ℕ) (b : Bool) → (y == x) ≡ b → 0 < times x (y ∷ ys)
        → (0 < times x ys → (i : ℕ) × (slice_get ys i ≡ Some x)) → (i : ℕ) × (slice_get (y ∷ ys) i ≡ Some x)
    here_or_further y ys x true is has further = (0, let same : y ≡ x = grind (arith, nat_tests) in ap (λ z. Some z) same)
    here_or_further y ys x false is has further = let found = further (grind (arith, nat_tests)) in (suc found.0, found.1)

stands_once : (xs : List ℕ) (i j x : ℕ) → times x xs ≤ 1 → slice_get xs i ≡ Some x → slice_get xs j ≡ Some x → i ≡ j
stands_once [] i j x most at there = absurd (none-some x at)
stands_once (y ∷ ys) zero zero x most at there = refl
stands_once (y ∷ ys) zero (suc j) x most at there =
    let same = same_Some y x at in
    let more = stands_counted ys j x there in
    absurd (grind (arith, nat_tests))
stands_once (y ∷ ys) (suc i) zero x most at there =
    let same = same_Some y x there in
    let more = stands_counted ys i x at in
    absurd (grind (arith, nat_tests))
stands_once (y ∷ ys) (suc i) (suc j) x most at there =
    let further = stands_once ys i j x (omega arith) at there in
    omega arith

-- ---- the laws

pub numbers_stand_once : NumbersStandOnce
numbers_stand_once k xs are i j x at there =
    let here = are x in
    let most : once_below x k ≤ 1 = grind (arith, nat_tests) in
    stands_once xs i j x (omega arith) at there

pub numbers_are_below : NumbersAreBelow
numbers_are_below k xs are i x at =
    let has = stands_counted xs i x at in
    let here = are x in
    below_of_once x k (omega arith)

pub numbers_stand : NumbersStand
numbers_stand k xs are x below =
    let here = are x in
    let one = once_of_below x k below in
    counted_stands xs x (omega arith)

pub length_of_numbers : LengthOfNumbers
length_of_numbers k xs are =
    let all = counted-past k xs in
    let below = counted_up_to k k xs are (omega arith) in
    let none = none_past k xs (λ x has. let here = are x in below_of_once x k (omega arith)) in
    omega arith
