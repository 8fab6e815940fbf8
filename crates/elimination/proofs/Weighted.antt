-- Weighted sums of two lists, of which the shorter one is filled up with zeros.
use Rattle.std.proofs.Common.{◌≡◌, ℕ, zero, suc, ◌+◌, ◌<◌, ◌≤◌, max, false, eqb, List}
use Rattle.std.proofs.Common.{[], ◌∷◌, ◌++◌, arith, refl, sym, ◌∙◌, ap, length, get_or, drop, drop-cons, append_assoc}
use Rattle.std.specs.Prelude.{ℤ, pos, ◌+ℤ◌, ◌*ℤ◌}
use Rattle.std.proofs.lemmas.Int.{ints}
use Rattle.std.proofs.lemmas.Bool.Decides.{nat_tests}
use Rattle.lin_terms.specs.Vectors.{plus, scaled}
use Rattle.elimination.specs.declared.multipliers.Multiplier.{Multiplier}
use Rattle.elimination.specs.Sparse.{at, table, IsRising}
use Rattle.elimination.proofs.Merging.{rising_bounds}

plus-nil : (xs : List ℤ) → plus xs [] ≡ xs
plus-nil [] = refl
plus-nil (x ∷ xs) = refl

drop-nil : (i : ℕ) → drop {A = ℤ} i [] ≡ []
drop-nil zero = refl
drop-nil (suc i) = refl

right_alone : (k x : ℤ) → x ≡ (k *ℤ pos 0) +ℤ x
right_alone k x = omega (arith, ints)

left_alone : (l x : ℤ) → x ≡ x +ℤ (l *ℤ pos 0)
left_alone l x = omega (arith, ints)

-- ---- entry by entry

-- the sums that are left, with the next in front
sums_left : (k l : ℤ) (xs ys : List ℤ) (i : ℕ) → i < max (length xs) (length ys)
    → plus (scaled k (drop i xs)) (scaled l (drop i ys))
    ≡ ((k *ℤ get_or xs i (pos 0)) +ℤ (l *ℤ get_or ys i (pos 0))) ∷ plus (scaled k (drop (suc i) xs)) (scaled l (drop (suc i) ys))
sums_left k l [] [] i inside = absurd (omega arith)
sums_left k l [] (y ∷ ys) i inside =
    let in_ys : i < length (y ∷ ys) = omega arith in
    rw (drop-nil i, drop-cons (y ∷ ys) i (pos 0) in_ys) (ap (λ t. t ∷ scaled l (drop (suc i) (y ∷ ys))) (right_alone k (l *ℤ get_or (y ∷ ys) i (pos 0))))
sums_left k l (x ∷ xs) [] i inside =
    let in_xs : i < length (x ∷ xs) = omega arith in
    rw (drop-nil i, drop-cons (x ∷ xs) i (pos 0) in_xs, plus-nil (scaled k (drop (suc i) (x ∷ xs))))
    (ap (λ t. t ∷ scaled k (drop (suc i) (x ∷ xs))) (left_alone l (k *ℤ get_or (x ∷ xs) i (pos 0))))
sums_left k l (x ∷ xs) (y ∷ ys) zero inside = refl
sums_left k l (x ∷ xs) (y ∷ ys) (suc i) inside = sums_left k l xs ys i (omega arith)

-- one more sum is made
pub sums_step : (k l : ℤ) (xs ys made after all : List ℤ) (i : ℕ) (x y entry : ℤ) → i < max (length xs) (length ys)
    → x ≡ get_or xs i (pos 0) → y ≡ get_or ys i (pos 0) → entry ≡ (k *ℤ x) +ℤ (l *ℤ y)
    → made ++ plus (scaled k (drop i xs)) (scaled l (drop i ys)) ≡ all → after ≡ made ++ entry ∷ []
    → after ++ plus (scaled k (drop (i + 1) xs)) (scaled l (drop (i + 1) ys)) ≡ all
sums_step k l xs ys made after all i x y entry inside x_is y_is entry_is so_far is =
    let next : i + 1 ≡ suc i = omega arith in
    let entry_there = entry_is ∙ ap (λ t. (k *ℤ t) +ℤ (l *ℤ y)) x_is ∙ ap (λ t. (k *ℤ get_or xs i (pos 0)) +ℤ (l *ℤ t)) y_is in
    let rest : List ℤ = plus (scaled k (drop (suc i) xs)) (scaled l (drop (suc i) ys)) in
    rw (next, is) (append_assoc made (entry ∷ []) rest ∙ ap (λ t. made ++ t) (ap (λ t. t ∷ rest) entry_there ∙ sym (sums_left k l xs ys i inside)) ∙ so_far)

-- ---- row by row

at_past : (row low high : ℕ) (entries : List Multiplier) → IsRising low high entries → high ≤ row → at entries row ≡ pos 0
at_past row low high [] rising past = refl
at_past row low high (entry ∷ entries) rising past =
    let bound = rising_bounds (suc entry.row) high entries rising.1 in
    let other : eqb entry.row row ≡ false = grind (arith, nat_tests) in
    rw (other, at_past row (suc entry.row) high entries rising.1 past) refl

-- no multipliers from this row on
abbrev pub EndsBefore : ℕ → List Multiplier → Type 0
EndsBefore high entries = (row : ℕ) → high ≤ row → at entries row ≡ pos 0

pub ends_before : (high : ℕ) (entries : List Multiplier) → IsRising 0 high entries → EndsBefore high entries
ends_before high entries rising row past = at_past row 0 high entries rising past

table_sums : (k l : ℤ) (first n m count : ℕ) (made ps qs : List Multiplier) → count ≡ max n m
    → ((row : ℕ) → at made row ≡ (k *ℤ at ps row) +ℤ (l *ℤ at qs row)) → EndsBefore (first + n) ps → EndsBefore (first + m) qs
    → table first count made ≡ plus (scaled k (table first n ps)) (scaled l (table first m qs))
table_sums k l first zero zero zero made ps qs is sums ps_end qs_end = refl
table_sums k l first zero zero (suc count) made ps qs is sums ps_end qs_end = absurd (omega arith)
table_sums k l first zero (suc m) zero made ps qs is sums ps_end qs_end = absurd (omega arith)
table_sums k l first (suc n) m zero made ps qs is sums ps_end qs_end = absurd (omega arith)
table_sums k l first zero (suc m) (suc count) made ps qs is sums ps_end qs_end =
    rw (
      sums first,
      ps_end first (omega arith),
      table_sums k l (suc first) zero m count made ps qs (omega arith) sums
          (λ row past. ps_end row (omega arith)) (λ row past. qs_end row (omega arith)),
    )
    (ap (λ t. t ∷ scaled l (table (suc first) m qs)) (sym (right_alone k (l *ℤ at qs first))))
table_sums k l first (suc n) zero (suc count) made ps qs is sums ps_end qs_end =
    rw (
      sums first,
      qs_end first (omega arith),
      table_sums k l (suc first) n zero count made ps qs (omega arith) sums
          (λ row past. ps_end row (omega arith)) (λ row past. qs_end row (omega arith)),
      plus-nil (scaled k (table (suc first) n ps)),
    )
    (ap (λ t. t ∷ scaled k (table (suc first) n ps)) (sym (left_alone l (k *ℤ at ps first))))
table_sums k l first (suc n) (suc m) (suc count) made ps qs is sums ps_end qs_end =
    rw (
      sums first,
      table_sums k l (suc first) n m count made ps qs (omega arith) sums (λ row past. ps_end row (omega arith))
          (λ row past. qs_end row (omega arith)),
    ) refl

-- the multipliers of the sum, of as many rows as the longer list has
pub table-sum : (k l : ℤ) (n m count : ℕ) (made ps qs : List Multiplier) (first second : List ℤ) → count ≡ max n m
    → ((row : ℕ) → at made row ≡ (k *ℤ at ps row) +ℤ (l *ℤ at qs row)) → IsRising 0 n ps → IsRising 0 m qs → table 0 n ps ≡ first → table 0 m qs ≡ second
    → table 0 count made ≡ plus (scaled k first) (scaled l second)
table-sum k l n m count made ps qs first second is sums ps_rising qs_rising first_is second_is =
    table_sums k l 0 n m count made ps qs is sums (λ row past. ends_before n ps ps_rising row (omega arith))
    (λ row past. ends_before m qs qs_rising row (omega arith))
    ∙ ap (λ t. plus (scaled k t) (scaled l (table 0 m qs))) first_is
    ∙ ap (λ t. plus (scaled k first) (scaled l t)) second_is
