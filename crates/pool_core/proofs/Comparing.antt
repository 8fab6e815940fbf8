-- Lists that are compared one element after the other.
use Rattle.std.proofs.Common.{◌≡◌, ◌≢◌, ◌↔◌, ℕ, zero, suc, ◌<◌, ◌≤◌, ◌+◌, Bool, true, false, ◌||◌, inl, inr, List, [], ◌∷◌, length, map, take, drop, get_or, refl, sym, ap, ◌∙◌, subst, arith}
use Rattle.std.specs.Prelude.{slice_get, Some, ◌==◌}
use Rattle.std.specs.List.{list_any}
use Rattle.std.proofs.lemmas.List.{get_or-map, length-map}
use Rattle.std.proofs.lemmas.Option.{get_or_from_slice_get, slice_get_read}
use Rattle.std.proofs.lemmas.Bool.Decides.{nat_tests}
use Rattle.houdini.specs.Within.{IsSublist}
use Rattle.pool_core.specs.declared.pages.Added.{Added}

-- ---- fronts

-- Two lists that agree up to the end of the first: it is the front of the second.
pub front_of : {A : Type 0} (xs ys : List A) (k : ℕ) → length xs ≤ k → take k xs ≡ take k ys → xs ≡ take (length xs) ys
front_of [] ys k long same = refl
front_of (x ∷ xs) ys zero long same = absurd (omega (arith, long))
front_of (x ∷ xs) [] (suc k) long same = absurd cc
front_of {A} (x ∷ xs) (y ∷ ys) (suc k) long same =
    let first : x ≡ y = cc in
    let others : take k xs ≡ take k ys = cc in
    let tail : xs ≡ take (length xs) ys = front_of xs ys k (omega (arith, long)) others in
    ap (λ (z : A). z ∷ xs) first ∙ ap (λ (zs : List A). y ∷ zs) tail

-- What stands in a front stands in the list.
pub front_at : {A : Type 0} (xs ys : List A) (k : ℕ) (d : A) → k < length xs → xs ≡ take (length xs) ys → get_or xs k d ≡ get_or ys k d
front_at [] ys k d below same = absurd (omega (arith, below))
front_at (x ∷ xs) [] k d below same = absurd cc
front_at (x ∷ xs) (y ∷ ys) zero d below same = cc
front_at (x ∷ xs) (y ∷ ys) (suc k) d below same =
    let tail : xs ≡ take (length xs) ys = cc in front_at xs ys k d (omega (arith, below)) tail

-- A front is no longer.
pub front_shorter : {A : Type 0} (xs ys : List A) → xs ≡ take (length xs) ys → length xs ≤ length ys
front_shorter [] ys same = omega arith
front_shorter (x ∷ xs) [] same = absurd cc
front_shorter (x ∷ xs) (y ∷ ys) same =
    let tail : xs ≡ take (length xs) ys = cc in omega (arith, front_shorter xs ys tail)

one_behind : {A : Type 0} (xs ys : List A) (k : ℕ) (d : A) → k < length xs → k < length ys → take k xs ≡ take k ys
    → get_or xs k d ≡ get_or ys k d → take (suc k) xs ≡ take (suc k) ys
one_behind [] ys k d inside within same here = absurd (omega (arith, inside))
one_behind (x ∷ xs) [] k d inside within same here = absurd (omega (arith, within))
one_behind {A} (x ∷ xs) (y ∷ ys) zero d inside within same here = ap (λ (z : A). z ∷ []) here
one_behind {A} (x ∷ xs) (y ∷ ys) (suc k) d inside within same here =
    let first : x ≡ y = cc in
    let others : take k xs ≡ take k ys = cc in
    let tail = one_behind xs ys k d (omega (arith, inside)) (omega (arith, within)) others here in
    ap (λ (z : A). z ∷ take (suc k) xs) first ∙ ap (λ (zs : List A). y ∷ zs) tail

next_is : (k : ℕ) → suc k ≡ k + 1
next_is k = omega arith

-- One element more that is the same.
pub one_more : {A : Type 0} (xs ys : List A) (k : ℕ) (d : A) → k < length xs → k < length ys → take k xs ≡ take k ys
    → get_or xs k d ≡ get_or ys k d → take (k + 1) xs ≡ take (k + 1) ys
one_more xs ys k d inside within same here =
    subst (λ (n : ℕ). take n xs ≡ take n ys) (next_is k) (one_behind xs ys k d inside within same here)

-- ---- pairs that were added

-- The index at a place.
pub index_at : (added : List Added) (k : ℕ) (here : Added) (d : ℕ) → k < length added → slice_get added k ≡ Some here
    → get_or (map (λ (each : Added). each.index) added) k d ≡ here.index
index_at added k here d below found =
    get_or-map (λ (each : Added). each.index) added k here d below ∙ ap (λ (each : Added). each.index) (get_or_from_slice_get added k here here found)

-- There are as many indexes.
pub index_long : (added : List Added) → length (map (λ (each : Added). each.index) added) ≡ length added
index_long added = length-map added (λ (each : Added). each.index)

pub worker_at : (added : List Added) (k : ℕ) (here : Added) (d : ℕ) → k < length added → slice_get added k ≡ Some here
    → get_or (map (λ (each : Added). each.worker) added) k d ≡ here.worker
worker_at added k here d below found =
    get_or-map (λ (each : Added). each.worker) added k here d below ∙ ap (λ (each : Added). each.worker) (get_or_from_slice_get added k here here found)

-- ---- one that passes behind a place

pub none_behind : {A : Type 0} (p : A → Bool) (xs : List A) (k : ℕ) → length xs ≤ k → list_any p (drop k xs) ≡ false
none_behind p [] zero past = refl
none_behind p [] (suc k) past = refl
none_behind p (x ∷ xs) zero past = absurd (omega (arith, past))
none_behind p (x ∷ xs) (suc k) past = none_behind p xs k (omega (arith, past))

step_behind : {A : Type 0} (p : A → Bool) (xs : List A) (k : ℕ) (d : A) → k < length xs
    → list_any p (drop k xs) ≡ (p (get_or xs k d) || list_any p (drop (suc k) xs))
step_behind p [] k d below = absurd (omega (arith, below))
step_behind p (x ∷ xs) zero d below = refl
step_behind p (x ∷ xs) (suc k) d below = step_behind p xs k d (omega (arith, below))

same_passes : (x y : ℕ) (rest : Bool) → x ≡ y → ((x == y) || rest) ≡ true
same_passes x y rest same = grind (arith, nat_tests)

other_fails : (x y : ℕ) (rest : Bool) → x ≢ y → ((x == y) || rest) ≡ rest
other_fails x y rest differ = grind (arith, nat_tests)

-- Whether a pair of the worker stands from a place on.
abbrev pub from_place : List Added → ℕ → ℕ → Bool
from_place added worker k = list_any (λ other. other == worker) (drop k (map (λ (each : Added). each.worker) added))

module _ (added : List Added) (worker k : ℕ) (here : Added) (below : k < length added) (found : slice_get added k ≡ Some here) where
  abbrev workers : List ℕ
  workers = map (λ (each : Added). each.worker) added

  -- One at the place, or one behind it.
  at_place : from_place added worker k ≡ ((here.worker == worker) || from_place added worker (suc k))
  at_place =
      step_behind (λ other. other == worker) workers k 0 (subst (λ (n : ℕ). k < n) (sym (length-map added (λ (each : Added). each.worker))) below)
      ∙ ap (λ (own : ℕ). (own == worker) || from_place added worker (suc k)) (worker_at added k here 0 below found)

  pub found_here : here.worker ≡ worker → from_place added worker k ≡ true
  found_here same = at_place ∙ same_passes here.worker worker (from_place added worker (suc k)) same

  pub found_later : here.worker ≢ worker → from_place added worker k ≡ from_place added worker (k + 1)
  found_later differ =
      at_place ∙ other_fails here.worker worker (from_place added worker (suc k)) differ
      ∙ ap (λ (n : ℕ). from_place added worker n) (next_is k)

pub found_nowhere : (added : List Added) (worker k : ℕ) → length added ≤ k → from_place added worker k ≡ false
found_nowhere added worker k past =
    none_behind (λ other. other == worker) (map (λ (each : Added). each.worker) added) k
    (omega (arith, past, length-map added (λ (each : Added). each.worker)))

-- ---- sublists

pub sub_more : {A : Type 0} (xs ys : List A) (y : A) → IsSublist xs ys → IsSublist xs (y ∷ ys)
sub_more [] ys y sub = tt
sub_more (x ∷ xs) ys y sub = inr sub

sub_tail : {A : Type 0} (x : A) (xs ys : List A) → IsSublist (x ∷ xs) ys → IsSublist xs ys
sub_tail x xs [] sub = absurd sub
sub_tail x xs (y ∷ ys) (inl sub) = sub_more xs ys y sub.1
sub_tail x xs (y ∷ ys) (inr sub) = sub_more xs ys y (sub_tail x xs ys sub)

-- An element that is the same may be taken at once.
taken : {A : Type 0} (x y : A) (xs ys : List A) → x ≡ y → IsSublist (x ∷ xs) (y ∷ ys) ↔ IsSublist xs ys
taken x y xs ys same = (
  λ sub. by sub,
  λ sub. inl (same, sub),
)
  where
    by : IsSublist (x ∷ xs) (y ∷ ys) → IsSublist xs ys
    by (inl sub) = sub.1
    by (inr sub) = sub_tail x xs ys sub

-- Another one is passed.
passed : {A : Type 0} (x y : A) (xs ys : List A) → x ≢ y → IsSublist (x ∷ xs) (y ∷ ys) ↔ IsSublist (x ∷ xs) ys
passed x y xs ys differ = (
  λ sub. by sub,
  λ sub. inr sub,
)
  where
    by : IsSublist (x ∷ xs) (y ∷ ys) → IsSublist (x ∷ xs) ys
    by (inl sub) = absurd (differ sub.0)
    by (inr sub) = sub

-- What is left of a list from a place on.
drop_at : {A : Type 0} (xs : List A) (k : ℕ) (x : A) → slice_get xs k ≡ Some x → drop k xs ≡ x ∷ drop (suc k) xs
drop_at [] k x found = absurd cc
drop_at {A} (y ∷ xs) zero x found = let same : y ≡ x = cc in ap (λ (z : A). z ∷ xs) same
drop_at (y ∷ xs) (suc k) x found = drop_at xs k x found

pub drop_past : {A : Type 0} (xs : List A) (k : ℕ) → length xs ≤ k → drop k xs ≡ []
drop_past [] zero past = refl
drop_past [] (suc k) past = refl
drop_past (x ∷ xs) zero past = absurd (omega (arith, past))
drop_past (x ∷ xs) (suc k) past = drop_past xs k (omega (arith, past))

module _ {A : Type 0} (xs : List A) (n : ℕ) (x y : A) (found : slice_get xs n ≡ Some x) where
  -- The next one is taken where it is the same.
  pub greedy_taken : x ≡ y → (rest : List A) → IsSublist (drop n xs) (y ∷ rest) ↔ IsSublist (drop (n + 1) xs) rest
  greedy_taken same rest =
      subst (λ (m : ℕ). IsSublist (drop n xs) (y ∷ rest) ↔ IsSublist (drop m xs) rest) (next_is n)
      (subst (λ (zs : List A). IsSublist zs (y ∷ rest) ↔ IsSublist (drop (suc n) xs) rest) (sym (drop_at xs n x found))
      (taken x y (drop (suc n) xs) rest same))

  -- Another one is passed.
  pub greedy_passed : x ≢ y → (rest : List A) → IsSublist (drop n xs) (y ∷ rest) ↔ IsSublist (drop n xs) rest
  greedy_passed differ rest =
      subst (λ (zs : List A). IsSublist zs (y ∷ rest) ↔ IsSublist zs rest) (sym (drop_at xs n x found))
      (passed x y (drop (suc n) xs) rest differ)

-- Nothing is left to be found.
pub greedy_done : {A : Type 0} (xs : List A) (n : ℕ) (y : A) → length xs ≤ n → (rest : List A)
    → IsSublist (drop n xs) (y ∷ rest) ↔ IsSublist (drop n xs) rest
greedy_done {A} xs n y done rest =
    subst (λ (zs : List A). IsSublist zs (y ∷ rest) ↔ IsSublist zs rest) (sym (drop_past xs n done)) ((λ sub. tt), (λ sub. tt))

-- The rest from the next place on.
pub rest_at : {A : Type 0} (xs : List A) (k : ℕ) (x : A) → k < length xs → x ≡ get_or xs k x → drop k xs ≡ x ∷ drop (k + 1) xs
rest_at {A} xs k x below is =
    drop_at xs k x (slice_get_read xs (length xs) k x refl below is) ∙ ap (λ (n : ℕ). x ∷ drop n xs) (next_is k)

-- At the end all were found exactly where none is left.
pub greedy_end : {A : Type 0} (xs ys : List A) (n k : ℕ) → n ≤ length xs → length ys ≤ k
    → IsSublist (drop n xs) (drop k ys) ↔ (n ≡ length xs)
greedy_end {A} xs ys n k few past =
    subst (λ (zs : List A). IsSublist (drop n xs) zs ↔ (n ≡ length xs)) (sym (drop_past ys k past)) (by xs n few)
  where
    by : (zs : List A) (m : ℕ) → m ≤ length zs → IsSublist (drop m zs) [] ↔ (m ≡ length zs)
    by [] zero within = ((λ sub. refl), (λ same. tt))
    by [] (suc m) within = absurd (omega (arith, within))
    by (z ∷ zs) zero within = ((λ sub. absurd sub), (λ same. absurd (omega (arith, same))))
    by (z ∷ zs) (suc m) within =
        let tail = by zs m (omega (arith, within)) in
        ((λ sub. omega (arith, tail.0 sub)), (λ same. tail.1 (omega (arith, same))))
