-- Where the first inequality with some coefficients stands, in front and behind, and what is noted as rows are added.
use Rattle.std.proofs.Common.{◌≡◌, ℕ, zero, suc, ◌+◌, ◌≤◌, ◌<◌, min, Bool, true, false, cond, not, ◌&&◌, arith, refl, sym, ◌∙◌, ap}
use Rattle.std.proofs.Common.{List, [], ◌∷◌, ◌++◌, take, drop, length, get_or, set, Option, Some, None}
use Rattle.std.specs.Prelude.{nat_lt, ℤ, position, Vec}
use Rattle.std.specs.List.{position_from}
use Rattle.std.specs.Ordering.{int_eq}
use Rattle.std.proofs.lemmas.List.{drop_all, drop-append-le, length-drop, length-append, take_min}
use Rattle.std.specs.Map.{KeepsOthers}
use Rattle.std.specs.declared.alloc.Global.{Global}
use Rattle.std.proofs.lemmas.List.Quantifiers.{position-Some}
use Rattle.std.proofs.lemmas.Bool.{and_parts, not-true}
use Rattle.std.proofs.lemmas.Bool.Decides.{nat_tests, Decides-int_eq}
use Rattle.std.proofs.lemmas.Iterator.Adapters.{position_from-zero}
use lib.Pointwise.{pointwise, pointwise_decides}
use Rattle.indexmap.specs.IndexMap.{IndexMap, Updates}
use Rattle.elimination.specs.Combination.{Combination}
use Rattle.elimination.specs.Joining.{is_parallel, placed, added}
use Rattle.elimination.specs.Indexed.{scanned, has_coefs, place_of, noted, TellsPlaces}
use Rattle.elimination.proofs.PointsOfLists.{same_coefs}

-- the first answer, or the second where there is none
abbrev pub or_else : Option ℕ → Option ℕ → Option ℕ
or_else (Some at) later = Some at
or_else None later = later

none_later : (found : Option ℕ) → or_else found None ≡ found
none_later (Some at) = refl
none_later None = refl

none_first : (first later : Option ℕ) → None ≡ or_else first later → (first ≡ None) × (later ≡ None)
none_first (Some at) later e = cc
none_first None later e = (refl, sym e)

less_if : (a b : ℕ) → nat_lt a b ≡ true → a < b
less_if a b e = grind (arith, nat_tests, e)

most_if : (a b : ℕ) → nat_lt a b ≡ false → b ≤ a
most_if a b e = grind (arith, nat_tests, e)

module _ {X : Type 0} (test : X → Bool) where
  -- first among the first n, then behind them
  found_from : (i n : ℕ) (xs : List X)
      → position_from test i xs ≡ or_else (position_from test i (take n xs)) (position_from test (i + n) (drop n xs))
  found_from i zero xs = let same : i ≡ i + 0 = omega arith in ap (λ k. position_from test k xs) same
  found_from i (suc n) [] = refl
  found_from i (suc n) (x ∷ xs) = by (test x) (found_from (i + 1) n xs)
    where
      by : (t : Bool) → position_from test (i + 1) xs ≡ or_else (position_from test (i + 1) (take n xs)) (position_from test ((i + 1) + n) (drop n xs))
          → cond t (Some i) (position_from test (i + 1) xs)
          ≡ or_else (cond t (Some i) (position_from test (i + 1) (take n xs))) (position_from test (i + suc n) (drop n xs))
      by true later = refl
      by false later =
          let same : (i + 1) + n ≡ i + suc n = omega arith in
          later ∙ ap (λ k. or_else (position_from test (i + 1) (take n xs)) (position_from test k (drop n xs))) same

  pub found_in_parts : (n : ℕ) (xs : List X) → position test xs ≡ or_else (position test (take n xs)) (position_from test n (drop n xs))
  found_in_parts n xs =
      let same : 0 + n ≡ n = omega arith in
      position_from-zero test xs ∙ found_from 0 n xs ∙ ap (λ k. or_else (position_from test 0 (take n xs)) (position_from test k (drop n xs))) same
      ∙ ap (λ found. or_else found (position_from test n (drop n xs))) (sym (position_from-zero test (take n xs)))

  -- with one more element at the end
  found_at_end : (i : ℕ) (xs : List X) (y : X)
      → position_from test i (xs ++ y ∷ []) ≡ or_else (position_from test i xs) (cond (test y) (Some (i + length xs)) None)
  found_at_end i [] y = let same : i ≡ i + 0 = omega arith in ap (λ k. cond (test y) (Some k) None) same
  found_at_end i (x ∷ xs) y = by (test x) (found_at_end (i + 1) xs y)
    where
      by : (t : Bool) → position_from test (i + 1) (xs ++ y ∷ []) ≡ or_else (position_from test (i + 1) xs) (cond (test y) (Some ((i + 1) + length xs)) None)
          → cond t (Some i) (position_from test (i + 1) (xs ++ y ∷ []))
          ≡ or_else (cond t (Some i) (position_from test (i + 1) xs)) (cond (test y) (Some (i + suc (length xs))) None)
      by true later = refl
      by false later =
          let same : (i + 1) + length xs ≡ i + suc (length xs) = omega arith in
          later ∙ ap (λ k. or_else (position_from test (i + 1) xs) (cond (test y) (Some k) None)) same

  -- what is found behind the first n, with one more element at the end
  abbrev AddedBehind : ℕ → List X → X → Type 0
  AddedBehind n xs y = position_from test n (drop n (xs ++ y ∷ []))
      ≡ or_else (position_from test n (drop n xs)) (cond (not (nat_lt (length xs) n) && test y) (Some (length xs)) None)

  pub added_behind : (n : ℕ) (xs : List X) (y : X) → AddedBehind n xs y
  added_behind n xs y = by (nat_lt (length xs) n) refl
    where
      by : (short : Bool) → nat_lt (length xs) n ≡ short → AddedBehind n xs y
      by true short =
          let less = less_if (length xs) n short in
          let longer = length-append xs (y ∷ []) in
          let all = drop_all n (xs ++ y ∷ []) (omega (arith, less, longer)) in
          let before = drop_all n xs (omega (arith, less)) in
          rw (all, before, short) refl
      by false short =
          let within = most_if (length xs) n short in
          let place : n + length (drop n xs) ≡ length xs = omega (arith, within, length-drop n xs) in
          ap (λ l. position_from test n l) (drop-append-le n xs (y ∷ []) within) ∙ found_at_end n (drop n xs) y
          ∙ ap (λ k. or_else (position_from test n (drop n xs)) (cond (test y) (Some k) None)) place
          ∙ ap (λ t. or_else (position_from test n (drop n xs)) (cond (not t && test y) (Some (length xs)) None)) (sym short)

  -- another element in the place of one of the same kind
  pub found_in_place : (i : ℕ) (xs : List X) (at : ℕ) (y d : X) → at < length xs → test y ≡ test (get_or xs at d)
      → position_from test i (set xs at y) ≡ position_from test i xs
  found_in_place i [] at y d within same = absurd (omega (arith, within))
  found_in_place i (x ∷ xs) zero y d within same = ap (λ t. cond t (Some i) (position_from test (i + 1) xs)) same
  found_in_place i (x ∷ xs) (suc at) y d within same =
      ap (λ found. cond (test x) (Some i) found) (found_in_place (i + 1) xs at y d (omega (arith, within)) same)

  pub behind_in_place : (i n : ℕ) (xs : List X) (at : ℕ) (y d : X) → at < length xs → test y ≡ test (get_or xs at d)
      → position_from test i (drop n (set xs at y)) ≡ position_from test i (drop n xs)
  behind_in_place i zero xs at y d within same = found_in_place i xs at y d within same
  behind_in_place i (suc n) [] at y d within same = absurd (omega (arith, within))
  behind_in_place i (suc n) (x ∷ xs) zero y d within same = refl
  behind_in_place i (suc n) (x ∷ xs) (suc at) y d within same = behind_in_place i n xs at y d (omega (arith, within)) same

-- ---- by coefficients

all_alike : (xs ys : List ℤ) → xs ≡ ys → pointwise int_eq xs ys ≡ true
all_alike xs ys e = (pointwise_decides Decides-int_eq xs ys).1 e

swapped : (xs ys : List ℤ) → pointwise int_eq xs ys ≡ pointwise int_eq ys xs
swapped xs ys = by (pointwise int_eq xs ys) (pointwise int_eq ys xs) refl refl
  where
    by : (t u : Bool) → pointwise int_eq xs ys ≡ t → pointwise int_eq ys xs ≡ u → t ≡ u
    by true true e f = refl
    by false false e f = refl
    by true false e f = let other = all_alike ys xs (sym (same_coefs xs ys e)) in cc
    by false true e f = let other = all_alike xs ys (sym (same_coefs ys xs f)) in cc

second_of : (t u : Bool) → (t && u) ≡ true → u ≡ true
second_of true u e = e
second_of false u e = cc

never_both : (t : Bool) → (t && false) ≡ false
never_both true = refl
never_both false = refl

-- one of two answers that are not both there
either : (t : Bool) (found : Option ℕ) (at : ℕ) → (t ≡ true → found ≡ None) → cond t (Some at) found ≡ or_else found (cond t (Some at) None)
either true found at none = let e = none refl in rw e refl
either false found at none = sym (none_later found)

abbrev pub same_key : Vec ℤ Global → Vec ℤ Global → Bool
same_key x y = pointwise int_eq x.items y.items

module _ {S : Type 0} (old new : IndexMap (Vec ℤ Global) ℕ S) (key : Vec ℤ Global) (at : ℕ) where
  -- other coefficients keep their place
  kept_place : KeepsOthers same_key (same_key key) old.entries new.entries → (coefs : List ℤ) → pointwise int_eq coefs key.items ≡ false
      → place_of coefs new ≡ place_of coefs old
  unfolding KeepsOthers
  kept_place keeps coefs other =
      let test : Vec ℤ Global → Bool = λ k. pointwise int_eq coefs k.items in
      keeps test (λ x y is. ap (λ c. pointwise int_eq c y.items) (same_coefs coefs x.items is))
      (λ k is. ap (λ c. pointwise int_eq coefs c) (sym (same_coefs key.items k.items is)) ∙ other)

  pub placed_key : Updates same_key old new key (Some at) → (coefs : List ℤ)
      → place_of coefs new ≡ cond (pointwise int_eq coefs key.items) (Some at) (place_of coefs old)
  placed_key updates coefs = by (pointwise int_eq coefs key.items) refl
    where
      by : (t : Bool) → pointwise int_eq coefs key.items ≡ t → place_of coefs new ≡ cond t (Some at) (place_of coefs old)
      by true same = ap (λ c. place_of c new) (same_coefs coefs key.items same) ∙ updates.1
      by false other = kept_place updates.3 coefs other

module _ {S : Type 0} (places : IndexMap (Vec ℤ Global) ℕ S) (rows : List Combination) (row : Combination) (tells : TellsPlaces places rows) where
  none_behind : None ≡ position (λ earlier. is_parallel earlier row) rows → position_from (has_coefs row.row.coefs) scanned (drop scanned rows) ≡ None
  none_behind none =
      (none_first (position (has_coefs row.row.coefs) (take scanned rows)) (position_from (has_coefs row.row.coefs) scanned (drop scanned rows))
      (none ∙ found_in_parts (has_coefs row.row.coefs) scanned rows)).1

  -- the row was noted, and goes to the end
  pub tells_noted : (new : IndexMap (Vec ℤ Global) ℕ S) → row.row.equality ≡ false → None ≡ position (λ earlier. is_parallel earlier row) rows
      → ((coefs : List ℤ) → place_of coefs new ≡ noted row.row.coefs (length rows) coefs (place_of coefs places)) → TellsPlaces new (rows ++ row ∷ [])
  tells_noted new inequality none notes coefs =
      let back = not (nat_lt (length rows) scanned) in
      let before : Option ℕ = position_from (has_coefs coefs) scanned (drop scanned rows) in
      let same : has_coefs coefs row ≡ pointwise int_eq coefs row.row.coefs =
      ap (λ t. not t && pointwise int_eq row.row.coefs coefs) inequality ∙ swapped row.row.coefs coefs in
      let fresh : (back && pointwise int_eq coefs row.row.coefs) ≡ true → before ≡ None =
      λ both. ap (λ c. position_from (has_coefs c) scanned (drop scanned rows))
      (same_coefs coefs row.row.coefs (second_of back (pointwise int_eq coefs row.row.coefs) both)) ∙ none_behind none in
      notes coefs ∙ ap (λ found. noted row.row.coefs (length rows) coefs found) (tells coefs)
      ∙ either (back && pointwise int_eq coefs row.row.coefs) before (length rows) fresh
      ∙ ap (λ t. or_else before (cond (back && t) (Some (length rows)) None)) (sym same)
      ∙ sym (added_behind (has_coefs coefs) scanned rows row)

  -- an equality goes to the end
  pub tells_equality : row.row.equality ≡ true → TellsPlaces places (rows ++ row ∷ [])
  tells_equality equality coefs =
      let back = not (nat_lt (length rows) scanned) in
      let before : Option ℕ = position_from (has_coefs coefs) scanned (drop scanned rows) in
      let never : (back && has_coefs coefs row) ≡ false =
      ap (λ t. back && (not t && pointwise int_eq row.row.coefs coefs)) equality ∙ never_both back in
      tells coefs ∙ sym (none_later before) ∙ ap (λ t. or_else before (cond t (Some (length rows)) None)) (sym never)
      ∙ sym (added_behind (has_coefs coefs) scanned rows row)

  -- the row takes the place of a parallel one
  pub tells_instead : (at : ℕ) → row.row.equality ≡ false → Some at ≡ position (λ earlier. is_parallel earlier row) rows → TellsPlaces places (set rows at row)
  tells_instead at inequality found coefs =
      let there = position-Some (λ earlier. is_parallel earlier row) rows at row (sym found) in
      let earlier : Combination = get_or rows at row in
      let both = and_parts (not earlier.row.equality) (pointwise int_eq earlier.row.coefs row.row.coefs) there.1 in
      let same : has_coefs coefs row ≡ has_coefs coefs earlier =
      ap (λ t. not t && pointwise int_eq row.row.coefs coefs) (inequality ∙ sym (not-true earlier.row.equality both.0))
      ∙ ap (λ c. not earlier.row.equality && pointwise int_eq c coefs) (sym (same_coefs earlier.row.coefs row.row.coefs both.1)) in
      tells coefs ∙ sym (behind_in_place (has_coefs coefs) scanned scanned rows at row row there.0 same)

  -- what is found in front and behind
  pub found_behind : None ≡ position (λ earlier. is_parallel earlier row) (take scanned rows)
      → place_of row.row.coefs places ≡ position (λ earlier. is_parallel earlier row) rows
  found_behind none =
      tells row.row.coefs ∙ ap (λ found. or_else found (position_from (has_coefs row.row.coefs) scanned (drop scanned rows))) none
      ∙ sym (found_in_parts (has_coefs row.row.coefs) scanned rows)

pub found_in_front : (rows : List Combination) (row : Combination) (at : ℕ) → Some at ≡ position (λ earlier. is_parallel earlier row) (take scanned rows)
    → Some at ≡ position (λ earlier. is_parallel earlier row) rows
found_in_front rows row at found =
    ap (λ first. or_else first (position_from (has_coefs row.row.coefs) scanned (drop scanned rows))) found
    ∙ sym (found_in_parts (has_coefs row.row.coefs) scanned rows)

-- as many rows as there are, or as may be in front
pub front_is : {X : Type 0} (xs ys : List X) (count : ℕ) → xs ≡ ys → count ≡ min (length ys) scanned → take count xs ≡ take scanned ys
front_is xs ys count same is =
    let least : min (length ys) scanned ≡ min scanned (length ys) = omega arith in
    ap (λ l. take count l) same ∙ ap (λ n. take n ys) (is ∙ least) ∙ take_min scanned ys

pub noted_behind : (row : List ℤ) (at : ℕ) (coefs : List ℤ) (before : Option ℕ) → scanned ≤ at
    → cond (pointwise int_eq coefs row) (Some at) before ≡ noted row at coefs before
noted_behind row at coefs before far =
    let behind : nat_lt at scanned ≡ false = grind (arith, nat_tests, far) in
    ap (λ t. cond (not t && pointwise int_eq coefs row) (Some at) before) (sym behind)

pub added_inequality : (rows : List Combination) (row : Combination) → row.row.equality ≡ false → placed rows row ≡ added rows row
added_inequality rows row inequality = ap (λ t. cond t (rows ++ row ∷ []) (placed rows row)) (sym inequality)
