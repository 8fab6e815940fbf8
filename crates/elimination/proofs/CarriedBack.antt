-- A point of the rows without a column gives a point of the rows with it.
use Rattle.std.proofs.Common.{◌≡◌, ℕ, ◌<◌, Bool, true, false, cond, List, [], ◌∷◌}
use Rattle.std.proofs.Common.{map, arith, refl, sym, ◌∙◌, ap, subst, length, get_or, set, Option, Some, None}
use Rattle.std.specs.Prelude.{ℤ, pos, neg_ℤ, ◌+ℤ◌, ◌*ℤ◌, ◌-ℤ◌, ◌≤ℤ◌, ◌<ℤ◌}
use Rattle.std.specs.List.{AllByRecursion}
use Rattle.std.proofs.lemmas.Int.{ints}
use Rattle.lin_terms.specs.Vectors.{scaled}
use Rattle.lin_terms.specs.Row.{Allows, Meets}
use Rattle.elimination.proofs.Ring.{as_dif, same_dif, difs, dif_pos}
use Rattle.elimination.specs.Combination.{Combination, entry, is_zero, is_positive, is_negative, sign, size, combined}
use Rattle.elimination.specs.Column.{pivot_of, reduced, paired, without, lower_bounds, upper_bounds, pairs, projected_by, projected}
use Rattle.elimination.proofs.Lists.{all_by, all_weaker, all_front, all_back, all_of_map}
use Rattle.elimination.proofs.Points.{value, MeetsEach, value-moved, value-combined, sign-mul, size_positive, zero_is, size_of_positive}
use Rattle.elimination.proofs.Points.{size_of_negative, positive_not_zero, negative_not_zero, allows_multiple}
use Rattle.elimination.proofs.Best.{IsLeast, best}
use Rattle.elimination.proofs.Pivots.{Picked, none_picked, picked_all, pivot_is}
use Rattle.elimination.proofs.Pivots.{all_kinds, all_without, IsLowerBound, IsUpperBound, all_lower_bounds, all_upper_bounds, all_pairs}

-- ---- polynomials: a, e, p, n are entries in the column, v and w values of rows, x the old number, y the new one

flat_step : (k v x y : ℤ) → (k *ℤ (v -ℤ (pos 0 *ℤ x))) +ℤ (pos 0 *ℤ y) ≡ k *ℤ v
flat_step k v x y = rw (as_dif k, as_dif v, as_dif x, as_dif y, dif_pos 0) (simp difs (same_dif _ _ _ _ (omega arith)))

pivot_step : (s a v : ℤ) → ((s *ℤ a) *ℤ v) +ℤ (a *ℤ neg_ℤ (s *ℤ v)) ≡ pos 0
pivot_step s a v = rw (as_dif s, as_dif a, as_dif v, dif_pos 0) (simp difs (same_dif _ _ _ _ (omega arith)))

reduced_step : (s e a v w x : ℤ)
    → ((s *ℤ e) *ℤ (v -ℤ (a *ℤ x))) +ℤ (a *ℤ neg_ℤ (s *ℤ (w -ℤ (e *ℤ x)))) ≡ ((s *ℤ e) *ℤ v) +ℤ (neg_ℤ (s *ℤ a) *ℤ w)
reduced_step s e a v w x =
    rw (as_dif s, as_dif e, as_dif a, as_dif v, as_dif w, as_dif x) (simp difs (same_dif _ _ _ _ (omega arith)))

paired_step : (p n v w x : ℤ) → (p *ℤ (w -ℤ (n *ℤ x))) +ℤ (n *ℤ neg_ℤ (v -ℤ (p *ℤ x))) ≡ (neg_ℤ n *ℤ v) +ℤ (p *ℤ w)
paired_step p n v w x =
    rw (as_dif p, as_dif n, as_dif v, as_dif w, as_dif x) (simp difs (same_dif _ _ _ _ (omega arith)))

lower_step : (t w a s : ℤ) → (t *ℤ w) -ℤ (a *ℤ s) ≡ (w *ℤ t) +ℤ (a *ℤ neg_ℤ s)
lower_step t w a s = rw (as_dif t, as_dif w, as_dif a, as_dif s) (simp difs (same_dif _ _ _ _ (omega arith)))

upper_step : (t w a s : ℤ) → (t *ℤ w) -ℤ (neg_ℤ a *ℤ s) ≡ (w *ℤ t) +ℤ (a *ℤ s)
upper_step t w a s = rw (as_dif t, as_dif w, as_dif a, as_dif s) (simp difs (same_dif _ _ _ _ (omega arith)))

-- ---- from one point to the other

module _ (numbers : List ℤ) (d : ℤ) (j : ℕ) (inside : j < length numbers) where
  -- the value of a row without its part in the column
  abbrev rest : Combination → ℤ
  rest row = value numbers d row -ℤ (entry j row *ℤ get_or numbers j (pos 0))

  -- the row holds at the moved point: all numbers k times, and y in the column
  abbrev HoldsAfter : ℤ → ℤ → Combination → Type 0
  HoldsAfter k y row = Allows row.row.equality ((k *ℤ rest row) +ℤ (entry j row *ℤ y))

  meets_after : (k y : ℤ) (rows : List Combination) → AllByRecursion (HoldsAfter k y) rows → MeetsEach (set (scaled k numbers) j y) (k *ℤ d) rows
  meets_after k y [] all = tt
  meets_after k y (row ∷ rows) all =
      (subst (Allows row.row.equality) (sym (value-moved row.row.coefs row.row.constant numbers d k y j inside)) all.0, meets_after k y rows all.1)

  -- a row without the column keeps its value, k times
  flat : (k y : ℤ) → pos 0 <ℤ k → (row : Combination) → is_zero (entry j row) ≡ true → Meets numbers d row.row → HoldsAfter k y row
  flat k y positive row no_column met =
      rw (zero_is (entry j row) no_column) (subst (Allows row.row.equality) (sym (flat_step k (value numbers d row) (get_or numbers j (pos 0)) y))
      (allows_multiple row.row.equality k (value numbers d row) (omega (arith, ints)) met))

  flats : (k y : ℤ) → pos 0 <ℤ k → (rows : List Combination) → MeetsEach numbers d (without j rows) → AllByRecursion (HoldsAfter k y) (without j rows)
  flats k y positive rows met =
      all_by (λ row. is_zero (entry j row) ≡ true) (λ row. Meets numbers d row.row) (HoldsAfter k y) (λ row zero holds. flat k y positive row zero holds)
      (without j rows) (all_without j rows) met

  -- ---- an equality fixes the number
  abbrev fixed : Combination → ℤ
  fixed pivot = neg_ℤ (sign (entry j pivot) *ℤ rest pivot)

  pivot_holds : (pivot : Combination) → pivot.row.equality ≡ true → HoldsAfter (size (entry j pivot)) (fixed pivot) pivot
  pivot_holds pivot equality = rw (equality, ← sign-mul (entry j pivot)) (pivot_step (sign (entry j pivot)) (entry j pivot) (rest pivot))

  reduced_holds : (pivot row : Combination) (test : Bool) → is_zero (entry j pivot) ≡ false → is_zero (entry j row) ≡ test
      → Meets numbers d (cond test row (combined (size (entry j pivot)) row (neg_ℤ (sign (entry j pivot) *ℤ entry j row)) pivot)).row
      → HoldsAfter (size (entry j pivot)) (fixed pivot) row
  reduced_holds pivot row true has_column is met = flat (size (entry j pivot)) (fixed pivot) (size_positive (entry j pivot) has_column) row is met
  reduced_holds pivot row false has_column is met =
      let a : ℤ = entry j row in
      let e : ℤ = entry j pivot in
      let x : ℤ = get_or numbers j (pos 0) in
      let v : ℤ = value numbers d row in
      let w : ℤ = value numbers d pivot in
      subst (Allows row.row.equality) (value-combined numbers d (size e) row (neg_ℤ (sign e *ℤ a)) pivot
      ∙ ap (λ t. (t *ℤ v) +ℤ (neg_ℤ (sign e *ℤ a) *ℤ w)) (sym (sign-mul e))
      ∙ sym (reduced_step (sign e) e a v w x)
      ∙ ap (λ t. (t *ℤ rest row) +ℤ (a *ℤ fixed pivot)) (sign-mul e)) met

  by_pivot : (rows : List Combination) (picked : Picked) → pivot_of j rows ≡ Some picked → MeetsEach numbers d (map (reduced j picked.0) picked.1)
      → AllByRecursion (HoldsAfter (size (entry j picked.0)) (fixed picked.0)) rows
  by_pivot rows picked found met =
      let is = pivot_is j rows picked found in
      let After : Combination → Type 0 = HoldsAfter (size (entry j picked.0)) (fixed picked.0) in
      picked_all j After rows picked found (pivot_holds picked.0 is.0)
      (all_weaker (λ row. Meets numbers d (reduced j picked.0 row).row) After
      (λ row holds. reduced_holds picked.0 row (is_zero (entry j row)) is.1 refl holds) picked.1
      (all_of_map (λ row. Meets numbers d row.row) (reduced j picked.0) picked.1 met))

  -- ---- with no equality: the greatest lower bound, or else the least upper bound, or else 0
  abbrev weight : Combination → ℤ
  weight row = size (entry j row)

  weight_of_lower : (row : Combination) → is_positive (entry j row) ≡ true → pos 0 <ℤ weight row
  weight_of_lower row is = size_positive (entry j row) (positive_not_zero (entry j row) is)

  weight_of_upper : (row : Combination) → is_negative (entry j row) ≡ true → pos 0 <ℤ weight row
  weight_of_upper row is = size_positive (entry j row) (negative_not_zero (entry j row) is)

  -- at the greatest lower bound m each lower bound holds
  lower_holds : (m row : Combination) → IsLowerBound j row → IsLeast weight rest m row → HoldsAfter (weight m) (neg_ℤ (rest m)) row
  lower_holds m row lower least =
      let a : ℤ = entry j row in
      let t : ℤ = rest row in
      let s : ℤ = rest m in
      let w : ℤ = weight m in
      subst (λ b. Allows b ((w *ℤ t) +ℤ (a *ℤ neg_ℤ s))) (sym lower.1)
      (subst (λ z. pos 0 ≤ℤ z) (lower_step t w a s) (subst (λ z. pos 0 ≤ℤ ((t *ℤ w) -ℤ (z *ℤ s))) (size_of_positive a lower.0) least))

  -- and each upper bound, since its pair with m holds
  paired_holds : (m row : Combination) → IsLowerBound j m → IsUpperBound j row → Meets numbers d (paired j m row).row
      → HoldsAfter (weight m) (neg_ℤ (rest m)) row
  paired_holds m row lower upper met =
      let p : ℤ = entry j m in
      let n : ℤ = entry j row in
      let v : ℤ = value numbers d m in
      let w : ℤ = value numbers d row in
      let x : ℤ = get_or numbers j (pos 0) in
      let pair = subst (λ b. Allows b (value numbers d (paired j m row))) lower.1 met in
      let e = value-combined numbers d (size n) m p row
      ∙ ap (λ t. (t *ℤ v) +ℤ (p *ℤ w)) (size_of_negative n upper.0)
      ∙ sym (paired_step p n v w x)
      ∙ ap (λ t. (t *ℤ rest row) +ℤ (n *ℤ neg_ℤ (rest m))) (sym (size_of_positive p lower.0)) in
      subst (λ b. Allows b ((weight m *ℤ rest row) +ℤ (n *ℤ neg_ℤ (rest m)))) (sym upper.1) (subst (λ z. pos 0 ≤ℤ z) e pair)

  -- at the least upper bound m each upper bound holds
  upper_holds : (m row : Combination) → IsUpperBound j row → IsLeast weight rest m row → HoldsAfter (weight m) (rest m) row
  upper_holds m row upper least =
      let a : ℤ = entry j row in
      let t : ℤ = rest row in
      let s : ℤ = rest m in
      let w : ℤ = weight m in
      subst (λ b. Allows b ((w *ℤ t) +ℤ (a *ℤ s))) (sym upper.1)
      (subst (λ z. pos 0 ≤ℤ z) (upper_step t w a s) (subst (λ z. pos 0 ≤ℤ ((t *ℤ w) -ℤ (z *ℤ s))) (size_of_negative a upper.0) least))

  -- a number for the column, with which all rows hold
  record Carried (rows : List Combination) : Type 0 where
    factor : ℤ
    number : ℤ
    positive : pos 0 <ℤ factor
    holds : AllByRecursion (HoldsAfter factor number) rows

  abbrev Pairs : List Combination → Combination → Type 0
  Pairs uppers lower = AllByRecursion (λ upper. Meets numbers d (paired j lower upper).row) uppers

  abbrev LowerWithPairs : List Combination → Combination → Type 0
  LowerWithPairs uppers lower = IsLowerBound j lower × Pairs uppers lower

  from_lower : (rows : List Combination) (p : Combination) (ps uppers : List Combination) → MeetsEach numbers d (without j rows)
      → lower_bounds j rows ≡ p ∷ ps → upper_bounds j rows ≡ uppers
      → AllByRecursion (IsLowerBound j) (p ∷ ps) → AllByRecursion (IsUpperBound j) uppers → AllByRecursion (Pairs uppers) (p ∷ ps) → Carried rows
  from_lower rows p ps uppers met lowers_are uppers_are all_lower all_upper all_pair =
      let found = best weight rest (LowerWithPairs uppers) p ps
      (all_by (IsLowerBound j) (Pairs uppers) (λ row. (pos 0 <ℤ weight row) × LowerWithPairs uppers row)
      (λ row lower pair. (weight_of_lower row lower.0, (lower, pair))) (p ∷ ps) all_lower all_pair) in
      let m = found.element in
      let After : Combination → Type 0 = HoldsAfter (weight m) (neg_ℤ (rest m)) in
      record {
        factor = weight m;
        number = neg_ℤ (rest m);
        positive = found.positive;
        holds = all_kinds j After rows (flats (weight m) (neg_ℤ (rest m)) found.positive rows met)
            (subst (AllByRecursion After) (sym lowers_are) (all_by (IsLowerBound j) (IsLeast weight rest m) After
            (λ row lower least. lower_holds m row lower least) (p ∷ ps) all_lower found.least))
            (subst (AllByRecursion After) (sym uppers_are) (all_by (IsUpperBound j) (λ upper. Meets numbers d (paired j m upper).row) After
            (λ row upper pair. paired_holds m row found.holds.0 upper pair) uppers all_upper found.holds.1));
      }

  from_upper : (rows : List Combination) (n : Combination) (ns : List Combination) → MeetsEach numbers d (without j rows)
      → lower_bounds j rows ≡ [] → upper_bounds j rows ≡ n ∷ ns → AllByRecursion (IsUpperBound j) (n ∷ ns) → Carried rows
  from_upper rows n ns met lowers_are uppers_are all_upper =
      let found = best weight rest (IsUpperBound j) n ns (all_weaker (IsUpperBound j) (λ row. (pos 0 <ℤ weight row) × IsUpperBound j row)
      (λ row upper. (weight_of_upper row upper.0, upper)) (n ∷ ns) all_upper) in
      let m = found.element in
      let After : Combination → Type 0 = HoldsAfter (weight m) (rest m) in
      record {
        factor = weight m;
        number = rest m;
        positive = found.positive;
        holds = all_kinds j After rows (flats (weight m) (rest m) found.positive rows met) (subst (AllByRecursion After) (sym lowers_are) tt)
            (subst (AllByRecursion After) (sym uppers_are) (all_by (IsUpperBound j) (IsLeast weight rest m) After
            (λ row upper least. upper_holds m row upper least) (n ∷ ns) all_upper found.least));
      }

  from_neither : (rows : List Combination) → MeetsEach numbers d (without j rows) → lower_bounds j rows ≡ [] → upper_bounds j rows ≡ [] → Carried rows
  from_neither rows met lowers_are uppers_are =
      let After : Combination → Type 0 = HoldsAfter (pos 1) (pos 0) in
      let one : pos 0 <ℤ pos 1 = omega (arith, ints) in
      record {
        factor = pos 1;
        number = pos 0;
        positive = one;
        holds = all_kinds j After rows (flats (pos 1) (pos 0) one rows met) (subst (AllByRecursion After) (sym lowers_are) tt)
            (subst (AllByRecursion After) (sym uppers_are) tt);
      }

  by_bounds : (rows lowers uppers : List Combination) → MeetsEach numbers d (without j rows) → lower_bounds j rows ≡ lowers → upper_bounds j rows ≡ uppers
      → AllByRecursion (IsLowerBound j) lowers → AllByRecursion (IsUpperBound j) uppers → AllByRecursion (Pairs uppers) lowers → Carried rows
  by_bounds rows [] [] met lowers_are uppers_are all_lower all_upper all_pair = from_neither rows met lowers_are uppers_are
  by_bounds rows [] (n ∷ ns) met lowers_are uppers_are all_lower all_upper all_pair = from_upper rows n ns met lowers_are uppers_are all_upper
  by_bounds rows (p ∷ ps) uppers met lowers_are uppers_are all_lower all_upper all_pair =
      from_lower rows p ps uppers met lowers_are uppers_are all_lower all_upper all_pair

  carried_by : (rows : List Combination) (found : Option Picked) → pivot_of j rows ≡ found → MeetsEach numbers d (projected_by j rows found) → Carried rows
  carried_by rows None found met =
      let none = none_picked j rows found in
      let Met : Combination → Type 0 = λ row. Meets numbers d row.row in
      let lowers : List Combination = lower_bounds j rows in
      let uppers : List Combination = upper_bounds j rows in
      by_bounds rows lowers uppers (all_front Met (without j rows) (pairs j lowers uppers) met) refl refl
      (all_lower_bounds j rows none) (all_upper_bounds j rows none)
      (all_pairs j Met lowers uppers (all_back Met (without j rows) (pairs j lowers uppers) met))
  carried_by rows (Some picked) found met =
      let is = pivot_is j rows picked found in
      record {
        factor = size (entry j picked.0);
        number = fixed picked.0;
        positive = size_positive (entry j picked.0) is.1;
        holds = by_pivot rows picked found met;
      }

  -- the moved point
  pub record CarriedBack (rows : List Combination) : Type 0 where
    pub factor : ℤ
    pub number : ℤ
    pub positive : pos 0 <ℤ factor
    pub meets : MeetsEach (set (scaled factor numbers) j number) (factor *ℤ d) rows

  pub carried_back : (rows : List Combination) → MeetsEach numbers d (projected j rows) → CarriedBack rows
  carried_back rows met =
      let carried = carried_by rows (pivot_of j rows) refl met in
      record {
        factor = carried.factor;
        number = carried.number;
        positive = carried.positive;
        meets = meets_after carried.factor carried.number rows carried.holds;
      }
