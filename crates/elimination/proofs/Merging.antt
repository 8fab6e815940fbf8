-- Sums of multiples of two lists of multipliers, row after row.
use Rattle.std.proofs.Common.{◌≡◌, ◌⊎◌, ◌≢◌, ℕ, suc, ◌+◌, ◌<◌, ◌≤◌, min, Bool, true, false, cond, eqb, List, [], ◌∷◌, ◌++◌, arith, refl, sym, ◌∙◌, ap}
use Rattle.std.proofs.Common.{subst, inl, inr, length}
use Rattle.std.specs.Prelude.{ℤ, pos, ◌+ℤ◌, ◌*ℤ◌, All}
use Rattle.std.proofs.lemmas.List.Elements.{All-tail}
use Rattle.std.proofs.lemmas.Int.{ints}
use Rattle.std.proofs.lemmas.Bool.{cond_both, eqb-true, eqb-false, eq-eqb}
use Rattle.lin_terms.specs.Bounds.{FitsRow}
use Rattle.elimination.proofs.Ring.{as_dif, same_dif, difs, dif_pos}
use Rattle.elimination.specs.declared.multipliers.Multiplier.{Multiplier}
use Rattle.elimination.specs.Sparse.{at, IsRising, first_row, front_of, behind_row, IsAdded}

-- ---- rows that rise

pub at-append : (xs ys : List Multiplier) (row : ℕ) → at (xs ++ ys) row ≡ at xs row +ℤ at ys row
at-append [] ys row = omega (arith, ints)
at-append (x ∷ xs) ys row = omega (arith, ints, at-append xs ys row)

pub rising-append : (low high top : ℕ) (entries : List Multiplier) (entry : Multiplier) → IsRising low high entries → high ≤ entry.row → entry.row < top
    → IsRising low top (entries ++ entry ∷ [])
rising-append low high top [] entry rising after below = (omega arith, omega arith)
rising-append low high top (first ∷ entries) entry rising after below = (rising.0, rising-append (suc first.row) high top entries entry rising.1 after below)

pub rising_higher : (low high top : ℕ) (entries : List Multiplier) → IsRising low high entries → high ≤ top → IsRising low top entries
rising_higher low high top [] rising higher = omega arith
rising_higher low high top (first ∷ entries) rising higher = (rising.0, rising_higher (suc first.row) high top entries rising.1 higher)

behind_case : (test : Bool) (from count row : ℕ) (entry : Multiplier) (entries : List Multiplier) → eqb entry.row row ≡ test
    → IsRising from count (entry ∷ entries) → row ≤ entry.row → IsRising (suc row) count (cond test entries (entry ∷ entries))
behind_case true from count row entry entries is rising before = subst (λ n. IsRising (suc n) count entries) (eqb-true entry.row row is) rising.1
behind_case false from count row entry entries is rising before =
    let other = eqb-false entry.row row is in
    let less : suc row ≤ entry.row = omega (arith, other) in (less, rising.1)

pub rising_behind : (from count row : ℕ) (entries : List Multiplier) → IsRising from count entries → row ≤ first_row count entries → row < count
    → IsRising (suc row) count (behind_row row entries)
rising_behind from count row [] rising before below = omega arith
rising_behind from count row (entry ∷ entries) rising before below = behind_case (eqb entry.row row) from count row entry entries refl rising before

-- ---- the multiplier of one row is taken

no_front : (test : Bool) → cond test (pos 0) (pos 0) ≡ pos 0
no_front true = refl
no_front false = refl

taken_case : (test : Bool) (entry : Multiplier) (entries : List Multiplier) (row other : ℕ) → eqb entry.row row ≡ test
    → cond (eqb entry.row other) entry.value (pos 0) +ℤ at entries other
    ≡ cond (eqb row other) (cond test entry.value (pos 0)) (pos 0) +ℤ at (cond test entries (entry ∷ entries)) other
taken_case true entry entries row other is =
    ap (λ n. cond (eqb n other) entry.value (pos 0) +ℤ at entries other) (eqb-true entry.row row is)
taken_case false entry entries row other is =
    rw (no_front (eqb row other)) (omega (arith, ints))

pub at-behind : (entries : List Multiplier) (row other : ℕ)
    → at entries other ≡ cond (eqb row other) (front_of row entries) (pos 0) +ℤ at (behind_row row entries) other
at-behind [] row other = rw (no_front (eqb row other)) refl
at-behind (entry ∷ entries) row other = taken_case (eqb entry.row row) entry entries row other refl

-- ---- a step of the sum

one_step : (o k p l q x y : ℤ) → (o +ℤ ((k *ℤ x) +ℤ (l *ℤ y))) +ℤ ((k *ℤ p) +ℤ (l *ℤ q)) ≡ o +ℤ ((k *ℤ (x +ℤ p)) +ℤ (l *ℤ (y +ℤ q)))
one_step o k p l q x y =
    rw (as_dif o, as_dif k, as_dif p, as_dif l, as_dif q, as_dif x, as_dif y) (simp difs (same_dif _ _ _ _ (omega arith)))

no_step : (o k p l q : ℤ) → (o +ℤ pos 0) +ℤ ((k *ℤ p) +ℤ (l *ℤ q)) ≡ o +ℤ ((k *ℤ (pos 0 +ℤ p)) +ℤ (l *ℤ (pos 0 +ℤ q)))
no_step o k p l q =
    rw (as_dif o, as_dif k, as_dif p, as_dif l, as_dif q, dif_pos 0) (simp difs (same_dif _ _ _ _ (omega arith)))

step_case : (test : Bool) (o k p l q x y : ℤ)
    → (o +ℤ cond test ((k *ℤ x) +ℤ (l *ℤ y)) (pos 0)) +ℤ ((k *ℤ p) +ℤ (l *ℤ q))
    ≡ o +ℤ ((k *ℤ (cond test x (pos 0) +ℤ p)) +ℤ (l *ℤ (cond test y (pos 0) +ℤ q)))
step_case true o k p l q x y = one_step o k p l q x y
step_case false o k p l q x y = no_step o k p l q

-- what is made and what is left add up to the target; the rows before `from` are done
pub record IsMerging (k l : ℤ) (count : ℕ) (target : ℕ → ℤ) (made ps qs : List Multiplier) : Type 0 where
  pub from : ℕ
  pub made_rising : IsRising 0 from made
  pub ps_rising : IsRising from count ps
  pub qs_rising : IsRising from count qs
  pub sums : (row : ℕ) → at made row +ℤ ((k *ℤ at ps row) +ℤ (l *ℤ at qs row)) ≡ target row

pub rising_bounds : (low high : ℕ) (entries : List Multiplier) → IsRising low high entries → low ≤ high
rising_bounds low high [] rising = rising
rising_bounds low high (entry ∷ entries) rising =
    let later = rising_bounds (suc entry.row) high entries rising.1 in omega (arith, rising.0)

pub from_first : (from count : ℕ) (entries : List Multiplier) → IsRising from count entries → from ≤ first_row count entries
from_first from count [] rising = rising
from_first from count (entry ∷ entries) rising = rising.0

-- the row that comes next
abbrev pub next_row : ℕ → List Multiplier → List Multiplier → ℕ
next_row count ps qs = min (first_row count ps) (first_row count qs)

pub next_below : (from count : ℕ) (ps qs : List Multiplier) → IsRising from count ps → IsRising from count qs → (ps ≢ []) ⊎ (qs ≢ [])
    → next_row count ps qs < count
next_below from count [] [] ps_rising qs_rising (inl some) = absurd (some refl)
next_below from count [] [] ps_rising qs_rising (inr some) = absurd (some refl)
next_below from count [] (q ∷ qs) ps_rising qs_rising some =
    let bound = rising_bounds (suc q.row) count qs qs_rising.1 in omega arith
next_below from count (p ∷ ps) qs ps_rising qs_rising some =
    let bound = rising_bounds (suc p.row) count ps ps_rising.1 in omega arith

-- ---- each step takes something from one of the lists

length-behind : (row : ℕ) (entries : List Multiplier) → length (behind_row row entries) ≤ length entries
length-behind row [] = omega arith
length-behind row (entry ∷ entries) =
    cond_both (eqb entry.row row) entries (entry ∷ entries) (λ left. length left ≤ suc (length entries)) (λ is. omega arith) (λ other. omega arith)

length-taken : (row : ℕ) (entry : Multiplier) (entries : List Multiplier) → row ≡ entry.row → length (behind_row row (entry ∷ entries)) ≡ length entries
length-taken row entry entries is =
    ap (λ t. length (cond t entries (entry ∷ entries))) (ap (λ n. eqb entry.row n) is ∙ eq-eqb entry.row entry.row refl)

pub shorter : (from count row : ℕ) (ps qs : List Multiplier) → row ≡ next_row count ps qs → IsRising from count ps → IsRising from count qs
    → (ps ≢ []) ⊎ (qs ≢ []) → length (behind_row row ps) + length (behind_row row qs) < length ps + length qs
shorter from count row [] [] is ps_rising qs_rising (inl some) = absurd (some refl)
shorter from count row [] [] is ps_rising qs_rising (inr some) = absurd (some refl)
shorter from count row [] (q ∷ qs) is ps_rising qs_rising some =
    let bound = rising_bounds (suc q.row) count qs qs_rising.1 in
    let first : row ≡ q.row = omega arith in
    omega (arith, length-taken row q qs first)
shorter from count row (p ∷ ps) [] is ps_rising qs_rising some =
    let bound = rising_bounds (suc p.row) count ps ps_rising.1 in
    let first : row ≡ p.row = omega arith in
    omega (arith, length-taken row p ps first)
shorter from count row (p ∷ ps) (q ∷ qs) is ps_rising qs_rising some =
    elim (which p.row q.row) [
      | inl first ↦ let at_p : row ≡ p.row = omega (arith, is, first) in omega (arith, length-taken row p ps at_p, length-behind row (q ∷ qs))
      | inr second ↦ let at_q : row ≡ q.row = omega (arith, is, second) in omega (arith, length-taken row q qs at_q, length-behind row (p ∷ ps))
    ]
  where
    which : (n m : ℕ) → (n ≤ m) ⊎ (m ≤ n)
    which n m = grind arith

-- ---- one multiplier more

end_of : (test : Bool) (value : ℤ) → cond test value (pos 0) +ℤ pos 0 ≡ cond test value (pos 0)
end_of test value = omega (arith, ints)

pub added_last : (row : ℕ) (value : ℤ) (before : List Multiplier) → IsAdded row value before (before ++ record { row = row; value = value } ∷ [])
added_last row value before = record {
  sums = λ other. at-append before (record { row = row; value = value } ∷ []) other ∙ ap (λ t. at before other +ℤ t) (end_of (eqb row other) value);
  rising = λ high rising past. rising-append 0 high (suc row) before (record { row = row; value = value }) rising past (omega arith);
}

nothing_more : (test : Bool) (sum : ℤ) → sum ≡ sum +ℤ cond test (pos 0) (pos 0)
nothing_more test sum = rw (no_front test) (omega (arith, ints))

pub added_nothing : (row : ℕ) (value : ℤ) (before : List Multiplier) → value ≡ pos 0 → IsAdded row value before before
added_nothing row value before is = rw is (record {
  sums = λ other. nothing_more (eqb row other) (at before other);
  rising = λ high rising past. rising_higher 0 high (suc row) before rising (omega arith);
})

-- ---- one step

abbrev pub AreFittingEntries : List Multiplier → Type 0
AreFittingEntries entries = All (λ entry. FitsRow entry.value) entries

pub fitting_behind : (row : ℕ) (entries : List Multiplier) → AreFittingEntries entries → AreFittingEntries (behind_row row entries)
fitting_behind row [] fits = fits
fitting_behind row (entry ∷ entries) fits =
    cond_both (eqb entry.row row) entries (entry ∷ entries) AreFittingEntries
    (λ is. All-tail (λ (e : Multiplier). FitsRow e.value) entry entries fits) (λ other. fits)

pub merging_step : (k l : ℤ) (count row : ℕ) (target : ℕ → ℤ) (made after ps qs : List Multiplier) (value : ℤ) → IsMerging k l count target made ps qs
    → row ≡ next_row count ps qs → (ps ≢ []) ⊎ (qs ≢ []) → value ≡ (k *ℤ front_of row ps) +ℤ (l *ℤ front_of row qs) → IsAdded row value made after
    → IsMerging k l count target after (behind_row row ps) (behind_row row qs)
merging_step k l count row target made after ps qs value merging is some value_is added =
    let below : row < count = rw is (next_below merging.from count ps qs merging.ps_rising merging.qs_rising some) in
    let ps_after : row ≤ first_row count ps = omega arith in
    let qs_after : row ≤ first_row count qs = omega arith in
    let ps_from = from_first merging.from count ps merging.ps_rising in
    let qs_from = from_first merging.from count qs merging.qs_rising in
    record {
      from = suc row;
      made_rising = added.rising merging.from merging.made_rising (omega arith);
      ps_rising = rising_behind merging.from count row ps merging.ps_rising ps_after below;
      qs_rising = rising_behind merging.from count row qs merging.qs_rising qs_after below;
      sums = λ other.
          let p = at (behind_row row ps) other in
          let q = at (behind_row row qs) other in
          let x = front_of row ps in
          let y = front_of row qs in
          ap (λ t. t +ℤ ((k *ℤ p) +ℤ (l *ℤ q))) (added.sums other ∙ ap (λ v. at made other +ℤ cond (eqb row other) v (pos 0)) value_is)
          ∙ step_case (eqb row other) (at made other) k p l q x y
          ∙ ap (λ t. at made other +ℤ ((k *ℤ t) +ℤ (l *ℤ (cond (eqb row other) y (pos 0) +ℤ q)))) (sym (at-behind ps row other))
          ∙ ap (λ t. at made other +ℤ ((k *ℤ at ps other) +ℤ (l *ℤ t))) (sym (at-behind qs row other))
          ∙ merging.sums other;
    }

-- the beginning and the end
start_step : (k a l b : ℤ) → pos 0 +ℤ ((k *ℤ a) +ℤ (l *ℤ b)) ≡ (k *ℤ a) +ℤ (l *ℤ b)
start_step k a l b = omega (arith, ints)

pub merging_start : (k l : ℤ) (count : ℕ) (ps qs : List Multiplier) → IsRising 0 count ps → IsRising 0 count qs
    → IsMerging k l count (λ row. (k *ℤ at ps row) +ℤ (l *ℤ at qs row)) [] ps qs
merging_start k l count ps qs ps_rising qs_rising = record {
  from = 0;
  made_rising = omega arith;
  ps_rising = ps_rising;
  qs_rising = qs_rising;
  sums = λ row. start_step k (at ps row) l (at qs row);
}

nothing_left : (o k l t : ℤ) → o +ℤ ((k *ℤ pos 0) +ℤ (l *ℤ pos 0)) ≡ t → o ≡ t
nothing_left o k l t e = omega (arith, ints)

merging_end : (k l : ℤ) (count : ℕ) (target : ℕ → ℤ) (made : List Multiplier) → IsMerging k l count target made [] [] → (row : ℕ) → at made row ≡ target row
merging_end k l count target made merging row = nothing_left (at made row) k l (target row) (merging.sums row)

-- where nothing is left the sum is made
pub merging_ends : (k l : ℤ) (count : ℕ) (target : ℕ → ℤ) (made ps qs : List Multiplier) → length ps ≡ 0 → length qs ≡ 0 → IsMerging k l count target made ps qs
    → IsRising 0 count made × ((row : ℕ) → at made row ≡ target row)
merging_ends k l count target made [] [] ps_end qs_end merging =
    (rising_higher 0 merging.from count made merging.made_rising merging.ps_rising, merging_end k l count target made merging)
merging_ends k l count target made (p ∷ ps) qs ps_end qs_end merging = absurd (omega arith)
merging_ends k l count target made [] (q ∷ qs) ps_end qs_end merging = absurd (omega arith)
