-- Rows that multipliers refute have no point.
use Rattle.std.proofs.Common.{◌≡◌, ℕ, zero, suc, Bool, true, false, List, [], ◌∷◌, arith, refl, sym, ◌∙◌, ap, subst, get_or}
use Rattle.std.specs.Prelude.{ℤ, pos, negsuc, ◌+ℤ◌, ◌*ℤ◌, ◌≤ℤ◌, ◌<ℤ◌}
use Rattle.std.specs.Bool.{OnFalse}
use Rattle.std.specs.List.{AllZip, AllByRecursion}
use Rattle.std.proofs.lemmas.Int.{ints}
use Rattle.std.proofs.lemmas.List.Elements.{recursion_from_All, All-weaker}
use Rattle.lin_terms.specs.declared.row.Row.{Row}
use Rattle.lin_terms.specs.Vectors.{dot, plus, scaled}
use Rattle.lin_terms.specs.Row.{Allows, Holds, Meets, HasNoPoint, HasNoIntegerPoint}
use Rattle.farkas_check.proofs.Ring.{as_dif, same_dif, difs}
use Rattle.lin_terms.proofs.Laws.{nonneg_add, nonneg_mul, dot-plus, dot-scaled, get_or-plus, get_or-scaled, dot-zeros, whole_is_fraction}
use Rattle.farkas_check.specs.Refutes.{column, constants, MayMultiply, Refutes}

-- the coefficients of the rows times their multipliers, added up row by row
abbrev combination : List ℤ → List Row → List ℤ
combination [] rows = []
combination (m ∷ ms) [] = []
combination (m ∷ ms) (row ∷ rows) = plus (scaled m row.coefs) (combination ms rows)

get_or-combination : (ms : List ℤ) (rows : List Row) (j : ℕ) → get_or (combination ms rows) j (pos 0) ≡ dot ms (column j rows)
get_or-combination [] rows j = refl
get_or-combination (m ∷ ms) [] j = refl
get_or-combination (m ∷ ms) (row ∷ rows) j =
    get_or-plus (scaled m row.coefs) (combination ms rows) j
    ∙ ap (λ t. t +ℤ get_or (combination ms rows) j (pos 0)) (get_or-scaled m row.coefs j)
    ∙ ap (λ t. (m *ℤ get_or row.coefs j (pos 0)) +ℤ t) (get_or-combination ms rows j)

-- the value of a row's left side at a point
abbrev value : List ℤ → ℤ → Row → ℤ
value numbers denominator row = dot row.coefs numbers +ℤ (row.constant *ℤ denominator)

-- the sum of the rows' values, each times its multiplier
abbrev total : List ℤ → List Row → List ℤ → ℤ → ℤ
total [] rows numbers denominator = pos 0
total (m ∷ ms) [] numbers denominator = pos 0
total (m ∷ ms) (row ∷ rows) numbers denominator = (m *ℤ value numbers denominator row) +ℤ total ms rows numbers denominator

total_step : (m s c d t u : ℤ) → (m *ℤ (s +ℤ (c *ℤ d))) +ℤ (t +ℤ (u *ℤ d)) ≡ ((m *ℤ s) +ℤ t) +ℤ (((m *ℤ c) +ℤ u) *ℤ d)
total_step m s c d t u =
    rw (as_dif m, as_dif s, as_dif c, as_dif d, as_dif t, as_dif u) (simp difs (same_dif _ _ _ _ (omega arith)))

-- that sum is the value of the combination
total-is : (ms : List ℤ) (rows : List Row) (numbers : List ℤ) (d : ℤ)
    → total ms rows numbers d ≡ dot (combination ms rows) numbers +ℤ (dot ms (constants rows) *ℤ d)
total-is [] rows numbers d = omega (arith, ints)
total-is (m ∷ ms) [] numbers d = omega (arith, ints)
total-is (m ∷ ms) (row ∷ rows) numbers d =
    ap (λ t. (m *ℤ value numbers d row) +ℤ t) (total-is ms rows numbers d)
    ∙ total_step m (dot row.coefs numbers) row.constant d (dot (combination ms rows) numbers) (dot ms (constants rows))
    ∙ ap (λ t. t +ℤ (((m *ℤ row.constant) +ℤ dot ms (constants rows)) *ℤ d))
    (ap (λ t. t +ℤ dot (combination ms rows) numbers) (sym (dot-scaled m row.coefs numbers))
    ∙ sym (dot-plus (scaled m row.coefs) (combination ms rows) numbers))

-- a row that holds, times a multiplier that it may have
nonneg_product : (equality : Bool) (m v : ℤ) → OnFalse equality (pos 0 ≤ℤ m) → Allows equality v → pos 0 ≤ℤ (m *ℤ v)
nonneg_product true m v sign holds = rw holds (omega (arith, ints))
nonneg_product false m v sign holds = nonneg_mul m v sign holds

nonneg_total : (ms : List ℤ) (rows : List Row) (numbers : List ℤ) (d : ℤ) → AllZip MayMultiply rows ms
    → AllByRecursion (Meets numbers d) rows → pos 0 ≤ℤ total ms rows numbers d
nonneg_total [] rows numbers d signs met = omega (arith, ints)
nonneg_total (m ∷ ms) [] numbers d signs met = omega (arith, ints)
nonneg_total (m ∷ ms) (row ∷ rows) numbers d signs met =
    nonneg_add (m *ℤ value numbers d row) (total ms rows numbers d)
    (nonneg_product row.equality m (value numbers d row) signs.0 met.0) (nonneg_total ms rows numbers d signs.1 met.1)

-- a negative constant times a positive denominator is not at least 0
clash : (c d : ℤ) → c ≤ℤ negsuc 0 → pos 0 <ℤ d → pos 0 ≤ℤ (pos 0 +ℤ (c *ℤ d)) → ⊥
clash (pos c) d negative positive sum = negative.le
clash (negsuc c) (pos zero) negative positive sum = positive.lt
clash (negsuc c) (negsuc d) negative positive sum = positive.lt
clash (negsuc c) (pos (suc d)) negative positive sum = omega (arith, ints)

pub no_point : (rows : List Row) (ms : List ℤ) → Refutes rows ms → HasNoPoint rows
no_point rows ms refuted numbers d positive met =
    let zeros = dot-zeros (combination ms rows) numbers (λ j. get_or-combination ms rows j ∙ refuted.no_variable j) in
    let e = total-is ms rows numbers d ∙ ap (λ t. t +ℤ (dot ms (constants rows) *ℤ d)) zeros in
    clash (dot ms (constants rows)) d refuted.negative_constant positive
    (subst (λ z. pos 0 ≤ℤ z) e (nonneg_total ms rows numbers d refuted.signs (recursion_from_All (Meets numbers d) rows met)))

pub no_integer_point : (rows : List Row) (ms : List ℤ) → Refutes rows ms → HasNoIntegerPoint rows
no_integer_point rows ms refuted values holds =
    no_point rows ms refuted values (pos 1) (omega (arith, ints))
    (All-weaker (Holds values) (Meets values (pos 1)) (λ row. (whole_is_fraction values row).0) rows holds)
