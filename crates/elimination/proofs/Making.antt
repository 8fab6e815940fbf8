-- Each row is what its multipliers make of the given rows; so the multipliers of a contradiction refute these.
use Rattle.std.proofs.Common.{◌≡◌, ℕ, zero, suc, Bool, true, false, List, [], ◌∷◌, ◌++◌, map, arith, refl, sym, ◌∙◌, ap, subst, length, length-append}
use Rattle.std.proofs.Common.{append_assoc, get_or, replicate, Result, Ok, Err}
use Prim.Native.Nat.{◌∣◌}
use Rattle.std.specs.Prelude.{unsigned_abs, ℤ, pos, negsuc, neg_ℤ, ◌+ℤ◌, ◌*ℤ◌, ◌-ℤ◌, ◌≤ℤ◌, All}
use Rattle.std.specs.Bool.{OnFalse}
use Rattle.std.specs.List.{AllByRecursion, AllZip}
use Rattle.std.proofs.lemmas.Int.{ints}
use Rattle.std.proofs.lemmas.List.Elements.{All-from_recursion}
use Rattle.std.proofs.lemmas.Nat.Gcd.{dvd-zero}
use Rattle.lin_terms.specs.declared.row.Row.{Row}
use Rattle.lin_terms.specs.Vectors.{dot, plus, scaled}
use Rattle.lin_terms.specs.Divisor.{floor_div}
use Rattle.elimination.proofs.Ring.{as_dif, same_dif, difs, mul-minus}
use Rattle.lin_terms.proofs.Laws.{nonneg_add, nonneg_mul, zero_factor, zero_entries, dot-replicate, exact_quotient, dot-quotients}
use Rattle.elimination.proofs.Lists.{get_or_all}
use Rattle.farkas_check.specs.Refutes.{column, constants, MayMultiply, Refutes}
use Rattle.elimination.specs.declared.answer.EarlyEnd.{EarlyEnd}
use Rattle.elimination.specs.Combination.{Combination, entry, is_zero, is_positive, sign, size, combined}
use Rattle.elimination.specs.Joining.{divided, primitive, allows, refuting_multipliers, list_of}
use Rattle.elimination.specs.Eliminated.{initial, eliminate}
use Rattle.elimination.specs.Made.{IsMadeSign, AreMadeSigns, IsMade}
use Rattle.elimination.proofs.Points.{dot-sum, entry-combined, zero_is}
use Rattle.elimination.proofs.Primitive.{IsDivisor, divisor_of, get_or-quotients}
use Rattle.elimination.proofs.Keeping.{Holding, Owes, Steps, new_list_holds, eliminate_holds}

-- ---- a sum of two rows

-- how two multipliers at an inequality add up
abbrev Mixes : Bool → Bool → ℤ → ℤ → Type 0
Mixes first second k l = (m o : ℤ) → IsMadeSign first false m → IsMadeSign second false o → IsMadeSign first false ((k *ℤ m) +ℤ (l *ℤ o))

sign_sum : (equality first second : Bool) (k l m o : ℤ) → Mixes first second k l → IsMadeSign first equality m → IsMadeSign second equality o
    → IsMadeSign first equality ((k *ℤ m) +ℤ (l *ℤ o))
sign_sum true first second k l m o mixes m_sign o_sign = tt
sign_sum false first second k l m o mixes m_sign o_sign = mixes m o m_sign o_sign

signs_sum : (first second : Bool) (k l : ℤ) → Mixes first second k l → (given : List Row) (ms os : List ℤ)
    → AreMadeSigns first given ms → AreMadeSigns second given os → AreMadeSigns first given (plus (scaled k ms) (scaled l os))
signs_sum first second k l mixes [] [] [] m_signs o_signs = tt
signs_sum first second k l mixes [] [] (o ∷ os) m_signs o_signs = absurd o_signs
signs_sum first second k l mixes [] (m ∷ ms) os m_signs o_signs = absurd m_signs
signs_sum first second k l mixes (row ∷ rows) [] os m_signs o_signs = absurd m_signs
signs_sum first second k l mixes (row ∷ rows) (m ∷ ms) [] m_signs o_signs = absurd o_signs
signs_sum first second k l mixes (row ∷ rows) (m ∷ ms) (o ∷ os) m_signs o_signs =
    (sign_sum row.equality first second k l m o mixes m_signs.0 o_signs.0, signs_sum first second k l mixes rows ms os m_signs.1 o_signs.1)

made_sum : (given : List Row) (k : ℤ) (p : Combination) (l : ℤ) (q : Combination) → Mixes p.row.equality q.row.equality k l
    → IsMade given p → IsMade given q → IsMade given (combined k p l q)
made_sum given k p l q mixes p_made q_made = record {
  columns = λ j. dot-sum k p.multipliers l q.multipliers (column j given)
      ∙ ap (λ t. (k *ℤ t) +ℤ (l *ℤ dot q.multipliers (column j given))) (p_made.columns j)
      ∙ ap (λ t. (k *ℤ entry j p) +ℤ (l *ℤ t)) (q_made.columns j)
      ∙ sym (entry-combined j k p l q);
  constant = dot-sum k p.multipliers l q.multipliers (constants given)
      ∙ ap (λ t. (k *ℤ t) +ℤ (l *ℤ dot q.multipliers (constants given))) p_made.constant
      ∙ ap (λ t. (k *ℤ p.row.constant) +ℤ (l *ℤ t)) q_made.constant;
  signs = signs_sum p.row.equality q.row.equality k l mixes given p.multipliers q.multipliers p_made.signs q_made.signs;
}

times_zero : (k : ℤ) → k *ℤ pos 0 ≡ pos 0
times_zero k = omega (arith, ints)

-- a row and an equality
mixes_equality : (first : Bool) (a l : ℤ) → Mixes first true (size a) l
mixes_equality true a l m o m_sign o_sign = rw (m_sign, o_sign) (omega (arith, ints))
mixes_equality false a l m o m_sign o_sign =
    rw (o_sign, times_zero l) (nonneg_add (size a *ℤ m) (pos 0) (nonneg_mul (size a) m (omega (arith, ints)) m_sign) (omega (arith, ints)))

-- two inequalities
mixes_inequalities : (k l : ℤ) → pos 0 ≤ℤ k → pos 0 ≤ℤ l → Mixes false false k l
mixes_inequalities k l k_sign l_sign m o m_sign o_sign =
    nonneg_add (k *ℤ m) (l *ℤ o) (nonneg_mul k m k_sign m_sign) (nonneg_mul l o l_sign o_sign)

not_negative : (a : ℤ) → is_positive a ≡ true → pos 0 ≤ℤ a
not_negative (pos zero) e = cc
not_negative (pos (suc n)) e = omega (arith, ints)
not_negative (negsuc n) e = cc

made_steps : (given : List Row) (j : ℕ) → Steps j (IsMade given) (IsMade given)
made_steps given j = record {
  flat = λ row zero made. made;
  reduce = λ pivot row equality pivot_made made.
      let l : ℤ = neg_ℤ (sign (entry j pivot) *ℤ entry j row) in
      made_sum given (size (entry j pivot)) row l pivot
      (subst (λ b. Mixes row.row.equality b (size (entry j pivot)) l) (sym equality) (mixes_equality row.row.equality (entry j pivot) l)) made pivot_made;
  pair = λ lower upper is_lower is_upper lower_made upper_made.
      made_sum given (size (entry j upper)) lower (entry j lower) upper
      (rw (is_lower.1, is_upper.1) (mixes_inequalities (size (entry j upper)) (entry j lower) (omega (arith, ints)) (not_negative (entry j lower) is_lower.0)))
      lower_made upper_made;
}

-- ---- a primitive row

minus_same : (a b : ℤ) → a ≡ b → a -ℤ b ≡ pos 0
minus_same a b e = omega (arith, ints)

same_minus : (a b : ℤ) → a -ℤ b ≡ pos 0 → a ≡ b
same_minus a b e = omega (arith, ints)

-- a positive factor is cancelled
cancelled : (n : ℕ) (a b : ℤ) → pos (suc n) *ℤ a ≡ pos (suc n) *ℤ b → a ≡ b
cancelled n a b e =
    same_minus a b (zero_factor n (a -ℤ b) (mul-minus (pos (suc n)) a b ∙ minus_same (pos (suc n) *ℤ a) (pos (suc n) *ℤ b) e))

divided_sign : (n : ℕ) (made equality : Bool) (m : ℤ) → IsMadeSign made equality m → IsMadeSign made equality (floor_div m (suc n))
divided_sign n made true m sign = tt
divided_sign n true false m sign = rw sign (omega (arith, ints))
divided_sign n false false (pos k) sign = omega (arith, ints)
divided_sign n false false (negsuc k) sign = absurd sign.le

divided_signs : (n : ℕ) (made : Bool) (given : List Row) (ms : List ℤ) → AreMadeSigns made given ms
    → AreMadeSigns made given (map (λ x. floor_div x (suc n)) ms)
divided_signs n made [] [] signs = tt
divided_signs n made [] (m ∷ ms) signs = absurd signs
divided_signs n made (row ∷ rows) [] signs = absurd signs
divided_signs n made (row ∷ rows) (m ∷ ms) signs = (divided_sign n made row.equality m signs.0, divided_signs n made rows ms signs.1)

made_divided : (given : List Row) (row : Combination) (n : ℕ) → IsDivisor row n → IsMade given row → IsMade given (divided (suc n) row)
made_divided given row n divisor made =
    let quotients : List ℤ = map (λ x. floor_div x (suc n)) row.multipliers in
    record {
      columns = λ j. cancelled n (dot quotients (column j given)) (entry j (divided (suc n) row))
          (dot-quotients n row.multipliers (column j given) divisor.multipliers ∙ made.columns j
          ∙ sym (ap (λ t. pos (suc n) *ℤ t) (get_or-quotients n row.row.coefs j)
          ∙ exact_quotient n (entry j row) (get_or_all (λ (x : ℤ). suc n ∣ unsigned_abs x) row.row.coefs j (pos 0) (dvd-zero (suc n)) divisor.coefs)));
      constant = cancelled n (dot quotients (constants given)) (floor_div row.row.constant (suc n))
          (dot-quotients n row.multipliers (constants given) divisor.multipliers ∙ made.constant ∙ sym (exact_quotient n row.row.constant divisor.constant));
      signs = divided_signs n row.row.equality given row.multipliers made.signs;
    }

made_primitive : (given : List Row) (row : Combination) → IsMade given row → IsMade given (primitive row)
made_primitive given row made =
    let found = divisor_of row in
    subst (IsMade given) (sym found.1.is) (made_divided given row found.0 found.1 made)

-- ---- a contradiction

negated_step : (m z t : ℤ) → (neg_ℤ m *ℤ z) +ℤ neg_ℤ t ≡ neg_ℤ ((m *ℤ z) +ℤ t)
negated_step m z t = rw (as_dif m, as_dif z, as_dif t) (simp difs (same_dif _ _ _ _ (omega arith)))

dot-negated : (ms zs : List ℤ) → dot (map neg_ℤ ms) zs ≡ neg_ℤ (dot ms zs)
dot-negated [] zs = refl
dot-negated (m ∷ ms) [] = refl
dot-negated (m ∷ ms) (z ∷ zs) = rw (dot-negated ms zs) (negated_step m z (dot ms zs))

plain_sign : (made equality : Bool) (m : ℤ) → IsMadeSign made equality m → OnFalse equality (pos 0 ≤ℤ m)
plain_sign made true m sign = tt
plain_sign true false m sign = rw sign (omega (arith, ints))
plain_sign false false m sign = sign

plain_signs : (made : Bool) (given : List Row) (ms : List ℤ) → AreMadeSigns made given ms → AllZip MayMultiply given ms
plain_signs made [] [] signs = tt
plain_signs made [] (m ∷ ms) signs = absurd signs
plain_signs made (row ∷ rows) [] signs = absurd signs
plain_signs made (row ∷ rows) (m ∷ ms) signs = (plain_sign made row.equality m signs.0, plain_signs made rows ms signs.1)

negated_sign : (equality : Bool) (m : ℤ) → IsMadeSign true equality m → OnFalse equality (pos 0 ≤ℤ neg_ℤ m)
negated_sign true m sign = tt
negated_sign false m sign = rw sign (omega (arith, ints))

negated_signs : (given : List Row) (ms : List ℤ) → AreMadeSigns true given ms → AllZip MayMultiply given (map neg_ℤ ms)
negated_signs [] [] signs = tt
negated_signs [] (m ∷ ms) signs = absurd signs
negated_signs (row ∷ rows) [] signs = absurd signs
negated_signs (row ∷ rows) (m ∷ ms) signs = (negated_sign row.equality m signs.0, negated_signs rows ms signs.1)

module _ (given : List Row) (ms : List ℤ) (columns : (j : ℕ) → dot ms (column j given) ≡ pos 0) where
  as_they_are : (made : Bool) (c : ℤ) → AreMadeSigns made given ms → dot ms (constants given) ≡ c → c ≤ℤ negsuc 0 → Refutes given ms
  as_they_are made c signs is negative = record {
    signs = plain_signs made given ms signs;
    no_variable = columns;
    negative_constant = rw is negative;
  }

  with_other_sign : (c : ℤ) → AreMadeSigns true given ms → dot ms (constants given) ≡ c → neg_ℤ c ≤ℤ negsuc 0 → Refutes given (map neg_ℤ ms)
  with_other_sign c signs is positive = record {
    signs = negated_signs given ms signs;
    no_variable = λ j. dot-negated ms (column j given) ∙ ap neg_ℤ (columns j);
    negative_constant = rw (dot-negated ms (constants given), is) positive;
  }

  contradicted : (made : Bool) (c : ℤ) → AreMadeSigns made given ms → dot ms (constants given) ≡ c → allows made c ≡ false
      → Refutes given (refuting_multipliers c ms)
  contradicted true (pos zero) signs is fails = cc
  contradicted true (pos (suc k)) signs is fails = with_other_sign (pos (suc k)) signs is (omega (arith, ints))
  contradicted true (negsuc k) signs is fails = as_they_are true (negsuc k) signs is (omega (arith, ints))
  contradicted false (pos k) signs is fails = cc
  contradicted false (negsuc k) signs is fails = as_they_are false (negsuc k) signs is (omega (arith, ints))

made_joins : (given : List Row) (row : Combination) → IsMade given row → Owes (IsMade given) (Refutes given) (primitive row)
made_joins given row made =
    let all = made_primitive given row made in
    let joins : Combination = primitive row in
    record {
      kept = λ fits variable. all;
      failed = λ fits no_variable fails.
          contradicted given joins.multipliers (λ j. all.columns j
          ∙ zero_entries is_zero zero_is joins.row.coefs no_variable j) joins.row.equality joins.row.constant all.signs all.constant fails;
    }

-- ---- the given rows

abbrev unit : ℕ → ℕ → List ℤ
unit before behind = replicate before (pos 0) ++ pos 1 ∷ replicate behind (pos 0)

unit_column : (j : ℕ) (front : List Row) (row : Row) (rows : List Row)
    → dot (unit (length front) (length rows)) (column j (front ++ row ∷ rows)) ≡ get_or row.coefs j (pos 0)
unit_column j [] row rows = rw (dot-replicate (length rows) (column j rows)) (omega (arith, ints))
unit_column j (first ∷ front) row rows = rw (unit_column j front row rows) (omega (arith, ints))

unit_constant : (front : List Row) (row : Row) (rows : List Row) → dot (unit (length front) (length rows)) (constants (front ++ row ∷ rows)) ≡ row.constant
unit_constant [] row rows = rw (dot-replicate (length rows) (constants rows)) (omega (arith, ints))
unit_constant (first ∷ front) row rows = rw (unit_constant front row rows) (omega (arith, ints))

zero_sign : (made equality : Bool) → IsMadeSign made equality (pos 0)
zero_sign made true = tt
zero_sign true false = refl
zero_sign false false = omega (arith, ints)

one_sign : (equality : Bool) → IsMadeSign equality equality (pos 1)
one_sign true = tt
one_sign false = omega (arith, ints)

zero_signs : (made : Bool) (rows : List Row) → AreMadeSigns made rows (replicate (length rows) (pos 0))
zero_signs made [] = tt
zero_signs made (row ∷ rows) = (zero_sign made row.equality, zero_signs made rows)

unit_signs : (front : List Row) (row : Row) (rows : List Row) → AreMadeSigns row.equality (front ++ row ∷ rows) (unit (length front) (length rows))
unit_signs [] row rows = (one_sign row.equality, zero_signs row.equality rows)
unit_signs (first ∷ front) row rows = (zero_sign row.equality first.equality, unit_signs front row rows)

initial_made : (given front rows : List Row) (before : ℕ) → given ≡ front ++ rows → before ≡ length front → AllByRecursion (IsMade given) (initial before rows)
initial_made given front [] before all count = tt
initial_made given front (row ∷ rows) before all count = (
  rw (all, count) (record {
    columns = λ j. unit_column j front row rows;
    constant = unit_constant front row rows;
    signs = unit_signs front row rows;
  }),
  initial_made given (front ++ row ∷ []) rows (suc before) (all ∙ sym (append_assoc front (row ∷ []) rows))
      (omega (arith, count, length-append front (row ∷ []))),
)

-- what is left of the given rows is made of them
pub all_made : (rows : List Row) (cap left : ℕ) → Holding (IsMade rows) (Refutes rows) (eliminate cap left 0 (list_of cap (initial 0 rows)))
all_made rows cap left =
    eliminate_holds (IsMade rows) (Refutes rows) (made_joins rows) (made_steps rows) cap left 0 (list_of cap (initial 0 rows))
    (new_list_holds (IsMade rows) (IsMade rows) (Refutes rows) (made_joins rows) cap (initial 0 rows) (initial_made rows [] rows 0 refl refl))

listed_made : (given : List Row) (made : Result (List Combination) EarlyEnd) (rows : List Combination) → Holding (IsMade given) (Refutes given) made
    → made ≡ Ok rows
    → AllByRecursion (IsMade given) rows
listed_made given (Ok others) rows holds e = let same : others ≡ rows = cc in subst (AllByRecursion (IsMade given)) same holds
listed_made given (Err early) rows holds e = cc

-- the rows of each list that is made
pub rows_made : (given : List Row) (cap left : ℕ) (rows : List Combination) → eliminate cap left 0 (list_of cap (initial 0 given)) ≡ Ok rows
    → All (IsMade given) rows
rows_made given cap left rows e =
    All-from_recursion (IsMade given) rows (listed_made given (eliminate cap left 0 (list_of cap (initial 0 given))) rows (all_made given cap left) e)
