-- A point of a list meets the rows that joined it.
use Rattle.std.proofs.Common.{◌≡◌, ℕ, zero, suc, ◌+◌, ◌<◌, ◌≤◌, Bool, true, false, cond, not, List, [], ◌∷◌, ◌++◌, arith, refl, sym, ◌∙◌, subst}
use Rattle.std.proofs.Common.{length, length-set, set, Result, Ok, Err}
use Rattle.std.specs.Prelude.{ℤ, pos, negsuc, ◌+ℤ◌, ◌*ℤ◌, ◌-ℤ◌, ◌≤ℤ◌, ◌<ℤ◌, int_lt, nat_le}
use Rattle.std.specs.List.{AllByRecursion}
use Rattle.std.specs.Ordering.{int_eq}
use Rattle.std.proofs.lemmas.Int.{ints}
use Rattle.std.proofs.lemmas.Bool.{and_parts, not-true, cond_both}
use Rattle.std.proofs.lemmas.Bool.Decides.{Decides-int_eq}
use lib.Pointwise.{pointwise, pointwise_decides}
use Rattle.lin_terms.specs.Vectors.{dot, scaled}
use Rattle.lin_terms.specs.Row.{Allows, Meets}
use Rattle.elimination.proofs.Ring.{as_dif, same_dif, difs}
use Rattle.lin_terms.proofs.Laws.{nonneg_add, nonneg_mul, length-scaled, zero_entries, dot-zeros}
use Rattle.elimination.specs.declared.answer.EarlyEnd.{EarlyEnd}
use Rattle.elimination.specs.declared.answer.EarlyEnd.TheVariants.{Contradiction, AtLimit}
use Rattle.elimination.specs.declared.answer.Limit.TheVariants.{WideRow, ManyRows}
use Rattle.elimination.specs.Combination.{Combination, is_zero}
use Rattle.elimination.specs.Column.{projected}
use Rattle.elimination.specs.Joining.{numbers_of, primitive, is_wide, has_no_variable, allows, refuting_multipliers, judged, is_parallel, tighter}
use Rattle.elimination.specs.Joining.{placed, added, counted, admitted, joined, joined_each, list_of}
use Rattle.elimination.specs.Eliminated.{eliminate}
use Rattle.elimination.proofs.Lists.{all_front, all_back}
use Rattle.elimination.proofs.Points.{MeetsEach, zero_is}
use Rattle.elimination.proofs.Primitive.{primitive_back}
use Rattle.elimination.proofs.Stepping.{eliminate_ended}
use Rattle.elimination.proofs.CarriedBack.{carried_back}

pub ok_same : (xs ys : List Combination) → ◌≡◌ {A = Result (List Combination) EarlyEnd} (Ok xs) (Ok ys) → xs ≡ ys
ok_same xs ys e = cc

-- ---- a row that is left out

constant_allowed : (equality : Bool) (c d : ℤ) → pos 0 ≤ℤ d → allows equality c ≡ true → Allows equality (pos 0 +ℤ (c *ℤ d))
constant_allowed true c d not_negative e = rw (zero_is c e) (omega (arith, ints))
constant_allowed false (pos n) d not_negative e =
    nonneg_add (pos 0) (pos n *ℤ d) (omega (arith, ints)) (nonneg_mul (pos n) d (omega (arith, ints)) not_negative)
constant_allowed false (negsuc n) d not_negative e = cc

left_out : (numbers : List ℤ) (d : ℤ) (row : Combination) → pos 0 ≤ℤ d → has_no_variable row.row.coefs ≡ true
    → allows row.row.equality row.row.constant ≡ true → Meets numbers d row.row
left_out numbers d row not_negative no_variable allowed =
    rw (dot-zeros row.row.coefs numbers (zero_entries is_zero zero_is row.row.coefs no_variable))
    (constant_allowed row.row.equality row.row.constant d not_negative allowed)

-- ---- parallel rows

pub same_coefs : (xs ys : List ℤ) → pointwise int_eq xs ys ≡ true → xs ≡ ys
same_coefs xs ys e = (pointwise_decides Decides-int_eq xs ys).0 e

less_step : (s a b d : ℤ) → (s +ℤ (a *ℤ d)) +ℤ ((b -ℤ a) *ℤ d) ≡ s +ℤ (b *ℤ d)
less_step s a b d = rw (as_dif s, as_dif a, as_dif b, as_dif d) (simp difs (same_dif _ _ _ _ (omega arith)))

-- what holds with the less constant holds with the greater
less_constant : (s a b d : ℤ) → pos 0 ≤ℤ d → a ≤ℤ b → pos 0 ≤ℤ (s +ℤ (a *ℤ d)) → pos 0 ≤ℤ (s +ℤ (b *ℤ d))
less_constant s a b d not_negative below holds =
    subst (λ z. pos 0 ≤ℤ z) (less_step s a b d)
    (nonneg_add (s +ℤ (a *ℤ d)) ((b -ℤ a) *ℤ d) holds (nonneg_mul (b -ℤ a) d (omega (arith, ints)) not_negative))

-- ---- lists

module _ (numbers : List ℤ) (d : ℤ) (not_negative : pos 0 ≤ℤ d) where
  abbrev Met : Combination → Type 0
  Met row = Meets numbers d row.row

  parallel_met : (p q : Combination) → p.row.equality ≡ false → q.row.equality ≡ false → p.row.coefs ≡ q.row.coefs
      → p.row.constant ≤ℤ q.row.constant → Met p → Met q
  parallel_met p q p_inequality q_inequality coefs below met =
      let holds : pos 0 ≤ℤ (dot p.row.coefs numbers +ℤ (p.row.constant *ℤ d)) = subst
      (λ b. Allows b (dot p.row.coefs numbers +ℤ (p.row.constant *ℤ d))) p_inequality met in
      rw (q_inequality, ← coefs) (less_constant (dot p.row.coefs numbers) p.row.constant q.row.constant d not_negative below holds)

  -- of parallel rows the one that stays implies the other
  tighter_step : (test : Bool) (earlier row : Combination) → int_lt row.row.constant earlier.row.constant ≡ test → row.row.equality ≡ false
      → is_parallel earlier row ≡ true → Met (cond test row earlier) → Met earlier × Met row
  tighter_step true earlier row less inequality parallel met =
      let both = and_parts (not earlier.row.equality) (pointwise int_eq earlier.row.coefs row.row.coefs) parallel in
      let below : row.row.constant ≤ℤ earlier.row.constant = omega (arith, ints) in
      (parallel_met row earlier inequality (not-true earlier.row.equality both.0) (sym (same_coefs earlier.row.coefs row.row.coefs both.1)) below met, met)
  tighter_step false earlier row less inequality parallel met =
      let both = and_parts (not earlier.row.equality) (pointwise int_eq earlier.row.coefs row.row.coefs) parallel in
      let below : earlier.row.constant ≤ℤ row.row.constant = omega (arith, ints) in
      (met, parallel_met earlier row (not-true earlier.row.equality both.0) inequality (same_coefs earlier.row.coefs row.row.coefs both.1) below met)

  placed_back : (rows : List Combination) (row : Combination) → row.row.equality ≡ false → AllByRecursion Met (placed rows row)
      → AllByRecursion Met rows × Met row
  placed_back [] row inequality met = (tt, met.0)
  placed_back (earlier ∷ rows) row inequality met =
      cond_both (is_parallel earlier row) (tighter earlier row ∷ rows) (earlier ∷ placed rows row)
      (λ rs. AllByRecursion Met rs → AllByRecursion Met (earlier ∷ rows) × Met row)
      (λ parallel met_here. let both = tighter_step (int_lt row.row.constant earlier.row.constant) earlier row refl inequality parallel met_here.0 in
      ((both.0, met_here.1), both.1))
      (λ other met_here. let both = placed_back rows row inequality met_here.1 in ((met_here.0, both.0), both.1)) met

  added_back : (rows : List Combination) (row : Combination) → AllByRecursion Met (added rows row) → AllByRecursion Met rows × Met row
  added_back rows row met =
      cond_both row.row.equality (rows ++ row ∷ []) (placed rows row) (λ rs. AllByRecursion Met rs → AllByRecursion Met rows × Met row)
      (λ equality met_here. (all_front Met rows (row ∷ []) met_here, (all_back Met rows (row ∷ []) met_here).0))
      (λ inequality met_here. placed_back rows row inequality met_here) met

  -- where the list is made, what meets it meets the rows before and the row that joins
  abbrev IsMetBefore : List Combination → Combination → List Combination → Result (List Combination) EarlyEnd → Type 0
  IsMetBefore rows row out made = made ≡ Ok out → AllByRecursion Met out → AllByRecursion Met rows × Met row

  judged_back : (rows : List Combination) (row : Combination) (out : List Combination) → has_no_variable row.row.coefs ≡ true
      → IsMetBefore rows row out (judged rows row)
  judged_back rows row out no_variable =
      cond_both (allows row.row.equality row.row.constant) (Ok rows) (Err (Contradiction (refuting_multipliers row.row.constant row.multipliers)))
      (IsMetBefore rows row out)
      (λ allowed e met. (subst (AllByRecursion Met) (sym (ok_same rows out e)) met, left_out numbers d row not_negative no_variable allowed))
      (λ fails e met. cc)

  counted_back : (cap : ℕ) (rows : List Combination) (row : Combination) (out : List Combination) → IsMetBefore rows row out (counted cap (added rows row))
  counted_back cap rows row out =
      cond_both (nat_le (length (added rows row)) cap) (Ok (added rows row)) (Err (AtLimit ManyRows)) (IsMetBefore rows row out)
      (λ few e met. added_back rows row (subst (AllByRecursion Met) (sym (ok_same (added rows row) out e)) met)) (λ many e met. cc)

  admitted_back : (cap : ℕ) (rows : List Combination) (row : Combination) (out : List Combination) → IsMetBefore rows row out (admitted cap rows row)
  admitted_back cap rows row out =
      let by_variables : Result (List Combination) EarlyEnd = cond (has_no_variable row.row.coefs) (judged rows row) (counted cap (added rows row)) in
      cond_both (is_wide (numbers_of row)) (Err (AtLimit WideRow)) by_variables (IsMetBefore rows row out) (λ wide e met. cc)
      (λ fits. cond_both (has_no_variable row.row.coefs) (judged rows row) (counted cap (added rows row)) (IsMetBefore rows row out)
      (λ no_variable. judged_back rows row out no_variable) (λ variable. counted_back cap rows row out))

  joined_back : (cap : ℕ) (rows : List Combination) (row : Combination) (out : List Combination) → joined cap rows row ≡ Ok out
      → AllByRecursion Met out → AllByRecursion Met rows × Met row
  joined_back cap rows row out e met =
      let both = admitted_back cap rows (primitive row) out e met in
      (both.0, primitive_back numbers d row both.1)

  -- the list before, which the point meets as well as the rows that joined
  record MetBefore (before : Result (List Combination) EarlyEnd) (later : List Combination) : Type 0 where
    rows : List Combination
    is : before ≡ Ok rows
    meets : AllByRecursion Met rows
    meets_later : AllByRecursion Met later

  joined_each_back : (cap : ℕ) (before : Result (List Combination) EarlyEnd) (later out : List Combination) → joined_each cap before later ≡ Ok out
      → AllByRecursion Met out → MetBefore before later
  joined_each_back cap (Err stop) later out e met = cc
  joined_each_back cap (Ok rows) [] out e met =
      record { rows = rows; is = refl; meets = subst (AllByRecursion Met) (sym (ok_same rows out e)) met; meets_later = tt }
  joined_each_back cap (Ok rows) (row ∷ later) out e met =
      let after = joined_each_back cap (joined cap rows row) later out e met in
      let both = joined_back cap rows row after.rows after.is after.meets in
      record { rows = rows; is = refl; meets = both.0; meets_later = (both.1, after.meets_later) }

  pub list_of_back : (cap : ℕ) (rows out : List Combination) → list_of cap rows ≡ Ok out → AllByRecursion Met out → AllByRecursion Met rows
  list_of_back cap rows out e met = (joined_each_back cap (Ok []) rows out e met).meets_later

-- ---- all columns

pub eliminate_err : (cap left j : ℕ) (stop : EarlyEnd) (out : List Combination) → eliminate cap left j (Err stop) ≡ Ok out → ⊥
eliminate_err cap left j stop out e = let stopped = eliminate_ended cap left j stop in cc

positive_mul : (a b : ℤ) → pos 0 <ℤ a → pos 0 <ℤ b → pos 0 <ℤ (a *ℤ b)
positive_mul (pos zero) b a_positive b_positive = absurd a_positive.lt
positive_mul (negsuc a) b a_positive b_positive = absurd a_positive.lt
positive_mul (pos (suc a)) (pos zero) a_positive b_positive = absurd b_positive.lt
positive_mul (pos (suc a)) (negsuc b) a_positive b_positive = absurd b_positive.lt
positive_mul (pos (suc a)) (pos (suc b)) a_positive b_positive = omega (arith, ints)

-- a point with n numbers that meets the rows
pub record HasWidePoint (n : ℕ) (rows : List Combination) : Type 0 where
  pub numbers : List ℤ
  pub denominator : ℤ
  pub many : length numbers ≡ n
  pub positive : pos 0 <ℤ denominator
  pub meets : MeetsEach numbers denominator rows

column_back : (cap n j : ℕ) (rows next : List Combination) → j < n → list_of cap (projected j rows) ≡ Ok next → HasWidePoint n next → HasWidePoint n rows
column_back cap n j rows next below e point =
    let inside : j < length point.numbers = omega (arith, point.many) in
    let met = list_of_back point.numbers point.denominator (omega (arith, ints, point.positive)) cap (projected j rows) next e point.meets in
    let carried = carried_back point.numbers point.denominator j inside rows met in
    record {
      numbers = set (scaled carried.factor point.numbers) j carried.number;
      denominator = carried.factor *ℤ point.denominator;
      many = length-set (scaled carried.factor point.numbers) j carried.number ∙ length-scaled carried.factor point.numbers ∙ point.many;
      positive = positive_mul carried.factor point.denominator carried.positive point.positive;
      meets = carried.meets;
    }

next_back : (cap n left j : ℕ) (rows out : List Combination) (next : Result (List Combination) EarlyEnd) → j + suc left ≤ n
    → list_of cap (projected j rows) ≡ next → eliminate cap left (suc j) next ≡ Ok out
    → ((mid : List Combination) → eliminate cap left (suc j) (Ok mid) ≡ Ok out → HasWidePoint n mid) → HasWidePoint n rows
next_back cap n left j rows out (Err stop) inside e ends later = absurd (eliminate_err cap left (suc j) stop out ends)
next_back cap n left j rows out (Ok mid) inside e ends later = column_back cap n j rows mid (omega arith) e (later mid ends)

-- a point of the last list gives one of the first
pub columns_back : (cap n left j : ℕ) (rows out : List Combination) → j + left ≤ n → eliminate cap left j (Ok rows) ≡ Ok out
    → HasWidePoint n out → HasWidePoint n rows
columns_back cap n zero j rows out inside e point = subst (HasWidePoint n) (sym (ok_same rows out e)) point
columns_back cap n (suc left) j rows out inside e point =
    next_back cap n left j rows out (list_of cap (projected j rows)) inside refl e
    (λ mid ends. columns_back cap n left (suc j) mid out (omega arith) ends point)
