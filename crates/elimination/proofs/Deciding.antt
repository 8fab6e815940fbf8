-- Where all columns are eliminated and nothing has stopped it, the given rows have a point.
use Rattle.std.proofs.Common.{◌≡◌, ◌⊎◌, ℕ, zero, suc, ◌+◌, ◌<◌, ◌≤◌, Bool, true, false, cond, List, [], ◌∷◌, arith, refl, sym, ◌∙◌, ap, subst, inl}
use Rattle.std.proofs.Common.{inr, ⊎_elim, length, get_or, replicate, Result, Ok, Err}
use Rattle.std.specs.Prelude.{ℤ, pos, neg_ℤ, ◌+ℤ◌, ◌*ℤ◌, nat_le}
use Rattle.std.specs.List.{AllByRecursion}
use Rattle.std.proofs.lemmas.Int.{ints}
use Rattle.std.proofs.lemmas.List.{get_or_past, length-replicate}
use Rattle.std.proofs.lemmas.List.Elements.{All-from_recursion, recursion_from_All}
use Rattle.lin_terms.specs.declared.row.Row.{Row}
use Rattle.lin_terms.specs.Row.{Meets, HaveOneLength, columns_of}
use Rattle.elimination.proofs.Ring.{as_dif, same_dif, difs, dif_pos}
use Rattle.elimination.specs.declared.answer.Answer.TheVariants.{NotRefutable}
use Rattle.elimination.specs.declared.answer.Limit.TheVariants.{ManyRows}
use Rattle.elimination.specs.declared.answer.EarlyEnd.{EarlyEnd}
use Rattle.elimination.specs.declared.answer.EarlyEnd.TheVariants.{Contradiction, AtLimit}
use Rattle.elimination.specs.Combination.{Combination, entry, sign, size, combined}
use Rattle.elimination.specs.Column.{projected}
use Rattle.elimination.specs.Joining.{primitive, has_no_variable, list_of}
use Rattle.elimination.specs.Eliminated.{most_rows, initial, eliminate, answer_of, eliminated}
use Rattle.lin_terms.specs.Row.{HasPoint}
use Rattle.elimination.proofs.Lists.{Anything, all_weaker}
use Rattle.elimination.proofs.Points.{MeetsEach, entry-combined, sign-mul, zero_is, size_of_negative}
use Rattle.elimination.proofs.Primitive.{entry-primitive}
use Rattle.elimination.proofs.PointsOfLists.{HasWidePoint, columns_back, eliminate_err, list_of_back}
use Rattle.elimination.proofs.Keeping.{Holding, Owes, new_list_holds, Steps, projected_has}

-- ---- columns that are gone, where those before j are eliminated of n

abbrev IsGone : ℕ → ℕ → ℕ → Type 0
IsGone n j i = (i < j) ⊎ (n ≤ i)

abbrev HasGone : ℕ → ℕ → Combination → Type 0
HasGone n j row = (i : ℕ) → IsGone n j i → entry i row ≡ pos 0

-- such a row, with a variable
abbrev IsLeft : ℕ → ℕ → Combination → Type 0
IsLeft n j row = HasGone n j row × (has_no_variable row.row.coefs ≡ false)

gone_step : (n j i : ℕ) → IsGone n (suc j) i → (i ≡ j) ⊎ IsGone n j i
gone_step n j i (inl below) = grind arith
gone_step n j i (inr past) = inr (inr past)

zero_sum : (k a l b : ℤ) → a ≡ pos 0 → b ≡ pos 0 → (k *ℤ a) +ℤ (l *ℤ b) ≡ pos 0
zero_sum k a l b a_zero b_zero = rw (a_zero, b_zero) (omega (arith, ints))

reduced_zero : (s a b : ℤ) → ((s *ℤ a) *ℤ b) +ℤ (neg_ℤ (s *ℤ b) *ℤ a) ≡ pos 0
reduced_zero s a b = rw (as_dif s, as_dif a, as_dif b, dif_pos 0) (simp difs (same_dif _ _ _ _ (omega arith)))

paired_zero : (a b : ℤ) → (neg_ℤ b *ℤ a) +ℤ (a *ℤ b) ≡ pos 0
paired_zero a b = rw (as_dif a, as_dif b, dif_pos 0) (simp difs (same_dif _ _ _ _ (omega arith)))

-- a combination of two rows in which column j vanishes
combined_gone : (n j : ℕ) (k : ℤ) (p : Combination) (l : ℤ) (q : Combination) → (k *ℤ entry j p) +ℤ (l *ℤ entry j q) ≡ pos 0
    → HasGone n j p → HasGone n j q → HasGone n (suc j) (combined k p l q)
combined_gone n j k p l q vanishes p_gone q_gone i gone =
    entry-combined i k p l q
    ∙ ⊎_elim (λ is. subst (λ t. (k *ℤ entry t p) +ℤ (l *ℤ entry t q) ≡ pos 0) (sym is) vanishes)
    (λ before. zero_sum k (entry i p) l (entry i q) (p_gone i before) (q_gone i before)) (gone_step n j i gone)

reduced_gone : (n j : ℕ) (pivot row : Combination) → HasGone n j pivot → HasGone n j row
    → HasGone n (suc j) (combined (size (entry j pivot)) row (neg_ℤ (sign (entry j pivot) *ℤ entry j row)) pivot)
reduced_gone n j pivot row pivot_gone row_gone =
    let a : ℤ = entry j pivot in
    let b : ℤ = entry j row in
    combined_gone n j (size a) row (neg_ℤ (sign a *ℤ b)) pivot
    (ap (λ t. (t *ℤ b) +ℤ (neg_ℤ (sign a *ℤ b) *ℤ a)) (sym (sign-mul a)) ∙ reduced_zero (sign a) a b) row_gone pivot_gone

gone_steps : (n j : ℕ) → Steps j (IsLeft n j) (HasGone n (suc j))
gone_steps n j = record {
  flat = λ row zero stays i gone. ⊎_elim (λ is. subst (λ t. entry t row ≡ pos 0) (sym is) (zero_is (entry j row) zero)) (λ before. stays.0 i before)
      (gone_step n j i gone);
  reduce = λ pivot row equality has_pivot has. reduced_gone n j pivot row has_pivot.0 has.0;
  pair = λ lower upper is_lower is_upper has_lower has_upper.
      combined_gone n j (size (entry j upper)) lower (entry j lower) upper
      (ap (λ t. (t *ℤ entry j lower) +ℤ (entry j lower *ℤ entry j upper)) (size_of_negative (entry j upper) is_upper.0)
      ∙ paired_zero (entry j lower) (entry j upper))
      has_lower.0 has_upper.0;
}

gone_joins : (n j : ℕ) (row : Combination) → HasGone n j row → Owes (IsLeft n j) Anything (primitive row)
gone_joins n j row has_gone = record {
  kept = λ fits variable. ((λ i gone. entry-primitive i row (has_gone i gone)), variable);
  failed = λ fits no_variable fails. tt;
}

column_gone : (cap n j : ℕ) (rows : List Combination) → AllByRecursion (IsLeft n j) rows → Holding (IsLeft n (suc j)) Anything (list_of cap (projected j rows))
column_gone cap n j rows all =
    new_list_holds (HasGone n (suc j)) (IsLeft n (suc j)) Anything (gone_joins n (suc j)) cap (projected j rows)
    (projected_has j (IsLeft n j) (HasGone n (suc j)) (gone_steps n j) rows all)

eliminate_gone : (cap n left j : ℕ) (rows : Result (List Combination) EarlyEnd) (out : List Combination) → Holding (IsLeft n j) Anything rows
    → eliminate cap left j rows ≡ Ok out → AllByRecursion (IsLeft n (j + left)) out
eliminate_gone cap n zero j (Err stop) out holds e = cc
eliminate_gone cap n zero j (Ok rows) out holds e =
    let same : rows ≡ out = cc in
    let at_end : j + 0 ≡ j = omega arith in
    subst (AllByRecursion (IsLeft n (j + 0))) same (rw at_end holds)
eliminate_gone cap n (suc left) j (Err stop) out holds e = cc
eliminate_gone cap n (suc left) j (Ok rows) out holds e =
    let one_more : suc j + left ≡ j + suc left = omega arith in
    rw (← one_more) (eliminate_gone cap n left (suc j) (list_of cap (projected j rows)) out (column_gone cap n j rows holds) e)

-- ---- no column is left, so no row is left

no_variable_left : (coefs : List ℤ) → ((i : ℕ) → get_or coefs i (pos 0) ≡ pos 0) → has_no_variable coefs ≡ true
no_variable_left [] zeros = refl
no_variable_left (c ∷ coefs) zeros = rw (zeros 0) (no_variable_left coefs (λ i. zeros (suc i)))

false_true : false ≡ true → ⊥
false_true e = cc

none_left : (n : ℕ) (row : Combination) → IsLeft n n row → ⊥
none_left n row stays = false_true (sym stays.1 ∙ no_variable_left row.row.coefs (λ i. stays.0 i (grind arith)))

last_point : (n : ℕ) (out : List Combination) → AllByRecursion (IsLeft n n) out → HasWidePoint n out
last_point n out all = record {
  numbers = replicate n (pos 0);
  denominator = pos 1;
  many = length-replicate n (pos 0);
  positive = omega (arith, ints);
  meets = all_weaker (IsLeft n n) (λ row. Meets (replicate n (pos 0)) (pos 1) row.row) (λ row stays. absurd (none_left n row stays)) out all;
}

-- ---- the given rows

initial_gone : (n before : ℕ) (rows : List Row) → AllByRecursion (λ row. length row.coefs ≡ n) rows
    → AllByRecursion (HasGone n 0) (initial before rows)
initial_gone n before [] lengths = tt
initial_gone n before (row ∷ rows) lengths = (
  λ i gone. ⊎_elim (λ (below : i < 0). absurd (omega arith)) (λ (past : n ≤ i). get_or_past row.coefs i (pos 0) (omega (arith, lengths.0))) gone,
  initial_gone n (suc before) rows lengths.1,
)

meets_initial : (numbers : List ℤ) (d : ℤ) (before : ℕ) (rows : List Row) → MeetsEach numbers d (initial before rows) → AllByRecursion (Meets numbers d) rows
meets_initial numbers d before [] met = tt
meets_initial numbers d before (row ∷ rows) met = (met.0, meets_initial numbers d (suc before) rows met.1)

first_point : (cap n : ℕ) (rows : List Row) (start : Result (List Combination) EarlyEnd) (out : List Combination) → list_of cap (initial 0 rows) ≡ start
    → Holding (IsLeft n 0) Anything start → eliminate cap n 0 start ≡ Ok out → HasPoint rows
first_point cap n rows (Err stop) out is holds ends = absurd (eliminate_err cap n 0 stop out ends)
first_point cap n rows (Ok first) out is holds ends =
    let all : 0 + n ≡ n = omega arith in
    let last = last_point n out (subst (λ m. AllByRecursion (IsLeft n m) out) all (eliminate_gone cap n n 0 (Ok first) out holds ends)) in
    let point = columns_back cap n n 0 first out (omega arith) ends last in
    record {
      numbers = point.numbers;
      denominator = point.denominator;
      positive = point.positive;
      meets = All-from_recursion (Meets point.numbers point.denominator) rows
          (meets_initial point.numbers point.denominator 0 rows
          (list_of_back point.numbers point.denominator (omega (arith, ints, point.positive)) cap (initial 0 rows) first is point.meets));
    }

answered_point : (cap n : ℕ) (rows : List Row) (ended : Result (List Combination) EarlyEnd) → eliminate cap n 0 (list_of cap (initial 0 rows)) ≡ ended
    → answer_of ended ≡ Ok NotRefutable → AllByRecursion (λ row. length row.coefs ≡ n) rows → HasPoint rows
answered_point cap n rows (Err (Contradiction multipliers)) is e lengths = cc
answered_point cap n rows (Err (AtLimit limit)) is e lengths = cc
answered_point cap n rows (Ok out) is e lengths =
    first_point cap n rows (list_of cap (initial 0 rows)) out refl
    (new_list_holds (HasGone n 0) (IsLeft n 0) Anything (gone_joins n 0) cap (initial 0 rows) (initial_gone n 0 rows lengths)) is

few_point : (test : Bool) (rows : List Row) (cap : ℕ)
    → cond test (answer_of (eliminate cap (columns_of rows) 0 (list_of cap (initial 0 rows)))) (Err ManyRows) ≡ Ok NotRefutable
    → AllByRecursion (λ row. length row.coefs ≡ columns_of rows) rows → HasPoint rows
few_point true rows cap e lengths =
    answered_point cap (columns_of rows) rows (eliminate cap (columns_of rows) 0 (list_of cap (initial 0 rows))) refl e lengths
few_point false rows cap e lengths = cc

pub has_point : (rows : List Row) (cap : ℕ) → HaveOneLength rows → eliminated rows cap ≡ Ok NotRefutable → HasPoint rows
has_point rows cap one_length e =
    few_point (nat_le (length rows) most_rows) rows cap e (recursion_from_All (λ (row : Row). length row.coefs ≡ columns_of rows) rows one_length)
