-- The walk of a division splits points by the dividend's sign, with the quotient as one more number.
use Rattle.std.proofs.Common.{◌≡◌, ℕ, zero, suc, ◌<◌, ◌≤◌, Bool, true, false, eqb, ltb, List, [], ◌∷◌, ◌++◌, length, get_or, All, Option, Some, None, refl, sym, ap, subst, ◌∙◌, length-append, inl, inr, arith}
use Rattle.std.specs.Prelude.{ℤ, pos, negsuc, neg_ℤ, ◌+ℤ◌, ◌*ℤ◌, ◌≤ℤ◌, ◌<ℤ◌, ◌⊎◌, int_div, int_rem}
use Rattle.std.proofs.lemmas.Int.{ints}
use Rattle.std.proofs.lemmas.Bool.{eqb-true}
use Rattle.std.proofs.lemmas.Bool.Decides.{nat_tests}
use Rattle.std.proofs.lemmas.List.Elements.{All-nil, All-cons, All-head, All-tail}
use Rattle.lin_terms.specs.declared.form.Form.{Form}
use Rattle.lin_terms.specs.declared.row.Row.{Row}
use Rattle.lin_terms.specs.declared.sign.Sign.TheVariants.{Negative, NotPositive, NotNegative, Positive}
use Rattle.lin_terms.specs.Form.{value_at, multiple_of, difference_of, constant_form, variable_form, is_constant}
use Rattle.lin_terms.specs.Makes.{fitting}
use Rattle.lin_terms.specs.Row.{Holds}
use Rattle.lin_terms.specs.Sign.{sign_row}
use Rattle.lin_terms.proofs.Laws.{sign_row-holds, value_at-sum_of, value_at-multiple_of, value_at-constant, value_at-variable_form, fitting_is_wanted}
use Rattle.sym_paths.specs.Walk.{State, Path, Walk, onward}
use Rattle.sym_paths.specs.Rows.{all_joined, judged, made}
use Rattle.sym_paths.specs.Symbolic.{Parts, parts, rows_from_zero, rows_below_zero, two_ways, with_column, divided_by, parted_by, parted}
use Rattle.sym_paths.specs.Points.{HasValue, HoldsBefore, Extends, IsPoint, IsWholePoint, EachArrives, SomeArrives, ReachedFrom, Splits}
use Rattle.sym_paths.proofs.Walks.{each_append, some_left, some_right, each_changed, some_changed, gives_splits, stops_splits}
use Rattle.sym_paths.proofs.Points.{has_longer, has_here, hold_longer, extends_by, constant_has, unknown_has}
use Rattle.sym_paths.proofs.Rows.{all_joined_joins}
use Rattle.sym_paths.proofs.Quotients.{from_zero_is, below_zero_is, rest_is, from_zero_bounds, below_zero_bounds, by_one}

-- ---- what is made is the form that is wanted, or the walk meets a limit

module _ {A : Type 0} (P : Path A → Type 0) (state : State) (next : Form → State → Walk A) (wanted : Form) where
  each_judged : (o : Option Form) → o ≡ fitting wanted → EachArrives P (next wanted state) → EachArrives P (onward (judged o state) next)
  each_judged None is each = tt
  each_judged (Some form) is each =
      each_append P (next form state) [] (subst (λ (f : Form). EachArrives P (next f state)) (sym (fitting_is_wanted wanted form (sym is))) each) tt

  pub each_made : EachArrives P (next wanted state) → EachArrives P (onward (made wanted state) next)
  each_made = each_judged (fitting wanted) refl

  some_judged : (o : Option Form) → o ≡ fitting wanted → SomeArrives P (next wanted state) → SomeArrives P (onward (judged o state) next)
  some_judged None is some = tt
  some_judged (Some form) is some =
      some_left P (next form state) [] (subst (λ (f : Form). SomeArrives P (next f state)) (sym (fitting_is_wanted wanted form (sym is))) some)

  pub some_made : SomeArrives P (next wanted state) → SomeArrives P (onward (made wanted state) next)
  some_made = some_judged (fitting wanted) refl

-- ---- values

-- The quotient and what it leaves have their values.
pub record HaveParts (v : ℤ) (d : ℕ) (point : List ℤ) (p : Parts) : Type 0 where
  pub quotient : HasValue point p.quotient (int_div v (pos d))
  pub rest : HasValue point p.rest (int_rem v (pos d))

-- the dividend less the divisor times the quotient
abbrev rest_of : ℕ → Form → Form → Form
rest_of d dividend quotient = difference_of dividend (multiple_of (pos d) quotient)

rest_value : (d : ℕ) (f t : Form) (point : List ℤ) → value_at (rest_of d f t) point ≡ value_at f point +ℤ (negsuc 0 *ℤ (pos d *ℤ value_at t point))
rest_value d f t point =
    value_at-sum_of f (multiple_of (negsuc 0) (multiple_of (pos d) t)) point
    ∙ ap (λ (z : ℤ). value_at f point +ℤ z) (value_at-multiple_of (negsuc 0) (multiple_of (pos d) t) point
    ∙ ap (λ (z : ℤ). negsuc 0 *ℤ z) (value_at-multiple_of (pos d) t point))

moved_value : (f : Form) (z : ℤ) (point : List ℤ) → value_at (record { coefs = f.coefs; constant = f.constant +ℤ z }) point ≡ value_at f point +ℤ z
moved_value f z point = omega (arith, ints)

-- a number within the point stays
get_within : (point behind : List ℤ) (i : ℕ) → i < length point → get_or (point ++ behind) i (pos 0) ≡ get_or point i (pos 0)
get_within [] behind i below = absurd (omega arith)
get_within (x ∷ point) behind zero below = refl
get_within (x ∷ point) behind (suc i) below = get_within point behind i (omega arith)

unknown_stays : (room columns : ℕ) (point behind : List ℤ) → columns < room → columns < length point
    → value_at (variable_form room columns) (point ++ behind) ≡ value_at (variable_form room columns) point
unknown_stays room columns point behind below within =
    value_at-variable_form room columns (point ++ behind) below ∙ get_within point behind columns within
    ∙ sym (value_at-variable_form room columns point below)

three : (P : Row → Type 0) (a b c : Row) → All P (a ∷ b ∷ c ∷ []) → P a × P b × P c
three P a b c all =
    let others = All-tail P a (b ∷ c ∷ []) all in
    (All-head P a (b ∷ c ∷ []) all, All-head P b (c ∷ []) others, All-head P c [] (All-tail P b (c ∷ []) others))

all_three : (P : Row → Type 0) (a b c : Row) → P a → P b → P c → All P (a ∷ b ∷ c ∷ [])
all_three P a b c first second third = All-cons P a (b ∷ c ∷ []) first (All-cons P b (c ∷ []) second (All-cons P c [] third (All-nil P)))

module _ (room d : ℕ) (f : Form) (v : ℤ) (some : 1 ≤ d) (state : State) (below : state.columns < room) where
  abbrev quotient : Form
  quotient = variable_form room state.columns

  abbrev rest : Form
  rest = difference_of f (multiple_of (pos d) (variable_form room state.columns))

  abbrev pair : Parts
  pair = parts (variable_form room state.columns) (difference_of f (multiple_of (pos d) (variable_form room state.columns)))

  parts_have : (point : List ℤ) (x : ℤ) → HasValue point f v → HasValue point quotient x → (x ≡ int_div v (pos d))
      → HaveParts v d point pair
  parts_have point x has is equal = record {
    quotient = λ behind. is behind ∙ equal;
    rest = λ behind. rest_is v (value_at rest (point ++ behind)) d some
        (rest_value d f quotient (point ++ behind)
        ∙ ap (λ (z : ℤ). z +ℤ (negsuc 0 *ℤ (pos d *ℤ value_at quotient (point ++ behind)))) (has behind)
        ∙ ap (λ (z : ℤ). v +ℤ (negsuc 0 *ℤ (pos d *ℤ z))) (is behind ∙ equal));
  }

  -- ---- each way that arrives has them

  one_way : (rows : List Row)
      → ((point : List ℤ) → value_at f point ≡ v → All (Holds point) rows → value_at quotient point ≡ int_div v (pos d))
      → EachArrives (λ path. (point : List ℤ) → IsPoint point path.state → IsPoint point state × (HasValue point f v → HaveParts v d point path.value))
      (all_joined rows pair (with_column state))
  one_way rows pins =
      each_changed _ _ (all_joined rows pair (with_column state)) (λ path i point at.
      let u = i point at in
      let many : suc state.columns ≤ length point = u.0.room in (
        record { room = omega (arith, many); holds = u.0.holds },
        λ has.
            subst (HaveParts v d point) (sym u.2) (parts_have point (value_at quotient point) has
            (λ behind. unknown_stays room state.columns point behind below (omega (arith, many)))
            (pins point (has_here point f v has) u.1)),
      ))
      (all_joined_joins pair rows (with_column state)).sound

  abbrev low : Form
  low = record { coefs = rest.coefs; constant = rest.constant +ℤ neg_ℤ (pos d) }

  abbrev high : Form
  high = record { coefs = rest.coefs; constant = rest.constant +ℤ pos d }

  left_at : (point : List ℤ) → value_at f point ≡ v → value_at rest point ≡ v +ℤ (negsuc 0 *ℤ (pos d *ℤ value_at quotient point))
  left_at point is = rest_value d f quotient point ∙ ap (λ (z : ℤ). z +ℤ (negsuc 0 *ℤ (pos d *ℤ value_at quotient point))) is

  pins_from_zero : (point : List ℤ) → value_at f point ≡ v → All (Holds point) (rows_from_zero (pos d) f rest) → value_at quotient point ≡ int_div v (pos d)
  pins_from_zero point is hold =
      let rows = three (Holds point) (sign_row NotNegative f) (sign_row NotNegative rest) (sign_row Negative low) hold in
      let at_least : pos 0 ≤ℤ v = subst (λ (z : ℤ). pos 0 ≤ℤ z) is ((sign_row-holds NotNegative f point).0 rows.0) in
      let from_zero : pos 0 ≤ℤ value_at rest point = (sign_row-holds NotNegative rest point).0 rows.1 in
      let bound : (value_at rest point +ℤ neg_ℤ (pos d)) <ℤ pos 0 =
      subst (λ (z : ℤ). z <ℤ pos 0) (moved_value rest (neg_ℤ (pos d)) point) ((sign_row-holds Negative low point).0 rows.2) in
      (from_zero_is v (value_at quotient point) (value_at rest point) d some (left_at point is) at_least from_zero bound).0

  pins_below_zero : (point : List ℤ) → value_at f point ≡ v → All (Holds point) (rows_below_zero (pos d) f rest) → value_at quotient point ≡ int_div v (pos d)
  pins_below_zero point is hold =
      let rows = three (Holds point) (sign_row Negative f) (sign_row NotPositive rest) (sign_row Positive high) hold in
      let under : v <ℤ pos 0 = subst (λ (z : ℤ). z <ℤ pos 0) is ((sign_row-holds Negative f point).0 rows.0) in
      let to_zero : value_at rest point ≤ℤ pos 0 = (sign_row-holds NotPositive rest point).0 rows.1 in
      let bound : pos 0 <ℤ (value_at rest point +ℤ pos d) =
      subst (λ (z : ℤ). pos 0 <ℤ z) (moved_value rest (pos d) point) ((sign_row-holds Positive high point).0 rows.2) in
      (below_zero_is v (value_at quotient point) (value_at rest point) d some (left_at point is) under to_zero bound).0

  -- ---- from a whole point some way arrives

  module _ (point : List ℤ) (at : IsWholePoint point state) (has : HasValue point f v) where
    abbrev longer : List ℤ
    longer = point ++ int_div v (pos d) ∷ []

    further : Extends point (point ++ int_div v (pos d) ∷ [])
    further = extends_by point (int_div v (pos d) ∷ [])

    quotient_has : HasValue (point ++ int_div v (pos d) ∷ []) quotient (int_div v (pos d))
    quotient_has = unknown_has point room state.columns (int_div v (pos d)) at.exact below

    dividend_has : HasValue (point ++ int_div v (pos d) ∷ []) f v
    dividend_has = has_longer point longer f v further has

    whole_point : IsWholePoint (point ++ int_div v (pos d) ∷ []) (with_column state)
    whole_point = record {
      exact = length-append point (int_div v (pos d) ∷ []) ∙ omega (arith, at.exact);
      holds = hold_longer point longer state.rows further at.holds;
    }

    left : (behind : List ℤ) → value_at rest (longer ++ behind) ≡ v +ℤ (negsuc 0 *ℤ (pos d *ℤ int_div v (pos d)))
    left behind =
        rest_value d f quotient (longer ++ behind)
        ∙ ap (λ (z : ℤ). z +ℤ (negsuc 0 *ℤ (pos d *ℤ value_at quotient (longer ++ behind)))) (dividend_has behind)
        ∙ ap (λ (z : ℤ). v +ℤ (negsuc 0 *ℤ (pos d *ℤ z))) (quotient_has behind)

    found : (rows : List Row) → All (HoldsBefore longer) rows
        → SomeArrives (ReachedFrom point (HaveParts v d)) (all_joined rows pair (with_column state))
    found rows hold =
        some_changed _ (ReachedFrom point (HaveParts v d)) (all_joined rows pair (with_column state))
        (λ path i. record {
          longer = longer;
          extends = further;
          whole = i.0;
          has = subst (HaveParts v d longer) (sym i.1) (parts_have longer (int_div v (pos d)) dividend_has quotient_has refl);
        })
        ((all_joined_joins pair rows (with_column state)).complete longer whole_point hold)

    from_zero_hold : pos 0 ≤ℤ v → All (HoldsBefore longer) (rows_from_zero (pos d) f rest)
    from_zero_hold sign =
        all_three (HoldsBefore longer) (sign_row NotNegative f) (sign_row NotNegative rest) (sign_row Negative low)
        (λ behind. (sign_row-holds NotNegative f (longer ++ behind)).1 (subst (λ (z : ℤ). pos 0 ≤ℤ z) (sym (dividend_has behind)) sign))
        (λ behind. (sign_row-holds NotNegative rest (longer ++ behind)).1 (from_zero_bounds v _ d some (left behind) sign).0)
        (λ behind. (sign_row-holds Negative low (longer ++ behind)).1
        (subst (λ (z : ℤ). z <ℤ pos 0) (sym (moved_value rest (neg_ℤ (pos d)) (longer ++ behind))) (from_zero_bounds v _ d some (left behind) sign).1))

    below_zero_hold : v <ℤ pos 0 → All (HoldsBefore longer) (rows_below_zero (pos d) f rest)
    below_zero_hold sign =
        all_three (HoldsBefore longer) (sign_row Negative f) (sign_row NotPositive rest) (sign_row Positive high)
        (λ behind. (sign_row-holds Negative f (longer ++ behind)).1 (subst (λ (z : ℤ). z <ℤ pos 0) (sym (dividend_has behind)) sign))
        (λ behind. (sign_row-holds NotPositive rest (longer ++ behind)).1 (below_zero_bounds v _ d some (left behind) sign).0)
        (λ behind. (sign_row-holds Positive high (longer ++ behind)).1
        (subst (λ (z : ℤ). pos 0 <ℤ z) (sym (moved_value rest (pos d) (longer ++ behind))) (below_zero_bounds v _ d some (left behind) sign).1))

    by_sign : (pos 0 ≤ℤ v) ⊎ (v <ℤ pos 0) → SomeArrives (ReachedFrom point (HaveParts v d)) (two_ways (pos d) f quotient rest (with_column state))
    by_sign (inl sign) =
        some_left _ (all_joined (rows_from_zero (pos d) f rest) pair (with_column state)) (all_joined (rows_below_zero (pos d) f rest) pair (with_column state))
        (found (rows_from_zero (pos d) f rest) (from_zero_hold sign))
    by_sign (inr sign) =
        some_right _ (all_joined (rows_from_zero (pos d) f rest) pair (with_column state))
        (all_joined (rows_below_zero (pos d) f rest) pair (with_column state))
        (found (rows_below_zero (pos d) f rest) (below_zero_hold sign))

  sign_of : (z : ℤ) → (pos 0 ≤ℤ z) ⊎ (z <ℤ pos 0)
  sign_of (pos n) = inl (omega (arith, ints))
  sign_of (negsuc n) = inr (omega (arith, ints))

  pub divided_splits : Splits state (λ point. HasValue point f v) (HaveParts v d) (divided_by room true (pos d) f state)
  divided_splits = record {
    sound = each_made _ (with_column state) _ (multiple_of (pos d) quotient) (each_made _ (with_column state) _ rest
        (each_append _ (all_joined (rows_from_zero (pos d) f rest) pair (with_column state))
        (all_joined (rows_below_zero (pos d) f rest) pair (with_column state))
        (one_way (rows_from_zero (pos d) f rest) pins_from_zero) (one_way (rows_below_zero (pos d) f rest) pins_below_zero)));
    complete = λ point at has. some_made _ (with_column state) _ (multiple_of (pos d) quotient) (some_made _ (with_column state) _ rest
        (by_sign point at has (sign_of v)));
  }

-- ---- constants are decided, and 1 divides without rest

by_room : (room d : ℕ) (f : Form) (v : ℤ) → 1 ≤ d → (state : State) (test : Bool) → ltb state.columns room ≡ test
    → Splits state (λ point. HasValue point f v) (HaveParts v d) (divided_by room test (pos d) f state)
by_room room d f v some state true is = divided_splits room d f v some state (grind (arith, nat_tests))
by_room room d f v some state false is = stops_splits state (λ point. HasValue point f v) (HaveParts v d) _

by_form : (room d : ℕ) (f : Form) (v : ℤ) → 1 ≤ d → (state : State) (constant one : Bool) → is_constant f ≡ constant → eqb d 1 ≡ one
    → Splits state (λ point. HasValue point f v) (HaveParts v d) (parted_by room constant one (pos d) f state)
by_form room d f v some state true one none is =
    gives_splits state (λ point. HasValue point f v) (HaveParts v d) _ (λ point has.
    let equal : f.constant ≡ v = sym (value_at-constant f point none) ∙ has_here point f v has in
    record {
      quotient = constant_has point room (int_div f.constant (pos d)) (int_div v (pos d)) (ap (λ (z : ℤ). int_div z (pos d)) equal);
      rest = constant_has point room (int_rem f.constant (pos d)) (int_rem v (pos d)) (ap (λ (z : ℤ). int_rem z (pos d)) equal);
    })
by_form room d f v some state false true none is =
    gives_splits state (λ point. HasValue point f v) (HaveParts v d) _ (λ point has.
    subst (λ (k : ℕ). HaveParts v k point (parts f (constant_form room (pos 0)))) (sym (eqb-true d 1 is)) (record {
      quotient = λ behind. has behind ∙ (by_one v).0;
      rest = constant_has point room (pos 0) (int_rem v (pos 1)) (by_one v).1;
    }))
by_form room d f v some state false false none is = by_room room d f v some state (ltb state.columns room) refl

pub parted_splits : (room d : ℕ) (f : Form) (v : ℤ) (state : State) → 1 ≤ d
    → Splits state (λ point. HasValue point f v) (HaveParts v d) (parted room (pos d) f state)
parted_splits room d f v state some = by_form room d f v some state (is_constant f) (eqb d 1) refl refl
