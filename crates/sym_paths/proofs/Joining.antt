-- Rows join as the code finds them, with a variable or decided; and what a division comes to then.
use Rattle.std.proofs.Common.{◌≡◌, ◌↔◌, ℕ, suc, ◌+◌, ◌<◌, Bool, true, false, List, [], ◌∷◌, ◌++◌, length, map, drop, replicate, get_or, Option, Some, refl, sym, ap, subst, ◌∙◌, append-nil, arith}
use Rattle.std.specs.Prelude.{ℤ, pos, ◌*ℤ◌}
use Rattle.std.proofs.lemmas.Int.{ints}
use Rattle.std.proofs.lemmas.List.{length-replicate, get_or-set_same, length-set, drop_more}
use Rattle.std.proofs.lemmas.List.Elements.{All-get_or}
use Rattle.lin_terms.specs.declared.form.Form.{Form}
use Rattle.lin_terms.specs.declared.row.Row.{Row}
use Rattle.lin_terms.specs.Bounds.{FitsForm}
use Rattle.lin_terms.specs.Form.{are_zeros, multiple_of, difference_of, variable_form}
use Rattle.lin_terms.specs.Makes.{IsFittingForm, fitting}
use Rattle.lin_terms.specs.Row.{Holds, IsDecided}
use Rattle.lin_terms.specs.Sign.{tight_fitting}
use Rattle.lin_terms.specs.Vectors.{only_at}
use Rattle.lin_terms.proofs.Laws.{fitting_fits, fitting_is_wanted, get_or-scaled, length-scaled}
use Rattle.sym_paths.specs.Walk.{State, Walk, gives, onward}
use Rattle.sym_paths.specs.Rows.{holds_alone, with_row, decided, joining, joined_tight, joined, all_joined, judged, made}
use Rattle.sym_paths.specs.Symbolic.{rows_from_zero, rows_below_zero, Parts, parts, two_ways, divided_by}
use Rattle.sym_paths.specs.Arrivals.{fresh}
use Rattle.sym_paths.proofs.Rows.{alone_holds}
use Rattle.sym_paths.proofs.Onward.{onward_append, onward_same, onward_assoc}

same_truth : (a b : Bool) (P : Type 0) → (a ≡ true) ↔ P → (b ≡ true) ↔ P → a ≡ b
same_truth true true P f g = refl
same_truth true false P f g = sym (g.1 (f.0 refl))
same_truth false true P f g = f.1 (g.0 refl)
same_truth false false P f g = refl

module _ {A : Type 0} (row : Row) (value : A) (state : State) where
  pub joining_kept : are_zeros row.coefs ≡ false → joining (are_zeros row.coefs) row value state ≡ gives value (with_row state row)
  joining_kept some = ap (λ (t : Bool). joining t row value state) some

  pub joining_decided : (answer : Bool) → IsDecided row answer → joining (are_zeros row.coefs) row value state ≡ decided answer value state
  joining_decided answer is =
      ap (λ (t : Bool). joining t row value state) is.no_variable
      ∙ ap (λ (t : Bool). decided t value state)
      (same_truth (holds_alone row) answer (Holds [] row) (alone_holds row [] is.no_variable) (is.truth []))

-- ---- several rows, of which the first is made tight

module _ {A : Type 0} (row : Row) (rows : List Row) (value : A) (state : State) where
  abbrev then_others : Walk (Unit {0}) → Walk A
  then_others walk = onward walk (λ _ next. all_joined rows value next)

  judged_tight : (o : Option Row) → tight_fitting row ≡ o → all_joined (row ∷ rows) value state ≡ then_others (joined_tight o (tt {0}) state)
  judged_tight o is = ap (λ (t : Option Row). then_others (joined_tight t (tt {0}) state)) is

  pub joins_kept : (tight : Row) → tight_fitting row ≡ Some tight → are_zeros tight.coefs ≡ false
      → all_joined (row ∷ rows) value state ≡ all_joined rows value (with_row state tight)
  joins_kept tight is some =
      judged_tight (Some tight) is ∙ ap then_others (joining_kept tight (tt {0}) state some)
      ∙ append-nil (all_joined rows value (with_row state tight))

  pub joins_true : (tight : Row) → tight_fitting row ≡ Some tight → IsDecided tight true
      → all_joined (row ∷ rows) value state ≡ all_joined rows value state
  joins_true tight is holds =
      judged_tight (Some tight) is ∙ ap then_others (joining_decided tight (tt {0}) state true holds) ∙ append-nil (all_joined rows value state)

  pub joins_never : (tight : Row) → tight_fitting row ≡ Some tight → IsDecided tight false → all_joined (row ∷ rows) value state ≡ []
  joins_never tight is fails = judged_tight (Some tight) is ∙ ap then_others (joining_decided tight (tt {0}) state false fails)

-- ---- what is taken of the value that a walk arrives at

module _ {A B : Type 0} (f : A → B) where
  pub all_joined_part : (rows : List Row) (value : A) (state : State)
      → onward (all_joined rows value state) (λ v last. gives (f v) last) ≡ all_joined rows (f value) state
  all_joined_part [] value state = refl
  all_joined_part (row ∷ rows) value state =
      onward_assoc (joined row (tt {0}) state) (λ _ next. all_joined rows value next) (λ v last. gives (f v) last)
      ∙ onward_same (joined row (tt {0}) state) (λ _ next. onward (all_joined rows value next) (λ v last. gives (f v) last))
      (λ _ next. all_joined rows (f value) next) (λ _ next. all_joined_part rows value next)

  pub both_joined_part : (first second : List Row) (value : A) (state : State)
      → onward (all_joined first value state ++ all_joined second value state) (λ v last. gives (f v) last)
      ≡ all_joined first (f value) state ++ all_joined second (f value) state
  both_joined_part first second value state =
      onward_append (all_joined first value state) (all_joined second value state) (λ v last. gives (f v) last)
      ∙ ap (λ (w : Walk B). w ++ onward (all_joined second value state) (λ v last. gives (f v) last)) (all_joined_part first value state)
      ∙ ap (λ (w : Walk B). all_joined first (f value) state ++ w) (all_joined_part second value state)

-- ---- a divisor whose multiple of an unknown is a form

times_one : (z : ℤ) → z *ℤ pos 1 ≡ z
times_one z = omega (arith, ints)

pub divisor_fits : (room column : ℕ) (divisor : ℤ) (whole : Form) → column < room
    → fitting (multiple_of divisor (variable_form room column)) ≡ Some whole → FitsForm divisor
divisor_fits room column divisor whole below is =
    let fits : IsFittingForm whole = fitting_fits (multiple_of divisor (variable_form room column)) whole is in
    let same : whole ≡ multiple_of divisor (variable_form room column) = fitting_is_wanted (multiple_of divisor (variable_form room column)) whole is in
    let long : length (replicate room (pos 0)) ≡ room = length-replicate room (pos 0) in
    let within : column < length whole.coefs =
    subst (λ (n : ℕ). column < n)
    (sym (ap (λ (form : Form). length form.coefs) same ∙ length-scaled divisor (only_at room column (pos 1))
    ∙ length-set (replicate room (pos 0)) column (pos 1) ∙ long)) below in
    let entry : get_or whole.coefs column (pos 0) ≡ divisor *ℤ pos 1 =
    ap (λ (form : Form). get_or form.coefs column (pos 0)) same ∙ get_or-scaled divisor (only_at room column (pos 1)) column
    ∙ ap (λ (z : ℤ). divisor *ℤ z) (get_or-set_same (replicate room (pos 0)) column (pos 1) (pos 0) (omega (arith, long, below))) in
    subst FitsForm (entry ∙ times_one divisor) (All-get_or FitsForm whole.coefs column (pos 0) within fits.coefs)

-- ---- the next of the rows that are made of a list

module _ {X A : Type 0} (f : X → Row) (all : List X) (i : ℕ) (item : X) (below : i < length all) (is : item ≡ get_or all i item)
    (value : A) (state : State) (tight : Row) (fits : tight_fitting (f item) ≡ Some tight) where
  next_first : map f (drop i all) ≡ f item ∷ map f (drop (i + 1) all)
  next_first = ap (map f) (drop_more all i item below) ∙ ap (λ (x : X). f x ∷ map f (drop (i + 1) all)) (sym is)

  next_joins : all_joined (map f (drop i all)) value state ≡ all_joined (f item ∷ map f (drop (i + 1) all)) value state
  next_joins = ap (λ (rows : List Row). all_joined rows value state) next_first

  pub next_kept : are_zeros tight.coefs ≡ false
      → all_joined (map f (drop (i + 1) all)) value (with_row state tight) ≡ all_joined (map f (drop i all)) value state
  next_kept some = sym (next_joins ∙ joins_kept (f item) (map f (drop (i + 1) all)) value state tight fits some)

  pub next_true : IsDecided tight true → all_joined (map f (drop (i + 1) all)) value state ≡ all_joined (map f (drop i all)) value state
  next_true holds = sym (next_joins ∙ joins_true (f item) (map f (drop (i + 1) all)) value state tight fits holds)

  pub next_never : IsDecided tight false → [] ≡ all_joined (map f (drop i all)) value state
  next_never fails = sym (next_joins ∙ joins_never (f item) (map f (drop (i + 1) all)) value state tight fits fails)

pub left_joins : {X A : Type 0} (f : X → Row) (all : List X) (i : ℕ) (value : A) (columns : ℕ) {rows other : List Row} → rows ≡ other
    → all_joined (map f (drop i all)) value (record { rows = rows; columns = columns })
    ≡ all_joined (map f (drop i all)) value (record { rows = other; columns = columns })
left_joins {A} f all i value columns same = ap (λ (rs : List Row). all_joined (map f (drop i all)) value (record { rows = rs; columns = columns })) same

pub both_same : {X : Type 0} {first second third fourth : List X} → first ≡ second → third ≡ fourth → first ++ third ≡ second ++ fourth
both_same {X} {first} {second} {third} {fourth} front back =
    ap (λ (xs : List X). xs ++ third) front ∙ ap (λ (xs : List X). second ++ xs) back

-- ---- divisions

module _ (divisor : ℤ) (dividend : Form) (f : Parts → Form) where
  abbrev part_taken : Parts → State → Walk Form
  part_taken both last = gives (f both) last

  module _ (unknown whole : Form) (state : State) where
    abbrev after_left : Option Form → Walk Form
    after_left o = onward (onward (judged o state) (λ left last. two_ways divisor dividend unknown left last)) part_taken

    pub left_made : (left : Form) → fitting (difference_of dividend whole) ≡ Some left
        → all_joined (rows_from_zero divisor dividend left) (f (parts unknown left)) state
        ++ all_joined (rows_below_zero divisor dividend left) (f (parts unknown left)) state
        ≡ onward (onward (made (difference_of dividend whole) state) (λ left last. two_ways divisor dividend unknown left last)) part_taken
    left_made left is =
        let taken = both_joined_part f (rows_from_zero divisor dividend left) (rows_below_zero divisor dividend left) (parts unknown left) state in
        sym (ap after_left is ∙ ap (λ (w : Walk Parts). onward w part_taken) (append-nil (two_ways divisor dividend unknown left state)) ∙ taken)

  module _ (room columns : ℕ) where
    abbrev after_whole : Form → State → Walk Parts
    after_whole whole next = onward (made (difference_of dividend whole) next)
        (λ left last. two_ways divisor dividend (variable_form room columns) left last)

    abbrev judged_whole : Option Form → Walk Form
    judged_whole o = onward (onward (judged o (fresh (suc columns))) after_whole) part_taken

    pub whole_made : (next : ℕ) → next ≡ suc columns → (whole : Form) → fitting (multiple_of divisor (variable_form room columns)) ≡ Some whole
        → onward (after_whole whole (fresh next)) part_taken ≡ onward (divided_by room true divisor dividend (fresh columns)) part_taken
    whole_made next more whole is =
        ap (λ (n : ℕ). onward (after_whole whole (fresh n)) part_taken) more
        ∙ sym (ap judged_whole is ∙ ap (λ (w : Walk Parts). onward w part_taken) (append-nil (after_whole whole (fresh (suc columns)))))
