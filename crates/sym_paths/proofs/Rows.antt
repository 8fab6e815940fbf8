-- Walks that rows join arrive where the rows hold; walks by signs arrive by the sign that a form's value has.
use Rattle.std.proofs.Common.{◌≡◌, ◌↔◌, suc, Bool, true, false, cond, eqb, ◌&&◌, List, [], ◌∷◌, ◌++◌, All, Option, Some, None, refl, sym, ap, subst, ◌∙◌, inl, inr, true≢false, arith}
use Rattle.std.specs.Prelude.{ℤ, pos, negsuc, ◌⊎◌, int_le, MatchOption, ◌≤ℤ◌, T, unsigned_abs}
use Rattle.std.proofs.lemmas.Int.{ints}
use Rattle.std.proofs.lemmas.Bool.{eqb-true}
use Rattle.std.proofs.lemmas.List.Elements.{All-push, All-pop, All-nil, All-cons, All-head, All-tail}
use Rattle.lin_terms.specs.declared.form.Form.{Form}
use Rattle.lin_terms.specs.declared.row.Row.{Row}
use Rattle.lin_terms.specs.declared.sign.Sign.{Sign}
use Rattle.lin_terms.specs.Bounds.{fits_form, fit_form}
use Rattle.lin_terms.specs.Form.{value_at, are_zeros}
use Rattle.lin_terms.specs.Makes.{fitting}
use Rattle.lin_terms.specs.Row.{Allows, Holds}
use Rattle.lin_terms.specs.Sign.{HasSign, sign_row, tight_fitting}
use Rattle.lin_terms.specs.Tight.{tight_of}
use Rattle.lin_terms.proofs.Laws.{tight_keeps, sign_row-holds, value_at-constant, fitting_is_wanted}
use Rattle.sym_paths.specs.Walk.{State}
use Rattle.sym_paths.specs.Rows.{holds_alone, decided, joining, joined_tight, joined, all_joined, split, judged, made}
use Rattle.sym_paths.specs.Points.{HasValue, HoldsBefore, IsPoint, IsWholePoint, EachArrives, SomeArrives, ReachedFrom, Splits, Joins}
use Rattle.sym_paths.proofs.Walks.{each_append, some_left, some_right, each_changed, some_changed, onward_each, onward_some, extends_itself, gives_splits, stops_splits}
use Rattle.sym_paths.proofs.Points.{has_here}

-- ---- a row without variables holds everywhere or nowhere

abbrev form_of_row : Row → Form
form_of_row row = record { coefs = row.coefs; constant = row.constant }

pub yes_is : (t : Bool) → T t → t ≡ true
yes_is true h = refl
yes_is false h = absurd h

zero_size : (z : ℤ) → eqb (unsigned_abs z) 0 ≡ true → z ≡ pos 0
zero_size (pos n) h = ap pos (eqb-true n 0 h)
zero_size (negsuc n) h = let none = eqb-true (suc n) 0 h in absurd (omega (arith, none))

alone_allows : (equality : Bool) (constant value : ℤ) → value ≡ constant
    → (cond equality (eqb (unsigned_abs constant) 0) (int_le (pos 0) constant) ≡ true) ↔ Allows equality value
alone_allows true constant value is =
    (λ h. is ∙ zero_size constant h, λ h. subst (λ (z : ℤ). eqb (unsigned_abs z) 0 ≡ true) (sym (sym is ∙ h)) refl)
alone_allows false (pos n) value is =
    (λ h. omega (arith, ints), λ h. let zero_first : pos 0 ≤ℤ pos n = omega (arith, ints) in yes_is (int_le (pos 0) (pos n)) zero_first.le)
alone_allows false (negsuc n) value is = (λ h. absurd (true≢false (sym h)), λ h. absurd (omega (arith, ints)))

pub alone_holds : (row : Row) (point : List ℤ) → are_zeros row.coefs ≡ true → (holds_alone row ≡ true) ↔ Holds point row
alone_holds row point none =
    alone_allows row.equality row.constant (value_at (form_of_row row) point) (value_at-constant (form_of_row row) point none)

-- ---- rows that join

some_is_some : {X : Type 0} {x : X} → Some x ≡ None → ⊥
some_is_some is = subst (λ o. MatchOption o ⊥ (λ _. Unit {0})) is tt

module _ {A : Type 0} (state : State) (value : A) (row : Row) where
  decided_joins : (answer : Bool) (tight : Row) → are_zeros tight.coefs ≡ true → holds_alone tight ≡ answer
      → ((point : List ℤ) → Holds point tight ↔ Holds point row)
      → Joins state (λ point. Holds point row) (λ point. HoldsBefore point row) value (decided answer value state)
  decided_joins true tight none is same = record {
    sound = (λ point at. (at, (same point).0 ((alone_holds tight point none).0 is), refl), tt);
    complete = λ point at holds. inl (at, refl);
  }
  decided_joins false tight none is same = record {
    sound = tt;
    complete = λ point at holds.
        let yes : holds_alone tight ≡ true = (alone_holds tight (point ++ []) none).1 ((same (point ++ [])).1 (holds [])) in cc;
  }

  joining_joins : (without : Bool) (tight : Row) → are_zeros tight.coefs ≡ without → ((point : List ℤ) → Holds point tight ↔ Holds point row)
      → Joins state (λ point. Holds point row) (λ point. HoldsBefore point row) value (joining without tight value state)
  joining_joins true tight none same = decided_joins (holds_alone tight) tight none refl same
  joining_joins false tight some same = record {
    sound = (
      λ point at.
          let parts = All-pop (Holds point) (state.rows ++ tight ∷ []) state.rows (Some tight) refl at.holds in
          (record { room = at.room; holds = parts.0 }, (same point).0 parts.1, refl),
      tt,
    );
    complete = λ point at holds. inl (
      record {
        exact = at.exact;
        holds = All-push (HoldsBefore point) state.rows tight at.holds (λ behind. (same (point ++ behind)).1 (holds behind));
      },
      refl,
    );
  }

  tight_joins : (o : Option Row) → o ≡ tight_fitting row
      → Joins state (λ point. Holds point row) (λ point. HoldsBefore point row) value (joined_tight o value state)
  tight_joins None is = record { sound = tt; complete = λ point at holds. tt }
  tight_joins (Some tight) is =
      joining_joins (are_zeros tight.coefs) tight refl (same_of (fits_form row.constant && fit_form row.coefs) is)
    where
      by : tight ≡ tight_of row → (point : List ℤ) → Holds point tight ↔ Holds point row
      by equal point = subst (λ (t : Row). Holds point t ↔ Holds point row) (sym equal) (tight_keeps row point)

      same_of : (fits : Bool) → Some tight ≡ cond fits (Some (tight_of row)) None → (point : List ℤ) → Holds point tight ↔ Holds point row
      same_of true is = let equal : tight ≡ tight_of row = cc in by equal
      same_of false is = let nothing : Some tight ≡ None = is in absurd (some_is_some nothing)

  pub joined_joins : Joins state (λ point. Holds point row) (λ point. HoldsBefore point row) value (joined row value state)
  joined_joins = tight_joins (tight_fitting row) refl

-- several rows
pub all_joined_joins : {A : Type 0} (value : A) (rows : List Row) (state : State)
    → Joins state (λ point. All (Holds point) rows) (λ point. All (HoldsBefore point) rows) value (all_joined rows value state)
all_joined_joins value [] state = record {
  sound = (λ point at. (at, All-nil (Holds point), refl), tt);
  complete = λ point at holds. inl (at, refl);
}
all_joined_joins value (row ∷ rows) state =
    let one = joined_joins state (tt {0}) row in
    record {
      sound = onward_each (λ _ next. all_joined rows value next) _ _ (joined row (tt {0}) state)
          (λ path i. each_changed _ _ (all_joined rows value path.state)
          (λ q j point at. let u = j point at in let v = i point u.0 in (v.0, All-cons (Holds point) row rows v.1 u.1, u.2))
          (all_joined_joins value rows path.state).sound) one.sound;
      complete = λ point at holds. onward_some (λ _ next. all_joined rows value next) _ _ (joined row (tt {0}) state)
          (λ path i. (all_joined_joins value rows path.state).complete point i.0 (All-tail (HoldsBefore point) row rows holds))
          (one.complete point at (All-head (HoldsBefore point) row rows holds));
    }

-- ---- walks by signs

-- each alternative whose sign the value has gives G, and some alternative has it
abbrev pub EachSign : {A : Type 0} → List (Sign × A) → ℤ → (A → Type 0) → Type 0
EachSign [] value G = Unit {0}
EachSign (option ∷ options) value G = (HasSign option.0 value → G option.1) × EachSign options value G

abbrev pub SomeSign : {A : Type 0} → List (Sign × A) → ℤ → Type 0
SomeSign [] value = ⊥
SomeSign (option ∷ options) value = HasSign option.0 value ⊎ SomeSign options value

module _ {A : Type 0} (state : State) (P : List ℤ → Type 0) (G : List ℤ → A → Type 0) (form : Form) (value : ℤ)
    (has : (point : List ℤ) → P point → HasValue point form value) where
  split_sound : (options : List (Sign × A)) → ((point : List ℤ) → P point → EachSign options value (G point))
      → EachArrives (λ path. (point : List ℤ) → IsPoint point path.state → IsPoint point state × (P point → G point path.value)) (split options form state)
  split_sound [] each = tt
  split_sound (option ∷ options) each =
      each_append _ (joined (sign_row option.0 form) option.1 state) (split options form state)
      (each_changed _ _ (joined (sign_row option.0 form) option.1 state)
      (λ path j point at. let u = j point at in (
        u.0,
        λ p.
            let sign = (sign_row-holds option.0 form point).0 u.1 in
            let sign' : HasSign option.0 value = subst (HasSign option.0) (has_here point form value (has point p)) sign in
            subst (λ (b : A). G point b) (sym u.2) ((each point p).0 sign'),
      ))
      (joined_joins state option.1 (sign_row option.0 form)).sound)
      (split_sound options (λ point p. (each point p).1))

  split_complete : (options : List (Sign × A)) (point : List ℤ) → EachSign options value (G point) → SomeSign options value → IsWholePoint point state → P point
      → SomeArrives (ReachedFrom point G) (split options form state)
  split_complete [] point each some at p = absurd some
  split_complete (option ∷ options) point each (inl sign) at p =
      some_left _ (joined (sign_row option.0 form) option.1 state) (split options form state)
      (some_changed _ (ReachedFrom point G) (joined (sign_row option.0 form) option.1 state)
      (λ path i. record { longer = point; extends = extends_itself point; whole = i.0; has = subst (λ (b : A). G point b) (sym i.1) (each.0 sign) })
      ((joined_joins state option.1 (sign_row option.0 form)).complete point at (λ behind.
      (sign_row-holds option.0 form (point ++ behind)).1 (subst (HasSign option.0) (sym (has point p behind)) sign))))
  split_complete (option ∷ options) point each (inr some) at p =
      some_right _ (joined (sign_row option.0 form) option.1 state) (split options form state) (split_complete options point each.1 some at p)

  pub split_splits : (options : List (Sign × A)) → ((point : List ℤ) → P point → EachSign options value (G point)) → SomeSign options value
      → Splits state P G (split options form state)
  split_splits options each some = record {
    sound = split_sound options each;
    complete = λ point at p. split_complete options point (each point p) some at p;
  }

-- ---- forms that are judged

pub judged_splits : (state : State) (P : List ℤ → Type 0) (G : List ℤ → Form → Type 0) (wanted : Form) (o : Option Form) → o ≡ fitting wanted
    → ((point : List ℤ) → P point → G point wanted) → Splits state P G (judged o state)
judged_splits state P G wanted None is f = stops_splits state P G _
judged_splits state P G wanted (Some form) is f =
    gives_splits state P G form (λ point p. subst (λ (t : Form). G point t) (sym (fitting_is_wanted wanted form (sym is))) (f point p))

pub made_splits : (state : State) (P : List ℤ → Type 0) (G : List ℤ → Form → Type 0) (wanted : Form) → ((point : List ℤ) → P point → G point wanted)
    → Splits state P G (made wanted state)
made_splits state P G wanted f = judged_splits state P G wanted (fitting wanted) refl f
