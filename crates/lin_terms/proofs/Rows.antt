-- Rows: what they say at points, of signs, and where no variable stands in them.
use Rattle.std.proofs.Common.{◌≡◌, ◌↔◌, Bool, true, false, List, IsTrue, arith, refl, sym, ◌∙◌, ap, subst, cond, eqb, ◌&&◌, Some, None}
use Rattle.std.specs.Prelude.{ℤ, pos, unsigned_abs, ◌+ℤ◌, ◌*ℤ◌}
use Rattle.std.proofs.lemmas.Int.{ints}
use Rattle.lin_terms.specs.declared.form.Form.{Form}
use Rattle.lin_terms.specs.declared.row.Row.{Row}
use Rattle.lin_terms.specs.declared.sign.Sign.{Sign}
use Rattle.lin_terms.specs.declared.sign.Sign.TheVariants.{Negative, NotPositive, Zero, NotNegative, Positive}
use Rattle.lin_terms.specs.Bounds.{fits_form, fit_form}
use Rattle.lin_terms.specs.Vectors.{dot}
use Rattle.lin_terms.specs.Form.{value_at, are_zeros}
use Rattle.lin_terms.specs.Row.{Allows, Holds, Meets, IsDecided}
use Rattle.lin_terms.specs.Sign.{HasSign, factor_of, offset_of, says_equality, sign_row, fitting_row, tight_fitting}
use Rattle.lin_terms.specs.Tight.{tight_of}
use Rattle.lin_terms.proofs.Ring.{as_dif, same_dif, difs}
use Rattle.lin_terms.proofs.Dots.{dot-scaled, dot-zeros, zero_entries}
use Rattle.lin_terms.proofs.FormLemmas.{zero_entry}
use Rattle.lin_terms.proofs.TightLemmas.{tight_keeps}

over_one : (c : ℤ) → c *ℤ pos 1 ≡ c
over_one c = omega (arith, ints)

-- whole numbers are fractions with the denominator 1
pub whole_is_fraction : (values : List ℤ) (row : Row) → Holds values row ↔ Meets values (pos 1) row
whole_is_fraction values row =
    let P : ℤ → Type 0 = λ c. Allows row.equality (dot row.coefs values +ℤ c) in
    (λ holds. subst P (sym (over_one row.constant)) holds, λ meets. subst P (over_one row.constant) meets)

-- a row without variables
pub decides : (row : Row) (answer : Bool) → are_zeros row.coefs ≡ true → IsTrue answer ↔ Allows row.equality row.constant → IsDecided row answer
decides row answer zeros told = record {
  no_variable = zeros;
  truth = λ values.
      let none : dot row.coefs values ≡ pos 0 = dot-zeros row.coefs values (zero_entries (λ entry. eqb (unsigned_abs entry) 0) zero_entry row.coefs zeros) in
      let e : row.constant ≡ dot row.coefs values +ℤ row.constant = omega (arith, ints) in
      subst (λ z. IsTrue answer ↔ Allows row.equality z) e told;
}

-- ---- the sign that a row says

says_sign : (sign : Sign) (v : ℤ) → Allows (says_equality sign) ((factor_of sign *ℤ v) +ℤ offset_of sign) ↔ HasSign sign v
says_sign Negative v = (λ p. omega (arith, ints), λ p. omega (arith, ints))
says_sign NotPositive v = (λ p. omega (arith, ints), λ p. omega (arith, ints))
says_sign Zero v = (λ p. omega (arith, ints), λ p. omega (arith, ints))
says_sign NotNegative v = (λ p. omega (arith, ints), λ p. omega (arith, ints))
says_sign Positive v = (λ p. omega (arith, ints), λ p. omega (arith, ints))

gathered : (k d c o : ℤ) → (k *ℤ (d +ℤ c)) +ℤ o ≡ (k *ℤ d) +ℤ ((k *ℤ c) +ℤ o)
gathered k d c o = rw (as_dif k, as_dif d, as_dif c, as_dif o) (simp difs (same_dif _ _ _ _ (omega arith)))

pub sign_row-holds : (sign : Sign) (form : Form) (values : List ℤ) → Holds values (sign_row sign form) ↔ HasSign sign (value_at form values)
sign_row-holds sign form values =
    let k : ℤ = factor_of sign in
    let e = gathered k (dot form.coefs values) form.constant (offset_of sign)
    ∙ ap (λ z. z +ℤ ((k *ℤ form.constant) +ℤ offset_of sign)) (sym (dot-scaled k form.coefs values)) in
    subst (λ z. Allows (says_equality sign) z ↔ HasSign sign (value_at form values)) e (says_sign sign (value_at form values))

-- the same of the tight row
pub tight_row-holds : (sign : Sign) (form : Form) (row : Row) → row ≡ tight_of (sign_row sign form)
    → (values : List ℤ) → Holds values row ↔ HasSign sign (value_at form values)
tight_row-holds sign form row is values =
    let kept = subst (λ (r : Row). Holds values r ↔ Holds values (sign_row sign form)) (sym is) (tight_keeps (sign_row sign form) values) in
    let said = sign_row-holds sign form values in
    (λ holds. said.0 (kept.0 holds), λ has. kept.1 (said.1 has))

-- ---- rows that are judged before they are made tight

fits_once : (t : Bool) (row made : Row) → cond t (Some row) None ≡ Some made → cond t (Some (tight_of row)) None ≡ Some (tight_of made)
fits_once true row made e = let same : row ≡ made = cc in ap (λ (r : Row). Some (tight_of r)) same
fits_once false row made e = absurd cc

pub fits_tight : (row made : Row) → fitting_row row ≡ Some made → tight_fitting row ≡ Some (tight_of made)
fits_tight row made e = fits_once (fits_form row.constant && fit_form row.coefs) row made e

same_fitting : (t : Bool) (row made : Row) → cond t (Some row) None ≡ Some made → made ≡ row
same_fitting true row made e = cc
same_fitting false row made e = absurd cc

pub fitting_is : (row made : Row) → fitting_row row ≡ Some made → made ≡ row
fitting_is row made e = same_fitting (fits_form row.constant && fit_form row.coefs) row made e

wide_once : (t : Bool) (row : Row) → cond t (Some row) None ≡ None → cond t (Some (tight_of row)) None ≡ None
wide_once true row e = absurd cc
wide_once false row e = refl

pub wide_tight : (row : Row) → fitting_row row ≡ None → tight_fitting row ≡ None
wide_tight row e = wide_once (fits_form row.constant && fit_form row.coefs) row e
