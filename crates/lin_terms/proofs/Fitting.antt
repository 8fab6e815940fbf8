-- Forms that are made where they fit.
use Rattle.std.proofs.Common.{◌≡◌, ℕ, zero, suc, ◌<◌, ◌^◌, lit<, Bool, true, false, ◌&&◌, cond, Some, None, List, [], ◌∷◌, arith, refl, sym, subst, replicate}
use Rattle.std.specs.Prelude.{ℤ, pos, nat_lt, unsigned_abs}
use Rattle.std.specs.List.{AllByRecursion}
use Rattle.std.proofs.lemmas.Bool.{and_parts}
use Rattle.std.proofs.lemmas.Bool.Decides.{nat_tests}
use Rattle.std.proofs.lemmas.List.Elements.{All-from_recursion, All-set}
use Rattle.lin_terms.specs.declared.form.Form.{Form}
use Rattle.lin_terms.specs.Bounds.{fits_form, fit_form, FitsForm}
use Rattle.lin_terms.specs.Form.{variable_form}
use Rattle.lin_terms.specs.Makes.{IsFittingForm, fitting}

tested : (m n : ℕ) → nat_lt m n ≡ true → m < n
tested m n e = grind (arith, nat_tests)

entry_fits : (x : ℤ) → fits_form x ≡ true → FitsForm x
entry_fits x e = tested (unsigned_abs x) (2 ^ 50) e

entries_fit : (xs : List ℤ) → fit_form xs ≡ true → AllByRecursion FitsForm xs
entries_fit [] e = tt
entries_fit (x ∷ xs) e = let p = and_parts (fits_form x) (fit_form xs) e in (entry_fits x p.0, entries_fit xs p.1)

fits_once : (s t : Bool) (wanted form : Form) → cond (s && t) (Some wanted) None ≡ Some form → (s && t ≡ true) × (form ≡ wanted)
fits_once true true wanted form e = (refl, cc)
fits_once true false wanted form e = absurd cc
fits_once false t wanted form e = absurd cc

pub fitting_is_wanted : (wanted form : Form) → fitting wanted ≡ Some form → form ≡ wanted
fitting_is_wanted wanted form e = (fits_once (fits_form wanted.constant) (fit_form wanted.coefs) wanted form e).1

pub fitting_fits : (wanted form : Form) → fitting wanted ≡ Some form → IsFittingForm form
fitting_fits wanted form e =
    let both = fits_once (fits_form wanted.constant) (fit_form wanted.coefs) wanted form e in
    let p = and_parts (fits_form wanted.constant) (fit_form wanted.coefs) both.0 in
    let fits : IsFittingForm wanted = record {
      coefs = All-from_recursion FitsForm wanted.coefs (entries_fit wanted.coefs p.1);
      constant = entry_fits wanted.constant p.0;
    } in
    subst IsFittingForm (sym both.1) fits

zeros_fit : (n : ℕ) → AllByRecursion FitsForm (replicate n (pos 0))
zeros_fit zero = tt
zeros_fit (suc n) = (lit< tt, zeros_fit n)

pub variable_fits : (count x : ℕ) → x < count → IsFittingForm (variable_form count x)
variable_fits count x below = record {
  coefs = All-set FitsForm (replicate count (pos 0)) x (pos 1) (lit< tt) (All-from_recursion FitsForm (replicate count (pos 0)) (zeros_fit count));
  constant = lit< tt;
}
