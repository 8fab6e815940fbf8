-- The values of forms.
use Rattle.std.proofs.Common.{◌≡◌, ◌↔◌, ℕ, zero, suc, ◌<◌, Bool, true, false, cond, ◌&&◌, eqb, Some, None, IsTrue, sym, List, [], ◌∷◌, get_or, replicate, refl, ap, ◌∙◌, arith}
use Rattle.std.specs.Prelude.{ℤ, pos, negsuc, ◌+ℤ◌, ◌*ℤ◌, unsigned_abs, Decides}
use Rattle.lin_terms.specs.Bounds.{fits_form, fit_form}
use Rattle.lin_terms.specs.Makes.{fitting}
use Rattle.std.proofs.lemmas.Int.{ints}
use Rattle.std.proofs.lemmas.Bool.Decides.{nat_tests}
use Rattle.lin_terms.specs.declared.form.Form.{Form}
use Rattle.lin_terms.specs.Vectors.{dot, plus, scaled}
use Rattle.lin_terms.specs.Form.{value_at, sum_of, multiple_of, constant_form, variable_form, is_constant}
use Rattle.lin_terms.proofs.Ring.{mul-plus}
use Rattle.lin_terms.proofs.Dots.{dot-plus, dot-scaled, zero_entries, dot-zeros, dot-replicate, dot-only_at}

swapped : (a b c d : ℤ) → (a +ℤ b) +ℤ (c +ℤ d) ≡ (a +ℤ c) +ℤ (b +ℤ d)
swapped a b c d = omega (arith, ints)

pub value_at-sum_of : (x y : Form) (values : List ℤ) → value_at (sum_of x y) values ≡ value_at x values +ℤ value_at y values
value_at-sum_of x y values = rw (dot-plus x.coefs y.coefs values) (swapped (dot x.coefs values) (dot y.coefs values) x.constant y.constant)

pub value_at-multiple_of : (k : ℤ) (x : Form) (values : List ℤ) → value_at (multiple_of k x) values ≡ k *ℤ value_at x values
value_at-multiple_of k x values = rw (dot-scaled k x.coefs values) (sym (mul-plus k (dot x.coefs values) x.constant))

pub zero_entry : (z : ℤ) → eqb (unsigned_abs z) 0 ≡ true → z ≡ pos 0
zero_entry (pos n) e = ap pos (grind (arith, nat_tests))
zero_entry (negsuc n) e = absurd (grind (arith, nat_tests))

pub value_at-constant : (form : Form) (values : List ℤ) → is_constant form ≡ true → value_at form values ≡ form.constant
value_at-constant form values e =
    rw (dot-zeros form.coefs values (zero_entries (λ entry. eqb (unsigned_abs entry) 0) zero_entry form.coefs e)) (omega (arith, ints))

pub value_at-constant_form : (n : ℕ) (z : ℤ) (values : List ℤ) → value_at (constant_form n z) values ≡ z
value_at-constant_form n z values = rw (dot-replicate n values) (omega (arith, ints))

one_times : (v : ℤ) → (pos 1 *ℤ v) +ℤ pos 0 ≡ v
one_times v = omega (arith, ints)

pub value_at-variable_form : (n x : ℕ) (values : List ℤ) → x < n → value_at (variable_form n x) values ≡ get_or values x (pos 0)
value_at-variable_form n x values below = rw (dot-only_at n x (pos 1) values below) (one_times (get_or values x (pos 0)))

-- once a form is the form
scaled-one : (xs : List ℤ) → scaled (pos 1) xs ≡ xs
scaled-one [] = refl
scaled-one (x ∷ xs) = let first : pos 1 *ℤ x ≡ x = omega (arith, ints) in rw (first, scaled-one xs) refl

form_of_parts : {xs ys : List ℤ} {j k : ℤ} → xs ≡ ys → j ≡ k → ◌≡◌ {A = Form} (record { coefs = xs; constant = j }) (record { coefs = ys; constant = k })
form_of_parts p q = cc

-- Forms with equal parts are equal.
pub equal_parts : (f g : Form) → f.coefs ≡ g.coefs → f.constant ≡ g.constant → f ≡ g
equal_parts f g p q = form_of_parts p q

pub multiple_of-one : (f : Form) → multiple_of (pos 1) f ≡ f
multiple_of-one f = let once : pos 1 *ℤ f.constant ≡ f.constant = omega (arith, ints) in equal_parts (multiple_of (pos 1) f) f (scaled-one f.coefs) once

-- ---- forms made of parts

pub value_at-made_combination : (f x y : Form) (k : ℤ) → f.coefs ≡ plus x.coefs (scaled k y.coefs) → f.constant ≡ x.constant +ℤ (k *ℤ y.constant)
    → (values : List ℤ) → value_at f values ≡ value_at x values +ℤ (k *ℤ value_at y values)
value_at-made_combination f x y k p q values =
    ap (λ (form : Form). value_at form values) (equal_parts f (sum_of x (multiple_of k y)) p q)
    ∙ value_at-sum_of x (multiple_of k y) values ∙ ap (λ z. value_at x values +ℤ z) (value_at-multiple_of k y values)

pub value_at-made_multiple : (f x : Form) (k : ℤ) → f.coefs ≡ scaled k x.coefs → f.constant ≡ k *ℤ x.constant
    → (values : List ℤ) → value_at f values ≡ k *ℤ value_at x values
value_at-made_multiple f x k p q values = ap (λ (form : Form). value_at form values) (equal_parts f (multiple_of k x) p q) ∙ value_at-multiple_of k x values

pub value_at-made_variable : (f : Form) (n x : ℕ) → x < n → f ≡ variable_form n x → (values : List ℤ) → value_at f values ≡ get_or values x (pos 0)
value_at-made_variable f n x below e values = ap (λ (form : Form). value_at form values) e ∙ value_at-variable_form n x values below

pub value_at-made_constant : (f : Form) (n : ℕ) (z : ℤ) → f.coefs ≡ replicate n (pos 0) → f.constant ≡ z → (values : List ℤ) → value_at f values ≡ z
value_at-made_constant f n z p q values = ap (λ (form : Form). value_at form values) (equal_parts f (constant_form n z) p q) ∙ value_at-constant_form n z values

fitting_constant : (b c : Bool) (f : Form) → b ≡ true → c ≡ true → cond (b && c) (Some f) None ≡ Some f
fitting_constant true true f e g = refl
fitting_constant true false f e g = absurd cc
fitting_constant false c f e g = absurd cc

zeros-fit : (n : ℕ) → fit_form (replicate n (pos 0)) ≡ true
zeros-fit zero = refl
zeros-fit (suc n) = zeros-fit n

pub fitting-constant_form : (f : Form) (n : ℕ) (z : ℤ) → fits_form z ≡ true → f.coefs ≡ replicate n (pos 0) → f.constant ≡ z
    → fitting (constant_form n z) ≡ Some f
fitting-constant_form f n z e p q =
    fitting_constant (fits_form z) (fit_form (replicate n (pos 0))) (constant_form n z) e (zeros-fit n) ∙ ap Some (sym (equal_parts f (constant_form n z) p q))

-- Forms are compared by their parts.
pub same_parts : (r : Bool) (f g : Form) (xs ys : List ℤ) → Decides r (xs ≡ ys) → xs ≡ f.coefs → ys ≡ g.coefs → f.constant ≡ g.constant → IsTrue r ↔ (f ≡ g)
same_parts r f g xs ys tested p q constant =
    (λ t. equal_parts f g (sym p ∙ tested.0 t ∙ q) constant, λ e. tested.1 (p ∙ ap (λ (form : Form). form.coefs) e ∙ sym q))
