-- Linear forms: their values, sums, differences and multiples, products where one form is constant, and forms over
-- forms.
use Rattle.std.specs.Prelude.{ℕ, ℤ, pos, negsuc, ◌+ℤ◌, ◌*ℤ◌, Bool, ◌==◌, if◌then◌else◌, replicate, unsigned_abs, List, [], ◌∷◌, map, slice_index_or, Option, Some, None}
use Rattle.std.specs.List.{list_all}
use Rattle.lin_terms.specs.declared.form.Form.{Form}
use Rattle.lin_terms.specs.Vectors.{dot, plus, scaled, only_at}

-- the form's value where the variables have these values, by number
abbrev pub value_at : Form → List ℤ → ℤ
value_at form values = dot form.coefs values +ℤ form.constant

-- the sum of two forms
abbrev pub sum_of : Form → Form → Form
sum_of x y = record { coefs = plus x.coefs y.coefs; constant = x.constant +ℤ y.constant }

-- the form times k
abbrev pub multiple_of : ℤ → Form → Form
multiple_of k x = record { coefs = scaled k x.coefs; constant = k *ℤ x.constant }

-- the first form less the second
abbrev pub difference_of : Form → Form → Form
difference_of x y = sum_of x (multiple_of (negsuc 0) y)

-- the form over `count` variables that is the same at each point
abbrev pub constant_form : ℕ → ℤ → Form
constant_form count value = record { coefs = replicate count (pos 0); constant = value }

-- the form over `count` variables that is the variable x
abbrev pub variable_form : ℕ → ℕ → Form
variable_form count x = record { coefs = only_at count x (pos 1); constant = pos 0 }

-- Whether each of the numbers is 0.
abbrev pub are_zeros : List ℤ → Bool
are_zeros entries = list_all (λ entry. unsigned_abs entry == 0) entries

-- Whether each coefficient is 0.
abbrev pub is_constant : Form → Bool
is_constant form = are_zeros form.coefs

-- the product of two forms, where one of the two is constant; else it is no form
abbrev pub product_of : Form → Form → Option Form
product_of x y =
    if is_constant x then Some (multiple_of x.constant y)
    else (if is_constant y then Some (multiple_of y.constant x) else None)

-- the coefficients of variable j, form by form
abbrev pub entries_at : ℕ → List Form → List ℤ
entries_at j forms = map (λ form. slice_index_or form.coefs j (pos 0)) forms

-- the constants, form by form
abbrev pub constants_of : List Form → List ℤ
constants_of forms = map (λ form. form.constant) forms

-- the sum of the forms' coefficients, each form's times its factor
abbrev pub combined_coefs : List ℤ → List Form → List ℤ
combined_coefs [] forms = []
combined_coefs (factor ∷ factors) [] = []
combined_coefs (factor ∷ factors) (form ∷ forms) = plus (scaled factor form.coefs) (combined_coefs factors forms)

-- the same, in so many columns
abbrev pub composed_coefs : ℕ → List ℤ → List Form → List ℤ
composed_coefs columns factors forms = plus (replicate columns (pos 0)) (combined_coefs factors forms)

-- the form over `columns` variables that a form is once its variables are the forms `at`, by number
abbrev pub composed : ℕ → Form → List Form → Form
composed columns form at = record {
  coefs = composed_coefs columns form.coefs at;
  constant = dot form.coefs (constants_of at) +ℤ form.constant;
}
