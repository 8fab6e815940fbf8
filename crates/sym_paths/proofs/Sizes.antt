-- Sizes: what stands in the rows and forms of a walk is below 2^50 in size, also over the columns in use.
use Rattle.std.proofs.Common.{◌≡◌, ℕ, zero, suc, ◌+◌, ◌≤◌, ◌^◌, ◌/◌, ◌%◌, lit<, Bool, true, false, cond, ◌&&◌, List, [], ◌∷◌, ◌++◌, length, map, get_or, replicate, All, Some, None, refl, ap, sym, subst, div-le_self, arith}
use Rattle.std.specs.Prelude.{ℤ, pos, negsuc, neg_ℤ, int_div, int_rem, unsigned_abs}
use Rattle.std.proofs.Math.Nat.{mod-le}
use Rattle.std.proofs.lemmas.Int.{ints}
use Rattle.std.proofs.lemmas.List.Elements.{All-nil, All-cons, All-head, All-tail, All-append, All-map, All-replicate, All-take, All-weaker}
use Rattle.c_ast.specs.Step.{Scope, is_in, spread_one, spread_from}
use Rattle.lin_terms.specs.declared.form.Form.{Form}
use Rattle.lin_terms.specs.declared.row.Row.{Row}
use Rattle.lin_terms.specs.Bounds.{fits_form, fit_form, FitsForm}
use Rattle.lin_terms.specs.Divisor.{gcd_of, floor_div}
use Rattle.lin_terms.specs.Form.{constant_form, variable_form}
use Rattle.lin_terms.specs.Makes.{IsFittingForm, fitting}
use Rattle.lin_terms.specs.Row.{EntriesAreBelow}
use Rattle.lin_terms.specs.Sign.{tight_fitting}
use Rattle.lin_terms.specs.Tight.{never_row, divided_row, is_unsolvable, tight_by, tight_of}
use Rattle.lin_terms.proofs.Laws.{fitting_fits, variable_fits}
use Rattle.flow_graph.specs.Run.{values_with}
use Rattle.sym_paths.specs.Cases.{variables_from, fitted, fitted_row, fitted_form}

-- ---- numbers

size_of_opposite : (n : ℕ) → unsigned_abs (neg_ℤ (pos n)) ≡ n
size_of_opposite zero = refl
size_of_opposite (suc n) = refl

quotient_size : (value divisor : ℤ) → unsigned_abs (int_div value divisor) ≤ unsigned_abs value
quotient_size (pos a) (pos b) = div-le_self a b
quotient_size (pos a) (negsuc b) = omega (arith, size_of_opposite (a / suc b), div-le_self a (suc b))
quotient_size (negsuc a) (pos b) = omega (arith, size_of_opposite (suc a / b), div-le_self (suc a) b)
quotient_size (negsuc a) (negsuc b) = div-le_self (suc a) (suc b)

rest_size : (value divisor : ℤ) → unsigned_abs (int_rem value divisor) ≤ unsigned_abs value
rest_size (pos a) divisor = mod-le a (unsigned_abs divisor)
rest_size (negsuc a) divisor = omega (arith, size_of_opposite (suc a % unsigned_abs divisor), mod-le (suc a) (unsigned_abs divisor))

pub quotient_fits : (value divisor : ℤ) → FitsForm value → FitsForm (int_div value divisor)
quotient_fits value divisor fits = omega (arith, quotient_size value divisor, fits)

pub rest_fits : (value divisor : ℤ) → FitsForm value → FitsForm (int_rem value divisor)
rest_fits value divisor fits = omega (arith, rest_size value divisor, fits)

-- ---- forms

pub constant_fits : (room : ℕ) (z : ℤ) → FitsForm z → IsFittingForm (constant_form room z)
constant_fits room z fits = record { coefs = All-replicate FitsForm room (pos 0) (lit< tt); constant = fits }

pub zero_fits : (room : ℕ) → IsFittingForm (constant_form room (pos 0))
zero_fits room = constant_fits room (pos 0) (lit< tt)

-- the form of a variable, and of one beyond the list
pub form_at_fits : (room : ℕ) (forms : List Form) (x : ℕ) → All IsFittingForm forms → IsFittingForm (get_or forms x (constant_form room (pos 0)))
form_at_fits room [] x fit = zero_fits room
form_at_fits room (form ∷ forms) zero fit = All-head IsFittingForm form forms fit
form_at_fits room (form ∷ forms) (suc x) fit = form_at_fits room forms x (All-tail IsFittingForm form forms fit)

-- the forms of some variables
pub listed_fit : (room : ℕ) (variables : List ℕ) (forms : List Form) → All IsFittingForm forms
    → All IsFittingForm (values_with (constant_form room (pos 0)) variables forms)
listed_fit room [] forms fit = All-nil IsFittingForm
listed_fit room (x ∷ variables) forms fit =
    All-cons IsFittingForm (get_or forms x (constant_form room (pos 0))) (values_with (constant_form room (pos 0)) variables forms)
    (form_at_fits room forms x fit) (listed_fit room variables forms fit)

-- the variables of the start
pub variables_fit : (room j n : ℕ) → j + n ≤ room → All IsFittingForm (variables_from room j n)
variables_fit room j zero within = All-nil IsFittingForm
variables_fit room j (suc n) within =
    All-cons IsFittingForm (variable_form room j) (variables_from room (suc j) n) (variable_fits room j (omega (arith, within)))
    (variables_fit room (suc j) n (omega (arith, within)))

one_fits : (room : ℕ) (is : Bool) (forms : List Form) (others : List Form → List Form)
    → ((left : List Form) → All IsFittingForm left → All IsFittingForm (others left)) → All IsFittingForm forms
    → All IsFittingForm (spread_one (constant_form room (pos 0)) is forms others)
one_fits room true [] others go fit = All-cons IsFittingForm (constant_form room (pos 0)) (others []) (zero_fits room) (go [] fit)
one_fits room true (form ∷ forms) others go fit =
    All-cons IsFittingForm form (others forms) (All-head IsFittingForm form forms fit) (go forms (All-tail IsFittingForm form forms fit))
one_fits room false forms others go fit = All-cons IsFittingForm (constant_form room (pos 0)) (others forms) (zero_fits room) (go forms fit)

-- all variables, of which the ones in scope have these forms
pub spread_fit : (room : ℕ) (scope : Scope) (i n : ℕ) (forms : List Form) → All IsFittingForm forms
    → All IsFittingForm (spread_from (constant_form room (pos 0)) scope i n forms)
spread_fit room scope i zero forms fit = All-nil IsFittingForm
spread_fit room scope i (suc n) forms fit =
    one_fits room (is_in scope i) forms (spread_from (constant_form room (pos 0)) scope (suc i) n) (λ left. spread_fit room scope (suc i) n left) fit

-- ---- tight rows are no wider than the rows that they are made of

floor_size : (n : ℕ) (x : ℤ) → unsigned_abs (floor_div x (suc n)) ≤ unsigned_abs x
floor_size n (pos a) = div-le_self a (suc n)
floor_size n (negsuc a) = omega (arith, ints, div-le_self a (suc n))

floor_fits : (n : ℕ) (x : ℤ) → FitsForm x → FitsForm (floor_div x (suc n))
floor_fits n x fits = omega (arith, floor_size n x, fits)

divided_small : (n : ℕ) (row : Row) → EntriesAreBelow (2 ^ 50) row → EntriesAreBelow (2 ^ 50) (divided_row (suc n) row)
divided_small n row small = record {
  coefs = All-map FitsForm (λ x. floor_div x (suc n)) row.coefs
      (All-weaker FitsForm (λ x. FitsForm (floor_div x (suc n))) (floor_fits n) row.coefs small.coefs);
  constant = floor_fits n row.constant small.constant;
}

never_small : (columns : ℕ) → EntriesAreBelow (2 ^ 50) (never_row columns)
never_small columns = record { coefs = All-replicate FitsForm columns (pos 0) (lit< tt); constant = lit< tt }

either_small : (never : Bool) (n : ℕ) (row : Row) → EntriesAreBelow (2 ^ 50) row
    → EntriesAreBelow (2 ^ 50) (cond never (never_row (length row.coefs)) (divided_row (suc n) row))
either_small true n row small = never_small (length row.coefs)
either_small false n row small = divided_small n row small

tight_by_small : (divisor : ℕ) (row : Row) → EntriesAreBelow (2 ^ 50) row → EntriesAreBelow (2 ^ 50) (tight_by divisor row)
tight_by_small zero row small = small
tight_by_small (suc n) row small = either_small (is_unsolvable (suc n) row) n row small

pub tight_small : (row tight : Row) → Some tight ≡ tight_fitting row → EntriesAreBelow (2 ^ 50) tight
tight_small row tight is = by (fits_form row.constant && fit_form row.coefs) refl is
  where
    form : Form
    form = record { coefs = row.coefs; constant = row.constant }

    small_row : IsFittingForm form → EntriesAreBelow (2 ^ 50) row
    small_row fits = record { coefs = fits.coefs; constant = fits.constant }

    by : (fits : Bool) → fits_form row.constant && fit_form row.coefs ≡ fits → Some tight ≡ cond fits (Some (tight_of row)) None
        → EntriesAreBelow (2 ^ 50) tight
    by true fits is =
        let made : fitting form ≡ Some form = ap (λ (t : Bool). cond t (Some form) None) fits in
        let same : tight ≡ tight_of row = cc in
        subst (EntriesAreBelow (2 ^ 50)) (sym same) (tight_by_small (gcd_of row.coefs) row (small_row (fitting_fits form form made)))
    by false fits is = cc

-- ---- over the columns in use

small_fitted : (n : ℕ) (numbers : List ℤ) → All FitsForm numbers → All FitsForm (fitted n numbers)
small_fitted n numbers small =
    All-take FitsForm n (numbers ++ replicate n (pos 0))
    (All-append FitsForm numbers (replicate n (pos 0)) small (All-replicate FitsForm n (pos 0) (lit< tt)))

pub rows_small : (n : ℕ) (rows : List Row) → All (EntriesAreBelow (2 ^ 50)) rows → All (EntriesAreBelow (2 ^ 50)) (map (fitted_row n) rows)
rows_small n rows small =
    All-map (EntriesAreBelow (2 ^ 50)) (fitted_row n) rows
    (All-weaker (EntriesAreBelow (2 ^ 50)) (λ row. EntriesAreBelow (2 ^ 50) (fitted_row n row)) one rows small)
  where
    one : (row : Row) → EntriesAreBelow (2 ^ 50) row → EntriesAreBelow (2 ^ 50) (fitted_row n row)
    one row small = record { coefs = small_fitted n row.coefs small.coefs; constant = small.constant }

pub forms_small : (n : ℕ) (forms : List Form) → All IsFittingForm forms → All IsFittingForm (map (fitted_form n) forms)
forms_small n forms fit =
    All-map IsFittingForm (fitted_form n) forms (All-weaker IsFittingForm (λ form. IsFittingForm (fitted_form n form)) one forms fit)
  where
    one : (form : Form) → IsFittingForm form → IsFittingForm (fitted_form n form)
    one form fits = record { coefs = small_fitted n form.coefs fits.coefs; constant = fits.constant }
