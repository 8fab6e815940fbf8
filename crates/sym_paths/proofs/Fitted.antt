-- Over the columns in use, rows and forms say the same at points of these columns.
use Rattle.std.proofs.Common.{◌≡◌, ◌↔◌, ℕ, zero, suc, ◌+◌, ◌≤◌, List, [], ◌∷◌, ◌++◌, ◌<◌, get_or, take-suc, length, map, take, replicate, All, refl, sym, ap, subst, ◌∙◌, length-append, arith}
use Rattle.std.specs.Prelude.{ℤ, pos, ◌+ℤ◌, ◌*ℤ◌}
use Rattle.std.proofs.lemmas.Int.{ints}
use Rattle.std.proofs.lemmas.List.{length-replicate, length-take-le}
use Rattle.std.proofs.lemmas.List.Elements.{All-nil, All-cons, All-head, All-tail}
use Rattle.lin_terms.specs.declared.form.Form.{Form}
use Rattle.lin_terms.specs.declared.row.Row.{Row}
use Rattle.lin_terms.specs.Form.{value_at}
use Rattle.lin_terms.specs.Row.{Allows, Holds}
use Rattle.lin_terms.specs.Vectors.{dot}
use Rattle.lin_terms.proofs.Laws.{dot-replicate}
use Rattle.sym_paths.specs.Cases.{fitted, fitted_row, fitted_form}

pub length_fitted : (n : ℕ) (numbers : List ℤ) → length (fitted n numbers) ≡ n
length_fitted n numbers =
    let long : length (numbers ++ replicate n (pos 0)) ≡ length numbers + n =
    length-append numbers (replicate n (pos 0)) ∙ ap (λ (k : ℕ). length numbers + k) (length-replicate n (pos 0)) in
    length-take-le n (numbers ++ replicate n (pos 0)) (omega (arith, long))

no_numbers : (coefs : List ℤ) → dot coefs [] ≡ pos 0
no_numbers [] = refl
no_numbers (c ∷ coefs) = refl

dot_take : (n : ℕ) (coefs point : List ℤ) → length point ≤ n → dot (take n coefs) point ≡ dot coefs point
dot_take zero coefs [] few = sym (no_numbers coefs)
dot_take zero coefs (x ∷ point) few = absurd (omega arith)
dot_take (suc n) [] point few = refl
dot_take (suc n) (c ∷ coefs) [] few = refl
dot_take (suc n) (c ∷ coefs) (x ∷ point) few = ap (λ (z : ℤ). (c *ℤ x) +ℤ z) (dot_take n coefs point (omega arith))

dot_padded : (n : ℕ) (coefs point : List ℤ) → dot (coefs ++ replicate n (pos 0)) point ≡ dot coefs point
dot_padded n [] point = dot-replicate n point
dot_padded n (c ∷ coefs) [] = refl
dot_padded n (c ∷ coefs) (x ∷ point) = ap (λ (z : ℤ). (c *ℤ x) +ℤ z) (dot_padded n coefs point)

dot_fitted : (n : ℕ) (coefs point : List ℤ) → length point ≤ n → dot (fitted n coefs) point ≡ dot coefs point
dot_fitted n coefs point few = dot_take n (coefs ++ replicate n (pos 0)) point few ∙ dot_padded n coefs point

pub value_fitted : (n : ℕ) (form : Form) (point : List ℤ) → length point ≤ n → value_at (fitted_form n form) point ≡ value_at form point
value_fitted n form point few = ap (λ (z : ℤ). z +ℤ form.constant) (dot_fitted n form.coefs point few)

pub holds_fitted : (n : ℕ) (row : Row) (point : List ℤ) → length point ≤ n → Holds point (fitted_row n row) ↔ Holds point row
holds_fitted n row point few =
    let same = ap (λ (z : ℤ). Allows row.equality (z +ℤ row.constant)) (dot_fitted n row.coefs point few) in
    (λ holds. subst (λ (T : Type 0). T) same holds, λ holds. subst (λ (T : Type 0). T) (sym same) holds)

-- ---- zeros behind a point change nothing

zero_numbers : (coefs : List ℤ) (n : ℕ) → dot coefs (replicate n (pos 0)) ≡ pos 0
zero_numbers [] n = refl
zero_numbers (c ∷ coefs) zero = refl
zero_numbers (c ∷ coefs) (suc n) = ap (λ (z : ℤ). (c *ℤ pos 0) +ℤ z) (zero_numbers coefs n) ∙ omega (arith, ints)

dot_more : (coefs point : List ℤ) (n : ℕ) → dot coefs (point ++ replicate n (pos 0)) ≡ dot coefs point
dot_more [] point n = refl
dot_more (c ∷ coefs) [] n = zero_numbers (c ∷ coefs) n
dot_more (c ∷ coefs) (x ∷ point) n = ap (λ (z : ℤ). (c *ℤ x) +ℤ z) (dot_more coefs point n)

value_more : (form : Form) (point : List ℤ) (n : ℕ) → value_at form (point ++ replicate n (pos 0)) ≡ value_at form point
value_more form point n = ap (λ (z : ℤ). z +ℤ form.constant) (dot_more form.coefs point n)

holds_more : (row : Row) (point : List ℤ) (n : ℕ) → Holds point row → Holds (point ++ replicate n (pos 0)) row
holds_more row point n holds = subst (λ (z : ℤ). Allows row.equality (z +ℤ row.constant)) (sym (dot_more row.coefs point n)) holds

-- ---- all rows, and all forms

pub rows_have_length : (n : ℕ) (rows : List Row) → All (λ row. length row.coefs ≡ n) (map (fitted_row n) rows)
rows_have_length n [] = All-nil (λ row. length row.coefs ≡ n)
rows_have_length n (row ∷ rows) =
    All-cons (λ (r : Row). length r.coefs ≡ n) (fitted_row n row) (map (fitted_row n) rows) (length_fitted n row.coefs) (rows_have_length n rows)

pub forms_have_length : (n : ℕ) (forms : List Form) → All (λ form. length form.coefs ≡ n) (map (fitted_form n) forms)
forms_have_length n [] = All-nil (λ form. length form.coefs ≡ n)
forms_have_length n (form ∷ forms) =
    All-cons (λ (f : Form). length f.coefs ≡ n) (fitted_form n form) (map (fitted_form n) forms) (length_fitted n form.coefs) (forms_have_length n forms)

pub rows_hold : (point : List ℤ) (n : ℕ) (rows : List Row) → length point ≤ n → All (Holds point) rows → All (Holds point) (map (fitted_row n) rows)
rows_hold point n [] few hold = All-nil (Holds point)
rows_hold point n (row ∷ rows) few hold =
    All-cons (Holds point) (fitted_row n row) (map (fitted_row n) rows) ((holds_fitted n row point few).1 (All-head (Holds point) row rows hold))
    (rows_hold point n rows few (All-tail (Holds point) row rows hold))

pub values_fitted : (point : List ℤ) (n : ℕ) (forms : List Form) → length point ≤ n
    → map (λ (f : Form). value_at f point) (map (fitted_form n) forms) ≡ map (λ (f : Form). value_at f point) forms
values_fitted point n [] few = refl
values_fitted point n (form ∷ forms) few =
    ap (λ (z : ℤ). z ∷ map (λ (f : Form). value_at f point) (map (fitted_form n) forms)) (value_fitted n form point few)
    ∙ ap (λ (zs : List ℤ). value_at form point ∷ zs) (values_fitted point n forms few)

-- where rows over these columns hold, the rows hold with zeros behind
pub rows_hold_before : (point : List ℤ) (n : ℕ) (rows : List Row) → All (λ row. length row.coefs ≡ length point) (map (fitted_row n) rows)
    → All (Holds point) (map (fitted_row n) rows) → All (Holds (point ++ replicate n (pos 0))) rows
rows_hold_before point n [] lengths hold = All-nil (Holds (point ++ replicate n (pos 0)))
rows_hold_before point n (row ∷ rows) lengths hold =
    let here : length (fitted n row.coefs) ≡ length point =
    All-head (λ (r : Row). length r.coefs ≡ length point) (fitted_row n row) (map (fitted_row n) rows) lengths in
    let exact = length_fitted n row.coefs in
    let first = (holds_fitted n row point (omega (arith, here, exact))).0 (All-head (Holds point) (fitted_row n row) (map (fitted_row n) rows) hold) in
    All-cons (Holds (point ++ replicate n (pos 0))) row rows (holds_more row point n first)
    (rows_hold_before point n rows (All-tail (λ (r : Row). length r.coefs ≡ length point) (fitted_row n row) (map (fitted_row n) rows) lengths)
    (All-tail (Holds point) (fitted_row n row) (map (fitted_row n) rows) hold))

pub values_before : (point : List ℤ) (n : ℕ) (forms : List Form) → All (λ form. length form.coefs ≡ length point) (map (fitted_form n) forms)
    → map (λ (f : Form). value_at f point) (map (fitted_form n) forms) ≡ map (λ (f : Form). value_at f (point ++ replicate n (pos 0))) forms
values_before point n [] lengths = refl
values_before point n (form ∷ forms) lengths =
    let here : length (fitted n form.coefs) ≡ length point =
    All-head (λ (f : Form). length f.coefs ≡ length point) (fitted_form n form) (map (fitted_form n) forms) lengths in
    let exact = length_fitted n form.coefs in
    ap (λ (z : ℤ). z ∷ map (λ (f : Form). value_at f point) (map (fitted_form n) forms))
    (value_fitted n form point (omega (arith, here, exact)) ∙ sym (value_more form point n))
    ∙ ap (λ (zs : List ℤ). value_at form (point ++ replicate n (pos 0)) ∷ zs)
    (values_before point n forms (All-tail (λ (f : Form). length f.coefs ≡ length point) (fitted_form n form) (map (fitted_form n) forms) lengths))

-- ---- one number after the other

number_padded : (numbers : List ℤ) (count i : ℕ) → get_or (numbers ++ replicate count (pos 0)) i (pos 0) ≡ get_or numbers i (pos 0)
number_padded [] zero i = refl
number_padded [] (suc count) zero = refl
number_padded [] (suc count) (suc i) = number_padded [] count i
number_padded (n ∷ numbers) count zero = refl
number_padded (n ∷ numbers) count (suc i) = number_padded numbers count i

pub fitted_next : (numbers : List ℤ) (count i : ℕ) → i < count
    → take i (numbers ++ replicate count (pos 0)) ++ get_or numbers i (pos 0) ∷ [] ≡ take (i + 1) (numbers ++ replicate count (pos 0))
fitted_next numbers count i below =
    let long : length (numbers ++ replicate count (pos 0)) ≡ length numbers + count =
    length-append numbers (replicate count (pos 0)) ∙ ap (λ (k : ℕ). length numbers + k) (length-replicate count (pos 0)) in
    let one : i + 1 ≡ suc i = omega arith in
    ap (λ (z : ℤ). take i (numbers ++ replicate count (pos 0)) ++ z ∷ []) (sym (number_padded numbers count i))
    ∙ sym (take-suc (numbers ++ replicate count (pos 0)) i (pos 0) (omega (arith, long)))
    ∙ ap (λ (k : ℕ). take k (numbers ++ replicate count (pos 0))) (sym one)
