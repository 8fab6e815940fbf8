-- Numbers can be read back.
use Rattle.std.proofs.Common.{◌≡◌, ℕ, suc, ◌+◌, ◌*◌, ◌-◌, ◌%◌, ◌^◌, ◌<◌, ◌≤◌, Bool, true, leb, List, [], ◌∷◌, ◌++◌, refl, sym, ap, ◌∙◌, arith, ℤ, pos, negsuc}
use Rattle.std.specs.Prelude.{codes, decimal}
use Rattle.std.specs.Fmt.{signed_decimal}
use Rattle.std.proofs.lemmas.List.{append_cancel_left}
use Rattle.std.proofs.lemmas.Fmt.{decimal_by_steps_wide}
use Rattle.report.specs.Determined.{is_digit, IsShort, IsShortSigned}
use Rattle.report.proofs.Reading.{IsReadable, Passes, Begins, Stops, run_cut, clash, begins_on}

pub leb_true : (m n : ℕ) → m ≤ n → leb m n ≡ true
leb_true m n h = grind (arith, h)

abbrev pub value_from : ℕ → List ℕ → ℕ
value_from v [] = v
value_from v (d ∷ ds) = value_from (v * 10 + (d - 48)) ds

value_push : (v : ℕ) (ds : List ℕ) (d : ℕ) → value_from v (ds ++ d ∷ []) ≡ value_from v ds * 10 + (d - 48)
value_push v [] d = refl
value_push v (e ∷ ds) d = value_push (v * 10 + (e - 48)) ds d

pub passes_on : (p : ℕ → Bool) (x y : List ℕ) → Passes p x → Passes p y → Passes p (x ++ y)
passes_on p [] y a b = b
passes_on p (k ∷ x) y a b = (a.0, passes_on p x y a.1 b)

digit : (n : ℕ) → n < 10 → is_digit (48 + n) ≡ true
digit n h = let p = leb_true 48 (48 + n) (omega arith) in let q = leb_true (48 + n) 57 (omega (arith, h)) in rw (p, q) refl

pub decimal_digits : (n : ℕ) → n < 10 ^ 64 → Passes is_digit (decimal n) × Begins is_digit (decimal n) × (value_from 0 (decimal n) ≡ n)
decimal_digits = decimal_by_steps_wide (λ n ds. Passes is_digit ds × Begins is_digit ds × (value_from 0 ds ≡ n))
    (λ n h. ((digit n h, tt), digit n h, omega arith))
    (λ n ds h o. (
      passes_on is_digit ds ((48 + n % 10) ∷ []) o.0 (digit (n % 10) (omega arith), tt),
      begins_on is_digit ds ((48 + n % 10) ∷ []) o.1,
      value_push 0 ds (48 + n % 10) ∙ rw (o.2) (omega arith),
    ))

pub number : IsReadable IsShort decimal (Stops is_digit)
number = record {
  read = λ x y s t a b c d e.
      let p = decimal_digits x a in
      let q = decimal_digits y b in
      let o = run_cut is_digit (decimal x) (decimal y) s t p.0 q.0 c d e in
      (sym p.2 ∙ ap (value_from 0) o.0 ∙ q.2, o.1);
}

pub number_begins : (n : ℕ) (s : List ℕ) → IsShort n → Begins is_digit (decimal n ++ s)
number_begins n s h = begins_on is_digit (decimal n) s (decimal_digits n h).1

digits_minus : (x s t : List ℕ) → Begins is_digit x → x ++ s ≡ codes "-" ++ t → ⊥
digits_minus x s t h e = clash is_digit (x ++ s) (codes "-" ++ t) (begins_on is_digit x s h) refl e

signed_read : (x y : ℤ) (s t : List ℕ) → IsShortSigned x → IsShortSigned y → Stops is_digit s → Stops is_digit t → signed_decimal x ++ s ≡ signed_decimal y
    ++ t → (x ≡ y) × (s ≡ t)
signed_read (pos m) (pos n) s t a b c d e = let o = number.read m n s t a b c d e in (ap pos o.0, o.1)
signed_read (pos m) (negsuc n) s t a b c d e = absurd (digits_minus (decimal m) s (decimal (suc n) ++ t) (decimal_digits m a).1 e)
signed_read (negsuc m) (pos n) s t a b c d e = absurd (digits_minus (decimal n) t (decimal (suc m) ++ s) (decimal_digits n b).1 (sym e))
signed_read (negsuc m) (negsuc n) s t a b c d e =
    let f : decimal (suc m) ++ s ≡ decimal (suc n) ++ t = append_cancel_left (codes "-") (decimal (suc m) ++ s) (decimal (suc n) ++ t) e in
    let o = number.read (suc m) (suc n) s t a b c d f in
    let g : m ≡ n = omega (arith, o.0) in
    (ap negsuc g, o.1)

pub signed : IsReadable IsShortSigned signed_decimal (Stops is_digit)
signed = record { read = λ x y s t a b c d e. signed_read x y s t a b c d e }
