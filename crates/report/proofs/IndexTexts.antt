-- The text of a list of indexes can be read back.
use Rattle.std.proofs.Common.{◌≡◌, ℕ, zero, suc, ◌-◌, ◌≤◌, Bool, true, false, cond, eqb, ◌||◌, List, [], ◌∷◌, ◌++◌, refl, sym, ap, ◌∙◌, subst, arith}
use Rattle.std.specs.Prelude.{codes, decimal, flat_map}
use Rattle.std.proofs.lemmas.Bool.{eqb-true}
use Rattle.std.proofs.lemmas.List.{append_assoc, append_cancel_left, append-nil}
use Rattle.report.specs.Indexes.{with_run, runs, run_text, runs_text, indexes_text}
use Rattle.report.specs.Determined.{is_digit, IsShort}
use Rattle.report.proofs.Reading.{IsReadable, Begins, Stops, Each, clash, begins_on, past, behind, many}
use Rattle.report.proofs.Numbers.{number, number_begins}

-- ---- the runs determine the list

-- so many successive numbers from this one on
abbrev up : ℕ → ℕ → List ℕ
up zero x = []
up (suc n) x = x ∷ up n (suc x)

abbrev spread : List (ℕ × ℕ) → List ℕ
spread [] = []
spread (r ∷ rs) = up (suc r.1 - r.0) r.0 ++ spread rs

abbrev Rises : List (ℕ × ℕ) → Type 0
Rises [] = Unit {0}
Rises (r ∷ rs) = (r.0 ≤ r.1) × Rises rs

before_rises : (x : ℕ) (rs : List (ℕ × ℕ)) → Rises rs → Rises (with_run x x rs)
before_rises x [] h = (omega arith, tt)
before_rises x (r ∷ rs) h = on (eqb r.0 (suc x)) refl
  where
    on : (t : Bool) → eqb r.0 (suc x) ≡ t → Rises (cond t ((x, r.1) ∷ rs) ((x, x) ∷ r ∷ rs))
    on true q = let e = eqb-true r.0 (suc x) q in (omega (arith, e, h.0), h.1)
    on false q = (omega arith, h)

rises : (xs : List ℕ) → Rises (runs xs)
rises [] = tt
rises (x ∷ xs) = before_rises x (runs xs) (rises xs)

up_one : (x : ℕ) → up (suc x - x) x ≡ x ∷ []
up_one x = let e : suc x - x ≡ 1 = omega arith in rw e refl

up_more : (x f l : ℕ) → f ≡ suc x → f ≤ l → up (suc l - x) x ≡ x ∷ up (suc l - f) f
up_more x f l e h = let g : suc l - x ≡ suc (suc l - f) = omega (arith, e, h) in rw (g, e) refl

spread_before : (x : ℕ) (rs : List (ℕ × ℕ)) → Rises rs → spread (with_run x x rs) ≡ x ∷ spread rs
spread_before x [] h = rw (up_one x) refl
spread_before x (r ∷ rs) h = on (eqb r.0 (suc x)) refl
  where
    on : (t : Bool) → eqb r.0 (suc x) ≡ t → spread (cond t ((x, r.1) ∷ rs) ((x, x) ∷ r ∷ rs)) ≡ x ∷ (up (suc r.1 - r.0) r.0 ++ spread rs)
    on true q = let e = eqb-true r.0 (suc x) q in rw (up_more x r.0 r.1 e h.0) refl
    on false q = rw (up_one x) refl

spread_runs : (xs : List ℕ) → spread (runs xs) ≡ xs
spread_runs [] = refl
spread_runs (x ∷ xs) = spread_before x (runs xs) (rises xs) ∙ ap (λ ys. x ∷ ys) (spread_runs xs)

same_runs : (xs ys : List ℕ) → runs xs ≡ runs ys → xs ≡ ys
same_runs xs ys e = sym (spread_runs xs) ∙ ap spread e ∙ spread_runs ys

-- ---- one run

abbrev goes_on : ℕ → Bool
goes_on b = is_digit b || eqb b 45

abbrev IsShortRun : ℕ × ℕ → Type 0
IsShortRun r = IsShort r.0 × IsShort r.1

split_or : (p q : Bool) → (p || q) ≡ false → (p ≡ false) × (q ≡ false)
split_or true q e = cc
split_or false q e = (refl, e)

no_digit : (s : List ℕ) → Stops goes_on s → Stops is_digit s
no_digit [] h = tt
no_digit (b ∷ s) h = (split_or (is_digit b) (eqb b 45) h).0

no_minus : (s t : List ℕ) → Stops goes_on s → s ≡ codes "-" ++ t → ⊥
no_minus s t h e = let g : Stops goes_on (codes "-" ++ t) = subst (Stops goes_on) e h in cc

-- the last number behind the first, where the run is longer than one
abbrev tail_text : Bool → ℕ → List ℕ
tail_text true l = []
tail_text false l = codes "-" ++ decimal l

tail_read : (x l m : ℕ) (s t : List ℕ) (p q : Bool) → eqb x l ≡ p → eqb x m ≡ q → IsShort l → IsShort m → Stops goes_on s → Stops goes_on t
    → tail_text p l ++ s ≡ tail_text q m ++ t → (l ≡ m) × (s ≡ t)
tail_read x l m s t true true e f a b c d w = (sym (eqb-true x l e) ∙ eqb-true x m f, w)
tail_read x l m s t true false e f a b c d w = absurd (no_minus s (decimal m ++ t) c w)
tail_read x l m s t false true e f a b c d w = absurd (no_minus t (decimal l ++ s) d (sym w))
tail_read x l m s t false false e f a b c d w =
    let g : decimal l ++ s ≡ decimal m ++ t = cc in
    number.read l m s t a b (no_digit s c) (no_digit t d) g

tail_stops : (p : Bool) (l : ℕ) (s : List ℕ) → Stops goes_on s → Stops is_digit (tail_text p l ++ s)
tail_stops true l s h = no_digit s h
tail_stops false l s h = refl

pair_read : IsReadable {A = ℕ × ℕ} (λ p. IsShort p.0 × IsShort p.1) (λ p. decimal p.0 ++ tail_text (eqb p.0 p.1) p.1) (Stops goes_on)
pair_read = behind IsShort decimal (Stops is_digit) (λ x. IsShort) (λ x y. tail_text (eqb x y) y) (Stops goes_on) number
    (λ x h. record { read = λ l m s t a b c d e. tail_read x l m s t (eqb x l) (eqb x m) refl refl a b c d e })
    (λ x y s a b c. tail_stops (eqb x y) y s c)

run_parts : (r : ℕ × ℕ) → run_text r ≡ decimal r.0 ++ tail_text (eqb r.0 r.1) r.1
run_parts r = on (eqb r.0 r.1)
  where
    on : (t : Bool) → cond t (decimal r.0) (decimal r.0 ++ codes "-" ++ decimal r.1) ≡ decimal r.0 ++ tail_text t r.1
    on true = sym (append-nil (decimal r.0))
    on false = append_assoc (decimal r.0) (codes "-") (decimal r.1)

-- another form of the same text
pub same_text : {A : Type 0} (F : A → Type 0) (f g : A → List ℕ) (B : List ℕ → Type 0) → ((x : A) → g x ≡ f x) → IsReadable F f B → IsReadable F g B
same_text F f g B k h = record { read = λ x y s t a b c d e. h.read x y s t a b c d (ap (λ z. z ++ s) (sym (k x)) ∙ e ∙ ap (λ z. z ++ t) (k y)) }

run_read : IsReadable {A = ℕ × ℕ} IsShortRun run_text (Stops goes_on)
run_read = same_text {A = ℕ × ℕ} IsShortRun (λ p. decimal p.0 ++ tail_text (eqb p.0 p.1) p.1) run_text (Stops goes_on) run_parts pair_read

run_begins : (r : ℕ × ℕ) (s : List ℕ) → IsShortRun r → Begins is_digit (run_text r ++ s)
run_begins r s h = subst (λ z. Begins is_digit (z ++ s)) (sym (run_parts r))
    (begins_on is_digit (decimal r.0 ++ tail_text (eqb r.0 r.1) r.1) s (number_begins r.0 (tail_text (eqb r.0 r.1) r.1) h.0))

-- ---- all runs

abbrev pub runs_on : ℕ → Bool
runs_on b = goes_on b || eqb b 32

less_run : (s : List ℕ) → Stops runs_on s → Stops goes_on s
less_run [] h = tt
less_run (b ∷ s) h = (split_or (goes_on b) (eqb b 32) h).0

no_space : (s t : List ℕ) → Stops runs_on s → codes " " ++ t ≡ s → ⊥
no_space s t h e = let g : Stops runs_on (codes " " ++ t) = subst (Stops runs_on) (sym e) h in cc

abbrev next_text : ℕ × ℕ → List ℕ
next_text r = codes " " ++ run_text r

next_read : IsReadable {A = ℕ × ℕ} IsShortRun next_text (Stops goes_on)
next_read = past {A = ℕ × ℕ} IsShortRun run_text (Stops goes_on) (codes " ") run_read

nexts : IsReadable (Each IsShortRun) (flat_map next_text) (Stops runs_on)
nexts = many {A = ℕ × ℕ} IsShortRun next_text (Stops goes_on) (Stops runs_on) next_read
    (record { ends = less_run; goes = λ x s h. refl; apart = λ x s t a b e. no_space t (run_text x ++ s) b e })

nexts_stop : (rs : List (ℕ × ℕ)) (s : List ℕ) → Stops runs_on s → Stops goes_on (flat_map next_text rs ++ s)
nexts_stop [] s h = less_run s h
nexts_stop (r ∷ rs) s h = refl

-- the runs, or the word for none
abbrev all_text : List (ℕ × ℕ) → List ℕ
all_text [] = codes "none"
all_text (r ∷ rs) = run_text r ++ flat_map next_text rs

run_none : (r : ℕ × ℕ) (u v : List ℕ) → IsShortRun r → run_text r ++ u ≡ codes "none" ++ v → ⊥
run_none r u v h e = clash is_digit (run_text r ++ u) (codes "none" ++ v) (run_begins r u h) refl e

runs_read : (xs ys : List (ℕ × ℕ)) (s t : List ℕ) → Each IsShortRun xs → Each IsShortRun ys → Stops runs_on s → Stops runs_on t
    → all_text xs ++ s ≡ all_text ys ++ t → (xs ≡ ys) × (s ≡ t)
runs_read [] [] s t a b c d e = (refl, append_cancel_left (codes "none") s t e)
runs_read [] (y ∷ ys) s t a b c d e = absurd (run_none y (flat_map next_text ys ++ t) s b.0 (sym (append_assoc (run_text y) (flat_map next_text ys) t) ∙ sym e))
runs_read (x ∷ xs) [] s t a b c d e = absurd (run_none x (flat_map next_text xs ++ s) t a.0 (sym (append_assoc (run_text x) (flat_map next_text xs) s) ∙ e))
runs_read (x ∷ xs) (y ∷ ys) s t a b c d e =
    let o = run_read.read x y (flat_map next_text xs ++ s) (flat_map next_text ys ++ t) a.0 b.0 (nexts_stop xs s c) (nexts_stop ys t d)
    (sym (append_assoc (run_text x) (flat_map next_text xs) s) ∙ e ∙ append_assoc (run_text y) (flat_map next_text ys) t) in
    let p = nexts.read xs ys s t a.1 b.1 c d o.1 in
    (rw (o.0, p.0) refl, p.1)

-- ---- indexes

before_short : (x : ℕ) (rs : List (ℕ × ℕ)) → IsShort x → Each IsShortRun rs → Each IsShortRun (with_run x x rs)
before_short x [] h a = ((h, h), tt)
before_short x (r ∷ rs) h a = on (eqb r.0 (suc x))
  where
    on : (t : Bool) → Each IsShortRun (cond t ((x, r.1) ∷ rs) ((x, x) ∷ r ∷ rs))
    on true = ((h, a.0.1), a.1)
    on false = ((h, h), a)

runs_short : (xs : List ℕ) → Each IsShort xs → Each IsShortRun (runs xs)
runs_short [] h = tt
runs_short (x ∷ xs) h = before_short x (runs xs) h.0 (runs_short xs h.1)

with_run_text : (x : ℕ) (rs : List (ℕ × ℕ)) → runs_text (with_run x x rs) ≡ all_text (with_run x x rs)
with_run_text x [] = refl
with_run_text x (r ∷ rs) = on (eqb r.0 (suc x))
  where
    on : (t : Bool) → runs_text (cond t ((x, r.1) ∷ rs) ((x, x) ∷ r ∷ rs)) ≡ all_text (cond t ((x, r.1) ∷ rs) ((x, x) ∷ r ∷ rs))
    on true = refl
    on false = refl

text_of_runs : (xs : List ℕ) → indexes_text xs ≡ all_text (runs xs)
text_of_runs [] = refl
text_of_runs (x ∷ xs) = with_run_text x (runs xs)

-- The text of a list of indexes, followed by what is no digit, no dash and no space, determines the list and the rest.
pub indexes : IsReadable (Each IsShort) indexes_text (Stops runs_on)
indexes = record {
  read = λ x y s t a b c d e.
      let o = runs_read (runs x) (runs y) s t (runs_short x a) (runs_short y b) c d (ap (λ z. z ++ s) (sym (text_of_runs x)) ∙ e
      ∙ ap (λ z. z ++ t) (text_of_runs y)) in
      (same_runs x y o.0, o.1);
}
