-- Sums can be read back.
use Rattle.std.proofs.Common.{◌≡◌, ℕ, zero, suc, Bool, true, false, cond, eqb, ◌||◌, List, [], ◌∷◌, ◌++◌, length, refl, sym, ap, ◌∙◌, subst, arith, ℤ, pos, negsuc, unsigned_abs}
use Rattle.std.specs.Prelude.{codes, decimal, flat_map}
use Rattle.std.proofs.lemmas.Bool.{eqb-true}
use Rattle.std.proofs.lemmas.List.{append_assoc, append_cancel_left}
use Rattle.report.specs.Determined.{is_digit, is_name_byte, IsShort}
use Rattle.report.specs.Families.{Term, is_zero, is_below_zero, terms_of, size_text, sized_text, first_sign, later_sign, first_text, later_text, sum_text}
use Rattle.report.proofs.Reading.{IsReadable, Passes, Begins, Stops, Anything, Each, true_false, run_cut, clash, begins_on, fewer, behind, through, many, differ}
use Rattle.report.proofs.Numbers.{number, number_begins}

-- ---- labels

-- letters, digits, `_`, `.` and `#`
abbrev pub is_label_byte : ℕ → Bool
is_label_byte b = is_name_byte b || eqb b 35

-- `A` or `B`
abbrev pub is_side_byte : ℕ → Bool
is_side_byte b = eqb b 65 || eqb b 66

abbrev pub IsLabel : List ℕ → Type 0
IsLabel l = Passes is_label_byte l × Begins is_side_byte l

-- the label is none of these
abbrev pub NoneIs : List ℕ → List (List ℕ) → Type 0
NoneIs l [] = Unit {0}
NoneIs l (k ∷ ls) = (l ≡ k → ⊥) × NoneIs l ls

-- no label stands twice
abbrev pub AreApart : List (List ℕ) → Type 0
AreApart [] = Unit {0}
AreApart (l ∷ ls) = NoneIs l ls × AreApart ls

-- the labels are such, and no two are equal
pub record AreLabels (labels : List (List ℕ)) : Type 0 where
  pub each : Each IsLabel labels
  pub apart : AreApart labels

abbrev pub pair_text : ℕ × List ℕ → List ℕ
pair_text p = sized_text p.0 p.1

-- ---- a size and a label
abbrev pub FitsSized : ℕ × List ℕ → Type 0
FitsSized p = IsShort p.0 × IsLabel p.1

side_no_digit : (b : ℕ) → is_digit b ≡ true → is_side_byte b ≡ false
side_no_digit b h = grind (arith, h)

stops_side : (x : List ℕ) → Begins is_digit x → Stops is_side_byte x
stops_side [] h = tt
stops_side (b ∷ x) h = side_no_digit b h

label_number : (l s : List ℕ) (n : ℕ) (t : List ℕ) → IsLabel l → IsShort n → l ++ s ≡ decimal n ++ t → ⊥
label_number l s n t h k e = clash is_side_byte (l ++ s) (decimal n ++ t) (begins_on is_side_byte l s h.1) (stops_side (decimal n ++ t) (number_begins n t
    k)) e

sized_by : (p q : Bool) (m n : ℕ) (k l s t : List ℕ) → eqb m 1 ≡ p → eqb n 1 ≡ q → FitsSized (m, k) → FitsSized (n, l) → Stops is_label_byte s → Stops
    is_label_byte t → (size_text p m ++ k) ++ s ≡ (size_text q n ++ l) ++ t → (m ≡ n) × (k ≡ l) × (s ≡ t)
sized_by true true m n k l s t e f a b c d w =
    let o = run_cut is_label_byte k l s t a.1.0 b.1.0 c d w in
    (eqb-true m 1 e ∙ sym (eqb-true n 1 f), o.0, o.1)
sized_by true false m n k l s t e f a b c d w =
    absurd (label_number k s n (codes " " ++ (l ++ t)) a.1 b.0 (w ∙ append_assoc (decimal n ++ codes " ") l t ∙ append_assoc (decimal n) (codes " ") (l ++
    t)))
sized_by false true m n k l s t e f a b c d w =
    absurd (label_number l t m (codes " " ++ (k ++ s)) b.1 a.0 (sym w ∙ append_assoc (decimal m ++ codes " ") k s ∙ append_assoc (decimal m) (codes " ") (k
    ++ s)))
sized_by false false m n k l s t e f a b c d w =
    let v = sym (append_assoc (decimal m) (codes " ") (k ++ s)) ∙ sym (append_assoc (decimal m ++ codes " ") k s) ∙ w ∙ append_assoc (decimal n ++ codes
    " ") l t ∙ append_assoc (decimal n) (codes " ") (l ++ t) in
    let o = number.read m n (codes " " ++ (k ++ s)) (codes " " ++ (l ++ t)) a.0 b.0 refl refl v in
    let g : k ++ s ≡ l ++ t = append_cancel_left (codes " ") (k ++ s) (l ++ t) o.1 in
    let r = run_cut is_label_byte k l s t a.1.0 b.1.0 c d g in
    (o.0, r.0, r.1)

pair_eq : {A B : Type 0} (p q : A × B) → p.0 ≡ q.0 → p.1 ≡ q.1 → p ≡ q
pair_eq p q e f = ap (λ x. (x, p.1)) e ∙ ap (λ y. (q.0, y)) f

pub sized : IsReadable FitsSized pair_text (Stops is_label_byte)
sized = record {
  read = λ p q s t a b c d e. let o = sized_by (eqb p.0 1) (eqb q.0 1) p.0 q.0 p.1 q.1 s t refl refl a b c d e in (pair_eq p q o.0 o.1, o.2);
}

-- ---- terms
abbrev pub FitsTerm : Term → Type 0
FitsTerm t = IsShort t.size × IsLabel t.label

abbrev of_parts : Bool × (ℕ × List ℕ) → Term
of_parts p = record { negative = p.0; size = p.1.0; label = p.1.1 }

later_sign_read : IsReadable {A = Bool} (λ b. Unit {0}) later_sign Anything
later_sign_read = record { read = λ x y s t a b c d e. by x y s t e }
  where
    by : (x y : Bool) (s t : List ℕ) → later_sign x ++ s ≡ later_sign y ++ t → (x ≡ y) × (s ≡ t)
    by true true s t e = (refl, append_cancel_left (codes " - ") s t e)
    by true false s t e = absurd (differ (codes " - ") (codes " + ") s t refl e)
    by false true s t e = absurd (differ (codes " + ") (codes " - ") s t refl e)
    by false false s t e = (refl, append_cancel_left (codes " + ") s t e)

pub later : IsReadable FitsTerm later_text (Stops is_label_byte)
later = fewer (λ (t : Term). Unit {0} × FitsSized (t.size, t.label)) FitsTerm later_text (Stops is_label_byte) (λ x h. (tt, h))
    (through {A = Term} (λ (p : Bool × (ℕ × List ℕ)). Unit {0} × FitsSized p.1) (λ p. later_sign p.0 ++ pair_text p.1) (Stops is_label_byte) (λ t.
    (t.negative, (t.size, t.label))) (λ x y e. ap of_parts e)
    (behind (λ (b : Bool). Unit {0}) later_sign Anything (λ b. FitsSized) (λ b. pair_text) (Stops is_label_byte) later_sign_read (λ b h. sized) (λ b y s h k c.
    tt)))

-- ---- the first term
label_minus : (l s t : List ℕ) → IsLabel l → l ++ s ≡ codes "-" ++ t → ⊥
label_minus l s t h e = clash is_side_byte (l ++ s) (codes "-" ++ t) (begins_on is_side_byte l s h.1) refl e

-- what a size and a label begin with
abbrev pub opens : ℕ → Bool
opens b = is_digit b || is_side_byte b

opens_digit : (x : List ℕ) → Begins is_digit x → Begins opens x
opens_digit [] h = h
opens_digit (b ∷ x) h = rw h refl

or_true : (p q : Bool) → q ≡ true → (p || q) ≡ true
or_true true q h = refl
or_true false q h = h

opens_side : (x : List ℕ) → Begins is_side_byte x → Begins opens x
opens_side [] h = h
opens_side (b ∷ x) h = or_true (is_digit b) (is_side_byte b) h

sized_opens_by : (p : Bool) (n : ℕ) (l : List ℕ) → FitsSized (n, l) → Begins opens (size_text p n ++ l)
sized_opens_by true n l h = opens_side l h.1.1
sized_opens_by false n l h = subst (Begins opens) (sym (append_assoc (decimal n) (codes " ") l)) (opens_digit (decimal n ++ (codes " " ++ l))
    (number_begins n (codes " " ++ l) h.0))

pub sized_opens : (p : ℕ × List ℕ) → FitsSized p → Begins opens (pair_text p)
sized_opens p h = sized_opens_by (eqb p.0 1) p.0 p.1 h

sized_minus : (p : ℕ × List ℕ) (s t : List ℕ) → FitsSized p → pair_text p ++ s ≡ codes "-" ++ t → ⊥
sized_minus p s t h e = clash opens (pair_text p ++ s) (codes "-" ++ t) (begins_on opens (pair_text p) s (sized_opens p h)) refl e

first_by : (a b : Bool) (p q : ℕ × List ℕ) (s t : List ℕ) → FitsSized p → FitsSized q → Stops is_label_byte s → Stops is_label_byte t → (first_sign a ++
    pair_text p) ++ s ≡ (first_sign b ++ pair_text q) ++ t → (a ≡ b) × (p ≡ q) × (s ≡ t)
first_by true true p q s t f g c d e = let r : pair_text p ++ s ≡ pair_text q ++ t = append_cancel_left (codes "-") (pair_text p ++ s) (pair_text q ++ t) e
    in let o = sized.read p q s t f g c d r in (refl, o.0, o.1)
first_by true false p q s t f g c d e = absurd (sized_minus q t (pair_text p ++ s) g (sym e))
first_by false true p q s t f g c d e = absurd (sized_minus p s (pair_text q ++ t) f e)
first_by false false p q s t f g c d e = let o = sized.read p q s t f g c d e in (refl, o.0, o.1)

term_eq : (x y : Term) → x.negative ≡ y.negative → ◌≡◌ {A = ℕ × List ℕ} (x.size, x.label) (y.size, y.label) → x ≡ y
term_eq x y p q = ap (λ b. record { negative = b; size = x.size; label = x.label }) p ∙ ap (λ (r : ℕ × List ℕ). record {
  negative = y.negative;
  size = r.0;
  label = r.1;
}) q

pub first : IsReadable FitsTerm first_text (Stops is_label_byte)
first = record {
  read = λ x y s t a b c d e. let o = first_by x.negative y.negative (x.size, x.label) (y.size, y.label) s t a b c d e in (
    term_eq x y o.0
        o.1,
    o.2,
  );
}

first_opens : (x : Term) (s t : List ℕ) → FitsTerm x → first_text x ++ s ≡ codes " " ++ t → ⊥
first_opens x s t h e = by x.negative e
  where
    by : (n : Bool) → (first_sign n ++ sized_text x.size x.label) ++ s ≡ codes " " ++ t → ⊥
    by true e = differ (codes "-") (codes " ") (sized_text x.size x.label ++ s) t refl e
    by false e = clash opens (sized_text x.size x.label ++ s) (codes " " ++ t) (begins_on opens (sized_text x.size x.label) s (sized_opens (
      x.size,
      x.label,
    ) h)) refl e

-- ---- sums
-- what stands behind a sum begins with a space and `=` or `>`
abbrev pub is_relation : ℕ → Bool
is_relation b = eqb b 61 || eqb b 62

abbrev pub AfterSum : List ℕ → Type 0
AfterSum s = (b : ℕ) × (t : List ℕ) × (is_relation b ≡ true) × (s ≡ 32 ∷ b ∷ t)

sum_ends : (s : List ℕ) → AfterSum s → Stops is_label_byte s
sum_ends s h = subst (Stops is_label_byte) (sym h.3) refl

joint_sign : (n : Bool) (u t : List ℕ) (b : ℕ) → is_relation b ≡ true → later_sign n ++ u ≡ 32 ∷ b ∷ t → ⊥
joint_sign true u t b h e = let q : 45 ≡ b = cc in let r : is_relation 45 ≡ true = subst (λ c. is_relation c ≡ true) (sym q) h in true_false (is_relation
    45) r refl
joint_sign false u t b h e = let q : 43 ≡ b = cc in let r : is_relation 43 ≡ true = subst (λ c. is_relation c ≡ true) (sym q) h in true_false (is_relation
    43) r refl

joint_stops : (n : Bool) (u : List ℕ) → Stops is_label_byte (later_sign n ++ u)
joint_stops true u = refl
joint_stops false u = refl

later_stops : (x : Term) (s : List ℕ) → Stops is_label_byte (later_text x ++ s)
later_stops x s = subst (Stops is_label_byte) (sym (append_assoc (later_sign x.negative) (sized_text x.size x.label) s)) (joint_stops x.negative
    (sized_text x.size x.label ++ s))

laters : IsReadable (Each FitsTerm) (flat_map later_text) AfterSum
laters = many FitsTerm later_text (Stops is_label_byte) AfterSum later (record {
  ends = sum_ends;
  goes = λ x s h. later_stops x s;
  apart = λ x s t h a e. joint_sign x.negative (sized_text x.size x.label ++ s) a.1 a.0 a.2 (sym (append_assoc (later_sign x.negative) (sized_text x.size
      x.label) s) ∙ e ∙ a.3);
})

laters_stop : (ts : List Term) (s : List ℕ) → AfterSum s → Stops is_label_byte (flat_map later_text ts ++ s)
laters_stop [] s h = sum_ends s h
laters_stop (t ∷ ts) s h = subst (Stops is_label_byte) (sym (append_assoc (later_text t) (flat_map later_text ts) s)) (later_stops t (flat_map later_text
    ts ++ s))

first_after : (x : Term) (s t : List ℕ) → FitsTerm x → AfterSum t → first_text x ++ s ≡ t → ⊥
first_after x s t h a e = first_opens x s (a.0 ∷ a.1) h (e ∙ a.3)

sum_read : (xs ys : List Term) (s t : List ℕ) → Each FitsTerm xs → Each FitsTerm ys → AfterSum s → AfterSum t → sum_text xs ++ s ≡ sum_text ys ++ t → (xs ≡
    ys) × (s ≡ t)
sum_read [] [] s t a b c d e = (refl, e)
sum_read [] (y ∷ ys) s t a b c d e = absurd (first_after y (flat_map later_text ys ++ t) s b.0 c (sym (append_assoc (first_text y) (flat_map later_text ys)
    t) ∙ sym e))
sum_read (x ∷ xs) [] s t a b c d e = absurd (first_after x (flat_map later_text xs ++ s) t a.0 d (sym (append_assoc (first_text x) (flat_map later_text xs)
    s) ∙ e))
sum_read (x ∷ xs) (y ∷ ys) s t a b c d e =
    let o = first.read x y (flat_map later_text xs ++ s) (flat_map later_text ys ++ t) a.0 b.0 (laters_stop xs s c) (laters_stop ys t d) (sym (append_assoc
    (first_text x) (flat_map later_text xs) s) ∙ e ∙ append_assoc (first_text y) (flat_map later_text ys) t) in
    let p = laters.read xs ys s t a.1 b.1 c d o.1 in
    (rw (o.0, p.0) refl, p.1)

pub sum : IsReadable (Each FitsTerm) sum_text AfterSum
sum = record { read = λ x y s t a b c d e. sum_read x y s t a b c d e }

abbrev LabelsAmong : List Term → List ℕ → Type 0
LabelsAmong [] l = Unit {0}
LabelsAmong (t ∷ ts) l = (l ≡ t.label → ⊥) × LabelsAmong ts l

not_among : (cs : List ℤ) (ls : List (List ℕ)) (l : List ℕ) → NoneIs l ls → LabelsAmong (terms_of cs ls) l
not_among [] ls l h = tt
not_among (c ∷ cs) [] l h = tt
not_among (c ∷ cs) (k ∷ ls) l h = on (is_zero c) (not_among cs ls l h.1)
  where
    on : (b : Bool) → LabelsAmong (terms_of cs ls) l → LabelsAmong (cond b (terms_of cs ls) (record {
      negative = is_below_zero c;
      size = unsigned_abs c;
      label = k;
    } ∷ terms_of cs ls)) l
    on true r = r
    on false r = (h.0, r)

number_of : (c d : ℤ) → is_below_zero c ≡ is_below_zero d → unsigned_abs c ≡ unsigned_abs d → c ≡ d
number_of (pos m) (pos n) p q = ap pos q
number_of (pos m) (negsuc n) p q = cc
number_of (negsuc m) (pos n) p q = cc
number_of (negsuc m) (negsuc n) p q = let e : m ≡ n = omega (arith, q) in ap negsuc e

nil_is : (c : ℤ) → is_zero c ≡ true → c ≡ pos 0
nil_is (pos zero) h = refl
nil_is (pos (suc n)) h = cc
nil_is (negsuc n) h = cc

foreign : (ts us : List Term) (t : Term) → LabelsAmong ts t.label → ts ≡ t ∷ us → ⊥
foreign [] us t h e = cc
foreign (s ∷ ts) us t h e = let q : s ≡ t = cc in h.0 (ap (λ (x : Term). x.label) (sym q))

pub coefs_of : (cs ds : List ℤ) (ls : List (List ℕ)) → length cs ≡ length ls → length ds ≡ length ls → AreApart ls → terms_of cs ls ≡ terms_of ds ls → cs ≡
    ds
coefs_of [] [] ls p q a e = refl
coefs_of [] (d ∷ ds) ls p q a e = absurd (omega (arith, p, q))
coefs_of (c ∷ cs) [] ls p q a e = absurd (omega (arith, p, q))
coefs_of (c ∷ cs) (d ∷ ds) [] p q a e = cc
coefs_of (c ∷ cs) (d ∷ ds) (l ∷ ls) p q a e = on (is_zero c) (is_zero d) (coefs_of cs ds ls (omega (arith, p)) (omega (arith, q)) a.1) refl refl e
  where
    on : (x y : Bool) → (terms_of cs ls ≡ terms_of ds ls → cs ≡ ds) → is_zero c ≡ x → is_zero d ≡ y → cond x (terms_of cs ls) (record {
      negative =
          is_below_zero c;
      size = unsigned_abs c;
      label = l;
    } ∷ terms_of cs ls) ≡ cond y (terms_of ds ls) (record {
      negative = is_below_zero d;
      size =
          unsigned_abs d;
      label = l;
    } ∷ terms_of ds ls) → c ∷ cs ≡ d ∷ ds
    on true true r f g e = rw (nil_is c f, nil_is d g, r e) refl
    on true false r f g e = absurd (foreign (terms_of cs ls) (terms_of ds ls) (record { negative = is_below_zero d; size = unsigned_abs d; label = l })
        (not_among cs ls l a.0) e)
    on false true r f g e = absurd (foreign (terms_of ds ls) (terms_of cs ls) (record { negative = is_below_zero c; size = unsigned_abs c; label = l })
        (not_among ds ls l a.0) (sym e))
    on false false r f g e =
        let h : ◌≡◌ {A = Term} (record { negative = is_below_zero c; size = unsigned_abs c; label = l }) (record {
          negative = is_below_zero d;
          size =
              unsigned_abs d;
          label = l;
        }) = cc in
        let n : is_below_zero c ≡ is_below_zero d = ap (λ (x : Term). x.negative) h in
        let z : unsigned_abs c ≡ unsigned_abs d = ap (λ (x : Term). x.size) h in
        let k : terms_of cs ls ≡ terms_of ds ls = cc in
        rw (number_of c d n z, r k) refl
