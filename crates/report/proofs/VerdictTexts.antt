-- The text of a verdict determines what it tells, where the text of a family determines the family.
use Rattle.std.proofs.Common.{◌≡◌, ℕ, suc, ℤ, Bool, true, false, eqb, ◌||◌, List, [], ◌∷◌, ◌++◌, length, refl, sym, ap, ◌∙◌, subst, arith}
use Rattle.std.specs.Prelude.{codes, decimal, flat_map, All}
use Rattle.std.specs.Fmt.{signed_decimal}
use Rattle.std.proofs.lemmas.List.{append_assoc, append_cancel_left}
use Rattle.std.proofs.lemmas.List.Elements.{All-head, All-tail}
use Rattle.c_ast.specs.Comparison.{Comparison, IsComparison}
use Rattle.alignment.specs.Number.{IsAlignment}
use Rattle.horn_clauses.specs.declared.family.Family.{Family}
use Rattle.pool_core.specs.declared.verdict.Why.{Why}
use Rattle.pool_core.specs.declared.verdict.Verdict.{Verdict}
use Rattle.pool_core.specs.declared.verdict.Verdict.TheVariants.{Equivalent, Different, Unknown}
use Rattle.report.specs.Indexes.{indexes_text}
use Rattle.report.specs.Samples.{sample_lines}
use Rattle.report.specs.Families.{family_text}
use Rattle.report.specs.Limits.{why_text}
use Rattle.report.specs.Verdicts.{reason_text, reasons_text, verdict_text}
use Rattle.report.specs.Fits.{FitsWhy, FitsSubject}
use Rattle.report.specs.Determined.{is_digit, HasPlainNames, IsShort, IsShortSigned, IsShortWhy, HasShortNumbers, TellTheSame, TextsDetermineVerdicts}
use Rattle.report.proofs.FamilyTexts.{IsToldFamily, in_family, families}
use Rattle.report.proofs.Reading.{narrowed, IsReadable, Stops, Anything, Each, clash, past, closed, behind, many}
use Rattle.report.proofs.Numbers.{number, signed}
use Rattle.report.proofs.IndexTexts.{indexes, runs_on}
use Rattle.report.proofs.SampleTexts.{Aligned, samples_read}
use Rattle.report.proofs.ReasonTexts.{IsNext, ReadsFamilies, why}

all_each : {X : Type 0} (P : X → Type 0) (xs : List X) → All P xs → Each P xs
all_each P [] h = tt
all_each P (x ∷ xs) h = (All-head P x xs h, all_each P xs (All-tail P x xs h))

-- ---- equivalent

alignment_short : (n : ℕ) → IsAlignment n → IsShort n
alignment_short n h = let m = h.most in omega (arith, m)

module _ (subject : Comparison) (h : ReadsFamilies subject) where
  pairs_part : IsReadable {A = List ℕ × Family} (λ p. Each IsShort p.0 × IsToldFamily subject p.1) (λ p. indexes_text p.0 ++
      (codes "\n" ++ family_text subject p.1)) IsNext
  pairs_part = behind (Each IsShort) indexes_text (Stops runs_on) (λ xs. IsToldFamily subject) (λ xs f. codes "\n" ++ family_text subject f) IsNext indexes
      (λ xs k. past (IsToldFamily subject) (family_text subject) IsNext (codes "\n") h) (λ xs f s a b c. refl)

  equivalent : IsReadable {A = ℕ × (List ℕ × Family)} (λ p. IsShort p.0 × (Each IsShort p.1.0 × IsToldFamily subject p.1.1))
      (λ p. decimal p.0 ++ (codes "\npairs " ++ (indexes_text p.1.0 ++ (codes "\n" ++ family_text subject p.1.1)))) IsNext
  equivalent = behind IsShort decimal (Stops is_digit) (λ k (p : List ℕ × Family). Each IsShort p.0 × IsToldFamily subject p.1)
      (λ k p. codes "\npairs " ++ (indexes_text p.0 ++ (codes "\n" ++ family_text subject p.1))) IsNext number
      (λ k l. past (λ (p : List ℕ × Family). Each IsShort p.0 × IsToldFamily subject p.1) (λ p. indexes_text p.0 ++
      (codes "\n" ++ family_text subject p.1)) IsNext
      (codes "\npairs ") pairs_part) (λ k p s a b c. refl)

-- ---- different

abbrev value_on : ℕ → Bool
value_on b = is_digit b || eqb b 32

value_ends : (s : List ℕ) → Stops value_on s → Stops is_digit s
value_ends [] h = tt
value_ends (b ∷ s) h = on (is_digit b) (eqb b 32) h
  where
    on : (p q : Bool) → (p || q) ≡ false → p ≡ false
    on true q e = cc
    on false q e = refl

abbrev value_text : ℤ → List ℕ
value_text z = codes " " ++ signed_decimal z

value : IsReadable IsShortSigned value_text (Stops is_digit)
value = past IsShortSigned signed_decimal (Stops is_digit) (codes " ") signed

value_clash : (z : ℤ) (s t : List ℕ) → Stops value_on t → value_text z ++ s ≡ t → ⊥
value_clash z s t h e = clash value_on (value_text z ++ s) t refl h e

input_read : IsReadable (Each IsShortSigned) (flat_map value_text) (Stops value_on)
input_read = many IsShortSigned value_text (Stops is_digit) (Stops value_on) value
    (record { ends = value_ends; goes = λ x s h. refl; apart = λ x s t a b e. value_clash x s t b e })

last : IsReadable IsShortSigned (λ z. codes "\nB returns " ++ (signed_decimal z ++ codes "\n")) Anything
last = past IsShortSigned (λ z. signed_decimal z ++ codes "\n") Anything (codes "\nB returns ") (closed IsShortSigned signed_decimal
    (Stops is_digit) (codes "\n") (λ s. refl) signed)

abbrev results_text : ℤ × ℤ → List ℕ
results_text p = signed_decimal p.0 ++ (codes "\nB returns " ++ (signed_decimal p.1 ++ codes "\n"))

abbrev ShortResults : ℤ × ℤ → Type 0
ShortResults p = IsShortSigned p.0 × IsShortSigned p.1

results : IsReadable {A = ℤ × ℤ} ShortResults results_text Anything
results = behind IsShortSigned signed_decimal (Stops is_digit) (λ z. IsShortSigned) (λ z y. codes "\nB returns " ++
    (signed_decimal y ++ codes "\n")) Anything signed
    (λ z h. last) (λ z y s a b c. refl)

abbrev input_lines : List ℤ × (ℤ × ℤ) → List ℕ
input_lines p = flat_map value_text p.0 ++ (codes "\nA returns " ++ results_text p.1)

input_part : IsReadable {A = List ℤ × (ℤ × ℤ)} (λ p. Each IsShortSigned p.0 × ShortResults p.1) input_lines Anything
input_part = behind (Each IsShortSigned) (flat_map value_text) (Stops value_on) (λ xs. ShortResults)
    (λ xs p. codes "\nA returns " ++ results_text p) Anything input_read
    (λ xs h. past {A = ℤ × ℤ} ShortResults results_text Anything (codes "\nA returns ") results) (λ xs p s a b c. refl)

different : IsReadable {A = ℕ × (List ℤ × (ℤ × ℤ))} (λ p. IsShort p.0 × (Each IsShortSigned p.1.0 × ShortResults p.1.1)) (λ p. decimal p.0 ++
    (codes "\ninput" ++ input_lines p.1)) Anything
different = behind IsShort decimal (Stops is_digit) (λ i (p : List ℤ × (ℤ × ℤ)). Each IsShortSigned p.0 × ShortResults p.1)
    (λ i p. codes "\ninput" ++ input_lines p) Anything number
    (λ i h. past (λ (p : List ℤ × (ℤ × ℤ)). Each IsShortSigned p.0 × ShortResults p.1) input_lines Anything (codes "\ninput") input_part) (λ i p s a b c. refl)

-- ---- unknown

reason_starts : (u : Comparison) (k : ℕ) (x : Why) (r : List ℕ) → reason_text u k x ++ r ≡ codes "alignment " ++ (decimal k ++ (codes " " ++
    (why_text u x ++ r)))
reason_starts u k x r = ap (λ z. codes "alignment " ++ z) (append_assoc (decimal k) (codes " " ++ why_text u x) r)

reasons_next : (u : Comparison) (k : ℕ) (xs : List Why) → IsNext (reasons_text u k xs)
reasons_next u k [] = tt
reasons_next u k (x ∷ xs) = refl

aligned : (u : Comparison) (k : ℕ) (xs : List Why) → length xs ≡ 12 → Aligned (reasons_text u k xs)
aligned u k [] e = cc
aligned u k (x ∷ xs) e = record {
  more = decimal k ++ (codes " " ++ (why_text u x ++ reasons_text u (suc k) xs));
  starts = reason_starts u k x
      (reasons_text u (suc k) xs);
}

reasons_read : (u : Comparison) → ReadsFamilies u → (k : ℕ) (xs ys : List Why) → length xs ≡ length ys → All (FitsWhy u) xs → All (FitsWhy u) ys
    → All IsShortWhy xs
    → All IsShortWhy ys → reasons_text u k xs ≡ reasons_text u k ys → xs ≡ ys
reasons_read u h k [] [] n a b c d e = refl
reasons_read u h k [] (y ∷ ys) n a b c d e = cc
reasons_read u h k (x ∷ xs) [] n a b c d e = cc
reasons_read u h k (x ∷ xs) (y ∷ ys) n a b c d e =
    let r = reasons_text u (suc k) xs in
    let q = reasons_text u (suc k) ys in
    let f = append_cancel_left (codes "alignment ") (decimal k ++ (codes " " ++ (why_text u x ++ r))) (decimal k ++ (codes " " ++ (why_text u y ++ q)))
    (sym (reason_starts u k x r) ∙ e ∙ reason_starts u k y q) in
    let g = append_cancel_left (decimal k) (codes " " ++ (why_text u x ++ r)) (codes " " ++ (why_text u y ++ q)) f in
    let i = append_cancel_left (codes " ") (why_text u x ++ r) (why_text u y ++ q) g in
    let o = (why u h).read x y r q (record { fits = All-head (FitsWhy u) x xs a; short = All-head IsShortWhy x xs c })
    (record { fits = All-head (FitsWhy u) y ys b; short = All-head IsShortWhy y ys d }) (reasons_next u (suc k) xs) (reasons_next u (suc k) ys) i in
    let m : length xs ≡ length ys = omega (arith, n) in
    let p = reasons_read u h (suc k) xs ys m (All-tail (FitsWhy u) x xs a) (All-tail (FitsWhy u) y ys b) (All-tail IsShortWhy x xs c)
    (All-tail IsShortWhy y ys d) o.1 in
    rw (o.0, p) refl

-- ---- verdicts

verdict_read : (u : Comparison) → ReadsFamilies u → (x y : Verdict) → FitsSubject u x → FitsSubject u y → HasShortNumbers x → HasShortNumbers y
    → verdict_text u x ++ [] ≡ verdict_text u y ++ [] → verdict_text u x ≡ verdict_text u y → TellTheSame x y
verdict_read u h (Equivalent k xs) (Equivalent l ys) f g a b e w =
    let o = (past {A = ℕ × (List ℕ × Family)} (λ p. IsShort p.0 × (Each IsShort p.1.0 × IsToldFamily u p.1.1))
    (λ p. decimal p.0 ++ (codes "\npairs " ++ (indexes_text p.1.0 ++ (codes "\n" ++ family_text u p.1.1)))) IsNext (codes "equivalent\nalignment ")
    (equivalent u h)).read
    (k.alignment, (xs, k.family)) (l.alignment, (ys, l.family)) [] []
    (alignment_short k.alignment f.named, (all_each IsShort xs a.0, (f.family, a.1))) (
      alignment_short l.alignment g.named,
      (all_each IsShort ys b.0, (g.family, b.1)),
    ) tt tt e in
    (ap (λ (p : ℕ × (List ℕ × Family)). p.0) o.0, ap (λ (p : ℕ × (List ℕ × Family)). p.1.0) o.0, ap (λ (p : ℕ × (List ℕ × Family)). p.1.1) o.0)
verdict_read u h (Equivalent k xs) (Different i x m n) f g a b e w = absurd (clash (λ c. eqb c 101) (verdict_text u (Equivalent k xs))
    (verdict_text u (Different i x m n)) refl refl w)
verdict_read u h (Equivalent k xs) (Unknown ss ys) f g a b e w = absurd (clash (λ c. eqb c 101) (verdict_text u (Equivalent k xs)) (verdict_text u
    (Unknown ss ys)) refl refl w)
verdict_read u h (Different i x m n) (Equivalent l ys) f g a b e w = absurd (clash (λ c. eqb c 100) (verdict_text u (Different i x m n))
    (verdict_text u (Equivalent l ys)) refl refl w)
verdict_read u h (Different i x m n) (Different j y p q) f g a b e w =
    let o = (past {A = ℕ × (List ℤ × (ℤ × ℤ))} (λ p. IsShort p.0 × (Each IsShortSigned p.1.0 × ShortResults p.1.1)) (λ p. decimal p.0 ++
    (codes "\ninput" ++ input_lines p.1)) Anything
    (codes "different\nsample ") different).read (i, (x, (m, n))) (j, (y, (p, q))) [] []
    (a.0, (all_each IsShortSigned x a.1, (a.2, a.3))) (b.0, (all_each IsShortSigned y b.1, (b.2, b.3))) tt tt e in (
      ap (λ (p : ℕ × (List ℤ × (ℤ × ℤ))). p.0) o.0,
      ap (λ (p : ℕ × (List ℤ × (ℤ × ℤ))). p.1.0) o.0,
      ap (λ (p : ℕ × (List ℤ × (ℤ × ℤ))). p.1.1.0) o.0,
      ap (λ (p : ℕ × (List ℤ × (ℤ × ℤ))). p.1.1.1) o.0,
    )
verdict_read u h (Different i x m n) (Unknown ss ys) f g a b e w = absurd (clash (λ c. eqb c 100) (verdict_text u (Different i x m n))
    (verdict_text u (Unknown ss ys)) refl refl w)
verdict_read u h (Unknown rs xs) (Equivalent l ys) f g a b e w = absurd (clash (λ c. eqb c 117) (verdict_text u (Unknown rs xs)) (verdict_text u
    (Equivalent l ys)) refl refl w)
verdict_read u h (Unknown rs xs) (Different j y p q) f g a b e w = absurd (clash (λ c. eqb c 117) (verdict_text u (Unknown rs xs)) (verdict_text u
    (Different j y p q)) refl refl w)
verdict_read u h (Unknown rs xs) (Unknown ss ys) f g a b e w =
    let v = append_cancel_left (codes "unknown\n") (sample_lines rs ++ reasons_text u 1 xs) (sample_lines ss ++ reasons_text u 1 ys) w in
    let o = samples_read rs ss (reasons_text u 1 xs) (reasons_text u 1 ys) f.samples_kept g.samples_kept a.0 b.0 (aligned u 1 xs f.twelve)
    (aligned u 1 ys g.twelve) v in
    (o.0, reasons_read u h 1 xs ys (f.twelve ∙ sym g.twelve) f.reasons g.reasons a.1 b.1 o.1)

-- Texts determine verdicts, if the text of a family determines it and what stands behind it.
pub verdicts_from_families : ((subject : Comparison) → IsComparison subject → HasPlainNames subject → ReadsFamilies subject) → TextsDetermineVerdicts
verdicts_from_families families = λ u x y c n f g e. verdict_read u (families u c n) x y f.fits g.fits f.short g.short (ap (λ z. z ++ []) e) e

-- ---- the law

next_stops : (s : List ℕ) → IsNext s → Stops in_family s
next_stops [] next = tt
next_stops (b ∷ s) next = subst (λ (byte : ℕ). in_family byte ≡ false) (sym next) refl

-- Verdicts with one text tell the same.
pub texts_determine : TextsDetermineVerdicts
texts_determine = verdicts_from_families (λ subject formed names.
    narrowed (IsToldFamily subject) (family_text subject) (Stops in_family) IsNext next_stops (families subject formed names))
