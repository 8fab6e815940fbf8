-- The lines of the samples can be read back.
use Rattle.std.proofs.Common.{◌≡◌, ℕ, suc, ◌+◌, ◌^◌, ◌<◌, ◌≤◌, Bool, true, false, cond, ◌&&◌, List, [], ◌∷◌, ◌++◌, length, refl, sym, ap, ◌∙◌, subst, arith}
use Rattle.std.specs.Prelude.{codes, flat_map, All}
use Rattle.std.proofs.lemmas.List.{append_assoc, append_cancel_left}
use Rattle.std.proofs.lemmas.List.Elements.{All-head, All-tail}
use Rattle.c_ast.specs.declared.place.Side.{Side}
use Rattle.c_ast.specs.declared.place.Side.TheVariants.{A, B, Pre}
use Rattle.graph_run.specs.declared.skip.Skip.{Skip}
use Rattle.graph_run.specs.declared.skip.Skip.TheVariants.{NotEnded, Wide, Unmet, Memory}
use Rattle.trace_pair.specs.Pairs.{IsCauseOf}
use Rattle.pool_core.specs.declared.verdict.SampleWhy.{SampleWhy}
use Rattle.pool_core.specs.declared.verdict.SampleWhy.TheVariants.{Equal, Skipped}
use Rattle.report.specs.Indexes.{indexes_text}
use Rattle.report.specs.Samples.{IsKeptSample, is_side, is_why, is_same, indexes_from, indexes_where, skip_of, causes, index_line, sample_line, sample_lines}
use Rattle.report.specs.Determined.{IsShort}
use Rattle.report.proofs.Reading.{IsReadable, Stops, Anything, Each, closed, past, unlike, differ}
use Rattle.report.proofs.IndexTexts.{indexes, runs_on}

-- ---- one line

-- the text does not begin with the word
pub record Avoids (v s : List ℕ) : Type 0 where
  pub by : (t : List ℕ) → s ≡ v ++ t → ⊥

rest_read : IsReadable (Each IsShort) (λ xs. codes " " ++ (indexes_text xs ++ codes "\n")) Anything
rest_read = past (Each IsShort) (λ xs. indexes_text xs ++ codes "\n") Anything (codes " ")
    (closed (Each IsShort) indexes_text (Stops runs_on) (codes "\n") (λ s. refl) indexes)

line_starts : (w : List ℕ) (x : ℕ) (xs s : List ℕ)
    → index_line w (x ∷ xs) ++ s ≡ w ++ ((codes " " ++ (indexes_text (x ∷ xs) ++ codes "\n")) ++ s)
line_starts w x xs s = append_assoc w (codes " " ++ (indexes_text (x ∷ xs) ++ codes "\n")) s

line_read : (w xs ys s t : List ℕ) → Each IsShort xs → Each IsShort ys → Avoids w s → Avoids w t → index_line w xs ++ s ≡ index_line w ys ++ t
    → (xs ≡ ys) × (s ≡ t)
line_read w [] [] s t a b c d e = (refl, e)
line_read w [] (y ∷ ys) s t a b c d e = absurd (c.by ((codes " " ++ (indexes_text (y ∷ ys) ++ codes "\n")) ++ t) (e ∙ line_starts w y ys t))
line_read w (x ∷ xs) [] s t a b c d e = absurd (d.by ((codes " " ++ (indexes_text (x ∷ xs) ++ codes "\n")) ++ s) (sym e ∙ line_starts w x xs s))
line_read w (x ∷ xs) (y ∷ ys) s t a b c d e =
    rest_read.read (x ∷ xs) (y ∷ ys) s t a b tt tt (append_cancel_left w ((codes " " ++ (indexes_text (x ∷ xs) ++ codes "\n")) ++ s)
    ((codes " " ++ (indexes_text (y ∷ ys) ++ codes "\n")) ++ t) (sym (line_starts w x xs s) ∙ e ∙ line_starts w y ys t))

avoid_line : (w v xs s : List ℕ) → unlike w v ≡ true → Avoids v s → Avoids v (index_line w xs ++ s)
avoid_line w v [] s h a = a
avoid_line w v (x ∷ xs) s h a = record {
  by = λ t e.
      differ w v ((codes " " ++ (indexes_text (x ∷ xs) ++ codes "\n")) ++ s) t h (sym (line_starts w x xs s) ∙ e);
}

-- ---- the lines of some causes

abbrev Row : Type 0
Row = SampleWhy × List ℕ

-- the lines of these causes
abbrev lines_of : List SampleWhy → List Row → List ℕ
lines_of samples rows = flat_map (λ row. sample_line row.1 row.0 samples) rows

-- each word is unlike those behind it
abbrev AreUnlike : List Row → Type 0
AreUnlike [] = Unit {0}
AreUnlike (r ∷ rs) = Each (λ (q : Row). unlike q.1 r.1 ≡ true) rs × AreUnlike rs

abbrev AvoidsAll : List Row → List ℕ → Type 0
AvoidsAll rows s = Each (λ (r : Row). Avoids r.1 s) rows

avoid_lines : (v : List ℕ) (samples : List SampleWhy) (rows : List Row) (s : List ℕ) → Each (λ (q : Row). unlike q.1 v ≡ true) rows → Avoids v s
    → Avoids v (lines_of samples rows ++ s)
avoid_lines v samples [] s h a = a
avoid_lines v samples (r ∷ rs) s h a = subst (Avoids v) (sym (append_assoc (sample_line r.1 r.0 samples) (lines_of samples rs) s))
    (avoid_line r.1 v (indexes_where r.0 samples) (lines_of samples rs ++ s) h.0 (avoid_lines v samples rs s h.1 a))

places_short : (k : SampleWhy) (i : ℕ) (xs : List SampleWhy) → i + length xs < 10 ^ 64 → Each IsShort (indexes_from i k xs)
places_short k i [] h = tt
places_short k i (x ∷ xs) h = on (is_same x k) (places_short k (suc i) xs (omega (arith, h)))
  where
    on : (b : Bool) → Each IsShort (indexes_from (suc i) k xs) → Each IsShort (cond b (i ∷ indexes_from (suc i) k xs) (indexes_from (suc i) k xs))
    on true r = (omega (arith, h), r)
    on false r = r

lines_read : (rows : List Row) (xs ys : List SampleWhy) (s t : List ℕ) → length xs < 10 ^ 64 → length ys < 10 ^ 64 → AreUnlike rows
    → AvoidsAll rows s → AvoidsAll rows t
    → lines_of xs rows ++ s ≡ lines_of ys rows ++ t → Each (λ (r : Row). indexes_where r.0 xs ≡ indexes_where r.0 ys) rows × (s ≡ t)
lines_read [] xs ys s t a b h c d e = (tt, e)
lines_read (r ∷ rs) xs ys s t a b h c d e =
    let o = line_read r.1 (indexes_where r.0 xs) (indexes_where r.0 ys) (lines_of xs rs ++ s) (lines_of ys rs ++ t)
    (places_short r.0 0 xs (omega (arith, a))) (places_short r.0 0 ys (omega (arith, b)))
    (avoid_lines r.1 xs rs s h.0 c.0) (avoid_lines r.1 ys rs t h.0 d.0)
    (sym (append_assoc (sample_line r.1 r.0 xs) (lines_of xs rs) s) ∙ e ∙ append_assoc (sample_line r.1 r.0 ys) (lines_of ys rs) t) in
    let p = lines_read rs xs ys s t a b h.1 c.1 d.1 o.1 in
    ((o.0, p.0), p.1)

-- ---- the places determine the samples

side_self : (s : Side) → is_side s s ≡ true
side_self A = refl
side_self B = refl
side_self Pre = refl

why_self : (w : Skip) → is_why w w ≡ true
why_self NotEnded = refl
why_self Wide = refl
why_self Unmet = refl
why_self Memory = refl

sample_self : (k : SampleWhy) → is_same k k ≡ true
sample_self Equal = refl
sample_self (Skipped k) = rw (side_self k.side, why_self k.why) refl

side_is : (s t : Side) → is_side s t ≡ true → s ≡ t
side_is A A h = refl
side_is A B h = cc
side_is A Pre h = cc
side_is B A h = cc
side_is B B h = refl
side_is B Pre h = cc
side_is Pre A h = cc
side_is Pre B h = cc
side_is Pre Pre h = refl

why_is : (s t : Skip) → is_why s t ≡ true → s ≡ t
why_is NotEnded NotEnded h = refl
why_is NotEnded Wide h = cc
why_is NotEnded Unmet h = cc
why_is NotEnded Memory h = cc
why_is Wide NotEnded h = cc
why_is Wide Wide h = refl
why_is Wide Unmet h = cc
why_is Wide Memory h = cc
why_is Unmet NotEnded h = cc
why_is Unmet Wide h = cc
why_is Unmet Unmet h = refl
why_is Unmet Memory h = cc
why_is Memory NotEnded h = cc
why_is Memory Wide h = cc
why_is Memory Unmet h = cc
why_is Memory Memory h = refl

both_true : (p q : Bool) → (p && q) ≡ true → (p ≡ true) × (q ≡ true)
both_true true true h = (refl, refl)
both_true true false h = cc
both_true false q h = cc

sample_is : (j k : SampleWhy) → is_same j k ≡ true → j ≡ k
sample_is Equal Equal h = refl
sample_is Equal (Skipped k) h = cc
sample_is (Skipped j) Equal h = cc
sample_is (Skipped j) (Skipped k) h =
    let o = both_true (is_side j.side k.side) (is_why j.why k.why) h in
    ap (λ z. skip_of z j.why) (side_is j.side k.side o.0) ∙ ap (λ z. skip_of k.side z) (why_is j.why k.why o.1)

-- each number in the list is at least i
abbrev AtOrPast : ℕ → List ℕ → Type 0
AtOrPast i [] = Unit {0}
AtOrPast i (x ∷ xs) = (i ≤ x) × AtOrPast i xs

past_less : (i j : ℕ) (xs : List ℕ) → i ≤ j → AtOrPast j xs → AtOrPast i xs
past_less i j [] h a = tt
past_less i j (x ∷ xs) h a = (omega (arith, h, a.0), past_less i j xs h a.1)

places_past : (k : SampleWhy) (i : ℕ) (xs : List SampleWhy) → AtOrPast i (indexes_from i k xs)
places_past k i [] = tt
places_past k i (x ∷ xs) = on (is_same x k) (past_less i (suc i) (indexes_from (suc i) k xs) (omega arith) (places_past k (suc i) xs))
  where
    on : (b : Bool) → AtOrPast i (indexes_from (suc i) k xs) → AtOrPast i (cond b (i ∷ indexes_from (suc i) k xs) (indexes_from (suc i) k xs))
    on true h = (omega arith, h)
    on false h = h

not_first : (i : ℕ) (xs ys : List ℕ) → AtOrPast (suc i) ys → i ∷ xs ≡ ys → ⊥
not_first i xs [] h e = cc
not_first i xs (y ∷ ys) h e = let q : i ≡ y = cc in absurd (omega (arith, q, h.0))

first_same : (i : ℕ) (k y : SampleWhy) (xs ys : List SampleWhy) → i ∷ indexes_from (suc i) k xs ≡ indexes_from i k (y ∷ ys) → is_same y k ≡ true
first_same i k y xs ys e = on (is_same y k) refl e
  where
    on : (b : Bool) → is_same y k ≡ b → i ∷ indexes_from (suc i) k xs ≡ cond b (i ∷ indexes_from (suc i) k ys) (indexes_from (suc i) k ys) → is_same y k ≡ true
    on true q e = q
    on false q e = absurd (not_first i (indexes_from (suc i) k xs) (indexes_from (suc i) k ys) (places_past k (suc i) ys) e)

first_of_list : (i : ℕ) (x : SampleWhy) (xs : List SampleWhy) → indexes_from i x (x ∷ xs) ≡ i ∷ indexes_from (suc i) x xs
first_of_list i x xs = rw (sample_self x) refl

tail_same : (i : ℕ) (b : Bool) (us vs : List ℕ) → cond b (i ∷ us) us ≡ cond b (i ∷ vs) vs → us ≡ vs
tail_same i true us vs e = cc
tail_same i false us vs e = e

same_samples : (i : ℕ) (xs ys : List SampleWhy) → All IsKeptSample xs → All IsKeptSample ys
    → ((k : SampleWhy) → IsKeptSample k → indexes_from i k xs ≡ indexes_from i k ys) → xs ≡ ys
same_samples i [] [] a b h = refl
same_samples i [] (y ∷ ys) a b h = let e = h y (All-head IsKeptSample y ys b) ∙ first_of_list i y ys in cc
same_samples i (x ∷ xs) [] a b h = let e = sym (first_of_list i x xs) ∙ h x (All-head IsKeptSample x xs a) in cc
same_samples i (x ∷ xs) (y ∷ ys) a b h =
    let q : x ≡ y = sym (sample_is y x (first_same i x y xs ys (sym (first_of_list i x xs) ∙ h x (All-head IsKeptSample x xs a)))) in
    let t : (k : SampleWhy) → IsKeptSample k → indexes_from (suc i) k xs ≡ indexes_from (suc i) k ys =
    λ k g. tail_same i (is_same x k) (indexes_from (suc i) k xs) (indexes_from (suc i) k ys) (h k g ∙ ap (λ z. indexes_from i k (z ∷ ys)) (sym q)) in
    rw (q, same_samples (suc i) xs ys (All-tail IsKeptSample x xs a) (All-tail IsKeptSample y ys b) t) refl

-- ---- all lines

abbrev SameWhere : List SampleWhy → List SampleWhy → Type 0
SameWhere xs ys = Each (λ (r : Row). indexes_where r.0 xs ≡ indexes_where r.0 ys) causes

same_skip : (xs ys : List SampleWhy) → SameWhere xs ys → (side : Side) (why : Skip) → IsCauseOf side why
    → indexes_where (skip_of side why) xs ≡ indexes_where (skip_of side why) ys
same_skip xs ys h A NotEnded k = h.1.1.1.0
same_skip xs ys h A Wide k = h.1.1.1.1.0
same_skip xs ys h A Unmet k = absurd k
same_skip xs ys h A Memory k = absurd k
same_skip xs ys h B NotEnded k = h.1.1.1.1.1.0
same_skip xs ys h B Wide k = h.1.1.1.1.1.1.0
same_skip xs ys h B Unmet k = absurd k
same_skip xs ys h B Memory k = absurd k
same_skip xs ys h Pre NotEnded k = absurd k
same_skip xs ys h Pre Wide k = h.1.1.0
same_skip xs ys h Pre Unmet k = h.1.0
same_skip xs ys h Pre Memory k = absurd k

same_where : (xs ys : List SampleWhy) → SameWhere xs ys → (k : SampleWhy) → IsKeptSample k → indexes_where k xs ≡ indexes_where k ys
same_where xs ys h Equal k = h.0
same_where xs ys h (Skipped skipped) k = same_skip xs ys h skipped.side skipped.why k

-- a text that begins with the word of an alignment
pub record Aligned (s : List ℕ) : Type 0 where
  pub more : List ℕ
  pub starts : s ≡ codes "alignment " ++ more

aligned_avoids : (v s : List ℕ) → unlike (codes "alignment ") v ≡ true → Aligned s → Avoids v s
aligned_avoids v s h a = record { by = λ t e. differ (codes "alignment ") v a.more t h (sym a.starts ∙ e) }

aligned_all : (s : List ℕ) → Aligned s → AvoidsAll causes s
aligned_all s a = (
  aligned_avoids (codes "equal") s refl a,
  (
    aligned_avoids (codes "unmet pre") s refl a,
    (
      aligned_avoids
          (codes "wide pre") s refl a,
      (
        aligned_avoids (codes "not-ended A") s refl a,
        (
          aligned_avoids (codes "wide A") s refl a,
          (
            aligned_avoids
                (codes "not-ended B") s refl a,
            (aligned_avoids (codes "wide B") s refl a, tt),
          ),
        ),
      ),
    ),
  ),
)

unlike_causes : AreUnlike causes
unlike_causes = (
  (refl, (refl, (refl, (refl, (refl, (refl, tt)))))),
  (
    (refl, (refl, (refl, (refl, (refl, tt))))),
    (
      (
        refl,
        (
          refl,
          (
            refl,
            (refl, tt),
          ),
        ),
      ),
      ((refl, (refl, (refl, tt))), ((refl, (refl, tt)), ((refl, tt), (tt, tt)))),
    ),
  ),
)

-- The lines of the samples, followed by the line of an alignment, determine the samples and what follows.
pub samples_read : (xs ys : List SampleWhy) (s t : List ℕ) → All IsKeptSample xs → All IsKeptSample ys → IsShort (length xs) → IsShort (length ys)
    → Aligned s → Aligned t
    → sample_lines xs ++ s ≡ sample_lines ys ++ t → (xs ≡ ys) × (s ≡ t)
samples_read xs ys s t f g a b c d e =
    let o = lines_read causes xs ys s t a b unlike_causes (aligned_all s c) (aligned_all t d) e in
    (same_samples 0 xs ys f g (same_where xs ys o.0), o.1)
