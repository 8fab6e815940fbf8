-- What a walk over a history finds: the first difference, and what is said of samples and alignments.
use Rattle.std.proofs.Common.{◌≡◌, ◌≢◌, ℕ, ◌+◌, ◌<◌, Bool, true, ◌&&◌, eqb, zero, suc, List, [], ◌∷◌, ◌++◌, length, get_or, take, Some, refl, sym, ap, ◌∙◌, subst, ⊎_elim, arith}
use Rattle.std.specs.Option.{IsSomeAnd}
use Rattle.std.specs.List.{slice_get, position, list_any, All, Contains}
use Rattle.std.proofs.lemmas.List.{take_more}
use Rattle.std.proofs.lemmas.List.Elements.{All-from_recursion, All-nil, All-append}
use Rattle.std.proofs.lemmas.Option.{slice_get_read, get_or_from_slice_get}
use Rattle.std.proofs.lemmas.Bool.{eqb-true, cases_eq}
use Rattle.std.proofs.lemmas.Bool.Decides.{nat_tests}
use Rattle.c_ast.specs.declared.trace.Pair.{Pair}
use Rattle.trace_pair.specs.declared.skipped.Skipped.{Skipped}
use Rattle.pool_core.specs.declared.item.Item.{Item}
use Rattle.pool_core.specs.declared.item.Item.TheVariants as item
use Rattle.pool_core.specs.declared.verdict.SampleWhy.TheVariants as sample
use Rattle.pool_core.specs.declared.verdict.Why.{Why}
use Rattle.pool_core.specs.History.{pairs_of, has_index, has_tried, HasSample, HasReason, HaveEqualResults}
use Rattle.pool_core.specs.Plays.{HaveSamples, AreAllTried, IsFirstDifference}
use Rattle.pool_core.proofs.Places.{position_at}

-- ---- differences

pub pairs_of-append : (xs ys : List Item) → pairs_of (xs ++ ys) ≡ pairs_of xs ++ pairs_of ys
pairs_of-append [] ys = refl
pairs_of-append (item.Pair worker index pair ∷ xs) ys = ap (λ (pairs : List Pair). pair ∷ pairs) (pairs_of-append xs ys)
pairs_of-append (item.Skipped worker index skipped ∷ xs) ys = pairs_of-append xs ys
pairs_of-append (item.Mined worker prefix alignment candidates ∷ xs) ys = pairs_of-append xs ys
pairs_of-append (item.Tried worker prefix alignment why ∷ xs) ys = pairs_of-append xs ys
pairs_of-append (item.Posted worker verdict ∷ xs) ys = pairs_of-append xs ys

-- One item more whose results are equal.
pub equal_more : (items : List Item) (k : ℕ) (next : Item) → k < length items → next ≡ get_or items k next
    → HaveEqualResults (take k items) → HaveEqualResults (next ∷ []) → HaveEqualResults (take (k + 1) items)
equal_more items k next within here before equal =
    let longer : take (k + 1) items ≡ take k items ++ next ∷ [] =
    take_more items k next within ∙ ap (λ (x : Item). take k items ++ x ∷ []) (sym here) in
    subst HaveEqualResults (sym longer)
    (subst (All (λ (pair : Pair). pair.first.result ≡ pair.second.result)) (sym (pairs_of-append (take k items) (next ∷ [])))
    (All-append (λ (pair : Pair). pair.first.result ≡ pair.second.result) (pairs_of (take k items)) (pairs_of (next ∷ [])) before equal))

-- Where there is no pair none differs.
none_differ : HaveEqualResults []
none_differ = All-nil (λ (p : Pair). p.first.result ≡ p.second.result)

-- The first item whose results are not equal is a pair.
pub first_difference : (items : List Item) (k : ℕ) (next : Item) → k < length items → next ≡ get_or items k next
    → HaveEqualResults (take k items) → ¬ HaveEqualResults (next ∷ []) → IsFirstDifference items k
first_difference items k (item.Pair worker index pair) within here before differ = record {
  worker = worker;
  index = index;
  pair = pair;
  stands = slice_get_read items (length items) k (item.Pair worker index pair) refl within here;
  differ = λ same. differ (All-from_recursion (λ (p : Pair). p.first.result ≡ p.second.result) (pair ∷ []) (same, tt));
  equal_before = before;
}
first_difference items k (item.Skipped worker index skipped) within here before differ = absurd (differ none_differ)
first_difference items k (item.Mined worker prefix alignment candidates) within here before differ = absurd (differ none_differ)
first_difference items k (item.Tried worker prefix alignment why) within here before differ = absurd (differ none_differ)
first_difference items k (item.Posted worker verdict) within here before differ = absurd (differ none_differ)

-- ---- what is said

-- What is read at the place of the first item that passes passes.
pub read_passes : (p : Item → Bool) (items : List Item) (place : ℕ) (x : Item) → position p items ≡ Some place
    → x ≡ get_or items place x → p x ≡ true
read_passes p items place x found here =
    let at = position_at p items place found in
    let same : at.element ≡ x = sym (get_or_from_slice_get items place at.element x at.stands) ∙ sym here in
    subst (λ (y : Item). p y ≡ true) same at.passes

pub read_contains : (items : List Item) (place : ℕ) (x : Item) → place < length items → x ≡ get_or items place x → Contains items x
read_contains items place x within here = (place, within, sym here)

pub said_pair : (items : List Item) (index worker own : ℕ) (pair : Pair)
    → has_index index (item.Pair worker own pair) ≡ true → Contains items (item.Pair worker own pair)
    → HasSample items index sample.Equal
said_pair items index worker own pair of stands =
    (worker, pair, subst (λ (k : ℕ). Contains items (item.Pair worker k pair)) (eqb-true own index of) stands)

pub said_skipped : (items : List Item) (index worker own : ℕ) (skipped : Skipped)
    → has_index index (item.Skipped worker own skipped) ≡ true → Contains items (item.Skipped worker own skipped)
    → HasSample items index (sample.Skipped skipped)
said_skipped items index worker own skipped of stands =
    (worker, subst (λ (k : ℕ). Contains items (item.Skipped worker k skipped)) (eqb-true own index of) stands)

both_same : (m prefix k alignment : ℕ) → (eqb m prefix && eqb k alignment) ≡ true → (m ≡ prefix) × (k ≡ alignment)
both_same m prefix k alignment both = (grind (arith, nat_tests), grind (arith, nat_tests))

pub reason_of : (items : List Item) (m k worker prefix alignment : ℕ) (why : Why)
    → has_tried m k (item.Tried worker prefix alignment why) ≡ true → Contains items (item.Tried worker prefix alignment why)
    → HasReason items m k why
reason_of items m k worker prefix alignment why of stands =
    let both = both_same prefix m alignment k of in (
      worker,
      subst (λ (a : ℕ). Contains items (item.Tried worker m a why)) both.1
          (subst (λ (n : ℕ). Contains items (item.Tried worker n alignment why)) both.0 stands),
    )

-- One sample more.
pub have_more_samples : (items : List Item) (n : ℕ) → HaveSamples items n → list_any (has_index n) items ≡ true
    → HaveSamples items (n + 1)
have_more_samples items n have there = λ index below.
    ⊎_elim
    (λ (same : index ≡ n). subst (λ (i : ℕ). list_any (has_index i) items ≡ true) (sym same) there)
    (λ (differs : index ≢ n). have index (omega arith))
    (cases_eq index n)

-- One alignment more.
pub more_are_tried : (items : List Item) (m n : ℕ) → m ≡ length (pairs_of items) → AreAllTried items n
    → list_any (has_tried m n) items ≡ true → AreAllTried items (n + 1)
more_are_tried items m n all tried there = λ alignment named below.
    ⊎_elim
    (λ (same : alignment ≡ n). subst (λ (i : ℕ). list_any (has_tried (length (pairs_of items)) i) items ≡ true) (sym same)
    (subst (λ (i : ℕ). list_any (has_tried i n) items ≡ true) all there))
    (λ (differs : alignment ≢ n). tried alignment named (omega arith))
    (cases_eq alignment n)

-- ---- lists that grow

-- What is so of each of so many elements and of one more is so of all.
pub each_pushed : {X : Type 0} (Q : ℕ → X → Type 0) (made : List X) (x : X)
    → ((i : ℕ) → i < length made → IsSomeAnd (slice_get made i) (Q i)) → Q (length made) x
    → (i : ℕ) → i < length made + 1 → IsSomeAnd (slice_get (made ++ x ∷ []) i) (Q i)
each_pushed Q [] x each last zero within = last
each_pushed Q [] x each last (suc i) within = absurd (omega arith)
each_pushed Q (y ∷ made) x each last zero within = each zero (omega arith)
each_pushed Q (y ∷ made) x each last (suc i) within =
    each_pushed (λ j. Q (suc j)) made x (λ j below. each (suc j) (omega arith)) last i (omega arith)
