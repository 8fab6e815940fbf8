-- What the equalities of values of both sides say.
use Rattle.std.proofs.Common.{◌≡◌, ℕ, zero, suc, ◌+◌, ◌<◌, ◌≤◌, ◌⊎◌, inl, inr, List, [], ◌∷◌, ◌++◌, length, replicate, get_or, length-set}
use Rattle.std.proofs.Common.{ℤ, pos, negsuc, ◌+ℤ◌, ◌*ℤ◌, neg_ℤ, refl, sym, ap, ◌∙◌, subst, arith}
use Rattle.std.specs.Prelude.{All}
use Rattle.std.proofs.lemmas.Int.{ints}
use Rattle.std.proofs.lemmas.List.{length-replicate, ext_get_or}
use Rattle.std.proofs.lemmas.List.Elements.{All-nil, All-cons, All-head, All-tail}
use Rattle.lin_terms.specs.Vectors.{dot, only_at}
use Rattle.lin_terms.proofs.Laws.{dot-append, dot-only_at}
use Rattle.horn_clauses.specs.declared.atom.Atom.{Atom}
use Rattle.horn_clauses.specs.Atom.{AtomHolds}
use Rattle.horn_clauses.specs.Equalities.{equality_at, equalities_from, ParametersAreEqual, ResultsAreEqual}

one_times : (z : ℤ) → pos 1 *ℤ z ≡ z
one_times (pos n) = ap pos (omega arith)
one_times (negsuc n) = omega (arith, ints)

minus_times : (z : ℤ) → negsuc 0 *ℤ z ≡ neg_ℤ z
minus_times (pos n) = omega (arith, ints)
minus_times (negsuc n) = omega (arith, ints)

length-only_at : (n i : ℕ) (coef : ℤ) → length (only_at n i coef) ≡ n
length-only_at n i coef = length-set (replicate n (pos 0)) i coef ∙ length-replicate n (pos 0)

-- ---- one equality

-- Side A's value counts once, and side B's once less.
difference_at : (n i : ℕ) (d e : List ℤ) → length d ≡ n → i < n
    → dot (only_at n i (pos 1) ++ only_at n i (negsuc 0)) (d ++ e) ≡ get_or d i (pos 0) +ℤ neg_ℤ (get_or e i (pos 0))
difference_at n i d e long below =
    let first = dot-only_at n i (pos 1) d below ∙ one_times (get_or d i (pos 0)) in
    let second = dot-only_at n i (negsuc 0) e below ∙ minus_times (get_or e i (pos 0)) in
    dot-append (only_at n i (pos 1)) (only_at n i (negsuc 0)) d e (length-only_at n i (pos 1) ∙ sym long)
    ∙ ap (λ (z : ℤ). z +ℤ dot (only_at n i (negsuc 0)) e) first ∙ ap (λ (z : ℤ). get_or d i (pos 0) +ℤ z) second

no_difference : (u v : ℤ) → u +ℤ neg_ℤ v ≡ pos 0 → u ≡ v
no_difference u v none = omega (arith, ints)

none_of_equal : (u v : ℤ) → u ≡ v → u +ℤ neg_ℤ v ≡ pos 0
none_of_equal u v same = omega (arith, ints)

says_equal : (n i : ℕ) (d e : List ℤ) → length d ≡ n → i < n → AtomHolds (equality_at n i) (d ++ e) → get_or d i (pos 0) ≡ get_or e i (pos 0)
says_equal n i d e long below holds = no_difference (get_or d i (pos 0)) (get_or e i (pos 0)) (sym (difference_at n i d e long below) ∙ holds)

holds_of_equal : (n i : ℕ) (d e : List ℤ) → length d ≡ n → i < n → get_or d i (pos 0) ≡ get_or e i (pos 0) → AtomHolds (equality_at n i) (d ++ e)
holds_of_equal n i d e long below same = difference_at n i d e long below ∙ none_of_equal (get_or d i (pos 0)) (get_or e i (pos 0)) same

-- ---- all of them

module _ (n : ℕ) (d e : List ℤ) (long : length d ≡ n) where
  abbrev Holds : Atom → Type 0
  Holds atom = AtomHolds atom (d ++ e)

  first_or_later : (i j : ℕ) → i ≤ j → (i ≡ j) ⊎ (suc i ≤ j)
  first_or_later zero zero below = inl refl
  first_or_later zero (suc j) below = inr (omega arith)
  first_or_later (suc i) zero below = absurd (omega arith)
  first_or_later (suc i) (suc j) below = elim (first_or_later i j (omega arith)) [ inl same ↦ inl (ap suc same) | inr later ↦ inr (omega (arith, later)) ]

  say_equal : (i more : ℕ) → i + more ≤ n → All Holds (equalities_from n i more) → (j : ℕ) → i ≤ j → j < i + more
      → get_or d j (pos 0) ≡ get_or e j (pos 0)
  say_equal i zero few all j least most = absurd (omega (arith, least, most))
  say_equal i (suc more) few all j least most = elim (first_or_later i j least) [
    | inl same ↦ subst (λ (k : ℕ). get_or d k (pos 0) ≡ get_or e k (pos 0)) same
        (says_equal n i d e long (omega arith) (All-head Holds (equality_at n i) (equalities_from n (suc i) more) all))
    | inr later ↦ say_equal (suc i) more (omega arith) (All-tail Holds (equality_at n i) (equalities_from n (suc i) more) all) j later (omega arith)
  ]

  hold_of_equal : (i more : ℕ) → i + more ≤ n → d ≡ e → All Holds (equalities_from n i more)
  hold_of_equal i zero few same = All-nil Holds
  hold_of_equal i (suc more) few same =
      All-cons Holds (equality_at n i) (equalities_from n (suc i) more)
      (holds_of_equal n i d e long (omega arith) (ap (λ (z : List ℤ). get_or z i (pos 0)) same)) (hold_of_equal (suc i) more (omega arith) same)

pub parameters_are_equal : ParametersAreEqual
parameters_are_equal d e long = (
  λ all. ext_get_or (pos 0) d e long (λ i below. say_equal (length d) d e refl 0 (length d) (omega arith) all i (omega arith) (omega (arith, below))),
  λ same. hold_of_equal (length d) d e refl 0 (length d) (omega arith) same,
)

pub results_are_equal : ResultsAreEqual
results_are_equal v w = (
  λ holds. says_equal 1 0 (v ∷ []) (w ∷ []) refl (omega arith) holds,
  λ same. holds_of_equal 1 0 (v ∷ []) (w ∷ []) refl (omega arith) same,
)
