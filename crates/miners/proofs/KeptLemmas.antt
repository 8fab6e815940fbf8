-- Lists of what is kept, one more at a time.
use Rattle.std.proofs.Common.{◌≡◌, ℕ, zero, suc, ◌+◌, ◌<◌, Bool, true, false, ◌&&◌, List, [], ◌∷◌, ◌++◌, map, length, get_or, take, drop, drop-cons, append_assoc, set, add-one, Some, None, arith, refl, sym, ◌∙◌, ap}
use Rattle.std.specs.Prelude.{ℤ, ◌↔◌, IsTrue, int_le, All, if◌then◌else◌, filter}
use Rattle.horn_clauses.specs.Equalities.{equality_at, equalities_from}
use Rattle.miners.specs.declared.kept.Least.{Least}
use Rattle.std.proofs.lemmas.Int.{ints}
use Rattle.std.proofs.lemmas.List.{map-append, append-nil}
use Rattle.std.proofs.lemmas.List.Elements.{All-push}
use Rattle.horn_clauses.specs.declared.atom.Rel.TheVariants.{Eq, AtLeast}
use Rattle.horn_clauses.specs.declared.atom.Atom.{Atom}
use Rattle.horn_clauses.specs.declared.atom.Atom.TheVariants.{Linear}
use Rattle.miners.specs.declared.shape.Shape.{Shape}
use Rattle.miners.specs.declared.kept.Fixed.{Fixed}
use Rattle.miners.specs.Mined.{stands, equality_of, bounds_of}
use Rattle.miners.specs.Sparse.{told, coefs_of}
use Rattle.miners.specs.Kept.{sum_at, FixesTo, IsFixed, fixed_atom, least_of, bounds_left}

-- a test that says whether two numbers are equal
pub equality_test : (b : Bool) (x y : ℤ) → IsTrue b ↔ (x ≡ y) → b ≡ stands Eq x y
equality_test true x y h = sym (same_stands x y (h.0 refl))
  where
    itself : (x : ℤ) (b : Bool) → int_le x x ≡ b → int_le x x ≡ true
    itself x true e = e
    itself x false e = absurd (omega (arith, ints, e))

    same_stands : (x y : ℤ) → x ≡ y → (int_le x y && int_le y x) ≡ true
    same_stands x y e = rw (sym e, itself x (int_le x x) refl) refl
equality_test false x y h = by (int_le x y) (int_le y x) refl refl
  where
    two : (x y : ℤ) → int_le x y ≡ true → int_le y x ≡ true → x ≡ y
    two x y e f = omega (arith, ints)

    by : (a c : Bool) → int_le x y ≡ a → int_le y x ≡ c → false ≡ (a && c)
    by true true e f = h.1 (two x y e f)
    by true false e f = refl
    by false c e f = refl

pub pushed_fixed : (n : ℕ) (xs : List Fixed) (s : Shape) (point : List ℤ) (x : Fixed) → FixesTo s point (Some x)
    → map (fixed_atom n) (xs ++ x ∷ []) ≡ map (fixed_atom n) xs ++ equality_of (coefs_of n s) (sum_at s point)
pushed_fixed n xs s point x h =
    let is : fixed_atom n x ≡ Linear (coefs_of n s) (sum_at s point) Eq = rw (h.1, h.2) refl in
    rw h.0 (map-append (fixed_atom n) xs (x ∷ []) ∙ ap (λ atom. map (fixed_atom n) xs ++ atom ∷ []) is)

pub kept_fixed : (n : ℕ) (xs : List Fixed) (s : Shape) (point : List ℤ) → FixesTo s point None
    → map (fixed_atom n) xs ≡ map (fixed_atom n) xs ++ equality_of (coefs_of n s) (sum_at s point)
kept_fixed n xs s point h = rw h (sym (append-nil (map (fixed_atom n) xs)))

pub all_fixed : (xs : List Fixed) (s : Shape) (point : List ℤ) (x : Fixed) → FixesTo s point (Some x) → All (IsFixed point) xs
    → All (IsFixed point) (xs ++ x ∷ [])
all_fixed xs s point x h all = All-push (IsFixed point) xs x all (rw h.1 (sym h.2))

-- one more element is written in place
pub map_in_place : {A : Type 0} (f : A → A) (init s : List A) (j : ℕ) (d y : A) → j < length init
    → s ≡ map f (take j init) ++ drop j init → y ≡ f (get_or s j d)
    → set s j y ≡ map f (take (j + 1) init) ++ drop (j + 1) init
map_in_place f init s j d y below e h = rw (add-one, e) (step f init j d y below (h ∙ ap (λ t. f (get_or t j d)) e))
  where
    step : {A : Type 0} (f : A → A) (init : List A) (j : ℕ) (d y : A) → j < length init
        → y ≡ f (get_or (map f (take j init) ++ drop j init) j d)
        → set (map f (take j init) ++ drop j init) j y ≡ map f (take (suc j) init) ++ drop (suc j) init
    step f [] j d y below h = absurd (omega (arith, below))
    step f (x ∷ init) zero d y below h = ap (λ t. t ∷ init) h
    step f (x ∷ init) (suc j) d y below h = ap (λ t. f x ∷ t) (step f init j d y (omega (arith, below)) h)

-- ---- atoms with their whole lists of coefficients

pub told_step : (f : ℕ → ℤ) (xs ys all : List ℤ) (i k n : ℕ) → ys ≡ xs ++ f i ∷ [] → (i + 1) + k ≡ n
    → ((k : ℕ) → i + k ≡ n → xs ++ told f i k ≡ all) → ys ++ told f (i + 1) k ≡ all
told_step f xs ys all i k n e size before =
    rw (e, add-one) (append_assoc xs (f i ∷ []) (told f (suc i) k) ∙ before (suc k) (omega (arith, size)))

pub equalities_step : (xs ys all : List Atom) (i k n : ℕ) → ys ≡ xs ++ equality_at n i ∷ [] → (i + 1) + k ≡ n
    → ((k : ℕ) → i + k ≡ n → xs ++ equalities_from n i k ≡ all) → ys ++ equalities_from n (i + 1) k ≡ all
equalities_step xs ys all i k n e size before =
    rw (e, add-one) (append_assoc xs (equality_at n i ∷ []) (equalities_from n (suc i) k) ∙ before (suc k) (omega (arith, size)))

pub bound_first : (c : ℤ) (constants coefs : List ℤ) (sum : ℤ)
    → bounds_of (c ∷ constants) coefs sum ≡ bounds_of (c ∷ []) coefs sum ++ bounds_of constants coefs sum
bound_first c constants coefs sum = by (int_le c sum)
  where
    by : (b : Bool)
        → map (λ (c : ℤ). Linear coefs c AtLeast) (if b then c ∷ filter (λ (c : ℤ). int_le c sum) constants else filter (λ (c : ℤ). int_le c sum) constants)
        ≡ map (λ (c : ℤ). Linear coefs c AtLeast) (if b then c ∷ [] else []) ++ bounds_of constants coefs sum
    by true = refl
    by false = refl

pub bounds_step : (constants coefs : List ℤ) (sum : ℤ) (i : ℕ) (d : ℤ) (xs ys all : List Atom) → i < length constants
    → ys ≡ xs ++ bounds_of (get_or constants i d ∷ []) coefs sum → xs ++ bounds_of (drop i constants) coefs sum ≡ all
    → ys ++ bounds_of (drop (i + 1) constants) coefs sum ≡ all
bounds_step constants coefs sum i d xs ys all below e before =
    let c : ℤ = get_or constants i d in
    let rest_of : List ℤ = drop (suc i) constants in
    rw (e, add-one) (append_assoc xs (bounds_of (c ∷ []) coefs sum) (bounds_of rest_of coefs sum)
    ∙ ap (λ t. xs ++ t) (sym (bound_first c rest_of coefs sum))
    ∙ ap (λ t. xs ++ bounds_of t coefs sum) (sym (drop-cons constants i d below)) ∙ before)

pub leasts_step : (constants : List ℤ) (n : ℕ) (leasts : List Least) (i : ℕ) (d : Least) (xs ys all : List Atom) → i < length leasts
    → ys ≡ xs ++ bounds_of constants (coefs_of n (get_or leasts i d).shape) (get_or leasts i d).sum
    → xs ++ bounds_left constants (map (least_of n) (drop i leasts)) ≡ all
    → ys ++ bounds_left constants (map (least_of n) (drop (i + 1) leasts)) ≡ all
leasts_step constants n leasts i d xs ys all below e before =
    let least : Least = get_or leasts i d in
    rw (e, add-one) (append_assoc xs (bounds_of constants (coefs_of n least.shape) least.sum) (bounds_left constants (map (least_of n) (drop (suc i) leasts)))
    ∙ ap (λ t. xs ++ bounds_left constants (map (least_of n) t)) (sym (drop-cons leasts i d below)) ∙ before)
