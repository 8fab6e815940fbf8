-- Lists by recursion: what all elements have, which elements there are, and lists in an order.
use Rattle.std.proofs.Common.{◌≡◌, ℕ, zero, suc, ◌<◌, ◌⊎◌, inl, inr, List, [], ◌∷◌, ◌++◌, length, take, get_or, flat_map, arith, refl, sym, subst}
use Rattle.std.specs.Prelude.{All, AllPairs, Contains}
use Rattle.std.specs.List.{AllByRecursion, AllZip}
use Rattle.std.proofs.lemmas.List.Elements.{All-from_recursion, recursion_from_All}

-- The property holds of each element.
abbrev pub Each : {A : Type 0} → (A → Type 0) → List A → Type 0
Each P xs = AllByRecursion P xs

-- It is an element.
abbrev pub IsOneOf : {A : Type 0} → A → List A → Type 0
IsOneOf a [] = ⊥
IsOneOf a (x ∷ xs) = (a ≡ x) ⊎ IsOneOf a xs

-- Each element stands in the relation to all later ones.
abbrev pub IsListed : {A : Type 0} → (A → A → Type 0) → List A → Type 0
IsListed R [] = Unit {0}
IsListed R (x ∷ xs) = Each (R x) xs × IsListed R xs

-- No two stand in the relation both ways.
abbrev pub Asymmetric : {A : Type 0} → (A → A → Type 0) → Type 0
Asymmetric {A} R = (a b : A) → R a b → R b a → ⊥

-- ---- the same by index

pub one_of : {A : Type 0} (xs : List A) (a : A) → Contains xs a → IsOneOf a xs
one_of [] a h = absurd (omega (arith, h.1))
one_of (x ∷ xs) a h = at h.0 h.1 h.2 (one_of xs a)
  where
    at : (k : ℕ) → k < length (x ∷ xs) → get_or (x ∷ xs) k a ≡ a → (Contains xs a → IsOneOf a xs) → IsOneOf a (x ∷ xs)
    at zero inside is later = inl (sym is)
    at (suc k) inside is later = inr (later (k, omega (arith, inside), is))

pub contains : {A : Type 0} (xs : List A) (a : A) → IsOneOf a xs → Contains xs a
contains [] a h = absurd h
contains (x ∷ xs) a (inl e) = (0, omega arith, sym e)
contains (x ∷ xs) a (inr h) = let there = contains xs a h in (suc there.0, omega (arith, there.1), there.2)

pub each_of : {A : Type 0} (P : A → Type 0) (xs : List A) → All P xs → Each P xs
each_of P xs h = recursion_from_All P xs h

pub all_of : {A : Type 0} (P : A → Type 0) (xs : List A) → Each P xs → All P xs
all_of P xs h = All-from_recursion P xs h

pub listed_of : {A : Type 0} (R : A → A → Type 0) (xs : List A) → AllPairs R xs → IsListed R xs
listed_of R [] h = tt
listed_of R (x ∷ xs) h = (
  each_of (R x) xs (λ j d inside. h 0 (suc j) d (omega arith) (omega (arith, inside))),
  listed_of R xs (λ i j d below inside. h (suc i) (suc j) d (omega (arith, below)) (omega (arith, inside))),
)

pub pairs_of_listed : {A : Type 0} (R : A → A → Type 0) (xs : List A) → IsListed R xs → AllPairs R xs
pairs_of_listed R [] listed i j d below inside = absurd (omega (arith, inside))
pairs_of_listed R (x ∷ xs) listed zero zero d below inside = absurd (omega (arith, below))
pairs_of_listed R (x ∷ xs) listed zero (suc j) d below inside = all_of (R x) xs listed.0 j d (omega (arith, inside))
pairs_of_listed R (x ∷ xs) listed (suc i) zero d below inside = absurd (omega (arith, below))
pairs_of_listed R (x ∷ xs) listed (suc i) (suc j) d below inside =
    pairs_of_listed R xs listed.1 i j d (omega (arith, below)) (omega (arith, inside))

-- ---- the first elements

pub each_front : {A : Type 0} (P : A → Type 0) (m : ℕ) (xs : List A) → Each P xs → Each P (take m xs)
each_front P zero xs each = tt
each_front P (suc m) [] each = tt
each_front P (suc m) (x ∷ xs) each = (each.0, each_front P m xs each.1)

pub listed_front : {A : Type 0} (R : A → A → Type 0) (m : ℕ) (xs : List A) → IsListed R xs → IsListed R (take m xs)
listed_front R zero xs listed = tt
listed_front R (suc m) [] listed = tt
listed_front R (suc m) (x ∷ xs) listed = (each_front (R x) m xs listed.0, listed_front R m xs listed.1)

pub zip_front : {A B : Type 0} (R : A → B → Type 0) (m : ℕ) (xs : List A) (ys : List B) → AllZip R xs ys → AllZip R (take m xs) (take m ys)
zip_front R zero xs ys zip = tt
zip_front R (suc m) [] [] zip = tt
zip_front R (suc m) [] (y ∷ ys) zip = absurd zip
zip_front R (suc m) (x ∷ xs) [] zip = absurd zip
zip_front R (suc m) (x ∷ xs) (y ∷ ys) zip = (zip.0, zip_front R m xs ys zip.1)

-- ---- each element

pub each_from : {A : Type 0} (P : A → Type 0) (xs : List A) → ((a : A) → IsOneOf a xs → P a) → Each P xs
each_from P [] f = tt
each_from P (x ∷ xs) f = (f x (inl refl), each_from P xs (λ a h. f a (inr h)))

pub each_one : {A : Type 0} (P : A → Type 0) (xs : List A) (a : A) → IsOneOf a xs → Each P xs → P a
each_one P [] a h e = absurd h
each_one P (x ∷ xs) a (inl h) e = subst P (sym h) e.0
each_one P (x ∷ xs) a (inr h) e = each_one P xs a h e.1

-- ---- lists of parts

pub one_of_either : {A : Type 0} (a : A) (xs ys : List A) → IsOneOf a (xs ++ ys) → IsOneOf a xs ⊎ IsOneOf a ys
one_of_either a [] ys h = inr h
one_of_either a (x ∷ xs) ys (inl h) = inl (inl h)
one_of_either a (x ∷ xs) ys (inr h) = lift_left a x xs ys (one_of_either a xs ys h)
  where
    lift_left : {A : Type 0} (a x : A) (xs ys : List A) → IsOneOf a xs ⊎ IsOneOf a ys → IsOneOf a (x ∷ xs) ⊎ IsOneOf a ys
    lift_left a x xs ys (inl h) = inl (inr h)
    lift_left a x xs ys (inr h) = inr h

pub some_part : {A B : Type 0} (f : A → List B) (xs : List A) (b : B) → IsOneOf b (flat_map f xs) → (x : A) × IsOneOf x xs × IsOneOf b (f x)
some_part f [] b h = absurd h
some_part {A} {B} f (x ∷ xs) b h = by (one_of_either b (f x) (flat_map f xs) h) (some_part f xs b)
  where
    by : IsOneOf b (f x) ⊎ IsOneOf b (flat_map f xs) → (IsOneOf b (flat_map f xs) → (y : A) × IsOneOf y xs × IsOneOf b (f y))
        → (y : A) × IsOneOf y (x ∷ xs) × IsOneOf b (f y)
    by (inl one) later = (x, inl refl, one)
    by (inr one) later = let r = later one in (r.0, inr r.1, r.2)
