-- Lists by recursion: what all elements have, which elements there are, and lists in an order.
use Rattle.std.proofs.Common.{◌≡◌, ℕ, zero, suc, ◌<◌, Bool, true, false, cond, ◌⊎◌, inl, inr, ◌↔◌, List, [], ◌∷◌, ◌++◌, length, get_or, filter, flat_map, arith, refl, sym, ◌∙◌, ap, subst}
use Rattle.std.specs.Prelude.{All, AllPairs, Contains}
use Rattle.std.specs.List.{AllByRecursion}
use Rattle.std.proofs.lemmas.List.Elements.{All-from_recursion, recursion_from_All}

-- The property holds of each element.
abbrev pub Each : {A : Type 0} → (A → Type 0) → List A → Type 0
Each P xs = AllByRecursion P xs

-- It is an element.
abbrev pub IsOneOf : {A : Type 0} → A → List A → Type 0
IsOneOf a [] = ⊥
IsOneOf a (x ∷ xs) = (a ≡ x) ⊎ IsOneOf a xs

-- Each element stands in the relation to all later ones.
abbrev pub IsListed : {A : Type 0} → (A → A → Type 0) → List A → Type 0
IsListed R [] = Unit {0}
IsListed R (x ∷ xs) = Each (R x) xs × IsListed R xs

-- The list of exactly the values that have P, in order.
pub record Lists {A : Type 0} (R : A → A → Type 0) (P : A → Type 0) (xs : List A) : Type 0 where
  pub exactly : (a : A) → IsOneOf a xs ↔ P a
  pub in_order : IsListed R xs

-- ---- the same by index

pub one_of : {A : Type 0} (xs : List A) (a : A) → Contains xs a → IsOneOf a xs
one_of [] a h = absurd (omega (arith, h.1))
one_of (x ∷ xs) a h = at h.0 h.1 h.2 (one_of xs a)
  where
    at : (k : ℕ) → k < length (x ∷ xs) → get_or (x ∷ xs) k a ≡ a → (Contains xs a → IsOneOf a xs) → IsOneOf a (x ∷ xs)
    at zero inside is later = inl (sym is)
    at (suc k) inside is later = inr (later (k, omega (arith, inside), is))

pub contains : {A : Type 0} (xs : List A) (a : A) → IsOneOf a xs → Contains xs a
contains [] a h = absurd h
contains (x ∷ xs) a (inl e) = (0, omega arith, sym e)
contains (x ∷ xs) a (inr h) = let there = contains xs a h in (suc there.0, omega (arith, there.1), there.2)

pub each_of : {A : Type 0} (P : A → Type 0) (xs : List A) → All P xs → Each P xs
each_of P xs h = recursion_from_All P xs h

pub all_of : {A : Type 0} (P : A → Type 0) (xs : List A) → Each P xs → All P xs
all_of P xs h = All-from_recursion P xs h

pub pairs_of : {A : Type 0} (R : A → A → Type 0) (xs : List A) → IsListed R xs → AllPairs R xs
pairs_of R [] h i j d below inside = absurd (omega (arith, inside))
pairs_of R (x ∷ xs) h i zero d below inside = absurd (omega (arith, below))
pairs_of R (x ∷ xs) h zero (suc j) d below inside = all_of (R x) xs h.0 j d (omega (arith, inside))
pairs_of R (x ∷ xs) h (suc i) (suc j) d below inside = pairs_of R xs h.1 i j d (omega (arith, below)) (omega (arith, inside))

pub listed_of : {A : Type 0} (R : A → A → Type 0) (xs : List A) → AllPairs R xs → IsListed R xs
listed_of R [] h = tt
listed_of R (x ∷ xs) h = (
  each_of (R x) xs (λ j d inside. h 0 (suc j) d (omega arith) (omega (arith, inside))),
  listed_of R xs (λ i j d below inside. h (suc i) (suc j) d (omega (arith, below)) (omega (arith, inside))),
)

-- ---- appended lists

pub one_of_left : {A : Type 0} (a : A) (xs ys : List A) → IsOneOf a xs → IsOneOf a (xs ++ ys)
one_of_left a [] ys h = absurd h
one_of_left a (x ∷ xs) ys (inl h) = inl h
one_of_left a (x ∷ xs) ys (inr h) = inr (one_of_left a xs ys h)

pub one_of_right : {A : Type 0} (a : A) (xs ys : List A) → IsOneOf a ys → IsOneOf a (xs ++ ys)
one_of_right a [] ys h = h
one_of_right a (x ∷ xs) ys h = inr (one_of_right a xs ys h)

pub one_of_either : {A : Type 0} (a : A) (xs ys : List A) → IsOneOf a (xs ++ ys) → IsOneOf a xs ⊎ IsOneOf a ys
one_of_either a [] ys h = inr h
one_of_either a (x ∷ xs) ys (inl h) = inl (inl h)
one_of_either a (x ∷ xs) ys (inr h) = lift_left a x xs ys (one_of_either a xs ys h)
  where
    lift_left : {A : Type 0} (a x : A) (xs ys : List A) → IsOneOf a xs ⊎ IsOneOf a ys → IsOneOf a (x ∷ xs) ⊎ IsOneOf a ys
    lift_left a x xs ys (inl h) = inl (inr h)
    lift_left a x xs ys (inr h) = inr h

pub each_from : {A : Type 0} (P : A → Type 0) (xs : List A) → ((a : A) → IsOneOf a xs → P a) → Each P xs
each_from P [] f = tt
each_from P (x ∷ xs) f = (f x (inl refl), each_from P xs (λ a h. f a (inr h)))

pub each_one : {A : Type 0} (P : A → Type 0) (xs : List A) (a : A) → IsOneOf a xs → Each P xs → P a
each_one P [] a h e = absurd h
each_one P (x ∷ xs) a (inl h) e = subst P (sym h) e.0
each_one P (x ∷ xs) a (inr h) e = each_one P xs a h e.1

pub each_append : {A : Type 0} (P : A → Type 0) (xs ys : List A) → Each P xs → Each P ys → Each P (xs ++ ys)
each_append P [] ys h k = k
each_append P (x ∷ xs) ys h k = (h.0, each_append P xs ys h.1 k)

pub listed_append : {A : Type 0} (R : A → A → Type 0) (xs ys : List A) → IsListed R xs → IsListed R ys → Each (λ x. Each (R x) ys) xs → IsListed R (xs ++ ys)
listed_append R [] ys h k e = k
listed_append R (x ∷ xs) ys h k e = (each_append (R x) xs ys h.0 e.0, listed_append R xs ys h.1 k e.1)

-- ---- filters
one_kept : {A : Type 0} (b : Bool) (a x : A) (xs : List A) → IsOneOf a (cond b (x ∷ xs) xs) → ((a ≡ x) × (b ≡ true)) ⊎ IsOneOf a xs
one_kept true a x xs (inl h) = inl (h, refl)
one_kept true a x xs (inr h) = inr h
one_kept false a x xs h = inr h

pub filter_one : {A : Type 0} (t : A → Bool) (a : A) (xs : List A) → IsOneOf a (filter t xs) → IsOneOf a xs × (t a ≡ true)
filter_one t a [] h = absurd h
filter_one t a (x ∷ xs) h = filter_by t a x xs (one_kept (t x) a x (filter t xs) h) (filter_one t a xs)
  where
    filter_by : {A : Type 0} (t : A → Bool) (a x : A) (xs : List A) → ((a ≡ x) × (t x ≡ true)) ⊎ IsOneOf a (filter t xs)
        → (IsOneOf a (filter t xs) → IsOneOf a xs × (t a ≡ true)) → IsOneOf a (x ∷ xs) × (t a ≡ true)
    filter_by t a x xs (inl h) f = (inl h.0, ap t h.0 ∙ h.1)
    filter_by t a x xs (inr h) f = (inr (f h).0, (f h).1)

kept_first : {A : Type 0} (b : Bool) (a x : A) (xs : List A) → b ≡ true → a ≡ x → IsOneOf a (cond b (x ∷ xs) xs)
kept_first true a x xs e h = inl h
kept_first false a x xs e h = cc

kept_later : {A : Type 0} (b : Bool) (a x : A) (xs : List A) → IsOneOf a xs → IsOneOf a (cond b (x ∷ xs) xs)
kept_later true a x xs h = inr h
kept_later false a x xs h = h

pub one_filter : {A : Type 0} (t : A → Bool) (a : A) (xs : List A) → IsOneOf a xs → t a ≡ true → IsOneOf a (filter t xs)
one_filter t a [] h e = absurd h
one_filter t a (x ∷ xs) (inl h) e = kept_first (t x) a x (filter t xs) (ap t (sym h) ∙ e) h
one_filter t a (x ∷ xs) (inr h) e = kept_later (t x) a x (filter t xs) (one_filter t a xs h e)

each_cond : {A : Type 0} (P : A → Type 0) (b : Bool) (x : A) (xs : List A) → P x → Each P xs → Each P (cond b (x ∷ xs) xs)
each_cond P true x xs p h = (p, h)
each_cond P false x xs p h = h

pub each_filter : {A : Type 0} (P : A → Type 0) (t : A → Bool) (xs : List A) → Each P xs → Each P (filter t xs)
each_filter P t [] h = tt
each_filter P t (x ∷ xs) h = each_cond P (t x) x (filter t xs) h.0 (each_filter P t xs h.1)

listed_cond : {A : Type 0} (R : A → A → Type 0) (b : Bool) (x : A) (xs : List A) → Each (R x) xs → IsListed R xs → IsListed R (cond b (x ∷ xs) xs)
listed_cond R true x xs e h = (e, h)
listed_cond R false x xs e h = h

pub listed_filter : {A : Type 0} (R : A → A → Type 0) (t : A → Bool) (xs : List A) → IsListed R xs → IsListed R (filter t xs)
listed_filter R t [] h = tt
listed_filter R t (x ∷ xs) h = listed_cond R (t x) x (filter t xs) (each_filter (R x) t xs h.0) (listed_filter R t xs h.1)

-- ---- lists of parts

pub some_part : {A B : Type 0} (f : A → List B) (xs : List A) (b : B) → IsOneOf b (flat_map f xs) → (x : A) × IsOneOf x xs × IsOneOf b (f x)
some_part f [] b h = absurd h
some_part {A} {B} f (x ∷ xs) b h = by (one_of_either b (f x) (flat_map f xs) h) (some_part f xs b)
  where
    by : IsOneOf b (f x) ⊎ IsOneOf b (flat_map f xs) → (IsOneOf b (flat_map f xs) → (y : A) × IsOneOf y xs × IsOneOf b (f y))
        → (y : A) × IsOneOf y (x ∷ xs) × IsOneOf b (f y)
    by (inl one) later = (x, inl refl, one)
    by (inr one) later = let r = later one in (r.0, inr r.1, r.2)

pub in_parts : {A B : Type 0} (f : A → List B) (xs : List A) (b : B) (x : A) → IsOneOf x xs → IsOneOf b (f x) → IsOneOf b (flat_map f xs)
in_parts f [] b x h one = absurd h
in_parts f (y ∷ xs) b x (inl h) one = one_of_left b (f y) (flat_map f xs) (subst (λ z. IsOneOf b (f z)) h one)
in_parts f (y ∷ xs) b x (inr h) one = one_of_right b (f y) (flat_map f xs) (in_parts f xs b x h one)
