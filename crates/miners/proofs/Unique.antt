-- A listing is determined by what it lists.
use Rattle.std.proofs.Common.{◌≡◌, inl, inr, List, [], ◌∷◌, arith, refl, sym, ◌∙◌, ap, subst}
use Rattle.std.specs.Prelude.{ℤ, ◌<ℤ◌}
use Rattle.std.proofs.lemmas.Int.{ints}
use Rattle.horn_clauses.specs.declared.atom.Atom.TheVariants.{False, Linear}
use Rattle.horn_clauses.specs.declared.atom.Rel.TheVariants.{Eq, AtLeast}
use Rattle.miners.specs.Template.{IsGreater, ComesFirst, AtomStandsBefore}
use Rattle.miners.proofs.Listings.{Each, IsOneOf, IsListed, Lists, each_one}

abbrev pub Asymmetric : {A : Type 0} → (A → A → Type 0) → Type 0
Asymmetric {A} R = (a b : A) → R a b → R b a → ⊥

same_heads : {A : Type 0} (R : A → A → Type 0) → Asymmetric R → (x y : A) (xs ys : List A) → Each (R x) xs → Each (R y) ys → IsOneOf x (y ∷ ys)
    → IsOneOf y (x ∷ xs) → x ≡ y
same_heads R s x y xs ys h k (inl e) m = e
same_heads R s x y xs ys h k (inr e) (inl m) = sym m
same_heads R s x y xs ys h k (inr e) (inr m) = absurd (s x y (each_one (R x) xs y m h) (each_one (R y) ys x e k))

in_tail : {A : Type 0} (R : A → A → Type 0) → Asymmetric R → (x y a : A) (ys : List A) → x ≡ y → R x a → IsOneOf a (y ∷ ys) → IsOneOf a ys
in_tail R s x y a ys e r (inl h) = let q = subst (λ t. R x t) (h ∙ sym e) r in absurd (s x x q q)
in_tail R s x y a ys e r (inr h) = h

pub same_listed : {A : Type 0} (R : A → A → Type 0) → Asymmetric R → (xs ys : List A) → IsListed R xs → IsListed R ys
    → ((a : A) → IsOneOf a xs → IsOneOf a ys) → ((a : A) → IsOneOf a ys → IsOneOf a xs) → xs ≡ ys
same_listed R s [] [] h k f g = refl
same_listed R s [] (y ∷ ys) h k f g = absurd (g y (inl refl))
same_listed R s (x ∷ xs) [] h k f g = absurd (f x (inl refl))
same_listed R s (x ∷ xs) (y ∷ ys) h k f g =
    let e = same_heads R s x y xs ys h.0 k.0 (f x (inl refl)) (g y (inl refl)) in
    let t = same_listed R s xs ys h.1 k.1
    (λ a m. in_tail R s x y a ys e (each_one (R x) xs a m h.0) (f a (inr m)))
    (λ a m. in_tail R s y x a xs (sym e) (each_one (R y) ys a m k.0) (g a (inr m))) in
    ap (λ z. z ∷ xs) e ∙ ap (λ z. y ∷ z) t

pub same_lists : {A : Type 0} (R : A → A → Type 0) (P : A → Type 0) → Asymmetric R → (xs ys : List A) → Lists R P xs → Lists R P ys → xs ≡ ys
same_lists R P s xs ys l m = same_listed R s xs ys l.in_order m.in_order (λ a h. (m.exactly a).1 ((l.exactly a).0 h))
    (λ a h. (l.exactly a).1 ((m.exactly a).0 h))

less_clash : (x y : ℤ) → x <ℤ y → y <ℤ x → ⊥
less_clash x y h k = omega (arith, ints)

less_same : (x y : ℤ) → x <ℤ y → x ≡ y → ⊥
less_same x y h e = omega (arith, ints)

greater_asymmetric : Asymmetric IsGreater
greater_asymmetric [] ys h k = h
greater_asymmetric (x ∷ xs) [] h k = h
greater_asymmetric (x ∷ xs) (y ∷ ys) (inl h) (inl k) = less_clash x y k h
greater_asymmetric (x ∷ xs) (y ∷ ys) (inl h) (inr k) = less_same y x h k.0
greater_asymmetric (x ∷ xs) (y ∷ ys) (inr h) (inl k) = less_same x y k h.0
greater_asymmetric (x ∷ xs) (y ∷ ys) (inr h) (inr k) = greater_asymmetric xs ys h.1 k.1

by_parts : (cs ds : List ℤ) (c d : ℤ) → ComesFirst cs c ds d → ComesFirst ds d cs c → ⊥
by_parts cs ds c d (inl h) (inl k) = greater_asymmetric cs ds h k
by_parts cs ds c d (inl h) (inr k) = let q = subst (λ t. IsGreater cs t) k.0 h in greater_asymmetric cs cs q q
by_parts cs ds c d (inr h) (inl k) = let q = subst (λ t. IsGreater ds t) h.0 k in greater_asymmetric ds ds q q
by_parts cs ds c d (inr h) (inr k) = less_clash c d h.1 k.1

pub before_asymmetric : Asymmetric AtomStandsBefore
before_asymmetric False b h k = h
before_asymmetric (Linear cs c Eq) False h k = h
before_asymmetric (Linear cs c AtLeast) False h k = h
before_asymmetric (Linear cs c Eq) (Linear ds d Eq) h k = by_parts cs ds c d h k
before_asymmetric (Linear cs c Eq) (Linear ds d AtLeast) h k = k
before_asymmetric (Linear cs c AtLeast) (Linear ds d Eq) h k = h
before_asymmetric (Linear cs c AtLeast) (Linear ds d AtLeast) h k = by_parts cs ds c d h k
