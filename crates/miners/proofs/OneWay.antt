-- The order of atoms goes one way.
use Rattle.std.proofs.Common.{◌≡◌, inl, inr, List, [], ◌∷◌, arith, subst}
use Rattle.std.specs.Prelude.{ℤ, ◌<ℤ◌}
use Rattle.std.proofs.lemmas.Int.{ints}
use Rattle.horn_clauses.specs.declared.atom.Atom.TheVariants.{False, Linear}
use Rattle.horn_clauses.specs.declared.atom.Rel.TheVariants.{Eq, AtLeast}
use Rattle.miners.specs.Template.{IsGreater, ComesFirst, AtomStandsBefore}
use Rattle.miners.specs.Laws.{OrderGoesOneWay}

less_clash : (x y : ℤ) → x <ℤ y → y <ℤ x → ⊥
less_clash x y h k = omega (arith, ints)

less_same : (x y : ℤ) → x <ℤ y → x ≡ y → ⊥
less_same x y h e = omega (arith, ints)

greater_asymmetric : (first second : List ℤ) → IsGreater first second → IsGreater second first → ⊥
greater_asymmetric [] ys h k = h
greater_asymmetric (x ∷ xs) [] h k = h
greater_asymmetric (x ∷ xs) (y ∷ ys) (inl h) (inl k) = less_clash x y k h
greater_asymmetric (x ∷ xs) (y ∷ ys) (inl h) (inr k) = less_same y x h k.0
greater_asymmetric (x ∷ xs) (y ∷ ys) (inr h) (inl k) = less_same x y k h.0
greater_asymmetric (x ∷ xs) (y ∷ ys) (inr h) (inr k) = greater_asymmetric xs ys h.1 k.1

by_parts : (cs ds : List ℤ) (c d : ℤ) → ComesFirst cs c ds d → ComesFirst ds d cs c → ⊥
by_parts cs ds c d (inl h) (inl k) = greater_asymmetric cs ds h k
by_parts cs ds c d (inl h) (inr k) = let q = subst (λ t. IsGreater cs t) k.0 h in greater_asymmetric cs cs q q
by_parts cs ds c d (inr h) (inl k) = let q = subst (λ t. IsGreater ds t) h.0 k in greater_asymmetric ds ds q q
by_parts cs ds c d (inr h) (inr k) = less_clash c d h.1 k.1

pub before_asymmetric : OrderGoesOneWay
before_asymmetric False b h k = h
before_asymmetric (Linear cs c Eq) False h k = h
before_asymmetric (Linear cs c AtLeast) False h k = h
before_asymmetric (Linear cs c Eq) (Linear ds d Eq) h k = by_parts cs ds c d h k
before_asymmetric (Linear cs c Eq) (Linear ds d AtLeast) h k = k
before_asymmetric (Linear cs c AtLeast) (Linear ds d Eq) h k = h
before_asymmetric (Linear cs c AtLeast) (Linear ds d AtLeast) h k = by_parts cs ds c d h k
