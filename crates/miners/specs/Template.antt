-- The template: which atoms may be candidates, and in which order atoms stand.
use Rattle.std.specs.Prelude.{◌≡◌, ℕ, suc, ◌≤◌, ◌==◌, if◌then◌else◌, ◌⊎◌, ◌<ℤ◌, unsigned_abs, List, [], ◌∷◌, length, ℤ, pos, negsuc, zero, All, AllPairs, Contains}
use Rattle.lin_terms.specs.Bounds.{FitsForm}
use Rattle.lin_terms.specs.Divisor.{gcd_of}
use Rattle.horn_clauses.specs.declared.atom.Atom.{Atom}
use Rattle.horn_clauses.specs.declared.atom.Atom.TheVariants.{False, Linear}
use Rattle.horn_clauses.specs.declared.atom.Rel.TheVariants.{Eq, AtLeast}

-- ---- coefficients

-- How many entries are not 0.
abbrev pub count_nonzero : List ℤ → ℕ
count_nonzero [] = 0
count_nonzero (x ∷ xs) = if unsigned_abs x == 0 then count_nonzero xs else suc (count_nonzero xs)

-- How many entries are 1.
abbrev pub count_ones : List ℤ → ℕ
count_ones [] = 0
count_ones (pos (suc zero) ∷ xs) = suc (count_ones xs)
count_ones (_ ∷ xs) = count_ones xs

-- How many entries are -1.
abbrev pub count_minus_ones : List ℤ → ℕ
count_minus_ones [] = 0
count_minus_ones (negsuc zero ∷ xs) = suc (count_minus_ones xs)
count_minus_ones (_ ∷ xs) = count_minus_ones xs

-- The first entry that is not 0 is positive.
abbrev pub IsPositiveFirst : List ℤ → Type 0
IsPositiveFirst [] = Unit {0}
IsPositiveFirst (pos zero ∷ xs) = IsPositiveFirst xs
IsPositiveFirst (pos (suc n) ∷ xs) = Unit {0}
IsPositiveFirst (negsuc n ∷ xs) = ⊥

-- The coefficients of an equality: one to three that are not 0, from -2 to 2, or four that are 1 or -1, without a
-- common divisor, the first of them positive.
pub record IsShape (coefs : List ℤ) : Type 0 where
  pub small : All (λ coef. unsigned_abs coef ≤ 2) coefs
  pub coprime : gcd_of coefs ≡ 1
  pub positive : IsPositiveFirst coefs
  pub few : (count_nonzero coefs ≤ 3) ⊎ ((count_nonzero coefs ≡ 4) × All (λ coef. unsigned_abs coef ≤ 1) coefs)

-- The coefficients of a bound: of a variable, of one with its sign changed, or of a difference of two.
pub record IsBoundShape (coefs : List ℤ) : Type 0 where
  pub small : All (λ coef. unsigned_abs coef ≤ 1) coefs
  pub plus : count_ones coefs ≤ 1
  pub minus : count_minus_ones coefs ≤ 1
  pub some : 1 ≤ count_nonzero coefs

-- ---- atoms

-- The atom is one of the template over so many values, with these constants of bounds. An equality's constant is below
-- 2^50 in size.
abbrev pub IsTemplateAtom : ℕ → List ℤ → Atom → Type 0
IsTemplateAtom n constants False = ⊥
IsTemplateAtom n constants (Linear coefs constant Eq) = (length coefs ≡ n) × IsShape coefs × FitsForm constant
IsTemplateAtom n constants (Linear coefs constant AtLeast) =
    (length coefs ≡ n) × IsBoundShape coefs × Contains constants constant

-- ---- their order

-- The first list is greater than the second, compared entry by entry from the front.
abbrev pub IsGreater : List ℤ → List ℤ → Type 0
IsGreater [] ys = ⊥
IsGreater (x ∷ xs) [] = ⊥
IsGreater (x ∷ xs) (y ∷ ys) = (y <ℤ x) ⊎ ((x ≡ y) × IsGreater xs ys)

-- The greater list comes first, and of one list the lesser constant.
abbrev pub ComesFirst : List ℤ → ℤ → List ℤ → ℤ → Type 0
ComesFirst coefs constant others other = IsGreater coefs others ⊎ ((coefs ≡ others) × (constant <ℤ other))

-- Equalities come before bounds; `false` stands alone.
abbrev pub AtomStandsBefore : Atom → Atom → Type 0
AtomStandsBefore (Linear coefs constant Eq) (Linear others other Eq) = ComesFirst coefs constant others other
AtomStandsBefore (Linear coefs constant Eq) (Linear others other AtLeast) = Unit {0}
AtomStandsBefore (Linear coefs constant AtLeast) (Linear others other AtLeast) = ComesFirst coefs constant others other
AtomStandsBefore _ _ = ⊥

-- Each atom stands before those behind it, so that none stands twice.
abbrev pub AreInOrder : List Atom → Type 0
AreInOrder atoms = AllPairs AtomStandsBefore atoms

-- The constants rise, so that none stands twice.
abbrev pub AreRising : List ℤ → Type 0
AreRising constants = AllPairs (λ x y. x <ℤ y) constants
