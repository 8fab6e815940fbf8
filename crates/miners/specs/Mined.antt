-- What is mined of points: the first proposes atoms of the template that hold there, and each later one strikes those
-- that fail there.
use Rattle.std.specs.Prelude.{ℕ, zero, suc, ◌+◌, ◌==◌, nat_le, int_le, if◌then◌else◌, Bool, true, false, ◌&&◌, ◌||◌, List, [], ◌∷◌, ◌++◌, length, map, filter, fold, flat_map, Option, Some, None, ℤ, pos, negsuc}
use Rattle.lin_terms.specs.Bounds.{fits_form}
use Rattle.lin_terms.specs.Vectors.{dot}
use Rattle.horn_clauses.specs.declared.atom.Rel.{Rel}
use Rattle.horn_clauses.specs.declared.atom.Rel.TheVariants.{Eq, AtLeast}
use Rattle.horn_clauses.specs.declared.atom.Atom.{Atom}
use Rattle.horn_clauses.specs.declared.atom.Atom.TheVariants.{False, Linear}

-- ---- lists of coefficients

-- The lists of n of these values of which each goes on from what was seen before it, and whose end is done: those that
-- begin with the first value first.
abbrev pub grown : {S : Type 0} → (S → ℤ → Option S) → (S → Bool) → List ℤ → ℕ → Option S → List (List ℤ)
grown next done values n None = []
grown next done values zero (Some seen) = if done seen then [] ∷ [] else []
grown next done values (suc n) (Some seen) =
    flat_map (λ value. map (λ coefs. value ∷ coefs) (grown next done values n (next seen value))) values

-- How many coefficients of size 1 and of size 2 were seen.
pub record Sizes : Type 0 where
  pub ones : ℕ
  pub twos : ℕ

-- As many were seen.
abbrev pub sizes : ℕ → ℕ → Sizes
sizes ones twos = record { ones = ones; twos = twos }

-- Whether an equality has as many: three in all, or four of size 1.
abbrev pub are_few : Sizes → Bool
are_few seen = nat_le (seen.ones + seen.twos) 3 || (seen.ones == 4 && seen.twos == 0)

-- What was seen, where it is not too much.
abbrev pub if_few : Sizes → Option Sizes
if_few seen = if are_few seen then Some seen else None

-- What was seen, where a coefficient that is not 0 stood in front.
abbrev pub if_any : Sizes → Option Sizes → Option Sizes
if_any seen after = if seen.ones + seen.twos == 0 then None else after

-- What an equality's coefficients have seen after one more: the first that is not 0 is positive.
abbrev pub with_coef : Sizes → ℤ → Option Sizes
with_coef seen (pos zero) = Some seen
with_coef seen (pos (suc zero)) = if_few (sizes (suc seen.ones) seen.twos)
with_coef seen (pos (suc (suc zero))) = if_few (sizes seen.ones (suc seen.twos))
with_coef seen (pos (suc (suc (suc n)))) = None
with_coef seen (negsuc zero) = if_any seen (if_few (sizes (suc seen.ones) seen.twos))
with_coef seen (negsuc (suc zero)) = if_any seen (if_few (sizes seen.ones (suc seen.twos)))
with_coef seen (negsuc (suc (suc n))) = None

-- Whether the coefficients have no common divisor: one of them has size 1.
abbrev pub are_coprime : Sizes → Bool
are_coprime seen = nat_le 1 seen.ones

-- The coefficients of equalities, greatest first.
abbrev pub coef_values : List ℤ
coef_values = pos 2 ∷ pos 1 ∷ pos 0 ∷ negsuc 0 ∷ negsuc 1 ∷ []

-- The coefficients of the equalities over n values, the greater lists first.
abbrev pub shapes : ℕ → List (List ℤ)
shapes n = grown with_coef are_coprime coef_values n (Some (sizes 0 0))

-- Whether a coefficient 1 and whether a coefficient -1 was seen.
pub record Signs : Type 0 where
  pub plus : Bool
  pub minus : Bool

-- These were seen.
abbrev pub signs : Bool → Bool → Signs
signs plus minus = record { plus = plus; minus = minus }

-- What a bound's coefficients have seen after one more: each sign comes once.
abbrev pub with_sign : Signs → ℤ → Option Signs
with_sign seen (pos zero) = Some seen
with_sign seen (pos (suc zero)) = if seen.plus then None else Some (signs true seen.minus)
with_sign seen (pos (suc (suc n))) = None
with_sign seen (negsuc zero) = if seen.minus then None else Some (signs seen.plus true)
with_sign seen (negsuc (suc n)) = None

-- Whether a coefficient is not 0.
abbrev pub is_any : Signs → Bool
is_any seen = seen.plus || seen.minus

-- The coefficients of bounds, greatest first.
abbrev pub sign_values : List ℤ
sign_values = pos 1 ∷ pos 0 ∷ negsuc 0 ∷ []

-- The coefficients of the bounds over n values, the greater lists first.
abbrev pub bound_shapes : ℕ → List (List ℤ)
bound_shapes n = grown with_sign is_any sign_values n (Some (signs false false))

-- ---- atoms

-- Whether the sum stands so to the constant.
abbrev pub stands : Rel → ℤ → ℤ → Bool
stands Eq sum constant = int_le sum constant && int_le constant sum
stands AtLeast sum constant = int_le constant sum

-- Whether the atom holds at the point.
abbrev pub holds_at : List ℤ → Atom → Bool
holds_at point False = false
holds_at point (Linear coefs constant rel) = stands rel (dot coefs point) constant

-- The equality with this sum as its constant, where that is below 2^50 in size.
abbrev pub equality_of : List ℤ → ℤ → List Atom
equality_of coefs sum = if fits_form sum then Linear coefs sum Eq ∷ [] else []

-- The bounds whose constant is at most this sum.
abbrev pub bounds_of : List ℤ → List ℤ → ℤ → List Atom
bounds_of constants coefs sum =
    map (λ constant. Linear coefs constant AtLeast) (filter (λ constant. int_le constant sum) constants)

-- The atoms of the template that hold at the point, equalities first.
abbrev pub proposed : List ℤ → List ℤ → List Atom
proposed constants point =
    flat_map (λ coefs. equality_of coefs (dot coefs point)) (shapes (length point))
    ++ flat_map (λ coefs. bounds_of constants coefs (dot coefs point)) (bound_shapes (length point))

-- What a point leaves of the atoms: those that hold there.
abbrev pub struck : List Atom → List ℤ → List Atom
struck atoms point = filter (holds_at point) atoms

-- What is mined of a first point and of further ones.
abbrev pub mined : List ℤ → List ℤ → List (List ℤ) → List Atom
mined constants point points = fold struck (proposed constants point) points
