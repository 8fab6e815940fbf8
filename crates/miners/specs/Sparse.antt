-- Lists of coefficients that are held by their places: at most four terms, of which the others are free.
use Rattle.std.specs.Prelude.{◌≡◌, ℕ, zero, suc, ◌+◌, ◌==◌, not, ◌&&◌, slice_index_or, flat_map, Bool, true, false, List, [], ◌∷◌, map, Option, Some, MatchOption, ℤ, pos, negsuc, ◌+ℤ◌}
use Rattle.miners.specs.declared.shape.Coef.{Coef}
use Rattle.miners.specs.declared.shape.Coef.TheVariants.{Two, One, Zero, MinusOne, MinusTwo}
use Rattle.miners.specs.declared.shape.Shape.{Shape}
use Rattle.miners.specs.declared.shape.Kind.{Kind}
use Rattle.miners.specs.declared.shape.Kind.TheVariants.{Equality, Bound}
use Rattle.miners.specs.Mined.{grown, Sizes, sizes, are_few, with_coef, are_coprime, coef_values, shapes, Signs, signs, with_sign, is_any, bound_shapes}

-- ---- coefficients

-- The coefficient as a number.
abbrev pub coef_of : Coef → ℤ
coef_of Two = pos 2
coef_of One = pos 1
coef_of Zero = pos 0
coef_of MinusOne = negsuc 0
coef_of MinusTwo = negsuc 1

-- Whether it is 0.
abbrev pub is_zero : Coef → Bool
is_zero Two = false
is_zero One = false
is_zero Zero = true
is_zero MinusOne = false
is_zero MinusTwo = false

-- Whether it is below 0.
abbrev pub is_negative : Coef → Bool
is_negative Two = false
is_negative One = false
is_negative Zero = false
is_negative MinusOne = true
is_negative MinusTwo = true

-- 1 where it has the size 1.
abbrev pub ones_in : Coef → ℕ
ones_in Two = 0
ones_in One = 1
ones_in Zero = 0
ones_in MinusOne = 1
ones_in MinusTwo = 0

-- 1 where it has the size 2.
abbrev pub twos_in : Coef → ℕ
twos_in Two = 1
twos_in One = 0
twos_in Zero = 0
twos_in MinusOne = 0
twos_in MinusTwo = 1

-- ---- shapes

-- What the term adds to the coefficient at a place.
abbrev pub only_at : ℕ → ℤ → ℕ → ℤ
only_at zero coef zero = coef
only_at zero coef (suc i) = pos 0
only_at (suc index) coef zero = pos 0
only_at (suc index) coef (suc i) = only_at index coef i

-- The coefficient of the shape at a place.
unfoldable pub coef_at : Shape → ℕ → ℤ
coef_at shape i =
    only_at shape.first.index (coef_of shape.first.coef) i
    +ℤ (only_at shape.second.index (coef_of shape.second.coef) i
    +ℤ (only_at shape.third.index (coef_of shape.third.coef) i
    +ℤ only_at shape.fourth.index (coef_of shape.fourth.coef) i))

-- The numbers at so many places from this one on.
abbrev pub told : (ℕ → ℤ) → ℕ → ℕ → List ℤ
told f i zero = []
told f i (suc n) = f i ∷ told f (suc i) n

-- The n coefficients of a shape.
abbrev pub coefs_of : ℕ → Shape → List ℤ
coefs_of n shape = told (coef_at shape) 0 n

-- All four terms are free.
pub record IsFree (shape : Shape) : Type 0 where
  pub first : shape.first.coef ≡ Zero
  pub second : shape.second.coef ≡ Zero
  pub third : shape.third.coef ≡ Zero
  pub fourth : shape.fourth.coef ≡ Zero

-- How many coefficients have the size 1.
unfoldable pub ones_of : Shape → ℕ
ones_of shape =
    ones_in shape.first.coef + (ones_in shape.second.coef + (ones_in shape.third.coef + ones_in shape.fourth.coef))

-- How many have the size 2.
unfoldable pub twos_of : Shape → ℕ
twos_of shape =
    twos_in shape.first.coef + (twos_in shape.second.coef + (twos_in shape.third.coef + twos_in shape.fourth.coef))

-- What an equality's coefficients have seen.
abbrev pub sizes_in : Shape → Sizes
sizes_in shape = sizes (ones_of shape) (twos_of shape)

-- What a bound's have: the first term is its 1, and the second its -1.
abbrev pub signs_in : Shape → Signs
signs_in shape = signs (not (is_zero shape.first.coef)) (not (is_zero shape.second.coef))

-- The second shape is the first with the coefficient at the place.
pub record Places (shape : Shape) (index : ℕ) (coef : Coef) (made : Shape) : Type 0 where
  pub at : (i : ℕ) → coef_at made i ≡ only_at index (coef_of coef) i +ℤ coef_at shape i
  pub ones : ones_of made ≡ ones_in coef + ones_of shape
  pub twos : twos_of made ≡ twos_in coef + twos_of shape

-- ---- how shapes go on

-- Whether a coefficient that is not 0 may come after what an equality has seen.
abbrev pub can_follow : Coef → Sizes → Bool
can_follow coef seen =
    not (is_negative coef && (seen.ones + seen.twos == 0))
    && are_few (sizes (ones_in coef + seen.ones) (twos_in coef + seen.twos))

-- The lists of n further coefficients that an equality's, or a bound's, may have after what was seen.
abbrev pub grown_sizes : ℕ → Option Sizes → List (List ℤ)
grown_sizes = grown with_coef are_coprime coef_values

abbrev pub grown_signs : ℕ → Option Signs → List (List ℤ)
grown_signs = grown with_sign is_any coef_values

-- Those after the shape's.
abbrev pub grown_after : Kind → ℕ → Shape → List (List ℤ)
grown_after Equality n shape = grown_sizes n (Some (sizes_in shape))
grown_after Bound n shape = grown_signs n (Some (signs_in shape))

-- Those after the shape's and one more.
abbrev pub grown_with : Kind → ℕ → Shape → ℤ → List (List ℤ)
grown_with Equality n shape value = grown_sizes n (with_coef (sizes_in shape) value)
grown_with Bound n shape value = grown_signs n (with_sign (signs_in shape) value)

-- The shape goes on so with the coefficient at the place.
abbrev pub GoesOn : Kind → Shape → ℕ → Coef → Option Shape → Type 0
GoesOn kind shape index coef made =
    MatchOption made ((n : ℕ) → grown_with kind n shape (coef_of coef) ≡ [])
    (λ next. ((n : ℕ) → grown_with kind n shape (coef_of coef) ≡ grown_after kind n next)
    × ((i : ℕ) → coef_at next i ≡ only_at index (coef_of coef) i +ℤ coef_at shape i))

-- The number of the list that begins at the place i; 0 before it, and past its end.
abbrev pub tail_at : ℕ → List ℤ → ℕ → ℤ
tail_at zero xs j = slice_index_or xs j (pos 0)
tail_at (suc i) xs zero = pos 0
tail_at (suc i) xs (suc j) = tail_at i xs j

-- The n coefficients of a shape to which these are added from the place i on.
abbrev pub ended_by : ℕ → ℕ → Shape → List ℤ → List ℤ
ended_by n i shape tail = told (λ j. coef_at shape j +ℤ tail_at i tail j) 0 n

-- The lists that the shape may become by k coefficients from the place i on.
abbrev pub ended : Kind → ℕ → ℕ → ℕ → Shape → List (List ℤ)
ended kind n i k shape = map (ended_by n i shape) (grown_after kind k shape)

-- Those of them whose first further coefficient is this one.
abbrev pub ended_with : Kind → ℕ → ℕ → ℕ → Shape → ℤ → List (List ℤ)
ended_with kind n i k shape value =
    map (λ tail. ended_by n i shape (value ∷ tail)) (grown_with kind k shape value)

-- Those of all the shapes.
unfoldable pub all_ended : Kind → ℕ → ℕ → ℕ → List Shape → List (List ℤ)
all_ended kind n i k shapes = flat_map (ended kind n i k) shapes

-- The lists of n coefficients of a kind, greatest first.
abbrev pub shapes_of : Kind → ℕ → List (List ℤ)
shapes_of Equality n = shapes n
shapes_of Bound n = bound_shapes n

-- Whether the shape's coefficients are a whole list of the kind.
abbrev pub is_done : Kind → Shape → Bool
is_done Equality shape = are_coprime (sizes_in shape)
is_done Bound shape = is_any (signs_in shape)
