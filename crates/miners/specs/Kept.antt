-- What is kept of the points at a node: sums of shapes, and the atoms that are left.
use Rattle.std.specs.Prelude.{◌≡◌, ℕ, zero, suc, ◌≤◌, ◌≤ℤ◌, int_lt, nat_le, if◌then◌else◌, List, [], ◌∷◌, ◌++◌, length, flat_map, slice_index_or, All, Bool, true, false, Option, Some, None, ℤ, pos, ◌+ℤ◌, ◌*ℤ◌}
use Rattle.lin_terms.specs.Bounds.{fits_form}
use Rattle.horn_clauses.specs.declared.atom.Rel.TheVariants.{Eq}
use Rattle.horn_clauses.specs.declared.atom.Atom.{Atom}
use Rattle.horn_clauses.specs.declared.atom.Atom.TheVariants.{Linear}
use Rattle.horn_clauses.specs.declared.node.Node.{Node}
use Rattle.miners.specs.declared.shape.Term.{Term}
use Rattle.miners.specs.declared.shape.Shape.{Shape}
use Rattle.miners.specs.declared.kept.Fixed.{Fixed}
use Rattle.miners.specs.declared.kept.Least.{Least}
use Rattle.miners.specs.Mined.{stands, proposed, bounds_of}
use Rattle.miners.specs.Sparse.{coef_of, coefs_of}

-- ---- sums

-- The value at the place among the first n; 0 past these, and past the end.
abbrev pub value_within : ℕ → List ℤ → ℕ → ℤ
value_within zero values i = pos 0
value_within (suc n) [] i = pos 0
value_within (suc n) (x ∷ values) zero = x
value_within (suc n) (x ∷ values) (suc i) = value_within n values i

-- These are the first n values, and zeros.
abbrev pub IsWithin : ℕ → List ℤ → List ℤ → Type 0
IsWithin n values point = (i : ℕ) → slice_index_or point i (pos 0) ≡ value_within n values i

-- The term's value.
abbrev pub product_at : Term → List ℤ → ℤ
product_at term point = coef_of term.coef *ℤ slice_index_or point term.index (pos 0)

-- The sum of the shape's terms.
unfoldable pub sum_at : Shape → List ℤ → ℤ
sum_at shape point =
    product_at shape.first point
    +ℤ (product_at shape.second point +ℤ (product_at shape.third point +ℤ product_at shape.fourth point))

-- ---- what is left

-- The equality of n values that is left.
abbrev pub fixed_atom : ℕ → Fixed → Atom
fixed_atom n fixed = Linear (coefs_of n fixed.shape) fixed.constant Eq

-- The equality holds at the point.
abbrev pub IsFixed : List ℤ → Fixed → Type 0
IsFixed point fixed = sum_at fixed.shape point ≡ fixed.constant

-- Whether it does.
abbrev pub stays : List ℤ → Fixed → Bool
stays point fixed = stands Eq (sum_at fixed.shape point) fixed.constant

-- The equality of the shape that holds at the point, where its constant is below 2^50 in size.
abbrev pub FixesTo : Shape → List ℤ → Option Fixed → Type 0
FixesTo shape point None = fits_form (sum_at shape point) ≡ false
FixesTo shape point (Some fixed) =
    (fits_form (sum_at shape point) ≡ true) × (fixed.shape ≡ shape) × (fixed.constant ≡ sum_at shape point)

-- The shape with its sum at the point.
abbrev pub least_at : List ℤ → Shape → Least
least_at point shape = record { shape = shape; sum = sum_at shape point }

-- The least sum is no greater than the sum at the point.
abbrev pub IsLeast : List ℤ → Least → Type 0
IsLeast point least = least.sum ≤ℤ sum_at least.shape point

-- The coefficients of bounds, with the least sum so far.
abbrev pub least_of : ℕ → Least → List ℤ × ℤ
least_of n least = (coefs_of n least.shape, least.sum)

-- The lesser number.
abbrev pub lesser : ℤ → ℤ → ℤ
lesser x y = if int_lt y x then y else x

-- After a point the least sum is no greater than the sum there.
abbrev pub lowered : List ℤ → Least → Least
lowered point least = record { shape = least.shape; sum = lesser least.sum (sum_at least.shape point) }

-- A node with the equalities that are left, and the least sums of bounds.
pub record Held : Type 0 where
  pub node : Node
  pub equalities : List Atom
  pub leasts : List (List ℤ × ℤ)

-- The node with these.
abbrev pub held : Node → List Atom → List (List ℤ × ℤ) → Held
held node equalities leasts = record { node = node; equalities = equalities; leasts = leasts }

-- The bounds that these least sums leave.
abbrev pub bounds_left : List ℤ → List (List ℤ × ℤ) → List Atom
bounds_left constants leasts = flat_map (λ least. bounds_of constants least.0 least.1) leasts

-- The atoms that are left, with these constants of bounds.
abbrev pub atoms_left : List ℤ → Held → List Atom
atoms_left constants held = held.equalities ++ bounds_left constants held.leasts

-- What is left after a first point: of more than 16 values nothing is.
abbrev pub first_atoms : List ℤ → List ℤ → List Atom
first_atoms constants point = if nat_le (length point) 16 then proposed constants point else []

-- There are at most 16 values, and the last point leaves all that is kept.
pub record IsHeld (width : ℕ) (last : List ℤ) (equalities : List Fixed) (bounds : List Least) : Type 0 where
  pub narrow : width ≤ 16
  pub fixed : All (IsFixed last) equalities
  pub least : All (IsLeast last) bounds
