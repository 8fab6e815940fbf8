-- What a point leaves of what is kept at a node.
use Rattle.std.proofs.Common.{◌≡◌, ℕ, suc, ◌≤◌, Bool, true, false, cond, ◌&&◌, List, [], ◌∷◌, ◌++◌, map, filter, flat_map, length, arith, refl, sym, ◌∙◌, ap}
use Rattle.std.specs.Prelude.{ℤ, ◌≤ℤ◌, int_le, int_lt, All, if◌then◌else◌}
use Rattle.std.proofs.lemmas.Int.{ints}
use Rattle.std.proofs.lemmas.List.Folds.{flat_map-map}
use Rattle.std.proofs.lemmas.List.Elements.{All-nil, All-cons}
use Rattle.lin_terms.specs.Vectors.{dot}
use Rattle.horn_clauses.specs.declared.atom.Atom.{Atom}
use Rattle.horn_clauses.specs.declared.node.Node.{Node}
use Rattle.miners.specs.declared.shape.Shape.{Shape}
use Rattle.miners.specs.declared.shape.Kind.TheVariants.{Equality, Bound}
use Rattle.miners.specs.declared.kept.Fixed.{Fixed}
use Rattle.miners.specs.declared.kept.Least.{Least}
use Rattle.miners.specs.Mined.{equality_of, bounds_of, struck, proposed}
use Rattle.miners.specs.Sparse.{coefs_of, shapes_of}
use Rattle.miners.specs.Kept.{IsWithin, sum_at, fixed_atom, IsFixed, stays, least_at, IsLeast, least_of, lesser, lowered, held, bounds_left, atoms_left, IsHeld}
use Rattle.miners.proofs.Striking.{bounds_fall, bounds_stay, struck-append}
use Rattle.miners.proofs.Sums.{dot_coefs}

-- ---- equalities

pub fixed_left : (n : ℕ) (values point : List ℤ) → IsWithin n values point → (xs : List Fixed)
    → map (fixed_atom n) (filter (stays point) xs) ≡ struck (map (fixed_atom n) xs) values
fixed_left n values point within [] = refl
fixed_left n values point within (x ∷ xs) =
    rw (dot_coefs n x.shape values point within) (by (stays point x) (fixed_left n values point within xs))
  where
    by : (b : Bool) → map (fixed_atom n) (filter (stays point) xs) ≡ struck (map (fixed_atom n) xs) values
        → map (fixed_atom n) (cond b (x ∷ filter (stays point) xs) (filter (stays point) xs))
        ≡ cond b (fixed_atom n x ∷ struck (map (fixed_atom n) xs) values) (struck (map (fixed_atom n) xs) values)
    by true e = ap (λ atoms. fixed_atom n x ∷ atoms) e
    by false e = e

-- ---- bounds

one_left : (constants cs values : List ℤ) (sum s : ℤ) → dot cs values ≡ s
    → bounds_of constants cs (lesser sum s) ≡ struck (bounds_of constants cs sum) values
one_left constants cs values sum s e = by (int_lt s sum) refl
  where
    falls : (x : ℤ) → int_lt x sum ≡ true → x ≤ℤ sum
    falls x h = omega (arith, ints)

    rests : (x : ℤ) → int_lt x sum ≡ false → sum ≤ℤ x
    rests x h = omega (arith, ints)

    by : (b : Bool) → int_lt s sum ≡ b
        → bounds_of constants cs (if b then s else sum) ≡ struck (bounds_of constants cs sum) values
    by true h = rw (← e) (sym (bounds_fall constants cs values sum (rw e (falls s h))))
    by false h = sym (bounds_stay constants cs values sum (rw e (rests s h)))

pub leasts_left : (constants : List ℤ) (n : ℕ) (values point : List ℤ) → IsWithin n values point → (xs : List Least)
    → bounds_left constants (map (least_of n) (map (lowered point) xs)) ≡ struck (bounds_left constants (map (least_of n) xs)) values
leasts_left constants n values point within [] = refl
leasts_left constants n values point within (x ∷ xs) =
    ap (λ atoms. atoms ++ bounds_left constants (map (least_of n) (map (lowered point) xs)))
    (one_left constants (coefs_of n x.shape) values x.sum (sum_at x.shape point) (dot_coefs n x.shape values point within))
    ∙ ap (λ atoms. struck (bounds_of constants (coefs_of n x.shape) x.sum) values ++ atoms) (leasts_left constants n values point within xs)
    ∙ sym (struck-append (bounds_of constants (coefs_of n x.shape) x.sum) (bounds_left constants (map (least_of n) xs)) values)

-- ---- a point that leaves what it leaves

pub struck_held : (constants : List ℤ) (node : Node) (n : ℕ) (values point : List ℤ) (xs ys : List Fixed) (bounds lows : List Least)
    → IsWithin n values point → ys ≡ filter (stays point) xs → lows ≡ map (lowered point) bounds
    → atoms_left constants (held node (map (fixed_atom n) ys) (map (least_of n) lows))
    ≡ struck (atoms_left constants (held node (map (fixed_atom n) xs) (map (least_of n) bounds))) values
struck_held constants node n values point xs ys bounds lows within e f =
    rw (e, f) (ap (λ atoms. atoms ++ bounds_left constants (map (least_of n) (map (lowered point) bounds))) (fixed_left n values point within xs)
    ∙ ap (λ atoms. struck (map (fixed_atom n) xs) values ++ atoms) (leasts_left constants n values point within bounds)
    ∙ sym (struck-append (map (fixed_atom n) xs) (bounds_left constants (map (least_of n) bounds)) values))

-- ---- the point that was had last

first_of : {A : Type 0} (P : A → Type 0) (x : A) (xs : List A) → All P (x ∷ xs) → P x
first_of P x xs h = h 0 x (omega arith)

others_of : {A : Type 0} (P : A → Type 0) (x : A) (xs : List A) → All P (x ∷ xs) → All P xs
others_of P x xs h = λ k d below. h (suc k) d (omega (arith, below))

same_stands : (x y : ℤ) → x ≡ y → (int_le x y && int_le y x) ≡ true
same_stands x y e = rw (sym e, itself x (int_le x x) refl) refl
  where
    itself : (x : ℤ) (b : Bool) → int_le x x ≡ b → int_le x x ≡ true
    itself x true e = e
    itself x false e = absurd (omega (arith, ints, e))

all_stay : (point : List ℤ) (xs : List Fixed) → All (IsFixed point) xs → filter (stays point) xs ≡ xs
all_stay point [] h = refl
all_stay point (x ∷ xs) h =
    rw (same_stands (sum_at x.shape point) x.constant (first_of (IsFixed point) x xs h))
    (ap (λ t. x ∷ t) (all_stay point xs (others_of (IsFixed point) x xs h)))

not_lesser : (x y : ℤ) → x ≤ℤ y → lesser x y ≡ x
not_lesser x y h = by (int_lt y x) refl
  where
    by : (b : Bool) → int_lt y x ≡ b → (if b then y else x) ≡ x
    by true e = absurd (omega (arith, ints, e, h))
    by false e = refl

none_lowered : (n : ℕ) (point : List ℤ) (xs : List Least) → All (IsLeast point) xs
    → map (least_of n) (map (lowered point) xs) ≡ map (least_of n) xs
none_lowered n point [] h = refl
none_lowered n point (x ∷ xs) h =
    ap (λ sum. (coefs_of n x.shape, sum) ∷ map (least_of n) (map (lowered point) xs))
    (not_lesser x.sum (sum_at x.shape point) (first_of (IsLeast point) x xs h))
    ∙ ap (λ t. (coefs_of n x.shape, x.sum) ∷ t) (none_lowered n point xs (others_of (IsLeast point) x xs h))

pub same_point : (constants : List ℤ) (node : Node) (n : ℕ) (values point : List ℤ) (xs : List Fixed) (bounds : List Least)
    → IsWithin n values point → All (IsFixed point) xs → All (IsLeast point) bounds
    → atoms_left constants (held node (map (fixed_atom n) xs) (map (least_of n) bounds))
    ≡ struck (atoms_left constants (held node (map (fixed_atom n) xs) (map (least_of n) bounds))) values
same_point constants node n values point xs bounds within fixed least =
    ap (λ equalities. atoms_left constants (held node equalities (map (least_of n) bounds))) (ap (map (fixed_atom n)) (sym (all_stay point xs fixed)))
    ∙ ap (λ leasts. atoms_left constants (held node (map (fixed_atom n) (filter (stays point) xs)) leasts)) (sym (none_lowered n point bounds least))
    ∙ struck_held constants node n values point xs (filter (stays point) xs) bounds (map (lowered point) bounds) within refl refl

-- ---- what stays as it is kept

pub left_are_fixed : (point : List ℤ) (xs : List Fixed) → (x : Fixed) → stays point x ≡ true → IsFixed point x
left_are_fixed point xs x e = two (sum_at x.shape point) x.constant (both _ _ e).0 (both _ _ e).1
  where
    both : (a b : Bool) → (a && b) ≡ true → (a ≡ true) × (b ≡ true)
    both true b e = (refl, e)
    both false b e = cc

    two : (x y : ℤ) → int_le x y ≡ true → int_le y x ≡ true → x ≡ y
    two x y e f = omega (arith, ints)

lesser_is : (x y : ℤ) → lesser x y ≤ℤ y
lesser_is x y = by (int_lt y x) refl
  where
    by : (b : Bool) → int_lt y x ≡ b → (if b then y else x) ≤ℤ y
    by true e = omega (arith, ints)
    by false e = omega (arith, ints, e)

pub lowered_are_least : (point : List ℤ) (xs : List Least) → All (IsLeast point) (map (lowered point) xs)
lowered_are_least point [] = All-nil (IsLeast point)
lowered_are_least point (x ∷ xs) =
    All-cons (IsLeast point) (lowered point x) (map (lowered point) xs) (lesser_is x.sum (sum_at x.shape point)) (lowered_are_least point xs)

pub int_itself : (x : ℤ) → x ≤ℤ x
int_itself x = omega (arith, ints)

pub sums_are_least : (point : List ℤ) (xs : List Shape) → All (IsLeast point) (map (least_at point) xs)
sums_are_least point [] = All-nil (IsLeast point)
sums_are_least point (x ∷ xs) =
    All-cons (IsLeast point) (least_at point x) (map (least_at point) xs) (int_itself (sum_at x point)) (sums_are_least point xs)

all_filtered : (point : List ℤ) (xs : List Fixed) → All (IsFixed point) (filter (stays point) xs)
all_filtered point [] = All-nil (IsFixed point)
all_filtered point (x ∷ xs) = by (stays point x) refl (all_filtered point xs)
  where
    by : (b : Bool) → stays point x ≡ b → All (IsFixed point) (filter (stays point) xs)
        → All (IsFixed point) (cond b (x ∷ filter (stays point) xs) (filter (stays point) xs))
    by true e h = All-cons (IsFixed point) x (filter (stays point) xs) (left_are_fixed point xs x e) h
    by false e h = h

pub held_again : (width : ℕ) (point : List ℤ) (xs ys : List Fixed) (bounds lows : List Least) → width ≤ 16
    → ys ≡ filter (stays point) xs → lows ≡ map (lowered point) bounds → IsHeld width point ys lows
held_again width point xs ys bounds lows narrow e f = record {
  narrow = narrow;
  fixed = rw e (all_filtered point xs);
  least = rw f (lowered_are_least point bounds);
}

pub same_at_once : (constants : List ℤ) (node : Node) (n : ℕ) (values last point : List ℤ) (xs : List Fixed) (bounds : List Least)
    → last ≡ point → IsWithin n values point → All (IsFixed last) xs → All (IsLeast last) bounds
    → atoms_left constants (held node (map (fixed_atom n) xs) (map (least_of n) bounds))
    ≡ struck (atoms_left constants (held node (map (fixed_atom n) xs) (map (least_of n) bounds))) values
same_at_once constants node n values last point xs bounds e within fixed least =
    same_point constants node n values last xs bounds (rw e within) fixed least

-- ---- the first point

pub flat_map_same : {A B : Type 0} (f g : A → List B) → ((x : A) → f x ≡ g x) → (xs : List A) → flat_map f xs ≡ flat_map g xs
flat_map_same f g e [] = refl
flat_map_same f g e (x ∷ xs) = ap (λ t. t ++ flat_map f xs) (e x) ∙ ap (λ t. g x ++ t) (flat_map_same f g e xs)

least_bounds : (constants : List ℤ) (n : ℕ) (point : List ℤ) (signs : List Shape)
    → bounds_left constants (map (least_of n) (map (least_at point) signs))
    ≡ flat_map (λ shape. bounds_of constants (coefs_of n shape) (sum_at shape point)) signs
least_bounds constants n point [] = refl
least_bounds constants n point (x ∷ xs) =
    ap (λ t. bounds_of constants (coefs_of n x) (sum_at x point) ++ t) (least_bounds constants n point xs)

-- at each shape a word of its coefficients and of its sum
over_shapes : (word : List ℤ → ℤ → List Atom) (n : ℕ) (values point : List ℤ) (shapes : List Shape) (css : List (List ℤ))
    → IsWithin n values point → map (coefs_of n) shapes ≡ css
    → flat_map (λ shape. word (coefs_of n shape) (sum_at shape point)) shapes ≡ flat_map (λ cs. word cs (dot cs values)) css
over_shapes word n values point shapes css within e =
    flat_map_same (λ shape. word (coefs_of n shape) (sum_at shape point)) (λ shape. word (coefs_of n shape) (dot (coefs_of n shape) values))
    (λ shape. ap (word (coefs_of n shape)) (sym (dot_coefs n shape values point within))) shapes
    ∙ sym (flat_map-map (λ cs. word cs (dot cs values)) (coefs_of n) shapes)
    ∙ ap (flat_map (λ cs. word cs (dot cs values))) e

pub first_held : (constants : List ℤ) (node : Node) (n : ℕ) (values point : List ℤ) (shapes signs : List Shape) (xs : List Fixed) (leasts : List Least)
    → length values ≡ n → IsWithin n values point
    → map (coefs_of n) shapes ≡ shapes_of Equality n → map (coefs_of n) signs ≡ shapes_of Bound n
    → map (fixed_atom n) xs ≡ flat_map (λ shape. equality_of (coefs_of n shape) (sum_at shape point)) shapes
    → leasts ≡ map (least_at point) signs
    → atoms_left constants (held node (map (fixed_atom n) xs) (map (least_of n) leasts)) ≡ proposed constants values
first_held constants node n values point shapes signs xs leasts size within e f g h =
    rw (g, h, size) (ap (λ t. t ++ bounds_left constants (map (least_of n) (map (least_at point) signs)))
    (over_shapes equality_of n values point shapes (shapes_of Equality n) within e)
    ∙ ap (λ t. flat_map (λ cs. equality_of cs (dot cs values)) (shapes_of Equality n) ++ t)
    (least_bounds constants n point signs ∙ over_shapes (bounds_of constants) n values point signs (shapes_of Bound n) within f))
