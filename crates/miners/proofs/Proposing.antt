-- What a first point proposes, and what is mined: exactly the template's atoms that hold, in order.
use Rattle.std.proofs.Common.{◌≡◌, Bool, true, false, cond, ◌⊎◌, inl, inr, List, [], ◌∷◌, map, filter, flat_map, refl, sym, ap, subst, length, ltb-true, lt-ltb}
use Rattle.std.specs.Prelude.{ℤ, ◌≤ℤ◌, ◌<ℤ◌, int_le}
use Rattle.lin_terms.specs.Bounds.{fits_form, FitsForm}
use Rattle.lin_terms.specs.Vectors.{dot}
use Rattle.horn_clauses.specs.declared.atom.Atom.{Atom}
use Rattle.horn_clauses.specs.declared.atom.Atom.TheVariants.{False, Linear}
use Rattle.horn_clauses.specs.declared.atom.Rel.TheVariants.{Eq, AtLeast}
use Rattle.horn_clauses.specs.Atom.{AtomHolds}
use Rattle.miners.specs.Template.{IsTemplateAtom, IsGreater, AtomStandsBefore}
use Rattle.miners.specs.Mined.{shapes, bound_shapes, equality_of, bounds_of, proposed, mined}
use Rattle.miners.proofs.Listings.{Each, IsOneOf, IsListed, Lists, contains, one_of, one_of_left, one_of_right, one_of_either, each_from, each_one, listed_append, filter_one, one_filter, listed_filter, some_part, in_parts}
use Rattle.miners.proofs.ShapesAre.{shapes_list, bound_shapes_list}
use Rattle.miners.proofs.Striking.{HoldsAtEach, le_true, true_le, struck_one, one_struck, listed_struck}

-- ---- the atoms of one list of coefficients after those of another

-- The list of atoms of some coefficients.
abbrev AtomsOf : Type 0
AtomsOf = List ℤ → List Atom

-- Atoms of greater coefficients stand before those of lesser ones.
abbrev Apart : AtomsOf → Type 0
Apart f = (cs ds : List ℤ) (a b : Atom) → IsGreater cs ds → IsOneOf a (f cs) → IsOneOf b (f ds) → AtomStandsBefore a b

listed_lists : (f : AtomsOf) (css : List (List ℤ)) → IsListed IsGreater css → ((cs : List ℤ) → IsListed AtomStandsBefore (f cs)) → Apart f
    → IsListed AtomStandsBefore (flat_map f css)
listed_lists f [] h each apart = tt
listed_lists f (cs ∷ css) h each apart =
    listed_append AtomStandsBefore (f cs) (flat_map f css) (each cs) (listed_lists f css h.1 each apart)
    (each_from (λ a. Each (AtomStandsBefore a) (flat_map f css)) (f cs) (λ a one. each_from (AtomStandsBefore a) (flat_map f css) (λ b other.
    let r = some_part f css b other in apart cs r.0 a b (each_one (IsGreater cs) css r.0 r.1 h.0) one r.2)))

-- ---- the equality of a sum

of_cond : (b : Bool) (a x : Atom) → IsOneOf a (cond b (x ∷ []) []) → (a ≡ x) × (b ≡ true)
of_cond true a x (inl h) = (h, refl)
of_cond true a x (inr h) = absurd h
of_cond false a x h = absurd h

in_cond : (b : Bool) (x : Atom) → b ≡ true → IsOneOf x (cond b (x ∷ []) [])
in_cond true x e = inl refl
in_cond false x e = cc

listed_cond : (b : Bool) (x : Atom) → IsListed AtomStandsBefore (cond b (x ∷ []) [])
listed_cond true x = (tt, tt)
listed_cond false x = tt

of_equality : (cs : List ℤ) (sum : ℤ) (a : Atom) → IsOneOf a (equality_of cs sum) → (a ≡ Linear cs sum Eq) × FitsForm sum
of_equality cs sum a h = let r = of_cond (fits_form sum) a (Linear cs sum Eq) h in (r.0, ltb-true _ _ r.1)

in_equality : (cs : List ℤ) (sum : ℤ) → FitsForm sum → IsOneOf (Linear cs sum Eq) (equality_of cs sum)
in_equality cs sum h = in_cond (fits_form sum) (Linear cs sum Eq) (lt-ltb _ _ h)

-- ---- the bounds up to a sum

module _ (cs : List ℤ) where
  bound : ℤ → Atom
  bound c = Linear cs c AtLeast

  of_map : (constants : List ℤ) (a : Atom) → IsOneOf a (map (λ c. Linear cs c AtLeast) constants) → (c : ℤ) × (a ≡ Linear cs c AtLeast) × IsOneOf c constants
  of_map [] a h = absurd h
  of_map (c ∷ constants) a (inl h) = (c, h, inl refl)
  of_map (c ∷ constants) a (inr h) = let r = of_map constants a h in (r.0, r.1, inr r.2)

  in_map : (constants : List ℤ) (c : ℤ) → IsOneOf c constants → IsOneOf (Linear cs c AtLeast) (map (λ c. Linear cs c AtLeast) constants)
  in_map [] c h = absurd h
  in_map (d ∷ constants) c (inl h) = inl (ap (λ t. Linear cs t AtLeast) h)
  in_map (d ∷ constants) c (inr h) = inr (in_map constants c h)

  listed_map : (constants : List ℤ) → IsListed (λ x y. x <ℤ y) constants → IsListed AtomStandsBefore (map (λ c. Linear cs c AtLeast) constants)
  listed_map [] h = tt
  listed_map (c ∷ constants) h = (
    each_from (AtomStandsBefore (Linear cs c AtLeast)) (map (λ c. Linear cs c AtLeast) constants) (λ a one.
        let r = of_map constants a one in
        subst (AtomStandsBefore (Linear cs c AtLeast)) (sym r.1) (inr (refl, each_one (λ y. c <ℤ y) constants r.0 r.2 h.0))),
    listed_map constants h.1,
  )

of_bounds : (constants cs : List ℤ) (sum : ℤ) (a : Atom) → IsOneOf a (bounds_of constants cs sum)
    → (c : ℤ) × (a ≡ Linear cs c AtLeast) × IsOneOf c constants × (c ≤ℤ sum)
of_bounds constants cs sum a h =
    let r = of_map cs (filter (λ c. int_le c sum) constants) a h in
    let f = filter_one (λ c. int_le c sum) r.0 constants r.2 in
    (r.0, r.1, f.0, true_le r.0 sum f.1)

in_bounds : (constants cs : List ℤ) (sum c : ℤ) → IsOneOf c constants → c ≤ℤ sum → IsOneOf (Linear cs c AtLeast) (bounds_of constants cs sum)
in_bounds constants cs sum c h below =
    in_map cs (filter (λ c. int_le c sum) constants) c (one_filter (λ c. int_le c sum) c constants h (le_true c sum below))

-- ---- all that is proposed

module _ (constants p : List ℤ) where
  abbrev equality_at : AtomsOf
  equality_at cs = equality_of cs (dot cs p)

  abbrev bounds_at : AtomsOf
  bounds_at cs = bounds_of constants cs (dot cs p)

  abbrev equalities : List Atom
  equalities = flat_map equality_at (shapes (length p))

  abbrev bounds : List Atom
  bounds = flat_map bounds_at (bound_shapes (length p))

  equalities_apart : Apart equality_at
  equalities_apart cs ds a b greater one other =
      let r = of_equality cs (dot cs p) a one in
      let s = of_equality ds (dot ds p) b other in
      subst (λ t. AtomStandsBefore t b) (sym r.0) (subst (AtomStandsBefore (Linear cs (dot cs p) Eq)) (sym s.0) (inl greater))

  bounds_apart : Apart bounds_at
  bounds_apart cs ds a b greater one other =
      let r = of_bounds constants cs (dot cs p) a one in
      let s = of_bounds constants ds (dot ds p) b other in
      subst (λ t. AtomStandsBefore t b) (sym r.1) (subst (AtomStandsBefore (Linear cs r.0 AtLeast)) (sym s.1) (inl greater))

  equalities_first : (a b : Atom) → IsOneOf a equalities → IsOneOf b bounds → AtomStandsBefore a b
  equalities_first a b one other =
      let u = some_part equality_at (shapes (length p)) a one in
      let v = some_part bounds_at (bound_shapes (length p)) b other in
      let r = of_equality u.0 (dot u.0 p) a u.2 in
      let s = of_bounds constants v.0 (dot v.0 p) b v.2 in
      subst (λ t. AtomStandsBefore t b) (sym r.0) (subst (AtomStandsBefore (Linear u.0 (dot u.0 p) Eq)) (sym s.1) tt)

  listed_proposed : IsListed (λ x y. x <ℤ y) constants → IsListed AtomStandsBefore (proposed constants p)
  listed_proposed rise =
      listed_append AtomStandsBefore equalities bounds
      (listed_lists equality_at (shapes (length p)) ((shapes_list (length p)).in_order)
      (λ cs. listed_cond (fits_form (dot cs p)) (Linear cs (dot cs p) Eq)) equalities_apart)
      (listed_lists bounds_at (bound_shapes (length p)) ((bound_shapes_list (length p)).in_order)
      (λ cs. listed_map cs (filter (λ c. int_le c (dot cs p)) constants) (listed_filter (λ x y. x <ℤ y) (λ c. int_le c (dot cs p)) constants rise))
      bounds_apart)
      (each_from (λ a. Each (AtomStandsBefore a) bounds) equalities
      (λ a one. each_from (AtomStandsBefore a) bounds (λ b other. equalities_first a b one other)))

  -- An atom of the template that holds at the point.
  abbrev IsProposed : Atom → Type 0
  IsProposed a = IsTemplateAtom (length p) constants a × AtomHolds a p

  proposed_is : (a : Atom) → IsOneOf a (proposed constants p) → IsProposed a
  proposed_is a h = by (one_of_either a equalities bounds h)
    where
      by : IsOneOf a equalities ⊎ IsOneOf a bounds → IsProposed a
      by (inl one) =
          let u = some_part equality_at (shapes (length p)) a one in
          let r = of_equality u.0 (dot u.0 p) a u.2 in
          let q = ((shapes_list (length p)).exactly u.0).0 u.1 in
          subst IsProposed (sym r.0) ((q.0, q.1, r.1), refl)
      by (inr one) =
          let u = some_part bounds_at (bound_shapes (length p)) a one in
          let r = of_bounds constants u.0 (dot u.0 p) a u.2 in
          let q = ((bound_shapes_list (length p)).exactly u.0).0 u.1 in
          subst IsProposed (sym r.1) ((q.0, q.1, contains constants r.0 r.2), r.3)

  is_proposed : (a : Atom) → IsTemplateAtom (length p) constants a → AtomHolds a p → IsOneOf a (proposed constants p)
  is_proposed False t holds = absurd t
  is_proposed (Linear cs c Eq) t holds =
      one_of_left (Linear cs c Eq) equalities bounds
      (in_parts equality_at (shapes (length p)) (Linear cs c Eq) cs (((shapes_list (length p)).exactly cs).1 (t.0, t.1))
      (subst (λ z. IsOneOf (Linear cs z Eq) (equality_at cs)) holds (in_equality cs (dot cs p) (subst FitsForm (sym holds) t.2))))
  is_proposed (Linear cs c AtLeast) t holds =
      one_of_right (Linear cs c AtLeast) equalities bounds
      (in_parts bounds_at (bound_shapes (length p)) (Linear cs c AtLeast) cs (((bound_shapes_list (length p)).exactly cs).1 (t.0, t.1))
      (in_bounds constants cs (dot cs p) c (one_of constants c t.2) holds))

-- ---- what is mined

-- An atom of the template that holds at each of the points.
abbrev pub IsMined : List ℤ → List ℤ → List (List ℤ) → Atom → Type 0
IsMined constants p ps a = IsTemplateAtom (length p) constants a × HoldsAtEach (p ∷ ps) a

pub mined_is : (constants p : List ℤ) (ps : List (List ℤ)) (a : Atom) → IsOneOf a (mined constants p ps) → IsMined constants p ps a
mined_is constants p ps a h =
    let r = struck_one ps (proposed constants p) a h in
    let q = proposed_is constants p a r.0 in
    (q.0, (q.1, r.1))

pub is_mined : (constants p : List ℤ) (ps : List (List ℤ)) (a : Atom) → IsMined constants p ps a → IsOneOf a (mined constants p ps)
is_mined constants p ps a h = one_struck ps (proposed constants p) a (is_proposed constants p a h.0 h.1.0) h.1.1

pub mined_lists : (constants p : List ℤ) (ps : List (List ℤ)) → IsListed (λ x y. x <ℤ y) constants
    → Lists AtomStandsBefore (IsMined constants p ps) (mined constants p ps)
mined_lists constants p ps rise = record {
  exactly = λ a. (mined_is constants p ps a, is_mined constants p ps a);
  in_order = listed_struck ps (proposed constants p) (listed_proposed constants p rise);
}
