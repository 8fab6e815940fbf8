-- Striking: what points leave of atoms.
use Rattle.std.proofs.Common.{◌≡◌, Bool, true, false, cond, ◌&&◌, inl, inr, List, [], ◌∷◌, ◌++◌, map, filter, fold, flat_map, arith, refl, sym, ◌∙◌, ap}
use Rattle.std.specs.Prelude.{ℤ, ◌≤ℤ◌, ◌<ℤ◌, int_le}
use Rattle.std.proofs.lemmas.Int.{ints}
use Rattle.std.proofs.lemmas.List.Elements.{filter-append}
use Rattle.lin_terms.specs.Vectors.{dot}
use Rattle.lin_terms.specs.Bounds as lin
use Rattle.horn_clauses.specs.declared.atom.Atom.{Atom}
use Rattle.horn_clauses.specs.declared.atom.Atom.TheVariants.{False, Linear}
use Rattle.horn_clauses.specs.declared.atom.Rel.TheVariants.{Eq, AtLeast}
use Rattle.horn_clauses.specs.Atom.{AtomHolds}
use Rattle.miners.specs.Template.{AtomStandsBefore}
use Rattle.miners.specs.Mined.{holds_at, equality_of, bounds_of, struck}
use Rattle.miners.proofs.Listings.{Each, IsOneOf, IsListed, each_one, each_from, filter_one, one_filter, listed_filter}

-- The atom holds at each of the points.
abbrev pub HoldsAtEach : List (List ℤ) → Atom → Type 0
HoldsAtEach points atom = Each (AtomHolds atom) points

-- ---- the test

both : (a b : Bool) → (a && b) ≡ true → (a ≡ true) × (b ≡ true)
both true b e = (refl, e)
both false b e = cc

same_of : (x y : ℤ) → (int_le x y && int_le y x) ≡ true → x ≡ y
same_of x y e = let p = both (int_le x y) (int_le y x) e in two x y p.0 p.1
  where
    two : (x y : ℤ) → int_le x y ≡ true → int_le y x ≡ true → x ≡ y
    two x y e f = omega (arith, ints)

pub le_true : (x y : ℤ) → x ≤ℤ y → int_le x y ≡ true
le_true x y h = by (int_le x y) refl
  where
    by : (b : Bool) → int_le x y ≡ b → int_le x y ≡ true
    by true e = e
    by false e = absurd (omega (arith, ints, e, h))

pub true_le : (x y : ℤ) → int_le x y ≡ true → x ≤ℤ y
true_le x y h = omega (arith, ints)

pub le_false : (x y : ℤ) → y <ℤ x → int_le x y ≡ false
le_false x y h = by (int_le x y) refl
  where
    by : (b : Bool) → int_le x y ≡ b → int_le x y ≡ false
    by true e = absurd (omega (arith, ints, e, h))
    by false e = e

same_is : (x : ℤ) → (int_le x x && int_le x x) ≡ true
same_is x = rw (le_true x x (omega (arith, ints))) refl

pub holds_of : (p : List ℤ) (a : Atom) → holds_at p a ≡ true → AtomHolds a p
holds_of p False e = cc
holds_of p (Linear cs c Eq) e = same_of (dot cs p) c e
holds_of p (Linear cs c AtLeast) e = true_le c (dot cs p) e

pub of_holds : (p : List ℤ) (a : Atom) → AtomHolds a p → holds_at p a ≡ true
of_holds p False h = absurd h
of_holds p (Linear cs c Eq) h = rw (sym h) (same_is (dot cs p))
of_holds p (Linear cs c AtLeast) h = le_true c (dot cs p) h

-- ---- what points leave

pub struck_one : (ps : List (List ℤ)) (atoms : List Atom) (a : Atom) → IsOneOf a (fold struck atoms ps) → IsOneOf a atoms × HoldsAtEach ps a
struck_one [] atoms a h = (h, tt)
struck_one (p ∷ ps) atoms a h =
    let r = struck_one ps (struck atoms p) a h in
    let f = filter_one (holds_at p) a atoms r.0 in
    (f.0, (holds_of p a f.1, r.1))

pub one_struck : (ps : List (List ℤ)) (atoms : List Atom) (a : Atom) → IsOneOf a atoms → HoldsAtEach ps a → IsOneOf a (fold struck atoms ps)
one_struck [] atoms a h k = h
one_struck (p ∷ ps) atoms a h k = one_struck ps (struck atoms p) a (one_filter (holds_at p) a atoms h (of_holds p a k.0)) k.1

pub listed_struck : (ps : List (List ℤ)) (atoms : List Atom) → IsListed AtomStandsBefore atoms → IsListed AtomStandsBefore (fold struck atoms ps)
listed_struck [] atoms h = h
listed_struck (p ∷ ps) atoms h = listed_struck ps (struck atoms p) (listed_filter AtomStandsBefore (holds_at p) atoms h)

-- Points may come one after the other.
pub struck_more : (atoms : List Atom) (ps qs : List (List ℤ)) → fold struck atoms (ps ++ qs) ≡ fold struck (fold struck atoms ps) qs
struck_more atoms [] qs = refl
struck_more atoms (p ∷ ps) qs = struck_more (struck atoms p) ps qs

-- A test that all pass leaves all.
pub filter_all : {A : Type 0} (t : A → Bool) (xs : List A) → Each (λ x. t x ≡ true) xs → filter t xs ≡ xs
filter_all t [] h = refl
filter_all t (x ∷ xs) h = rw (h.0, filter_all t xs h.1) refl

-- A point at which all atoms hold strikes none.
pub strikes_none : (atoms : List Atom) (p : List ℤ) → ((a : Atom) → IsOneOf a atoms → AtomHolds a p) → struck atoms p ≡ atoms
strikes_none atoms p h = filter_all (holds_at p) atoms (each_from (λ a. holds_at p a ≡ true) atoms (λ a one. of_holds p a (h a one)))

-- The same point again strikes nothing.
pub struck_twice : (atoms : List Atom) (p : List ℤ) → struck (struck atoms p) p ≡ struck atoms p
struck_twice atoms p = strikes_none (struck atoms p) p (λ a one. holds_of p a (filter_one (holds_at p) a atoms one).1)

-- Nor does one that was had before.
pub had_strikes_none : (atoms : List Atom) (ps : List (List ℤ)) (p : List ℤ) → IsOneOf p ps → struck (fold struck atoms ps) p ≡ fold struck atoms ps
had_strikes_none atoms ps p had = strikes_none (fold struck atoms ps) p (λ a one. each_one (AtomHolds a) ps p had (struck_one ps atoms a one).1)

-- ---- list by list

pub struck-append : (atoms others : List Atom) (p : List ℤ) → struck (atoms ++ others) p ≡ struck atoms p ++ struck others p
struck-append atoms others p = filter-append (holds_at p) atoms others

pub struck-flat_map : (f : List ℤ → List Atom) (css : List (List ℤ)) (p : List ℤ)
    → struck (flat_map f css) p ≡ flat_map (λ cs. struck (f cs) p) css
struck-flat_map f [] p = refl
struck-flat_map f (cs ∷ css) p =
    struck-append (f cs) (flat_map f css) p ∙ ap (λ atoms. struck (f cs) p ++ atoms) (struck-flat_map f css p)

-- ---- bounds: the least sum of all points tells which are left

abbrev bound : List ℤ → ℤ → Atom
bound cs c = Linear cs c AtLeast

abbrev upto : ℤ → List ℤ → List ℤ
upto sum constants = filter (λ c. int_le c sum) constants

struck_bounds : (cs p constants : List ℤ) → struck (map (bound cs) constants) p ≡ map (bound cs) (upto (dot cs p) constants)
struck_bounds cs p [] = refl
struck_bounds cs p (c ∷ constants) = by (int_le c (dot cs p)) (struck_bounds cs p constants)
  where
    by : (b : Bool) → struck (map (bound cs) constants) p ≡ map (bound cs) (upto (dot cs p) constants)
        → cond b (bound cs c ∷ struck (map (bound cs) constants) p) (struck (map (bound cs) constants) p)
        ≡ map (bound cs) (cond b (c ∷ upto (dot cs p) constants) (upto (dot cs p) constants))
    by true e = ap (λ atoms. bound cs c ∷ atoms) e
    by false e = e

upto_upto : (x y : ℤ) (constants : List ℤ) → x ≤ℤ y → (upto x (upto y constants) ≡ upto x constants) × (upto y (upto x constants) ≡ upto x constants)
upto_upto x y [] h = (refl, refl)
upto_upto x y (c ∷ constants) h = by (int_le c x) (int_le c y) refl refl (upto_upto x y constants h)
  where
    by : (a b : Bool) → int_le c x ≡ a → int_le c y ≡ b → (upto x (upto y constants) ≡ upto x constants) × (upto y (upto x constants) ≡ upto x constants)
        → (upto x (cond b (c ∷ upto y constants) (upto y constants)) ≡ cond a (c ∷ upto x constants) (upto x constants))
        × (upto y (cond a (c ∷ upto x constants) (upto x constants)) ≡ cond a (c ∷ upto x constants) (upto x constants))
    by true true e f r = (rw (e, r.0) refl, rw (f, r.1) refl)
    by true false e f r = absurd (omega (arith, ints, e, f, h))
    by false true e f r = (rw (e, r.0) refl, r.1)
    by false false e f r = r

-- A lesser sum is the new least one.
pub bounds_fall : (constants cs p : List ℤ) (sum : ℤ) → dot cs p ≤ℤ sum → struck (bounds_of constants cs sum) p ≡ bounds_of constants cs (dot cs p)
bounds_fall constants cs p sum h =
    struck_bounds cs p (upto sum constants) ∙ ap (map (bound cs)) (upto_upto (dot cs p) sum constants h).0

-- A greater one strikes nothing.
pub bounds_stay : (constants cs p : List ℤ) (sum : ℤ) → sum ≤ℤ dot cs p → struck (bounds_of constants cs sum) p ≡ bounds_of constants cs sum
bounds_stay constants cs p sum h =
    struck_bounds cs p (upto sum constants) ∙ ap (map (bound cs)) (upto_upto sum (dot cs p) constants h).1

-- ---- equalities

-- An equality stays where the sum is the same.
pub equality_stays : (cs p : List ℤ) (sum : ℤ) → dot cs p ≡ sum → struck (equality_of cs sum) p ≡ equality_of cs sum
equality_stays cs p sum h = strikes_none (equality_of cs sum) p (holds (lin.fits_form sum))
  where
    holds : (b : Bool) → (a : Atom) → IsOneOf a (cond b (Linear cs sum Eq ∷ []) []) → AtomHolds a p
    holds true a (inl e) = rw e h
    holds true a (inr n) = absurd n
    holds false a n = absurd n

-- It goes where that is another.
pub equality_goes : (cs p : List ℤ) (sum : ℤ) → (dot cs p ≡ sum → ⊥) → struck (equality_of cs sum) p ≡ []
equality_goes cs p sum h = by (lin.fits_form sum) (int_le (dot cs p) sum && int_le sum (dot cs p)) refl
  where
    by : (b t : Bool) → (int_le (dot cs p) sum && int_le sum (dot cs p)) ≡ t → struck (cond b (Linear cs sum Eq ∷ []) []) p ≡ []
    by true true e = absurd (h (same_of (dot cs p) sum e))
    by true false e = rw e refl
    by false t e = refl
