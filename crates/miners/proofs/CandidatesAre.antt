-- The laws of candidates.
use Rattle.std.proofs.Common.{◌≡◌, ◌≢◌, ℕ, zero, suc, ◌+◌, ◌<◌, ◌≤◌, Bool, true, false, cond, leb, inl, ◌↔◌, List, [], ◌∷◌, length, length-append, replicate, Option, Some, None, ℤ, pos, negsuc, arith, refl, sym, ap, ◌∙◌, subst, le-leb, leb-true, length-set}
use Rattle.std.specs.Prelude.{All, Contains, IsSomeAnd, unsigned_abs, ◌<ℤ◌, if◌then◌else◌}
use Rattle.std.proofs.lemmas.List.{length-replicate}
use Rattle.std.proofs.lemmas.List.Elements.{All-nil, All-cons, All-append, All-set, All-replicate, All-weaker, All-contains}
use Rattle.c_ast.specs.declared.trace.Pair.{Pair}
use Rattle.lin_terms.specs.Bounds.{FitsForm}
use Rattle.lin_terms.specs.Vectors.{only_at}
use Rattle.horn_clauses.specs.declared.atom.Atom.{Atom}
use Rattle.horn_clauses.specs.declared.atom.Atom.TheVariants.{False, Linear}
use Rattle.horn_clauses.specs.declared.atom.Rel.TheVariants.{Eq, AtLeast}
use Rattle.horn_clauses.specs.declared.node.Node.{Node}
use Rattle.horn_clauses.specs.Atom.{AtomHolds}
use Rattle.horn_clauses.specs.Node.{is_same_node, entries}
use Rattle.horn_clauses.specs.Equalities.{equality_at, equalities_from, equal_parameters}
use Rattle.horn_clauses.specs.Obligations.{FitsNode}
use Rattle.horn_clauses.proofs.Laws.{law_of_nodes}
use Rattle.miners.specs.Constants.{bound_constants}
use Rattle.miners.specs.Template.{IsTemplateAtom, AtomStandsBefore}
use Rattle.miners.specs.Mined.{mined}
use Rattle.miners.specs.Candidates.{points_at, mined_of, candidates_at}
use Rattle.miners.specs.Laws.{AreTheCandidates, CandidatesAreMined, HoldingAtomsAreCandidates, UnmetNodesHaveNone, WideNodesSayNothing, MorePairsAddNone, CandidatesAreDetermined, CandidatesFit, EntriesFit}
use Rattle.miners.proofs.Listings.{Each, IsOneOf, IsListed, contains, one_of, each_of, all_of, each_from, each_one, listed_of}
use Rattle.miners.proofs.Unique.{same_listed, before_asymmetric}
use Rattle.miners.proofs.Proposing.{mined_is, is_mined, mined_lists}
use Rattle.miners.proofs.MiningIs.{mines_candidates}
use Rattle.miners.proofs.Points.{points_of_more}
use Rattle.miners.proofs.TenLeast.{law_of_bound_constants}

-- ---- at a node other than the entries

elsewhere : (alignment : ℕ) (constants : List ℤ) (params : ℕ) (pairs : List Pair) (node : Node) → node ≢ entries
    → candidates_at alignment constants params pairs node ≡ mined_of constants (points_at alignment node pairs)
elsewhere alignment constants params pairs node away = by (is_same_node node entries) refl
  where
    by : (same : Bool) → is_same_node node entries ≡ same
        → cond same (Some (equal_parameters params)) (mined_of constants (points_at alignment node pairs)) ≡ mined_of constants (points_at alignment node pairs)
    by true is = absurd (away ((law_of_nodes node entries).0 is))
    by false is = refl

-- What is kept of the atoms of so many values.
abbrev cut : ℕ → List Atom → Option (List Atom)
cut n atoms = Some (if leb n 16 then atoms else [])

inner : (atoms others : List Atom) → Some atoms ≡ Some others → atoms ≡ others
inner atoms others same = cc

module _ (P : List Atom → Type 0) where
  some_narrow : (n : ℕ) (atoms : List Atom) → n ≤ 16 → P atoms → IsSomeAnd (cut n atoms) P
  some_narrow n atoms narrow holds = subst (λ (b : Bool). P (cond b atoms [])) (sym (le-leb n 16 narrow)) holds

  some_same : (found other : Option (List Atom)) → found ≡ other → IsSomeAnd other P → IsSomeAnd found P
  some_same found other same holds = subst (λ z. IsSomeAnd z P) (sym same) holds

pub candidates_are_mined : CandidatesAreMined
candidates_are_mined alignment constants params pairs node point points rise away met narrow =
    some_same (AreTheCandidates constants point points) (candidates_at alignment constants params pairs node)
    (cut (length point) (mined constants point points))
    (elsewhere alignment constants params pairs node away ∙ ap (mined_of constants) met)
    (some_narrow (AreTheCandidates constants point points) (length point) (mined constants point points) narrow (mines_candidates constants point points rise))

pub holding_atoms_are_candidates : HoldingAtomsAreCandidates
holding_atoms_are_candidates alignment constants params pairs node point points atom away met narrow is =
    some_same (λ atoms. Contains atoms atom) (candidates_at alignment constants params pairs node) (cut (length point) (mined constants point points))
    (elsewhere alignment constants params pairs node away ∙ ap (mined_of constants) met)
    (some_narrow (λ atoms. Contains atoms atom) (length point) (mined constants point points) narrow
    (contains (mined constants point points) atom (is_mined constants point points atom (is.0, each_of (AtomHolds atom) (point ∷ points) is.1))))

narrowed : (n : ℕ) (atoms : List Atom) → 16 < n → cut n atoms ≡ Some []
narrowed n atoms wide = by (leb n 16) refl
  where
    by : (b : Bool) → leb n 16 ≡ b → Some (cond b atoms []) ≡ Some []
    by true e = absurd (omega (arith, wide, leb-true n 16 e))
    by false e = refl

pub wide_nodes_say_nothing : WideNodesSayNothing
wide_nodes_say_nothing alignment constants params pairs node point points away met wide =
    elsewhere alignment constants params pairs node away ∙ ap (mined_of constants) met ∙ narrowed (length point) (mined constants point points) wide

-- ---- a node that is not met

none_of : (constants : List ℤ) (points : List (List ℤ)) → (mined_of constants points ≡ None) ↔ (points ≡ [])
none_of constants [] = (λ _. refl, λ _. refl)
none_of constants (point ∷ points) = (λ e. cc, λ e. cc)

not_entries : (alignment : ℕ) (constants : List ℤ) (params : ℕ) (pairs : List Pair) (node : Node)
    → candidates_at alignment constants params pairs node ≡ None → node ≢ entries
not_entries alignment constants params pairs node none same = by (is_same_node node entries) ((law_of_nodes node entries).1 same) none
  where
    by : (b : Bool) → b ≡ true → cond b (Some (equal_parameters params)) (mined_of constants (points_at alignment node pairs)) ≡ None → ⊥
    by true e n = cc
    by false e n = cc

pub unmet_nodes_have_none : UnmetNodesHaveNone
unmet_nodes_have_none alignment constants params pairs node = (
  λ none.
      let away = not_entries alignment constants params pairs node none in
      (away, (none_of constants (points_at alignment node pairs)).0 (sym (elsewhere alignment constants params pairs node away) ∙ none)),
  λ unmet. elsewhere alignment constants params pairs node unmet.0 ∙ (none_of constants (points_at alignment node pairs)).1 unmet.1,
)

-- ---- more points

-- Each of the first points is one of the second.
abbrev Within : List (List ℤ) → List (List ℤ) → Type 0
Within points more = (p : List ℤ) → IsOneOf p points → IsOneOf p more

-- All of them have so many values.
abbrev Wide : ℕ → List (List ℤ) → Type 0
Wide width points = (p : List ℤ) → IsOneOf p points → length p ≡ width

wide_of : (width : ℕ) (points : List (List ℤ)) → All (λ p. length p ≡ width) points → Wide width points
wide_of width points all p one = All-contains (λ q. length q ≡ width) points p all (contains points p one)

module _ (constants : List ℤ) (width : ℕ) where
  fewer : (p q : List ℤ) (ps qs : List (List ℤ)) → Within (p ∷ ps) (q ∷ qs) → Wide width (q ∷ qs) → (a : Atom)
      → IsOneOf a (mined constants q qs) → IsOneOf a (mined constants p ps)
  fewer p q ps qs within wide a one =
      let r = mined_is constants q qs a one in
      let same = wide q (inl refl) ∙ sym (wide p (within p (inl refl))) in
      is_mined constants p ps a (
        subst (λ n. IsTemplateAtom n constants a) same r.0,
        each_from (AtomHolds a) (p ∷ ps) (λ s there. each_one (AtomHolds a) (q ∷ qs) s (within s there) r.1),
      )

  still : (p q : List ℤ) (ps qs : List (List ℤ)) → Within (p ∷ ps) (q ∷ qs) → Wide width (q ∷ qs) → (a : Atom)
      → IsOneOf a (mined constants p ps) → Each (AtomHolds a) (q ∷ qs) → IsOneOf a (mined constants q qs)
  still p q ps qs within wide a one holds =
      let r = mined_is constants p ps a one in
      let same = wide p (within p (inl refl)) ∙ sym (wide q (inl refl)) in
      is_mined constants q qs a (subst (λ n. IsTemplateAtom n constants a) same r.0, holds)

  -- The atoms that are left are those that hold at all points.
  abbrev AreLeft : List (List ℤ) → List Atom → List Atom → Type 0
  AreLeft points atoms left = (a : Atom) → Contains left a ↔ (Contains atoms a × All (AtomHolds a) points)

  left_of : (p q : List ℤ) (ps qs : List (List ℤ)) → Within (p ∷ ps) (q ∷ qs) → Wide width (q ∷ qs)
      → AreLeft (q ∷ qs) (mined constants p ps) (mined constants q qs)
  left_of p q ps qs within wide a = (
    λ has.
        let one = one_of (mined constants q qs) a has in
        (contains (mined constants p ps) a (fewer p q ps qs within wide a one), all_of (AtomHolds a) (q ∷ qs) (mined_is constants q qs a one).1),
    λ both. contains (mined constants q qs) a (still p q ps qs within wide a (one_of (mined constants p ps) a both.0) (each_of (AtomHolds a) (q ∷ qs) both.1)),
  )

  no_one : (points : List (List ℤ)) → AreLeft points [] []
  no_one points a = (λ has. absurd (one_of [] a has), λ both. both.0)

  left_in_cut : (points : List (List ℤ)) (m n : ℕ) (atoms left : List Atom) → m ≡ n → AreLeft points atoms left → (had : List Atom) → cut m atoms ≡ Some had
      → IsSomeAnd (cut n left) (AreLeft points had)
  left_in_cut points m n atoms left same are had is = by (leb m 16) (leb n 16) (ap (λ z. leb z 16) same) is
    where
      by : (b c : Bool) → b ≡ c → Some (cond b atoms []) ≡ Some had → AreLeft points had (cond c left [])
      by true true e f = subst (λ z. AreLeft points z left) (inner atoms had f) are
      by true false e f = cc
      by false true e f = cc
      by false false e f = subst (λ z. AreLeft points z []) (inner [] had f) (no_one points)

  more_points : (points more : List (List ℤ)) → Within points more → Wide width more → (had : List Atom) → mined_of constants points ≡ Some had
      → IsSomeAnd (mined_of constants more) (AreLeft more had)
  more_points [] more within wide had is = cc
  more_points (p ∷ ps) [] within wide had is = absurd (within p (inl refl))
  more_points (p ∷ ps) (q ∷ qs) within wide had is =
      left_in_cut (q ∷ qs) (length p) (length q) (mined constants p ps) (mined constants q qs) (wide p (within p (inl refl)) ∙ sym (wide q (inl refl)))
      (left_of p q ps qs within wide) had is

  same_points : IsListed (λ x y. x <ℤ y) constants → (points others : List (List ℤ)) → Within points others → Within others points → Wide width others
      → mined_of constants points ≡ mined_of constants others
  same_points rise [] [] within back wide = refl
  same_points rise [] (q ∷ qs) within back wide = absurd (back q (inl refl))
  same_points rise (p ∷ ps) [] within back wide = absurd (within p (inl refl))
  same_points rise (p ∷ ps) (q ∷ qs) within back wide =
      let long = wide p (within p (inl refl)) ∙ sym (wide q (inl refl)) in
      let narrow : Wide width (p ∷ ps) = λ s there. wide s (within s there) in
      let same = same_listed AtomStandsBefore before_asymmetric (mined constants p ps) (mined constants q qs)
      ((mined_lists constants p ps rise).in_order) ((mined_lists constants q qs rise).in_order)
      (λ a one. fewer q p qs ps back narrow a one) (λ a one. fewer p q ps qs within wide a one) in
      ap (λ n. cut n (mined constants p ps)) long ∙ ap (cut (length q)) same

pub more_pairs_add_none : MorePairsAddNone
more_pairs_add_none alignment constants params pairs more node width atoms away part wide is =
    some_same (AreLeft constants width (points_at alignment node more) atoms) (candidates_at alignment constants params more node)
    (mined_of constants (points_at alignment node more)) (elsewhere alignment constants params more node away)
    (more_points constants width (points_at alignment node pairs) (points_at alignment node more) (points_of_more alignment node pairs more part)
    (wide_of width (points_at alignment node more) wide) atoms (sym (elsewhere alignment constants params pairs node away) ∙ is))

pub candidates_are_determined : CandidatesAreDetermined
candidates_are_determined alignment constants params pairs others node width rise part back wide =
    ap (λ z. cond (is_same_node node entries) (Some (equal_parameters params)) z)
    (same_points constants width (listed_of (λ x y. x <ℤ y) constants rise) (points_at alignment node pairs) (points_at alignment node others)
    (points_of_more alignment node pairs others part) (points_of_more alignment node others pairs back) (wide_of width (points_at alignment node others) wide))

-- ---- candidates fit their node

module _ (width : ℕ) where
  fits_template : (constants : List ℤ) → All FitsForm constants → (a : Atom) → IsTemplateAtom width constants a → FitsNode width a
  fits_template constants fit False t = absurd t
  fits_template constants fit (Linear coefs constant Eq) t = record { as_many = t.0; small = t.1.small; fits = t.2 }
  fits_template constants fit (Linear coefs constant AtLeast) t = record {
    as_many = t.0;
    small = All-weaker (λ coef. unsigned_abs coef ≤ 1) (λ coef. unsigned_abs coef ≤ 2) (λ coef small. omega (arith, small)) coefs t.1.small;
    fits = All-contains FitsForm constants constant fit t.2;
  }

  fit_cut : (n : ℕ) (atoms had : List Atom) → All (FitsNode width) atoms → cut n atoms ≡ Some had → All (FitsNode width) had
  fit_cut n atoms had all is = by (leb n 16) is
    where
      by : (b : Bool) → Some (cond b atoms []) ≡ Some had → All (FitsNode width) had
      by true e = subst (All (FitsNode width)) (inner atoms had e) all
      by false e = subst (All (FitsNode width)) (inner [] had e) (All-nil (FitsNode width))

  fit_mined : (constants : List ℤ) → All FitsForm constants → (points : List (List ℤ)) → Wide width points → (had : List Atom)
      → mined_of constants points ≡ Some had → All (FitsNode width) had
  fit_mined constants fit [] wide had is = cc
  fit_mined constants fit (p ∷ ps) wide had is =
      fit_cut (length p) (mined constants p ps) had (all_of (FitsNode width) (mined constants p ps) (each_from (FitsNode width) (mined constants p ps)
      (λ a one. fits_template constants fit a (subst (λ n. IsTemplateAtom n constants a) (wide p (inl refl)) (mined_is constants p ps a one).0)))) is

pub candidates_fit : CandidatesFit
candidates_fit alignment f g params pairs node width atoms away wide is =
    fit_mined width (bound_constants f g) ((law_of_bound_constants f g).fit) (points_at alignment node pairs)
    (wide_of width (points_at alignment node pairs) wide) atoms (sym (elsewhere alignment (bound_constants f g) params pairs node away) ∙ is)

module _ (n : ℕ) where
  abbrev IsSmall : ℤ → Type 0
  IsSmall coef = unsigned_abs coef ≤ 2

  long : (i : ℕ) (coef : ℤ) → length (only_at n i coef) ≡ n
  long i coef = length-set (replicate n (pos 0)) i coef ∙ length-replicate n (pos 0)

  small : (i : ℕ) (coef : ℤ) → IsSmall coef → All IsSmall (only_at n i coef)
  small i coef is = All-set IsSmall (replicate n (pos 0)) i coef is (All-replicate IsSmall n (pos 0) (omega arith))

  equality_fits : (i : ℕ) → FitsNode (n + n) (equality_at n i)
  equality_fits i = record {
    as_many = length-append (only_at n i (pos 1)) (only_at n i (negsuc 0)) ∙ ap (λ z. z + length (only_at n i (negsuc 0))) (long i (pos 1))
        ∙ ap (λ z. n + z) (long i (negsuc 0));
    small = All-append IsSmall (only_at n i (pos 1)) (only_at n i (negsuc 0)) (small i (pos 1) (omega arith)) (small i (negsuc 0) (omega arith));
    fits = omega arith;
  }

  all_fit : (i more : ℕ) → All (FitsNode (n + n)) (equalities_from n i more)
  all_fit i zero = All-nil (FitsNode (n + n))
  all_fit i (suc more) = All-cons (FitsNode (n + n)) (equality_at n i) (equalities_from n (suc i) more) (equality_fits i) (all_fit (suc i) more)

pub entries_fit : EntriesFit
entries_fit params = all_fit params 0 params
