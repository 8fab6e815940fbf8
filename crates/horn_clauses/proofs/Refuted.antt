-- What the rows of an obligation say, and what it says that no whole numbers meet them.
use Rattle.std.proofs.Common.{◌≡◌, ℕ, zero, suc, ◌<◌, ◌-◌, Bool, true, false, List, [], ◌∷◌, ◌++◌, length, map, replicate, get_or, Option, Some, None, sym, ap, ◌∙◌, subst, arith}
use Rattle.std.specs.Prelude.{ℤ, pos, neg_ℤ, ◌+ℤ◌, ◌<ℤ◌, ◌≤ℤ◌, IsSome, IsSomeAnd, All}
use Rattle.std.specs.List.{flat_map}
use Rattle.std.proofs.lemmas.List.{get_or_default}
use Rattle.std.proofs.lemmas.Int.{ints, by_lt_z}
use Rattle.std.proofs.lemmas.List.Elements.{All-nil, All-cons, All-head, All-tail, All-append, All-map}
use Rattle.lin_terms.specs.declared.form.Form.{Form}
use Rattle.lin_terms.specs.declared.row.Row.{Row}
use Rattle.lin_terms.specs.declared.sign.Sign.{Sign}
use Rattle.lin_terms.specs.Vectors.{dot}
use Rattle.lin_terms.specs.Form.{value_at, composed}
use Rattle.lin_terms.specs.Row.{Allows, Holds, HasNoIntegerPoint}
use Rattle.lin_terms.specs.Sign.{HasSign}
use Rattle.lin_terms.proofs.Laws.{dot-append, dot-replicate, value_at-composed, sign_row-holds}
use Rattle.horn_clauses.specs.declared.atom.Rel.{Rel}
use Rattle.horn_clauses.specs.declared.atom.Rel.TheVariants.{Eq, AtLeast}
use Rattle.horn_clauses.specs.declared.atom.Atom.{Atom}
use Rattle.horn_clauses.specs.declared.atom.Atom.TheVariants.{False, Linear}
use Rattle.horn_clauses.specs.declared.clause.Clause.{Clause}
use Rattle.horn_clauses.specs.declared.family.Family.{Family}
use Rattle.horn_clauses.specs.Atom.{Stands, AtomHolds}
use Rattle.horn_clauses.specs.Family.{atoms_at, InFamily}
use Rattle.horn_clauses.specs.Clause.{LeadsTo}
use Rattle.horn_clauses.specs.Obligations.{is_equality, padded, atom_row, side_of, negated_row, negated_rows, atoms_or_none, columns_over, obligation_rows}
use Rattle.horn_clauses.specs.Obligations.{Obligation, rows_of, obligation, obligations_at, obligations_for}
use Rattle.horn_clauses.specs.Obligations.{FitsNode, HasFittingAtoms, Misses, AtomFails, FailuresMeetObligations, RefutedAtomsHold, RefutedFamiliesAreKept}

-- ---- the atoms at the start

stands_allows : (rel : Rel) (sum constant : ℤ) → Stands rel sum constant → Allows (is_equality rel) (sum +ℤ neg_ℤ constant)
stands_allows Eq sum constant stands = omega (arith, ints)
stands_allows AtLeast sum constant stands = omega (arith, ints)

nothing_more : (sum : ℤ) → sum +ℤ pos 0 ≡ sum
nothing_more sum = omega (arith, ints)

-- the unknowns count nothing
dot-padded : (columns : ℕ) (coefs values unknowns : List ℤ) → length coefs ≡ length values → dot (padded columns coefs) (values ++ unknowns) ≡ dot coefs values
dot-padded columns coefs values unknowns long =
    dot-append coefs (replicate (columns - length coefs) (pos 0)) values unknowns long
    ∙ ap (λ z. dot coefs values +ℤ z) (dot-replicate (columns - length coefs) unknowns) ∙ nothing_more (dot coefs values)

atom_row-holds : (columns : ℕ) (atom : Atom) (values unknowns : List ℤ) → FitsNode (length values) atom → AtomHolds atom values
    → Holds (values ++ unknowns) (atom_row columns atom)
atom_row-holds columns False values unknowns fits holds = absurd holds
atom_row-holds columns (Linear coefs constant rel) values unknowns fits holds =
    subst (λ z. Allows (is_equality rel) (z +ℤ neg_ℤ constant)) (sym (dot-padded columns coefs values unknowns fits.as_many))
    (stands_allows rel (dot coefs values) constant holds)

atom_rows-hold : (columns : ℕ) (found : Option (List Atom)) (values unknowns : List ℤ) → IsSomeAnd found (All (FitsNode (length values)))
    → IsSomeAnd found (All (λ atom. AtomHolds atom values)) → All (Holds (values ++ unknowns)) (map (atom_row columns) (atoms_or_none found))
atom_rows-hold columns None values unknowns fit hold = absurd fit
atom_rows-hold columns (Some atoms) values unknowns fit hold =
    All-map (Holds (values ++ unknowns)) (atom_row columns) atoms
    (λ k d inside. atom_row-holds columns (get_or atoms k d) values unknowns (fit k d inside) (hold k d inside))

-- ---- the atom at the end

miss_has_sign : (rel : Rel) (upper : Bool) (sum constant : ℤ) → Misses rel upper sum constant → HasSign (side_of rel upper) (sum +ℤ neg_ℤ constant)
miss_has_sign Eq true sum constant misses = omega (arith, ints)
miss_has_sign Eq false sum constant misses = omega (arith, ints)
miss_has_sign AtLeast upper sum constant misses = omega (arith, ints)

negated_row-holds : (columns : ℕ) (forms : List Form) (coefs : List ℤ) (constant : ℤ) (rel : Rel) (upper : Bool) (point after : List ℤ)
    → map (λ form. value_at form point) forms ≡ after → Misses rel upper (dot coefs after) constant
    → Holds point (negated_row columns forms coefs constant (side_of rel upper))
negated_row-holds columns forms coefs constant rel upper point after values misses =
    let side : Sign = side_of rel upper in
    let form : Form = record { coefs = coefs; constant = neg_ℤ constant } in
    let value = value_at-composed columns form forms point ∙ ap (λ (all : List ℤ). dot coefs all +ℤ neg_ℤ constant) values in
    (sign_row-holds side (composed columns form forms) point).1 (subst (HasSign side) (sym value) (miss_has_sign rel upper (dot coefs after) constant misses))

negated_rows-hold : (columns : ℕ) (forms : List Form) (atom : Atom) (upper : Bool) (point after : List ℤ)
    → map (λ form. value_at form point) forms ≡ after → AtomFails atom upper after → All (Holds point) (negated_rows columns forms atom upper)
negated_rows-hold columns forms False upper point after values fails = All-nil (Holds point)
negated_rows-hold columns forms (Linear coefs constant rel) upper point after values fails =
    All-cons (Holds point) (negated_row columns forms coefs constant (side_of rel upper)) []
    (negated_row-holds columns forms coefs constant rel upper point after values fails) (All-nil (Holds point))

-- ---- the obligation

pub failures_meet_obligations : FailuresMeetObligations
failures_meet_obligations family clause atom upper values after unknowns fit inside leads fails =
    let Here : Row → Type 0 = Holds (values ++ unknowns) in
    let found : Option (List Atom) = atoms_at family clause.from in
    let columns : ℕ = columns_over (atoms_or_none found) clause in
    All-append Here (map (atom_row columns) (atoms_or_none found) ++ clause.rows) (negated_rows columns clause.after atom upper)
    (All-append Here (map (atom_row columns) (atoms_or_none found)) clause.rows (atom_rows-hold columns found values unknowns fit inside) leads.holds)
    (negated_rows-hold columns clause.after atom upper (values ++ unknowns) after leads.values fails)

at_least : (sum constant : ℤ) → (sum <ℤ constant → ⊥) → constant ≤ℤ sum
at_least sum constant not_below = by_lt_z sum constant (λ below. absurd (not_below below)) (λ least. least)

equal : (sum constant : ℤ) → (sum <ℤ constant → ⊥) → (constant <ℤ sum → ⊥) → sum ≡ constant
equal sum constant not_below not_above =
    let least = at_least sum constant not_below in
    let most = at_least constant sum not_above in omega (arith, ints, least, most)

-- ---- parts of a list

first_all : {A : Type 0} (P : A → Type 0) (xs ys : List A) → All P (xs ++ ys) → All P xs
first_all P [] ys all = All-nil P
first_all P (x ∷ xs) ys all = All-cons P x xs (All-head P x (xs ++ ys) all) (first_all P xs ys (All-tail P x (xs ++ ys) all))

later_all : {A : Type 0} (P : A → Type 0) (xs ys : List A) → All P (xs ++ ys) → All P ys
later_all P [] ys all = all
later_all P (x ∷ xs) ys all = later_all P xs ys (All-tail P x (xs ++ ys) all)

-- what holds of all lists that are joined holds of the one that comes of an element
part_all : {X A : Type 0} (f : X → List A) (P : A → Type 0) (xs : List X) (k : ℕ) (x : X) → k < length xs → get_or xs k x ≡ x
    → All P (flat_map f xs) → All P (f x)
part_all f P [] k x inside is all = absurd (omega arith)
part_all f P (y ∷ xs) zero x inside is all = subst (λ z. All P (f z)) is (first_all P (f y) (flat_map f xs) all)
part_all f P (y ∷ xs) (suc k) x inside is all = part_all f P xs k x (omega arith) is (later_all P (f y) (flat_map f xs) all)

-- ---- what is refuted

module _ (family : Family) (clause : Clause) (values after : List ℤ) (fit : HasFittingAtoms family clause.from (length values))
    (inside : InFamily family clause.from values) (leads : LeadsTo values after clause) where
  never_fails : (atom : Atom) (upper : Bool) → HasNoIntegerPoint (obligation_rows family clause atom upper) → AtomFails atom upper after → ⊥
  never_fails atom upper none fails =
      none (values ++ leads.0) (failures_meet_obligations family clause atom upper values after leads.0 fit inside leads.1 fails)

  abbrev IsOneRefuted : Obligation → Type 0
  IsOneRefuted one = HasNoIntegerPoint (rows_of family one)

  holds_at_end : (atom : Atom) → All IsOneRefuted (obligations_at clause atom) → AtomHolds atom after
  holds_at_end False refuted = never_fails False false (All-head IsOneRefuted (obligation clause False false) [] refuted) tt
  holds_at_end (Linear coefs constant Eq) refuted =
      let atom : Atom = Linear coefs constant Eq in
      let lower : Obligation = obligation clause atom false in
      let upper : Obligation = obligation clause atom true in
      equal (dot coefs after) constant (never_fails atom false (All-head IsOneRefuted lower (upper ∷ []) refuted))
      (never_fails atom true (All-head IsOneRefuted upper [] (All-tail IsOneRefuted lower (upper ∷ []) refuted)))
  holds_at_end (Linear coefs constant AtLeast) refuted =
      let atom : Atom = Linear coefs constant AtLeast in
      at_least (dot coefs after) constant (never_fails atom false (All-head IsOneRefuted (obligation clause atom false) [] refuted))

  kept_at_end : (found : Option (List Atom)) → IsSome found → All IsOneRefuted (flat_map (obligations_at clause) (atoms_or_none found))
      → IsSomeAnd found (All (λ atom. AtomHolds atom after))
  kept_at_end None some refuted = absurd cc
  kept_at_end (Some atoms) some refuted = λ k d below.
      let atom : Atom = get_or atoms k d in
      holds_at_end atom (part_all (obligations_at clause) IsOneRefuted atoms k atom below (get_or_default atoms k atom d below) refuted)

pub refuted_atoms_hold : RefutedAtomsHold
refuted_atoms_hold family clause atom values after fit inside leads refuted = holds_at_end family clause values after fit inside leads atom refuted

pub refuted_families_are_kept : RefutedFamiliesAreKept
refuted_families_are_kept family product refuted clause among some values after fit inside leads =
    let IsOneRefuted : Obligation → Type 0 = λ one. HasNoIntegerPoint (rows_of family one) in
    kept_at_end family clause values after fit inside leads (atoms_at family clause.to) some
    (part_all (obligations_for family) IsOneRefuted product.clauses among.0 clause among.1 among.2 refuted)
