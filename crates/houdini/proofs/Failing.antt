-- What a failure is about, and what a point says that meets it.
use Rattle.std.proofs.Common.{◌≡◌, ℕ, zero, suc, ◌+◌, ◌<◌, ◌⊎◌, inl, inr, Bool, true, false, List, [], ◌∷◌, ◌++◌, length, map, replicate, get_or, refl, sym, ap, ◌∙◌, subst, arith}
use Rattle.std.specs.Prelude.{if◌then◌else◌, None, Some, All, Contains}
use Rattle.std.specs.List.{AllZip}
use Rattle.std.proofs.lemmas.List.{append-nil, get_or_default}
use Rattle.std.proofs.lemmas.List.Elements.{All-append, All-weaker, All-contains, All-head, Contains-append_cases}
use Rattle.lin_terms.specs.declared.form.Form.{Form}
use Rattle.lin_terms.specs.declared.point.Point.{Point}
use Rattle.lin_terms.specs.declared.row.Row.{Row}
use Rattle.lin_terms.specs.Row.{Meets, HasPoint}
use Rattle.farkas_check.specs.Refutes.{IsRefutable}
use Rattle.horn_clauses.specs.declared.atom.Atom.{Atom}
use Rattle.horn_clauses.specs.declared.atom.Atom.TheVariants.{False, Linear}
use Rattle.horn_clauses.specs.declared.atom.Rel.TheVariants.{Eq, AtLeast}
use Rattle.horn_clauses.specs.declared.clause.Clause.{Clause}
use Rattle.horn_clauses.specs.declared.family.Family.{Family}
use Rattle.horn_clauses.specs.Node.{is_same_node}
use Rattle.horn_clauses.specs.Family.{atoms_at}
use Rattle.horn_clauses.specs.Clause.{columns_in, FitsClause}
use Rattle.horn_clauses.specs.Obligations.{atom_row, negated_rows, atoms_or_none, first_width, columns_over, obligation_rows, obligations_at, obligation, rows_of}
use Rattle.lin_prover.specs.Settles.{IsMet, IsPointOf}
use Rattle.lin_prover.proofs.Laws.{points_exclude}
use Rattle.coupling_check.specs.Checks.{CanCheckClause}
use Rattle.houdini.specs.declared.failure.Failure.{Failure}
use Rattle.houdini.specs.declared.failure.End.{End}
use Rattle.houdini.specs.Failures.{end_of, failure_of, failures_of, failures_from, IsHit, Marks, IsOpenIfMarked}
use Rattle.houdini.specs.Striking.{IsShown}
use Rattle.houdini.proofs.Marking.{zip_marked, replicated_false}

-- ---- the clause's end

-- nothing is said at its start
nothing_said : (same : Bool) → atoms_or_none (if same then Some [] else None) ≡ []
nothing_said true = refl
nothing_said false = refl

end_rows : (clause : Clause) (atom : Atom) (upper : Bool)
    → obligation_rows (end_of clause).family (end_of clause).clause atom upper ≡ negated_rows (columns_in 0 [] clause.after) clause.after atom upper
end_rows clause atom upper =
    ap (λ (atoms : List Atom). map (atom_row (columns_in (first_width atoms) [] clause.after)) atoms ++ []
    ++ negated_rows (columns_in (first_width atoms) [] clause.after) clause.after atom upper)
    (nothing_said (is_same_node clause.from clause.from))

-- where there are forms they tell the columns
same_columns : (width other : ℕ) (rows : List Row) (forms : List Form) → ¬ (forms ≡ [])
    → All (λ form. length form.coefs ≡ columns_in width rows forms) forms → columns_in other rows forms ≡ columns_in 0 [] forms
same_columns width other rows [] some long = absurd (some refl)
same_columns width other [] (form ∷ forms) some long = refl
same_columns width other (row ∷ rows) (form ∷ forms) some long =
    sym (All-head (λ (each : Form). length each.coefs ≡ length row.coefs) form forms long)

-- the start's rows, and then those of the failure, are the rows of the obligation
rows_of_failure : (family : Family) (clause : Clause) (start end : ℕ) (atom : Atom) (upper : Bool) → FitsClause start end clause → ¬ (clause.after ≡ [])
    → obligation_rows family clause atom upper
    ≡ obligation_rows family clause False false ++ obligation_rows (end_of clause).family (end_of clause).clause atom upper
rows_of_failure family clause start end atom upper fits some =
    let atoms : List Atom = atoms_or_none (atoms_at family clause.from) in
    let columns : ℕ = columns_over atoms clause in
    let front : List Row = map (atom_row columns) atoms ++ clause.rows in
    let same : columns ≡ columns_in 0 [] clause.after = same_columns start (first_width atoms) clause.rows clause.after some fits.forms in
    ap (λ (n : ℕ). front ++ negated_rows n clause.after atom upper) same
    ∙ (ap (λ (rows : List Row). front ++ rows) (sym (end_rows clause atom upper))
    ∙ ap (λ (rows : List Row). rows ++ obligation_rows (end_of clause).family (end_of clause).clause atom upper) (sym (append-nil front)))

-- ---- what a failure is about

pub record IsOfAtom (end : End) (first : ℕ) (atoms : List Atom) (failure : Failure) : Type 0 where
  pub place : ℕ
  pub atom : Atom
  pub upper : Bool
  pub inside : place < length atoms
  pub at : atom ≡ get_or atoms place atom
  pub about : failure.atom ≡ first + place
  pub rows : failure.rows ≡ obligation_rows end.family end.clause atom upper
  pub owed : (clause : Clause) → Contains (obligations_at clause atom) (obligation clause atom upper)

contains_first : {A : Type 0} (x : A) (xs : List A) (y : A) → Contains (x ∷ xs) y → (x ≡ y) ⊎ Contains xs y
contains_first x xs y (zero, below, is) = inl is
contains_first x xs y (suc k, below, is) = inr (k, omega arith, is)

one_about : (end : End) (first : ℕ) (atom : Atom) (atoms : List Atom) (upper : Bool) (failure : Failure)
    → ((clause : Clause) → Contains (obligations_at clause atom) (obligation clause atom upper)) → failure_of end first atom upper ≡ failure
    → IsOfAtom end first (atom ∷ atoms) failure
one_about end first atom atoms upper failure owed is = subst (λ (q : Failure). IsOfAtom end first (atom ∷ atoms) q) is (record {
  place = 0;
  atom = atom;
  upper = upper;
  inside = omega arith;
  at = refl;
  about = omega arith;
  rows = refl;
  owed = owed;
})

about_one : (end : End) (first : ℕ) (atom : Atom) (atoms : List Atom) (failure : Failure) → Contains (failures_of end first atom) failure
    → IsOfAtom end first (atom ∷ atoms) failure
about_one end first False atoms failure among = by (contains_first (failure_of end first False false) [] failure among)
  where
    by : (failure_of end first False false ≡ failure) ⊎ Contains [] failure → IsOfAtom end first (False ∷ atoms) failure
    by (inl is) = one_about end first False atoms false failure (λ clause. (0, omega arith, refl)) is
    by (inr (k, below, is)) = absurd (omega arith)
about_one end first (Linear coefs constant AtLeast) atoms failure among =
    by (contains_first (failure_of end first (Linear coefs constant AtLeast) false) [] failure among)
  where
    by : (failure_of end first (Linear coefs constant AtLeast) false ≡ failure) ⊎ Contains [] failure
        → IsOfAtom end first (Linear coefs constant AtLeast ∷ atoms) failure
    by (inl is) = one_about end first (Linear coefs constant AtLeast) atoms false failure (λ clause. (0, omega arith, refl)) is
    by (inr (k, below, is)) = absurd (omega arith)
about_one end first (Linear coefs constant Eq) atoms failure among =
    by (contains_first (failure_of end first (Linear coefs constant Eq) false) (failure_of end first (Linear coefs constant Eq) true ∷ []) failure among)
  where
    last : (failure_of end first (Linear coefs constant Eq) true ≡ failure) ⊎ Contains [] failure
        → IsOfAtom end first (Linear coefs constant Eq ∷ atoms) failure
    last (inl is) = one_about end first (Linear coefs constant Eq) atoms true failure (λ clause. (1, omega arith, refl)) is
    last (inr (k, below, is)) = absurd (omega arith)

    by : (failure_of end first (Linear coefs constant Eq) false ≡ failure)
        ⊎ Contains (failure_of end first (Linear coefs constant Eq) true ∷ []) failure → IsOfAtom end first (Linear coefs constant Eq ∷ atoms) failure
    by (inl is) = one_about end first (Linear coefs constant Eq) atoms false failure (λ clause. (0, omega arith, refl)) is
    by (inr more) = last (contains_first (failure_of end first (Linear coefs constant Eq) true) [] failure more)

later_about : (end : End) (first : ℕ) (atom : Atom) (atoms : List Atom) (failure : Failure) → IsOfAtom end (suc first) atoms failure
    → IsOfAtom end first (atom ∷ atoms) failure
later_about end first atom atoms failure asked = record {
  place = suc asked.place;
  atom = asked.atom;
  upper = asked.upper;
  inside = omega (arith, asked.inside);
  at = asked.at;
  about = omega (arith, asked.about);
  rows = asked.rows;
  owed = asked.owed;
}

here_or_later : (end : End) (first : ℕ) (atom : Atom) (atoms : List Atom) (failure : Failure)
    → (Contains (failures_from end (suc first) atoms) failure → IsOfAtom end (suc first) atoms failure)
    → Contains (failures_of end first atom) failure ⊎ Contains (failures_from end (suc first) atoms) failure
    → IsOfAtom end first (atom ∷ atoms) failure
here_or_later end first atom atoms failure asked (inl here) = about_one end first atom atoms failure here
here_or_later end first atom atoms failure asked (inr more) = later_about end first atom atoms failure (asked more)

asked_about : (end : End) (first : ℕ) (atoms : List Atom) (failure : Failure) → Contains (failures_from end first atoms) failure
    → IsOfAtom end first atoms failure
asked_about end first [] failure (k, below, is) = absurd (omega arith)
asked_about end first (atom ∷ atoms) failure among =
    here_or_later end first atom atoms failure (λ more. asked_about end (suc first) atoms failure more)
    (Contains-append_cases (failures_of end first atom) (failures_from end (suc first) atoms) failure among)

-- ---- what a point says

both_met : (first second : List Row) (point : Point) → IsPointOf first point → IsPointOf second point → HasPoint (first ++ second)
both_met first second point of_first of_second = record {
  numbers = point.numbers;
  denominator = point.denominator;
  positive = of_first.positive;
  meets = All-weaker (IsMet point) (Meets point.numbers point.denominator) (λ row met. met.meets) (first ++ second)
      (All-append (IsMet point) first second of_first.met of_second.met);
}

-- an atom that was hit is not shown to hold
pub hit_is_open : (family : Family) (clause : Clause) → CanCheckClause family clause → ¬ (clause.after ≡ []) → (atoms : List Atom) (number : ℕ) (atom : Atom)
    → IsHit (obligation_rows family clause False false) (failures_from (end_of clause) 0 atoms) number → atom ≡ get_or atoms number atom
    → number < length atoms → ¬ IsShown family clause atom
hit_is_open family clause can some atoms number atom hit at inside shown =
    let asked : IsOfAtom (end_of clause) 0 atoms hit.failure = asked_about (end_of clause) 0 atoms hit.failure hit.among in
    let here : asked.place ≡ number = omega (arith, asked.about, hit.about) in
    let same : asked.atom ≡ atom =
    asked.at ∙ (ap (λ (n : ℕ). get_or atoms n asked.atom) here ∙ (get_or_default atoms number asked.atom atom inside ∙ sym at)) in
    let owed = subst (λ (a : Atom). Contains (obligations_at clause a) (obligation clause a asked.upper)) same (asked.owed clause) in
    let refutable : IsRefutable (obligation_rows family clause atom asked.upper) =
    All-contains (λ obligation. IsRefutable (rows_of family obligation)) (obligations_at clause atom) (obligation clause atom asked.upper) shown owed in
    let rows : hit.failure.rows ≡ obligation_rows (end_of clause).family (end_of clause).clause atom asked.upper =
    asked.rows ∙ ap (λ (a : Atom). obligation_rows (end_of clause).family (end_of clause).clause a asked.upper) same in
    let of_failure = subst (λ (rows : List Row). IsPointOf rows hit.point) rows hit.of_failure in
    let all = rows_of_failure family clause can.start can.end atom asked.upper can.between some in
    let met = both_met (obligation_rows family clause False false) (obligation_rows (end_of clause).family (end_of clause).clause atom asked.upper) hit.point
    hit.of_start of_failure in
    points_exclude (obligation_rows family clause atom asked.upper) (subst HasPoint (sym all) met) refutable

-- ---- which atoms are marked

abbrev StartRows : Family → Clause → List Row
StartRows family clause = obligation_rows family clause False false

-- each atom that is marked is open, where nothing was marked before
pub marked_are_open : (family : Family) (clause : Clause) → CanCheckClause family clause → ¬ (clause.after ≡ []) → (start : List Row)
    (failures : List Failure) (atoms : List Atom) (before after : List Bool) → start ≡ StartRows family clause
    → failures ≡ failures_from (end_of clause) 0 atoms → atoms ≡ atoms_or_none (atoms_at family clause.to)
    → before ≡ replicate (length atoms) false → length after ≡ length atoms → Marks start failures before after
    → AllZip (IsOpenIfMarked family clause) (atoms_or_none (atoms_at family clause.to)) after
marked_are_open family clause can some start failures atoms before after is_start are_failures are_atoms none long marks =
    subst (λ (xs : List Atom). AllZip (IsOpenIfMarked family clause) xs after) are_atoms
    (zip_marked (λ (atom : Atom). ¬ IsShown family clause atom) atoms after long (λ number atom is inside at.
    by number atom inside at (subst (λ (xs : List Row). Hits xs number) is_start (hit_at number (marks number is)))))
  where
    Hits : List Row → ℕ → Type 0
    Hits rows number = IsHit rows (failures_from (end_of clause) 0 atoms) number

    hit_at : (number : ℕ) → (get_or before number false ≡ true) ⊎ IsHit start failures number → Hits start number
    hit_at number (inl old) =
        let never : false ≡ true = sym (replicated_false (length atoms) number) ∙ (ap (λ (xs : List Bool). get_or xs number false) (sym none) ∙ old) in cc
    hit_at number (inr hit) = subst (λ (qs : List Failure). IsHit start qs number) are_failures hit

    by : (number : ℕ) (atom : Atom) → number < length atoms → atom ≡ get_or atoms number atom → Hits (StartRows family clause) number
        → ¬ IsShown family clause atom
    by number atom inside at hit = hit_is_open family clause can some atoms number atom hit at inside
