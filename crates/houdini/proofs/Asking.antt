-- Lists of multipliers that are added obligation by obligation.
use Rattle.std.proofs.Common.{true, false, ◌≡◌, ℕ, zero, suc, ◌+◌, ◌<◌, ◌≤◌, List, [], ◌∷◌, ◌++◌, length, take, drop, get_or, refl, sym, ◌∙◌, ap, subst, arith, append_assoc, append-nil, length-append}
use Rattle.std.specs.Prelude.{ℤ, Option, Some, None, IsSomeAnd, Err, All, slice_get}
use Rattle.std.specs.List.{flat_map}
use Rattle.std.proofs.lemmas.List.{take-append-drop}
use Rattle.std.proofs.lemmas.Grind.{flat_map-append}
use Rattle.std.proofs.lemmas.List.{drop_more, take_more}
use Rattle.std.proofs.lemmas.List.Elements.{All-head}
use Rattle.std.proofs.lemmas.Option.{slice_get-get_or}
use Rattle.re_base.specs.Causes.{Rose}
use Rattle.farkas_check.specs.Refutes.{IsRefutable}
use Rattle.elimination.specs.declared.answer.Limit.{Limit}
use Rattle.horn_clauses.specs.declared.atom.Atom.{Atom}
use Rattle.horn_clauses.specs.declared.atom.Atom.TheVariants.{False, Linear}
use Rattle.horn_clauses.specs.declared.atom.Rel.TheVariants.{Eq, AtLeast}
use Rattle.horn_clauses.specs.declared.clause.Clause.{Clause}
use Rattle.horn_clauses.specs.declared.clause.Product.{Product}
use Rattle.horn_clauses.specs.declared.family.Family.{Family}
use Rattle.horn_clauses.specs.Family.{atoms_at}
use Rattle.horn_clauses.specs.Obligations.{Obligation, obligation, rows_of, atoms_or_none, obligations_at, obligations_for, obligations_of, FitsNode, CanOblige}
use Rattle.coupling_check.specs.Checks.{IsProvedBy, AreProved, CanCheckClause}
use Rattle.houdini.specs.declared.stop.Stop.{Stop}
use Rattle.houdini.specs.declared.stop.Stop.TheVariants as stop
use Rattle.houdini.specs.declared.pass.Unproved.{Unproved}
use Rattle.houdini.specs.declared.pass.Unproved.TheVariants as unproved
use Rattle.houdini.specs.declared.pass.Ending.{Ending}
use Rattle.houdini.specs.declared.pass.Ending.TheVariants as ending
use Rattle.coupling_check.specs.Checks.{AreRefutable}
use Rattle.houdini.specs.Answers.{IsLimitOf, MeetsLimit}
use Rattle.houdini.specs.Pass.{IsCause, IsCauseOfUnproved, IsCauseOfEnding, AnswersRows, Adds, StopsAt, AnswersObligations, IsOpenIn, AnswersAtoms, AnswersClauses, ending_of, is_equality_atom}
use Rattle.houdini.proofs.Strikes.{first_of_all, second_of_all}

abbrev Lists : Type 0
Lists = List (List ℤ)

-- ---- causes

pub rose_since : (before between now : ℕ) → before ≤ between → Rose between now → Rose before now
rose_since before between now later rose = omega (arith, later, rose)

pub cause_since : (before between now : ℕ) (why : Stop) → before ≤ between → IsCause between now why → IsCause before now why
cause_since before between now stop.Stopped later rose = rose_since before between now later rose
cause_since before between now stop.Memory later rose = tt

pub unproved_since : (before between now : ℕ) (why : Unproved) → before ≤ between → IsCauseOfUnproved between now why
    → IsCauseOfUnproved before now why
unproved_since before between now unproved.Open later cause = tt
unproved_since before between now (unproved.Limit limit) later cause = tt
unproved_since before between now (unproved.Stop why) later cause = cause_since before between now why later cause

pub ending_since : (before between now : ℕ) (why : Ending) → before ≤ between → IsCauseOfEnding between now why
    → IsCauseOfEnding before now why
ending_since before between now (ending.Open clause atom) later cause = tt
ending_since before between now (ending.Limit limit) later cause = tt
ending_since before between now (ending.Stop why) later cause = cause_since before between now why later cause

pub cause_of_ending : (before between now clause atom : ℕ) (why : Unproved) → before ≤ between → IsCauseOfUnproved between now why
    → IsCauseOfEnding before now (ending_of why clause atom)
cause_of_ending before between now clause atom unproved.Open later cause = tt
cause_of_ending before between now clause atom (unproved.Limit limit) later cause = tt
cause_of_ending before between now clause atom (unproved.Stop why) later cause = cause_since before between now why later cause

-- ---- lists that are added

take_past : {A : Type 0} (xs : List A) (i : ℕ) → length xs ≤ i → take i xs ≡ xs
take_past [] zero past = refl
take_past [] (suc i) past = refl
take_past (x ∷ xs) zero past = absurd (omega (arith, past))
take_past {A} (x ∷ xs) (suc i) past = ap (λ (ys : List A). x ∷ ys) (take_past xs i (omega (arith, past)))

numbered_behind : {A : Type 0} (xs ys : List A) (i : ℕ) → slice_get (xs ++ ys) (length xs + i) ≡ slice_get ys i
numbered_behind [] ys i = let same : 0 + i ≡ i = omega arith in ap (slice_get ys) same
numbered_behind (x ∷ xs) ys i =
    let same : length (x ∷ xs) + i ≡ suc (length xs + i) = omega arith in
    ap (slice_get (x ∷ (xs ++ ys))) same ∙ numbered_behind xs ys i

numbered_before : {A : Type 0} (xs ys : List A) (i : ℕ) (x : A) → slice_get xs i ≡ Some x → slice_get (xs ++ ys) i ≡ Some x
numbered_before [] ys i x is = absurd cc
numbered_before (z ∷ xs) ys zero x is = is
numbered_before (z ∷ xs) ys (suc i) x is = numbered_before xs ys i x is

module _ (family : Family) where
  joined : (first second : List Obligation) (lists others : Lists) → AreProved family first lists → length lists ≡ length first
      → AreProved family second others → AreProved family (first ++ second) (lists ++ others)
  joined [] second [] others proved same later = later
  joined [] second (multipliers ∷ lists) others proved same later = absurd (omega (arith, same))
  joined (asked ∷ first) second [] others proved same later = absurd proved
  joined (asked ∷ first) second (multipliers ∷ lists) others proved same later =
      (proved.0, joined first second lists others proved.1 (omega (arith, same)) later)

  pub adds_nothing : (lists : Lists) → Adds family [] lists lists
  adds_nothing lists = record { added = []; is = sym (append-nil lists); proved = tt; as_many = refl }

  pub adds_one : (asked : Obligation) (old : Lists) (multipliers : List ℤ) → IsProvedBy (rows_of family asked) multipliers
      → Adds family (asked ∷ []) old (old ++ multipliers ∷ [])
  adds_one asked old multipliers proved = record { added = multipliers ∷ []; is = refl; proved = (proved, tt); as_many = refl }

  pub adds_on : (first second : List Obligation) (old between new : Lists) → Adds family first old between
      → Adds family second between new → Adds family (first ++ second) old new
  adds_on first second old between new before later = record {
    added = before.added ++ later.added;
    is = later.is ∙ ap (λ (xs : Lists). xs ++ later.added) before.is ∙ append_assoc old before.added later.added;
    proved = joined first second before.added later.added before.proved before.as_many later.proved;
    as_many = omega (arith, length-append before.added later.added, length-append first second, before.as_many, later.as_many);
  }

  pub stops_one : (asked : Obligation) (cap : ℕ) (old : Lists) (limit : Limit) → IsLimitOf (rows_of family asked) cap limit
      → StopsAt family (asked ∷ []) cap old old limit
  stops_one asked cap old limit limited = record {
    place = 0;
    behind = omega arith;
    asked = asked;
    numbered = refl;
    limited = limited;
  }

  pub stops_before : (first second : List Obligation) (cap : ℕ) (old new : Lists) (limit : Limit) → StopsAt family first cap old new limit
      → StopsAt family (first ++ second) cap old new limit
  stops_before first second cap old new limit stops = record {
    place = stops.place;
    behind = stops.behind;
    asked = stops.asked;
    numbered = numbered_before first second stops.place stops.asked stops.numbered;
    limited = stops.limited;
  }

  pub stops_later : (first second : List Obligation) (cap : ℕ) (old between new : Lists) (limit : Limit) → Adds family first old between
      → StopsAt family second cap between new limit → StopsAt family (first ++ second) cap old new limit
  stops_later first second cap old between new limit before stops = record {
    place = length first + stops.place;
    behind =
        let long : length between ≡ length old + length before.added = ap length before.is ∙ length-append old before.added in
        omega (arith, stops.behind, long, before.as_many);
    asked = stops.asked;
    numbered = numbered_behind first second stops.place ∙ stops.numbered;
    limited = stops.limited;
  }

  abbrev IsOne : Obligation → Type 0
  IsOne asked = IsRefutable (rows_of family asked)

  pub refused_one : (asked : Obligation) (cap : ℕ) (old : Lists) (why : Unproved) → AnswersRows (rows_of family asked) cap (Err why)
      → AnswersObligations family (asked ∷ []) cap old old (Err why)
  refused_one asked cap old unproved.Open answers = λ all. answers (All-head IsOne asked [] all)
  refused_one asked cap old (unproved.Limit limit) answers = stops_one asked cap old limit answers
  refused_one asked cap old (unproved.Stop why) answers = tt

  not_before : (first second : List Obligation) → ¬ AreRefutable family first → ¬ AreRefutable family (first ++ second)
  not_before first second not all = not (first_of_all IsOne first second all)

  not_later : (first second : List Obligation) → ¬ AreRefutable family second → ¬ AreRefutable family (first ++ second)
  not_later first second not all = not (second_of_all IsOne first second all)

  -- ---- two obligations

  pub first_ends : (first second : List Obligation) (cap : ℕ) (old new : Lists) (why : Unproved)
      → AnswersObligations family first cap old new (Err why) → AnswersObligations family (first ++ second) cap old new (Err why)
  first_ends first second cap old new unproved.Open answers = not_before first second answers
  first_ends first second cap old new (unproved.Limit limit) answers = stops_before first second cap old new limit answers
  first_ends first second cap old new (unproved.Stop why) answers = tt

  pub second_ends : (first second : List Obligation) (cap : ℕ) (old between new : Lists) (why : Unproved) → Adds family first old between
      → AnswersObligations family second cap between new (Err why) → AnswersObligations family (first ++ second) cap old new (Err why)
  second_ends first second cap old between new unproved.Open before answers = not_later first second answers
  second_ends first second cap old between new (unproved.Limit limit) before answers =
      stops_later first second cap old between new limit before answers
  second_ends first second cap old between new (unproved.Stop why) before answers = tt

  -- ---- the obligations that are made of the elements of a list

  module _ (X : Type 0) (made : X → List Obligation) (xs : List X) where
    module _ (i : ℕ) (x : X) (inside : i < length xs) (is : x ≡ get_or xs i x) where
      so_far : flat_map made (take (i + 1) xs) ≡ flat_map made (take i xs) ++ made x
      so_far =
          ap (flat_map made) (take_more xs i x inside ∙ ap (λ (z : X). take i xs ++ z ∷ []) (sym is))
          ∙ flat_map-append made (take i xs) (x ∷ [])
          ∙ ap (λ (zs : List Obligation). flat_map made (take i xs) ++ zs) (append-nil (made x))

      here : flat_map made xs ≡ flat_map made (take i xs) ++ (made x ++ flat_map made (drop (i + 1) xs))
      here =
          ap (flat_map made) (sym (take-append-drop i xs)
          ∙ ap (λ (zs : List X). take i xs ++ zs) (drop_more xs i x inside ∙ ap (λ (z : X). z ∷ drop (i + 1) xs) (sym is)))
          ∙ flat_map-append made (take i xs) (x ∷ drop (i + 1) xs)

      pub adds_next : (old between new : Lists) → Adds family (flat_map made (take i xs)) old between → Adds family (made x) between new
          → Adds family (flat_map made (take (i + 1) xs)) old new
      adds_next old between new before later =
          subst (λ (asked : List Obligation). Adds family asked old new) (sym so_far)
          (adds_on (flat_map made (take i xs)) (made x) old between new before later)

      pub stops_here : (cap : ℕ) (old between new : Lists) (limit : Limit) → Adds family (flat_map made (take i xs)) old between
          → StopsAt family (made x) cap between new limit → StopsAt family (flat_map made xs) cap old new limit
      stops_here cap old between new limit before stops =
          subst (λ (asked : List Obligation). StopsAt family asked cap old new limit) (sym here)
          (stops_later (flat_map made (take i xs)) (made x ++ flat_map made (drop (i + 1) xs)) cap old between new limit before
          (stops_before (made x) (flat_map made (drop (i + 1) xs)) cap between new limit stops))

      pub stands_here : slice_get xs i ≡ Some x
      stands_here = slice_get-get_or xs i x inside ∙ ap Some (sym is)

    pub adds_all : (i : ℕ) (old new : Lists) → length xs ≤ i → Adds family (flat_map made (take i xs)) old new
        → Adds family (flat_map made xs) old new
    adds_all i old new past before =
        subst (λ (ys : List X). Adds family (flat_map made ys) old new) (take_past xs i past) before

  -- ---- the ends of loops

  pub atom_ends : (clause : Clause) (number : ℕ) (atoms : List Atom) (cap i : ℕ) (atom : Atom) (old between new : Lists) (why : Unproved)
      → i < length atoms → atom ≡ get_or atoms i atom → Adds family (flat_map (obligations_at clause) (take i atoms)) old between
      → AnswersObligations family (obligations_at clause atom) cap between new (Err why)
      → AnswersAtoms family clause number atoms cap old new (Err (ending_of why number i))
  atom_ends clause number atoms cap i atom old between new unproved.Open inside is before answers =
      (refl, record { atom = atom; stands = stands_here Atom (obligations_at clause) atoms i atom inside is; unshown = answers })
  atom_ends clause number atoms cap i atom old between new (unproved.Limit limit) inside is before answers =
      stops_here Atom (obligations_at clause) atoms i atom inside is cap old between new limit before answers
  atom_ends clause number atoms cap i atom old between new (unproved.Stop why) inside is before answers = tt

  pub clause_ends : (clauses : List Clause) (cap i : ℕ) (clause : Clause) (old between new : Lists) (why : Ending)
      → i < length clauses → clause ≡ get_or clauses i clause → Adds family (flat_map (obligations_for family) (take i clauses)) old between
      → AnswersAtoms family clause i (atoms_or_none (atoms_at family clause.to)) cap between new (Err why)
      → AnswersClauses family clauses cap old new (Err why)
  clause_ends clauses cap i clause old between new (ending.Open number place) inside is before answers =
      subst (λ (n : ℕ). IsOpenIn family clauses n place) (sym answers.0)
      (record {
        clause = clause;
        numbered = stands_here Clause (obligations_for family) clauses i clause inside is;
        unshown = answers.1;
      })
  clause_ends clauses cap i clause old between new (ending.Limit limit) inside is before answers =
      stops_here Clause (obligations_for family) clauses i clause inside is cap old between new limit before answers
  clause_ends clauses cap i clause old between new (ending.Stop why) inside is before answers = tt

-- ---- what the pass says

-- Lists that were added to none check.
pub checks_of : (product : Product) (family : Family) (lists : Lists) → Adds family (obligations_of family product) [] lists
    → AreProved family (obligations_of family product) lists
checks_of product family lists adds =
    subst (λ (xs : Lists). AreProved family (obligations_of family product) xs) (sym adds.is) adds.proved

pub limit_of : (product : Product) (family : Family) (most : ℕ) (lists : Lists) (limit : Limit)
    → StopsAt family (obligations_of family product) most [] lists limit → MeetsLimit product family most (length lists) limit
limit_of product family most lists limit stops = record {
  asked = stops.asked;
  numbered =
      let same : length lists ≡ stops.place = omega (arith, stops.behind) in
      ap (slice_get (obligations_of family product)) same ∙ stops.numbered;
  limited = stops.limited;
}

-- ---- the obligations of one atom

pub both_of : (clause : Clause) (atom : Atom) → is_equality_atom atom ≡ true
    → obligation clause atom false ∷ obligation clause atom true ∷ [] ≡ obligations_at clause atom
both_of clause False is = absurd cc
both_of clause (Linear coefs constant Eq) is = refl
both_of clause (Linear coefs constant AtLeast) is = absurd cc

pub one_of : (clause : Clause) (atom : Atom) → is_equality_atom atom ≡ false
    → obligation clause atom false ∷ [] ≡ obligations_at clause atom
one_of clause False is = refl
one_of clause (Linear coefs constant Eq) is = absurd cc
one_of clause (Linear coefs constant AtLeast) is = refl

-- ---- what may be asked

at_node : (P : Atom → Type 0) (found : Option (List Atom)) → IsSomeAnd found (All P) → All P (atoms_or_none found)
at_node P None all = absurd all
at_node P (Some atoms) all = all

-- The obligations of a clause's end may be asked, where the clause can be checked.
pub can_oblige_each : (family : Family) (clause : Clause) → CanCheckClause family clause
    → All (CanOblige family clause) (atoms_or_none (atoms_at family clause.to))
can_oblige_each family clause can =
    let fit = at_node (FitsNode can.end) (atoms_at family clause.to) can.at_end in
    λ k d inside. record {
      start = can.start;
      end = can.end;
      at_start = can.at_start;
      at_end = fit k d inside;
      between = can.between;
      few_at_start = can.few_at_start;
      few_at_end = can.few_at_end;
    }
