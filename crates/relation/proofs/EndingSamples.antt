-- Couplings of functions that do not move alike: where one side has ended while the other has passed a mark, and where one
-- side never ends, so that nothing is left to say at the exits.
use Rattle.std.proofs.Common.{◌≡◌, ℕ, ◌+◌, ◌≤◌, Bool, true, false, inl, inr, eqb, refl, sym, subst, arith}
use Rattle.std.proofs.Common.{List, [], ◌∷◌, ◌++◌, length, Some, ℤ, pos}
use Rattle.std.proofs.lemmas.Int.{ints}
use Rattle.c_ast.specs.declared.place.Place.{Place}
use Rattle.c_ast.specs.declared.place.Place.TheVariants as place
use Rattle.c_ast.specs.Tree.{Num, Var, Nil, Loop, Return, Mark, Program}
use Rattle.c_ast.specs.Formed.{IsProgram, one_if}
use Rattle.c_ast.specs.Condition.{no_condition}
use Rattle.c_ast.specs.Returns.{NeverDiffer}
use Rattle.c_ast.specs.Step.{Work, scope_of, values_in, spread, start}
use Rattle.c_ast.specs.Segment.{FitsPlace, IsSegment}
use Rattle.c_ast.proofs.Laws.{next_place_is_determined}
use Rattle.alignment.specs.Counts.{table}
use Rattle.alignment.specs.Moves.{GoesOnOrStops, Takes}
use Rattle.horn_clauses.specs.declared.atom.Atom.TheVariants.{False}
use Rattle.horn_clauses.specs.declared.family.Family.{Family}
use Rattle.horn_clauses.specs.Node.{node, entries, exits}
use Rattle.horn_clauses.specs.Family.{InFamily}
use Rattle.horn_clauses.specs.Equalities.{equal_parameters, equal_results}
use Rattle.relation.specs.Invariants.{AreKept}
use Rattle.relation.specs.Coupling.{IsInFamily, IsCoupling}
use Rattle.relation.proofs.Couplings.{couplings_force}
use Rattle.relation.proofs.Samples.{plain, take_one}

-- ---- the functions: `plain` is int f(int a) { return a; }

-- int f(int a) { __mark(7); return a; }
marked : Program
marked = record { params = 1; vars = 1; body = Mark 7 (Return (Var 0) Nil) }

-- int f(int a) { while (__mark(7) & 1) {} return 0; }
endless : Program
endless = record { params = 1; vars = 1; body = Loop (Some 7) (Num (pos 1)) Nil Nil true (Return (Num (pos 0)) Nil) }

once : (b : Bool) → one_if b + 0 ≤ 1
once true = omega arith
once false = omega arith

once_in_loop : (b : Bool) → one_if b + (0 + (0 + 0)) ≤ 1
once_in_loop true = omega arith
once_in_loop false = omega arith

plain_is_formed : IsProgram plain
unfolding plain
plain_is_formed = record {
  few = omega arith;
  parameters = omega arith;
  formed = (refl, tt);
  declared_once = λ x. omega arith;
  marked_once = λ mark. omega arith;
}

marked_is_formed : IsProgram marked
unfolding marked
marked_is_formed = record {
  few = omega arith;
  parameters = omega arith;
  formed = (refl, tt);
  declared_once = λ x. omega arith;
  marked_once = λ mark. once (eqb 7 mark);
}

endless_is_formed : IsProgram endless
unfolding endless
endless_is_formed = record {
  few = omega arith;
  parameters = omega arith;
  formed = (omega (arith, ints), tt, tt, tt, tt, (omega (arith, ints), tt));
  declared_once = λ x. omega arith;
  marked_once = λ mark. once_in_loop (eqb 7 mark);
}

-- ---- their segments keep the one value

plain_goes_out : (x : ℤ) → IsSegment plain place.Entry (x ∷ []) place.Exit (x ∷ [])
unfolding plain
plain_goes_out x = record { work = start plain; from = refl; steps = 20; met = refl }

marked_comes_in : (x : ℤ) → IsSegment marked place.Entry (x ∷ []) (place.Mark 7) (x ∷ [])
unfolding marked
marked_comes_in x = record { work = start marked; from = refl; steps = 20; met = refl }

marked_goes_out : (x : ℤ) → IsSegment marked (place.Mark 7) (x ∷ []) place.Exit (x ∷ [])
unfolding marked
marked_goes_out x = record { work = _; from = inl (refl, refl); steps = 20; met = refl }

endless_comes_in : (x : ℤ) → IsSegment endless place.Entry (x ∷ []) (place.Mark 7) (x ∷ [])
unfolding endless
endless_comes_in x = record { work = start endless; from = refl; steps = 20; met = refl }

endless_goes_round : (x : ℤ) → IsSegment endless (place.Mark 7) (x ∷ []) (place.Mark 7) (x ∷ [])
unfolding endless
endless_goes_round x = record { work = _; from = inl (refl, refl); steps = 20; met = refl }

one_value : (values : List ℤ) → length values ≡ 1 → (x : ℤ) × (values ≡ x ∷ [])
one_value [] long = cc
one_value (x ∷ []) long = (x, refl)
one_value (x ∷ y ∷ values) long = absurd (omega (arith, long))

-- A segment from a place ends where each one from there with one value does, and keeps the value.
goes_there : (f : Program) (l m : Place) → IsProgram f → ((x : ℤ) → IsSegment f l (x ∷ []) m (x ∷ [])) → (d d' : List ℤ) (l' : Place)
    → length d ≡ 1 → IsSegment f l d l' d' → (l' ≡ m) × (d' ≡ d)
goes_there f l m formed each d d' l' long segment =
    let one = one_value d long in
    let other : IsSegment f l d m d = subst (λ (z : List ℤ). IsSegment f l z m z) (sym one.1) (each one.0) in
    next_place_is_determined f formed l d l' m d' d segment other

-- One segment is taken from a mark.
take_from_mark : (f : Program) (k : ℕ) (e e' : List ℤ) (l' : Place) → Takes (IsSegment f) 1 (place.Mark k) e l' e'
    → IsSegment f (place.Mark k) e l' e'
take_from_mark f k e e' l' takes =
    let stops : (l' ≡ takes.0) × (e' ≡ takes.1) = stops_or_stops _ ((l' ≡ takes.0) × (e' ≡ takes.1)) takes.3 in
    let at_place = subst (λ (z : Place). IsSegment f (place.Mark k) e z takes.1) (sym stops.0) takes.2 in
    subst (λ (z : List ℤ). IsSegment f (place.Mark k) e l' z) (sym stops.1) at_place
  where
    stops_or_stops : (again : Bool) (A : Type 0) → GoesOnOrStops again A A → A
    stops_or_stops true A is = is
    stops_or_stops false A is = is

marked_at_mark : (k : ℕ) (values : List ℤ) → FitsPlace marked (place.Mark k) values → (7 ≡ k) × (length values ≡ 1)
unfolding marked
marked_at_mark k values fits = elim (fits.1) [
  | inl is ↦ (is.0, subst (λ (work : Work). length values ≡ length (values_in (scope_of work) (spread [] 1 []))) is.1 fits.2)
  | inr behind ↦ absurd behind
]

endless_at_mark : (k : ℕ) (values : List ℤ) → FitsPlace endless (place.Mark k) values → (7 ≡ k) × (length values ≡ 1)
unfolding endless
endless_at_mark k values fits = elim (fits.1) [
  | inl is ↦
      (let same = is.0 in cc, subst (λ (work : Work). length values ≡ length (values_in (scope_of work) (spread [] 1 []))) is.1 fits.2)
  | inr other ↦ absurd (elim other [ inl body ↦ body | inr behind ↦ elim behind [ inl step ↦ step | inr end ↦ end ] ])
]

-- Both sides keep their values, and what is said of them.
stays : (family : Family) (l r l' r' : Place) (d e d' e' : List ℤ) → InFamily family (node l r) (d ++ e) → (l' ≡ l) × (d' ≡ d) → (r' ≡ r) × (e' ≡ e)
    → IsInFamily no_condition family (node l' r') d' e'
stays family l r l' r' d e d' e' inside first second = record { inside = rw (first.0, first.1, second.0, second.1) inside; meets = λ same. refl }

-- ---- `plain` has ended, and `marked` goes on

-- The parameters are the same, then the result of side A and the value at the mark of side B, then the results.
waiting : Family
waiting = record {
  nodes = (entries, equal_parameters 1) ∷ (node place.Exit (place.Mark 7), equal_results ∷ []) ∷ (exits, equal_results ∷ []) ∷ [];
}

from_entries : (l' r' : Place) (d e d' e' : List ℤ) → InFamily waiting entries (d ++ e) → (l' ≡ place.Exit) × (d' ≡ d)
    → (r' ≡ place.Mark 7) × (e' ≡ e) → IsInFamily no_condition waiting (node l' r') d' e'
unfolding waiting
from_entries l' r' d e d' e' inside = stays waiting place.Exit (place.Mark 7) l' r' d e d' e' inside

from_the_mark : (k : ℕ) (l' r' : Place) (d e d' e' : List ℤ) → 7 ≡ k → InFamily waiting (node place.Exit (place.Mark k)) (d ++ e)
    → (l' ≡ place.Exit) × (d' ≡ d) → (r' ≡ place.Exit) × (e' ≡ e) → IsInFamily no_condition waiting (node l' r') d' e'
unfolding waiting
from_the_mark k l' r' d e d' e' mark inside =
    let here : InFamily waiting (node place.Exit (place.Mark 7)) (d ++ e) =
    subst (λ (j : ℕ). InFamily waiting (node place.Exit (place.Mark j)) (d ++ e)) (sym mark) inside in
    stays waiting place.Exit place.Exit l' r' d e d' e' here

waiting_is_kept : AreKept plain marked 1 (IsInFamily no_condition waiting)
unfolding plain marked waiting table
waiting_is_kept place.Entry place.Entry l' r' d e d' e' away fits_first fits_second said moves =
    from_entries l' r' d e d' e' said.inside
    (goes_there plain place.Entry place.Exit plain_is_formed plain_goes_out d d' l' fits_first (take_one plain d d' l' moves.first))
    (goes_there marked place.Entry (place.Mark 7) marked_is_formed marked_comes_in e e' r' fits_second (take_one marked e e' r' moves.second))
waiting_is_kept place.Entry (place.Mark k) l' r' d e d' e' away fits_first fits_second said moves = absurd said.inside
waiting_is_kept place.Entry place.Exit l' r' d e d' e' away fits_first fits_second said moves = absurd said.inside
waiting_is_kept (place.Mark j) r l' r' d e d' e' away fits_first fits_second said moves = absurd said.inside
waiting_is_kept place.Exit place.Entry l' r' d e d' e' away fits_first fits_second said moves = absurd said.inside
waiting_is_kept place.Exit (place.Mark k) l' r' d e d' e' away fits_first fits_second said moves =
    let at = marked_at_mark k e fits_second in
    let segment = take_from_mark marked k e e' r' moves.second in
    let from_seventh = subst (λ (j : ℕ). IsSegment marked (place.Mark j) e r' e') (sym at.0) segment in
    from_the_mark k l' r' d e d' e' at.0 said.inside moves.first
    (goes_there marked (place.Mark 7) place.Exit marked_is_formed marked_goes_out e e' r' at.1 from_seventh)
waiting_is_kept place.Exit place.Exit l' r' d e d' e' away fits_first fits_second said moves = absurd (away refl)

waiting_couples : IsCoupling plain marked no_condition 1 waiting
unfolding plain marked waiting
waiting_couples = record { at_entries = refl; kept = waiting_is_kept; at_exits = inl (0, omega arith, refl) }

returns_alike : NeverDiffer plain marked no_condition
unfolding plain marked
returns_alike =
    couplings_force plain marked no_condition 1 waiting plain_is_formed marked_is_formed refl (record { least = omega arith; most = omega arith })
    waiting_couples

-- ---- `endless` never ends

-- Side A turns at its mark where side B has ended, with equal values. The exits are not met.
turning : Family
turning = record {
  nodes = (entries, equal_parameters 1) ∷ (node (place.Mark 7) place.Exit, equal_results ∷ []) ∷ (exits, False ∷ []) ∷ [];
}

to_the_mark : (l' r' : Place) (d e d' e' : List ℤ) → InFamily turning entries (d ++ e) → (l' ≡ place.Mark 7) × (d' ≡ d)
    → (r' ≡ place.Exit) × (e' ≡ e) → IsInFamily no_condition turning (node l' r') d' e'
unfolding turning
to_the_mark l' r' d e d' e' inside = stays turning (place.Mark 7) place.Exit l' r' d e d' e' inside

at_seventh : (j : ℕ) (r : Place) (values : List ℤ) → 7 ≡ j → InFamily turning (node (place.Mark j) r) values
    → InFamily turning (node (place.Mark 7) r) values
at_seventh j r values mark inside = subst (λ (i : ℕ). InFamily turning (node (place.Mark i) r) values) (sym mark) inside

turning_is_kept : AreKept endless plain 1 (IsInFamily no_condition turning)
unfolding endless plain turning table
turning_is_kept place.Entry place.Entry l' r' d e d' e' away fits_first fits_second said moves =
    to_the_mark l' r' d e d' e' said.inside
    (goes_there endless place.Entry (place.Mark 7) endless_is_formed endless_comes_in d d' l' fits_first (take_one endless d d' l' moves.first))
    (goes_there plain place.Entry place.Exit plain_is_formed plain_goes_out e e' r' fits_second (take_one plain e e' r' moves.second))
turning_is_kept place.Entry (place.Mark k) l' r' d e d' e' away fits_first fits_second said moves = absurd said.inside
turning_is_kept place.Entry place.Exit l' r' d e d' e' away fits_first fits_second said moves = absurd said.inside
turning_is_kept (place.Mark j) place.Entry l' r' d e d' e' away fits_first fits_second said moves =
    absurd (at_seventh j place.Entry (d ++ e) (endless_at_mark j d fits_first).0 said.inside)
turning_is_kept (place.Mark j) (place.Mark k) l' r' d e d' e' away fits_first fits_second said moves =
    absurd (at_seventh j (place.Mark k) (d ++ e) (endless_at_mark j d fits_first).0 said.inside)
turning_is_kept (place.Mark j) place.Exit l' r' d e d' e' away fits_first fits_second said moves =
    let at = endless_at_mark j d fits_first in
    let segment = take_from_mark endless j d d' l' moves.first in
    let from_seventh = subst (λ (i : ℕ). IsSegment endless (place.Mark i) d l' d') (sym at.0) segment in
    stays turning (place.Mark 7) place.Exit l' r' d e d' e' (at_seventh j place.Exit (d ++ e) at.0 said.inside)
    (goes_there endless (place.Mark 7) (place.Mark 7) endless_is_formed endless_goes_round d d' l' at.1 from_seventh) moves.second
turning_is_kept place.Exit place.Entry l' r' d e d' e' away fits_first fits_second said moves = absurd said.inside
turning_is_kept place.Exit (place.Mark k) l' r' d e d' e' away fits_first fits_second said moves = absurd said.inside
turning_is_kept place.Exit place.Exit l' r' d e d' e' away fits_first fits_second said moves = absurd (away refl)

turning_couples : IsCoupling endless plain no_condition 1 turning
unfolding endless plain turning
turning_couples = record { at_entries = refl; kept = turning_is_kept; at_exits = inr (0, omega arith, refl) }

never_both_return : NeverDiffer endless plain no_condition
unfolding endless plain
never_both_return =
    couplings_force endless plain no_condition 1 turning endless_is_formed plain_is_formed refl (record { least = omega arith; most = omega arith })
    turning_couples
