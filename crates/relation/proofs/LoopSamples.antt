-- A coupling of a function with a loop and a copy of it: the values of both sides are the same at the entries, at the loop's
-- mark, and at the exits.
use Rattle.std.proofs.Common.{◌≡◌, ℕ, zero, suc, ◌+◌, ◌≤◌, Bool, true, false, ◌&&◌, cond, eqb, ltb, inl, inr}
use Rattle.std.proofs.Common.{List, [], ◌∷◌, ◌++◌, length, ℤ, refl, sym, ap, ◌∙◌, subst, arith}
use Rattle.std.specs.Prelude.{All}
use Rattle.std.proofs.lemmas.Bool.{eq-eqb}
use Rattle.std.proofs.lemmas.Int.{ints}
use Rattle.c_ast.specs.declared.place.Place.{Place}
use Rattle.c_ast.specs.declared.place.Place.TheVariants as place
use Rattle.c_ast.specs.Place.{is_same_place}
use Rattle.c_ast.specs.Tree.{Program}
use Rattle.c_ast.specs.Formed.{IsProgram, one_if}
use Rattle.c_ast.specs.Condition.{no_condition}
use Rattle.c_ast.specs.Step.{Work, scope_of, values_in, spread}
use Rattle.c_ast.specs.Segment.{FitsPlace, IsSegment}
use Rattle.c_ast.proofs.Laws.{meets_fitting_values}
use Rattle.alignment.specs.Counts.{table, counts_of, counts_at}
use Rattle.alignment.specs.Moves.{GoesOnOrStops, Takes, Moves}
use Rattle.alignment.proofs.Laws.{moves_are_determined}
use Rattle.horn_clauses.specs.declared.family.Family.{Family}
use Rattle.horn_clauses.specs.Atom.{AtomHolds}
use Rattle.horn_clauses.specs.Node.{node, entries, exits}
use Rattle.horn_clauses.specs.Family.{InFamily}
use Rattle.horn_clauses.specs.Equalities.{equal_parameters, equal_results}
use Rattle.horn_clauses.proofs.Laws.{parameters_are_equal}
use Rattle.relation.specs.Invariants.{AreKept}
use Rattle.relation.specs.Coupling.{IsInFamily, IsCoupling}
use Rattle.relation.proofs.Samples.{counter}

-- The function's one parameter, then its two variables at the mark, then its result are the same on both sides.
unfoldable pub counting : Family
counting = record {
  nodes = (entries, equal_parameters 1) ∷ (node (place.Mark 7) (place.Mark 7), equal_parameters 2) ∷ (exits, equal_results ∷ []) ∷ [];
}

declared_once : (b : Bool) → one_if (b && true) + ((one_if (b && false) + 0) + (0 + 0)) ≤ 1
declared_once true = omega arith
declared_once false = omega arith

marked_once : (b : Bool) → one_if b + (0 + (0 + 0)) ≤ 1
marked_once true = omega arith
marked_once false = omega arith

counter_is_formed : IsProgram counter
unfolding counter
counter_is_formed = record {
  few = omega arith;
  parameters = omega arith;
  formed = (omega arith, refl, ((refl, refl, tt), (omega arith, (refl, omega (arith, ints), tt), tt), tt, tt, tt, (refl, tt)));
  declared_once = λ x. declared_once (eqb 1 x);
  marked_once = λ mark. marked_once (eqb 7 mark);
}

-- ---- the mark

-- Values that fit a mark are two, and the mark is 7.
record IsSeventh (k : ℕ) (values : List ℤ) : Type 0 where
  pub mark : 7 ≡ k
  pub two : length values ≡ 2

at_mark : (k : ℕ) (values : List ℤ) → FitsPlace counter (place.Mark k) values → IsSeventh k values
unfolding counter
at_mark k values fits = elim (fits.1) [
  | inl is ↦ record {
    mark = let same = is.0 in cc;
    two = subst (λ (work : Work). length values ≡ length (values_in (scope_of work) (spread [] 2 []))) is.1 fits.2;
  }
  | inr other ↦ absurd (elim other [ inl body ↦ body | inr behind ↦ elim behind [ inl step ↦ step | inr end ↦ end ] ])
]

-- ---- the values are the same on both sides

same_of : (n : ℕ) (d e : List ℤ) → length d ≡ n → length e ≡ n → All (λ atom. AtomHolds atom (d ++ e)) (equal_parameters n) → d ≡ e
same_of n d e first second all =
    (parameters_are_equal d e (first ∙ sym second)).0 (subst (λ (k : ℕ). All (λ atom. AtomHolds atom (d ++ e)) (equal_parameters k)) (sym first) all)

all_of : (n : ℕ) (d : List ℤ) → length d ≡ n → All (λ atom. AtomHolds atom (d ++ d)) (equal_parameters n)
all_of n d long = subst (λ (k : ℕ). All (λ atom. AtomHolds atom (d ++ d)) (equal_parameters k)) long ((parameters_are_equal d d refl).1 refl)

from_family : (l r : Place) (d e : List ℤ) → FitsPlace counter l d → FitsPlace counter r e → InFamily counting (node l r) (d ++ e) → (l ≡ r) × (d ≡ e)
unfolding counting counter
from_family place.Entry place.Entry d e first second inside = (refl, same_of 1 d e first second inside)
from_family place.Entry (place.Mark k) d e first second inside = absurd inside
from_family place.Entry place.Exit d e first second inside = absurd inside
from_family (place.Mark j) place.Entry d e first second inside =
    let left = at_mark j d first in
    absurd (subst (λ (k : ℕ). InFamily counting (node (place.Mark k) place.Entry) (d ++ e)) (sym left.mark) inside)
from_family (place.Mark j) (place.Mark k) d e first second inside =
    let left = at_mark j d first in
    let right = at_mark k e second in
    let at_left : InFamily counting (node (place.Mark 7) (place.Mark k)) (d ++ e) =
    subst (λ (i : ℕ). InFamily counting (node (place.Mark i) (place.Mark k)) (d ++ e)) (sym left.mark) inside in
    let at_both : InFamily counting (node (place.Mark 7) (place.Mark 7)) (d ++ e) =
    subst (λ (i : ℕ). InFamily counting (node (place.Mark 7) (place.Mark i)) (d ++ e)) (sym right.mark) at_left in
    (ap place.Mark (sym left.mark ∙ right.mark), same_of 2 d e left.two right.two at_both)
from_family (place.Mark j) place.Exit d e first second inside =
    let left = at_mark j d first in
    absurd (subst (λ (k : ℕ). InFamily counting (node (place.Mark k) place.Exit) (d ++ e)) (sym left.mark) inside)
from_family place.Exit place.Entry d e first second inside = absurd inside
from_family place.Exit (place.Mark k) d e first second inside =
    let right = at_mark k e second in
    absurd (subst (λ (i : ℕ). InFamily counting (node place.Exit (place.Mark i)) (d ++ e)) (sym right.mark) inside)
from_family place.Exit place.Exit d e first second inside = (refl, same_of 1 d e first second inside)

to_family : (l : Place) (d : List ℤ) → FitsPlace counter l d → InFamily counting (node l l) (d ++ d)
unfolding counting counter
to_family place.Entry d fits = all_of 1 d fits
to_family (place.Mark k) d fits =
    let at = at_mark k d fits in
    let here : InFamily counting (node (place.Mark 7) (place.Mark 7)) (d ++ d) = all_of 2 d at.two in
    subst (λ (i : ℕ). InFamily counting (node (place.Mark i) (place.Mark i)) (d ++ d)) at.mark here
to_family place.Exit d fits = all_of 1 d fits

-- ---- both sides move alike

stops_fits : (f : Program) (again : Bool) (l l' : Place) (e e' : List ℤ) (A : Type 0) → FitsPlace f l e → (A → FitsPlace f l' e')
    → GoesOnOrStops again A ((l' ≡ l) × (e' ≡ e)) → FitsPlace f l' e'
stops_fits f true l l' e e' A fits on is = on is
stops_fits f false l l' e e' A fits on is =
    subst (λ (z : Place). FitsPlace f z e') (sym is.0) (subst (λ (z : List ℤ). FitsPlace f l z) (sym is.1) fits)

takes_fits : (f : Program) (n : ℕ) (l : Place) (e : List ℤ) (l' : Place) (e' : List ℤ) → FitsPlace f l e → Takes (IsSegment f) n l e l' e' → FitsPlace f l' e'
takes_fits f zero l e l' e' fits takes = subst (λ (z : Place). FitsPlace f z e') (sym takes.0) (subst (λ (z : List ℤ). FitsPlace f l z) (sym takes.1) fits)
takes_fits f (suc n) place.Exit e l' e' fits takes =
    subst (λ (z : Place). FitsPlace f z e') (sym takes.0) (subst (λ (z : List ℤ). FitsPlace f place.Exit z) (sym takes.1) fits)
takes_fits f (suc n) place.Entry e l' e' fits takes =
    takes_fits f n takes.0 takes.1 l' e' (meets_fitting_values f place.Entry e takes.0 takes.1 takes.2) takes.3
takes_fits f (suc n) (place.Mark k) e l' e' fits takes =
    let met = meets_fitting_values f (place.Mark k) e takes.0 takes.1 takes.2 in
    stops_fits f (is_same_place takes.0 (place.Mark k)) takes.0 l' takes.1 e' (Takes (IsSegment f) n takes.0 takes.1 l' e') met
    (λ on. takes_fits f n takes.0 takes.1 l' e' met on) takes.3

same_at_mark : (k : ℕ) (t : Bool) → t ≡ true
    → let moves : ℕ × ℕ = cond t (1, 1) (cond (ltb k k) (1, 0) (0, 1)) in moves.0 ≡ moves.1
same_at_mark k true is = refl
same_at_mark k false is = cc

-- Under the first alignment both sides take as many segments where they stand at one place.
as_many : (l : Place) → (counts_at (counts_of 1) l l).0 ≡ (counts_at (counts_of 1) l l).1
unfolding table
as_many place.Entry = refl
as_many (place.Mark k) = same_at_mark k (eqb k k) (eq-eqb k k refl)
as_many place.Exit = refl

alike : (l : Place) (d : List ℤ) (l' r' : Place) (d' e' : List ℤ) → Moves (IsSegment counter) (IsSegment counter) 1 l l d d l' r' d' e' → (l' ≡ r') × (d' ≡ e')
alike l d l' r' d' e' moves =
    let swapped : Moves (IsSegment counter) (IsSegment counter) 1 l l d d r' l' e' d' = record {
      first = subst (λ (n : ℕ). Takes (IsSegment counter) n l d r' e') (sym (as_many l)) moves.second;
      second = subst (λ (n : ℕ). Takes (IsSegment counter) n l d l' d') (as_many l) moves.first;
    } in
    let same = moves_are_determined counter counter counter_is_formed counter_is_formed 1 l l d d l' r' d' e' r' l' e' d' moves swapped in
    (same.0, same.2)

kept : AreKept counter counter 1 (IsInFamily no_condition counting)
kept l r l' r' d e d' e' away first second said moves =
    let same = from_family l r d e first second said.inside in
    let at_place : Moves (IsSegment counter) (IsSegment counter) 1 l l d e l' r' d' e' =
    subst (λ (z : Place). Moves (IsSegment counter) (IsSegment counter) 1 l z d e l' r' d' e') (sym same.0) moves in
    let at_values : Moves (IsSegment counter) (IsSegment counter) 1 l l d d l' r' d' e' =
    subst (λ (z : List ℤ). Moves (IsSegment counter) (IsSegment counter) 1 l l d z l' r' d' e') (sym same.1) at_place in
    let after = alike l d l' r' d' e' at_values in
    let fits = takes_fits counter (counts_at (counts_of 1) l r).0 l d l' d' first moves.first in
    let inside : InFamily counting (node l' l') (d' ++ d') = to_family l' d' fits in
    record {
      inside = subst (λ (z : Place). InFamily counting (node l' z) (d' ++ e')) after.0
          (subst (λ (z : List ℤ). InFamily counting (node l' l') (d' ++ z)) after.1 inside);
      meets = λ same. refl;
    }

couples : IsCoupling counter counter no_condition 1 counting
unfolding counter counting
couples = record { at_entries = refl; kept = kept; at_exits = inl (0, omega arith, refl) }
