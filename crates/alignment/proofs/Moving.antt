-- Moves over any segments: which side moves, that segments which agree give the same moves, and that segments which are
-- determined give moves that are.
use Rattle.std.proofs.Common.{◌≡◌, ℕ, zero, suc, ◌<◌, Bool, true, false, cond, eqb, ltb, ◌⊎◌, inl, inr, List, ℤ, refl, sym, ap, ◌∙◌, subst, arith}
use Rattle.std.proofs.lemmas.Bool.{eqb-true, eqb-false}
use Rattle.c_ast.specs.declared.place.Place.{Place}
use Rattle.c_ast.specs.declared.place.Place.TheVariants as place
use Rattle.c_ast.specs.Place.{is_same_place}
use Rattle.c_ast.specs.Tree.{Program}
use Rattle.c_ast.specs.Formed.{IsProgram}
use Rattle.c_ast.specs.Segment.{IsSegment}
use Rattle.c_ast.proofs.Laws.{entry_is_not_met, next_place_is_determined}
use Rattle.alignment.specs.Counts.{Counts, counts_of, counts_at}
use Rattle.alignment.specs.Moves.{GoesOnOrStops, Takes, Moves}
use Rattle.alignment.specs.Laws.{IsMoving, SomeSideMoves, SameMoves, MovesAreDetermined, StopsElsewhere, GoesOnAtItsMark, EntriesAreNotMet}
use Rattle.alignment.proofs.Rows.{some_at_marks}

-- ---- some side moves

-- Side A or side B moves by these counts.
abbrev SomeMoves : ℕ × ℕ → Place → Place → Type 0
SomeMoves counts l r = IsMoving counts.0 l ⊎ IsMoving counts.1 r

moves_at_marks : (counts : Counts) → 0 < counts.2 → (same lower : Bool) (j k : ℕ)
    → SomeMoves (cond same (counts.2, counts.3) (cond lower (1, 0) (0, 1))) (place.Mark j) (place.Mark k)
moves_at_marks counts positive true lower j k = inl (positive, λ e. cc)
moves_at_marks counts positive false true j k = inl (omega arith, λ e. cc)
moves_at_marks counts positive false false j k = inr (omega arith, λ e. cc)

some_moves : (counts : Counts) (l r : Place) → 0 < counts.2 → ¬ ((l ≡ place.Exit) × (r ≡ place.Exit)) → SomeMoves (counts_at counts l r) l r
some_moves counts place.Entry place.Entry positive away = inl (omega arith, λ e. cc)
some_moves counts place.Entry (place.Mark k) positive away = inl (omega arith, λ e. cc)
some_moves counts place.Entry place.Exit positive away = inl (omega arith, λ e. cc)
some_moves counts (place.Mark j) place.Entry positive away = inr (omega arith, λ e. cc)
some_moves counts (place.Mark j) (place.Mark k) positive away = moves_at_marks counts positive (eqb j k) (ltb j k) j k
some_moves counts (place.Mark j) place.Exit positive away = inl (omega arith, λ e. cc)
some_moves counts place.Exit place.Entry positive away = inr (omega arith, λ e. cc)
some_moves counts place.Exit (place.Mark k) positive away = inr (omega arith, λ e. cc)
some_moves counts place.Exit place.Exit positive away = absurd (away (refl, refl))

pub some_side_moves : SomeSideMoves
some_side_moves alignment l r named away = some_moves (counts_of alignment) l r (some_at_marks alignment named).0 away

-- ---- segments that agree

module _ (Segment Other : Place → List ℤ → Place → List ℤ → Type 0)
    (agree : (l : Place) (e : List ℤ) (l' : Place) (e' : List ℤ) → Segment l e l' e' → Other l e l' e') where
  goes_on_or_stops : (again : Bool) (A B C : Type 0) → (A → B) → GoesOnOrStops again A C → GoesOnOrStops again B C
  goes_on_or_stops true A B C on is = on is
  goes_on_or_stops false A B C on is = is

  pub takes_same : (n : ℕ) (l : Place) (e : List ℤ) (l' : Place) (e' : List ℤ) → Takes Segment n l e l' e' → Takes Other n l e l' e'
  takes_same zero l e l' e' takes = takes
  takes_same (suc n) place.Exit e l' e' takes = takes
  takes_same (suc n) place.Entry e l' e' takes =
      (takes.0, takes.1, agree place.Entry e takes.0 takes.1 takes.2, takes_same n takes.0 takes.1 l' e' takes.3)
  takes_same (suc n) (place.Mark k) e l' e' takes = (
    takes.0,
    takes.1,
    agree (place.Mark k) e takes.0 takes.1 takes.2,
    goes_on_or_stops (is_same_place takes.0 (place.Mark k)) (Takes Segment n takes.0 takes.1 l' e') (Takes Other n takes.0 takes.1 l' e')
        ((l' ≡ takes.0) × (e' ≡ takes.1)) (λ on. takes_same n takes.0 takes.1 l' e' on) takes.3,
  )

-- Segments that agree give the same moves.
pub moves_agree : (First Second OtherFirst OtherSecond : Place → List ℤ → Place → List ℤ → Type 0)
    → ((l : Place) (e : List ℤ) (l' : Place) (e' : List ℤ) → First l e l' e' → OtherFirst l e l' e')
    → ((l : Place) (e : List ℤ) (l' : Place) (e' : List ℤ) → Second l e l' e' → OtherSecond l e l' e')
    → (alignment : ℕ) (l r : Place) (d e : List ℤ) (l' r' : Place) (d' e' : List ℤ)
    → Moves First Second alignment l r d e l' r' d' e' → Moves OtherFirst OtherSecond alignment l r d e l' r' d' e'
moves_agree First Second OtherFirst OtherSecond first second alignment l r d e l' r' d' e' moves = record {
  first = takes_same First OtherFirst first (counts_at (counts_of alignment) l r).0 l d l' d' moves.first;
  second = takes_same Second OtherSecond second (counts_at (counts_of alignment) l r).1 r e r' e' moves.second;
}

pub same_moves : SameMoves
same_moves f g other_f other_g first second alignment l r d e l' r' d' e' = (
  moves_agree (IsSegment f) (IsSegment g) (IsSegment other_f) (IsSegment other_g) (λ l e l' e'. (first l e l' e').0) (λ l e l' e'. (second l e l' e').0)
      alignment l r d e l' r' d' e',
  moves_agree (IsSegment other_f) (IsSegment other_g) (IsSegment f) (IsSegment g) (λ l e l' e'. (first l e l' e').1) (λ l e l' e'. (second l e l' e').1)
      alignment l r d e l' r' d' e',
)

-- ---- segments that are determined

-- From each place, with any values, a segment ends at one place at most, with one list of values.
abbrev IsDetermined : (Place → List ℤ → Place → List ℤ → Type 0) → Type 0
IsDetermined Segment = (l : Place) (e : List ℤ) (a b : Place) (c d : List ℤ) → Segment l e a c → Segment l e b d → (a ≡ b) × (c ≡ d)

module _ (Segment : Place → List ℤ → Place → List ℤ → Type 0) (once : IsDetermined Segment) where
  stops_once : (again : Bool) (l a b : Place) (e c d : List ℤ) (A B : Type 0) → (A → B → (a ≡ b) × (c ≡ d))
      → GoesOnOrStops again A ((a ≡ l) × (c ≡ e)) → GoesOnOrStops again B ((b ≡ l) × (d ≡ e)) → (a ≡ b) × (c ≡ d)
  stops_once true l a b e c d A B on first second = on first second
  stops_once false l a b e c d A B on first second = (first.0 ∙ sym second.0, first.1 ∙ sym second.1)

  pub takes_once : (n : ℕ) (l : Place) (e : List ℤ) (a b : Place) (c d : List ℤ) → Takes Segment n l e a c → Takes Segment n l e b d
      → (a ≡ b) × (c ≡ d)
  takes_once zero l e a b c d first second = (first.0 ∙ sym second.0, first.1 ∙ sym second.1)
  takes_once (suc n) place.Exit e a b c d first second = (first.0 ∙ sym second.0, first.1 ∙ sym second.1)
  takes_once (suc n) place.Entry e a b c d first second =
      let same = once place.Entry e first.0 second.0 first.1 second.1 first.2 second.2 in
      let at_place : Takes Segment n first.0 second.1 b d = subst (λ (z : Place). Takes Segment n z second.1 b d) (sym same.0) second.3 in
      let there : Takes Segment n first.0 first.1 b d = subst (λ (z : List ℤ). Takes Segment n first.0 z b d) (sym same.1) at_place in
      takes_once n first.0 first.1 a b c d first.3 there
  takes_once (suc n) (place.Mark k) e a b c d first second =
      let same = once (place.Mark k) e first.0 second.0 first.1 second.1 first.2 second.2 in
      let at_place : GoesOnOrStops (is_same_place first.0 (place.Mark k)) (Takes Segment n first.0 second.1 b d) ((b ≡ first.0) × (d ≡ second.1)) =
      subst (λ (z : Place). GoesOnOrStops (is_same_place z (place.Mark k)) (Takes Segment n z second.1 b d) ((b ≡ z) × (d ≡ second.1))) (sym same.0) second.3 in
      let there : GoesOnOrStops (is_same_place first.0 (place.Mark k)) (Takes Segment n first.0 first.1 b d) ((b ≡ first.0) × (d ≡ first.1)) =
      subst (λ (z : List ℤ). GoesOnOrStops (is_same_place first.0 (place.Mark k)) (Takes Segment n first.0 z b d) ((b ≡ first.0) × (d ≡ z)))
      (sym same.1) at_place in
      stops_once (is_same_place first.0 (place.Mark k)) first.0 a b first.1 c d (Takes Segment n first.0 first.1 a c) (Takes Segment n first.0 first.1 b d)
      (λ one other. takes_once n first.0 first.1 a b c d one other) first.3 there

-- Segments that are determined give moves that are.
pub moves_once : (First Second : Place → List ℤ → Place → List ℤ → Type 0) → IsDetermined First → IsDetermined Second
    → (alignment : ℕ) (l r : Place) (d e : List ℤ) (l' r' : Place) (d' e' : List ℤ) (m n : Place) (u v : List ℤ)
    → Moves First Second alignment l r d e l' r' d' e' → Moves First Second alignment l r d e m n u v
    → (l' ≡ m) × (r' ≡ n) × (d' ≡ u) × (e' ≡ v)
moves_once First Second first_once second_once alignment l r d e l' r' d' e' m n u v one other =
    let first = takes_once First first_once (counts_at (counts_of alignment) l r).0 l d l' m d' u one.first other.first in
    let second = takes_once Second second_once (counts_at (counts_of alignment) l r).1 r e r' n e' v one.second other.second in
    (first.0, second.0, first.1, second.1)

pub moves_are_determined : MovesAreDetermined
moves_are_determined f g first second = moves_once (IsSegment f) (IsSegment g) (next_place_is_determined f first) (next_place_is_determined g second)

-- ---- where a side stops

mark_is_itself : (k : ℕ) (t : Bool) → eqb k k ≡ t → t ≡ true
mark_is_itself k true is = refl
mark_is_itself k false is = absurd (eqb-false k k is refl)

other_mark : (j k : ℕ) (t : Bool) → eqb j k ≡ t → ¬ (place.Mark j ≡ place.Mark k) → t ≡ false
other_mark j k true is other = absurd (other (ap place.Mark (eqb-true j k is)))
other_mark j k false is other = refl

is_another_place : (l : Place) (k : ℕ) → ¬ (l ≡ place.Mark k) → is_same_place l (place.Mark k) ≡ false
is_another_place place.Entry k other = refl
is_another_place (place.Mark j) k other = other_mark j k (eqb j k) refl other
is_another_place place.Exit k other = refl

-- What a side takes from a mark begins with the segment there.
follows_segment : (f : Program) → IsProgram f → (n k : ℕ) (e : List ℤ) (next : Place) (values : List ℤ) (l' : Place) (e' : List ℤ)
    → IsSegment f (place.Mark k) e next values → Takes (IsSegment f) (suc n) (place.Mark k) e l' e'
    → GoesOnOrStops (is_same_place next (place.Mark k)) (Takes (IsSegment f) n next values l' e') ((l' ≡ next) × (e' ≡ values))
follows_segment f formed n k e next values l' e' segment takes =
    let same = next_place_is_determined f formed (place.Mark k) e takes.0 next takes.1 values takes.2 segment in
    let at_place : GoesOnOrStops (is_same_place next (place.Mark k)) (Takes (IsSegment f) n next takes.1 l' e') ((l' ≡ next) × (e' ≡ takes.1)) =
    subst (λ (z : Place). GoesOnOrStops (is_same_place z (place.Mark k)) (Takes (IsSegment f) n z takes.1 l' e') ((l' ≡ z) × (e' ≡ takes.1))) same.0 takes.3 in
    subst (λ (z : List ℤ). GoesOnOrStops (is_same_place next (place.Mark k)) (Takes (IsSegment f) n next z l' e') ((l' ≡ next) × (e' ≡ z))) same.1 at_place

pub stops_elsewhere : StopsElsewhere
stops_elsewhere f formed n k e next values l' e' segment other =
    let away = is_another_place next k other in (
      λ takes. subst (λ (z : Bool). GoesOnOrStops z (Takes (IsSegment f) n next values l' e') ((l' ≡ next) × (e' ≡ values))) away
          (follows_segment f formed n k e next values l' e' segment takes),
      λ there. (
        next,
        values,
        segment,
        subst (λ (z : Bool). GoesOnOrStops z (Takes (IsSegment f) n next values l' e') ((l' ≡ next) × (e' ≡ values))) (sym away) there,
      ),
    )

pub goes_on_at_its_mark : GoesOnAtItsMark
goes_on_at_its_mark f formed n k e values l' e' segment =
    let again = mark_is_itself k (eqb k k) refl in (
      λ takes. subst (λ (z : Bool). GoesOnOrStops z (Takes (IsSegment f) n (place.Mark k) values l' e') ((l' ≡ place.Mark k) × (e' ≡ values))) again
          (follows_segment f formed n k e (place.Mark k) values l' e' segment takes),
      λ on. (
        place.Mark k,
        values,
        segment,
        subst (λ (z : Bool). GoesOnOrStops z (Takes (IsSegment f) n (place.Mark k) values l' e') ((l' ≡ place.Mark k) × (e' ≡ values))) (sym again) on,
      ),
    )

-- ---- the entries

module _ (Segment : Place → List ℤ → Place → List ℤ → Type 0)
    (no_entry : (l : Place) (e : List ℤ) (l' : Place) (e' : List ℤ) → Segment l e l' e' → ¬ (l' ≡ place.Entry)) where
  leaves_entry : (again : Bool) (l l' : Place) (e e' : List ℤ) (A : Type 0) → ¬ (l ≡ place.Entry) → (A → ¬ (l' ≡ place.Entry))
      → GoesOnOrStops again A ((l' ≡ l) × (e' ≡ e)) → ¬ (l' ≡ place.Entry)
  leaves_entry true l l' e e' A away on is same = on is same
  leaves_entry false l l' e e' A away on is same = away (sym is.0 ∙ same)

  pub takes_no_entry : (n : ℕ) (l : Place) (e : List ℤ) (l' : Place) (e' : List ℤ) → Takes Segment n l e l' e' → (l ≡ place.Entry → 0 < n)
      → ¬ (l' ≡ place.Entry)
  takes_no_entry zero l e l' e' takes some same = absurd (omega (arith, some (sym takes.0 ∙ same)))
  takes_no_entry (suc n) place.Exit e l' e' takes some same = let out : place.Exit ≡ place.Entry = sym takes.0 ∙ same in cc
  takes_no_entry (suc n) place.Entry e l' e' takes some same =
      takes_no_entry n takes.0 takes.1 l' e' takes.3 (λ back. absurd (no_entry place.Entry e takes.0 takes.1 takes.2 back)) same
  takes_no_entry (suc n) (place.Mark k) e l' e' takes some same =
      leaves_entry (is_same_place takes.0 (place.Mark k)) takes.0 l' takes.1 e' (Takes Segment n takes.0 takes.1 l' e')
      (no_entry (place.Mark k) e takes.0 takes.1 takes.2)
      (λ on. takes_no_entry n takes.0 takes.1 l' e' on (λ back. absurd (no_entry (place.Mark k) e takes.0 takes.1 takes.2 back)))
      takes.3 same

pub entries_are_not_met : EntriesAreNotMet
entries_are_not_met f g alignment place.Entry place.Entry d e l' r' d' e' moves same =
    takes_no_entry (IsSegment f) (entry_is_not_met f) (counts_at (counts_of alignment) place.Entry place.Entry).0 place.Entry d l' d' moves.first
    (λ at. omega arith) same.0
entries_are_not_met f g alignment place.Entry (place.Mark k) d e l' r' d' e' moves same =
    takes_no_entry (IsSegment g) (entry_is_not_met g) (counts_at (counts_of alignment) place.Entry (place.Mark k)).1 (place.Mark k) e r' e' moves.second
    (λ at. cc) same.1
entries_are_not_met f g alignment place.Entry place.Exit d e l' r' d' e' moves same =
    takes_no_entry (IsSegment g) (entry_is_not_met g) (counts_at (counts_of alignment) place.Entry place.Exit).1 place.Exit e r' e' moves.second
    (λ at. cc) same.1
entries_are_not_met f g alignment (place.Mark k) r d e l' r' d' e' moves same =
    takes_no_entry (IsSegment f) (entry_is_not_met f) (counts_at (counts_of alignment) (place.Mark k) r).0 (place.Mark k) d l' d' moves.first (λ at. cc) same.0
entries_are_not_met f g alignment place.Exit r d e l' r' d' e' moves same =
    takes_no_entry (IsSegment f) (entry_is_not_met f) (counts_at (counts_of alignment) place.Exit r).0 place.Exit d l' d' moves.first (λ at. cc) same.0
