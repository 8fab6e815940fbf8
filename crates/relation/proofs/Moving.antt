-- Where runs return, the moves of an alignment end, and some side moves.
use Rattle.std.proofs.Common.{◌≡◌, ℕ, zero, suc, ◌+◌, ◌<◌, ◌≤◌, Bool, true, false, ◌⊎◌, inl, inr, List, [], ◌∷◌, length, ℤ, refl, arith}
use Rattle.c_ast.specs.declared.place.Place.{Place}
use Rattle.c_ast.specs.declared.place.Place.TheVariants as place
use Rattle.c_ast.specs.declared.trace.Event.{Event}
use Rattle.c_ast.specs.Place.{is_same_place}
use Rattle.c_ast.specs.Tree.{Program}
use Rattle.c_ast.specs.Segment.{FitsPlace, IsSegment}
use Rattle.c_ast.specs.Passing.{LeadsThrough}
use Rattle.c_ast.proofs.Laws.{meets_fitting_values}
use Rattle.alignment.specs.Counts.{counts_of, counts_at}
use Rattle.alignment.specs.Moves.{GoesOnOrStops, Takes}
use Rattle.alignment.specs.Number.{IsAlignment}
use Rattle.alignment.specs.Laws.{IsMoving}
use Rattle.alignment.proofs.Laws.{some_side_moves}

-- From the place `l` with the values `e`, as many as are in scope there, n segments lead to the exit with the result.
abbrev pub LeadsOut : Program → Place → List ℤ → ℕ → ℤ → Type 0
LeadsOut f l e zero result = (l ≡ place.Exit) × (e ≡ result ∷ [])
LeadsOut f l e (suc n) result = FitsPlace f l e × (l' : Place) × (e' : List ℤ) × IsSegment f l e l' e' × LeadsOut f l' e' n result

-- What leads through marks leads out, by one segment more than there are marks.
pub leads_out : (f : Program) (l : Place) (e : List ℤ) (events : List Event) (result : ℤ) → FitsPlace f l e → LeadsThrough f l e events result
    → LeadsOut f l e (suc (length events)) result
leads_out f l e [] result fits leads = (fits, place.Exit, result ∷ [], leads, (refl, refl))
leads_out f l e (event ∷ events) result fits leads = (
  fits,
  place.Mark event.mark,
  event.values,
  leads.0,
  leads_out f (place.Mark event.mark) event.values events result (meets_fitting_values f l e (place.Mark event.mark) event.values leads.0) leads.1,
)

-- How many segments are sure to be taken of at most n.
abbrev pub sure : ℕ → Place → ℕ
sure zero l = 0
sure (suc n) place.Entry = 1
sure (suc n) (place.Mark k) = 1
sure (suc n) place.Exit = 0

-- The side takes its segments, and what is left of the run's segments, fewer by those that are sure, leads out.
pub record TakesSome (f : Program) (n : ℕ) (l : Place) (e : List ℤ) (segments : ℕ) (result : ℤ) : Type 0 where
  pub place_met : Place
  pub values_there : List ℤ
  pub takes : Takes (IsSegment f) n l e place_met values_there
  pub left : ℕ
  pub leads : LeadsOut f place_met values_there left result
  pub fewer : left + sure n l ≤ segments

-- By the test of the place where a segment ended, a side goes on or stops there. What is left of the run leads out.
record TakesMore (f : Program) (n : ℕ) (again : Bool) (l : Place) (e : List ℤ) (segments : ℕ) (result : ℤ) : Type 0 where
  pub place_met : Place
  pub values_there : List ℤ
  pub takes : GoesOnOrStops again (Takes (IsSegment f) n l e place_met values_there) ((place_met ≡ l) × (values_there ≡ e))
  pub left : ℕ
  pub leads : LeadsOut f place_met values_there left result
  pub fewer : left ≤ segments

module _ (f : Program) (result : ℤ) where
  takes_more : (n : ℕ) (again : Bool) (l : Place) (e : List ℤ) (segments : ℕ) → LeadsOut f l e segments result
      → TakesSome f n l e segments result → TakesMore f n again l e segments result
  takes_more n true l e segments leads goes = record {
    place_met = goes.place_met;
    values_there = goes.values_there;
    takes = goes.takes;
    left = goes.left;
    leads = goes.leads;
    fewer = omega (arith, goes.fewer);
  }
  takes_more n false l e segments leads goes =
      record { place_met = l; values_there = e; takes = (refl, refl); left = segments; leads = leads; fewer = omega arith }

  -- Where segments lead out, those that a side takes are some of them.
  pub takes_some : (n : ℕ) (l : Place) (e : List ℤ) (segments : ℕ) → LeadsOut f l e segments result
      → TakesSome f n l e segments result
  takes_some zero l e segments leads =
      record { place_met = l; values_there = e; takes = (refl, refl); left = segments; leads = leads; fewer = omega arith }
  takes_some (suc n) place.Exit e segments leads =
      record { place_met = place.Exit; values_there = e; takes = (refl, refl); left = segments; leads = leads; fewer = omega arith }
  takes_some (suc n) place.Entry e zero leads = cc
  takes_some (suc n) place.Entry e (suc m) leads =
      let goes = takes_some n leads.1 leads.2 m leads.4 in
      record {
        place_met = goes.place_met;
        values_there = goes.values_there;
        takes = (leads.1, leads.2, leads.3, goes.takes);
        left = goes.left;
        leads = goes.leads;
        fewer = omega (arith, goes.fewer);
      }
  takes_some (suc n) (place.Mark k) e zero leads = cc
  takes_some (suc n) (place.Mark k) e (suc m) leads =
      let goes = takes_more n (is_same_place leads.1 (place.Mark k)) leads.1 leads.2 m leads.4 (takes_some n leads.1 leads.2 m leads.4) in
      record {
        place_met = goes.place_met;
        values_there = goes.values_there;
        takes = (leads.1, leads.2, leads.3, goes.takes);
        left = goes.left;
        leads = goes.leads;
        fewer = omega (arith, goes.fewer);
      }

-- ---- some side moves

sure_to_move : (n : ℕ) (l : Place) → IsMoving n l → 0 < sure n l
sure_to_move zero l moving = moving.0
sure_to_move (suc n) place.Entry moving = omega arith
sure_to_move (suc n) (place.Mark k) moving = omega arith
sure_to_move (suc n) place.Exit moving = absurd (moving.1 refl)

some_is_sure : (m n : ℕ) (l r : Place) → IsMoving m l ⊎ IsMoving n r → 0 < sure m l + sure n r
some_is_sure m n l r (inl moving) = let some = sure_to_move m l moving in omega (arith, some)
some_is_sure m n l r (inr moving) = let some = sure_to_move n r moving in omega (arith, some)

-- At every node but the two exits some side is sure to take a segment.
pub some_moves : (alignment : ℕ) (l r : Place) → IsAlignment alignment → ¬ ((l ≡ place.Exit) × (r ≡ place.Exit))
    → 0 < sure (counts_at (counts_of alignment) l r).0 l + sure (counts_at (counts_of alignment) l r).1 r
some_moves alignment l r named away =
    some_is_sure (counts_at (counts_of alignment) l r).0 (counts_at (counts_of alignment) l r).1 l r (some_side_moves alignment l r named away)
