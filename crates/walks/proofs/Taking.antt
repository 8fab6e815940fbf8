-- What a side takes of its trace is what it takes of its function.
use Rattle.std.proofs.Common.{◌≡◌, ℕ, zero, suc, ◌<◌, ◌≤◌, Bool, true, false, cond, not, List, [], ◌∷◌, length, ℤ, refl, sym, subst, arith}
use Rattle.std.specs.Prelude.{slice_get}
use Rattle.std.proofs.lemmas.Bool.{ltb-true, ltb-false}
use Rattle.c_ast.specs.declared.place.Place.{Place}
use Rattle.c_ast.specs.declared.place.Place.TheVariants as place
use Rattle.c_ast.specs.declared.trace.Event.{Event}
use Rattle.c_ast.specs.declared.trace.Trace.{Trace}
use Rattle.c_ast.specs.Place.{is_same_place}
use Rattle.c_ast.specs.Tree.{Program}
use Rattle.c_ast.specs.Segment.{IsSegment}
use Rattle.c_ast.specs.Passing.{LeadsThrough}
use Rattle.alignment.specs.Moves.{GoesOnOrStops, Takes}
use Rattle.walks.specs.Side.{place_of, place_at, values_of, values_at, is_exit, leaves_mark, taken}
use Rattle.walks.proofs.Places.{exit_place, not_exit}

-- ---- the number of the place at which a side stops

on_by : (out leaving : Bool) (i j : ℕ) → suc i ≤ j → i ≤ cond out i (cond leaving (suc i) j)
on_by true leaving i j later = omega arith
on_by false true i j later = omega arith
on_by false false i j later = omega arith

-- No side steps back.
pub taken_on : (trace : Trace) (n i : ℕ) → i ≤ taken trace n i
taken_on trace zero i = omega arith
taken_on trace (suc n) i =
    on_by (is_exit trace i) (leaves_mark (place_at trace i) (place_at trace (suc i))) i (taken trace n (suc i)) (taken_on trace n (suc i))

moved_by : (out leaving : Bool) (i j : ℕ) → out ≡ false → suc i ≤ j → i < cond out i (cond leaving (suc i) j)
moved_by true leaving i j inside later = cc
moved_by false true i j inside later = omega arith
moved_by false false i j inside later = omega arith

-- A side with a count that is not at the exit takes a segment.
pub taken_moves : (trace : Trace) (n i : ℕ) → 0 < n → is_exit trace i ≡ false → i < taken trace n i
taken_moves trace zero i some inside = absurd (omega arith)
taken_moves trace (suc n) i some inside =
    moved_by (is_exit trace i) (leaves_mark (place_at trace i) (place_at trace (suc i))) i (taken trace n (suc i)) inside (taken_on trace n (suc i))

-- A place with a number up to that of the last mark is not the exit.
pub within : (trace : Trace) (i : ℕ) → i ≤ length trace.events → (out : Bool) → is_exit trace i ≡ out → is_exit trace i ≡ false
within trace i inside true is = absurd (omega (arith, ltb-true (length trace.events) i is))
within trace i inside false is = is

-- One turn of the loop that takes segments: where the side may take more and the segment does not leave a mark, it goes on behind it.
pub taken_goes_on : (trace : Trace) (m n i j : ℕ) → m ≡ suc n → j ≡ suc i → i ≤ length trace.events
    → leaves_mark (place_at trace i) (place_at trace j) ≡ false → taken trace n j ≡ taken trace m i
taken_goes_on trace m n i j more behind inside stays =
    rw (more, behind) (
    let stays' = subst (λ (k : ℕ). leaves_mark (place_at trace i) (place_at trace k) ≡ false) behind stays in
    rw (within trace i inside (is_exit trace i) refl, stays') refl
    )

-- A side with a count leaves its entry.
pub leaves_entry : (trace : Trace) (n : ℕ) → 0 < n → 0 < taken trace n 0
leaves_entry trace n some = taken_moves trace n 0 some (within trace 0 (omega arith) (is_exit trace 0) refl)

-- ---- segments between the places

module _ (f : Program) where
  first_segment : (l : Place) (e : List ℤ) (events : List Event) (result : ℤ) → LeadsThrough f l e events result
      → IsSegment f l e (place_of (slice_get events 0)) (values_of result (slice_get events 0))
  first_segment l e [] result leads = leads
  first_segment l e (event ∷ events) result leads = leads.0

  later_segment : (l : Place) (e : List ℤ) (events : List Event) (result : ℤ) (i : ℕ) → LeadsThrough f l e events result → i < length events
      → IsSegment f (place_of (slice_get events i)) (values_of result (slice_get events i)) (place_of (slice_get events (suc i)))
      (values_of result (slice_get events (suc i)))
  later_segment l e [] result i leads inside = absurd (omega arith)
  later_segment l e (event ∷ events) result zero leads inside = first_segment (place.Mark event.mark) event.values events result leads.1
  later_segment l e (event ∷ events) result (suc i) leads inside =
      later_segment (place.Mark event.mark) event.values events result i leads.1 (omega arith)

  -- ---- what a side takes

  -- At the exit a side stays.
  stays_out : (n : ℕ) (l : Place) (e : List ℤ) → l ≡ place.Exit → Takes (IsSegment f) (suc n) l e l e
  stays_out n place.Entry e out = cc
  stays_out n (place.Mark k) e out = cc
  stays_out n place.Exit e out = (refl, refl)

  stops_or_goes_on : (n : ℕ) (same leaving : Bool) (m : Place) (d : List ℤ) (i j : ℕ) (input : List ℤ) (trace : Trace)
      → m ≡ place_at trace i → d ≡ values_at input trace i → leaving ≡ not same
      → Takes (IsSegment f) n (place_at trace i) (values_at input trace i) (place_at trace j) (values_at input trace j)
      → GoesOnOrStops same
      (Takes (IsSegment f) n m d (place_at trace (cond leaving i j)) (values_at input trace (cond leaving i j)))
      ((place_at trace (cond leaving i j) ≡ m) × (values_at input trace (cond leaving i j) ≡ d))
  stops_or_goes_on n true leaving m d i j input trace there with leaves others = rw (leaves, there, with) others
  stops_or_goes_on n false leaving m d i j input trace there with leaves others = rw leaves (sym there, sym with)

  module _ (input : List ℤ) (trace : Trace) (leads : LeadsThrough f place.Entry input trace.events trace.result) where
    -- The segment from a place of the trace, which is not the exit, ends at the next place.
    pub segment_at : (i : ℕ) → is_exit trace i ≡ false
        → IsSegment f (place_at trace i) (values_at input trace i) (place_at trace (suc i)) (values_at input trace (suc i))
    segment_at zero inside = first_segment place.Entry input trace.events trace.result leads
    segment_at (suc i) inside =
        later_segment place.Entry input trace.events trace.result i leads (omega (arith, ltb-false (length trace.events) (suc i) inside))

    abbrev TakesTo : ℕ → ℕ → ℕ → Type 0
    TakesTo n i j = Takes (IsSegment f) n (place_at trace i) (values_at input trace i) (place_at trace j) (values_at input trace j)

    -- From a place that is the entry, or a mark, by the segment there.
    from_place : (n i : ℕ) (l : Place) (e : List ℤ) → (l ≡ place.Exit → ⊥)
        → IsSegment f l e (place_at trace (suc i)) (values_at input trace (suc i)) → TakesTo n (suc i) (taken trace n (suc i))
        → Takes (IsSegment f) (suc n) l e (place_at trace (cond (leaves_mark l (place_at trace (suc i))) (suc i) (taken trace n (suc i))))
        (values_at input trace (cond (leaves_mark l (place_at trace (suc i))) (suc i) (taken trace n (suc i))))
    from_place n i place.Entry e inside segment others = (place_at trace (suc i), values_at input trace (suc i), segment, others)
    from_place n i (place.Mark k) e inside segment others = (
      place_at trace (suc i),
      values_at input trace (suc i),
      segment,
      stops_or_goes_on n (is_same_place (place_at trace (suc i)) (place.Mark k)) (not (is_same_place (place_at trace (suc i)) (place.Mark k)))
          (place_at trace (suc i)) (values_at input trace (suc i)) (suc i) (taken trace n (suc i)) input trace refl refl refl others,
    )
    from_place n i place.Exit e inside segment others = absurd (inside refl)

    by_exit : (n i : ℕ) (out : Bool) → is_exit trace i ≡ out → TakesTo n (suc i) (taken trace n (suc i))
        → TakesTo (suc n) i (cond out i (cond (leaves_mark (place_at trace i) (place_at trace (suc i))) (suc i) (taken trace n (suc i))))
    by_exit n i true is others = stays_out n (place_at trace i) (values_at input trace i) (exit_place trace i is)
    by_exit n i false is others = from_place n i (place_at trace i) (values_at input trace i) (not_exit trace i is) (segment_at i is) others

    -- The place at which a side stops in its trace is the one to which its function's segments take it.
    pub taken_takes : (n i : ℕ) → TakesTo n i (taken trace n i)
    taken_takes zero i = (refl, refl)
    taken_takes (suc n) i = by_exit n i (is_exit trace i) refl (taken_takes n (suc i))
