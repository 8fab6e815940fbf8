-- What one side does at a node, and what both do, over the segments of each.
use Rattle.std.specs.Prelude.{◌≡◌, ℕ, zero, suc, Bool, true, false, List, ℤ}
use Rattle.c_ast.specs.declared.place.Place.{Place}
use Rattle.c_ast.specs.declared.place.Place.TheVariants as place
use Rattle.c_ast.specs.Place.{is_same_place}
use Rattle.alignment.specs.Counts.{counts_of, counts_at}

-- After a segment from a mark a side goes on where it ended at that mark again, and stops where it ended elsewhere.
abbrev pub GoesOnOrStops : Bool → Type 0 → Type 0 → Type 0
GoesOnOrStops true goes_on stops = goes_on
GoesOnOrStops false goes_on stops = stops

-- The side takes n segments, one after another, from the place `l` with the values `e`, and then stands at `l'` with
-- `e'`. It stops before that at the exit, and where a segment that began at a mark ends at another place.
abbrev pub Takes : (Place → List ℤ → Place → List ℤ → Type 0) → ℕ → Place → List ℤ → Place → List ℤ → Type 0
Takes Segment zero l e l' e' = (l' ≡ l) × (e' ≡ e)
Takes Segment (suc n) place.Exit e l' e' = (l' ≡ place.Exit) × (e' ≡ e)
Takes Segment (suc n) place.Entry e l' e' =
    (next : Place) × (values : List ℤ) × Segment place.Entry e next values × Takes Segment n next values l' e'
Takes Segment (suc n) (place.Mark k) e l' e' =
    (next : Place) × (values : List ℤ) × Segment (place.Mark k) e next values
    × GoesOnOrStops (is_same_place next (place.Mark k)) (Takes Segment n next values l' e')
    ((l' ≡ next) × (e' ≡ values))

-- At the node of the places `l` and `r`, where the values are `d` and `e`, both sides take their segments of the
-- alignment, and then stand at `l'` and `r'` with `d'` and `e'`.
pub record Moves (First Second : Place → List ℤ → Place → List ℤ → Type 0) (alignment : ℕ) (l r : Place) (d e : List ℤ)
    (l' r' : Place) (d' e' : List ℤ) : Type 0 where
  pub first : Takes First (counts_at (counts_of alignment) l r).0 l d l' d'
  pub second : Takes Second (counts_at (counts_of alignment) l r).1 r e r' e'
