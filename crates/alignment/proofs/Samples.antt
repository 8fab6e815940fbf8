-- The counts at each kind of node, of the alignment with p = 1, q = 0, a = 2 and b = 1, and what a side takes.
use Rattle.std.proofs.Common.{◌≡◌, cond, eqb, List, ℤ, refl, subst}
use Rattle.c_ast.specs.declared.place.Place.{Place}
use Rattle.c_ast.specs.declared.place.Place.TheVariants as place
use Rattle.c_ast.specs.Place.{is_same_place}
use Rattle.alignment.specs.Counts.{counts_at}
use Rattle.alignment.specs.Moves.{GoesOnOrStops, Takes}

at_entries : counts_at (1, 0, 2, 1) place.Entry place.Entry ≡ (2, 1)
at_entries = refl

at_one_mark : counts_at (1, 0, 2, 1) (place.Mark 7) (place.Mark 7) ≡ (2, 1)
at_one_mark = refl

first_mark_is_lower : counts_at (1, 0, 2, 1) (place.Mark 7) (place.Mark 8) ≡ (1, 0)
first_mark_is_lower = refl

second_mark_is_lower : counts_at (1, 0, 2, 1) (place.Mark 8) (place.Mark 7) ≡ (0, 1)
second_mark_is_lower = refl

first_is_out : counts_at (1, 0, 2, 1) place.Exit (place.Mark 7) ≡ (0, 1)
first_is_out = refl

second_is_out : counts_at (1, 0, 2, 1) (place.Mark 7) place.Exit ≡ (1, 0)
second_is_out = refl

both_are_out : counts_at (1, 0, 2, 1) place.Exit place.Exit ≡ (0, 0)
both_are_out = refl

-- ---- a side stops where it leaves its mark

-- Segments lead from the entry to mark 7, from there to mark 8, and from every other mark to the exit. The values stay.
abbrev Segment : Place → List ℤ → Place → List ℤ → Type 0
Segment place.Entry e l' e' = (l' ≡ place.Mark 7) × (e' ≡ e)
Segment (place.Mark k) e l' e' = (l' ≡ cond (eqb k 7) (place.Mark 8) place.Exit) × (e' ≡ e)
Segment place.Exit e l' e' = ⊥

-- Of three segments the side takes one, for that ends at another mark.
stops : (e : List ℤ) → Takes Segment 3 (place.Mark 7) e (place.Mark 8) e
stops e = (place.Mark 8, e, (refl, refl), (refl, refl))

-- It does not come to the place behind that.
stays_there : (e : List ℤ) → ¬ Takes Segment 3 (place.Mark 7) e place.Exit e
stays_there e takes =
    let stopped : GoesOnOrStops (is_same_place (place.Mark 8) (place.Mark 7)) (Takes Segment 2 (place.Mark 8) takes.1 place.Exit e)
    ((place.Exit ≡ place.Mark 8) × (e ≡ takes.1)) =
    subst (λ (z : Place). GoesOnOrStops (is_same_place z (place.Mark 7)) (Takes Segment 2 z takes.1 place.Exit e) ((place.Exit ≡ z) × (e ≡ takes.1)))
    takes.2.0 takes.3 in
    let out = stopped.0 in cc

-- A segment from the entry does not stop it.
goes_on : (e : List ℤ) → Takes Segment 2 place.Entry e (place.Mark 8) e
goes_on e = (place.Mark 7, e, (refl, refl), (place.Mark 8, e, (refl, refl), (refl, refl)))
