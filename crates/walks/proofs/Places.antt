-- The places of a trace, by their numbers.
use Rattle.std.proofs.Common.{◌≡◌, ℕ, zero, suc, ◌<◌, ◌↔◌, true, false, List, [], ◌∷◌, length, Option, Some, None, ℤ, refl, ap, arith}
use Rattle.std.specs.Prelude.{slice_get}
use Rattle.std.proofs.lemmas.Bool.{ltb-true, ltb-false}
use Rattle.std.proofs.lemmas.Option.{slice_get_past}
use Rattle.c_ast.specs.declared.place.Place.TheVariants as place
use Rattle.c_ast.specs.declared.trace.Event.{Event}
use Rattle.c_ast.specs.declared.trace.Trace.{Trace}
use Rattle.walks.specs.Side.{place_of, place_at, values_of, values_at, is_exit}

-- ---- by the number of the event

pub place_at_entry : (trace : Trace) (i : ℕ) → i ≡ 0 → place_at trace i ≡ place.Entry
place_at_entry trace i is = rw is refl

pub place_behind : (trace : Trace) (i : ℕ) (j : ℕ) → i ≡ suc j → place_at trace i ≡ place_of (slice_get trace.events j)
place_behind trace i j is = rw is refl

pub values_at_entry : (input : List ℤ) (trace : Trace) (i : ℕ) → i ≡ 0 → values_at input trace i ≡ input
values_at_entry input trace i is = rw is refl

pub values_behind : (input : List ℤ) (trace : Trace) (i : ℕ) (j : ℕ) → i ≡ suc j → values_at input trace i ≡ values_of trace.result (slice_get trace.events j)
values_behind input trace i j is = rw is refl

-- ---- the entry

no_entry : (event : Option Event) → place_of event ≡ place.Entry → ⊥
no_entry None same = cc
no_entry (Some event) same = cc

pub not_entry : (trace : Trace) (i : ℕ) → place_at trace (suc i) ≡ place.Entry → ⊥
not_entry trace i same = no_entry (slice_get trace.events i) same

-- The entry is the place with the number 0 alone.
pub entry_is_first : (trace : Trace) (i : ℕ) → (place_at trace i ≡ place.Entry) ↔ (i ≡ 0)
entry_is_first trace zero = (λ same. refl, λ first. refl)
entry_is_first trace (suc i) = (λ same. absurd (not_entry trace i same), λ first. absurd (omega arith))

-- ---- the exit

pub exit_place : (trace : Trace) (i : ℕ) → is_exit trace i ≡ true → place_at trace i ≡ place.Exit
exit_place trace zero out = absurd (omega (arith, ltb-true (length trace.events) zero out))
exit_place trace (suc i) out =
    let past = slice_get_past trace.events i (omega (arith, ltb-true (length trace.events) (suc i) out)) in
    ap place_of past

pub exit_values : (input : List ℤ) (trace : Trace) (i : ℕ) → is_exit trace i ≡ true → values_at input trace i ≡ trace.result ∷ []
exit_values input trace zero out = absurd (omega (arith, ltb-true (length trace.events) zero out))
exit_values input trace (suc i) out =
    let past = slice_get_past trace.events i (omega (arith, ltb-true (length trace.events) (suc i) out)) in
    ap (values_of trace.result) past

mark_inside : (events : List Event) (i : ℕ) → i < length events → place_of (slice_get events i) ≡ place.Exit → ⊥
mark_inside [] i inside out = absurd (omega arith)
mark_inside (event ∷ events) zero inside out = cc
mark_inside (event ∷ events) (suc i) inside out = mark_inside events i (omega arith) out

pub not_exit : (trace : Trace) (i : ℕ) → is_exit trace i ≡ false → place_at trace i ≡ place.Exit → ⊥
not_exit trace zero is out = cc
not_exit trace (suc i) is out = mark_inside trace.events i (omega (arith, ltb-false (length trace.events) (suc i) is)) out
