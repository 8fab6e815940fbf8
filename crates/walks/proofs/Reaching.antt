-- Positions go on to both exits: at each before them some side moves.
use Rattle.std.proofs.Common.{◌≡◌, ℕ, zero, suc, ◌+◌, ◌-◌, ◌<◌, ◌≤◌, ◌↔◌, Bool, true, false, cond, ◌&&◌, ◌⊎◌, inl, inr, List, [], ◌∷◌, ◌++◌, length, refl, sym, ap, ◌∙◌, subst, append_assoc, arith}
use Rattle.std.proofs.lemmas.Bool.{ltb-false}
use Rattle.c_ast.specs.declared.place.Place.TheVariants as place
use Rattle.c_ast.specs.declared.trace.Trace.{Trace}
use Rattle.c_ast.specs.declared.trace.Pair.{Pair}
use Rattle.alignment.specs.Number.{IsAlignment}
use Rattle.alignment.specs.Laws.{IsMoving}
use Rattle.alignment.proofs.Laws.{some_side_moves}
use Rattle.walks.specs.declared.position.Position.{Position}
use Rattle.walks.specs.Side.{place_at, is_exit, taken}
use Rattle.walks.specs.Walk.{position, counts_there, next_position, is_at_exits, positions_from, positions_of}
use Rattle.walks.proofs.Places.{entry_is_first, exit_place, not_exit}
use Rattle.walks.proofs.Taking.{taken_on, taken_moves, leaves_entry}

-- ---- how far it is to the exits

-- How many places lie before the side's exit.
abbrev pub to_go : Trace → ℕ → ℕ
to_go trace i = (length trace.events + 1) - i

-- How many places of both sides lie before the exits.
abbrev pub ahead : Pair → Position → ℕ
ahead pair at = to_go pair.first at.first + to_go pair.second at.second

not_out : (trace : Trace) (i : ℕ) → ¬ (place_at trace i ≡ place.Exit) → (out : Bool) → is_exit trace i ≡ out → is_exit trace i ≡ false
not_out trace i away true is = absurd (away (exit_place trace i is))
not_out trace i away false is = is

less_to_go : (trace : Trace) (n i : ℕ) → IsMoving n (place_at trace i) → to_go trace (taken trace n i) < to_go trace i
less_to_go trace n i moving =
    let inside = not_out trace i moving.1 (is_exit trace i) refl in
    let on = taken_moves trace n i moving.0 inside in
    let below = ltb-false (length trace.events) i inside in
    omega (arith, on, below)

no_more_to_go : (trace : Trace) (n i : ℕ) → to_go trace (taken trace n i) ≤ to_go trace i
no_more_to_go trace n i = let on = taken_on trace n i in omega (arith, on)

one_inside : (a b : Bool) → (a && b) ≡ false → (a ≡ false) ⊎ (b ≡ false)
one_inside true b is = inr is
one_inside false b is = inl refl

not_both_out : (pair : Pair) (at : Position) → (is_exit pair.first at.first ≡ false) ⊎ (is_exit pair.second at.second ≡ false)
    → ¬ ((place_at pair.first at.first ≡ place.Exit) × (place_at pair.second at.second ≡ place.Exit))
not_both_out pair at (inl inside) both = not_exit pair.first at.first inside both.0
not_both_out pair at (inr inside) both = not_exit pair.second at.second inside both.1

-- A position whose sides are not both at the exit is not at both exits.
pub away_from_exits : (pair : Pair) (at : Position) → is_at_exits pair at ≡ false
    → ¬ ((place_at pair.first at.first ≡ place.Exit) × (place_at pair.second at.second ≡ place.Exit))
away_from_exits pair at is = not_both_out pair at (one_inside (is_exit pair.first at.first) (is_exit pair.second at.second) is)

both : (a b : Bool) → (a && b) ≡ true → (a ≡ true) × (b ≡ true)
both true b is = (refl, is)
both false b is = cc

-- At both exits each side is at its exit.
pub out_at_exits : (pair : Pair) (at : Position) → is_at_exits pair at ≡ true
    → (is_exit pair.first at.first ≡ true) × (is_exit pair.second at.second ≡ true)
out_at_exits pair at is = both (is_exit pair.first at.first) (is_exit pair.second at.second) is

module _ (alignment : ℕ) (named : IsAlignment alignment) (pair : Pair) where
  less_by : (at : Position) → IsMoving (counts_there alignment pair at).0 (place_at pair.first at.first)
      ⊎ IsMoving (counts_there alignment pair at).1 (place_at pair.second at.second)
      → ahead pair (next_position alignment pair at) < ahead pair at
  less_by at (inl moving) =
      let less = less_to_go pair.first (counts_there alignment pair at).0 at.first moving in
      let no_more = no_more_to_go pair.second (counts_there alignment pair at).1 at.second in
      omega (arith, less, no_more)
  less_by at (inr moving) =
      let less = less_to_go pair.second (counts_there alignment pair at).1 at.second moving in
      let no_more = no_more_to_go pair.first (counts_there alignment pair at).0 at.first in
      omega (arith, less, no_more)

  -- A move leaves less ahead.
  pub less_ahead : (at : Position) → is_at_exits pair at ≡ false → ahead pair (next_position alignment pair at) < ahead pair at
  less_ahead at is =
      less_by at (some_side_moves alignment (place_at pair.first at.first) (place_at pair.second at.second) named (away_from_exits pair at is))

  -- ---- how many positions there are

  few_from : (n : ℕ) (at : Position) → length (positions_from alignment pair n at) ≤ suc (ahead pair at)
  few_from zero at = omega arith
  few_from (suc n) at = by (is_at_exits pair at) refl (few_from n (next_position alignment pair at))
    where
      by : (end : Bool) → is_at_exits pair at ≡ end
          → length (positions_from alignment pair n (next_position alignment pair at)) ≤ suc (ahead pair (next_position alignment pair at))
          → length (at ∷ cond end [] (positions_from alignment pair n (next_position alignment pair at))) ≤ suc (ahead pair at)
      by true is few = omega arith
      by false is few = let less = less_ahead at is in omega (arith, less, few)

  abbrev after_entries : Position
  after_entries = next_position alignment pair (position 0 0)

  -- Both sides leave their entries at once.
  ahead_of_marks : ahead pair after_entries ≤ length pair.first.events + length pair.second.events
  ahead_of_marks =
      let first = leaves_entry pair.first (counts_there alignment pair (position 0 0)).0 (omega arith) in
      let second = leaves_entry pair.second (counts_there alignment pair (position 0 0)).1 (omega arith) in
      omega (arith, first, second)

  few_by : (m n : ℕ) → m ≡ suc n
      → length (positions_from alignment pair m (position 0 0)) ≤ length pair.first.events + length pair.second.events + 2
  few_by m n is = rw is (by (is_at_exits pair (position 0 0)) (few_from n after_entries))
    where
      by : (end : Bool) → length (positions_from alignment pair n after_entries) ≤ suc (ahead pair after_entries)
          → length (position 0 0 ∷ cond end [] (positions_from alignment pair n after_entries))
          ≤ length pair.first.events + length pair.second.events + 2
      by true few = omega arith
      by false few = omega (arith, few, ahead_of_marks)

  pub few_positions : length (positions_of alignment pair) ≤ length pair.first.events + length pair.second.events + 2
  few_positions =
      few_by (length pair.first.events + length pair.second.events + 3) (length pair.first.events + length pair.second.events + 2) (omega arith)

-- ---- one turn of the loop that lists the positions

-- These positions, and at most so many from this one on, are all of the walk.
pub record AreLeft (alignment : ℕ) (pair : Pair) (made : List Position) (at : Position) : Type 0 where
  pub turns : ℕ
  pub enough : ahead pair at < turns
  pub all : made ++ positions_from alignment pair turns at ≡ positions_of alignment pair

pub all_are_left : (alignment : ℕ) (pair : Pair) → AreLeft alignment pair [] (position 0 0)
all_are_left alignment pair =
    record { turns = length pair.first.events + length pair.second.events + 3; enough = omega arith; all = refl }

left_by : (alignment : ℕ) (pair : Pair) (made : List Position) (at : Position) (n : ℕ) → IsAlignment alignment → is_at_exits pair at ≡ false
    → ahead pair at < n → made ++ positions_from alignment pair n at ≡ positions_of alignment pair
    → AreLeft alignment pair (made ++ at ∷ []) (next_position alignment pair at)
left_by alignment pair made at zero named is enough all = absurd (omega arith)
left_by alignment pair made at (suc n) named is enough all =
    let less = less_ahead alignment named pair at is in
    let here : positions_from alignment pair (suc n) at ≡ at ∷ positions_from alignment pair n (next_position alignment pair at) =
    ap (λ (z : Bool). at ∷ cond z [] (positions_from alignment pair n (next_position alignment pair at))) is in
    record {
      turns = n;
      enough = omega (arith, less);
      all = append_assoc made (at ∷ []) (positions_from alignment pair n (next_position alignment pair at))
          ∙ ap (λ (z : List Position). made ++ z) (sym here) ∙ all;
    }

pub left_after_move : (alignment : ℕ) (pair : Pair) (made more : List Position) (at next : Position) → IsAlignment alignment → is_at_exits pair at ≡ false
    → next ≡ next_position alignment pair at → more ≡ made ++ at ∷ [] → AreLeft alignment pair made at → AreLeft alignment pair more next
left_after_move alignment pair made more at next named is moved pushed left =
    let there : AreLeft alignment pair (made ++ at ∷ []) (next_position alignment pair at) =
    left_by alignment pair made at left.turns named is left.enough left.all in
    let there' = subst (λ (z : Position). AreLeft alignment pair (made ++ at ∷ []) z) (sym moved) there in
    subst (λ (z : List Position). AreLeft alignment pair z next) (sym pushed) there'

last_by : (alignment : ℕ) (pair : Pair) (made : List Position) (at : Position) (n : ℕ) → is_at_exits pair at ≡ true
    → ahead pair at < n → made ++ positions_from alignment pair n at ≡ positions_of alignment pair → made ++ at ∷ [] ≡ positions_of alignment pair
last_by alignment pair made at zero is enough all = absurd (omega arith)
last_by alignment pair made at (suc n) is enough all =
    let here : positions_from alignment pair (suc n) at ≡ at ∷ [] =
    ap (λ (z : Bool). at ∷ cond z [] (positions_from alignment pair n (next_position alignment pair at))) is in
    ap (λ (z : List Position). made ++ z) (sym here) ∙ all

-- At both exits the position is the last one.
pub last_at_exits : (alignment : ℕ) (pair : Pair) (made : List Position) (at : Position) → is_at_exits pair at ≡ true
    → AreLeft alignment pair made at → made ++ at ∷ [] ≡ positions_of alignment pair
last_at_exits alignment pair made at is left = last_by alignment pair made at left.turns is left.enough left.all

-- ---- both sides leave their entries at once

-- One side is at its entry exactly where the other is.
abbrev pub BeginTogether : Position → Type 0
BeginTogether at = (at.first ≡ 0) ↔ (at.second ≡ 0)

pub entries_together : (pair : Pair) (at : Position) → BeginTogether at
    → (place_at pair.first at.first ≡ place.Entry) ↔ (place_at pair.second at.second ≡ place.Entry)
entries_together pair at together = (
  λ is. (entry_is_first pair.second at.second).1 (together.0 ((entry_is_first pair.first at.first).0 is)),
  λ is. (entry_is_first pair.first at.first).1 (together.1 ((entry_is_first pair.second at.second).0 is)),
)

both_behind : (i j : ℕ) → 0 < i → 0 < j → BeginTogether (position i j)
both_behind i j first second = (λ is. absurd (omega arith), λ is. absurd (omega arith))

moved_together : (alignment : ℕ) (pair : Pair) (i j : ℕ) → BeginTogether (position i j)
    → BeginTogether (next_position alignment pair (position i j))
moved_together alignment pair zero zero together =
    let at = position 0 0 in
    let first = leaves_entry pair.first (counts_there alignment pair at).0 (omega arith) in
    let second = leaves_entry pair.second (counts_there alignment pair at).1 (omega arith) in
    both_behind (taken pair.first (counts_there alignment pair at).0 0) (taken pair.second (counts_there alignment pair at).1 0) first second
moved_together alignment pair zero (suc j) together = absurd (omega (arith, together.0 refl))
moved_together alignment pair (suc i) zero together = absurd (omega (arith, together.1 refl))
moved_together alignment pair (suc i) (suc j) together =
    let at = position (suc i) (suc j) in
    let first = taken_on pair.first (counts_there alignment pair at).0 (suc i) in
    let second = taken_on pair.second (counts_there alignment pair at).1 (suc j) in
    both_behind (taken pair.first (counts_there alignment pair at).0 (suc i)) (taken pair.second (counts_there alignment pair at).1 (suc j))
    (omega (arith, first)) (omega (arith, second))

pub together_after_move : (alignment : ℕ) (pair : Pair) (at next : Position) → next ≡ next_position alignment pair at → BeginTogether at → BeginTogether next
together_after_move alignment pair at next moved together =
    subst BeginTogether (sym moved) (moved_together alignment pair at.first at.second together)
