-- Walks lead from the entries to the exits, by the moves of the functions whose traces they follow.
use Rattle.std.proofs.Common.{◌≡◌, ◌≢◌, ℕ, zero, suc, ◌+◌, ◌<◌, Bool, true, false, cond, List, [], ◌∷◌, length, map, refl, sym, ap, subst, arith}
use Rattle.std.proofs.lemmas.List.{length-map}
use Rattle.c_ast.specs.declared.trace.Pair.{Pair}
use Rattle.c_ast.specs.Tree.{Program}
use Rattle.c_ast.proofs.Laws.{trace_is_segments}
use Rattle.alignment.specs.Number.{IsAlignment}
use Rattle.horn_clauses.specs.declared.node.Node.{Node}
use Rattle.horn_clauses.specs.Node.{exits}
use Rattle.walks.specs.declared.position.Position.{Position}
use Rattle.walks.specs.declared.spot.Spot.{Spot}
use Rattle.walks.specs.Walk.{position, node_at, spot, spot_at, counts_there, next_position, is_at_exits, positions_from, positions_of, walk_of}
use Rattle.walks.specs.Laws.{LeadsOn, IsWalk, AnyStep, WalksEndAtExits, WalksAreShort, HaveTraces, MovesTo, WalksFollowMoves}
use Rattle.walks.proofs.Places.{exit_place, exit_values}
use Rattle.walks.proofs.Taking.{taken_takes}
use Rattle.walks.proofs.Reaching.{ahead, away_from_exits, out_at_exits, less_ahead, few_positions}
use Rattle.walks.proofs.Fitting.{traces_fit, positions_fit}

-- At both exits the results are the values.
at_exits : (pair : Pair) (at : Position) → is_at_exits pair at ≡ true → spot_at pair at ≡ spot exits (pair.first.result ∷ []) (pair.second.result ∷ [])
at_exits pair at is =
    let out = out_at_exits pair at is in
    let l = exit_place pair.first at.first out.0 in
    let r = exit_place pair.second at.second out.1 in
    let d = exit_values pair.input pair.first at.first out.0 in
    let e = exit_values pair.input pair.second at.second out.1 in
    rw (l, r, d, e) refl

not_exits : (pair : Pair) (at : Position) → is_at_exits pair at ≡ false → node_at pair at ≢ exits
not_exits pair at is same = away_from_exits pair at is (ap (λ (n : Node). n.0) same, ap (λ (n : Node). n.1) same)

-- Where the spots of two positions, the second after a move from the first, are always a step, the walk is one of steps.
module _ (alignment : ℕ) (named : IsAlignment alignment) (pair : Pair) (Step : Spot → Spot → Type 0)
    (steps : (at : Position) → Step (spot_at pair at) (spot_at pair (next_position alignment pair at))) where
  abbrev Leads : Spot → List Spot → Type 0
  Leads s spots = LeadsOn Step pair.first.result pair.second.result s spots

  -- The spots begin with this one and lead on to the exits.
  abbrev LeadsFrom : Spot → List Spot → Type 0
  LeadsFrom s [] = ⊥
  LeadsFrom s (t ∷ spots) = (t ≡ s) × Leads t spots

  step_to : (at : Position) (spots : List Spot) → is_at_exits pair at ≡ false → LeadsFrom (spot_at pair (next_position alignment pair at)) spots
      → Leads (spot_at pair at) spots
  step_to at [] is leads = absurd leads
  step_to at (t ∷ spots) is leads =
      (not_exits pair at is, subst (λ (z : Spot). Step (spot_at pair at) z) (sym leads.0) (steps at), leads.1)

  leads_from : (n : ℕ) (at : Position) → ahead pair at < n → LeadsFrom (spot_at pair at) (map (spot_at pair) (positions_from alignment pair n at))
  leads_from zero at few = absurd (omega arith)
  leads_from (suc n) at few = (refl, by (is_at_exits pair at) refl (λ few'. leads_from n (next_position alignment pair at) few'))
    where
      by : (end : Bool) → is_at_exits pair at ≡ end
          → (ahead pair (next_position alignment pair at) < n → LeadsFrom (spot_at pair (next_position alignment pair at))
          (map (spot_at pair) (positions_from alignment pair n (next_position alignment pair at))))
          → Leads (spot_at pair at) (map (spot_at pair) (cond end [] (positions_from alignment pair n (next_position alignment pair at))))
      by true is later = at_exits pair at is
      by false is later =
          let less = less_ahead alignment named pair at is in
          step_to at (map (spot_at pair) (positions_from alignment pair n (next_position alignment pair at))) is (later (omega (arith, less)))

  begins : (spots : List Spot) → LeadsFrom (spot_at pair (position 0 0)) spots
      → IsWalk Step pair.input pair.first.result pair.second.result spots
  begins [] leads = leads
  begins (s ∷ spots) leads = leads

  pub is_walk : IsWalk Step pair.input pair.first.result pair.second.result (walk_of alignment pair)
  is_walk =
      begins (walk_of alignment pair)
      (leads_from (length pair.first.events + length pair.second.events + 3) (position 0 0) (omega arith))

pub walks_end_at_exits : WalksEndAtExits
walks_end_at_exits alignment pair named = is_walk alignment named pair AnyStep (λ at. tt)

pub walks_are_short : WalksAreShort
walks_are_short alignment pair named =
    let same = length-map (positions_of alignment pair) (spot_at pair) in
    let few = few_positions alignment named pair in
    omega (arith, same, few)

-- ---- the moves of two functions

moves_to : (f g : Program) (alignment : ℕ) (pair : Pair) → HaveTraces f g pair
    → (at : Position) → MovesTo f g alignment (spot_at pair at) (spot_at pair (next_position alignment pair at))
moves_to f g alignment pair have at =
    let first = (trace_is_segments f pair.input pair.first have.first_formed have.first_arity).0 have.first in
    let second = (trace_is_segments g pair.input pair.second have.second_formed have.second_arity).0 have.second in
    record {
      fits = positions_fit f g pair (traces_fit f g pair have) at;
      moves = record {
        first = taken_takes f pair.input pair.first first (counts_there alignment pair at).0 at.first;
        second = taken_takes g pair.input pair.second second (counts_there alignment pair at).1 at.second;
      };
    }

pub walks_follow_moves : WalksFollowMoves
walks_follow_moves f g alignment pair named have =
    is_walk alignment named pair (MovesTo f g alignment) (moves_to f g alignment pair have)
