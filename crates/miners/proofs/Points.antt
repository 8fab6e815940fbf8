-- The points at a node: whose they are, and how long.
use Rattle.std.proofs.Common.{◌≡◌, ℕ, ◌+◌, Bool, true, false, cond, inl, inr, List, [], ◌∷◌, ◌++◌, length, length-append, ℤ, refl, sym, ap, ◌∙◌, subst}
use Rattle.std.specs.Prelude.{All, Contains}
use Rattle.std.proofs.lemmas.List.Elements.{All-contains}
use Rattle.c_ast.specs.declared.trace.Pair.{Pair}
use Rattle.c_ast.specs.Tree.{Program}
use Rattle.c_ast.specs.Formed.{IsProgram}
use Rattle.c_ast.specs.Segment.{FitsPlace}
use Rattle.c_ast.proofs.Laws.{fitting_values_are_as_many}
use Rattle.horn_clauses.specs.declared.node.Node.{Node}
use Rattle.horn_clauses.specs.Node.{is_same_node}
use Rattle.horn_clauses.proofs.Laws.{law_of_nodes}
use Rattle.walks.specs.declared.spot.Spot.{Spot}
use Rattle.walks.specs.Walk.{walk_of}
use Rattle.walks.specs.Laws.{FitsSpot, FitsFunctions}
use Rattle.walks.proofs.Laws.{values_fit}
use Rattle.miners.specs.Candidates.{points_among, points_at}
use Rattle.miners.specs.Laws.{ArePart, PointsHaveOneLength}
use Rattle.miners.proofs.Listings.{IsOneOf, one_of, contains, each_of, each_one, some_part, in_parts}

-- A spot of the list at the node, with the point as its values.
abbrev HasSpot : Node → List Spot → List ℤ → Type 0
HasSpot node spots point = (s : Spot) × IsOneOf s spots × (s.node ≡ node) × (point ≡ s.first ++ s.second)

spot_of : (node : Node) (spots : List Spot) (point : List ℤ) → IsOneOf point (points_among node spots) → HasSpot node spots point
spot_of node [] point h = absurd h
spot_of node (s ∷ spots) point h = by (is_same_node s.node node) refl h (spot_of node spots point)
  where
    later : HasSpot node spots point → HasSpot node (s ∷ spots) point
    later r = (r.0, inr r.1, r.2, r.3)

    by : (same : Bool) → is_same_node s.node node ≡ same
        → IsOneOf point (cond same ((s.first ++ s.second) ∷ points_among node spots) (points_among node spots))
        → (IsOneOf point (points_among node spots) → HasSpot node spots point) → HasSpot node (s ∷ spots) point
    by true is (inl one) others = (s, inl refl, (law_of_nodes s.node node).0 is, one)
    by true is (inr one) others = later (others one)
    by false is one others = later (others one)

-- ---- points of some pairs are points of more

pub points_of_more : (alignment : ℕ) (node : Node) (pairs more : List Pair) → ArePart pairs more → (point : List ℤ)
    → IsOneOf point (points_at alignment node pairs) → IsOneOf point (points_at alignment node more)
points_of_more alignment node pairs more part point h =
    let r = some_part (λ pair. points_among node (walk_of alignment pair)) pairs point h in
    in_parts (λ pair. points_among node (walk_of alignment pair)) more point r.0
    (one_of more r.0 (All-contains (Contains more) pairs r.0 part (contains pairs r.0 r.1))) r.2

-- ---- their length

fitting_spot : (f g : Program) (alignment : ℕ) (pairs : List Pair) (node : Node) (point : List ℤ) → All (FitsFunctions f g) pairs
    → Contains (points_at alignment node pairs) point → (s : Spot) × FitsSpot f g s × (s.node ≡ node) × (point ≡ s.first ++ s.second)
fitting_spot f g alignment pairs node point fit has =
    let r = some_part (λ pair. points_among node (walk_of alignment pair)) pairs point (one_of (points_at alignment node pairs) point has) in
    let u = spot_of node (walk_of alignment r.0) point r.2 in
    let fits = All-contains (FitsFunctions f g) pairs r.0 fit (contains pairs r.0 r.1) in
    let all = values_fit f g alignment r.0 fits in
    (u.0, each_one (FitsSpot f g) (walk_of alignment r.0) u.0 u.1 (each_of (FitsSpot f g) (walk_of alignment r.0) all), u.2, u.3)

as_many : (f g : Program) → IsProgram f → IsProgram g → (s t : Spot) → FitsSpot f g s → FitsSpot f g t → s.node ≡ t.node
    → length (s.first ++ s.second) ≡ length (t.first ++ t.second)
as_many f g formed also s t fits others same =
    let first = fitting_values_are_as_many f formed t.node.0 s.first t.first (subst (λ (n : Node). FitsPlace f n.0 s.first) same fits.first) others.first in
    let second = fitting_values_are_as_many g also t.node.1 s.second t.second (subst (λ (n : Node). FitsPlace g n.1 s.second) same fits.second) others.second in
    length-append s.first s.second ∙ ap (λ (z : ℕ). z + length s.second) first ∙ ap (λ (z : ℕ). length t.first + z) second
    ∙ sym (length-append t.first t.second)

pub points_have_one_length : PointsHaveOneLength
points_have_one_length f g alignment pairs node point other formed also fit has too =
    let s = fitting_spot f g alignment pairs node point fit has in
    let t = fitting_spot f g alignment pairs node other fit too in
    ap length s.3 ∙ as_many f g formed also s.0 t.0 s.1 t.1 (s.2 ∙ sym t.2) ∙ sym (ap length t.3)
