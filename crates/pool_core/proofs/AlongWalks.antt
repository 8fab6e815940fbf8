-- A coupling holds at every spot of the walk of every pair.
use Rattle.std.proofs.Common.{◌≡◌, ℕ, Bool, true, false, cond, inl, inr, List, [], ◌∷◌, ◌++◌, length, Option, Some, ℤ, refl, sym, ap, ◌∙◌, subst}
use Rattle.std.specs.Prelude.{All, IsSomeAnd}
use Rattle.std.proofs.lemmas.List.Elements.{All-contains}
use Rattle.c_ast.specs.declared.trace.Pair.{Pair}
use Rattle.c_ast.specs.Tree.{Expression, Program}
use Rattle.c_ast.specs.Condition.{Meets}
use Rattle.alignment.specs.Number.{IsAlignment}
use Rattle.horn_clauses.specs.declared.atom.Atom.{Atom}
use Rattle.horn_clauses.specs.declared.node.Node.{Node}
use Rattle.horn_clauses.specs.declared.family.Family.{Family}
use Rattle.horn_clauses.specs.Atom.{AtomHolds}
use Rattle.horn_clauses.specs.Node.{is_same_node, entries}
use Rattle.horn_clauses.specs.Family.{atoms_at}
use Rattle.horn_clauses.specs.Equalities.{equal_parameters}
use Rattle.horn_clauses.proofs.Laws.{law_of_nodes, parameters_are_equal}
use Rattle.walks.specs.declared.spot.Spot.{Spot}
use Rattle.walks.specs.Walk.{walk_of}
use Rattle.walks.specs.Laws.{LeadsOn, IsWalk, MovesTo, HaveTraces}
use Rattle.walks.proofs.Laws.{walks_follow_moves}
use Rattle.relation.specs.Coupling.{IsInFamily, IsCoupling}
use Rattle.miners.specs.Candidates.{points_among, points_at}
use Rattle.pool_core.proofs.Listings.{Each, IsOneOf, contains, some_part}

-- The pair has the traces of both functions on an input that meets the condition.
pub record IsRun (f g : Program) (condition : Expression) (pair : Pair) : Type 0 where
  pub traces : HaveTraces f g pair
  pub meets : Meets condition pair.input

module _ (f g : Program) (condition : Expression) (alignment : ℕ) (family : Family) (coupling : IsCoupling f g condition alignment family) where
  abbrev IsInside : Spot → Type 0
  IsInside s = IsInFamily condition family s.node s.first s.second

  -- Moves keep to the family, up to the exits.
  inside_on : (v w : ℤ) (s : Spot) (spots : List Spot) → LeadsOn (MovesTo f g alignment) v w s spots → IsInside s
      → Each IsInside (s ∷ spots)
  inside_on v w s [] leads inside = (inside, tt)
  inside_on v w s (t ∷ spots) leads inside = (
    inside,
    inside_on v w t spots leads.2
        (coupling.kept s.node.0 s.node.1 t.node.0 t.node.1 s.first s.second t.first t.second leads.0 leads.1.fits.first leads.1.fits.second
        inside leads.1.moves),
  )

  at_entries_inside : (input : List ℤ) → length input ≡ f.params → Meets condition input → IsInFamily condition family entries input input
  at_entries_inside input arity meets = record {
    inside = subst (λ (z : Option (List Atom)). IsSomeAnd z (All (λ atom. AtomHolds atom (input ++ input)))) (sym coupling.at_entries)
        (subst (λ (k : ℕ). All (λ atom. AtomHolds atom (input ++ input)) (equal_parameters k)) arity ((parameters_are_equal input input refl).1 refl));
    meets = λ same. meets;
  }

  inside_walk : (input : List ℤ) (v w : ℤ) (spots : List Spot) → length input ≡ f.params → Meets condition input
      → IsWalk (MovesTo f g alignment) input v w spots → Each IsInside spots
  inside_walk input v w [] arity meets walk = absurd walk
  inside_walk input v w (s ∷ spots) arity meets walk =
      inside_on v w s spots walk.1 (subst IsInside (sym walk.0) (at_entries_inside input arity meets))

  inside_along : IsAlignment alignment → (pair : Pair) → IsRun f g condition pair → Each IsInside (walk_of alignment pair)
  inside_along named pair run =
      inside_walk pair.input pair.first.result pair.second.result (walk_of alignment pair) run.traces.first_arity run.meets
      (walks_follow_moves f g alignment pair named run.traces)

  -- ---- at the points of a node

  all_of_some : (found : Option (List Atom)) (atoms : List Atom) (P : Atom → Type 0) → found ≡ Some atoms → IsSomeAnd found (All P) → All P atoms
  all_of_some found atoms P is all = let there : IsSomeAnd (Some atoms) (All P) = subst (λ (z : Option (List Atom)). IsSomeAnd z (All P)) is all in there

  holds_among : (n : Node) (atoms : List Atom) → atoms_at family n ≡ Some atoms → (spots : List Spot) → Each IsInside spots
      → (point : List ℤ) → IsOneOf point (points_among n spots) → All (λ atom. AtomHolds atom point) atoms
  holds_among n atoms there [] inside point one = absurd one
  holds_among n atoms there (s ∷ spots) inside point one = by (is_same_node s.node n) refl one (holds_among n atoms there spots inside.1 point)
    where
      Holding : Type 0
      Holding = All (λ atom. AtomHolds atom point) atoms

      by : (same : Bool) → is_same_node s.node n ≡ same
          → IsOneOf point (cond same ((s.first ++ s.second) ∷ points_among n spots) (points_among n spots))
          → (IsOneOf point (points_among n spots) → Holding) → Holding
      by true is (inl here) later =
          let found = ap (atoms_at family) ((law_of_nodes s.node n).0 is) ∙ there in
          let all = all_of_some (atoms_at family s.node) atoms (λ atom. AtomHolds atom (s.first ++ s.second)) found inside.0.inside in
          subst (λ (p : List ℤ). All (λ atom. AtomHolds atom p) atoms) (sym here) all
      by true is (inr one) later = later one
      by false is one later = later one

  -- The family's atoms hold wherever the walks of pairs meet their node.
  pub atoms_hold : IsAlignment alignment → (pairs : List Pair) → All (IsRun f g condition) pairs → (n : Node) (atoms : List Atom)
      → atoms_at family n ≡ Some atoms → (point : List ℤ) → IsOneOf point (points_at alignment n pairs) → All (λ atom. AtomHolds atom point) atoms
  atoms_hold named pairs runs n atoms there point one =
      let found = some_part (λ pair. points_among n (walk_of alignment pair)) pairs point one in
      let run = All-contains (IsRun f g condition) pairs found.0 runs (contains pairs found.0 found.1) in
      holds_among n atoms there (walk_of alignment found.0) (inside_along named found.0 run) point found.2
