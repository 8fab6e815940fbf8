-- A coupling of candidates of some pairs is of candidates of more.
use Rattle.std.proofs.Common.{◌≡◌, ℕ, Bool, true, false, inl, inr, List, [], ◌∷◌, length, map, Option, Some, None, ℤ, refl, sym, subst, arith}
use Rattle.std.specs.Prelude.{All, Contains, IsSomeAnd, ◌↔◌, ◌≢◌}
use Rattle.std.proofs.lemmas.List.Elements.{All-nil, All-contains, Contains-get_or, All-weaker}
use Rattle.c_ast.specs.declared.trace.Pair.{Pair}
use Rattle.c_ast.specs.Comparison.{Comparison, IsComparison, condition_of}
use Rattle.c_ast.specs.Function.{program_of}
use Rattle.alignment.specs.Number.{IsAlignment}
use Rattle.horn_clauses.specs.declared.atom.Atom.{Atom}
use Rattle.horn_clauses.specs.declared.atom.Atom.TheVariants.{False}
use Rattle.horn_clauses.specs.declared.node.Node.{Node}
use Rattle.horn_clauses.specs.declared.family.Family.{Family}
use Rattle.horn_clauses.specs.Atom.{AtomHolds}
use Rattle.horn_clauses.specs.Node.{is_same_node, entries}
use Rattle.horn_clauses.specs.Family.{atoms_at}
use Rattle.path_product.specs.Agreement.{AreOrdered}
use Rattle.walks.specs.Laws.{FitsFunctions}
use Rattle.walks.proofs.Laws.{traces_fit}
use Rattle.relation.specs.Coupling.{IsCoupling}
use Rattle.miners.specs.Template.{AtomStandsBefore, AreRising}
use Rattle.miners.specs.Candidates.{points_at, candidates_at, constants_for}
use Rattle.miners.specs.Laws.{ArePart}
use Rattle.miners.proofs.Laws.{unmet_nodes_have_none, more_pairs_add_none, candidates_are_in_order, points_have_one_length, law_of_bound_constants}
use Rattle.pool_core.proofs.Listings.{IsOneOf, contains, one_of, each_of, all_of, each_from, each_one, listed_of}
use Rattle.miners.proofs.Laws.{before_asymmetric}
use Rattle.houdini.specs.Within.{IsSublist, candidates_or_false}
use Rattle.pool_core.specs.Candidates.{IsOfCandidates}
use Rattle.pool_core.proofs.Drawn.{one_of_drawn, drawn_again, first_entry}
use Rattle.pool_core.proofs.AlongWalks.{IsRun, atoms_hold}

-- ---- one width

record HasWidth (points : List (List ℤ)) : Type 0 where
  pub width : ℕ
  pub all : All (λ point. length point ≡ width) points

one_width : (points : List (List ℤ)) → ((p q : List ℤ) → Contains points p → Contains points q → length p ≡ length q) → HasWidth points
one_width [] same = record { width = 0; all = All-nil (λ (point : List ℤ). length point ≡ 0) }
one_width (q ∷ points) same = record {
  width = length q;
  all = λ k d inside. same _ q (Contains-get_or (q ∷ points) k d inside) (0, omega arith, refl);
}

-- ---- what `false` alone leaves

-- Some of `false` alone, all of which hold somewhere, is nothing.
nothing_drawn : (atoms : List Atom) (point : List ℤ) → IsSublist atoms (False ∷ []) → All (λ atom. AtomHolds atom point) atoms → atoms ≡ []
nothing_drawn [] point drawn holds = refl
nothing_drawn (atom ∷ atoms) point (inl same) holds =
    let here : AtomHolds atom point = holds 0 False (omega arith) in
    absurd (subst (λ (a : Atom). AtomHolds a point) same.0 here)
nothing_drawn (atom ∷ atoms) point (inr drawn) holds = absurd drawn

module _ (subject : Comparison) (good : IsComparison subject) (alignment : ℕ) (named : IsAlignment alignment) (family : Family)
    (coupling : IsCoupling (program_of subject.first) (program_of subject.second) (condition_of subject) alignment family)
    (pairs more : List Pair) (part : ArePart pairs more)
    (runs : All (IsRun (program_of subject.first) (program_of subject.second) (condition_of subject)) more) where
  rising : AreRising (constants_for subject)
  rising = (law_of_bound_constants (program_of subject.first) (program_of subject.second)).rising

  fit : All (FitsFunctions (program_of subject.first) (program_of subject.second)) more
  fit = All-weaker (IsRun (program_of subject.first) (program_of subject.second) (condition_of subject))
      (FitsFunctions (program_of subject.first) (program_of subject.second))
      (λ pair run. traces_fit (program_of subject.first) (program_of subject.second) pair run.traces) more runs

  width_at_points : (n : Node) → HasWidth (points_at alignment n more)
  width_at_points n = one_width (points_at alignment n more)
      (λ p q. points_have_one_length (program_of subject.first) (program_of subject.second) alignment more n p q good.first good.second fit)

  holding : (n : Node) (atoms : List Atom) → atoms_at family n ≡ Some atoms → (point : List ℤ) → IsOneOf point (points_at alignment n more)
      → All (λ atom. AtomHolds atom point) atoms
  holding n atoms there point one =
      atoms_hold (program_of subject.first) (program_of subject.second) (condition_of subject) alignment family coupling named more runs n atoms there point one

  abbrev candidates : List Pair → Node → Option (List Atom)
  candidates some n = candidates_at alignment (constants_for subject) subject.first.params some n

  -- At a node that the first pairs meet.
  drawn_of_met : (n : Node) → n ≢ entries → (atoms : List Atom) → atoms_at family n ≡ Some atoms → (had : List Atom)
      → candidates pairs n ≡ Some had → IsSublist atoms had → IsSublist atoms (candidates_or_false (candidates more n))
  drawn_of_met n away atoms there had is drawn = by (candidates more n) refl
      (more_pairs_add_none alignment (constants_for subject) subject.first.params pairs more n (width_at_points n).width had away part
      (width_at_points n).all is)
    where
      AreLeft : List Atom → Type 0
      AreLeft left = (atom : Atom) → Contains left atom ↔ (Contains had atom × All (AtomHolds atom) (points_at alignment n more))

      by : (found : Option (List Atom)) → candidates more n ≡ found → IsSomeAnd found AreLeft → IsSublist atoms (candidates_or_false found)
      by None same left = absurd left
      by (Some others) same left =
          drawn_again AtomStandsBefore before_asymmetric atoms had others drawn
          (listed_of AtomStandsBefore had (candidates_are_in_order alignment (constants_for subject) subject.first.params pairs n had rising is))
          (listed_of AtomStandsBefore others (candidates_are_in_order alignment (constants_for subject) subject.first.params more n others rising same))
          (λ atom one. one_of others atom ((left atom).1 (
            contains had atom (one_of_drawn atoms had drawn atom one),
            all_of (AtomHolds atom) (points_at alignment n more) (each_from (AtomHolds atom) (points_at alignment n more)
                (λ point met. All-contains (λ (a : Atom). AtomHolds a point) atoms atom (holding n atoms there point met) (contains atoms atom one))),
          )))

  -- At a node that they do not meet.
  drawn_of_unmet : (n : Node) → n ≢ entries → (atoms : List Atom) → atoms_at family n ≡ Some atoms → IsSublist atoms (False ∷ [])
      → IsSublist atoms (candidates_or_false (candidates more n))
  drawn_of_unmet n away atoms there drawn = by (points_at alignment n more) refl
    where
      by : (points : List (List ℤ)) → points_at alignment n more ≡ points → IsSublist atoms (candidates_or_false (candidates more n))
      by [] none =
          subst (λ (found : Option (List Atom)). IsSublist atoms (candidates_or_false found))
          (sym ((unmet_nodes_have_none alignment (constants_for subject) subject.first.params more n).1 (away, none))) drawn
      by (point ∷ points) some =
          let met : IsOneOf point (points_at alignment n more) = subst (IsOneOf point) (sym some) (inl refl) in
          subst (λ (z : List Atom). IsSublist z (candidates_or_false (candidates more n)))
          (sym (nothing_drawn atoms point drawn (holding n atoms there point met))) tt

  drawn_elsewhere : (n : Node) → n ≢ entries → (atoms : List Atom) → atoms_at family n ≡ Some atoms
      → IsSublist atoms (candidates_or_false (candidates pairs n)) → IsSublist atoms (candidates_or_false (candidates more n))
  drawn_elsewhere n away atoms there drawn = by (candidates pairs n) refl drawn
    where
      by : (found : Option (List Atom)) → candidates pairs n ≡ found → IsSublist atoms (candidates_or_false found)
          → IsSublist atoms (candidates_or_false (candidates more n))
      by None is some = drawn_of_unmet n away atoms there some
      by (Some had) is some = drawn_of_met n away atoms there had is some

  drawn_at : (n : Node) (atoms : List Atom) → atoms_at family n ≡ Some atoms → IsSublist atoms (candidates_or_false (candidates pairs n))
      → IsSublist atoms (candidates_or_false (candidates more n))
  drawn_at n atoms there drawn = by (is_same_node n entries) refl (drawn_elsewhere n)
    where
      by : (same : Bool) → is_same_node n entries ≡ same
          → (n ≢ entries → (others : List Atom) → atoms_at family n ≡ Some others
          → IsSublist others (candidates_or_false (candidates pairs n)) → IsSublist others (candidates_or_false (candidates more n)))
          → IsSublist atoms (candidates_or_false (candidates more n))
      by true is else_drawn = rw is (rw is at drawn)
      by false is else_drawn = else_drawn (λ same. cc) atoms there drawn

  pub more_pairs : AreOrdered (map (λ entry. entry.0) family.nodes) → IsOfCandidates subject alignment pairs family
      → IsOfCandidates subject alignment more family
  more_pairs ordered are = record {
    at_entries = are.at_entries;
    drawn = all_of (λ entry. IsSublist entry.1 (candidates_or_false (candidates more entry.0))) family.nodes
        (each_from (λ entry. IsSublist entry.1 (candidates_or_false (candidates more entry.0))) family.nodes
        (λ entry one. drawn_at entry.0 entry.1 (first_entry family.nodes ordered entry one)
        (each_one (λ entry. IsSublist entry.1 (candidates_or_false (candidates pairs entry.0))) family.nodes entry one
        (each_of (λ entry. IsSublist entry.1 (candidates_or_false (candidates pairs entry.0))) family.nodes are.drawn))));
  }
