-- Nodes that are met are both sides' places, and the ends of their clauses are met too.
use Rattle.std.proofs.Common.{◌≡◌, ◌≢◌, ◌↔◌, ℕ, ◌<◌, ◌⊎◌, inl, inr, true, List, [], map, All, refl, sym, ap, subst, ◌∙◌, arith}
use Rattle.std.specs.Prelude.{Ok}
use Rattle.alignment.specs.Counts.{counts_of, counts_at}
use Rattle.c_ast.specs.declared.place.Place.{Place}
use Rattle.c_ast.specs.declared.place.Place.TheVariants as place
use Rattle.lin_terms.specs.declared.row.Row.{Row}
use Rattle.horn_clauses.specs.declared.node.Node.{Node}
use Rattle.horn_clauses.specs.declared.clause.Clause.{Clause}
use Rattle.sym_paths.specs.Walk.{Path}
use Rattle.sym_paths.specs.Nodes.{End}
use Rattle.path_product.specs.declared.side.SidePath.{SidePath}
use Rattle.path_product.specs.declared.starts.Start.{Start}
use Rattle.path_product.specs.Coded.{path_of_side}
use Rattle.path_product.specs.Starts.{width_in}
use Rattle.path_product.specs.Fits.{FitsPath, FitStarts}
use Rattle.path_product.specs.Sides.{side_cases}
use Rattle.path_product.specs.Clauses.{clauses_of}
use Rattle.path_product.specs.Product.{is_among, moves_at, all_places, all_nodes}
use Rattle.path_product.specs.Queue.{IsMet}
use Rattle.path_product.proofs.PathsFit.{paths_fit, paths_end}
use Rattle.path_product.proofs.Places.{IsIn, in_all, all_in, in_pairs, among_in}
use Rattle.path_product.proofs.Coupling.{IsCoupled, clause_coupled}
use Rattle.path_product.proofs.Taken.{start_in}

-- the node is one of all
pub met_within : (first second : List Start) (n : Node) → IsMet first second n → is_among n (all_nodes first second) ≡ true
met_within first second n met =
    among_in n (all_nodes first second)
    (in_pairs n.0 n.1 (all_places first) (all_places second) (start_in first n.0 met.left) (start_in second n.1 met.right))

-- a side that is at the entry moves
left_moves : (alignment : ℕ) (l r : Place) → ((l ≡ place.Entry) ↔ (r ≡ place.Entry)) → (l ≢ place.Entry) ⊎ (0 < (counts_at (counts_of alignment) l r).0)
left_moves alignment place.Entry place.Entry same = inr (omega arith)
left_moves alignment place.Entry (place.Mark k) same = let never = same.0 refl in absurd cc
left_moves alignment place.Entry place.Exit same = let never = same.0 refl in absurd cc
left_moves alignment (place.Mark j) r same = inl (λ is. cc)
left_moves alignment place.Exit r same = inl (λ is. cc)

right_moves : (alignment : ℕ) (l r : Place) → ((l ≡ place.Entry) ↔ (r ≡ place.Entry)) → (r ≢ place.Entry) ⊎ (0 < (counts_at (counts_of alignment) l r).1)
right_moves alignment place.Entry place.Entry same = inr (omega arith)
right_moves alignment (place.Mark k) place.Entry same = let never = same.1 refl in absurd cc
right_moves alignment place.Exit place.Entry same = let never = same.1 refl in absurd cc
right_moves alignment l (place.Mark j) same = inl (λ is. cc)
right_moves alignment l place.Exit same = inl (λ is. cc)

module _ (first second : List Start) (first_fits : FitStarts first) (second_fits : FitStarts second) (alignment : ℕ) (conditions all : List (List Row))
    (n : Node) (met : IsMet first second n) (xs ys : List (Path End))
    (left : side_cases first (moves_at first second alignment all n).0 n.0 ≡ Ok xs)
    (right : side_cases second (moves_at first second alignment all n).1 n.1 ≡ Ok ys) where
  left_fit : All (FitsPath first (width_in first n.0)) xs
  left_fit = paths_fit first first_fits (moves_at first second alignment all n).0 n.0 met.left xs left

  right_fit : All (FitsPath second (width_in second n.1)) ys
  right_fit = paths_fit second second_fits (moves_at first second alignment all n).1 n.1 met.right ys right

  left_elsewhere : All (λ path. path.value.place ≢ place.Entry) xs
  left_elsewhere = paths_end first first_fits (moves_at first second alignment all n).0 n.0 (left_moves alignment n.0 n.1 met.entries) xs left

  right_elsewhere : All (λ path. path.value.place ≢ place.Entry) ys
  right_elsewhere = paths_end second second_fits (moves_at first second alignment all n).1 n.1 (right_moves alignment n.0 n.1 met.entries) ys right

  module _ (clauses : List Clause) (made : clauses_of n (width_in first n.0) (width_in second n.1) conditions xs ys ≡ Ok clauses) where
    end_is_met : (clause : Clause) → IsIn clause clauses → IsMet first second clause.to
    end_is_met clause has = on (clause_coupled n (width_in first n.0) (width_in second n.1) conditions xs ys clauses made clause has)
      where
        on : IsCoupled n (width_in first n.0) (width_in second n.1) conditions xs ys clause → IsMet first second clause.to
        on p = subst (λ (c : Clause). IsMet first second c.to) (sym p.is) (record {
          left = (in_all (FitsPath first (width_in first n.0)) xs left_fit p.x p.of_first).has;
          right = (in_all (FitsPath second (width_in second n.1)) ys right_fit p.y p.of_second).has;
          entries = (
            λ is. absurd (in_all (λ (path : Path End). path.value.place ≢ place.Entry) xs left_elsewhere p.x p.of_first is),
            λ is. absurd (in_all (λ (path : Path End). path.value.place ≢ place.Entry) ys right_elsewhere p.y p.of_second is),
          );
        })

    pub ends_are_met : All (λ clause. IsMet first second clause.to) clauses
    ends_are_met = all_in (λ (clause : Clause). IsMet first second clause.to) clauses end_is_met

-- the same of what the code has
module _ (first second : List Start) (first_fits : FitStarts first) (second_fits : FitStarts second) (alignment : ℕ) (conditions : List (List Row))
    (n : Node) (met : IsMet first second n) (counts : ℕ × ℕ) (counts_are : counts ≡ counts_at (counts_of alignment) n.0 n.1)
    (lefts rights : List SidePath) (left : side_cases first counts.0 n.0 ≡ Ok (map path_of_side lefts))
    (right : side_cases second counts.1 n.1 ≡ Ok (map path_of_side rights)) where
  pub coded_ends_are_met : (v w : ℕ) → v ≡ width_in first n.0 → w ≡ width_in second n.1 → (xs ys : List SidePath) → xs ≡ lefts → ys ≡ rights
      → (clauses : List Clause) → clauses_of n v w conditions (map path_of_side xs) (map path_of_side ys) ≡ Ok clauses
      → All (λ clause. IsMet first second clause.to) clauses
  coded_ends_are_met v w v_is w_is xs ys xs_are ys_are clauses made =
      ends_are_met first second first_fits second_fits alignment conditions [] n met (map path_of_side lefts) (map path_of_side rights)
      (ap (λ (z : ℕ × ℕ). side_cases first z.0 n.0) (sym counts_are) ∙ left) (ap (λ (z : ℕ × ℕ). side_cases second z.1 n.1) (sym counts_are) ∙ right)
      clauses (
      ap (λ (z : ℕ). clauses_of n z (width_in second n.1) conditions (map path_of_side lefts) (map path_of_side rights)) (sym v_is)
      ∙ ap (λ (z : ℕ). clauses_of n v z conditions (map path_of_side lefts) (map path_of_side rights)) (sym w_is)
      ∙ ap (λ (z : List SidePath). clauses_of n v w conditions (map path_of_side z) (map path_of_side rights)) (sym xs_are)
      ∙ ap (λ (z : List SidePath). clauses_of n v w conditions (map path_of_side xs) (map path_of_side z)) (sym ys_are) ∙ made
      )
