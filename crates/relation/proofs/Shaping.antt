-- Lists that are compared one element after the other.
use Rattle.std.proofs.Common.{◌≡◌, ℕ, zero, suc, ◌+◌, ◌<◌, ◌≤◌, List, [], length, map, take, get_or, refl, sym, ap, ◌∙◌, subst, arith}
use Rattle.std.specs.Prelude.{All}
use Rattle.std.proofs.lemmas.List.{length-map, same_lists, get_or-map, take_all}
use Rattle.flow_graph.specs.FlowGraph.{FlowGraph}
use Rattle.horn_clauses.specs.declared.atom.Atom.{Atom}
use Rattle.horn_clauses.specs.declared.clause.Product.{Product}
use Rattle.horn_clauses.specs.declared.family.Family.{Family}
use Rattle.horn_clauses.specs.declared.node.Node.{Node}
use Rattle.horn_clauses.specs.Equalities.{equality_at, equalities_from, equal_parameters}
use Rattle.horn_clauses.specs.Obligations.{FitsNode}
use Rattle.relation.specs.Linear.{node_width, HasShape}

-- ---- the nodes of a family

abbrev Entry : Type 0
Entry = Node × List Atom

-- The family lists the node here, with atoms over the values there.
abbrev pub Lists : FlowGraph → FlowGraph → Entry → Node → Type 0
Lists first second entry n = (entry.0 ≡ n) × All (FitsNode (node_width first second n)) entry.1

-- The first so many entries do.
abbrev pub ListsAll : FlowGraph → FlowGraph → List Entry → List Node → ℕ → Type 0
ListsAll first second listed nodes count =
    (k : ℕ) (d : Entry) (e : Node) → k < count → Lists first second (get_or listed k d) (get_or nodes k e)

-- So it has the product's nodes, where there are no more of either.
pub shape_of : (first second : FlowGraph) (product : Product) (family : Family) (count : ℕ) → length family.nodes ≡ length product.nodes
    → length family.nodes ≤ count → ListsAll first second family.nodes product.nodes count → HasShape first second product family
shape_of first second product family count long past lists =
    let listed : List Entry = family.nodes in
    let nodes : List Node = product.nodes in
    record {
      nodes = same_lists (map (λ (entry : Entry). entry.0) listed) nodes (length-map listed (λ (entry : Entry). entry.0) ∙ long)
          (λ k d below.
          let inside : k < length listed = omega (arith, below, length-map listed (λ (entry : Entry). entry.0)) in
          get_or-map (λ (entry : Entry). entry.0) listed k (d, []) d inside ∙ (lists k (d, []) d (omega (arith, inside, past))).0);
      atoms = λ k d inside.
          let here = lists k d d.0 (omega (arith, inside, past)) in
          subst (λ (n : Node). All (FitsNode (node_width first second n)) (get_or listed k d).1) (sym here.0) here.1;
    }
