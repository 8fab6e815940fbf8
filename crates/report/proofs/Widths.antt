-- The labels at a node are as many as the values there, and the nodes of a product are of the two functions.
use Rattle.std.proofs.Common.{◌≡◌, ℕ, zero, suc, inl, inr, List, [], ◌∷◌, length, map, refl, sym, ap, ◌∙◌, subst, arith}
use Rattle.std.specs.Prelude.{All, AllPairs}
use Rattle.std.specs.List.{AllByRecursion}
use Rattle.std.proofs.lemmas.List.{length-append, length-map}
use Rattle.std.proofs.lemmas.List.Elements.{All-nil, All-cons, All-from_recursion, recursion_from_All}
use Rattle.c_ast.specs.declared.place.Place.{Place}
use Rattle.c_ast.specs.declared.place.Place.TheVariants as place
use Rattle.c_ast.specs.declared.place.Side.{Side}
use Rattle.c_ast.specs.declared.place.Side.TheVariants.{A, B}
use Rattle.c_ast.specs.Place.{ComesBefore}
use Rattle.c_ast.specs.Function.{Function, IsFunction, program_of}
use Rattle.c_ast.specs.Comparison.{Comparison, IsComparison}
use Rattle.flow_graph.specs.FlowGraph as flow
use Rattle.flow_graph.specs.FlowGraph.{FlowGraph, width_at, HasPlace}
use Rattle.flow_graph.specs.Built.{IsGraphOf}
use Rattle.horn_clauses.specs.declared.atom.Atom.{Atom}
use Rattle.horn_clauses.specs.declared.clause.Product.{Product}
use Rattle.horn_clauses.specs.declared.family.Family.{Family}
use Rattle.horn_clauses.specs.declared.node.Node.{Node}
use Rattle.horn_clauses.specs.Node.{StandsBefore}
use Rattle.horn_clauses.specs.Obligations.{FitsNode}
use Rattle.path_product.specs.Agreement.{AreOrdered, HasNode}
use Rattle.relation.specs.Coupled.{AreGraphs, IsProductOf}
use Rattle.relation.specs.Linear.{node_width, HasShape}
use Rattle.report.specs.Families.{label, labels_at, node_labels, variables_at}
use Rattle.report.specs.Fits.{IsPlaceOf, IsNodeOf, FitsEntry, FitsFamily}
use Rattle.report.proofs.Scopes.{in_scope}

-- ---- one place

module _ (side : Side) (f : Function) (formed : IsFunction f) (graph : FlowGraph) (of : IsGraphOf (program_of f) graph) where
  -- At a place from which a run goes on there is a label for each variable.
  listed : (l : Place) → flow.GoesOnAt graph l → length (map (label side f.vars) (variables_at f l)) ≡ length (flow.variables_at graph l)
  listed l goes =
      let is = (of.places l).0 goes in
      length-map (variables_at f l) (label side f.vars) ∙ sym (ap length (in_scope f formed l (flow.variables_at graph l) is (of.scopes l is)))

  -- There are as many labels as values.
  labels_are : (l : Place) → HasPlace graph l → length (labels_at side f l) ≡ width_at graph l
  labels_are place.Entry has = listed place.Entry tt
  labels_are (place.Mark mark) has = listed (place.Mark mark) has
  labels_are place.Exit has = refl

  place_is : (l : Place) → HasPlace graph l → IsPlaceOf f l
  place_is place.Entry has = tt
  place_is (place.Mark mark) has = (of.places (place.Mark mark)).0 has
  place_is place.Exit has = tt

-- ---- one node

module _ (subject : Comparison) (formed : IsComparison subject) (first second : FlowGraph) (graphs : AreGraphs subject first second) where
  -- At a node of both graphs there are as many labels as values of both sides.
  pub node_labels_are : (n : Node) → HasNode first second n → length (node_labels subject n) ≡ node_width first second n
  node_labels_are n has =
      let one = labels_are A subject.first formed.first first graphs.first_graph n.0 has.left in
      let other = labels_are B subject.second formed.second second graphs.second_graph n.1 has.right in
      omega (arith, length-append (labels_at A subject.first n.0) (labels_at B subject.second n.1), one, other)

  node_is : (n : Node) → HasNode first second n → IsNodeOf subject n
  node_is n has = record {
    first = place_is A subject.first formed.first first graphs.first_graph n.0 has.left;
    second = place_is B subject.second formed.second second graphs.second_graph n.1 has.right;
  }

  entry_fits : (entry : Node × List Atom) → HasNode first second entry.0 → All (FitsNode (node_width first second entry.0)) entry.1 → FitsEntry subject entry
  entry_fits entry has fit = record {
    node = node_is entry.0 has;
    atoms = subst (λ (width : ℕ). All (FitsNode width) entry.1) (sym (node_labels_are entry.0 has)) fit;
  }

  entries_fit : (entries : List (Node × List Atom)) → AllByRecursion (HasNode first second) (map (λ entry. entry.0) entries)
      → AllByRecursion (λ entry. All (FitsNode (node_width first second entry.0)) entry.1) entries → All (FitsEntry subject) entries
  entries_fit [] have fit = All-nil (FitsEntry subject)
  entries_fit (entry ∷ entries) have fit =
      All-cons (FitsEntry subject) entry entries (entry_fits entry have.0 fit.0) (entries_fit entries have.1 fit.1)

-- ---- the order of nodes

comes_on : (l m n : Place) → ComesBefore l m → ComesBefore m n → ComesBefore l n
comes_on place.Entry place.Entry n one other = absurd one
comes_on place.Entry (place.Mark j) place.Entry one other = absurd other
comes_on place.Entry (place.Mark j) (place.Mark k) one other = tt
comes_on place.Entry (place.Mark j) place.Exit one other = tt
comes_on place.Entry place.Exit n one other = absurd other
comes_on (place.Mark i) place.Entry n one other = absurd one
comes_on (place.Mark i) (place.Mark j) place.Entry one other = absurd other
comes_on (place.Mark i) (place.Mark j) (place.Mark k) one other = omega (arith, one, other)
comes_on (place.Mark i) (place.Mark j) place.Exit one other = tt
comes_on (place.Mark i) place.Exit n one other = absurd other
comes_on place.Exit m n one other = absurd one

stands_on : (l m n : Node) → StandsBefore l m → StandsBefore m n → StandsBefore l n
stands_on l m n (inl one) (inl other) = inl (comes_on l.0 m.0 n.0 one other)
stands_on l m n (inl one) (inr other) = inl (subst (λ (p : Place). ComesBefore l.0 p) other.0 one)
stands_on l m n (inr one) (inl other) = inl (subst (λ (p : Place). ComesBefore p n.0) (sym one.0) other)
stands_on l m n (inr one) (inr other) = inr (one.0 ∙ other.0, comes_on l.1 m.1 n.1 one.1 other.1)

-- The node stands before all of these, which are in order, where it does before the first.
before_all : (n : Node) (nodes : List Node) → AreOrdered (n ∷ nodes) → AllByRecursion (StandsBefore n) nodes
before_all n [] ordered = tt
before_all n (m ∷ []) ordered = (ordered.0, tt)
before_all n (m ∷ k ∷ nodes) (here, (next, later)) = (here, before_all n (k ∷ nodes) (stands_on n m k here next, later))

ordered_on : (n : Node) (nodes : List Node) → AreOrdered (n ∷ nodes) → AreOrdered nodes
ordered_on n [] ordered = tt
ordered_on n (m ∷ nodes) ordered = ordered.1

pub all_ordered : (nodes : List Node) → AreOrdered nodes → AllPairs StandsBefore nodes
all_ordered [] ordered i j d below inside = absurd (omega (arith, inside))
all_ordered (n ∷ nodes) ordered i zero d below inside = absurd (omega (arith, below))
all_ordered (n ∷ nodes) ordered zero (suc j) d below inside =
    All-from_recursion (StandsBefore n) nodes (before_all n nodes ordered) j d (omega (arith, inside))
all_ordered (n ∷ nodes) ordered (suc i) (suc j) d below inside =
    all_ordered nodes (ordered_on n nodes ordered) i j d (omega (arith, below)) (omega (arith, inside))

-- ---- families over a product

-- A family that has the nodes of a product of the two functions, with atoms over the values there, can be told.
pub family_fits : (subject : Comparison) → IsComparison subject → (alignment : ℕ) (first second : FlowGraph) (product : Product) (family : Family)
    → IsProductOf subject alignment first second product → HasShape first second product family → FitsFamily subject family
family_fits subject formed alignment first second product family of shape =
    let has = subst (All (HasNode first second)) (sym shape.nodes) of.is.nodes in
    record {
      ordered = all_ordered (map (λ entry. entry.0) family.nodes) (subst AreOrdered (sym shape.nodes) of.is.closed.ordered);
      entries = entries_fit subject formed first second of.graphs family.nodes
          (recursion_from_All (HasNode first second) (map (λ entry. entry.0) family.nodes) has)
          (recursion_from_All (λ (entry : Node × List Atom). All (FitsNode (node_width first second entry.0)) entry.1) family.nodes shape.atoms);
    }
