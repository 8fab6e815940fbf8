-- Families of candidates of the pairs of two functions fit the values at their nodes.
use Rattle.std.proofs.Common.{◌≡◌, ◌≢◌, ℕ, ◌+◌, Bool, true, false, cond, inl, inr, List, [], ◌∷◌, ◌++◌, length, map, replicate, Option, Some, None, refl, sym, ap, ◌∙◌, subst, arith}
use Rattle.std.specs.Prelude.{All, ℤ, pos}
use Rattle.std.specs.List.{AllByRecursion, AllZip}
use Rattle.std.proofs.lemmas.List.{length-append, length-replicate}
use Rattle.std.proofs.lemmas.List.Elements.{All-nil, All-cons, All-append, All-from_recursion, recursion_from_All}
use Rattle.c_ast.specs.declared.place.Place.TheVariants as place
use Rattle.c_ast.specs.declared.trace.Pair.{Pair}
use Rattle.c_ast.specs.Tree.{Program}
use Rattle.c_ast.specs.Comparison.{Comparison, IsComparison}
use Rattle.c_ast.specs.Function.{program_of}
use Rattle.flow_graph.specs.FlowGraph.{FlowGraph, width_at, HasPlace}
use Rattle.flow_graph.specs.Built.{IsGraphOf}
use Rattle.horn_clauses.specs.declared.atom.Atom.{Atom}
use Rattle.horn_clauses.specs.declared.atom.Atom.TheVariants.{False}
use Rattle.horn_clauses.specs.declared.clause.Product.{Product}
use Rattle.horn_clauses.specs.declared.family.Family.{Family}
use Rattle.horn_clauses.specs.declared.node.Node.{Node}
use Rattle.horn_clauses.specs.Node.{is_same_node, entries}
use Rattle.horn_clauses.specs.Equalities.{equal_parameters}
use Rattle.horn_clauses.specs.Obligations.{FitsNode}
use Rattle.horn_clauses.proofs.Laws.{law_of_nodes}
use Rattle.walks.specs.declared.spot.Spot.{Spot}
use Rattle.walks.specs.Walk.{walk_of}
use Rattle.walks.specs.Laws.{FitsSpot, FitsFunctions}
use Rattle.walks.proofs.Laws.{traces_fit, values_fit}
use Rattle.path_product.specs.Agreement.{HasNode}
use Rattle.relation.specs.Coupled.{AreGraphs, IsProductOf}
use Rattle.relation.specs.Linear.{node_width, HasShape}
use Rattle.trace_pair.specs.Pairs.{IsPair}
use Rattle.trace_pair.proofs.Laws.{pair_has_traces}
use Rattle.miners.specs.Candidates.{points_among, points_at, candidates_at}
use Rattle.miners.specs.Laws.{HaveWidth}
use Rattle.miners.specs.Constants.{bound_constants}
use Rattle.miners.proofs.Laws.{candidates_fit, entries_fit}
use Rattle.houdini.specs.Within.{IsSublist, candidates_or_false}
use Rattle.pool_core.specs.Candidates.{candidates_of, IsDrawnFrom}

-- ---- pairs fit the functions of their subject

module _ (subject : Comparison) (formed : IsComparison subject) where
  -- The pair fits both functions.
  abbrev pub FitsBoth : Pair → Type 0
  FitsBoth pair = FitsFunctions (program_of subject.first) (program_of subject.second) pair

  pair_fits : (index : ℕ) (pair : Pair) → IsPair subject index pair → FitsBoth pair
  pair_fits index pair is =
      let traces = pair_has_traces subject index pair is in
      traces_fit (program_of subject.first) (program_of subject.second) pair (record {
        first_formed = formed.first;
        second_formed = formed.second;
        first_arity = traces.arity;
        second_arity = traces.arity ∙ formed.arity;
        first = traces.first.is;
        second = traces.second.is;
      })

  pub pairs_fit : (indexes : List ℕ) (pairs : List Pair) → AllZip (IsPair subject) indexes pairs → All FitsBoth pairs
  pairs_fit [] [] are = All-nil FitsBoth
  pairs_fit [] (pair ∷ pairs) are = absurd are
  pairs_fit (index ∷ indexes) [] are = absurd are
  pairs_fit (index ∷ indexes) (pair ∷ pairs) are =
      All-cons FitsBoth pair pairs (pair_fits index pair are.0) (pairs_fit indexes pairs are.1)

-- ---- as many values as a node has

module _ (f g : Program) (first second : FlowGraph) (of_first : IsGraphOf f first) (of_second : IsGraphOf g second) where
  entry_width : (h : Program) (graph : FlowGraph) → IsGraphOf h graph → width_at graph place.Entry ≡ h.params
  entry_width h graph is =
      let values : List ℤ = replicate h.params (pos 0) in
      let long : length values ≡ h.params = length-replicate h.params (pos 0) in
      sym ((is.fits place.Entry values tt).0 long) ∙ long

  -- Both sides have their parameters at the entries.
  entries_width : node_width first second entries ≡ f.params + g.params
  entries_width = omega (arith, entry_width f first of_first, entry_width g second of_second)

  module _ (n : Node) (has : HasNode first second n) where
    -- The point has as many values as the node.
    abbrev IsAsWide : List ℤ → Type 0
    IsAsWide point = length point ≡ node_width first second n

    spot_width : (s : Spot) → s.node ≡ n → FitsSpot f g s → IsAsWide (s.first ++ s.second)
    spot_width s same fits =
        let here = subst (λ (m : Node). length s.first ≡ width_at first m.0) same
        ((of_first.fits s.node.0 s.first (subst (λ (m : Node). HasPlace first m.0) (sym same) has.left)).0 fits.first) in
        let there = subst (λ (m : Node). length s.second ≡ width_at second m.1) same
        ((of_second.fits s.node.1 s.second (subst (λ (m : Node). HasPlace second m.1) (sym same) has.right)).0 fits.second) in
        omega (arith, length-append s.first s.second, here, there)

    widths_among : (spots : List Spot) → AllByRecursion (FitsSpot f g) spots → All IsAsWide (points_among n spots)
    widths_among [] fit = All-nil IsAsWide
    widths_among (s ∷ spots) fit = by (is_same_node s.node n) refl (widths_among spots fit.1)
      where
        by : (same : Bool) → is_same_node s.node n ≡ same → All IsAsWide (points_among n spots)
            → All IsAsWide (cond same ((s.first ++ s.second) ∷ points_among n spots) (points_among n spots))
        by true is later = All-cons IsAsWide (s.first ++ s.second) (points_among n spots) (spot_width s ((law_of_nodes s.node n).0 is) fit.0) later
        by false is later = later

    widths_at : (alignment : ℕ) (pairs : List Pair) → AllByRecursion (FitsFunctions f g) pairs
        → All IsAsWide (points_at alignment n pairs)
    widths_at alignment [] fit = All-nil IsAsWide
    widths_at alignment (pair ∷ pairs) fit =
        All-append IsAsWide (points_among n (walk_of alignment pair)) (points_at alignment n pairs)
        (widths_among (walk_of alignment pair)
        (recursion_from_All (FitsSpot f g) (walk_of alignment pair) (values_fit f g alignment pair fit.0)))
        (widths_at alignment pairs fit.1)

    -- The walks of pairs that fit meet the node with so many values.
    have_width : (alignment : ℕ) (pairs : List Pair) → All (FitsFunctions f g) pairs
        → HaveWidth (node_width first second n) alignment n pairs
    have_width alignment pairs fit = widths_at alignment pairs (recursion_from_All (FitsFunctions f g) pairs fit)

    -- ---- the candidates

    -- The atom fits the values at the node.
    abbrev Fits : Atom → Type 0
    Fits atom = FitsNode (node_width first second n) atom

    false_fits : All Fits (False ∷ [])
    false_fits = All-cons Fits False [] tt (All-nil Fits)

    fit_elsewhere : (alignment params : ℕ) (pairs : List Pair) → All (FitsFunctions f g) pairs → n ≢ entries
        → All Fits (candidates_or_false (candidates_at alignment (bound_constants f g) params pairs n))
    fit_elsewhere alignment params pairs fit away = by (candidates_at alignment (bound_constants f g) params pairs n) refl
      where
        by : (found : Option (List Atom)) → candidates_at alignment (bound_constants f g) params pairs n ≡ found
            → All Fits (candidates_or_false found)
        by None is = false_fits
        by (Some atoms) is =
            candidates_fit alignment f g params pairs n (node_width first second n) atoms away (have_width alignment pairs fit) is

    fit_at_entries : (params : ℕ) → f.params ≡ params → g.params ≡ params → n ≡ entries → All Fits (equal_parameters params)
    fit_at_entries params one other same =
        let wide : node_width first second n ≡ params + params =
        ap (λ (m : Node). node_width first second m) same ∙ omega (arith, entries_width, one, other) in
        subst (λ (width : ℕ). All (FitsNode width) (equal_parameters params)) (sym wide) (entries_fit params)

    -- The candidates at a node of both graphs fit the values there.
    candidates_fit_node : (alignment params : ℕ) (pairs : List Pair) → f.params ≡ params → g.params ≡ params
        → All (FitsFunctions f g) pairs
        → All Fits (candidates_or_false (candidates_at alignment (bound_constants f g) params pairs n))
    candidates_fit_node alignment params pairs one other fit = by (is_same_node n entries) refl (fit_elsewhere alignment params pairs fit)
      where
        by : (same : Bool) → is_same_node n entries ≡ same
            → (n ≢ entries → All Fits (candidates_or_false (candidates_at alignment (bound_constants f g) params pairs n)))
            → All Fits (candidates_or_false (candidates_at alignment (bound_constants f g) params pairs n))
        by true is elsewhere = rw is (fit_at_entries params one other ((law_of_nodes n entries).0 is))
        by false is elsewhere = elsewhere (λ same. let met = (law_of_nodes n entries).1 same in cc)

-- ---- some of the candidates

some_fit : (P : Atom → Type 0) (xs ys : List Atom) → IsSublist xs ys → AllByRecursion P ys → AllByRecursion P xs
some_fit P [] ys part fit = tt
some_fit P (x ∷ xs) [] part fit = absurd part
some_fit P (x ∷ xs) (y ∷ ys) (inl (same, later)) fit = (subst P (sym same) fit.0, some_fit P xs ys later fit.1)
some_fit P (x ∷ xs) (y ∷ ys) (inr part) fit = some_fit P (x ∷ xs) ys part fit.1

module _ (subject : Comparison) (formed : IsComparison subject) (alignment : ℕ) (pairs : List Pair) (fit : All (FitsBoth subject formed) pairs)
    (first second : FlowGraph) (graphs : AreGraphs subject first second) where
  -- The atoms of the entry fit the values at its node.
  abbrev EntryFits : Node × List Atom → Type 0
  EntryFits entry = All (FitsNode (node_width first second entry.0)) entry.1

  -- The atoms of the entry are some of its node's candidates.
  abbrev IsDrawn : Node × List Atom → Type 0
  IsDrawn entry = IsSublist entry.1 (candidates_or_false (candidates_of subject alignment pairs entry.0))

  entry_fits : (entry : Node × List Atom) → HasNode first second entry.0 → IsDrawn entry → EntryFits entry
  entry_fits entry has drawn =
      let candidates : List Atom = candidates_or_false (candidates_of subject alignment pairs entry.0) in
      let all = candidates_fit_node (program_of subject.first) (program_of subject.second) first second graphs.first_graph graphs.second_graph entry.0 has
      alignment subject.first.params pairs refl (sym formed.arity) fit in
      All-from_recursion (FitsNode (node_width first second entry.0)) entry.1
      (some_fit (FitsNode (node_width first second entry.0)) entry.1 candidates drawn
      (recursion_from_All (FitsNode (node_width first second entry.0)) candidates all))

  entries_drawn : (entries : List (Node × List Atom)) → AllByRecursion (HasNode first second) (map (λ entry. entry.0) entries)
      → AllByRecursion IsDrawn entries → All EntryFits entries
  entries_drawn [] have drawn = All-nil EntryFits
  entries_drawn (entry ∷ entries) have drawn =
      All-cons EntryFits entry entries (entry_fits entry have.0 drawn.0) (entries_drawn entries have.1 drawn.1)

  -- A family of candidates with the nodes of the product has atoms over the values there.
  pub drawn_has_shape : (product : Product) (family : Family) → IsProductOf subject alignment first second product
      → map (λ entry. entry.0) family.nodes ≡ product.nodes → IsDrawnFrom (candidates_of subject alignment pairs) family
      → HasShape first second product family
  drawn_has_shape product family of nodes drawn =
      let has = subst (All (HasNode first second)) (sym nodes) of.is.nodes in
      record {
        nodes = nodes;
        atoms = entries_drawn family.nodes (recursion_from_All (HasNode first second) (map (λ entry. entry.0) family.nodes) has)
            (recursion_from_All IsDrawn family.nodes drawn);
      }
