-- Over the product of the subject's graphs, the linear families of mined candidates are those that are linear under the
-- alignment; and what a search for the greatest one answers.
use Rattle.std.proofs.Common.{◌≡◌, ℕ, suc, List, [], ◌∷◌, get_or, Option, Some, Ok, refl, sym, ap, ◌∙◌, subst, arith}
use Rattle.std.specs.Prelude.{All, Contains, IsSomeAnd}
use Rattle.std.specs.List.{AllByRecursion}
use Rattle.std.proofs.lemmas.List.Elements.{All-contains, All-from_recursion, recursion_from_All, All-weaker}
use Rattle.c_ast.specs.declared.trace.Pair.{Pair}
use Rattle.c_ast.specs.Comparison.{Comparison, IsComparison, condition_of}
use Rattle.c_ast.specs.Function.{program_of}
use Rattle.flow_graph.specs.FlowGraph.{FlowGraph}
use Rattle.flow_graph.proofs.Laws.{graph_is_one}
use Rattle.horn_clauses.specs.declared.atom.Atom.{Atom}
use Rattle.horn_clauses.specs.declared.atom.Atom.TheVariants.{False, Linear}
use Rattle.horn_clauses.specs.declared.clause.Clause.{Clause}
use Rattle.horn_clauses.specs.declared.clause.Product.{Product}
use Rattle.horn_clauses.specs.declared.clause.Proofs.{Proofs}
use Rattle.horn_clauses.specs.declared.node.Node.{Node}
use Rattle.horn_clauses.specs.declared.family.Family.{Family}
use Rattle.horn_clauses.specs.Node.{entries}
use Rattle.horn_clauses.specs.Family.{atoms_at}
use Rattle.horn_clauses.specs.Equalities.{equal_parameters}
use Rattle.horn_clauses.specs.Obligations.{FitsNode, HasFittingAtoms, obligations_of}
use Rattle.path_product.specs.Agreement.{HasNode, FitsItsNodes}
use Rattle.path_product.specs.Product.{product_under}
use Rattle.coupling_check.specs.Checks.{CanCheckClause, CanCheck, Checks}
use Rattle.coupling_check.proofs.Laws.{failing_is_unproved}
use Rattle.elimination.specs.declared.answer.Limit.{Limit}
use Rattle.relation.specs.Linear.{node_width, HasShape, IsLinear}
use Rattle.relation.specs.Coupled.{Coupling, coupling, lists_for, IsProductOf, IsLinearUnder, IsSmallAtom, HasSmallAtoms, IsRefused}
use Rattle.relation.specs.declared.not_coupled.NotCoupled.{NotCoupled}
use Rattle.relation.specs.declared.not_coupled.NotCoupled.TheVariants as not_coupled
use Rattle.miners.specs.Candidates.{AreMinedFrom}
use Rattle.houdini.specs.Within.{IsWithin, candidates_or_false, family_of}
use Rattle.houdini.specs.Linear.{IsLinearWithin}
use Rattle.houdini.specs.Answers.{IsGreatest, HasNoLinear, EndsAtLimit, AnswersSearch}
use Rattle.houdini.specs.declared.search.Outcome.{Outcome}
use Rattle.houdini.specs.declared.search.Outcome.TheVariants as outcome
use Rattle.pool_core.specs.Candidates.{candidates_of, IsDrawnFrom, IsOfCandidates}
use Rattle.pool_core.specs.Justified.{ArePairsAt}
use Rattle.pool_core.specs.Tried.{IsProductUnder, HasNoCoupling, EndsAtObligation}
use Rattle.workers.specs.Found.{IsOver, IsOverMined, IsGreatestCoupling}
use Rattle.workers.proofs.Drawn.{Entry, Lookup, nodes_in, IsDrawnAt, all_of_sublist, nodes_of_within, drawn_of_within, within_of_drawn, atoms_of_candidates, drawn_from_same}
use Rattle.workers.proofs.Fitting.{pairs_fit, candidates_fit_node}

-- The candidates are mined of pairs of the subject, and the product is that of its graphs under the alignment.
pub record IsMinedUnder (subject : Comparison) (alignment : ℕ) (first second : FlowGraph) (product : Product)
    (pairs : List Pair) (candidates : Family) : Type 0 where
  pub formed : IsComparison subject
  pub is_product : IsProductOf subject alignment first second product
  pub indexes : List ℕ
  pub at : ArePairsAt subject indexes pairs
  pub mined : AreMinedFrom subject alignment pairs candidates

-- ---- atoms that are small

small_of_fitting : (width : ℕ) (atom : Atom) → FitsNode width atom → IsSmallAtom atom
small_of_fitting width False fits = tt
small_of_fitting width (Linear coefs constant rel) fits = (fits.small, fits.fits)

-- The atoms of a family over the nodes of a product are small.
pub small_of_shape : (first second : FlowGraph) (product : Product) (family : Family) → HasShape first second product family
    → HasSmallAtoms family
small_of_shape first second product family shape =
    All-weaker (λ (entry : Entry). All (FitsNode (node_width first second entry.0)) entry.1) (λ (entry : Entry). All IsSmallAtom entry.1)
    (λ entry fit. All-weaker (FitsNode (node_width first second entry.0)) IsSmallAtom
    (λ atom. small_of_fitting (node_width first second entry.0) atom) entry.1 fit) family.nodes shape.atoms

-- ---- what is drawn fits where the candidates do

module _ (lookup : Lookup) (width_of : Node → ℕ) where
  abbrev FitsEntry : Entry → Type 0
  FitsEntry entry = All (FitsNode (width_of entry.0)) entry.1

  each_drawn_fits : (listed : List Entry) → AllByRecursion (IsDrawnAt lookup) listed
      → ((n : Node) → Contains (nodes_in listed) n → All (FitsNode (width_of n)) (candidates_or_false (lookup n)))
      → AllByRecursion FitsEntry listed
  each_drawn_fits [] drawn fit = tt
  each_drawn_fits (entry ∷ listed) drawn fit = (
    all_of_sublist (FitsNode (width_of entry.0)) entry.1 (candidates_or_false (lookup entry.0)) drawn.0 (fit entry.0 (0, omega arith, refl)),
    each_drawn_fits listed drawn.1 (λ n found. fit n (suc found.0, omega (arith, found.1), found.2)),
  )

  drawn_fits : (family : Family) → IsDrawnFrom lookup family
      → ((n : Node) → Contains (nodes_in family.nodes) n → All (FitsNode (width_of n)) (candidates_or_false (lookup n)))
      → All FitsEntry family.nodes
  drawn_fits family drawn fit =
      All-from_recursion FitsEntry family.nodes
      (each_drawn_fits family.nodes (recursion_from_All (IsDrawnAt lookup) family.nodes drawn) fit)

module _ (subject : Comparison) (alignment : ℕ) (first second : FlowGraph) (product : Product) (pairs : List Pair) (candidates : Family)
    (m : IsMinedUnder subject alignment first second product pairs candidates) where
  abbrev given : Lookup
  given n = atoms_at candidates n

  -- The product's nodes, each with its candidates.
  abbrev pub over : Family
  over = family_of product.nodes given

  abbrev wide : Node → ℕ
  wide n = node_width first second n

  node_is : (n : Node) → Contains product.nodes n → HasNode first second n
  node_is n found = All-contains (HasNode first second) product.nodes n m.is_product.is.nodes found

  candidates_fit_at : (n : Node) → Contains product.nodes n → All (FitsNode (wide n)) (candidates_or_false (given n))
  candidates_fit_at n found =
      let node = node_is n found in
      subst (λ (some : Option (List Atom)). All (FitsNode (wide n)) (candidates_or_false some)) (sym (m.mined n))
      (candidates_fit_node (program_of subject.first) (program_of subject.second) first second m.is_product.graphs.first_graph
      m.is_product.graphs.second_graph n node.left node.right alignment subject.first.params pairs refl (sym m.formed.arity)
      (pairs_fit subject m.formed m.indexes pairs m.at.are))

  over_at : (n : Node) → Contains product.nodes n → atoms_at over n ≡ Some (candidates_or_false (given n))
  over_at n found = atoms_of_candidates given product.nodes n found

  over_at_entries : atoms_at over entries ≡ Some (equal_parameters subject.first.params)
  over_at_entries =
      over_at entries m.is_product.is.closed.begins
      ∙ ap (λ (some : Option (List Atom)). Some (candidates_or_false some)) (m.mined entries)

  -- ---- a search may be asked for

  fitting_at : (n : Node) → Contains product.nodes n → HasFittingAtoms over n (wide n)
  fitting_at n found =
      subst (λ (some : Option (List Atom)). IsSomeAnd some (All (FitsNode (wide n)))) (sym (over_at n found)) (candidates_fit_at n found)

  can_check_clause : (clause : Clause) → Contains product.nodes clause.from → Contains product.nodes clause.to
      → FitsItsNodes first second clause → CanCheckClause over clause
  can_check_clause clause from to between = record {
    start = wide clause.from;
    end = wide clause.to;
    at_start = fitting_at clause.from from;
    at_end = fitting_at clause.to to;
    between = between;
    few_at_start = (node_is clause.from from).few;
    few_at_end = (node_is clause.to to).few;
  }

  pub can_check : CanCheck product over
  can_check k d inside =
      can_check_clause (get_or product.clauses k d) (m.is_product.is.closed.from k d inside).0 (m.is_product.is.closed.to k d inside)
      (m.is_product.is.clauses k d inside)

  -- ---- families of the candidates

  abbrev IsOf : Family → Type 0
  IsOf family = IsOfCandidates subject alignment pairs family

  of_within : (family : Family) → IsWithin family over → atoms_at family entries ≡ atoms_at over entries → IsOf family
  of_within family within same = record {
    at_entries = same ∙ over_at_entries;
    drawn = drawn_from_same given (candidates_of subject alignment pairs) m.mined family (drawn_of_within given product.nodes family within);
  }

  within_of : (family : Family) → nodes_in family.nodes ≡ product.nodes → IsOf family → IsWithin family over
  within_of family same of =
      within_of_drawn given product.nodes family same
      (drawn_from_same (candidates_of subject alignment pairs) given (λ n. sym (m.mined n)) family of.drawn)

  shape_within : (family : Family) → IsWithin family over → HasShape first second product family
  shape_within family within =
      let same = nodes_of_within given product.nodes family within in
      record {
        nodes = same;
        atoms = drawn_fits given wide family (drawn_of_within given product.nodes family within)
            (λ n found. candidates_fit_at n (subst (λ (nodes : List Node). Contains nodes n) same found));
      }

  -- ---- linear ones

  params_are : first.params ≡ subject.first.params
  params_are = m.is_product.graphs.first_graph.params

  -- A linear family of the candidates is of candidates of the pairs, and linear over the product.
  pub linear_of_within : (family : Family) → IsLinearWithin product over family → IsLinear first second product family
  linear_of_within family linear = record {
    over = record {
      shape = shape_within family linear.within;
      at_entries = linear.at_entries ∙ over_at_entries ∙ ap (λ (n : ℕ). Some (equal_parameters n)) (sym params_are);
      at_exits = linear.at_exits;
    };
    refutable = linear.refutable;
  }

  pub of_linear_within : (family : Family) → IsLinearWithin product over family → IsOf family
  of_linear_within family linear = of_within family linear.within linear.at_entries

  -- And the other way.
  pub within_of_linear : (family : Family) → IsOf family → IsLinear first second product family → IsLinearWithin product over family
  within_of_linear family of linear = record {
    within = within_of family linear.over.shape.nodes of;
    at_entries = of.at_entries ∙ sym over_at_entries;
    at_exits = linear.over.at_exits;
    refutable = linear.refutable;
  }

  -- A function has one graph, so there is one product, and what is linear over some is linear over this one.
  pub linear_of_under : (family : Family) → IsLinearUnder subject alignment family → IsLinear first second product family
  linear_of_under family under =
      let first_is = graph_is_one (program_of subject.first) under.first first under.is_product.graphs.first_graph m.is_product.graphs.first_graph in
      let second_is =
      graph_is_one (program_of subject.second) under.second second under.is_product.graphs.second_graph m.is_product.graphs.second_graph in
      by first second first_is second_is m.is_product.made
    where
      by : (f g : FlowGraph) → under.first ≡ f → under.second ≡ g → product_under f g (condition_of subject) alignment ≡ Ok product
          → IsLinear f g product family
      by f g one other made =
          let same : product_under f g (condition_of subject) alignment ≡ Ok under.product =
          subst (λ (x : FlowGraph). product_under x g (condition_of subject) alignment ≡ Ok under.product) one
          (subst (λ (y : FlowGraph). product_under under.first y (condition_of subject) alignment ≡ Ok under.product) other under.is_product.made) in
          let product_is : under.product ≡ product = cc in
          subst (λ (x : FlowGraph). IsLinear x g product family) one
          (subst (λ (y : FlowGraph). IsLinear under.first y product family) other
          (subst (λ (p : Product). IsLinear under.first under.second p family) product_is under.linear))

  pub under_of_linear : (family : Family) → IsLinear first second product family → IsLinearUnder subject alignment family
  under_of_linear family linear =
      record { first = first; second = second; product = product; is_product = m.is_product; linear = linear }

  -- A family of candidates that is linear under the alignment is one of the search's.
  pub within_of_under : (family : Family) → IsOf family → IsLinearUnder subject alignment family → IsLinearWithin product over family
  within_of_under family of under = within_of_linear family of (linear_of_under family under)

  -- ---- what a search answers

  product_is : IsProductUnder subject alignment product
  product_is = record { first = first; second = second; of_graphs = m.is_product }

  -- No family of the candidates is linear: so there is no coupling.
  pub no_coupling : HasNoLinear product over → HasNoCoupling subject alignment pairs
  no_coupling none =
      record { product = product; is_product = product_is; none = λ family of under. none family (within_of_under family of under) }

  -- An obligation has a limit.
  pub ends_at_obligation : (number : ℕ) (left : Family) (limit : Limit) → EndsAtLimit product over subject.settings.rows number left limit
      → EndsAtObligation subject alignment pairs number left limit
  ends_at_obligation number left limit ends = record {
    product = product;
    is_product = product_is;
    nodes = nodes_of_within given product.nodes left ends.within;
    candidates = of_within left ends.within ends.at_entries;
    contains = λ family of under. ends.contains family (within_of_under family of under);
    limited = ends.limited;
  }

  -- The greatest linear family is kept.
  pub is_greatest_coupling : (family : Family) (proofs : Proofs) (coupled : Coupling) → IsGreatest product over family proofs
      → coupled ≡ coupling subject alignment family (lists_for family product proofs) → IsGreatestCoupling subject alignment pairs coupled
  is_greatest_coupling family proofs coupled is same =
      subst (λ (c : Coupling). IsGreatestCoupling subject alignment pairs c) (sym same) (record {
        own = refl;
        under = refl;
        candidates = of_linear_within family is.linear;
        greatest = λ other of under. is.greatest other (within_of_under other of under);
      })

-- ---- the same of the family that is searched

module _ (subject : Comparison) (formed : IsComparison subject) (alignment : ℕ) (first second : FlowGraph) (product : Product)
    (is_product : IsProductOf subject alignment first second product) (family : Family) where
  under : (candidates : Family) (indexes : List ℕ) (pairs : List Pair) → ArePairsAt subject indexes pairs
      → AreMinedFrom subject alignment pairs candidates → IsMinedUnder subject alignment first second product pairs candidates
  under candidates indexes pairs at mined = record { formed = formed; is_product = is_product; indexes = indexes; at = at; mined = mined }

  under_mined : (is : IsOverMined subject alignment product family)
      → IsMinedUnder subject alignment first second product is.mined.pairs is.candidates
  under_mined is = under is.candidates is.mined.indexes is.mined.pairs is.mined.at is.mined.mined

  pub can_search : IsOverMined subject alignment product family → CanCheck product family
  can_search is =
      subst (λ (f : Family). CanCheck product f) (sym is.over)
      (can_check subject alignment first second product is.mined.pairs is.candidates (under_mined is))

  module _ (cap : ℕ) (result : Outcome) (answers : AnswersSearch product family cap result) where
    answers_over : (candidates : Family) → IsOver product candidates family → (other : Outcome) → result ≡ other
        → AnswersSearch product (family_of product.nodes (atoms_at candidates)) cap other
    answers_over candidates over other is =
        subst (λ (r : Outcome). AnswersSearch product (family_of product.nodes (atoms_at candidates)) cap r) is
        (subst (λ (f : Family). AnswersSearch product f cap result) over answers)

    pub kept_is_linear : (kept : Family) (proofs : Proofs) → IsOverMined subject alignment product family → result ≡ outcome.Kept kept proofs
        → IsLinear first second product kept
    kept_is_linear kept proofs is same =
        let greatest = answers_over is.candidates is.over (outcome.Kept kept proofs) same in
        linear_of_within subject alignment first second product is.mined.pairs is.candidates (under_mined is) kept greatest.linear

    module _ (candidates : Family) (indexes : List ℕ) (pairs : List Pair) (over : IsOver product candidates family)
        (at : ArePairsAt subject indexes pairs) (mined : AreMinedFrom subject alignment pairs candidates) where
      pub finds_coupling : (kept : Family) (proofs : Proofs) (coupled : Coupling) → result ≡ outcome.Kept kept proofs
          → coupled ≡ coupling subject alignment kept (lists_for kept product proofs) → IsGreatestCoupling subject alignment pairs coupled
      finds_coupling kept proofs coupled is same =
          is_greatest_coupling subject alignment first second product pairs candidates (under candidates indexes pairs at mined) kept proofs coupled
          (answers_over candidates over (outcome.Kept kept proofs) is) same

      pub finds_none : result ≡ outcome.NoCoupling → HasNoCoupling subject alignment pairs
      finds_none is =
          no_coupling subject alignment first second product pairs candidates (under candidates indexes pairs at mined)
          (answers_over candidates over outcome.NoCoupling is)

      pub finds_limit : (number : ℕ) (left : Family) (limit : Limit) → cap ≡ subject.settings.rows → result ≡ outcome.Limit number left limit
          → EndsAtObligation subject alignment pairs number left limit
      finds_limit number left limit rows is =
          ends_at_obligation subject alignment first second product pairs candidates (under candidates indexes pairs at mined) number left limit
          (subst (λ (most : ℕ). EndsAtLimit product (family_of product.nodes (atoms_at candidates)) most number left limit) rows
          (answers_over candidates over (outcome.Limit number left limit) is))

-- ---- that nothing refuses a linear family but want of memory

-- The cause is want of memory.
pub refused_for_memory : (first second : FlowGraph) (product : Product) (family : Family) (proofs : Proofs) (why : NotCoupled)
    → IsLinear first second product family → Checks product family proofs → IsRefused first second product family proofs why
    → why ≡ not_coupled.Memory
refused_for_memory first second product family proofs (not_coupled.Limit limit) linear checks refused = absurd refused
refused_for_memory first second product family proofs not_coupled.Shape linear checks refused = absurd (refused linear.over.shape)
refused_for_memory first second product family proofs not_coupled.AtEntry linear checks refused = absurd (refused.1 linear.over.at_entries)
refused_for_memory first second product family proofs not_coupled.AtExit linear checks refused = absurd (refused.2 linear.over.at_exits)
refused_for_memory first second product family proofs (not_coupled.Obligation number) linear checks refused =
    absurd (failing_is_unproved family (obligations_of family product) proofs.lists number refused.1 checks)
refused_for_memory first second product family proofs not_coupled.Memory linear checks refused = refl
