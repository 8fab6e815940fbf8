-- A linear family: of two functions that return their one parameter.
use Rattle.std.proofs.Common.{◌≡◌, ℕ, zero, suc, ◌≤◌, true, false, List, [], ◌∷◌, map, ℤ, pos, negsuc, refl, inl, arith}
use Rattle.std.specs.Prelude.{All, unsigned_abs}
use Rattle.std.proofs.lemmas.Int.{ints}
use Rattle.std.proofs.lemmas.List.Elements.{All-nil, All-cons}
use Rattle.lin_terms.specs.declared.row.Row.{Row}
use Rattle.lin_terms.specs.Vectors.{dot}
use Rattle.flow_graph.specs.FlowGraph.{FlowGraph, flow_graph}
use Rattle.horn_clauses.specs.declared.atom.Atom.{Atom}
use Rattle.horn_clauses.specs.declared.atom.Atom.TheVariants.{False}
use Rattle.horn_clauses.specs.declared.clause.Clause.{Clause}
use Rattle.horn_clauses.specs.declared.clause.Product.{Product}
use Rattle.horn_clauses.specs.declared.node.Node.{Node}
use Rattle.horn_clauses.specs.Node.{entries, exits}
use Rattle.horn_clauses.specs.Equalities.{equal_results}
use Rattle.horn_clauses.specs.Obligations.{FitsNode, Obligation, obligation, rows_of, obligations_of}
use Rattle.farkas_check.specs.Refutes.{column, Refutes, IsRefutable}
use Rattle.path_product.specs.declared.limit.ProductLimit.TheVariants as limit
use Rattle.relation.specs.declared.not_coupled.NotCoupled.TheVariants.{Limit, Memory}
use Rattle.relation.specs.Coupled.{IsSmallAtom, lists_for, at_limit}
use Rattle.relation.specs.Linear.{node_width, IsFamilyOver, IsLinear}
use Rattle.relation.proofs.Samples.{equal}

-- of the graph only the widths count: one parameter, and no marks
graph : FlowGraph
graph = flow_graph 1 1 [] 0 []

-- both return the parameter
abbrev clause : Clause
clause = record {
  from = entries;
  rows = [];
  to = exits;
  after = record { coefs = pos 1 ∷ pos 0 ∷ []; constant = pos 0 } ∷ record { coefs = pos 0 ∷ pos 1 ∷ []; constant = pos 0 } ∷ [];
}

product : Product
product = record { nodes = entries ∷ exits ∷ []; clauses = clause ∷ [] }

-- both sides' values are equal
same : Row
same = record { coefs = pos 1 ∷ negsuc 0 ∷ []; constant = pos 0; equality = true }

-- that of side A is less
less : Row
less = record { coefs = negsuc 0 ∷ pos 1 ∷ []; constant = negsuc 0; equality = false }

-- that of side A is greater
greater : Row
greater = record { coefs = pos 1 ∷ negsuc 0 ∷ []; constant = negsuc 0; equality = false }

rows_are : map (rows_of equal) (obligations_of equal product) ≡ (same ∷ less ∷ []) ∷ (same ∷ greater ∷ []) ∷ []
unfolding equal product same less greater
rows_are = refl

never_less : Refutes (same ∷ less ∷ []) (pos 1 ∷ pos 1 ∷ [])
unfolding same less
never_less = record {
  signs = (tt, (omega (arith, ints), tt));
  no_variable = zeros;
  negative_constant = omega (arith, ints);
}
  where
    zeros : (j : ℕ) → dot (pos 1 ∷ pos 1 ∷ []) (column j (same ∷ less ∷ [])) ≡ pos 0
    zeros zero = refl
    zeros (suc zero) = refl
    zeros (suc (suc j)) = refl

never_greater : Refutes (same ∷ greater ∷ []) (negsuc 0 ∷ pos 1 ∷ [])
unfolding same greater
never_greater = record {
  signs = (tt, (omega (arith, ints), tt));
  no_variable = zeros;
  negative_constant = omega (arith, ints);
}
  where
    zeros : (j : ℕ) → dot (negsuc 0 ∷ pos 1 ∷ []) (column j (same ∷ greater ∷ [])) ≡ pos 0
    zeros zero = refl
    zeros (suc zero) = refl
    zeros (suc (suc j)) = refl

-- an atom over one value of each side
abbrev IsAtomOver : Atom → Type 0
IsAtomOver atom = FitsNode 2 atom

-- from -2 to 2
abbrev IsSmall : ℤ → Type 0
IsSmall coef = unsigned_abs coef ≤ 2

fitting : All IsAtomOver (equal_results ∷ [])
fitting = All-cons IsAtomOver equal_results [] (record { as_many = refl; small = small; fits = omega arith }) (All-nil IsAtomOver)
  where
    small : All IsSmall (pos 1 ∷ negsuc 0 ∷ [])
    small = All-cons IsSmall (pos 1) (negsuc 0 ∷ []) (omega arith) (All-cons IsSmall (negsuc 0) [] (omega arith) (All-nil IsSmall))

-- the atoms are over the values at their node
abbrev AtomsFit : Node × List Atom → Type 0
AtomsFit entry = All (FitsNode (node_width graph graph entry.0)) entry.1

over : IsFamilyOver graph graph product equal
unfolding graph product equal
over = record {
  shape = record {
    nodes = refl;
    atoms = All-cons AtomsFit (entries, equal_results ∷ []) ((exits, equal_results ∷ []) ∷ []) fitting
        (All-cons AtomsFit (exits, equal_results ∷ []) [] fitting (All-nil AtomsFit));
  };
  at_entries = refl;
  at_exits = inl (0, omega arith, refl);
}

-- multipliers refute the rows of the obligation
abbrev CanRefute : Obligation → Type 0
CanRefute one = IsRefutable (rows_of equal one)

linear : IsLinear graph graph product equal
unfolding product equal same less greater
linear = record {
  over = over;
  refutable = All-cons CanRefute (obligation clause equal_results false) (obligation clause equal_results true ∷ [])
      (record { multipliers = pos 1 ∷ pos 1 ∷ []; refutes = never_less })
      (All-cons CanRefute (obligation clause equal_results true) [] (record { multipliers = negsuc 0 ∷ pos 1 ∷ []; refutes = never_greater })
      (All-nil CanRefute));
}

-- ---- what is kept of lists, and what a limit comes to

-- a third list is dropped
two_lists : lists_for equal product (record { lists = (pos 1 ∷ []) ∷ (pos 2 ∷ []) ∷ (pos 3 ∷ []) ∷ [] })
    ≡ record { lists = (pos 1 ∷ []) ∷ (pos 2 ∷ []) ∷ [] }
unfolding equal product
two_lists = refl

no_memory : at_limit limit.Memory ≡ Memory
no_memory = refl

many_variables : at_limit (limit.ManyVariables entries) ≡ Limit (limit.ManyVariables entries)
many_variables = refl

-- `false` has no numbers
false_is_small : IsSmallAtom False
false_is_small = tt
