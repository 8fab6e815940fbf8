-- How clauses are made one after another.
use Rattle.std.specs.Prelude.{◌≡◌, ◌⊎◌, ℕ, ◌-◌, List, [], ◌++◌, length, Result, Ok, Err}
use Rattle.lin_terms.specs.declared.row.Row.{Row}
use Rattle.horn_clauses.specs.declared.node.Node.{Node}
use Rattle.horn_clauses.specs.declared.clause.Clause.{Clause}
use Rattle.sym_paths.specs.declared.limit.PathLimit.{PathLimit}
use Rattle.sym_paths.specs.declared.limit.PathLimit.TheVariants as limit
use Rattle.sym_paths.specs.Walk.{Path, Walk, collect}
use Rattle.sym_paths.specs.Nodes.{End}
use Rattle.path_product.specs.Compose.{each}
use Rattle.path_product.specs.Clauses.{coupled_walk, values_of_all}

-- Clauses that are made, and then these, unless a limit is met.
abbrev pub behind_clauses : List Clause → Result (List Clause) PathLimit → Result (List Clause) PathLimit
behind_clauses made (Ok clauses) = Ok (made ++ clauses)
behind_clauses made (Err limit) = Err limit

-- Clauses that are made, and then those that the walk meets, at most 1,024 in all, or the first limit.
abbrev pub made_on : List Clause → Walk Clause → Result (List Clause) PathLimit
made_on made walk = behind_clauses made (values_of_all (collect (1024 - length made) walk))

-- Of the walk this is left, once clauses are made to these, whatever comes behind it.
pub record Leaves (walk rest : Walk Clause) (made made' : List Clause) : Type 0 where
  pub same : (others : Walk Clause) → made_on made (walk ++ others) ≡ made_on made' (rest ++ others)

-- The whole walk makes clauses to these.
abbrev pub Adds : Walk Clause → List Clause → List Clause → Type 0
Adds walk made made' = Leaves walk [] made made'

-- The walk meets this limit first, whatever comes behind it.
pub record Ends (walk : Walk Clause) (made : List Clause) (why : PathLimit) : Type 0 where
  pub same : (others : Walk Clause) → made_on made (walk ++ others) ≡ Err why

-- The walk meets this limit first, unless memory ran out.
abbrev pub MeetsLimit : Walk Clause → List Clause → PathLimit → Type 0
MeetsLimit walk made why = (why ≡ limit.Memory) ⊎ Ends walk made why

module _ (from : Node) (v w : ℕ) where
  -- A clause of the condition's case and one of side A, for each of side B.
  abbrev pub second_walk : List (Path End) → List Row → Path End → Walk Clause
  second_walk ys condition x = each ys (λ y. coupled_walk from v w condition x y)

  -- A clause of the condition's case, for each of side A, for each of side B.
  abbrev pub both_walk : List (Path End) → List (Path End) → List Row → Walk Clause
  both_walk xs ys condition = each xs (λ x. second_walk ys condition x)
