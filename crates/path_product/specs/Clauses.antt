-- Coupled clauses: of a case of the condition, a case of side A and one of side B. The columns of each are moved to
-- where they stand among those of all; nothing is decided anew.
use Rattle.std.specs.Prelude.{ℕ, ◌+◌, ◌-◌, nat_le, if◌then◌else◌, List, [], ◌∷◌, ◌++◌, map, drop, replicate, Result, Ok, Err, ℤ, pos}
use Rattle.lin_terms.specs.declared.form.Form.{Form}
use Rattle.lin_terms.specs.declared.row.Row.{Row}
use Rattle.horn_clauses.specs.declared.node.Node.{Node}
use Rattle.horn_clauses.specs.declared.clause.Clause.{Clause}
use Rattle.horn_clauses.specs.Node.{node}
use Rattle.sym_paths.specs.declared.limit.PathLimit.{PathLimit}
use Rattle.sym_paths.specs.declared.limit.PathLimit.TheVariants as limit
use Rattle.sym_paths.specs.Walk.{Path, Arrives, Walk, stops, collect}
use Rattle.sym_paths.specs.Nodes.{End}
use Rattle.sym_paths.specs.Cases.{fitted}
use Rattle.horn_clauses.specs.Clause.{columns_in}
use Rattle.path_product.specs.Compose.{each}

-- Where the columns of one part stand among all: so many of others in front, its variables, a gap, its unknowns, and so
-- many of others behind.
pub record Spot : Type 0 where
  pub before : ℕ
  pub variables : ℕ
  pub gap : ℕ
  pub unknowns : ℕ
  pub behind : ℕ

-- So many zeros.
abbrev pub zeros : ℕ → List ℤ
zeros n = replicate n (pos 0)

-- The part's numbers among those of all, with zeros for the others.
abbrev pub placed : Spot → List ℤ → List ℤ
placed spot numbers =
    zeros spot.before ++ (fitted spot.variables numbers ++ (zeros spot.gap
    ++ (fitted spot.unknowns (drop spot.variables numbers) ++ zeros spot.behind)))

-- The same of a row.
abbrev pub placed_row : Spot → Row → Row
placed_row spot row = record { coefs = placed spot row.coefs; constant = row.constant; equality = row.equality }

-- The same of a form.
abbrev pub placed_form : Spot → Form → Form
placed_form spot form = record { coefs = placed spot form.coefs; constant = form.constant }

-- How many columns there are: the variables of side A and of side B, then the unknowns of the condition, of side A and
-- of side B.
pub record Columns : Type 0 where
  pub first : ℕ
  pub second : ℕ
  pub condition_unknowns : ℕ
  pub first_unknowns : ℕ
  pub second_unknowns : ℕ

-- All unknowns.
abbrev pub unknowns_in : Columns → ℕ
unknowns_in c = c.condition_unknowns + (c.first_unknowns + c.second_unknowns)

-- Where the condition's columns stand.
abbrev pub condition_spot : Columns → Spot
condition_spot c = record {
  before = 0;
  variables = c.first;
  gap = c.second;
  unknowns = c.condition_unknowns;
  behind = c.first_unknowns + c.second_unknowns;
}

-- Where those of side A stand.
abbrev pub first_spot : Columns → Spot
first_spot c = record {
  before = 0;
  variables = c.first;
  gap = c.second + c.condition_unknowns;
  unknowns = c.first_unknowns;
  behind = c.second_unknowns;
}

-- Where those of side B stand.
abbrev pub second_spot : Columns → Spot
second_spot c = record {
  before = c.first;
  variables = c.second;
  gap = c.condition_unknowns + c.first_unknowns;
  unknowns = c.second_unknowns;
  behind = 0;
}

-- The columns of three cases, where side A has v variables and side B w.
abbrev pub columns_of : ℕ → ℕ → List Row → Path End → Path End → Columns
columns_of v w condition x y = record {
  first = v;
  second = w;
  condition_unknowns = columns_in v condition [] - v;
  first_unknowns = x.state.columns - v;
  second_unknowns = y.state.columns - w;
}

-- The clause with these columns.
abbrev pub joined_clause : Node → Columns → List Row → Path End → Path End → Clause
joined_clause from c condition x y = record {
  from = from;
  rows = map (placed_row (condition_spot c)) condition ++ (map (placed_row (first_spot c)) x.state.rows
      ++ map (placed_row (second_spot c)) y.state.rows);
  to = node x.value.place y.value.place;
  after = map (placed_form (first_spot c)) x.value.forms ++ map (placed_form (second_spot c)) y.value.forms;
}

module _ (from : Node) (v w : ℕ) where
  -- The clause of three cases.
  abbrev pub coupled : List Row → Path End → Path End → Clause
  coupled condition x y = joined_clause from (columns_of v w condition x y) condition x y

  -- The same as what a walk meets: with a 17th unknown it is none.
  abbrev pub coupled_walk : List Row → Path End → Path End → Walk Clause
  coupled_walk condition x y =
      if nat_le (unknowns_in (columns_of v w condition x y)) 16
      then Arrives (record { state = record { rows = []; columns = 0 }; value = coupled condition x y }) ∷ []
      else stops limit.ManyUnknowns

  -- A clause for each case of the condition, for each of side A, for each of side B.
  abbrev pub clause_walk : List (List Row) → List (Path End) → List (Path End) → Walk Clause
  clause_walk conditions xs ys =
      each conditions (λ condition. each xs (λ x. each ys (λ y. coupled_walk condition x y)))

-- What the paths arrive at, where there is no limit.
abbrev pub values_of_all : {A : Type 0} → Result (List (Path A)) PathLimit → Result (List A) PathLimit
values_of_all (Ok paths) = Ok (map (λ path. path.value) paths)
values_of_all (Err limit) = Err limit

-- The clauses of a node, at most 1,024, or the first limit that is met.
abbrev pub clauses_of : Node → ℕ → ℕ → List (List Row) → List (Path End) → List (Path End)
    → Result (List Clause) PathLimit
clauses_of from v w conditions xs ys = values_of_all (collect 1024 (clause_walk from v w conditions xs ys))

-- One case without a row: what stands for the condition's cases where it is not asked.
abbrev pub no_rows : List (List Row)
no_rows = [] ∷ []
