-- What is left of a search: a list of moves, over one list of rows that they share.
use Rattle.std.specs.Prelude.{◌≡◌, ℕ, ◌<◌, ◌≤◌, ◌-◌, map, All, List, [], ◌∷◌, ◌++◌, length, take, Result, Ok, Err}
use Rattle.lin_terms.specs.declared.row.Row.{Row}
use Rattle.flow_graph.specs.FlowGraph.{FlowGraph}
use Rattle.sym_paths.specs.declared.limit.PathLimit.{PathLimit}
use Rattle.sym_paths.specs.declared.limit.PathLimit.TheVariants as limit
use Rattle.sym_paths.specs.declared.case.Case.{Case}
use Rattle.sym_paths.specs.declared.search.Waiting.{Waiting}
use Rattle.sym_paths.specs.declared.task.Entry.{Entry}
use Rattle.sym_paths.specs.Walk.{Walk, onward, collect, arrival_behind}
use Rattle.sym_paths.specs.Cases.{all_completed}
use Rattle.sym_paths.specs.Machine.{Pending, Move, resume, advanced}
use Rattle.sym_paths.specs.Heights.{weights}
use Rattle.sym_paths.specs.Arrivals.{fresh, entry_of, EntryIsSound}

-- What a step comes to, where so many rows stand in front.
abbrev pub waiting : ℕ → Entry → Waiting
waiting kept entry = record { kept = kept; entry = entry }

-- The moves, the next one first. Each keeps so many of the rows, and the moves behind it keep no more.
abbrev pub walk_of : List Row → List Waiting → Walk Move
walk_of rows [] = []
walk_of rows (next ∷ others) =
    arrival_behind (take next.kept rows) (entry_of next.entry) ∷ walk_of (take next.kept rows) others

-- The moves keep no more rows than there are.
abbrev pub AreKept : List Row → List Waiting → Type 0
AreKept rows [] = Unit {0}
AreKept rows (next ∷ others) = (next.kept ≤ length rows) × AreKept (take next.kept rows) others

-- Each of them can be taken.
abbrev pub AreSound : ℕ → FlowGraph → List Waiting → Type 0
AreSound room graph [] = Unit {0}
AreSound room graph (next ∷ others) = EntryIsSound room graph next.entry × AreSound room graph others

-- Cases that are made, and then those that are left to make, unless a limit is met.
abbrev pub behind_made : List Case → Result (List Case) PathLimit → Result (List Case) PathLimit
behind_made made (Ok cases) = Ok (made ++ cases)
behind_made made (Err why) = Err why

-- The limit is the wanted one, unless memory ran out.
abbrev pub IsLimit : {A : Type 0} → Result A PathLimit → PathLimit → Type 0
IsLimit wanted limit.Memory = Unit {0}
IsLimit wanted why = wanted ≡ Err why

-- Why a case does not join: there are 1,024 already, unless memory ran out.
abbrev pub IsOneTooMany : List Case → PathLimit → Type 0
IsOneTooMany made limit.Memory = Unit {0}
IsOneTooMany made limit.ManyPaths = length made ≡ 1024
IsOneTooMany made _ = ⊥

module _ (room : ℕ) (graph : FlowGraph) where
  -- The cases that are made, and then those that the search still makes, at most 1,024 in all, or the first limit.
  abbrev pub searched_from : List Row → List Waiting → List Case → Result (List Case) PathLimit
  searched_from rows work made =
      behind_made made (all_completed (collect (1024 - length made) (onward (walk_of rows work) (resume room graph))))

  -- What the search keeps: rows enough for each move, moves that can be taken, and at most 1,024 cases.
  pub record CanGoOn (rows : List Row) (work : List Waiting) (made : List Case) : Type 0 where
    pub kept : AreKept rows work
    pub sound : AreSound room graph work
    pub few : length made ≤ 1024

  -- A step of the search keeps what it makes, and is one step nearer to its end.
  pub record GoesOn (rows rows' : List Row) (work work' : List Waiting) (made made' : List Case) : Type 0 where
    pub can : CanGoOn rows' work' made'
    pub same : searched_from rows work made ≡ searched_from rows' work' made'
    pub nearer : weights graph (walk_of rows' work') < weights graph (walk_of rows work)

  -- A case under way comes to these moves, which wait in front of the others, with so many rows in front of theirs.
  pub record Comes (count : ℕ) (p : Pending) (columns : ℕ) (others work : List Waiting) : Type 0 where
    pub moves : List Entry
    pub are : map entry_of moves ≡ advanced room graph p (fresh columns)
    pub sound : All (EntryIsSound room graph) moves
    pub wait : work ≡ map (waiting count) moves ++ others
