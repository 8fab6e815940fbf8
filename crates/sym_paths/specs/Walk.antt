-- What a depth-first walk meets, in its order: what it arrives at, each with the rows on the way there, and limits.
use Rattle.std.specs.Prelude.{ℕ, zero, suc, List, [], ◌∷◌, ◌++◌, map, Result, Ok, Err}
use Rattle.lin_terms.specs.declared.row.Row.{Row}
use Rattle.sym_paths.specs.declared.limit.PathLimit.{PathLimit}
use Rattle.sym_paths.specs.declared.limit.PathLimit.TheVariants as limit

-- The rows so far, and how many columns are in use: the variables of the start, then the unknowns so far.
pub record State : Type 0 where
  pub rows : List Row
  pub columns : ℕ

-- What a walk arrives at, with the state there.
pub record Path (A : Type 0) : Type 0 where
  pub state : State
  pub value : A

-- A walk arrives, or it meets a limit.
pub data Arrival (A : Type 0) : Type 0 where
  Arrives : Path A → Arrival A
  Stops : PathLimit → Arrival A

-- All that a walk meets, in its order.
abbrev pub Walk : Type 0 → Type 0
Walk A = List (Arrival A)

module _ {A : Type 0} where
  -- The walk that arrives here at once.
  abbrev pub gives : A → State → Walk A
  gives value state = Arrives (record { state = state; value = value }) ∷ []

  -- The walk that meets this limit at once.
  abbrev pub stops : PathLimit → Walk A
  stops limit = Stops limit ∷ []

  -- One more path, unless a limit is met behind it.
  abbrev pub more : Path A → Result (List (Path A)) PathLimit → Result (List (Path A)) PathLimit
  more path (Ok paths) = Ok (path ∷ paths)
  more path (Err limit) = Err limit

  -- All that the walk arrives at, or the first limit that it meets; that there are more than n is one.
  abbrev pub collect : ℕ → Walk A → Result (List (Path A)) PathLimit
  collect n [] = Ok []
  collect n (Stops limit ∷ walk) = Err limit
  collect zero (Arrives path ∷ walk) = Err limit.ManyPaths
  collect (suc n) (Arrives path ∷ walk) = more path (collect n walk)

-- From each thing that a walk arrives at it goes on.
abbrev pub onward : {A B : Type 0} → Walk A → (A → State → Walk B) → Walk B
onward [] next = []
onward (Arrives path ∷ walk) next = next path.value path.state ++ onward walk next
onward (Stops limit ∷ walk) next = Stops limit ∷ onward walk next

-- The state with these rows in front.
abbrev pub behind : List Row → State → State
behind front state = record { rows = front ++ state.rows; columns = state.columns }

-- What a walk meets, with these rows in front.
abbrev pub arrival_behind : {A : Type 0} → List Row → Arrival A → Arrival A
arrival_behind front (Arrives path) = Arrives (record { state = behind front path.state; value = path.value })
arrival_behind front (Stops limit) = Stops limit

-- The same of all that it meets.
abbrev pub walk_behind : {A : Type 0} → List Row → Walk A → Walk A
walk_behind front walk = map (arrival_behind front) walk
