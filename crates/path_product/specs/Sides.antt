-- The cases of a side's move: so many segments, one after another.
use Rattle.std.specs.Prelude.{ℕ, zero, suc, Bool, true, false, List, map, Result}
use Rattle.c_ast.specs.declared.place.Place.{Place}
use Rattle.c_ast.specs.declared.place.Place.TheVariants as place
use Rattle.c_ast.specs.Place.{is_same_place}
use Rattle.sym_paths.specs.declared.limit.PathLimit.{PathLimit}
use Rattle.sym_paths.specs.declared.case.Case.{Case}
use Rattle.sym_paths.specs.Walk.{State, Path, Arrives, Walk, gives, onward, collect}
use Rattle.sym_paths.specs.Nodes.{End, end_at}
use Rattle.sym_paths.specs.Cases.{room_for, variables_from, start_state}
use Rattle.path_product.specs.declared.starts.Start.{Start}
use Rattle.horn_clauses.specs.Clause.{columns_in}
use Rattle.path_product.specs.Starts.{width_in, cases_in}
use Rattle.path_product.specs.Compose.{cases_over}

-- How a walk goes on from an end.
abbrev pub Onward : Type 0
Onward = End → State → Walk End

-- Whether a side that took a segment from the first place to the second goes on from there: from the entry it does, and
-- from a mark where it is at that mark again.
abbrev pub goes_on : Place → Place → Bool
goes_on place.Entry next = true
goes_on (place.Mark mark) next = is_same_place next (place.Mark mark)
goes_on place.Exit next = false

-- It goes on, or it stays.
abbrev pub goes_on_or_stays : Bool → Onward → Onward
goes_on_or_stays true others end state = others end state
goes_on_or_stays false others end state = gives end state

-- A segment from a place, and what comes behind it; at the exit a side stays.
abbrev pub moved : Place → Walk End → Onward → Onward
moved place.Exit segments others end state = gives end state
moved l segments others end state =
    onward segments (λ next after. goes_on_or_stays (goes_on l next.place) others next after)

-- A complete case, over so many variables of its start.
abbrev pub path_of : ℕ → Case → Path End
path_of width case = record {
  state = record { rows = case.rows; columns = columns_in width case.rows case.after };
  value = end_at case.to case.after;
}

-- Cases that are at hand, as what a walk meets.
abbrev pub walk_of_cases : ℕ → List Case → Walk End
walk_of_cases width cases = map (λ case. Arrives (path_of width case)) cases

-- The variables of a move's start, as forms of themselves.
abbrev pub at_start : ℕ → Place → End
at_start width l = end_at l (variables_from width 0 width)

module _ (starts : List Start) where
  -- At most so many segments more, from where the side is.
  abbrev pub side_from : ℕ → ℕ → Onward
  side_from most zero end state = gives end state
  side_from most (suc count) end state =
      moved end.place (cases_over most end.forms (cases_in starts end.place) state) (side_from most count) end state

  -- At most so many segments from a place. The first one's cases stay as they are.
  abbrev pub side_walk : ℕ → Place → Walk End
  side_walk zero l = gives (at_start (width_in starts l) l) (start_state (width_in starts l))
  side_walk (suc count) l =
      moved l (walk_of_cases (width_in starts l) (cases_in starts l)) (side_from (room_for (width_in starts l)) count)
      (at_start (width_in starts l) l) (start_state (width_in starts l))

  -- The cases of that move, at most 1,024, or the first limit that the walk meets.
  abbrev pub side_cases : ℕ → Place → Result (List (Path End)) PathLimit
  side_cases count l = collect 1024 (side_walk count l)
