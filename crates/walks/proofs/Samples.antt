-- Walks worked out by hand.
use Rattle.std.proofs.Common.{◌≡◌, [], ◌∷◌, pos, refl}
use Rattle.c_ast.specs.declared.place.Place.TheVariants as place
use Rattle.c_ast.specs.declared.trace.Trace.{Trace}
use Rattle.c_ast.specs.declared.trace.Pair.{Pair}
use Rattle.alignment.specs.Counts.{table}
use Rattle.horn_clauses.specs.Node.{node, entries, exits}
use Rattle.walks.specs.Side.{taken}
use Rattle.walks.specs.Walk.{position, spot, positions_of, walk_of}

-- the trace of int f(int n) { int i = 0; while (__mark(7) & (i < n)) i = i + 1; return i; } on 1
abbrev counted : Trace
counted = record { events = record { mark = 7; values = pos 1 ∷ pos 0 ∷ [] } ∷ record { mark = 7; values = pos 1 ∷ pos 1 ∷ [] } ∷ []; result = pos 1 }

abbrev twice : Pair
twice = record { input = pos 1 ∷ []; first = counted; second = counted }

-- p = 0, q = 0, a = 1, b = 1: both sides move together.
together : walk_of 1 twice
    ≡ spot entries (pos 1 ∷ []) (pos 1 ∷ []) ∷ spot (node (place.Mark 7) (place.Mark 7)) (pos 1 ∷ pos 0 ∷ []) (pos 1 ∷ pos 0 ∷ [])
    ∷ spot (node (place.Mark 7) (place.Mark 7)) (pos 1 ∷ pos 1 ∷ []) (pos 1 ∷ pos 1 ∷ []) ∷ spot exits (pos 1 ∷ []) (pos 1 ∷ []) ∷ []
unfolding table
together = refl

-- p = 1: side A takes two segments from the entry, is out first, and waits there.
goes_ahead : walk_of 2 twice
    ≡ spot entries (pos 1 ∷ []) (pos 1 ∷ []) ∷ spot (node (place.Mark 7) (place.Mark 7)) (pos 1 ∷ pos 1 ∷ []) (pos 1 ∷ pos 0 ∷ [])
    ∷ spot (node place.Exit (place.Mark 7)) (pos 1 ∷ []) (pos 1 ∷ pos 1 ∷ []) ∷ spot exits (pos 1 ∷ []) (pos 1 ∷ []) ∷ []
unfolding table
goes_ahead = refl

-- a = 2: side A takes both segments from its mark.
goes_faster : positions_of 7 twice ≡ position 0 0 ∷ position 1 1 ∷ position 3 2 ∷ position 3 3 ∷ []
unfolding table
goes_faster = refl

-- no mark is passed, and side B passes one: the side that is out waits
abbrev uneven : Pair
uneven = record {
  input = [];
  first = record { events = []; result = pos 5 };
  second = record { events = record { mark = 3; values = [] } ∷ []; result = pos 6 };
}

waits : walk_of 1 uneven ≡ spot entries [] [] ∷ spot (node place.Exit (place.Mark 3)) (pos 5 ∷ []) [] ∷ spot exits (pos 5 ∷ []) (pos 6 ∷ []) ∷ []
unfolding table
waits = refl

abbrev two_marks : Trace
two_marks = record { events = record { mark = 7; values = [] } ∷ record { mark = 8; values = [] } ∷ record { mark = 8; values = [] } ∷ []; result = pos 0 }

-- From mark 7 a side stops at mark 8, though it may take three segments.
stops : taken two_marks 3 1 ≡ 2
stops = refl

-- From the entry it goes on to the second place, and from mark 8 to mark 8 and out.
goes_on : taken two_marks 3 0 ≡ 2
goes_on = refl

goes_out : taken two_marks 3 2 ≡ 4
goes_out = refl

-- At the exit it stays.
stays : taken two_marks 3 4 ≡ 4
stays = refl
