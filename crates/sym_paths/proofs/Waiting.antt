-- Steps of the search over shared rows are steps of the walk.
use Rattle.std.proofs.Common.{◌≡◌, ℕ, zero, suc, ◌+◌, ◌-◌, ◌<◌, ◌≤◌, List, [], ◌∷◌, ◌++◌, length, take, map, All, refl, sym, ap, subst, ◌∙◌, append_assoc, append-nil, length-append, arith}
use Rattle.std.specs.Prelude.{Result, Ok, Err}
use Rattle.std.proofs.lemmas.List.{take_all}
use Rattle.std.proofs.lemmas.List.Elements.{All-head, All-tail}
use Rattle.c_ast.specs.declared.place.Place.{Place}
use Rattle.lin_terms.specs.declared.row.Row.{Row}
use Rattle.flow_graph.specs.FlowGraph.{FlowGraph}
use Rattle.sym_paths.specs.declared.limit.PathLimit.{PathLimit}
use Rattle.sym_paths.specs.declared.limit.PathLimit.TheVariants as limit
use Rattle.sym_paths.specs.declared.case.Case.{Case}
use Rattle.sym_paths.specs.declared.search.Waiting.{Waiting}
use Rattle.sym_paths.specs.declared.task.Entry.{Entry}
use Rattle.sym_paths.specs.declared.task.Entry.TheVariants as entry
use Rattle.sym_paths.specs.declared.task.Move as coded_move
use Rattle.sym_paths.specs.declared.task.Move.TheVariants as move
use Rattle.sym_paths.specs.declared.task.Pending as coded_pending
use Rattle.sym_paths.specs.Walk.{State, Path, Arrives, Stops, Walk, onward, more, collect, arrival_behind, walk_behind}
use Rattle.sym_paths.specs.Nodes.{End}
use Rattle.sym_paths.specs.Machine.{Pending, Move, Goes, Ends, resume, advanced}
use Rattle.sym_paths.specs.Heights.{move_height, weights}
use Rattle.sym_paths.specs.Cases.{completed, all_completed}
use Rattle.sym_paths.specs.Arrivals.{fresh, pending_of, move_of, entry_of, path_of, EntryIsSound}
use Rattle.sym_paths.specs.Waiting.{waiting, walk_of, AreKept, AreSound, behind_made, IsLimit, IsOneTooMany, searched_from, CanGoOn, GoesOn, Comes}
use Rattle.sym_paths.proofs.Searching.{next_step}
use Rattle.sym_paths.proofs.Falling.{search_ends, four_positive}
use Rattle.sym_paths.proofs.Prefix.{advanced_behind}

-- ---- rows that are shared

take_front : (n : ℕ) (rows own : List Row) → n ≤ length rows → take n (rows ++ own) ≡ take n rows
take_front zero rows own within = refl
take_front (suc n) [] own within = absurd (omega arith)
take_front (suc n) (row ∷ rows) own within = ap (λ (t : List Row). row ∷ t) (take_front n rows own (omega arith))

pub walk_more : (rows own : List Row) (work : List Waiting) → AreKept rows work → walk_of (rows ++ own) work ≡ walk_of rows work
walk_more rows own [] kept = refl
walk_more rows own (next ∷ others) kept =
    ap (λ (t : List Row). arrival_behind t (entry_of next.entry) ∷ walk_of t others) (take_front next.kept rows own kept.0)

pub kept_more : (rows own : List Row) (work : List Waiting) → AreKept rows work → AreKept (rows ++ own) work
kept_more rows own [] kept = tt
kept_more rows own (next ∷ others) kept =
    let long = length-append rows own in
    let few = kept.0 in
    (omega (arith, long, few), subst (λ (t : List Row). AreKept t others) (sym (take_front next.kept rows own kept.0)) kept.1)

all_rows : (rows : List Row) → take (length rows) rows ≡ rows
all_rows rows = take_all (length rows) rows (omega arith)

-- what a step comes to, in front of the others
pub walk_waited : (rows : List Row) (moves : List Entry) (work : List Waiting)
    → walk_of rows (map (waiting (length rows)) moves ++ work) ≡ walk_behind rows (map entry_of moves) ++ walk_of rows work
walk_waited rows [] work = refl
walk_waited rows (entry ∷ moves) work =
    ap (λ (t : List Row). arrival_behind t (entry_of entry) ∷ walk_of t (map (waiting (length rows)) moves ++ work)) (all_rows rows)
    ∙ ap (λ (t : Walk Move). arrival_behind rows (entry_of entry) ∷ t) (walk_waited rows moves work)

pub kept_waited : (rows : List Row) (moves : List Entry) (work : List Waiting) → AreKept rows work
    → AreKept rows (map (waiting (length rows)) moves ++ work)
kept_waited rows [] work kept = kept
kept_waited rows (entry ∷ moves) work kept =
    (omega arith, subst (λ (t : List Row). AreKept t (map (waiting (length rows)) moves ++ work)) (sym (all_rows rows)) (kept_waited rows moves work kept))

pub sound_waited : (room : ℕ) (graph : FlowGraph) (kept : ℕ) (moves : List Entry) (work : List Waiting) → All (EntryIsSound room graph) moves
    → AreSound room graph work → AreSound room graph (map (waiting kept) moves ++ work)
sound_waited room graph kept [] work sound others = others
sound_waited room graph kept (entry ∷ moves) work sound others = (
  All-head (EntryIsSound room graph) entry moves sound,
  sound_waited room graph kept moves work
      (All-tail (EntryIsSound room graph) entry moves sound) others,
)

-- ---- steps

collect_stops : {A : Type 0} (n : ℕ) (why : PathLimit) (walk : Walk A) → collect n (Stops why ∷ walk) ≡ Err why
collect_stops zero why walk = refl
collect_stops (suc n) why walk = refl

module _ (room : ℕ) (graph : FlowGraph) where
  pub stopped : (rows : List Row) (others : List Waiting) (made : List Case) (why : PathLimit) (walk : Walk Move)
      → behind_made made (all_completed (collect (1024 - length made) (onward (Stops why ∷ walk) (resume room graph)))) ≡ Err why
  stopped rows others made why walk =
      ap (λ (r : Result (List (Path End)) PathLimit). behind_made made (all_completed r))
      (collect_stops (1024 - length made) why (onward walk (resume room graph)))

  made_more : (made : List Case) (path : Path End) (r : Result (List (Path End)) PathLimit)
      → behind_made made (all_completed (more path r)) ≡ behind_made (made ++ completed path ∷ []) (all_completed r)
  made_more made path (Ok paths) = ap (λ (cases : List Case). Ok cases) (sym (append_assoc made (completed path ∷ []) (map completed paths)))
  made_more made path (Err why) = refl

  -- one more case
  ended_same : (made : List Case) (path : Path End) (walk : Walk Move) → length made < 1024
      → behind_made made (all_completed (collect (1024 - length made)
      (onward (Arrives (record { state = path.state; value = Ends path.value }) ∷ walk) (resume room graph))))
      ≡ behind_made (made ++ completed path ∷ [])
      (all_completed (collect (1024 - length (made ++ completed path ∷ [])) (onward walk (resume room graph))))
  ended_same made path walk few =
      let long : length (made ++ completed path ∷ []) ≡ length made + 1 = length-append made (completed path ∷ []) in
      let one : 1024 - length made ≡ suc (1024 - length (made ++ completed path ∷ [])) = omega (arith, few, long) in
      ap (λ (n : ℕ). behind_made made (all_completed (collect n (onward (Arrives (record { state = path.state; value = Ends path.value }) ∷ walk)
      (resume room graph))))) one
      ∙ made_more made path (collect (1024 - length (made ++ completed path ∷ [])) (onward walk (resume room graph)))

  pub too_many : (made : List Case) (path : Path End) (walk : Walk Move) → length made ≡ 1024
      → behind_made made (all_completed (collect (1024 - length made)
      (onward (Arrives (record { state = path.state; value = Ends path.value }) ∷ walk) (resume room graph))))
      ≡ Err limit.ManyPaths
  too_many made path walk all =
      let none : 1024 - length made ≡ 0 = omega (arith, all) in
      ap (λ (n : ℕ). behind_made made (all_completed (collect n (onward (Arrives (record { state = path.state; value = Ends path.value }) ∷ walk)
      (resume room graph))))) none

  -- the moves that one case under way comes to
  module _ (kept own : List Row) (columns : ℕ) (p : Pending) (moves : List Entry)
      (are : map entry_of moves ≡ advanced room graph p (fresh columns)) (others : List Waiting) (are_kept : AreKept kept others) where
    abbrev rows : List Row
    rows = kept ++ own

    abbrev state : State
    state = record { rows = kept ++ own; columns = columns }

    moves_are : walk_of (kept ++ own) (map (waiting (length (kept ++ own))) moves ++ others) ≡ advanced room graph p state ++ walk_of kept others
    moves_are =
        walk_waited (kept ++ own) moves others
        ∙ ap (λ (w : Walk Move). walk_behind (kept ++ own) (map entry_of moves) ++ w) (walk_more kept own others are_kept)
        ∙ ap (λ (w : Walk Move). walk_behind (kept ++ own) w ++ walk_of kept others) are
        ∙ ap (λ (w : Walk Move). w ++ walk_of kept others) (advanced_behind (kept ++ own) room graph p (fresh columns))
        ∙ ap (λ (t : List Row). advanced room graph p (record { rows = t; columns = columns }) ++ walk_of kept others) (append-nil (kept ++ own))

    pub gone_same : (made : List Case)
        → behind_made made (all_completed (collect (1024 - length made)
        (onward (Arrives (record { state = state; value = Goes p }) ∷ walk_of kept others) (resume room graph))))
        ≡ searched_from room graph (kept ++ own) (map (waiting (length (kept ++ own))) moves ++ others) made
    gone_same made =
        ap (λ (r : Result (List (Path End)) PathLimit). behind_made made (all_completed r))
        (next_step room graph (1024 - length made) p state (walk_of kept others)
        ∙ ap (λ (w : Walk Move). collect (1024 - length made) (onward w (resume room graph))) (sym moves_are))

    pub gone_nearer : weights graph (walk_of (kept ++ own) (map (waiting (length (kept ++ own))) moves ++ others))
        < weights graph (Arrives (record { state = state; value = Goes p }) ∷ walk_of kept others)
    gone_nearer =
        subst (λ (w : Walk Move). weights graph w < weights graph (Arrives (record { state = state; value = Goes p }) ∷ walk_of kept others)) (sym moves_are)
        (search_ends room graph p state (walk_of kept others))

  -- ---- what a step of the search owes

  weight_some : (walk : Walk Move) (next : _) → weights graph walk < weights graph (next ∷ walk)
  weight_some walk (Arrives path) = let some = four_positive room graph (move_height graph path.value) in omega (arith, some)
  weight_some walk (Stops why) = omega arith

  module _ (rows : List Row) (next : Waiting) (others : List Waiting) (made : List Case) (can : CanGoOn room graph rows (next ∷ others) made) where
    -- a limit is met
    pub stops_is : (why : PathLimit) → next.entry ≡ entry.Stops why → IsLimit (searched_from room graph rows (next ∷ others) made) why
    stops_is why is = at why (ap (λ (e : Entry). behind_made made (all_completed (collect (1024 - length made)
        (onward (arrival_behind (take next.kept rows) (entry_of e) ∷ walk_of (take next.kept rows) others) (resume room graph))))) is
        ∙ stopped rows others made why (walk_of (take next.kept rows) others))
      where
        at : (why : PathLimit) → searched_from room graph rows (next ∷ others) made ≡ Err why → IsLimit (searched_from room graph rows (next ∷ others) made) why
        at limit.NonLinear is = is
        at limit.WideForm is = is
        at limit.ManyUnknowns is = is
        at limit.ManyPaths is = is
        at limit.Memory is = tt

    module _ (own : List Row) (columns : ℕ) (step : coded_move.Move) (is : next.entry ≡ entry.Arrives own columns step) where
      -- what is searched, with this move first
      searched_is : searched_from room graph rows (next ∷ others) made
          ≡ behind_made made (all_completed (collect (1024 - length made)
          (onward (Arrives (record { state = record { rows = take next.kept rows ++ own; columns = columns }; value = move_of step })
          ∷ walk_of (take next.kept rows) others) (resume room graph))))
      searched_is = ap (λ (e : Entry). behind_made made (all_completed (collect (1024 - length made)
          (onward (arrival_behind (take next.kept rows) (entry_of e) ∷ walk_of (take next.kept rows) others) (resume room graph))))) is

      weight_is : weights graph (walk_of rows (next ∷ others))
          ≡ weights graph (Arrives (record { state = record { rows = take next.kept rows ++ own; columns = columns }; value = move_of step })
          ∷ walk_of (take next.kept rows) others)
      weight_is = ap (λ (e : Entry). weights graph (arrival_behind (take next.kept rows) (entry_of e) ∷ walk_of (take next.kept rows) others)) is

      -- the rows that are kept then
      kept_then : AreKept (take next.kept rows ++ own) others
      kept_then = kept_more (take next.kept rows) own others can.kept.1

    -- a complete case joins
    pub ends_on : (own : List Row) (columns : ℕ) (to : Place) (forms : _) (rows' : List Row) (made' : List Case)
        → next.entry ≡ entry.Arrives own columns (move.Ends to forms) → rows' ≡ take next.kept rows ++ own → length made < 1024
        → made' ≡ made ++ completed (path_of rows' columns to forms.items) ∷ [] → GoesOn room graph rows rows' (next ∷ others) others made made'
    ends_on own columns to forms rows' made' is rows_is few made_is =
        let path : Path End = path_of (take next.kept rows ++ own) columns to forms.items in
        let made_is' : made' ≡ made ++ completed (path_of (take next.kept rows ++ own) columns to forms.items) ∷ [] =
        made_is ∙ ap (λ (rs : List Row). made ++ completed (path_of rs columns to forms.items) ∷ []) rows_is in
        let long : length (made ++ completed (path_of (take next.kept rows ++ own) columns to forms.items) ∷ []) ≡ length made + 1 =
        length-append made (completed (path_of (take next.kept rows ++ own) columns to forms.items) ∷ []) in
        rw (rows_is, made_is') (record {
          can = record { kept = kept_then own columns (move.Ends to forms) is; sound = can.sound.1; few = omega (arith, long, few) };
          same = searched_is own columns (move.Ends to forms) is
              ∙ ended_same made (path_of (take next.kept rows ++ own) columns to forms.items) (walk_of (take next.kept rows) others) few
              ∙ ap (λ (w : Walk Move). behind_made (made ++ completed (path_of (take next.kept rows ++ own) columns to forms.items) ∷ [])
              (all_completed (collect (1024 - length (made ++ completed (path_of (take next.kept rows ++ own) columns to forms.items) ∷ []))
              (onward w (resume room graph)))))
              (sym (walk_more (take next.kept rows) own others can.kept.1));
          nearer = subst (λ (w : Walk Move). weights graph w < weights graph (walk_of rows (next ∷ others)))
              (sym (walk_more (take next.kept rows) own others can.kept.1))
              (weight_some (walk_of (take next.kept rows) others) (arrival_behind (take next.kept rows) (entry_of next.entry)));
        })

    -- one case too many
    pub ends_is : (own : List Row) (columns : ℕ) (to : Place) (forms : _) (why : PathLimit)
        → next.entry ≡ entry.Arrives own columns (move.Ends to forms) → IsOneTooMany made why → IsLimit (searched_from room graph rows (next ∷ others) made) why
    ends_is own columns to forms limit.NonLinear is many = absurd many
    ends_is own columns to forms limit.WideForm is many = absurd many
    ends_is own columns to forms limit.ManyUnknowns is many = absurd many
    ends_is own columns to forms limit.ManyPaths is many =
        searched_is own columns (move.Ends to forms) is
        ∙ too_many made (path_of (take next.kept rows ++ own) columns to forms.items) (walk_of (take next.kept rows) others) many
    ends_is own columns to forms limit.Memory is many = tt

    -- a case under way takes its step
    pub goes_on : (own : List Row) (columns : ℕ) (p : coded_pending.Pending) (rows' : List Row) (work : List Waiting)
        → next.entry ≡ entry.Arrives own columns (move.Goes p) → rows' ≡ take next.kept rows ++ own
        → Comes room graph (length rows') (pending_of p) columns others work → GoesOn room graph rows rows' (next ∷ others) work made made
    goes_on own columns p rows' work is rows_is comes =
        let count : length rows' ≡ length (take next.kept rows ++ own) = ap (λ (rs : List Row). length rs) rows_is in
        let work_is : work ≡ map (waiting (length (take next.kept rows ++ own))) comes.moves ++ others =
        comes.wait ∙ ap (λ (n : ℕ). map (waiting n) comes.moves ++ others) count in
        rw (rows_is, work_is) (record {
          can = record {
            kept = kept_waited (take next.kept rows ++ own) comes.moves others (kept_then own columns (move.Goes p) is);
            sound = sound_waited room graph (length (take next.kept rows ++ own)) comes.moves others comes.sound can.sound.1;
            few = can.few;
          };
          same = searched_is own columns (move.Goes p) is
              ∙ gone_same (take next.kept rows) own columns (pending_of p) comes.moves comes.are others can.kept.1 made;
          nearer = subst (λ (n : ℕ). weights graph (walk_of (take next.kept rows ++ own)
              (map (waiting (length (take next.kept rows ++ own))) comes.moves ++ others)) < n)
              (sym (weight_is own columns (move.Goes p) is))
              (gone_nearer (take next.kept rows) own columns (pending_of p) comes.moves comes.are others can.kept.1);
        })
