-- One side's walk, case after case, as the code gathers its paths.
use Rattle.std.proofs.Common.{◌≡◌, ◌≢◌, ℕ, zero, suc, ◌+◌, ◌-◌, ◌<◌, ◌≤◌, Bool, true, false, List, [], ◌∷◌, ◌++◌, length, drop, get_or, map, All, Option, Some, None, refl, sym, ap, subst, ◌∙◌, inl, inr, append-nil, append_assoc, length-append, arith}
use Rattle.std.specs.Prelude.{◌⊎◌, Result, Ok, Err}
use Rattle.std.proofs.lemmas.List.{drop_more, drop_all, length-map}
use Rattle.std.proofs.lemmas.List.Elements.{All-get_or}
use Rattle.c_ast.specs.declared.place.Place.{Place}
use Rattle.c_ast.specs.declared.place.Place.TheVariants as place
use Rattle.c_ast.specs.Place.{is_same_place}
use Rattle.sym_paths.specs.declared.limit.PathLimit.{PathLimit}
use Rattle.sym_paths.specs.declared.case.Case.{Case}
use Rattle.sym_paths.specs.Walk.{State, Path, Arrives, Stops, Walk, gives, more, collect, onward}
use Rattle.sym_paths.specs.Nodes.{End}
use Rattle.lin_terms.specs.declared.row.Row.{Row}
use Rattle.path_product.specs.declared.compose.Reached.{Reached}
use Rattle.path_product.specs.declared.side.SidePath.{SidePath}
use Rattle.path_product.specs.declared.starts.Start.{Start}
use Rattle.path_product.specs.Starts.{start_at, width_of_start, width_in, cases_in}
use Rattle.path_product.specs.Fits.{FitsCase, FitsStart, FitStarts}
use Rattle.path_product.specs.Compose.{each, case_over, cases_over}
use Rattle.sym_paths.specs.Cases.{room_for, start_state}
use Rattle.path_product.specs.Sides.{Onward, walk_of_cases, at_start, side_walk, side_cases, goes_on, goes_on_or_stays, moved, side_from}
use Rattle.path_product.proofs.PathsFit.{found_has, cases_fit_in}
use Rattle.path_product.specs.Coded.{state_of, end_of, came, by_first, by_case, left_after, IsLimit, StopsAt, path_of_side, behind_paths, gathered}

-- ---- walks one after another

abbrev then_others : ℕ → Walk End → Result (List (Path End)) PathLimit → Result (List (Path End)) PathLimit
then_others n others (Err why) = Err why
then_others n others (Ok paths) = behind_paths paths (collect (n - length paths) others)

behind_nothing : (r : Result (List (Path End)) PathLimit) → behind_paths [] r ≡ r
behind_nothing (Ok paths) = refl
behind_nothing (Err why) = refl

behind_both : (first second : List (Path End)) (r : Result (List (Path End)) PathLimit)
    → behind_paths (first ++ second) r ≡ behind_paths first (behind_paths second r)
behind_both first second (Ok paths) = ap Ok (append_assoc first second paths)
behind_both first second (Err why) = refl

more_behind : (path : Path End) (paths : List (Path End)) (r : Result (List (Path End)) PathLimit)
    → more path (behind_paths paths r) ≡ behind_paths (path ∷ paths) r
more_behind path paths (Ok others) = refl
more_behind path paths (Err why) = refl

collect_append : (n : ℕ) (walk others : Walk End) → collect n (walk ++ others) ≡ then_others n others (collect n walk)
collect_append n [] others =
    let all : n - 0 ≡ n = omega arith in
    sym (behind_nothing (collect (n - 0) others) ∙ ap (λ (k : ℕ). collect k others) all)
collect_append n (Stops why ∷ walk) others = refl
collect_append zero (Arrives path ∷ walk) others = refl
collect_append (suc n) (Arrives path ∷ walk) others = ap (more path) (collect_append n walk others) ∙ by (collect n walk)
  where
    by : (r : Result (List (Path End)) PathLimit) → more path (then_others n others r) ≡ then_others (suc n) others (more path r)
    by (Err why) = refl
    by (Ok paths) =
        let same : n - length paths ≡ suc n - length (path ∷ paths) = omega arith in
        more_behind path paths (collect (n - length paths) others) ∙ ap (λ (k : ℕ). behind_paths (path ∷ paths) (collect k others)) same

module _ (made : List SidePath) (walk others : Walk End) where
  -- the paths of a walk are gathered, and then those of others
  pub gathered_on : (after : List SidePath) → gathered made walk ≡ Ok (map path_of_side after) → gathered made (walk ++ others) ≡ gathered after others
  gathered_on after is = ap (behind_paths (map path_of_side made)) (collect_append (1024 - length made) walk others) ∙ by (collect (1024 - length made) walk) is
    where
      by : (r : Result (List (Path End)) PathLimit) → behind_paths (map path_of_side made) r ≡ Ok (map path_of_side after)
          → behind_paths (map path_of_side made) (then_others (1024 - length made) others r) ≡ gathered after others
      by (Err why) is = absurd cc
      by (Ok paths) is =
          let both : map path_of_side made ++ paths ≡ map path_of_side after = cc in
          let count = ap length both in
          let sum = length-append (map path_of_side made) paths in
          let before = length-map made path_of_side in
          let behind = length-map after path_of_side in
          let left : 1024 - length made - length paths ≡ 1024 - length after = omega (arith, count, sum, before, behind) in
          sym (behind_both (map path_of_side made) paths (collect (1024 - length made - length paths) others))
          ∙ ap (λ (k : ℕ). behind_paths (map path_of_side made ++ paths) (collect k others)) left
          ∙ ap (λ (all : List (Path End)). behind_paths all (collect (1024 - length after) others)) both

  -- a limit that the first walk meets
  pub gathered_stops : (why : PathLimit) → IsLimit (gathered made walk) why → IsLimit (gathered made (walk ++ others)) why
  gathered_stops why (inl none) = inl none
  gathered_stops why (inr is) =
      inr (ap (behind_paths (map path_of_side made)) (collect_append (1024 - length made) walk others) ∙ by (collect (1024 - length made) walk) is)
    where
      by : (r : Result (List (Path End)) PathLimit) → behind_paths (map path_of_side made) r ≡ Err why
          → behind_paths (map path_of_side made) (then_others (1024 - length made) others r) ≡ Err why
      by (Err other) is = is
      by (Ok paths) is = absurd cc

-- a walk that meets nothing
pub gathered_none : (made : List SidePath) → gathered made [] ≡ Ok (map path_of_side made)
gathered_none made = ap Ok (append-nil (map path_of_side made))

-- ---- the next case

module _ {X : Type 0} (walk : X → Walk End) (others : Onward) (all : List X) (i : ℕ) (item : X) (below : i < length all) (is : item ≡ get_or all i item) where
  pub next_first : onward (each (drop i all) walk) others ≡ onward (walk item) others ++ onward (each (drop (i + 1) all) walk) others
  next_first =
      ap (λ (xs : List X). onward (each xs walk) others) (drop_more all i item below)
      ∙ ap (λ (x : X). onward (walk x ++ each (drop (i + 1) all) walk) others) (sym is)
      ∙ onward_append (walk item) (each (drop (i + 1) all) walk)
    where
      onward_append : (first second : Walk End) → onward (first ++ second) others ≡ onward first others ++ onward second others
      onward_append [] second = refl
      onward_append (Arrives path ∷ first) second =
          ap (λ (t : Walk End). others path.value path.state ++ t) (onward_append first second)
          ∙ sym (append_assoc (others path.value path.state) (onward first others) (onward second others))
      onward_append (Stops why ∷ first) second = ap (λ (t : Walk End). Stops why ∷ t) (onward_append first second)

pub none_left : {X : Type 0} (walk : X → Walk End) (others : Onward) (all : List X) (i : ℕ) → length all ≤ i → onward (each (drop i all) walk) others ≡ []
none_left {X} walk others all i past = ap (λ (xs : List X). onward (each xs walk) others) (drop_all i all past)

-- ---- a limit that a case meets

pub case_stops : (made : List SidePath) (walk : Walk End) (others : Onward) (why : PathLimit) → StopsAt walk why
    → IsLimit (gathered made (onward walk others)) why
case_stops made walk others why (inl none) = inl none
case_stops made walk others why (inr is) = inr (ap (λ (w : Walk End). gathered made (onward w others)) is)

-- ---- what comes behind a case that the walk arrives by

goes_or_stays : (b : Bool) (starts : List Start) (most count : ℕ) (end : End) (state : State)
    → goes_on_or_stays b (side_from starts most count) end state ≡ side_from starts most (left_after b count) end state
goes_or_stays true starts most count end state = refl
goes_or_stays false starts most count end state = refl

module _ (starts : List Start) (most count left : ℕ) (from : Place) (walk : Walk End) (rows : List Row) (next : Reached)
    (is : walk ≡ came rows (Some next)) (left_is : left ≡ left_after (goes_on from next.place) count) where
  pub taken_is : onward walk (λ to after. goes_on_or_stays (goes_on from to.place) (side_from starts most count) to after)
      ≡ side_from starts most left (end_of next) (state_of rows next.columns)
  taken_is =
      ap (λ (w : Walk End). onward w (λ to after. goes_on_or_stays (goes_on from to.place) (side_from starts most count) to after)) is
      ∙ append-nil (goes_on_or_stays (goes_on from next.place) (side_from starts most count) (end_of next) (state_of rows next.columns))
      ∙ goes_or_stays (goes_on from next.place) starts most count (end_of next) (state_of rows next.columns)
      ∙ ap (λ (n : ℕ). side_from starts most n (end_of next) (state_of rows next.columns)) (sym left_is)

-- ---- where the side goes on

pub side_goes : (starts : List Start) (most count left : ℕ) (end : End) (state : State) → count ≢ 0 → left ≡ count - 1
    → is_same_place end.place place.Exit ≡ false
    → side_from starts most count end state
    ≡ onward (cases_over most end.forms (cases_in starts end.place) state)
    (λ next after. goes_on_or_stays (goes_on end.place next.place) (side_from starts most left) next after)
side_goes starts most zero left end state some is elsewhere = absurd (some refl)
side_goes starts most (suc count) left end state some is elsewhere =
    let same : count ≡ left = omega (arith, is) in
    subst (λ (n : ℕ). side_from starts most (suc count) end state
    ≡ onward (cases_over most end.forms (cases_in starts end.place) state)
    (λ next after. goes_on_or_stays (goes_on end.place next.place) (side_from starts most n) next after)) same
    (at end.place elsewhere (cases_over most end.forms (cases_in starts end.place) state))
  where
    at : (l : Place) → is_same_place l place.Exit ≡ false → (segments : Walk End)
        → moved l segments (side_from starts most count) end state
        ≡ onward segments (λ next after. goes_on_or_stays (goes_on l next.place) (side_from starts most count) next after)
    at place.Entry elsewhere segments = refl
    at (place.Mark mark) elsewhere segments = refl
    at place.Exit elsewhere segments = absurd cc

-- ---- the loop over the cases of the next segment

module _ (starts : List Start) (most count : ℕ) (at : Reached) (rows : List Row) where
  abbrev behind_segment : Onward
  behind_segment next after = goes_on_or_stays (goes_on at.place next.place) (side_from starts most (count - 1)) next after

  -- the cases that are left
  abbrev pub left_walk : List Case → Walk End
  left_walk cases = onward (cases_over most at.forms cases (state_of rows at.columns)) behind_segment

  abbrev case_walk : List Row → Case → Walk End
  case_walk = by_case starts most (count - 1) at

  whole : count ≢ 0 → is_same_place at.place place.Exit ≡ false
      → side_from starts most count (end_of at) (state_of rows at.columns) ≡ left_walk (cases_in starts at.place)
  whole some elsewhere = side_goes starts most count (count - 1) (end_of at) (state_of rows at.columns) some refl elsewhere

  module _ (paths : List SidePath) (i : ℕ) (so_far : List SidePath)
      (same : gathered paths (left_walk (cases_in starts at.place)) ≡ gathered so_far (left_walk (drop i (cases_in starts at.place)))) where
    module _ (all : List Case) (all_is : all ≡ cases_in starts at.place) (item : Case) (below : i < length all) (is : item ≡ get_or all i item)
        (shared : List Row) (shared_is : shared ≡ rows) where
      next_is : left_walk (drop i (cases_in starts at.place)) ≡ case_walk shared item ++ left_walk (drop (i + 1) (cases_in starts at.place))
      next_is =
          ap (λ (cases : List Case). left_walk (drop i cases)) (sym all_is)
          ∙ next_first (λ case. case_over most at.forms case (state_of rows at.columns)) behind_segment all i item below is
          ∙ ap (λ (cases : List Case). case_walk rows item ++ left_walk (drop (i + 1) cases)) all_is
          ∙ ap (λ (rs : List Row). case_walk rs item ++ left_walk (drop (i + 1) (cases_in starts at.place))) (sym shared_is)

      -- the next case is gathered
      pub next_gathered : (after : List SidePath) → gathered so_far (case_walk shared item) ≡ Ok (map path_of_side after)
          → gathered paths (left_walk (cases_in starts at.place)) ≡ gathered after (left_walk (drop (i + 1) (cases_in starts at.place)))
      next_gathered after gives_these =
          same ∙ ap (gathered so_far) next_is
          ∙ gathered_on so_far (case_walk shared item) (left_walk (drop (i + 1) (cases_in starts at.place))) after gives_these

      -- the next case meets a limit
      pub next_stops : count ≢ 0 → is_same_place at.place place.Exit ≡ false → (why : PathLimit) → IsLimit (gathered so_far (case_walk shared item)) why
          → IsLimit (gathered paths (side_from starts most count (end_of at) (state_of rows at.columns))) why
      next_stops some elsewhere why limit_is =
          subst (λ (r : Result (List (Path End)) PathLimit). IsLimit r why)
          (sym (ap (gathered paths) (whole some elsewhere) ∙ same ∙ ap (gathered so_far) next_is))
          (gathered_stops so_far (case_walk shared item) (left_walk (drop (i + 1) (cases_in starts at.place))) why limit_is)

    -- all cases are gathered
    pub all_gathered : (all : List Case) → all ≡ cases_in starts at.place → length all ≤ i → count ≢ 0 → is_same_place at.place place.Exit ≡ false
        → gathered paths (side_from starts most count (end_of at) (state_of rows at.columns)) ≡ Ok (map path_of_side so_far)
    all_gathered all all_is past some elsewhere =
        ap (gathered paths) (whole some elsewhere) ∙ same
        ∙ ap (λ (cases : List Case). gathered so_far (left_walk (drop i cases))) (sym all_is)
        ∙ ap (gathered so_far) (none_left (λ case. case_over most at.forms case (state_of rows at.columns)) behind_segment all i past)
        ∙ gathered_none so_far

-- ---- the loop over the cases of the first segment

module _ (starts : List Start) (count : ℕ) (l : Place) where
  -- the cases that are left
  abbrev pub left_first : List Case → Walk End
  left_first cases =
      onward (walk_of_cases (width_in starts l) cases)
      (λ next after. goes_on_or_stays (goes_on l next.place) (side_from starts (room_for (width_in starts l)) (count - 1)) next after)

  abbrev case_first : Case → Walk End
  case_first = by_first starts (width_in starts l) (count - 1) l

  -- the side stays where it is
  pub stays : (at : Reached) (paths : List SidePath) → end_of at ≡ at_start (width_in starts l) l → at.columns ≡ width_in starts l
      → (count ≡ 0) ⊎ (is_same_place l place.Exit ≡ true)
      → gathered [] (gives (end_of at) (state_of [] at.columns)) ≡ side_cases starts count l
  stays at paths end_is columns_is none =
      behind_nothing (collect 1024 (gives (end_of at) (state_of [] at.columns)))
      ∙ ap (λ (end : End). collect 1024 (gives end (state_of [] at.columns))) end_is
      ∙ ap (λ (n : ℕ). collect 1024 (gives (at_start (width_in starts l) l) (state_of [] n))) columns_is
      ∙ ap (collect 1024) (sym (there none))
    where
      at_exit : (n : ℕ) (m : Place) → is_same_place m place.Exit ≡ true
          → side_walk starts n m ≡ gives (at_start (width_in starts m) m) (start_state (width_in starts m))
      at_exit zero m is = refl
      at_exit (suc n) place.Entry is = absurd cc
      at_exit (suc n) (place.Mark mark) is = absurd cc
      at_exit (suc n) place.Exit is = refl

      there : (count ≡ 0) ⊎ (is_same_place l place.Exit ≡ true)
          → side_walk starts count l ≡ gives (at_start (width_in starts l) l) (start_state (width_in starts l))
      there (inl none) = ap (λ (n : ℕ). side_walk starts n l) none
      there (inr is) = at_exit count l is

  abbrev whole_at : Place → ℕ → Walk End
  whole_at m n =
      onward (walk_of_cases (width_in starts m) (cases_in starts m))
      (λ next after. goes_on_or_stays (goes_on m next.place) (side_from starts (room_for (width_in starts m)) n) next after)

  whole_first : count ≢ 0 → is_same_place l place.Exit ≡ false → side_cases starts count l ≡ gathered [] (left_first (cases_in starts l))
  whole_first some elsewhere =
      ap (collect 1024) (by count l some elsewhere) ∙ sym (behind_nothing (collect 1024 (left_first (cases_in starts l))))
    where
      by : (n : ℕ) (m : Place) → n ≢ 0 → is_same_place m place.Exit ≡ false → side_walk starts n m ≡ whole_at m (n - 1)
      by zero m some elsewhere = absurd (some refl)
      by (suc n) place.Entry some elsewhere = let one : n ≡ suc n - 1 = omega arith in ap (whole_at place.Entry) one
      by (suc n) (place.Mark mark) some elsewhere = let one : n ≡ suc n - 1 = omega arith in ap (whole_at (place.Mark mark)) one
      by (suc n) place.Exit some elsewhere = absurd cc

  module _ (i : ℕ) (so_far : List SidePath)
      (same : gathered [] (left_first (cases_in starts l)) ≡ gathered so_far (left_first (drop i (cases_in starts l)))) where
    module _ (all : List Case) (all_is : all ≡ cases_in starts l) (item : Case) (below : i < length all) (is : item ≡ get_or all i item) where
      first_is : left_first (drop i (cases_in starts l)) ≡ case_first item ++ left_first (drop (i + 1) (cases_in starts l))
      first_is =
          ap (λ (cases : List Case). left_first (drop i cases)) (sym all_is)
          ∙ ap left_first (drop_more all i item below)
          ∙ ap (λ (case : Case). case_first case ++ left_first (drop (i + 1) all)) (sym is)
          ∙ ap (λ (cases : List Case). case_first item ++ left_first (drop (i + 1) cases)) all_is

      -- the next case is gathered
      pub first_gathered : (after : List SidePath) → gathered so_far (case_first item) ≡ Ok (map path_of_side after)
          → gathered [] (left_first (cases_in starts l)) ≡ gathered after (left_first (drop (i + 1) (cases_in starts l)))
      first_gathered after gives_these =
          same ∙ ap (gathered so_far) first_is ∙ gathered_on so_far (case_first item) (left_first (drop (i + 1) (cases_in starts l))) after gives_these

      -- the next case meets a limit
      pub first_stops : count ≢ 0 → is_same_place l place.Exit ≡ false → (why : PathLimit) → IsLimit (gathered so_far (case_first item)) why
          → IsLimit (side_cases starts count l) why
      first_stops some elsewhere why limit_is =
          subst (λ (r : Result (List (Path End)) PathLimit). IsLimit r why)
          (sym (whole_first some elsewhere ∙ same ∙ ap (gathered so_far) first_is))
          (gathered_stops so_far (case_first item) (left_first (drop (i + 1) (cases_in starts l))) why limit_is)

    -- all cases are gathered
    pub first_all : (all : List Case) → all ≡ cases_in starts l → length all ≤ i → count ≢ 0 → is_same_place l place.Exit ≡ false
        → side_cases starts count l ≡ Ok (map path_of_side so_far)
    first_all all all_is past some elsewhere =
        whole_first some elsewhere ∙ same
        ∙ ap (λ (cases : List Case). gathered so_far (left_first (drop i cases))) (sym all_is)
        ∙ ap (λ (cases : List Case). gathered so_far (left_first cases)) (drop_all i all past)
        ∙ gathered_none so_far

-- ---- what fits

few_at : (starts : List Start) → FitStarts starts → (l : Place) (o : Option Start) → start_at starts l ≡ o → width_of_start o ≤ 64
few_at starts fit l None found = omega arith
few_at starts fit l (Some start) found = (found_has (FitsStart starts) (λ start. is_same_place start.place l) starts fit.each start found).few

module _ (starts : List Start) (fit : FitStarts starts) (l : Place) where
  -- few variables are in scope at a place
  pub few_there : width_in starts l ≤ 64
  few_there = by l
    where
      by : (m : Place) → width_in starts m ≤ 64
      by place.Entry = few_at starts fit place.Entry (start_at starts place.Entry) refl
      by (place.Mark mark) = few_at starts fit (place.Mark mark) (start_at starts (place.Mark mark)) refl
      by place.Exit = omega arith

  -- the next case of those from a place fits
  pub case_fits_there : is_same_place l place.Exit ≡ false → (all : List Case) → all ≡ cases_in starts l → (i : ℕ) (item : Case) → i < length all
      → item ≡ get_or all i item → (n : ℕ) → n ≡ width_in starts l → FitsCase starts n item
  case_fits_there elsewhere all all_is i item below is n n_is =
      let other : l ≢ place.Exit = λ same. not_exit l same elsewhere in
      let fits = subst (All (FitsCase starts (width_in starts l))) (sym all_is) (cases_fit_in starts fit l other) in
      let found = All-get_or (FitsCase starts (width_in starts l)) all i item below fits in
      subst (λ (m : ℕ). FitsCase starts m item) (sym n_is) (subst (FitsCase starts (width_in starts l)) (sym is) found)
    where
      not_exit : (m : Place) → m ≡ place.Exit → is_same_place m place.Exit ≡ false → ⊥
      not_exit place.Entry same elsewhere = cc
      not_exit (place.Mark mark) same elsewhere = cc
      not_exit place.Exit same elsewhere = cc
