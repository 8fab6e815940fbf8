-- Where a product is made, it is closed, its nodes and clauses fit, and its clauses and the moves of both sides agree.
use Rattle.std.proofs.Common.{◌≡◌, ◌≢◌, ◌↔◌, ℕ, ◌+◌, ◌≤◌, ◌^◌, Bool, true, false, cond, ◌⊎◌, inl, inr, List, [], ◌++◌, length, All, Contains, refl, sym, ap, subst, ◌∙◌, arith}
use Rattle.std.specs.Prelude.{ℤ, Result, Ok}
use Rattle.std.proofs.lemmas.List.Elements.{All-nil}
use Rattle.c_ast.specs.declared.place.Place.{Place}
use Rattle.c_ast.specs.declared.place.Place.TheVariants as place
use Rattle.c_ast.specs.Tree.{Expression}
use Rattle.c_ast.specs.Value.{CanEvaluate}
use Rattle.c_ast.specs.Condition.{Meets}
use Rattle.lin_terms.specs.declared.row.Row.{Row}
use Rattle.lin_terms.specs.Row.{EntriesAreBelow}
use Rattle.flow_graph.specs.FlowGraph.{FlowGraph, width_at, HasPlace}
use Rattle.flow_graph.specs.Run.{IsGraphSegment}
use Rattle.flow_graph.specs.WellFormed.{IsFlowGraph}
use Rattle.flow_graph.proofs.Laws.{graph_segment_is_determined, entry_has_parameters}
use Rattle.alignment.specs.Moves.{Takes}
use Rattle.alignment.proofs.Laws.{moves_once}
use Rattle.horn_clauses.specs.declared.node.Node.{Node}
use Rattle.horn_clauses.specs.declared.clause.Clause.{Clause}
use Rattle.horn_clauses.specs.declared.clause.Product.{Product}
use Rattle.horn_clauses.specs.Node.{node, entries, exits, is_same_node}
use Rattle.horn_clauses.specs.Clause.{FitsClause, LeadsTo}
use Rattle.horn_clauses.proofs.Laws.{law_of_nodes}
use Rattle.sym_paths.specs.Walk.{Path}
use Rattle.sym_paths.specs.Points.{SomeOf, ReachedFrom}
use Rattle.sym_paths.specs.Nodes.{End}
use Rattle.sym_paths.specs.Condition.{HoldAt}
use Rattle.sym_paths.specs.Fits.{FitsInputs}
use Rattle.sym_paths.proofs.Laws.{law_of_conditions, cases_fit, conditions_fit}
use Rattle.path_product.specs.declared.starts.Start.{Start}
use Rattle.path_product.specs.declared.limit.ProductLimit.{ProductLimit}
use Rattle.path_product.specs.Starts.{width_in}
use Rattle.path_product.specs.Fits.{FitsPath, FitStarts}
use Rattle.path_product.specs.Clauses.{coupled, no_rows}
use Rattle.path_product.specs.Product.{moves_at, conditions_at, clauses_at, all_places, all_nodes, product_of_visits}
use Rattle.path_product.specs.Agreement.{HasNode, FitsItsNodes, Move, SomeClause, Agrees, IsProduct}
use Rattle.path_product.specs.Laws.{LawOfProducts}
use Rattle.path_product.proofs.Places.{IsIn, contains_in, all_in, in_all, in_each, some_in, in_some, same_or_other, in_pairs, from_pairs, rise_pairs}
use Rattle.path_product.proofs.Closing.{HasAll, HasClauses, visits_closed, kept_inside, clauses_there, clause_made}
use Rattle.path_product.proofs.StartsFit.{widths_are, starts_have, starts_fit}
use Rattle.path_product.proofs.PathsFit.{paths_fit}
use Rattle.path_product.proofs.Begins.{EndsAs, IsRightFrom}
use Rattle.path_product.proofs.Sides.{side_paths_begin}
use Rattle.path_product.proofs.Coupling.{IsCoupled, clause_coupled, coupled_in}
use Rattle.path_product.proofs.ClausesFit.{coupled_fits}
use Rattle.path_product.proofs.Agreeing.{Leads, coupled_leads, ShowsMoves, coupled_shows}
use Rattle.path_product.proofs.Taken.{exit_in, start_in, in_starts, rise_places, IsMade, clauses_taken, IsDone, product_done}

module _ (first second : FlowGraph) (condition : Expression) (alignment : ℕ)
    (is_first : IsFlowGraph first) (is_second : IsFlowGraph second) (can : CanEvaluate first.params condition)
    (product : Product) (done : IsDone first second condition alignment product) where
  abbrev lefts : List Start
  lefts = done.first_starts

  abbrev rights : List Start
  rights = done.second_starts

  abbrev all : List Node
  all = all_nodes done.first_starts done.second_starts

  abbrev clauses_from : Node → Result (List Clause) ProductLimit
  clauses_from = clauses_at done.first_starts done.second_starts alignment done.cases

  abbrev made_product : Product
  made_product = product_of_visits (all_nodes done.first_starts done.second_starts) done.visits

  lefts_fit : FitStarts lefts
  lefts_fit = starts_fit cases_fit first is_first lefts done.first_are

  rights_fit : FitStarts rights
  rights_fit = starts_fit cases_fit second is_second rights done.second_are

  -- both places of a node are their graph's
  left_place : (n : Node) → IsIn n all → HasPlace first n.0
  left_place n has =
      (starts_have first lefts done.first_are n.0).0 (in_starts lefts n.0 (from_pairs n (all_places lefts) (all_places rights) has).0)

  right_place : (n : Node) → IsIn n all → HasPlace second n.1
  right_place n has =
      (starts_have second rights done.second_are n.1).0 (in_starts rights n.1 (from_pairs n (all_places lefts) (all_places rights) has).1)

  left_width : (l : Place) → HasPlace first l → width_in lefts l ≡ width_at first l
  left_width = widths_are first lefts done.first_are

  right_width : (l : Place) → HasPlace second l → width_in rights l ≡ width_at second l
  right_width = widths_are second rights done.second_are

  -- ---- the condition's cases at a node

  inputs_at : (n : Node) → n ≡ entries → width_in lefts n.0 ≡ first.params
  inputs_at n at =
      ap (λ (z : Node). width_in lefts z.0) at ∙ left_width place.Entry tt ∙ entry_has_parameters first is_first

  none_fits : (v : ℕ) (rows : List Row) → IsIn rows no_rows → FitsInputs v rows
  none_fits v rows (inl same) =
      subst (FitsInputs v) (sym same) (record {
        columns = v;
        over = record {
          enough = omega arith;
          few = omega arith;
          lengths = All-nil (λ (row : Row). length row.coefs ≡ v);
          small = All-nil (EntriesAreBelow (2 ^ 50));
        };
      })
  none_fits v rows (inr never) = absurd never

  -- they are rows over side A's variables
  conditions_are_inputs : (n : Node) (rows : List Row) → IsIn rows (conditions_at lefts rights alignment done.cases n) → FitsInputs (width_in lefts n.0) rows
  conditions_are_inputs n rows = on (is_same_node n entries) refl
    where
      on : (same : Bool) → is_same_node n entries ≡ same → IsIn rows (cond same done.cases no_rows) → FitsInputs (width_in lefts n.0) rows
      on true is has =
          subst (λ (z : ℕ). FitsInputs z rows) (sym (inputs_at n ((law_of_nodes n entries).0 is)))
          (in_all (FitsInputs first.params) done.cases (conditions_fit first.params condition can done.cases done.cases_are) rows has)
      on false is has = none_fits (width_in lefts n.0) rows has

  -- where the condition holds at the entries, some case of it holds at the node
  condition_holds : (n : Node) (d : List ℤ) → length d ≡ width_in lefts n.0 → (n ≡ entries → Meets condition d)
      → SomeOf (HoldAt d) (conditions_at lefts rights alignment done.cases n)
  condition_holds n d long meets = on (is_same_node n entries) refl
    where
      on : (same : Bool) → is_same_node n entries ≡ same → SomeOf (HoldAt d) (cond same done.cases no_rows)
      on true is =
          let at = (law_of_nodes n entries).0 is in
          (law_of_conditions first.params condition can done.cases done.cases_are d (long ∙ inputs_at n at)).0 (meets at)
      on false is = inl ([], record { columns = All-nil _; holds = All-nil _ })

  -- and where a case of it holds at the entries, the condition does
  condition_is_met : (n : Node) (d : List ℤ) → length d ≡ width_in lefts n.0 → (rows : List Row)
      → IsIn rows (conditions_at lefts rights alignment done.cases n) → HoldAt d rows → n ≡ entries → Meets condition d
  condition_is_met n d long rows has hold at =
      (law_of_conditions first.params condition can done.cases done.cases_are d (long ∙ inputs_at n at)).1
      (some_in (HoldAt d) done.cases rows
      (subst (λ (b : Bool). IsIn rows (cond b done.cases no_rows)) ((law_of_nodes n entries).1 at) has) hold)

  -- ---- the clauses of a node

  module _ (n : Node) (has : IsIn n all) (clauses : List Clause) (made : IsMade lefts rights alignment done.cases n clauses) where
    paths_left : All (FitsPath lefts (width_in lefts n.0)) made.xs
    paths_left = paths_fit lefts lefts_fit (moves_at lefts rights alignment done.cases n).0 n.0
        (in_starts lefts n.0 (from_pairs n (all_places lefts) (all_places rights) has).0) made.xs made.left

    paths_right : All (FitsPath rights (width_in rights n.1)) made.ys
    paths_right = paths_fit rights rights_fit (moves_at lefts rights alignment done.cases n).1 n.1
        (in_starts rights n.1 (from_pairs n (all_places lefts) (all_places rights) has).1) made.ys made.right

    abbrev Coupled : Clause → Type 0
    Coupled = IsCoupled n (width_in lefts n.0) (width_in rights n.1) (conditions_at lefts rights alignment done.cases n) made.xs made.ys

    parts : (clause : Clause) → IsIn clause clauses → Coupled clause
    parts = clause_coupled n (width_in lefts n.0) (width_in rights n.1) (conditions_at lefts rights alignment done.cases n) made.xs made.ys clauses
        made.clauses_are

    ends_inside : (clause : Clause) → IsIn clause clauses → IsIn clause.to all
    ends_inside clause of =
        let p = parts clause of in
        subst (λ (z : Clause). IsIn z.to all) (sym p.is)
        (in_pairs p.x.value.place p.y.value.place (all_places lefts) (all_places rights)
        (start_in lefts p.x.value.place (in_all (FitsPath lefts (width_in lefts n.0)) made.xs paths_left p.x p.of_first).has)
        (start_in rights p.y.value.place (in_all (FitsPath rights (width_in rights n.1)) made.ys paths_right p.y p.of_second).has))

    clause_fits : (clause : Clause) → IsIn clause clauses → FitsItsNodes first second clause
    clause_fits clause of = on (parts clause of)
      where
        on : Coupled clause → FitsItsNodes first second clause
        on p = subst (FitsItsNodes first second) (sym p.is) fits
          where
            of_x : FitsPath lefts (width_in lefts n.0) p.x
            of_x = in_all (FitsPath lefts (width_in lefts n.0)) made.xs paths_left p.x p.of_first

            of_y : FitsPath rights (width_in rights n.1) p.y
            of_y = in_all (FitsPath rights (width_in rights n.1)) made.ys paths_right p.y p.of_second

            start_width : width_in lefts n.0 + width_in rights n.1 ≡ width_at first n.0 + width_at second n.1
            start_width = let one = left_width n.0 (left_place n has) in let other = right_width n.1 (right_place n has) in omega (arith, one, other)

            end_width : width_in lefts p.x.value.place + width_in rights p.y.value.place
                ≡ width_at first p.x.value.place + width_at second p.y.value.place
            end_width =
                let one = left_width p.x.value.place ((starts_have first lefts done.first_are p.x.value.place).0 of_x.has) in
                let other = right_width p.y.value.place ((starts_have second rights done.second_are p.y.value.place).0 of_y.has) in
                omega (arith, one, other)

            fits : FitsItsNodes first second (coupled n (width_in lefts n.0) (width_in rights n.1) p.condition p.x p.y)
            fits =
                subst (λ (k : ℕ). FitsClause k (width_at first p.x.value.place + width_at second p.y.value.place)
                (coupled n (width_in lefts n.0) (width_in rights n.1) p.condition p.x p.y)) start_width
                (subst (λ (k : ℕ). FitsClause (width_in lefts n.0 + width_in rights n.1) k
                (coupled n (width_in lefts n.0) (width_in rights n.1) p.condition p.x p.y)) end_width
                (coupled_fits lefts rights n (width_in lefts n.0) (width_in rights n.1) p.condition p.x p.y
                (conditions_are_inputs n p.condition p.of_condition) of_x of_y p.few))

  -- ---- the queue

  clauses_inside : (n : Node) (clauses : List Clause) (clause : Clause) → IsIn n all → IsIn clause clauses
      → ((n ≡ exits) × (clauses ≡ [])) ⊎ IsMade lefts rights alignment done.cases n clauses → IsIn clause.to all
  clauses_inside n clauses clause has of (inl none) = absurd (subst (IsIn clause) none.1 of)
  clauses_inside n clauses clause has of (inr made) = ends_inside n has clauses made clause of

  clauses_start : (n : Node) (clauses : List Clause) (clause : Clause) → IsIn clause clauses
      → ((n ≡ exits) × (clauses ≡ [])) ⊎ IsMade lefts rights alignment done.cases n clauses → clause.from ≡ n
  clauses_start n clauses clause of (inl none) = absurd (subst (IsIn clause) none.1 of)
  clauses_start n clauses clause of (inr made) =
      ap (λ (z : Clause). z.from)
      (clause_coupled n (width_in lefts n.0) (width_in rights n.1) (conditions_at lefts rights alignment done.cases n) made.xs made.ys clauses
      made.clauses_are clause of).is

  none_from_exits : (clauses : List Clause) → clauses_from exits ≡ Ok clauses → clauses ≡ []
  none_from_exits clauses made = cc

  has_all : HasAll clauses_from all
  has_all = record {
    begins = in_pairs place.Entry place.Entry (all_places lefts) (all_places rights) (start_in lefts place.Entry lefts_fit.entry)
        (start_in rights place.Entry rights_fit.entry);
    ends = in_pairs place.Exit place.Exit (all_places lefts) (all_places rights) (exit_in lefts) (exit_in rights);
    starts = λ n clauses clause made of. clauses_start n clauses clause of (clauses_taken lefts rights alignment done.cases n clauses made).either;
    inside = λ n clauses clause has made of.
        clauses_inside n clauses clause has of (clauses_taken lefts rights alignment done.cases n clauses made).either;
    quiet = none_from_exits;
    rise = rise_pairs (all_places lefts) (all_places rights) (rise_places first is_first lefts done.first_are)
        (rise_places second is_second rights done.second_are);
  }

  -- ---- nodes and clauses

  few_variables : (n : Node) → Contains made_product.nodes n → (n ≡ exits) ⊎ (n ≢ exits) → width_at first n.0 + width_at second n.1 ≤ 16
  few_variables n has (inl same) = subst (λ (z : Node). width_at first z.0 + width_at second z.1 ≤ 16) (sym same) (omega arith)
  few_variables n has (inr other) =
      let inside = kept_inside clauses_from all has_all done.visits done.visits_are n has in
      let there = clauses_there clauses_from all has_all done.visits done.visits_are n has other in
      let one = left_width n.0 (left_place n inside) in
      let its_other = right_width n.1 (right_place n inside) in
      omega (arith, (clauses_taken lefts rights alignment done.cases n there.clauses there.made).few, one, its_other)

  node_fits : (n : Node) → IsIn n made_product.nodes → HasNode first second n
  node_fits n has =
      let contained = contains_in n made_product.nodes has in
      let inside = kept_inside clauses_from all has_all done.visits done.visits_are n contained in
      record { left = left_place n inside; right = right_place n inside; few = few_variables n contained (same_or_other n exits) }

  clause_of_product_fits : (clause : Clause) → IsIn clause made_product.clauses → FitsItsNodes first second clause
  clause_of_product_fits clause has =
      let made = clause_made clauses_from all has_all done.visits done.visits_are clause has in
      on made.0 made.1 made.3 (clauses_taken lefts rights alignment done.cases clause.from made.0 made.2).either
    where
      on : (clauses : List Clause) → IsIn clause.from all → IsIn clause clauses
          → ((clause.from ≡ exits) × (clauses ≡ [])) ⊎ IsMade lefts rights alignment done.cases clause.from clauses → FitsItsNodes first second clause
      on clauses inside of (inl none) = absurd (subst (IsIn clause) none.1 of)
      on clauses inside of (inr made) = clause_fits clause.from inside clauses made clause of

  -- ---- moves and clauses

  abbrev Left : Node → List ℤ → Place → List ℤ → Type 0
  Left n d l' d' = Takes (IsGraphSegment first) (moves_at done.first_starts done.second_starts alignment done.cases n).0 n.0 d l' d'

  abbrev Right : Node → List ℤ → Place → List ℤ → Type 0
  Right n e r' e' = Takes (IsGraphSegment second) (moves_at done.first_starts done.second_starts alignment done.cases n).1 n.1 e r' e'

  module _ (n : Node) (has : IsIn n all) (clauses : List Clause) (made : IsMade lefts rights alignment done.cases n clauses) (d e : List ℤ)
      (long_left : length d ≡ width_at first n.0) (long_right : length e ≡ width_at second n.1) where
    left_long : length d ≡ width_in lefts n.0
    left_long = long_left ∙ sym (left_width n.0 (left_place n has))

    right_long : length e ≡ width_in rights n.1
    right_long = long_right ∙ sym (right_width n.1 (right_place n has))

    -- moves of both sides are some clause
    move_leads : (to : Node) (after : List ℤ) → Move first second condition alignment n d e to after
        → (clause : Clause) × IsIn clause clauses × (clause.to ≡ to) × LeadsTo (d ++ e) after clause
    move_leads to after move =
        by c.0 x.0 y.0 c.1 x.1 y.1
        (coupled_leads n (width_in lefts n.0) (width_in rights n.1) d e left_long right_long (Left n d) (Right n e) c.0 x.0 y.0 c.2 x.2 y.2)
      where
        c : (rows : List Row) × IsIn rows (conditions_at lefts rights alignment done.cases n) × HoldAt d rows
        c = in_some (HoldAt d) (conditions_at lefts rights alignment done.cases n) (condition_holds n d left_long move.meets)

        x : (path : Path End) × IsIn path made.xs × ReachedFrom d (EndsAs (Left n d)) path
        x = in_some (ReachedFrom d (EndsAs (Left n d))) made.xs
            (side_paths_begin first is_first lefts done.first_are lefts_fit (moves_at lefts rights alignment done.cases n).0 n.0 d (left_place n has)
            long_left made.xs made.left).complete

        y : (path : Path End) × IsIn path made.ys × ReachedFrom e (EndsAs (Right n e)) path
        y = in_some (ReachedFrom e (EndsAs (Right n e))) made.ys
            (side_paths_begin second is_second rights done.second_are rights_fit (moves_at lefts rights alignment done.cases n).1 n.1 e (right_place n has)
            long_right made.ys made.right).complete

        by : (rows : List Row) (one other : Path End) → IsIn rows (conditions_at lefts rights alignment done.cases n) → IsIn one made.xs
            → IsIn other made.ys
            → Leads n (width_in lefts n.0) (width_in rights n.1) d e left_long right_long (Left n d) (Right n e) rows one other
            → (clause : Clause) × IsIn clause clauses × (clause.to ≡ to) × LeadsTo (d ++ e) after clause
        by rows one other of_condition of_first of_second found =
            let same = moves_once (IsGraphSegment first) (IsGraphSegment second) (graph_segment_is_determined first) (graph_segment_is_determined second)
            alignment n.0 n.1 d e one.value.place other.value.place found.left found.right to.0 to.1 move.left move.right
            (record { first = found.of_first; second = found.of_second }) move.moves in (
              coupled n (width_in lefts n.0) (width_in rights n.1) rows one other,
              coupled_in n (width_in lefts n.0) (width_in rights n.1) (conditions_at lefts rights alignment done.cases n) made.xs made.ys clauses
                  made.clauses_are rows one other of_condition of_first of_second,
              ap (λ (z : Place). node z other.value.place) same.0 ∙ ap (λ (z : Place). node to.0 z) same.1,
              subst (λ (z : List ℤ). LeadsTo (d ++ e) z (coupled n (width_in lefts n.0) (width_in rights n.1) rows one other))
                  (ap (λ (z : List ℤ). z ++ found.right) same.2 ∙ ap (λ (z : List ℤ). move.left ++ z) same.3 ∙ sym move.both)
                  found.leads,
            )

    -- a clause that leads shows moves of both sides
    clause_moves : (to : Node) (after : List ℤ) (clause : Clause) → IsIn clause clauses → clause.to ≡ to → LeadsTo (d ++ e) after clause
        → Move first second condition alignment n d e to after
    clause_moves to after clause of ends leads = on (parts n has clauses made clause of)
      where
        on : Coupled n has clauses made clause → Move first second condition alignment n d e to after
        on p = record {
          meets = condition_is_met n d left_long p.condition p.of_condition shown.meets;
          left = shown.left;
          right = shown.right;
          moves = record {
            first = subst (λ (z : Place). Left n d z shown.left) (ap (λ (z : Node). z.0) end) shown.of_first;
            second = subst (λ (z : Place). Right n e z shown.right) (ap (λ (z : Node). z.1) end) shown.of_second;
          };
          both = shown.both;
        }
          where
            end : node p.x.value.place p.y.value.place ≡ to
            end = sym (ap (λ (z : Clause). z.to) p.is) ∙ ends

            shown : ShowsMoves n (width_in lefts n.0) (width_in rights n.1) d e left_long right_long (Left n d) (Right n e) p.condition p.x p.y after
            shown =
                coupled_shows n (width_in lefts n.0) (width_in rights n.1) d e left_long right_long (Left n d) (Right n e) p.condition p.x p.y
                (conditions_are_inputs n p.condition p.of_condition)
                (in_each (IsRightFrom d (EndsAs (Left n d))) made.xs
                (side_paths_begin first is_first lefts done.first_are lefts_fit (moves_at lefts rights alignment done.cases n).0 n.0 d (left_place n has)
                long_left made.xs made.left).sound p.x p.of_first)
                (in_each (IsRightFrom e (EndsAs (Right n e))) made.ys
                (side_paths_begin second is_second rights done.second_are rights_fit (moves_at lefts rights alignment done.cases n).1 n.1 e (right_place n has)
                long_right made.ys made.right).sound p.y p.of_second)
                after (subst (LeadsTo (d ++ e) after) p.is leads)

  agrees : Agrees first second condition alignment made_product
  agrees n has other d e long_left long_right to after = on (clauses_taken lefts rights alignment done.cases n there.clauses there.made).either
    where
      inside : IsIn n all
      inside = kept_inside clauses_from all has_all done.visits done.visits_are n has

      there : HasClauses clauses_from all has_all done.visits done.visits_are n
      there = clauses_there clauses_from all has_all done.visits done.visits_are n has other

      on : ((n ≡ exits) × (there.clauses ≡ [])) ⊎ IsMade lefts rights alignment done.cases n there.clauses
          → Move first second condition alignment n d e to after ↔ SomeClause made_product n (d ++ e) to after
      on (inl none) = absurd (other none.0)
      on (inr made) = (
        λ move. let found = move_leads n inside there.clauses made d e long_left long_right to after move in
            let own = (there.those found.0).1 found.1 in
            some_in (λ clause. (clause.from ≡ n) × (clause.to ≡ to) × LeadsTo (d ++ e) after clause) made_product.clauses found.0 own.0
            (own.1, found.2, found.3),
        λ some. let found = in_some (λ clause. (clause.from ≡ n) × (clause.to ≡ to) × LeadsTo (d ++ e) after clause) made_product.clauses some in
            clause_moves n inside there.clauses made d e long_left long_right to after found.0
            ((there.those found.0).0 (found.1, found.2.0)) found.2.1 found.2.2,
      )

  pub made_is_product : IsProduct first second condition alignment product
  made_is_product = subst (IsProduct first second condition alignment) done.is (record {
    closed = visits_closed clauses_from all has_all done.visits done.visits_are;
    nodes = all_in (HasNode first second) made_product.nodes node_fits;
    clauses = all_in (FitsItsNodes first second) made_product.clauses clause_of_product_fits;
    agrees = agrees;
  })

-- Where a product is made, it is one.
pub law_of_products : LawOfProducts
law_of_products first second condition alignment product is_first is_second can named made =
    made_is_product first second condition alignment is_first is_second can product (product_done first second condition alignment product made)
