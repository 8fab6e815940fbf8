-- The queue: nodes that are taken, whatever clauses they have. With as many turns as there are nodes it is done.
use Rattle.std.proofs.Common.{◌≡◌, ◌≢◌, ◌↔◌, ℕ, zero, suc, ◌+◌, ◌≤◌, Bool, true, false, not, ◌||◌, ◌⊎◌, inl, inr, ⊎_elim, List, [], ◌∷◌, ◌++◌, length, Contains, refl, sym, ap, subst, ◌∙◌, true≢false, length-append, arith}
use Rattle.std.specs.Prelude.{Result, Ok, Err}
use Rattle.horn_clauses.specs.declared.node.Node.{Node}
use Rattle.horn_clauses.specs.declared.clause.Clause.{Clause}
use Rattle.horn_clauses.specs.Node.{entries, exits, is_same_node, StandsBefore}
use Rattle.horn_clauses.proofs.Laws.{law_of_nodes}
use Rattle.sym_paths.specs.Points.{EachOf}
use Rattle.path_product.specs.declared.limit.ProductLimit.{ProductLimit}
use Rattle.path_product.specs.Product.{is_among, put_if, kept, without, Visit, fresh, remaining, more_visits, visited, explored, nodes_of, all_clauses, product_of_visits}
use Rattle.path_product.specs.Agreement.{IsReached, IsClosed}
use Rattle.path_product.proofs.Places.{decide, or_first, or_second, or_either, node_is_itself, IsIn, contains_in, in_contained, in_left, in_right, in_either, all_in, each_in, in_each, put_has, put_keeps, put_from, put_length, in_map, from_map, among_in, in_among, in_kept, kept_from, stays_without, from_without, without_shorter, without_less, same_or_other, Rise, rise_joined, rise_kept, rise_ordered}

-- ---- new nodes

pub fresh_has : (left : List Node) (clauses : List Clause) (clause : Clause) → IsIn clause clauses → IsIn clause.to left
    → IsIn clause.to (fresh left clauses)
fresh_has left [] clause has meets = absurd has
fresh_has left (first ∷ clauses) clause (inl same) meets =
    let end : clause.to ≡ first.to = ap (λ (z : Clause). z.to) same in
    subst (λ (z : Node). IsIn z (fresh left (first ∷ clauses))) (sym end)
    (put_has (is_among first.to left) first.to (fresh (without first.to left) clauses)
    (among_in first.to left (subst (λ (z : Node). IsIn z left) end meets)))
fresh_has left (first ∷ clauses) clause (inr has) meets = go (fresh_has (without first.to left) clauses clause has) (same_or_other clause.to first.to)
  where
    go : (IsIn clause.to (without first.to left) → IsIn clause.to (fresh (without first.to left) clauses))
        → (clause.to ≡ first.to) ⊎ (clause.to ≢ first.to) → IsIn clause.to (fresh left (first ∷ clauses))
    go again (inl same) =
        subst (λ (z : Node). IsIn z (fresh left (first ∷ clauses))) (sym same)
        (put_has (is_among first.to left) first.to (fresh (without first.to left) clauses)
        (among_in first.to left (subst (λ (z : Node). IsIn z left) same meets)))
    go again (inr other) =
        put_keeps (is_among first.to left) first.to clause.to (fresh (without first.to left) clauses)
        (again (stays_without clause.to first.to left other meets))

fresh_or : (left : List Node) (clauses : List Clause) (n : Node) → IsIn n left → IsIn n (fresh left clauses) ⊎ IsIn n (remaining left clauses)
fresh_or left [] n meets = inr meets
fresh_or left (first ∷ clauses) n meets = go (fresh_or (without first.to left) clauses n) (same_or_other n first.to)
  where
    go : (IsIn n (without first.to left) → IsIn n (fresh (without first.to left) clauses) ⊎ IsIn n (remaining (without first.to left) clauses))
        → (n ≡ first.to) ⊎ (n ≢ first.to) → IsIn n (fresh left (first ∷ clauses)) ⊎ IsIn n (remaining left (first ∷ clauses))
    go again (inl same) =
        inl (subst (λ (z : Node). IsIn z (fresh left (first ∷ clauses))) (sym same)
        (put_has (is_among first.to left) first.to (fresh (without first.to left) clauses)
        (among_in first.to left (subst (λ (z : Node). IsIn z left) same meets))))
    go again (inr other) =
        ⊎_elim (λ new. inl (put_keeps (is_among first.to left) first.to n (fresh (without first.to left) clauses) new)) (λ old. inr old)
        (again (stays_without n first.to left other meets))

remaining_from : (left : List Node) (clauses : List Clause) (n : Node) → IsIn n (remaining left clauses) → IsIn n left
remaining_from left [] n has = has
remaining_from left (clause ∷ clauses) n has = from_without n clause.to left (remaining_from (without clause.to left) clauses n has)

-- a new node was not met before, and is the end of a clause
fresh_from : (left : List Node) (clauses : List Clause) (n : Node) → IsIn n (fresh left clauses)
    → IsIn n left × ((clause : Clause) × IsIn clause clauses × (n ≡ clause.to))
fresh_from left [] n has = absurd has
fresh_from left (clause ∷ clauses) n has =
    ⊎_elim
    (λ here. (subst (λ (z : Node). IsIn z left) (sym here.1) (in_among clause.to left here.0), (clause, inl refl, here.1)))
    (λ later. let found = fresh_from (without clause.to left) clauses n later in
    (from_without n clause.to left found.0, (found.1.0, inr found.1.1, found.1.2)))
    (put_from (is_among clause.to left) clause.to n (fresh (without clause.to left) clauses) has)

fresh_length : (left : List Node) (clauses : List Clause) → length (fresh left clauses) + length (remaining left clauses) ≤ length left
fresh_length left [] = omega arith
fresh_length left (clause ∷ clauses) = go (fresh_length (without clause.to left) clauses) (decide (is_among clause.to left))
  where
    go : length (fresh (without clause.to left) clauses) + length (remaining (without clause.to left) clauses) ≤ length (without clause.to left)
        → (is_among clause.to left ≡ true) ⊎ (is_among clause.to left ≡ false)
        → length (fresh left (clause ∷ clauses)) + length (remaining left (clause ∷ clauses)) ≤ length left
    go again (inl is) =
        omega (
          arith,
          again,
          without_less clause.to left (in_among clause.to left is),
          put_length (is_among clause.to left) clause.to (fresh (without clause.to left) clauses),
        )
    go again (inr is) =
        subst (λ (b : Bool). length (put_if b clause.to (fresh (without clause.to left) clauses))
        + length (remaining (without clause.to left) clauses) ≤ length left) (sym is)
        (omega (arith, again, without_shorter clause.to left))

-- ---- no node twice

-- No node stands in the list again.
abbrev pub AreDistinct : List Node → Type 0
AreDistinct = Rise (λ (m n : Node). m ≢ n)

not_within : (n : Node) (nodes : List Node) → ¬ IsIn n (without n nodes)
not_within n nodes has =
    true≢false (sym (kept_from (λ m. not (is_same_node n m)) n nodes has).1 ∙ ap not (node_is_itself n))

other_than : (n : Node) (nodes : List Node) → ¬ IsIn n nodes → EachOf (λ (m : Node). n ≢ m) nodes
other_than n nodes none = each_in (λ (m : Node). n ≢ m) nodes (λ m has same. none (subst (λ (z : Node). IsIn z nodes) (sym same) has))

fresh_distinct : (left : List Node) (clauses : List Clause) → AreDistinct (fresh left clauses)
fresh_distinct left [] = tt
fresh_distinct left (clause ∷ clauses) = on (is_among clause.to left) (fresh_distinct (without clause.to left) clauses)
  where
    on : (new : Bool) → AreDistinct (fresh (without clause.to left) clauses)
        → AreDistinct (put_if new clause.to (fresh (without clause.to left) clauses))
    on true others = (
      other_than clause.to (fresh (without clause.to left) clauses)
          (λ has. not_within clause.to left (fresh_from (without clause.to left) clauses clause.to has).0),
      others,
    )
    on false others = others

-- what is new is not left
fresh_gone : (left : List Node) (clauses : List Clause) (n : Node) → IsIn n (fresh left clauses) → ¬ IsIn n (remaining left clauses)
fresh_gone left [] n new old = absurd new
fresh_gone left (clause ∷ clauses) n new old =
    ⊎_elim
    (λ here. not_within clause.to left (subst (λ (z : Node). IsIn z (without clause.to left)) here.1 (remaining_from (without clause.to left) clauses n old)))
    (λ later. fresh_gone (without clause.to left) clauses n later old)
    (put_from (is_among clause.to left) clause.to n (fresh (without clause.to left) clauses) new)

-- ---- clauses of visits

clause_of : (visits : List Visit) (visit : Visit) (clause : Clause) → IsIn visit visits → IsIn clause visit.clauses
    → IsIn clause (all_clauses visits)
clause_of [] visit clause has of = absurd has
clause_of (first ∷ visits) visit clause (inl same) of =
    in_left clause first.clauses (all_clauses visits) (subst (λ (z : Visit). IsIn clause z.clauses) same of)
clause_of (first ∷ visits) visit clause (inr has) of =
    in_right clause first.clauses (all_clauses visits) (clause_of visits visit clause has of)

visit_of : (visits : List Visit) (clause : Clause) → IsIn clause (all_clauses visits)
    → (visit : Visit) × IsIn visit visits × IsIn clause visit.clauses
visit_of [] clause has = absurd has
visit_of (first ∷ visits) clause has =
    ⊎_elim (λ here. (first, inl refl, here)) (λ later. let found = visit_of visits clause later in (found.0, inr found.1, found.2))
    (in_either clause first.clauses (all_clauses visits) has)

pub ok_is : {A E : Type 0} (r : Result A E) (a b : A) → r ≡ Ok a → r ≡ Ok b → a ≡ b
ok_is r a b one other = cc

-- ---- the queue

module _ (clauses_from : Node → Result (List Clause) ProductLimit) where
  more_is : (visit : Visit) (r : Result (List Visit) ProductLimit) (visits : List Visit) → more_visits visit r ≡ Ok visits
      → (others : List Visit) × (r ≡ Ok others) × (visits ≡ visit ∷ others)
  more_is visit (Ok others) visits is = (others, refl, cc)
  more_is visit (Err limit) visits is = cc

  -- What was visited from a queue, where these nodes were not met yet.
  pub record IsVisited (queue left : List Node) (visits : List Visit) : Type 0 where
    -- all that is in the queue
    pub queued : (n : Node) → IsIn n queue → IsIn n (nodes_of visits)
    -- what was not met yet, where a clause ends there
    pub ends : (visit : Visit) (clause : Clause) → IsIn visit visits → IsIn clause visit.clauses → IsIn clause.to left
        → IsIn clause.to (nodes_of visits)
    -- each with its clauses
    pub made : (visit : Visit) → IsIn visit visits → clauses_from visit.node ≡ Ok visit.clauses
    -- and nothing else
    pub from : (n : Node) → IsIn n (nodes_of visits) → IsIn n queue ⊎ IsIn n left
    -- each once, where the queue has each once and none of those that were not met
    pub once : AreDistinct queue → ((n : Node) → IsIn n queue → ¬ IsIn n left) → AreDistinct (nodes_of visits)

  -- one visit in front of the others
  one_more : (n : Node) (queue left : List Node) (clauses : List Clause) (visits : List Visit) → clauses_from n ≡ Ok clauses
      → IsVisited (queue ++ fresh left clauses) (remaining left clauses) visits
      → IsVisited (n ∷ queue) left (record { node = n; clauses = clauses } ∷ visits)
  one_more n queue left clauses visits is others = record { queued = queued'; ends = ends'; made = made'; from = from'; once = once' }
    where
      queued' : (m : Node) → IsIn m (n ∷ queue) → IsIn m (n ∷ nodes_of visits)
      queued' m (inl same) = inl same
      queued' m (inr has) = inr (others.queued m (in_left m queue (fresh left clauses) has))

      later : (visit : Visit) (clause : Clause) → IsIn visit visits → IsIn clause visit.clauses
          → IsIn clause.to (fresh left clauses) ⊎ IsIn clause.to (remaining left clauses) → IsIn clause.to (nodes_of visits)
      later visit clause has of (inl new) = others.queued clause.to (in_right clause.to queue (fresh left clauses) new)
      later visit clause has of (inr old) = others.ends visit clause has of old

      ends' : (visit : Visit) (clause : Clause) → IsIn visit (record { node = n; clauses = clauses } ∷ visits) → IsIn clause visit.clauses
          → IsIn clause.to left → IsIn clause.to (n ∷ nodes_of visits)
      ends' visit clause (inl same) of meets =
          let own = subst (λ (z : Visit). IsIn clause z.clauses) same of in
          inr (others.queued clause.to (in_right clause.to queue (fresh left clauses) (fresh_has left clauses clause own meets)))
      ends' visit clause (inr has) of meets = inr (later visit clause has of (fresh_or left clauses clause.to meets))

      made' : (visit : Visit) → IsIn visit (record { node = n; clauses = clauses } ∷ visits) → clauses_from visit.node ≡ Ok visit.clauses
      made' visit (inl same) =
          ap (λ (z : Visit). clauses_from z.node) same ∙ is ∙ ap (λ (z : List Clause). Ok z) (sym (ap (λ (z : Visit). z.clauses) same))
      made' visit (inr has) = others.made visit has

      in_queue : (m : Node) → IsIn m queue ⊎ IsIn m (fresh left clauses) → IsIn m (n ∷ queue) ⊎ IsIn m left
      in_queue m (inl has) = inl (inr has)
      in_queue m (inr new) = inr (fresh_from left clauses m new).0

      behind : (m : Node) → IsIn m (queue ++ fresh left clauses) ⊎ IsIn m (remaining left clauses) → IsIn m (n ∷ queue) ⊎ IsIn m left
      behind m (inl has) = in_queue m (in_either m queue (fresh left clauses) has)
      behind m (inr old) = inr (remaining_from left clauses m old)

      from' : (m : Node) → IsIn m (n ∷ nodes_of visits) → IsIn m (n ∷ queue) ⊎ IsIn m left
      from' m (inl same) = inl (inl same)
      from' m (inr has) = behind m (others.from m has)

      seen : IsIn n queue ⊎ IsIn n (fresh left clauses) → ¬ IsIn n queue → ¬ IsIn n left → ⊥
      seen (inl has) away out = away has
      seen (inr new) away out = out (fresh_from left clauses n new).0

      again : IsIn n (queue ++ fresh left clauses) ⊎ IsIn n (remaining left clauses) → ¬ IsIn n queue → ¬ IsIn n left → ⊥
      again (inl has) away out = seen (in_either n queue (fresh left clauses) has) away out
      again (inr old) away out = out (remaining_from left clauses n old)

      gone : (m : Node) → IsIn m queue ⊎ IsIn m (fresh left clauses) → ((k : Node) → IsIn k (n ∷ queue) → ¬ IsIn k left)
          → ¬ IsIn m (remaining left clauses)
      gone m (inl has) apart old = apart m (inr has) (remaining_from left clauses m old)
      gone m (inr new) apart old = fresh_gone left clauses m new old

      once' : AreDistinct (n ∷ queue) → ((m : Node) → IsIn m (n ∷ queue) → ¬ IsIn m left) → AreDistinct (n ∷ nodes_of visits)
      once' distinct apart =
          let away : ¬ IsIn n queue = λ has. in_each (λ (m : Node). n ≢ m) queue distinct.0 n has refl in (
            other_than n (nodes_of visits) (λ has. again (others.from n has) away (apart n (inl refl))),
            others.once (rise_joined (λ (m k : Node). m ≢ k) queue (fresh left clauses) distinct.1 (fresh_distinct left clauses)
                (λ m k old new same. apart m (inr old) (subst (λ (z : Node). IsIn z left) (sym same) (fresh_from left clauses k new).0)))
                (λ m has. gone m (in_either m queue (fresh left clauses) has) apart),
          )

  pub explored_visits : (count : ℕ) (queue left : List Node) (visits : List Visit) → length queue + length left ≤ count
      → explored clauses_from count queue left ≡ Ok visits → IsVisited queue left visits
  explored_visits count [] left [] enough is = record {
    queued = λ n has. absurd has;
    ends = λ visit clause has of. absurd has;
    made = λ visit has. absurd has;
    from = λ n has. absurd has;
    once = λ distinct apart. tt;
  }
  explored_visits count [] left (visit ∷ visits) enough is = cc
  explored_visits zero (n ∷ queue) left visits enough is = absurd (omega arith)
  explored_visits (suc count) (n ∷ queue) left visits enough is = on (explored_visits count) (clauses_from n) refl is
    where
      on : ((queue' left' : List Node) (others : List Visit) → length queue' + length left' ≤ count
          → explored clauses_from count queue' left' ≡ Ok others → IsVisited queue' left' others)
          → (r : Result (List Clause) ProductLimit) → clauses_from n ≡ r
          → visited clauses_from n r (λ clauses. explored clauses_from count (queue ++ fresh left clauses) (remaining left clauses)) ≡ Ok visits
          → IsVisited (n ∷ queue) left visits
      on again (Err limit) made is = cc
      on again (Ok clauses) made is =
          let more = more_is (record { node = n; clauses = clauses })
          (explored clauses_from count (queue ++ fresh left clauses) (remaining left clauses)) visits is in
          let long = length-append queue (fresh left clauses) in
          let others = again (queue ++ fresh left clauses) (remaining left clauses) more.0
          (omega (arith, fresh_length left clauses, long, enough)) more.1 in
          subst (IsVisited (n ∷ queue) left) (sym more.2) (one_more n queue left clauses more.0 made others)

  -- What holds of the queue, and goes on along clauses, holds of all that is visited.
  pub explored_each : (P : Node → Type 0) (count : ℕ) (queue left : List Node) (visits : List Visit) → explored clauses_from count queue left ≡ Ok visits
      → ((n : Node) → IsIn n queue → P n)
      → ((visit : Visit) (clause : Clause) → IsIn visit visits → IsIn clause visit.clauses → P visit.node → P clause.to)
      → (n : Node) → IsIn n (nodes_of visits) → P n
  explored_each P count [] left [] is first goes m has = absurd has
  explored_each P count [] left (visit ∷ visits) is first goes m has = cc
  explored_each P zero (n ∷ queue) left [] is first goes m has = absurd has
  explored_each P zero (n ∷ queue) left (visit ∷ visits) is first goes m has = cc
  explored_each P (suc count) (n ∷ queue) left visits is first goes m has = on (explored_each P count) (clauses_from n) is
    where
      on : ((queue' left' : List Node) (others : List Visit) → explored clauses_from count queue' left' ≡ Ok others
          → ((k : Node) → IsIn k queue' → P k)
          → ((visit : Visit) (clause : Clause) → IsIn visit others → IsIn clause visit.clauses → P visit.node → P clause.to)
          → (k : Node) → IsIn k (nodes_of others) → P k)
          → (r : Result (List Clause) ProductLimit)
          → visited clauses_from n r (λ clauses. explored clauses_from count (queue ++ fresh left clauses) (remaining left clauses)) ≡ Ok visits
          → P m
      on again (Err limit) is = cc
      on again (Ok clauses) is = by more.0 more.1 more.2
        where
          more : (others : List Visit) × (explored clauses_from count (queue ++ fresh left clauses) (remaining left clauses) ≡ Ok others)
              × (visits ≡ record { node = n; clauses = clauses } ∷ others)
          more = more_is (record { node = n; clauses = clauses })
              (explored clauses_from count (queue ++ fresh left clauses) (remaining left clauses)) visits is

          by : (others : List Visit) → explored clauses_from count (queue ++ fresh left clauses) (remaining left clauses) ≡ Ok others
              → visits ≡ record { node = n; clauses = clauses } ∷ others → P m
          by others explored_is all = at (subst (λ (z : List Visit). IsIn m (nodes_of z)) all has)
            where
              along : (visit : Visit) (clause : Clause) → IsIn visit (record { node = n; clauses = clauses } ∷ others) → IsIn clause visit.clauses
                  → P visit.node → P clause.to
              along visit clause of = goes visit clause (subst (IsIn visit) (sym all) of)

              queued : (k : Node) → IsIn k queue ⊎ IsIn k (fresh left clauses) → P k
              queued k (inl old) = first k (inr old)
              queued k (inr new) =
                  let found = (fresh_from left clauses k new).1 in
                  subst P (sym found.2)
                  (along (record { node = n; clauses = clauses }) found.0 (inl refl) found.1 (first n (inl refl)))

              at : IsIn m (n ∷ nodes_of others) → P m
              at (inl same) = first m (inl same)
              at (inr later) = again (queue ++ fresh left clauses) (remaining left clauses) others explored_is
                  (λ k z. queued k (in_either k queue (fresh left clauses) z))
                  (λ visit clause of. along visit clause (inr of)) m later

  -- ---- from the two entries

  -- All nodes, in their order. Each clause of one of them starts there and ends at one of them, and the exits have none.
  pub record HasAll (all : List Node) : Type 0 where
    pub begins : IsIn entries all
    pub ends : IsIn exits all
    pub starts : (n : Node) (clauses : List Clause) (clause : Clause) → clauses_from n ≡ Ok clauses → IsIn clause clauses → clause.from ≡ n
    pub inside : (n : Node) (clauses : List Clause) (clause : Clause) → IsIn n all → clauses_from n ≡ Ok clauses → IsIn clause clauses
        → IsIn clause.to all
    pub quiet : (clauses : List Clause) → clauses_from exits ≡ Ok clauses → clauses ≡ []
    pub rise : Rise StandsBefore all

  module _ (all : List Node) (has_all : HasAll all) (visits : List Visit)
      (is : explored clauses_from (length all) (entries ∷ []) (without entries all) ≡ Ok visits) where
    all_visited : IsVisited (entries ∷ []) (without entries all) visits
    all_visited =
        explored_visits (length all) (entries ∷ []) (without entries all) visits (omega (arith, without_less entries all has_all.begins)) is

    -- each node is visited once
    pub visited_once : AreDistinct (nodes_of visits)
    visited_once = all_visited.once (tt, tt) apart
      where
        apart : (n : Node) → IsIn n (entries ∷ []) → ¬ IsIn n (without entries all)
        apart n (inl same) old = not_within entries all (subst (λ (z : Node). IsIn z (without entries all)) same old)
        apart n (inr never) old = absurd never

    visited_inside : (n : Node) → IsIn n (nodes_of visits) → IsIn n all
    visited_inside n has = on (all_visited.from n has)
      where
        on : IsIn n (entries ∷ []) ⊎ IsIn n (without entries all) → IsIn n all
        on (inl (inl same)) = subst (λ (z : Node). IsIn z all) (sym same) has_all.begins
        on (inl (inr never)) = absurd never
        on (inr old) = from_without n entries all old

    node_of_visit : (visit : Visit) → IsIn visit visits → IsIn visit.node (nodes_of visits)
    node_of_visit visit has = in_map (λ (z : Visit). z.node) visit visits has

    end_visited : (visit : Visit) (clause : Clause) → IsIn visit visits → IsIn clause visit.clauses → IsIn clause.to (nodes_of visits)
    end_visited visit clause has of = on (same_or_other clause.to entries)
      where
        on : (clause.to ≡ entries) ⊎ (clause.to ≢ entries) → IsIn clause.to (nodes_of visits)
        on (inl same) = subst (λ (z : Node). IsIn z (nodes_of visits)) (sym same) (all_visited.queued entries (inl refl))
        on (inr other) =
            let there = has_all.inside visit.node visit.clauses clause (visited_inside visit.node (node_of_visit visit has)) (all_visited.made visit has) of in
            all_visited.ends visit clause has of (stays_without clause.to entries all other there)

    abbrev wanted : Node → Bool
    wanted n = is_among n (nodes_of visits) || is_same_node n exits

    visited_kept : (n : Node) → IsIn n (nodes_of visits) → Contains (kept wanted all) n
    visited_kept n has =
        contains_in n (kept wanted all) (in_kept wanted n all (visited_inside n has)
        (or_first (is_among n (nodes_of visits)) (is_same_node n exits) (among_in n (nodes_of visits) has)))

    exits_kept : Contains (kept wanted all) exits
    exits_kept =
        contains_in exits (kept wanted all) (in_kept wanted exits all has_all.ends
        (or_second (is_among exits (nodes_of visits)) (is_same_node exits exits) (node_is_itself exits)))

    -- each node of the product but the two exits is visited
    pub kept_visited : (n : Node) → Contains (product_of_visits all visits).nodes n → n ≢ exits → IsIn n (nodes_of visits)
    kept_visited n has other =
        ⊎_elim (λ seen. in_among n (nodes_of visits) seen) (λ same. absurd (other ((law_of_nodes n exits).0 same)))
        (or_either (is_among n (nodes_of visits)) (is_same_node n exits) (kept_from wanted n all (in_contained n (kept wanted all) has)).1)

    -- it is one of all nodes
    pub kept_inside : (n : Node) → Contains (product_of_visits all visits).nodes n → IsIn n all
    kept_inside n has = (kept_from wanted n all (in_contained n (kept wanted all) has)).0

    -- where each clause of the product stands
    clause_visit : (clause : Clause) → IsIn clause (all_clauses visits)
        → (visit : Visit) × IsIn visit visits × IsIn clause visit.clauses × (clause.from ≡ visit.node)
    clause_visit clause has =
        let found = visit_of visits clause has in
        (found.0, found.1, found.2, has_all.starts found.0.node found.0.clauses clause (all_visited.made found.0 found.1) found.2)

    clause_from : (clause : Clause) → IsIn clause (all_clauses visits) → Contains (kept wanted all) clause.from × (clause.from ≢ exits)
    clause_from clause has =
        let found = clause_visit clause has in (
          subst (Contains (kept wanted all)) (sym found.3) (visited_kept found.0.node (node_of_visit found.0 found.1)),
          λ same. subst (IsIn clause)
              (has_all.quiet found.0.clauses
              (subst (λ (z : Node). clauses_from z ≡ Ok found.0.clauses) (sym found.3 ∙ same) (all_visited.made found.0 found.1)))
              found.2,
        )

    clause_to : (clause : Clause) → IsIn clause (all_clauses visits) → Contains (kept wanted all) clause.to
    clause_to clause has = let found = clause_visit clause has in visited_kept clause.to (end_visited found.0 clause found.1 found.2)

    visited_reached : (n : Node) → IsIn n (nodes_of visits) → IsReached (all_clauses visits) n
    visited_reached =
        explored_each (IsReached (all_clauses visits)) (length all) (entries ∷ []) (without entries all) visits is begins goes
      where
        begins : (n : Node) → IsIn n (entries ∷ []) → IsReached (all_clauses visits) n
        begins n (inl same) = subst (IsReached (all_clauses visits)) (sym same) IsReached.Begins
        begins n (inr never) = absurd never

        goes : (visit : Visit) (clause : Clause) → IsIn visit visits → IsIn clause visit.clauses → IsReached (all_clauses visits) visit.node
            → IsReached (all_clauses visits) clause.to
        goes visit clause has of reached =
            let own = has_all.starts visit.node visit.clauses clause (all_visited.made visit has) of in
            IsReached.Goes clause (contains_in clause (all_clauses visits) (clause_of visits visit clause has of))
            (subst (IsReached (all_clauses visits)) (sym own) reached)

    pub visits_closed : IsClosed (product_of_visits all visits)
    visits_closed = record {
      begins = visited_kept entries (all_visited.queued entries (inl refl));
      ends = exits_kept;
      from = all_in (λ clause. Contains (kept wanted all) clause.from × (clause.from ≢ exits)) (all_clauses visits) clause_from;
      to = all_in (λ clause. Contains (kept wanted all) clause.to) (all_clauses visits) clause_to;
      reached = λ n has other. visited_reached n (kept_visited n has other);
      ordered = rise_ordered (kept wanted all) (rise_kept wanted all has_all.rise);
    }

    -- The clauses of the product from a node are those that were made there.
    pub record HasClauses (n : Node) : Type 0 where
      pub clauses : List Clause
      pub made : clauses_from n ≡ Ok clauses
      pub those : (clause : Clause) → (IsIn clause (all_clauses visits) × (clause.from ≡ n)) ↔ IsIn clause clauses

    pub clauses_there : (n : Node) → Contains (product_of_visits all visits).nodes n → n ≢ exits → HasClauses n
    clauses_there n has other = on (from_map (λ (z : Visit). z.node) n visits (kept_visited n has other))
      where
        on : (visit : Visit) × IsIn visit visits × (n ≡ visit.node) → HasClauses n
        on (visit, of, at) = record { clauses = visit.clauses; made = made_here; those = λ clause. (to_list clause, from_list clause) }
          where
            made_here : clauses_from n ≡ Ok visit.clauses
            made_here = ap clauses_from at ∙ all_visited.made visit of

            to_list : (clause : Clause) → IsIn clause (all_clauses visits) × (clause.from ≡ n) → IsIn clause visit.clauses
            to_list clause (has_clause, from_n) =
                let found = clause_visit clause has_clause in
                let made_there : clauses_from n ≡ Ok found.0.clauses =
                ap clauses_from (sym from_n ∙ found.3) ∙ all_visited.made found.0 found.1 in
                subst (IsIn clause) (ok_is (clauses_from n) found.0.clauses visit.clauses made_there made_here) found.2

            from_list : (clause : Clause) → IsIn clause visit.clauses → IsIn clause (all_clauses visits) × (clause.from ≡ n)
            from_list clause has_clause = (
              clause_of visits visit clause of has_clause,
              has_all.starts visit.node visit.clauses clause (all_visited.made visit of) has_clause ∙ sym at,
            )

    -- each clause was made at a node of all
    pub clause_made : (clause : Clause) → IsIn clause (all_clauses visits)
        → (clauses : List Clause) × IsIn clause.from all × (clauses_from clause.from ≡ Ok clauses) × IsIn clause clauses
    clause_made clause has =
        let found = clause_visit clause has in (
          found.0.clauses,
          subst (λ (z : Node). IsIn z all) (sym found.3) (visited_inside found.0.node (node_of_visit found.0 found.1)),
          ap clauses_from found.3 ∙ all_visited.made found.0 found.1,
          found.2,
        )
