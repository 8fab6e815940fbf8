-- The graph does what the function does, in both directions, whatever is observed: each expression is tested, and marks
-- are counted.
use Rattle.std.proofs.Common.{◌≡◌, ℕ, zero, suc, ◌+◌, ◌<◌, ◌≤◌, Bool, true, false, cond, ◌⊎◌, inl, inr, List, [], ◌∷◌, length, Option, Some, None, ℤ, pos, refl, sym, ap, ◌∙◌, subst, arith}
use Rattle.c_ast.specs.declared.place.Place.TheVariants as place
use Rattle.c_ast.specs.Tree as tree
use Rattle.c_ast.specs.Tree.{Expression, Num, Statements, Program}
use Rattle.c_ast.specs.Value.{eval, is_nonzero}
use Rattle.c_ast.specs.Step.{Scope, LoopParts, Run, Test, Cond, Tail, Work, scope_of, Next, past_tail, to_tail, tested, entered, turned, step, values_in, evaluated, seen_next, seen}
use Rattle.c_ast.specs.Segment.{Follows}
use Rattle.c_ast.specs.Environments.{HasLength}
use Rattle.c_ast.specs.Ahead.{IsAhead, IsAheadNext}
use Rattle.c_ast.proofs.Laws.{step_keeps_length, marks_stay_ahead}
use Rattle.flow_graph.specs.Operation.{Operation, Set, Branch, Mark, Return}
use Rattle.flow_graph.specs.FlowGraph.{FlowGraph, operation_at, variables_at}
use Rattle.flow_graph.specs.Run.{Turn, Goes, Passes, Ends, turn, operand, values_of, seen_turn, seen_at, seen_from}
use Rattle.flow_graph.proofs.Laid.{Table, TestLaid, Laid, LoopLaid, WorkLaid}

-- ---- how long the work can go on while the graph stands

abbrev pub weight : Statements → ℕ
weight tree.Nil = 1
weight (tree.Set x e c) = 1
weight (tree.If e a b c) = 1
weight (tree.Loop m e a b f c) = weight a + (weight b + weight c) + 9
weight (tree.Break c) = 1
weight (tree.Continue c) = 1
weight (tree.Return e c) = 1
weight (tree.Mark k c) = 1
weight (tree.Block a c) = weight a + weight c + 1

abbrev pub load : Work → ℕ
load [] = 0
load (Run s c ∷ w) = weight c + load w
load (Test s l ∷ w) = 2 + load w
load (Cond s l ∷ w) = 1 + load w
load (Tail s l ∷ w) = weight l.step + 3 + load w

load_past : (w : Work) → load (past_tail w) ≤ load w
load_past [] = omega arith
load_past (Run s c ∷ w) = omega (arith, load_past w)
load_past (Test s c ∷ w) = omega (arith, load_past w)
load_past (Cond s c ∷ w) = omega (arith, load_past w)
load_past (Tail s c ∷ w) = omega arith

load_to : (w : Work) → load (to_tail w) ≤ load w
load_to [] = omega arith
load_to (Run s c ∷ w) = omega (arith, load_to w)
load_to (Test s c ∷ w) = omega (arith, load_to w)
load_to (Cond s c ∷ w) = omega (arith, load_to w)
load_to (Tail s c ∷ w) = omega arith

-- ---- a step of the work beside the graph

module _ (at : Table) where
  -- the node stands for the work
  pub record Stands (w : Work) (n : ℕ) : Type 0 where
    pub b : ℕ
    pub t : ℕ
    pub laid : WorkLaid at w n b t

  past_stands : (w : Work) (n b t : ℕ) → WorkLaid at w n b t → Stands (past_tail w) b
  past_stands [] n b t h = record { b = b; t = t; laid = (h.1, h.1, h.2) }
  past_stands (Run s c ∷ w) n b t h = past_stands w h.0 b t h.2
  past_stands (Test s c ∷ w) n b t h = past_stands w h.2 b t h.4
  past_stands (Cond s c ∷ w) n b t h = past_stands w h.3 b t h.6
  past_stands (Tail s c ∷ w) n b t h = record { b = h.2; t = h.3; laid = h.6 }

  to_stands : (w : Work) (n b t : ℕ) → WorkLaid at w n b t → Stands (to_tail w) t
  to_stands [] n b t h = record { b = b; t = t; laid = (h.2, h.1, h.2) }
  to_stands (Run s c ∷ w) n b t h = to_stands w h.0 b t h.2
  to_stands (Test s c ∷ w) n b t h = to_stands w h.2 b t h.4
  to_stands (Cond s c ∷ w) n b t h = to_stands w h.3 b t h.6
  to_stands (Tail s c ∷ w) n b t h = record { b = b; t = t; laid = subst (λ (k : ℕ). WorkLaid at (Tail s c ∷ w) k b t) (sym h.5) h }

  -- a step of the work beside one of the graph
  abbrev pub Beside : Next → Turn → Type 0
  Beside (Next.Goes w a) (Goes n b) = (a ≡ b) × Stands w n
  Beside (Next.Passes j w a) (Passes k n b) = (j ≡ k) × (a ≡ b) × Stands w n
  Beside (Next.Ends u) (Ends v) = u ≡ v
  Beside (Next.Goes w a) (Passes k n b) = ⊥
  Beside (Next.Goes w a) (Ends v) = ⊥
  Beside (Next.Passes j w a) (Goes n b) = ⊥
  Beside (Next.Passes j w a) (Ends v) = ⊥
  Beside (Next.Ends u) (Goes n b) = ⊥
  Beside (Next.Ends u) (Passes k n b) = ⊥

  -- the work goes on while the graph stands
  abbrev pub Waits : Work → ℕ → List ℤ → Next → Type 0
  Waits w n env (Next.Goes v a) = (a ≡ env) × Stands v n × (load v < load w)
  Waits w n env (Next.Passes k v a) = ⊥
  Waits w n env (Next.Ends v) = ⊥

  -- the node's operation is done beside the step, and evaluates the same
  pub record Does (w : Work) (x : Next) (n : ℕ) (env : List ℤ) : Type 0 where
    pub op : Operation
    pub is : at n ≡ Some op
    pub beside : Beside x (turn op env)
    pub same : evaluated w ≡ operand op

  abbrev pub Moves : Work → Next → ℕ → List ℤ → Type 0
  Moves w x n env = Waits w n env x × (evaluated w ≡ None) ⊎ Does w x n env

  does : (w : Work) (x : Next) (n : ℕ) (env : List ℤ) (op : Operation) → at n ≡ Some op → Beside x (turn op env) → evaluated w ≡ operand op → Moves w x n env
  does w x n env op is beside same = inr (record { op = op; is = is; beside = beside; same = same })

  chosen : (z : Bool) (s : Scope) (x y c : Statements) (w : Work) (i j q m b t : ℕ) → Laid at x i q b t → Laid at y j q b t → Laid at c q m b t
      → WorkLaid at w m b t → Stands (Run s (cond z x y) ∷ Run s c ∷ w) (cond z i j)
  chosen true s x y c w i j q m b t hx hy hc hw = record { b = b; t = t; laid = (q, hx, (m, hc, hw)) }
  chosen false s x y c w i j q m b t hx hy hc hw = record { b = b; t = t; laid = (q, hy, (m, hc, hw)) }

  inside : (s : Scope) (l : LoopParts) (w : Work) (head body tail out b t : ℕ) → LoopLaid at l head body tail out b t → WorkLaid at w out b t
      → Stands (Run s l.body ∷ Tail s l ∷ w) body
  inside s l w head body tail out b t r h = record { b = out; t = tail; laid = (tail, r.inner, (head, body, b, t, r, refl, h)) }

  turn_stands : (z : Bool) (s : Scope) (l : LoopParts) (w : Work) (head body tail out b t : ℕ) → LoopLaid at l head body tail out b t → WorkLaid at w out b t
      → Stands (turned z s l w) (cond z body out)
  turn_stands true s l w head body tail out b t r h = inside s l w head body tail out b t r h
  turn_stands false s l w head body tail out b t r h = record { b = b; t = t; laid = h }

  enters : (f : Bool) (s : Scope) (l : LoopParts) (w : Work) (n head body tail out b t : ℕ) → n ≡ cond f head body → LoopLaid at l head body tail out b t
      → WorkLaid at w out b t → Stands (entered f s l w) n
  enters true s l w n head body tail out b t e r h = record {
    b = b;
    t = t;
    laid = subst (λ (k : ℕ). WorkLaid at (Test s l ∷ w) k b t) (sym e)
        (body, tail, out, r, h);
  }
  enters false s l w n head body tail out b t e r h = subst (λ (k : ℕ). Stands (Run s l.body ∷ Tail s l ∷ w) k) (sym e)
      (inside s l w head body tail out b t r h)

  lighter : (f : Bool) (s : Scope) (m : Option ℕ) (e : Expression) (x y c : Statements) (w : Work)
      → load (entered f s (record { mark = m; cond = e; body = x; step = y }) (Run s c ∷ w)) < load (Run s (tree.Loop m e x y f c) ∷ w)
  lighter true s m e x y c w = omega arith
  lighter false s m e x y c w = omega arith

  test_moves : (m : Option ℕ) (s : Scope) (l : LoopParts) (w : Work) (n body tail out b t : ℕ) (env : List ℤ) → l.mark ≡ m → LoopLaid at l n body tail out b t
      → TestLaid at m l.cond n body out → WorkLaid at w out b t
      → Moves (Test s l ∷ w) (tested m (Cond s l ∷ w) env) n env
  test_moves None s l w n body tail out b t env e r q h = inl ((refl, record { b = b; t = t; laid = (n, body, tail, out, r, q, h) }, omega arith), refl)
  test_moves (Some k) s l w n body tail out b t env e r q h = does _ _ n env (Mark k q.0)
      q.1 (refl, refl, record { b = b; t = t; laid = (n, body, tail, out, r, q.2, h) }) refl

  pub step_moves : (w : Work) (n b t : ℕ) (env : List ℤ) → WorkLaid at w n b t → Moves w (step w env) n env
  step_moves [] n b t env h = does _ _ n env (Return (Num (pos 0))) h.0 refl refl
  step_moves (Run s tree.Nil ∷ w) n b t env h = inl (
    (
      refl,
      record {
        b = b;
        t = t;
        laid = subst (λ (k : ℕ). WorkLaid at w k b t)
            (sym h.1) h.2;
      },
      omega arith,
    ),
    refl,
  )
  step_moves (Run s (tree.Set x e c) ∷ w) n b t env h = does _ _ n env (Set x e h.1.0) h.1.1 (refl, record { b = b; t = t; laid = (h.0, h.1.2, h.2) }) refl
  step_moves (Run s (tree.If e x y c) ∷ w) n b t env h =
      does _ _ n env (Branch e h.1.0 h.1.1) h.1.3 (refl, chosen (is_nonzero (eval e env)) s x y c w h.1.0 h.1.1 h.1.2 h.0 b t h.1.4 h.1.5 h.1.6 h.2) refl
  step_moves (Run s (tree.Loop m e x y f c) ∷ w) n b t env h =
      let l : LoopParts = record { mark = m; cond = e; body = x; step = y } in
      let r : LoopLaid at l h.1.0 h.1.1 h.1.2 h.1.3 b t = record { test = h.1.4; inner = h.1.5; last = h.1.6 } in
      inl ((refl, enters f s l (Run s c ∷ w) n h.1.0 h.1.1 h.1.2 h.1.3 b t h.1.7 r (h.0, h.1.8, h.2), lighter f s m e x y c w), refl)
  step_moves (Run s (tree.Break c) ∷ w) n b t env h =
      inl ((refl, subst (λ (k : ℕ). Stands (past_tail w) k) (sym h.1.0) (past_stands w h.0 b t h.2), omega (arith, load_past w)), refl)
  step_moves (Run s (tree.Continue c) ∷ w) n b t env h =
      inl ((refl, subst (λ (k : ℕ). Stands (to_tail w) k) (sym h.1.0) (to_stands w h.0 b t h.2), omega (arith, load_to w)), refl)
  step_moves (Run s (tree.Return e c) ∷ w) n b t env h = does _ _ n env (Return e) h.1.0 refl refl
  step_moves (Run s (tree.Mark k c) ∷ w) n b t env h = does _ _ n env (Mark k h.1.0) h.1.1 (refl, refl, record { b = b; t = t; laid = (h.0, h.1.2, h.2) }) refl
  step_moves (Run s (tree.Block x c) ∷ w) n b t env h = inl ((refl, record { b = b; t = t; laid = (h.1.0, h.1.1, (h.0, h.1.2, h.2)) }, omega arith), refl)
  step_moves (Test s l ∷ w) n b t env h = test_moves l.mark s l w n h.0 h.1 h.2 b t env refl h.3 h.3.test h.4
  step_moves (Cond s l ∷ w) n b t env h =
      does _ _ n env (Branch l.cond h.1 h.3) h.5 (refl, turn_stands (is_nonzero (eval l.cond env)) s l w h.0 h.1 h.2 h.3 b t h.4 h.6) refl
  step_moves (Tail s l ∷ w) n b t env h = inl ((refl, record { b = h.2; t = h.3; laid = (h.0, h.4.last, (h.1, n, b, h.4, h.6)) }, omega arith), refl)

-- ---- whole runs

-- At each mark the graph shows the values in scope.
pub record Shows (f : Program) (graph : FlowGraph) : Type 0 where
  pub by : (mark : ℕ) (w : Work) → Follows f mark w → (env : List ℤ) → length env ≡ f.vars → values_of (variables_at graph (place.Mark mark)) env
      ≡ values_in (scope_of w) env

-- A step that evaluates nothing is never refused.
pub record AcceptsNone (holds : Option Expression → List ℤ → Bool) : Type 0 where
  pub by : (env : List ℤ) → holds None env ≡ true

-- an expression that both test
both : {R : Type 0} (s t : Bool) (x : Option R) (y : ℕ → Option R) (failed : Option R) (r : R) → s ≡ t → cond s x failed ≡ Some r
    → (x ≡ Some r → (j : ℕ) × (y j ≡ Some r)) → (j : ℕ) × (cond t (y j) failed ≡ Some r)
both true true x y failed r e h go = go h
both false false x y failed r e h go = (0, h)
both true false x y failed r e h go = cc
both false true x y failed r e h go = cc

module _ {R : Type 0} (holds : Option Expression → List ℤ → Bool) (failed : Option R) (pass : ℕ → ℕ → List ℤ → Option R → Option R) (done : ℤ → R)
    (accepts : AcceptsNone holds) (f : Program) (graph : FlowGraph) (shows : Shows f graph) where
  abbrev pub S : ℕ → ℕ → Work → List ℤ → Option R
  S = seen holds failed pass done

  abbrev pub G : ℕ → ℕ → ℕ → List ℤ → Option R
  G = seen_from holds failed pass done graph

  abbrev S-next : ℕ → ℕ → Next → Option R
  S-next i m x = seen_next holds failed pass done (S i) m x

  abbrev G-turn : ℕ → ℕ → Turn → Option R
  G-turn j m y = seen_turn holds failed pass done graph (G j) m y

  abbrev at : Table
  at = operation_at graph

  -- some number of the graph's steps, and of the source's
  pub record OfGraph (m n : ℕ) (env : List ℤ) (r : R) : Type 0 where
    pub steps : ℕ
    pub is : seen_from holds failed pass done graph steps m n env ≡ Some r

  pub record OfSource (m : ℕ) (w : Work) (env : List ℤ) (r : R) : Type 0 where
    pub steps : ℕ
    pub is : seen holds failed pass done steps m w env ≡ Some r

  abbrev pub Forward : ℕ → Type 0
  Forward i = (m : ℕ) (w : Work) (n b t : ℕ) (env : List ℤ) (r : R) → IsAhead f w → length env ≡ f.vars → WorkLaid at w n b t → S i m w env ≡ Some r
      → OfGraph m n env r

  abbrev pub Backward : ℕ → Type 0
  Backward j = (m : ℕ) (w : Work) (n b t : ℕ) (env : List ℤ) (r : R) → IsAhead f w → length env ≡ f.vars → WorkLaid at w n b t → G j m n env ≡ Some r
      → OfSource m w env r

  same_pass : (m k j : ℕ) (w : Work) (a b : List ℤ) → k ≡ j → a ≡ b → values_of (variables_at graph (place.Mark k)) a ≡ values_in (scope_of w) a
      → (o : Option R)
      → pass m j (values_of (variables_at graph (place.Mark j)) b) o ≡ pass m k (values_in (scope_of w) a) o
  same_pass m k j w a b p q e o =
      ap (λ (z : ℕ). pass m z (values_of (variables_at graph (place.Mark z)) b) o) (sym p)
      ∙ ap (λ (v : List ℤ). pass m k (values_of (variables_at graph (place.Mark k)) v) o) (sym q)
      ∙ ap (λ (v : List ℤ). pass m k v o) e

  forward_step : (i m : ℕ) (r : R) (x : Next) (y : Turn) → IsAheadNext f x → HasLength f.vars x → Beside at x y → Forward i → S-next i m x ≡ Some r → (j : ℕ)
      × (G-turn j m y ≡ Some r)
  forward_step i m r (Next.Goes w a) (Goes n b) p len q go h =
      let o = go m w n q.1.b q.1.t a r p len q.1.laid h in
      (o.steps, ap (G o.steps m n) (sym q.0) ∙ o.is)
  forward_step i m r (Next.Passes k w a) (Passes j n b) p len q go h = on (S i (suc m) w a) refl
    where
      shown : values_of (variables_at graph (place.Mark k)) a ≡ values_in (scope_of w) a
      shown = shows.by k w p.1 a len

      on : (o : Option R) → S i (suc m) w a ≡ o → (z : ℕ) × (G-turn z m (Passes j n b) ≡ Some r)
      on None e = (0, same_pass m k j w a b q.0 q.1 shown None ∙ ap (pass m k (values_in (scope_of w) a)) (sym e) ∙ h)
      on (Some u) e =
          let o = go (suc m) w n q.2.b q.2.t a u p.0 len q.2.laid e in
          let e' : G o.steps (suc m) n b ≡ Some u = ap (G o.steps (suc m) n) (sym q.1) ∙ o.is in (
            o.steps,
            ap (pass m j (values_of (variables_at graph (place.Mark j)) b)) e' ∙ same_pass m k j w a b q.0 q.1 shown (Some u)
                ∙ ap (pass m k (values_in (scope_of w) a)) (sym e) ∙ h,
          )
  forward_step i m r (Next.Ends u) (Ends v) p len q go h = (0, ap (λ (z : ℤ). Some (done z)) (sym q) ∙ h)
  forward_step i m r (Next.Goes w a) (Passes k n b) p len q go h = absurd q
  forward_step i m r (Next.Goes w a) (Ends v) p len q go h = absurd q
  forward_step i m r (Next.Passes j w a) (Goes n b) p len q go h = absurd q
  forward_step i m r (Next.Passes j w a) (Ends v) p len q go h = absurd q
  forward_step i m r (Next.Ends u) (Goes n b) p len q go h = absurd q
  forward_step i m r (Next.Ends u) (Passes k n b) p len q go h = absurd q

  -- a step that evaluates nothing
  unrefused : (i m : ℕ) (w : Work) (env : List ℤ) → evaluated w ≡ None → S (suc i) m w env ≡ S-next i m (step w env)
  unrefused i m w env e =
      let t : holds (evaluated w) env ≡ true = ap (λ (o : Option Expression). holds o env) e ∙ accepts.by env in
      ap (λ (z : Bool). cond z (S-next i m (step w env)) failed) t

  forward_wait : (i m : ℕ) (r : R) (w : Work) (n : ℕ) (env : List ℤ) (x : Next) → IsAheadNext f x → length env ≡ f.vars → Waits at w n env x → Forward i
      → S-next i m x ≡ Some r → OfGraph m n env r
  forward_wait i m r w n env (Next.Goes v a) p len q go h = go m v n q.1.b q.1.t env r p len q.1.laid (ap (S i m v) (sym q.0) ∙ h)
  forward_wait i m r w n env (Next.Passes k v a) p len q go h = absurd q
  forward_wait i m r w n env (Next.Ends v) p len q go h = absurd q

  at_op : (j m n : ℕ) (env : List ℤ) (op : Operation) → at n ≡ Some op → G (suc j) m n env ≡ cond (holds (operand op) env) (G-turn j m (turn op env)) failed
  at_op j m n env op e = ap (λ (o : Option Operation). seen_at holds failed pass done graph (G j) m o env) e

  same_test : (w : Work) (env : List ℤ) (op : Operation) → evaluated w ≡ operand op → holds (evaluated w) env ≡ holds (operand op) env
  same_test w env op e = ap (λ (o : Option Expression). holds o env) e

  forward_does : (i m : ℕ) (r : R) (w : Work) (n : ℕ) (env : List ℤ) → IsAhead f w → length env ≡ f.vars → Does at w (step w env) n env → Forward i
      → S (suc i) m w env ≡ Some r → OfGraph m n env r
  forward_does i m r w n env p len q go h =
      let o = both (holds (evaluated w) env) (holds (operand q.op) env) (S-next i m (step w env))
      (λ j. G-turn j m (turn q.op env)) failed r (same_test w env q.op q.same) h (forward_step i m r (step w env) (turn q.op env)
      (marks_stay_ahead f w env p) (step_keeps_length f.vars w env len) q.beside go) in
      record { steps = suc o.0; is = at_op o.0 m n env q.op q.is ∙ o.1 }

  pub forward : (i : ℕ) → Forward i
  forward zero m w n b t env r p len l h = cc
  forward (suc i) m w n b t env r p len l h =
      elim (step_moves at w n b t env l) [
        | inl q ↦ forward_wait i m r w n env (step w env) (marks_stay_ahead f w env p) len q.0 (forward i) (sym (unrefused i m w env q.1) ∙ h)
        | inr q ↦ forward_does i m r w n env p len q (forward i) h
      ]

  backward_step : (j m : ℕ) (r : R) (x : Next) (y : Turn) → IsAheadNext f x → HasLength f.vars x → Beside at x y → Backward j → G-turn j m y ≡ Some r → (i : ℕ)
      × (S-next i m x ≡ Some r)
  backward_step j m r (Next.Goes w a) (Goes n b) p len q go h =
      let o = go m w n q.1.b q.1.t b r p (ap length (sym q.0) ∙ len) q.1.laid h in
      (o.steps, ap (S o.steps m w) q.0 ∙ o.is)
  backward_step j m r (Next.Passes k w a) (Passes z n b) p len q go h = on (G j (suc m) n b) refl
    where
      shown : values_of (variables_at graph (place.Mark k)) a ≡ values_in (scope_of w) a
      shown = shows.by k w p.1 a len

      on : (o : Option R) → G j (suc m) n b ≡ o → (i : ℕ) × (S-next i m (Next.Passes k w a) ≡ Some r)
      on None e = (0, sym (same_pass m k z w a b q.0 q.1 shown None) ∙ ap (pass m z (values_of (variables_at graph (place.Mark z)) b)) (sym e) ∙ h)
      on (Some u) e =
          let o = go (suc m) w n q.2.b q.2.t b u p.0 (ap length (sym q.1) ∙ len) q.2.laid e in
          let e' : S o.steps (suc m) w a ≡ Some u = ap (S o.steps (suc m) w) q.1 ∙ o.is in (
            o.steps,
            ap (pass m k (values_in (scope_of w) a)) e' ∙ sym (same_pass m k z w a b q.0 q.1 shown (Some u))
                ∙ ap (pass m z (values_of (variables_at graph (place.Mark z)) b)) (sym e) ∙ h,
          )
  backward_step j m r (Next.Ends u) (Ends v) p len q go h = (0, ap (λ (z : ℤ). Some (done z)) q ∙ h)
  backward_step j m r (Next.Goes w a) (Passes k n b) p len q go h = absurd q
  backward_step j m r (Next.Goes w a) (Ends v) p len q go h = absurd q
  backward_step j m r (Next.Passes i w a) (Goes n b) p len q go h = absurd q
  backward_step j m r (Next.Passes i w a) (Ends v) p len q go h = absurd q
  backward_step j m r (Next.Ends u) (Goes n b) p len q go h = absurd q
  backward_step j m r (Next.Ends u) (Passes k n b) p len q go h = absurd q

  backward_wait : (m : ℕ) (r : R) (w : Work) (n : ℕ) (env : List ℤ) (x : Next) → IsAheadNext f x → Waits at w n env x
      → ((v : Work) (b t : ℕ) → load v < load w → IsAhead f v → WorkLaid at v n b t → OfSource m v env r) → (i : ℕ) × (S-next i m x ≡ Some r)
  backward_wait m r w n env (Next.Goes v a) p q go =
      let o = go v q.1.b q.1.t q.2 p q.1.laid in
      (o.steps, ap (S o.steps m v) q.0 ∙ o.is)
  backward_wait m r w n env (Next.Passes k v a) p q go = absurd q
  backward_wait m r w n env (Next.Ends v) p q go = absurd q

  backward_does : (j m : ℕ) (r : R) (w : Work) (n : ℕ) (env : List ℤ) → IsAhead f w → length env ≡ f.vars → Does at w (step w env) n env → Backward j
      → G (suc j) m n env ≡ Some r → OfSource m w env r
  backward_does j m r w n env p len q go h =
      let o = both (holds (operand q.op) env) (holds (evaluated w) env) (G-turn j m (turn q.op env))
      (λ i. S-next i m (step w env)) failed r (sym (same_test w env q.op q.same)) (sym (at_op j m n env q.op q.is) ∙ h)
      (backward_step j m r (step w env) (turn q.op env) (marks_stay_ahead f w env p) (step_keeps_length f.vars w env len) q.beside go) in
      record { steps = suc o.0; is = o.1 }

  -- the graph's step comes after finitely many steps of the work
  backward_from : (j : ℕ) → Backward j → (fuel m : ℕ) (w : Work) (n b t : ℕ) (env : List ℤ) (r : R) → load w ≤ fuel → IsAhead f w → length env ≡ f.vars
      → WorkLaid at w n b t → G (suc j) m n env ≡ Some r → OfSource m w env r
  backward_from j go zero m w n b t env r le p len l h =
      elim (step_moves at w n b t env l) [
        | inl q ↦ (let o = backward_wait m r w n env (step w env)
            (marks_stay_ahead f w env p) q.0 (λ v c u lt pv lv. absurd (omega arith)) in record { steps = suc o.0; is = unrefused o.0 m w env q.1 ∙ o.1 })
        | inr q ↦ backward_does j m r w n env p len q go h
      ]
  backward_from j go (suc fuel) m w n b t env r le p len l h =
      elim (step_moves at w n b t env l) [
        | inl q ↦ (let o = backward_wait m r w n env (step w env)
            (marks_stay_ahead f w env p) q.0 (λ v c u lt pv lv. backward_from j go fuel m v n c u env r (omega arith) pv len lv h)
            in record { steps = suc o.0; is = unrefused o.0 m w env q.1 ∙ o.1 })
        | inr q ↦ backward_does j m r w n env p len q go h
      ]

  pub backward : (j : ℕ) → Backward j
  backward zero m w n b t env r p len l h = cc
  backward (suc j) m w n b t env r p len l h = backward_from j (backward j) (load w) m w n b t env r (omega arith) p len l h
