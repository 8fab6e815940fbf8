-- What is laid leads to nodes of the graph, and down or to marks.
use Rattle.std.proofs.Common.{◌≡◌, ℕ, zero, suc, ◌+◌, ◌<◌, ◌≤◌, Bool, true, false, cond, ◌⊎◌, inl, inr, [], ◌∷◌, ◌++◌, length, Option, Some, None, refl, sym, ap, ◌∙◌, subst, arith, length-append, length-set}
use Rattle.c_ast.specs.Tree as tree
use Rattle.c_ast.specs.Tree.{Expression, Statements}
use Rattle.c_ast.specs.Value.{CanEvaluate}
use Rattle.c_ast.specs.Step.{Scope, is_in}
use Rattle.c_ast.specs.Formed.{BeginsWithMark, PassesMark, AreFormed}
use Rattle.c_ast.specs.Environments.{IsBelow}
use Rattle.c_ast.proofs.Laws.{set_stays_below, over_can_evaluate, set_can_evaluate}
use Rattle.flow_graph.specs.Operation.{Operation, Set, Branch, Mark, Return}
use Rattle.flow_graph.specs.Layout.{Slots, added, filled, lay}
use Rattle.flow_graph.specs.WellFormed.{IsMark, Leads, Fits}
use Rattle.flow_graph.proofs.Growing.{grows_trans, grows_one, grows_length, behind_open, open_more, set_open, lay_grows}
use Rattle.flow_graph.proofs.Laid.{Table, Extends, grows_extends, filled_extends, table_of, table_at}

-- ---- with more nodes

pub mark_more : (at more : Table) → Extends at more → (i : ℕ) → IsMark (at i) → IsMark (more i)
mark_more at more x i h = on (at i) refl h
  where
    on : (op : Option Operation) → at i ≡ op → IsMark op → IsMark (more i)
    on (Some (Mark k n)) is h = subst IsMark (sym (x.by i (Mark k n) is)) tt
    on (Some (Set y e n)) is h = absurd h
    on (Some (Branch e n m)) is h = absurd h
    on (Some (Return e)) is h = absurd h
    on None is h = absurd h

leads_more : (at more : Table) → Extends at more → (count count' node next : ℕ) → count ≤ count' → Leads at count node next → Leads more count' node next
leads_more at more x count count' node next le h = (omega (arith, h.0), elim h.1 [ inl p ↦ inl p | inr p ↦ inr (mark_more at more x next p) ])

pub fits_more : (at more : Table) → Extends at more → (count count' vars node : ℕ) (op : Operation) → count ≤ count' → Fits at count vars node op
    → Fits more count' vars node op
fits_more at more x count count' vars node (Set y e next) le h = (h.0, h.1, leads_more at more x count count' node next le h.2)
fits_more at more x count count' vars node (Branch e first second) le h = (
  h.0,
  leads_more at more x count count' node first le h.1,
  leads_more at more x count count' node second le h.2,
)
fits_more at more x count count' vars node (Mark k next) le h = omega (arith, h)
fits_more at more x count count' vars node (Return e) le h = h

-- ---- slots that fit

pub record SlotsFit (vars : ℕ) (slots : Slots) : Type 0 where
  pub by : (i : ℕ) (op : Operation) → table_of slots i ≡ Some op → Fits (table_of slots) (length slots) vars i op

at_last : (xs : Slots) (last : Option Operation) (i : ℕ) (op : Operation) → table_of (xs ++ last ∷ []) i ≡ Some op → (table_of xs i ≡ Some op)
    ⊎ (i ≡ length xs) × (last ≡ Some op)
at_last [] last zero op h = inr (refl, h)
at_last [] last (suc i) op h = cc
at_last (x ∷ xs) last zero op h = inl h
at_last (x ∷ xs) last (suc i) op h = elim (at_last xs last i op h) [ inl p ↦ inl p | inr p ↦ inr (ap suc p.0, p.1) ]

-- one more slot, which is open or fits
pub add_fits : (vars : ℕ) (slots : Slots) (last : Option Operation) → SlotsFit vars slots
    → ((op : Operation) → last ≡ Some op → Fits (table_of (slots ++ last ∷ [])) (suc (length slots)) vars (length slots) op)
    → SlotsFit vars (slots ++ last ∷ [])
add_fits vars slots last fit last_fits = record {
  by = λ i op h.
      let size : length (slots ++ last ∷ []) ≡ suc (length slots) = omega (arith, length-append slots (last ∷ [])) in
      subst (λ (n : ℕ). Fits (table_of (slots ++ last ∷ [])) n vars i op) (sym size) (elim (at_last slots last i op h) [
        | inl p ↦ fits_more (table_of slots) _ (grows_extends slots (slots ++ last ∷ []) (grows_one slots last)) (length slots)
            (suc (length slots)) vars i op (omega arith) (fit.by i op p)
        | inr p ↦ subst (λ (n : ℕ). Fits (table_of (slots ++ last ∷ [])) (suc (length slots)) vars n op) (sym p.0) (last_fits op p.1)
      ]);
}

open_fits : (vars : ℕ) (slots : Slots) → SlotsFit vars slots → SlotsFit vars (slots ++ None ∷ [])
open_fits vars slots fit = add_fits vars slots None fit (λ op h. cc)

op_fits : (vars : ℕ) (slots : Slots) (op : Operation) → SlotsFit vars slots
    → Fits (table_of (slots ++ Some op ∷ [])) (suc (length slots)) vars (length slots) op → SlotsFit vars (slots ++ Some op ∷ [])
op_fits vars slots op fit h = add_fits vars slots (Some op) fit (λ other is. let same : op
    ≡ other = cc in subst (λ (o : Operation). Fits (table_of (slots ++ Some op ∷ [])) (suc (length slots)) vars (length slots) o) same h)

at_filled : (xs ys : Slots) (first : Operation) (i : ℕ) (op : Operation) → table_of (xs ++ Some first ∷ ys) i ≡ Some op
    → (table_of (xs ++ None ∷ ys) i ≡ Some op) ⊎ (i ≡ length xs) × (first ≡ op)
at_filled [] ys first zero op h = inr (refl, (cc))
at_filled [] ys first (suc i) op h = inl h
at_filled (x ∷ xs) ys first zero op h = inl h
at_filled (x ∷ xs) ys first (suc i) op h = elim (at_filled xs ys first i op h) [ inl p ↦ inl p | inr p ↦ inr (ap suc p.0, p.1) ]

-- the open slot behind the old ones is filled with an operation that fits
fill_fits : (vars : ℕ) (old more slots new : Slots) (first : Operation) → slots ≡ old ++ None ∷ more → new ≡ old ++ Some first ∷ more
    → Extends (table_of slots) (table_of new)
    → SlotsFit vars slots → Fits (table_of new) (length new) vars (length old) first → SlotsFit vars new
fill_fits vars old more slots new first is new_is extends fit first_fits = record {
  by = λ i op h.
      let size : length slots ≤ length new = omega (
        arith,
        ap length is,
        ap length new_is,
        length-append old (None ∷ more),
        length-append old (Some first ∷ more),
      ) in
      elim (at_filled old more first i op (subst (λ (z : Slots). table_of z i ≡ Some op) new_is h)) [
        | inl p ↦ fits_more (table_of slots) (table_of new) extends (length slots)
            (length new) vars i op size (fit.by i op (subst (λ (z : Slots). table_of z i ≡ Some op) (sym is) p))
        | inr p ↦ subst (λ (n : ℕ). Fits (table_of new) (length new) vars n op) (sym p.0)
            (subst (λ (o : Operation). Fits (table_of new) (length new) vars (length old) o) p.1 first_fits)
      ];
}

-- ---- statements that begin with a mark begin at its node

pub lay_begins : (c : Statements) (slots : Slots) (m b t : ℕ) → BeginsWithMark c → IsMark (table_of (lay c slots m b t).slots (lay c slots m b t).node)
lay_begins tree.Nil slots m b t h = absurd h
lay_begins (tree.Set x e c) slots m b t h = absurd h
lay_begins (tree.If e x y c) slots m b t h = absurd h
lay_begins (tree.Loop k e x y f c) slots m b t h = absurd h
lay_begins (tree.Break c) slots m b t h = absurd h
lay_begins (tree.Continue c) slots m b t h = absurd h
lay_begins (tree.Return e c) slots m b t h = absurd h
lay_begins (tree.Mark k c) slots m b t h = let behind = lay c slots m b t in subst IsMark (sym (table_at behind.slots [] (Some (Mark k behind.node)))) tt
lay_begins (tree.Block x c) slots m b t h = let behind = lay c slots m b t in lay_begins x behind.slots behind.node b t h

-- ---- a loop's test

module _ (vars : ℕ) (old more slots : Slots) (e : Expression) (body out : ℕ) (is : slots ≡ old ++ None ∷ more) (fit : SlotsFit vars slots)
    (below : CanEvaluate vars e) (inside : body < length slots) (outside : out < length old) where
  pub test_fits : (mark : Option ℕ) (stmts : Statements) → PassesMark mark stmts → (BeginsWithMark stmts → IsMark (table_of slots body))
      → SlotsFit vars (filled mark slots (length old) (Branch e body out))
  test_fits None stmts passes begins =
      let first = Branch e body out in
      let new_is = set_open old more slots (Some first) is in
      let extends = filled_extends None old more slots first is in
      let new_size : length (filled None slots (length old) first)
      ≡ length slots = omega (arith, ap length new_is, length-append old (Some first ∷ more), ap length is, length-append old (None ∷ more)) in
      fill_fits vars old more slots (filled None slots (length old) first) first is new_is extends fit (
        below,
        (omega (arith, new_size), inr (mark_more (table_of slots) _ extends body (begins passes))),
        (omega (arith, new_size, ap length is, length-append old (None ∷ more)), inl outside),
      )
  test_fits (Some k) stmts passes begins =
      let last = Branch e body out in
      let first = Mark k (length slots) in
      let longer = slots ++ Some last ∷ [] in
      let longer_is = open_more old more slots (Some last) is in
      let new_is = set_open old (more ++ Some last ∷ []) longer (Some first) longer_is in
      let old_size : length slots ≡ length old + suc (length more) = ap length is ∙ length-append old (None ∷ more) in
      let new_size : length (filled (Some k) slots (length old) last)
      ≡ suc (length slots) = omega (
        arith,
        ap length new_is,
        length-append old (Some first ∷ (more ++ Some last ∷ [])),
        length-append more (Some last ∷ []),
        old_size,
      ) in
      let longer_fits = op_fits vars slots last fit (below, (omega arith, inl inside), (omega (arith, old_size), inl (omega (arith, old_size)))) in
      fill_fits vars old (more ++ Some last ∷ []) longer (filled (Some k) slots (length old) last)
      first longer_is new_is (filled_extends None old (more ++ Some last ∷ []) longer first longer_is) longer_fits (omega (arith, new_size))

filled_length : (mark : Option ℕ) (slots : Slots) (i : ℕ) (test : Operation) → length slots ≤ length (filled mark slots i test)
filled_length None slots i test = omega (arith, length-set slots i (Some test))
filled_length (Some k) slots i test = omega (arith, length-set (slots ++ Some test ∷ []) i (Some (Mark k (length slots))), length-append slots (Some test ∷ []))

-- ---- statements

pub record LayFits (vars : ℕ) (slots : Slots) (node : ℕ) : Type 0 where
  pub fit : SlotsFit vars slots
  pub within : node < length slots

pub record Ready (vars : ℕ) (slots : Slots) (m b t : ℕ) : Type 0 where
  pub fit : SlotsFit vars slots
  pub next : m < length slots
  pub out : b < length slots
  pub again : t < length slots

added_lay_fits : (vars : ℕ) (slots : Slots) (op : Operation) → SlotsFit vars slots
    → Fits (table_of (slots ++ Some op ∷ [])) (suc (length slots)) vars (length slots) op → LayFits vars (slots ++ Some op ∷ []) (length slots)
added_lay_fits vars slots op fit h = record { fit = op_fits vars slots op fit h; within = omega (arith, length-append slots (Some op ∷ [])) }

pub lay_fits : (c : Statements) (vars : ℕ) (s : Scope) (in_loop : Bool) (slots : Slots) (m b t : ℕ) → IsBelow vars s → AreFormed vars s in_loop c
    → Ready vars slots m b t → LayFits vars (lay c slots m b t).slots (lay c slots m b t).node
lay_fits tree.Nil vars s in_loop slots m b t below formed ready = record { fit = ready.fit; within = ready.next }
lay_fits (tree.Set x e c) vars s in_loop slots m b t below formed ready =
    let behind = lay c slots m b t in
    let h = lay_fits c vars (x ∷ s) in_loop slots m b t (set_stays_below vars x s formed.0 below) formed.2 ready in
    added_lay_fits vars behind.slots (Set x e behind.node) h.fit (
      formed.0,
      set_can_evaluate (is_in s x) e vars s below formed.1,
      (omega (arith, h.within), inl h.within),
    )
lay_fits (tree.If e x y c) vars s in_loop slots m b t below formed ready =
    let behind = lay c slots m b t in
    let first = lay x behind.slots behind.node b t in
    let second = lay y first.slots behind.node b t in
    let h = lay_fits c vars s in_loop slots m b t below formed.3 ready in
    let g = lay_grows c slots m b t in
    let gx = lay_grows x behind.slots behind.node b t in
    let gy = lay_grows y first.slots behind.node b t in
    let le = grows_length slots behind.slots g in
    let lex = grows_length behind.slots first.slots gx in
    let ley = grows_length first.slots second.slots gy in
    let p = lay_fits x vars s in_loop behind.slots behind.node b t below formed.1 (record {
      fit = h.fit;
      next = h.within;
      out = omega (arith, le, ready.out);
      again = omega (arith, le, ready.again);
    }) in
    let q = lay_fits y vars s in_loop first.slots behind.node b t below formed.2 (record {
      fit = p.fit;
      next = omega (arith, lex, h.within);
      out = omega (arith, le, lex, ready.out);
      again = omega (arith, le, lex, ready.again);
    }) in
    let down : first.node < length second.slots = omega (arith, ley, p.within) in
    added_lay_fits vars second.slots (Branch e first.node second.node) q.fit (
      over_can_evaluate e vars s below formed.0,
      (omega (arith, down), inl down),
      (omega (arith, q.within), inl q.within),
    )
lay_fits (tree.Loop k e x y f c) vars s in_loop slots m b t below formed ready =
    let behind = lay c slots m b t in
    let head = added behind.slots None in
    let tail = lay y head.slots head.node b t in
    let inner = lay x tail.slots tail.node behind.node tail.node in
    let gh = grows_one behind.slots None in
    let gy = lay_grows y head.slots head.node b t in
    let gx = lay_grows x tail.slots tail.node behind.node tail.node in
    let grown = grows_trans head.slots tail.slots inner.slots gy gx in
    let is = behind_open behind.slots inner.slots grown in
    let h = lay_fits c vars s in_loop slots m b t below formed.5 ready in
    let le = grows_length slots behind.slots (lay_grows c slots m b t) in
    let leh = length-append behind.slots (None ∷ []) in
    let ley = grows_length head.slots tail.slots gy in
    let lex = grows_length tail.slots inner.slots gx in
    let q = lay_fits y vars s in_loop head.slots head.node b t below formed.2 (record {
      fit = open_fits vars behind.slots h.fit;
      next = omega (arith, leh);
      out = omega (arith, le, leh, ready.out);
      again = omega (arith, le, leh, ready.again);
    }) in
    let p = lay_fits x vars s true tail.slots tail.node behind.node tail.node below formed.1 (record {
      fit = q.fit;
      next = q.within;
      out = omega (arith, h.within, leh, ley);
      again = q.within;
    }) in
    let end = filled k inner.slots head.node (Branch e inner.node behind.node) in
    let size = filled_length k inner.slots head.node (Branch e inner.node behind.node) in
    let at_head : head.node < length end = omega (arith, leh, ley, lex, size) in
    let at_inner : inner.node < length end = omega (arith, p.within, size) in
    record {
      fit = test_fits vars behind.slots grown.more inner.slots e inner.node behind.node is p.fit (over_can_evaluate e vars s below formed.0)
          p.within h.within k x formed.4 (lay_begins x tail.slots tail.node behind.node tail.node);
      within = on f (length end) head.node inner.node at_head at_inner;
    }
  where
    on : (t : Bool) (size : ℕ) (i j : ℕ) → i < size → j < size → cond t i j < size
    on true size i j p q = p
    on false size i j p q = q
lay_fits (tree.Break c) vars s in_loop slots m b t below formed ready =
    let h = lay_fits c vars s in_loop slots m b t below formed.1 ready in
    record { fit = h.fit; within = omega (arith, ready.out, grows_length slots (lay c slots m b t).slots (lay_grows c slots m b t)) }
lay_fits (tree.Continue c) vars s in_loop slots m b t below formed ready =
    let h = lay_fits c vars s in_loop slots m b t below formed.1 ready in
    record { fit = h.fit; within = omega (arith, ready.again, grows_length slots (lay c slots m b t).slots (lay_grows c slots m b t)) }
lay_fits (tree.Return e c) vars s in_loop slots m b t below formed ready =
    let h = lay_fits c vars s in_loop slots m b t below formed.1 ready in
    added_lay_fits vars (lay c slots m b t).slots (Return e) h.fit (over_can_evaluate e vars s below formed.0)
lay_fits (tree.Mark k c) vars s in_loop slots m b t below formed ready =
    let behind = lay c slots m b t in
    let h = lay_fits c vars s in_loop slots m b t below formed ready in
    added_lay_fits vars behind.slots (Mark k behind.node) h.fit (omega (arith, h.within))
lay_fits (tree.Block x c) vars s in_loop slots m b t below formed ready =
    let behind = lay c slots m b t in
    let h = lay_fits c vars s in_loop slots m b t below formed.1 ready in
    let le = grows_length slots behind.slots (lay_grows c slots m b t) in
    lay_fits x vars s in_loop behind.slots behind.node b t below formed.0 (record {
      fit = h.fit;
      next = h.within;
      out = omega (arith, le, ready.out);
      again = omega (arith, le, ready.again);
    })
