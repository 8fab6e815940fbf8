-- Each mark of the statements has one node, and no slot stays open.
use Rattle.std.proofs.lemmas.Bool.{eqb-true, eq-eqb}
use Rattle.std.proofs.Common.{◌≡◌, ℕ, zero, suc, ◌+◌, ◌≤◌, Bool, true, false, eqb, ◌⊎◌, inl, inr, [], ◌∷◌, ◌++◌, length, Option, Some, None, refl, ap, ◌∙◌, arith}
use Rattle.std.specs.Prelude.{◌==◌}
use Rattle.c_ast.specs.Tree as tree
use Rattle.c_ast.specs.Tree.{Statements}
use Rattle.c_ast.specs.Step.{Scope, LoopParts, Run, Test, Cond, Tail, Work}
use Rattle.c_ast.specs.Segment.{StandsIn}
use Rattle.c_ast.specs.Formed.{one_if, is_mark, marks}
use Rattle.flow_graph.specs.Operation.{Operation, Set, Branch, Mark, Return}
use Rattle.flow_graph.specs.Layout.{Slots, added, filled, lay}
use Rattle.flow_graph.proofs.Growing.{grows_trans, behind_open, open_more, set_open, lay_grows}
use Rattle.flow_graph.proofs.Laid.{table_of}
use Rattle.flow_graph.proofs.Closing.{opens}

-- how many slots pass the mark
abbrev pub op_marks : ℕ → Option Operation → ℕ
op_marks k (Some (Mark j n)) = one_if (j == k)
op_marks k _ = 0

abbrev pub slot_marks : ℕ → Slots → ℕ
slot_marks k [] = 0
slot_marks k (op ∷ slots) = op_marks k op + slot_marks k slots

marks_append : (k : ℕ) (xs ys : Slots) → slot_marks k (xs ++ ys) ≡ slot_marks k xs + slot_marks k ys
marks_append k [] ys = omega arith
marks_append k (x ∷ xs) ys = omega (arith, marks_append k xs ys)

opens_append : (xs ys : Slots) → opens (xs ++ ys) ≡ opens xs + opens ys
opens_append [] ys = omega arith
opens_append (x ∷ xs) ys = omega (arith, opens_append xs ys)

-- the counts of new slots, beside those of old ones and of the statements
pub record Counts (k : ℕ) (old new : Slots) (more : ℕ) : Type 0 where
  pub marks : slot_marks k new ≡ slot_marks k old + more
  pub unfilled : opens new ≡ opens old

added_counts : (k : ℕ) (slots : Slots) (op : Operation) → Counts k slots (slots ++ Some op ∷ []) (op_marks k (Some op))
added_counts k slots op = record {
  marks = omega (arith, marks_append k slots (Some op ∷ []));
  unfilled = omega (arith, opens_append slots (Some op ∷ []));
}

-- the open slot behind the old ones is filled
filled_counts : (k : ℕ) (mark : Option ℕ) (old more slots : Slots) (e : tree.Expression) (body out : ℕ) → slots ≡ old ++ None ∷ more
    → (slot_marks k (filled mark slots (length old) (Branch e body out)) ≡ slot_marks k slots + one_if (is_mark mark k))
    × (suc (opens (filled mark slots (length old) (Branch e body out))) ≡ opens slots)
filled_counts k None old more slots e body out is =
    let test = Branch e body out in
    let new = set_open old more slots (Some test) is in (
      omega (arith, ap (slot_marks k) new, ap (slot_marks k) is, marks_append k old (Some test ∷ more), marks_append k old (None ∷ more)),
      omega (arith, ap opens new, ap opens is, opens_append old (Some test ∷ more), opens_append old (None ∷ more)),
    )
filled_counts k (Some mark) old more slots e body out is =
    let test = Branch e body out in
    let first = Mark mark (length slots) in
    let new = set_open old (more ++ Some test ∷ []) (slots ++ Some test ∷ []) (Some first) (open_more old more slots (Some test) is) in (
      omega (
        arith,
        ap (slot_marks k) new,
        ap (slot_marks k) is,
        marks_append k old (Some first ∷ (more ++ Some test ∷ [])),
        marks_append k more (Some test ∷ []),
        marks_append k old (None ∷ more),
      ),
      omega (
        arith,
        ap opens new,
        ap opens is,
        opens_append old (Some first ∷ (more ++ Some test ∷ [])),
        opens_append more (Some test ∷ []),
        opens_append old (None ∷ more),
      ),
    )

pub lay_counts : (k : ℕ) (c : Statements) (slots : Slots) (m b t : ℕ) → Counts k slots (lay c slots m b t).slots (marks k c)
lay_counts k tree.Nil slots m b t = record { marks = omega arith; unfilled = refl }
lay_counts k (tree.Set x e c) slots m b t =
    let behind = lay c slots m b t in
    let h = lay_counts k c slots m b t in
    let a = added_counts k behind.slots (Set x e behind.node) in
    record { marks = omega (arith, h.marks, a.marks); unfilled = a.unfilled ∙ h.unfilled }
lay_counts k (tree.If e x y c) slots m b t =
    let behind = lay c slots m b t in
    let first = lay x behind.slots behind.node b t in
    let second = lay y first.slots behind.node b t in
    let h = lay_counts k c slots m b t in
    let p = lay_counts k x behind.slots behind.node b t in
    let q = lay_counts k y first.slots behind.node b t in
    let a = added_counts k second.slots (Branch e first.node second.node) in
    record { marks = omega (arith, h.marks, p.marks, q.marks, a.marks); unfilled = a.unfilled ∙ q.unfilled ∙ p.unfilled ∙ h.unfilled }
lay_counts k (tree.Loop mark e x y f c) slots m b t =
    let behind = lay c slots m b t in
    let head = added behind.slots None in
    let tail = lay y head.slots head.node b t in
    let inner = lay x tail.slots tail.node behind.node tail.node in
    let grown = grows_trans head.slots tail.slots inner.slots (lay_grows y head.slots head.node b t) (lay_grows x tail.slots tail.node behind.node tail.node) in
    let h = lay_counts k c slots m b t in
    let p = lay_counts k y head.slots head.node b t in
    let q = lay_counts k x tail.slots tail.node behind.node tail.node in
    let a = filled_counts k mark behind.slots grown.more inner.slots e inner.node behind.node (behind_open behind.slots inner.slots grown) in
    record {
      marks = omega (arith, h.marks, p.marks, q.marks, a.0, marks_append k behind.slots (None ∷ []));
      unfilled = omega (arith, h.unfilled, p.unfilled, q.unfilled, a.1, opens_append behind.slots (None ∷ []));
    }
lay_counts k (tree.Break c) slots m b t = lay_counts k c slots m b t
lay_counts k (tree.Continue c) slots m b t = lay_counts k c slots m b t
lay_counts k (tree.Return e c) slots m b t =
    let h = lay_counts k c slots m b t in
    let a = added_counts k (lay c slots m b t).slots (Return e) in
    record { marks = omega (arith, h.marks, a.marks); unfilled = a.unfilled ∙ h.unfilled }
lay_counts k (tree.Mark j c) slots m b t =
    let behind = lay c slots m b t in
    let h = lay_counts k c slots m b t in
    let a = added_counts k behind.slots (Mark j behind.node) in
    record { marks = omega (arith, h.marks, a.marks); unfilled = a.unfilled ∙ h.unfilled }
lay_counts k (tree.Block x c) slots m b t =
    let behind = lay c slots m b t in
    let h = lay_counts k c slots m b t in
    let p = lay_counts k x behind.slots behind.node b t in
    record { marks = omega (arith, h.marks, p.marks); unfilled = p.unfilled ∙ h.unfilled }

-- ---- the one node of a mark

mark_here : (op : Option Operation) (k n : ℕ) → op ≡ Some (Mark k n) → op_marks k op ≡ 1
mark_here op k n is = rw is (ap one_if (eq-eqb k k refl))

pub some_marks : (slots : Slots) (i k n : ℕ) → table_of slots i ≡ Some (Mark k n) → 1 ≤ slot_marks k slots
some_marks [] i k n is = cc
some_marks (op ∷ slots) zero k n is = omega (arith, mark_here op k n is)
some_marks (op ∷ slots) (suc i) k n is = omega (arith, some_marks slots i k n is)

pub one_node : (slots : Slots) (i j k n m : ℕ) → slot_marks k slots ≤ 1 → table_of slots i ≡ Some (Mark k n) → table_of slots j ≡ Some (Mark k m) → i ≡ j
one_node [] i j k n m few p q = cc
one_node (op ∷ slots) zero zero k n m few p q = refl
one_node (op ∷ slots) zero (suc j) k n m few p q = absurd (omega (arith, mark_here op k n p, some_marks slots j k m q))
one_node (op ∷ slots) (suc i) zero k n m few p q = absurd (omega (arith, mark_here op k m q, some_marks slots i k n p))
one_node (op ∷ slots) (suc i) (suc j) k n m few p q = ap suc (one_node slots i j k n m (omega arith) p q)

-- ---- a mark that is counted stands in the statements

either : (a b : ℕ) → 1 ≤ a + b → (1 ≤ a) ⊎ (1 ≤ b)
either zero b h = inr (omega arith)
either (suc a) b h = inl (omega arith)

own_mark : (own : Option ℕ) (k : ℕ) → 1 ≤ one_if (is_mark own k) → own ≡ Some k
own_mark None k h = absurd (omega arith)
own_mark (Some j) k h = ap Some (same_mark (eqb j k) refl h)
  where
    same_mark : (t : Bool) → eqb j k ≡ t → 1 ≤ one_if t → j ≡ k
    same_mark true is h = eqb-true j k is
    same_mark false is h = absurd (omega arith)

pub stands_somewhere : (c : Statements) (s : Scope) (w : Work) (k : ℕ) → 1 ≤ marks k c → (v : Work) × StandsIn s c w k v
stands_somewhere tree.Nil s w k h = absurd (omega arith)
stands_somewhere (tree.Set x e c) s w k h = stands_somewhere c (x ∷ s) w k h
stands_somewhere (tree.If e a b c) s w k h =
    elim (either (marks k a) _ h) [
      | inl p ↦ (let v = stands_somewhere a s (Run s c ∷ w) k p in (v.0, inl v.1))
      | inr q ↦ elim (either (marks k b) (marks k c) q) [
        | inl p ↦ (let v = stands_somewhere b s (Run s c ∷ w) k p in (v.0, inr (inl v.1)))
        | inr p ↦ (let v = stands_somewhere c s w k p in (v.0, inr (inr v.1)))
      ]
    ]
stands_somewhere (tree.Loop own e a b f c) s w k h =
    let l : LoopParts = record { mark = own; cond = e; body = a; step = b } in
    elim (either (one_if (is_mark own k)) _ h) [
      | inl p ↦ (Cond s l ∷ Run s c ∷ w, inl (own_mark own k p, refl))
      | inr q ↦ elim (either (marks k a) _ q) [
        | inl p ↦ (let v = stands_somewhere a s (Tail s l ∷ Run s c ∷ w) k p in (v.0, inr (inl v.1)))
        | inr r ↦ elim (either (marks k b) (marks k c) r) [
          | inl p ↦ (let v = stands_somewhere b s (Test s l ∷ Run s c ∷ w) k p in (v.0, inr (inr (inl v.1))))
          | inr p ↦ (let v = stands_somewhere c s w k p in (v.0, inr (inr (inr v.1))))
        ]
      ]
    ]
stands_somewhere (tree.Break c) s w k h = stands_somewhere c s w k h
stands_somewhere (tree.Continue c) s w k h = stands_somewhere c s w k h
stands_somewhere (tree.Return e c) s w k h = stands_somewhere c s w k h
stands_somewhere (tree.Mark j c) s w k h =
    elim (either (one_if (j == k)) (marks k c) h) [
      | inl p ↦ (Run s c ∷ w, inl (let same : Some j ≡ Some k = own_mark (Some j) k p in cc, refl))
      | inr p ↦ (let v = stands_somewhere c s w k p in (v.0, inr v.1))
    ]
stands_somewhere (tree.Block a c) s w k h =
    elim (either (marks k a) (marks k c) h) [
      | inl p ↦ (let v = stands_somewhere a s (Run s c ∷ w) k p in (v.0, inl v.1))
      | inr p ↦ (let v = stands_somewhere c s w k p in (v.0, inr v.1))
    ]
