-- Which nodes stand for which statements, and for which work.
use Rattle.std.proofs.Common.{◌≡◌, ℕ, zero, suc, cond, [], ◌∷◌, ◌++◌, length, Option, Some, None, pos, refl, sym, ap, ◌∙◌, subst}
use Rattle.std.specs.Prelude.{slice_set}
use Rattle.c_ast.specs.Tree as tree
use Rattle.c_ast.specs.Tree.{Expression, Num, Statements}
use Rattle.c_ast.specs.Step.{LoopParts, Run, Test, Cond, Tail, Work}
use Rattle.flow_graph.specs.Operation.{Operation, Set, Branch, Mark, Return}
use Rattle.flow_graph.specs.Layout.{Slots, added, filled, lay}
use Rattle.flow_graph.proofs.Growing.{Grows, grows_trans, grows_one, behind_open, open_more, set_open, lay_grows}

-- the operation of each node, where there is one
abbrev pub Table : Type 0
Table = ℕ → Option Operation

-- The node at which a loop's test begins: where it has a mark, that stands before the condition.
abbrev pub TestLaid : Table → Option ℕ → Expression → ℕ → ℕ → ℕ → Type 0
TestLaid at None e head body out = at head ≡ Some (Branch e body out)
TestLaid at (Some mark) e head body out = (test : ℕ) × (at head ≡ Some (Mark mark test)) × (at test ≡ Some (Branch e body out))

-- The statements begin at node n, go on at node m, and break and continue at nodes b and t.
abbrev pub Laid : Table → Statements → ℕ → ℕ → ℕ → ℕ → Type 0
Laid at tree.Nil n m b t = n ≡ m
Laid at (tree.Set x e c) n m b t = (i : ℕ) × (at n ≡ Some (Set x e i)) × Laid at c i m b t
Laid at (tree.If e x y c) n m b t =
    (i : ℕ) × (j : ℕ) × (q : ℕ) × (at n ≡ Some (Branch e i j)) × Laid at x i q b t × Laid at y j q b t × Laid at c q m b t
Laid at (tree.Loop k e x y f c) n m b t =
    (head : ℕ) × (body : ℕ) × (tail : ℕ) × (q : ℕ) × TestLaid at k e head body q × Laid at x body tail q tail × Laid at y tail head b t
    × (n ≡ cond f head body) × Laid at c q m b t
Laid at (tree.Break c) n m b t = (n ≡ b) × (i : ℕ) × Laid at c i m b t
Laid at (tree.Continue c) n m b t = (n ≡ t) × (i : ℕ) × Laid at c i m b t
Laid at (tree.Return e c) n m b t = (at n ≡ Some (Return e)) × (i : ℕ) × Laid at c i m b t
Laid at (tree.Mark k c) n m b t = (i : ℕ) × (at n ≡ Some (Mark k i)) × Laid at c i m b t
Laid at (tree.Block x c) n m b t = (q : ℕ) × Laid at x n q b t × Laid at c q m b t

-- The nodes of a loop: its test's, its body's, its tail's, the one after it, and the two of the loop around it.
pub record LoopLaid (at : Table) (l : LoopParts) (head body tail out b t : ℕ) : Type 0 where
  pub test : TestLaid at l.mark l.cond head body out
  pub inner : Laid at l.body body tail out tail
  pub last : Laid at l.step tail head b t

-- falling off the end
abbrev pub IsEnd : Table → ℕ → Type 0
IsEnd at n = at n ≡ Some (Return (Num (pos 0)))

-- Node n stands for the work, and nodes b and t for what breaking and continuing lead to.
abbrev pub WorkLaid : Table → Work → ℕ → ℕ → ℕ → Type 0
WorkLaid at [] n b t = IsEnd at n × IsEnd at b × IsEnd at t
WorkLaid at (Run s c ∷ w) n b t = (m : ℕ) × Laid at c n m b t × WorkLaid at w m b t
WorkLaid at (Test s l ∷ w) n b t = (body : ℕ) × (tail : ℕ) × (out : ℕ) × LoopLaid at l n body tail out b t × WorkLaid at w out b t
WorkLaid at (Cond s l ∷ w) n b t =
    (head : ℕ) × (body : ℕ) × (tail : ℕ) × (out : ℕ) × LoopLaid at l head body tail out b t × (at n ≡ Some (Branch l.cond body out)) × WorkLaid at w out b t
WorkLaid at (Tail s l ∷ w) n b t =
    (head : ℕ) × (body : ℕ) × (c : ℕ) × (u : ℕ) × LoopLaid at l head body n b c u × (t ≡ n) × WorkLaid at w b c u

-- ---- what is laid stays laid while slots are added and open ones are filled

pub record Extends (at more : Table) : Type 0 where
  pub by : (i : ℕ) (op : Operation) → at i ≡ Some op → more i ≡ Some op

pub extends_trans : (a b c : Table) → Extends a b → Extends b c → Extends a c
extends_trans a b c x y = record { by = λ i op h. y.by i op (x.by i op h) }

test_more : (at more : Table) → Extends at more → (k : Option ℕ) (e : Expression) (head body out : ℕ) → TestLaid at k e head body out
    → TestLaid more k e head body out
test_more at more x None e head body out h = x.by _ _ h
test_more at more x (Some k) e head body out h = (h.0, x.by _ _ h.1, x.by _ _ h.2)

pub laid_more : (c : Statements) (at more : Table) → Extends at more → (n m b t : ℕ) → Laid at c n m b t → Laid more c n m b t
laid_more tree.Nil at more x n m b t h = h
laid_more (tree.Set v e c) at more x n m b t h = (h.0, x.by _ _ h.1, laid_more c at more x h.0 m b t h.2)
laid_more (tree.If e a d c) at more x n m b t h =
    (h.0, h.1, h.2, x.by _ _ h.3, laid_more a at more x _ _ b t h.4, laid_more d at more x _ _ b t h.5, laid_more c at more x _ _ b t h.6)
laid_more (tree.Loop k e a d f c) at more x n m b t h = (
  h.0,
  h.1,
  h.2,
  h.3,
  test_more at more x k e _ _ _ h.4,
  laid_more a at more x _ _ _ _ h.5,
  laid_more d at more x _ _ b t h.6,
  h.7,
  laid_more c at more x _ _ b t h.8,
)
laid_more (tree.Break c) at more x n m b t h = (h.0, h.1, laid_more c at more x _ _ b t h.2)
laid_more (tree.Continue c) at more x n m b t h = (h.0, h.1, laid_more c at more x _ _ b t h.2)
laid_more (tree.Return e c) at more x n m b t h = (x.by _ _ h.0, h.1, laid_more c at more x _ _ b t h.2)
laid_more (tree.Mark k c) at more x n m b t h = (h.0, x.by _ _ h.1, laid_more c at more x _ _ b t h.2)
laid_more (tree.Block a c) at more x n m b t h = (h.0, laid_more a at more x _ _ b t h.1, laid_more c at more x _ _ b t h.2)

-- ---- slots as a table

abbrev pub table_of : Slots → Table
table_of [] i = None
table_of (op ∷ slots) zero = op
table_of (op ∷ slots) (suc i) = table_of slots i

extends_append : (xs ys : Slots) (i : ℕ) (op : Operation) → table_of xs i ≡ Some op → table_of (xs ++ ys) i ≡ Some op
extends_append [] ys i op h = cc
extends_append (x ∷ xs) ys zero op h = h
extends_append (x ∷ xs) ys (suc i) op h = extends_append xs ys i op h

pub grows_extends : (old new : Slots) → Grows old new → Extends (table_of old) (table_of new)
grows_extends old new g = record { by = λ i op h. subst (λ (z : Slots). table_of z i ≡ Some op) (sym g.is) (extends_append old g.more i op h) }

pub table_at : (xs ys : Slots) (op : Option Operation) → table_of (xs ++ op ∷ ys) (length xs) ≡ op
table_at [] ys op = refl
table_at (x ∷ xs) ys op = table_at xs ys op

extends_fill : (xs ys : Slots) (op' : Option Operation) (i : ℕ) (op : Operation) → table_of (xs ++ None ∷ ys) i ≡ Some op → table_of (xs ++ op' ∷ ys) i
    ≡ Some op
extends_fill [] ys op' zero op h = cc
extends_fill [] ys op' (suc i) op h = h
extends_fill (x ∷ xs) ys op' zero op h = h
extends_fill (x ∷ xs) ys op' (suc i) op h = extends_fill xs ys op' i op h

-- the open slot behind the old ones is filled
module _ (old more slots : Slots) (first : Operation) (is : slots ≡ old ++ None ∷ more) where
  set_is : slice_set slots (length old) (Some first) ≡ old ++ Some first ∷ more
  set_is = set_open old more slots (Some first) is

  pub set_extends : Extends (table_of slots) (table_of (slice_set slots (length old) (Some first)))
  set_extends = record {
    by = λ i op h. subst (λ (z : Slots). table_of z i ≡ Some op) (sym set_is)
        (extends_fill old more (Some first) i op (subst (λ (z : Slots). table_of z i ≡ Some op) is h));
  }

  pub set_at : table_of (slice_set slots (length old) (Some first)) (length old) ≡ Some first
  set_at = ap (λ (z : Slots). table_of z (length old)) set_is ∙ table_at old more (Some first)

pub filled_extends : (mark : Option ℕ) (old more slots : Slots) (test : Operation) → slots ≡ old ++ None ∷ more
    → Extends (table_of slots) (table_of (filled mark slots (length old) test))
filled_extends None old more slots test is = set_extends old more slots test is
filled_extends (Some mark) old more slots test is =
    extends_trans (table_of slots) (table_of (slots ++ Some test ∷ [])) _ (grows_extends slots (slots ++ Some test ∷ []) (grows_one slots (Some test)))
    (set_extends old (more ++ Some test ∷ []) (slots ++ Some test ∷ []) (Mark mark (length slots)) (open_more old more slots (Some test) is))

-- the test of a loop in its slots
test_laid : (mark : Option ℕ) (old more slots : Slots) (e : Expression) (body out : ℕ) → slots ≡ old ++ None ∷ more
    → TestLaid (table_of (filled mark slots (length old) (Branch e body out))) mark e (length old) body out
test_laid None old more slots e body out is = set_at old more slots (Branch e body out) is
test_laid (Some mark) old more slots e body out is =
    let test = Branch e body out in
    let whole = open_more old more slots (Some test) is in (
      length slots,
      set_at old (more ++ Some test ∷ []) (slots ++ Some test ∷ []) (Mark mark (length slots)) whole,
      (set_extends old (more ++ Some test ∷ []) (slots ++ Some test ∷ [])
          (Mark mark (length slots)) whole).by (length slots) test (table_at slots [] (Some test)),
    )

-- ---- statements are laid

later : (c : Statements) (old new : Slots) → Grows old new → (n m b t : ℕ) → Laid (table_of old) c n m b t → Laid (table_of new) c n m b t
later c old new g n m b t h = laid_more c (table_of old) (table_of new) (grows_extends old new g) n m b t h

pub lay_laid : (c : Statements) (slots : Slots) (m b t : ℕ) → Laid (table_of (lay c slots m b t).slots) c (lay c slots m b t).node m b t
lay_laid tree.Nil slots m b t = refl
lay_laid (tree.Set x e c) slots m b t =
    let behind = lay c slots m b t in (
      behind.node,
      table_at behind.slots [] (Some (Set x e behind.node)),
      later c behind.slots _ (grows_one behind.slots _)
          behind.node m b t (lay_laid c slots m b t),
    )
lay_laid (tree.If e x y c) slots m b t =
    let behind = lay c slots m b t in
    let first = lay x behind.slots behind.node b t in
    let second = lay y first.slots behind.node b t in
    let op = Some (Branch e first.node second.node) in
    let g2 = grows_one second.slots op in
    let g1 = grows_trans first.slots second.slots (second.slots ++ op ∷ []) (lay_grows y first.slots behind.node b t) g2 in
    let g0 = grows_trans behind.slots first.slots (second.slots ++ op ∷ []) (lay_grows x behind.slots behind.node b t) g1 in (
      first.node,
      second.node,
      behind.node,
      table_at second.slots [] op,
      later x first.slots _ g1 first.node behind.node b t (lay_laid x behind.slots behind.node b t),
      later y second.slots _ g2 second.node behind.node b t (lay_laid y first.slots behind.node b t),
      later c behind.slots _ g0 behind.node m b t (lay_laid c slots m b t),
    )
lay_laid (tree.Loop k e x y f c) slots m b t =
    let behind = lay c slots m b t in
    let head = added behind.slots None in
    let tail = lay y head.slots head.node b t in
    let inner = lay x tail.slots tail.node behind.node tail.node in
    let test = Branch e inner.node behind.node in
    let grown = grows_trans head.slots tail.slots inner.slots (lay_grows y head.slots head.node b t) (lay_grows x tail.slots tail.node behind.node tail.node) in
    let is = behind_open behind.slots inner.slots grown in
    let end = filled k inner.slots head.node test in
    let ext = filled_extends k behind.slots grown.more inner.slots test is in
    let before = grows_trans behind.slots head.slots inner.slots (grows_one behind.slots None) grown in (
      head.node,
      inner.node,
      tail.node,
      behind.node,
      test_laid k behind.slots grown.more inner.slots e inner.node behind.node is,
      laid_more x (table_of inner.slots) (table_of end) ext inner.node tail.node behind.node tail.node (lay_laid x tail.slots tail.node behind.node tail.node),
      laid_more y (table_of inner.slots)
          (table_of end) ext tail.node head.node b t (later y tail.slots inner.slots (lay_grows x tail.slots tail.node behind.node tail.node)
          tail.node head.node b t (lay_laid y head.slots head.node b t)),
      refl,
      laid_more c (table_of inner.slots)
          (table_of end) ext behind.node m b t (later c behind.slots inner.slots before behind.node m b t (lay_laid c slots m b t)),
    )
lay_laid (tree.Break c) slots m b t = (refl, (lay c slots m b t).node, lay_laid c slots m b t)
lay_laid (tree.Continue c) slots m b t = (refl, (lay c slots m b t).node, lay_laid c slots m b t)
lay_laid (tree.Return e c) slots m b t =
    let behind = lay c slots m b t in
    (table_at behind.slots [] (Some (Return e)), behind.node, later c behind.slots _ (grows_one behind.slots _) behind.node m b t (lay_laid c slots m b t))
lay_laid (tree.Mark k c) slots m b t =
    let behind = lay c slots m b t in (
      behind.node,
      table_at behind.slots [] (Some (Mark k behind.node)),
      later c behind.slots _ (grows_one behind.slots _)
          behind.node m b t (lay_laid c slots m b t),
    )
lay_laid (tree.Block x c) slots m b t =
    let behind = lay c slots m b t in (
      behind.node,
      lay_laid x behind.slots behind.node b t,
      later c behind.slots _ (lay_grows x behind.slots behind.node b t)
          behind.node m b t (lay_laid c slots m b t),
    )
