-- Laying statements adds slots at the end.
use Rattle.std.proofs.Common.{◌≡◌, ℕ, ◌≤◌, ◌<◌, List, [], ◌∷◌, ◌++◌, length, Option, Some, None, refl, sym, ap, ◌∙◌, arith, append_assoc, append-nil, length-append}
use Rattle.std.proofs.lemmas.List.{length-map, map-append, map-set}
use Rattle.std.specs.Prelude.{slice_set}
use Rattle.std.specs.Option.{option_map}
use Rattle.std.proofs.Math.Seq.{set-append_seam}
use Rattle.c_ast.specs.Tree.{Statements, Nil, Set, If, Loop, Break, Continue, Return, Mark, Block}
use Rattle.flow_graph.specs.declared.op.Op.{Op}
use Rattle.flow_graph.specs.Operation as operation
use Rattle.flow_graph.specs.Operation.{Operation, operation_of}
use Rattle.flow_graph.specs.declared.op.Op.TheVariants as op
use Rattle.flow_graph.specs.Layout.{Slots, slots_of, Layout, layout, added, filled, lay}

-- ---- the slots of the code

pub slots_of-add : (slots : List (Option Op)) (op : Option Op) → slots_of (slots ++ op ∷ []) ≡ slots_of slots ++ option_map operation_of op ∷ []
slots_of-add slots op = map-append (option_map operation_of) slots (op ∷ [])

pub slots_of-length : (slots : List (Option Op)) → length (slots_of slots) ≡ length slots
slots_of-length slots = length-map slots (option_map operation_of)

pub slots_of-set : (slots : List (Option Op)) (i : ℕ) (op : Op) → slots_of (slice_set slots i (Some op)) ≡ slice_set (slots_of slots) i (Some (operation_of op))
slots_of-set slots i op = map-set (option_map operation_of) slots i (Some op)

-- ---- more slots

pub record Grows (old new : Slots) : Type 0 where
  pub more : Slots
  pub is : new ≡ old ++ more

pub grows_refl : (old : Slots) → Grows old old
grows_refl old = record { more = []; is = sym (append-nil old) }

pub grows_trans : (old mid new : Slots) → Grows old mid → Grows mid new → Grows old new
grows_trans old mid new g h = record { more = g.more ++ h.more; is = h.is ∙ ap (λ (l : Slots). l ++ h.more) g.is ∙ append_assoc old g.more h.more }

pub grows_one : (old : Slots) (op : Option Operation) → Grows old (old ++ op ∷ [])
grows_one old op = record { more = op ∷ []; is = refl }

pub open_more : (old more slots : Slots) (last : Option Operation) → slots ≡ old ++ None ∷ more → slots ++ last ∷ [] ≡ old ++ None ∷ (more ++ last ∷ [])
open_more old more slots last is = ap (λ (z : Slots). z ++ last ∷ []) is ∙ append_assoc old (None ∷ more) (last ∷ [])

pub set_open : (old more slots : Slots) (first : Option Operation) → slots ≡ old ++ None ∷ more → slice_set slots (length old) first ≡ old ++ first ∷ more
set_open old more slots first is = ap (λ (z : Slots). slice_set z (length old) first) is ∙ set-append_seam old None more first

-- the open slot behind the old ones is filled
filled_grows : (mark : Option ℕ) (old more slots : Slots) (test : Operation) → slots ≡ old ++ None ∷ more → Grows old (filled mark slots (length old) test)
filled_grows None old more slots test is = record { more = Some test ∷ more; is = set_open old more slots (Some test) is }
filled_grows (Some mark) old more slots test is = record {
  more = Some (operation.Mark mark (length slots)) ∷ (more ++ Some test ∷ []);
  is = set_open old (more ++ Some test ∷ []) (slots ++ Some test ∷ []) (Some (operation.Mark mark (length slots))) (open_more old more slots (Some test) is);
}

-- what stands behind an open slot
pub behind_open : (old slots : Slots) (g : Grows (old ++ None ∷ []) slots) → slots ≡ old ++ None ∷ g.more
behind_open old slots g = g.is ∙ append_assoc old (None ∷ []) g.more

pub lay_grows : (c : Statements) (slots : Slots) (next out again : ℕ) → Grows slots (lay c slots next out again).slots
lay_grows Nil slots next out again = grows_refl slots
lay_grows (Set x e c) slots next out again = grows_trans slots _ _ (lay_grows c slots next out again) (grows_one (lay c slots next out again).slots _)
lay_grows (If e a b c) slots next out again =
    let behind = lay c slots next out again in
    let first = lay a behind.slots behind.node out again in
    let second = lay b first.slots behind.node out again in
    grows_trans slots _ _ (lay_grows c slots next out again) (
    grows_trans behind.slots _ _ (lay_grows a behind.slots behind.node out again)
    (grows_trans first.slots _ _ (lay_grows b first.slots behind.node out again) (grows_one second.slots _))
    )
lay_grows (Loop mark e a b test_first c) slots next out again =
    let behind = lay c slots next out again in
    let head = added behind.slots None in
    let tail = lay b head.slots head.node out again in
    let inner = lay a tail.slots tail.node behind.node tail.node in
    let all = grows_trans head.slots _ _ (lay_grows b head.slots head.node out again) (lay_grows a tail.slots tail.node behind.node tail.node) in
    grows_trans slots _ _ (lay_grows c slots next out again)
    (filled_grows mark behind.slots all.more inner.slots (operation.Branch e inner.node behind.node) (behind_open behind.slots inner.slots all))
lay_grows (Break c) slots next out again = lay_grows c slots next out again
lay_grows (Continue c) slots next out again = lay_grows c slots next out again
lay_grows (Return e c) slots next out again = grows_trans slots _ _ (lay_grows c slots next out again) (grows_one (lay c slots next out again).slots _)
lay_grows (Mark mark c) slots next out again = grows_trans slots _ _ (lay_grows c slots next out again) (grows_one (lay c slots next out again).slots _)
lay_grows (Block a c) slots next out again =
    let behind = lay c slots next out again in
    grows_trans slots _ _ (lay_grows c slots next out again) (lay_grows a behind.slots behind.node out again)

pub grows_length : (old new : Slots) → Grows old new → length old ≤ length new
grows_length old new g = omega (arith, ap length g.is, length-append old g.more)

-- ---- the same, from what the code knows

pub fill_none : (mark : Option ℕ) (slots : List (Option Op)) (head : ℕ) (test : Op) → mark ≡ None → slots_of (slice_set slots head (Some test))
    ≡ filled mark (slots_of slots) head (operation_of test)
fill_none mark slots head test is = rw is (slots_of-set slots head test)

pub fill_some : (mark : Option ℕ) (own : ℕ) (slots more : List (Option Op)) (head next : ℕ) (test : Op) → mark ≡ Some own
    → layout (slots_of more) next ≡ added (slots_of slots) (Some (operation_of test))
    → slots_of (slice_set more head (Some (op.Mark own next))) ≡ filled mark (slots_of slots) head (operation_of test)
fill_some mark own slots more head next test is grown =
    let new : slots_of more ≡ slots_of slots ++ Some (operation_of test) ∷ [] = ap (λ (z : Layout). z.slots) grown in
    let at : next ≡ length (slots_of slots) = ap (λ (z : Layout). z.node) grown in
    rw is (slots_of-set more head (op.Mark own next) ∙ ap (λ (z : Slots). slice_set z head (Some (operation.Mark own next))) new
    ∙ ap (λ (i : ℕ). slice_set (slots_of slots ++ Some (operation_of test) ∷ []) head (Some (operation.Mark own i))) at)

pub head_within : (old first second third : List (Option Op)) (a b : Statements) (head tail inner next out again : ℕ)
    → layout (slots_of first) head ≡ added (slots_of old) None → layout (slots_of second) tail ≡ lay b (slots_of first) head out again
    → layout (slots_of third) inner ≡ lay a (slots_of second) tail next tail → head < length third
head_within old first second third a b head tail inner next out again p q r =
    let g = grows_length _ _ (lay_grows b (slots_of first) head out again) in
    let h = grows_length _ _ (lay_grows a (slots_of second) tail next tail) in
    let p0 : length (slots_of first) ≡ length (slots_of old ++ None ∷ []) = ap (λ (z : Layout). length z.slots) p in
    let p1 : head ≡ length (slots_of old) = ap (λ (z : Layout). z.node) p in
    let q0 : length (slots_of second) ≡ length (lay b (slots_of first) head out again).slots = ap (λ (z : Layout). length z.slots) q in
    let r0 : length (slots_of third) ≡ length (lay a (slots_of second) tail next tail).slots = ap (λ (z : Layout). length z.slots) r in
    omega (arith, g, h, p0, p1, q0, r0, length-append (slots_of old) (None ∷ []), slots_of-length third)
