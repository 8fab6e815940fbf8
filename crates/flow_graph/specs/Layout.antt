-- How statements are laid as nodes: the last first, in front of the node that comes next.
use Rattle.std.specs.Prelude.{◌≡◌, ℕ, if◌then◌else◌, List, [], ◌∷◌, ◌++◌, length, map, Option, Some, None, pos, slice_set}
use Rattle.std.specs.Option.{option_map}
use Rattle.c_ast.specs.Tree as tree
use Rattle.c_ast.specs.Tree.{Statements, Program}
use Rattle.flow_graph.specs.declared.op.Op.{Op}
use Rattle.flow_graph.specs.Operation.{Operation, Set, Branch, Mark, Return, operation_of}

-- The slots of the nodes so far, of which some may be open.
abbrev pub Slots : Type 0
Slots = List (Option Operation)

-- The slots of the code.
abbrev pub slots_of : List (Option Op) → Slots
slots_of = map (option_map operation_of)

-- The slots, and the node at which the statements begin.
pub record Layout : Type 0 where
  pub slots : Slots
  pub node : ℕ

-- The layout of these parts.
abbrev pub layout : Slots → ℕ → Layout
layout slots node = record { slots = slots; node = node }

-- With one more slot, which is the node.
abbrev pub added : Slots → Option Operation → Layout
added slots op = layout (slots ++ op ∷ []) (length slots)

-- The loop's test fills its open slot; where the loop has a mark, that fills it, and the test comes next.
abbrev pub filled : Option ℕ → Slots → ℕ → Operation → Slots
filled None slots head test = slice_set slots head (Some test)
filled (Some mark) slots head test = slice_set (slots ++ Some test ∷ []) head (Some (Mark mark (length slots)))

-- The statements in front of the node `next`, where `break` and `continue` lead to `out` and `again`.
abbrev pub lay : Statements → Slots → ℕ → ℕ → ℕ → Layout
lay tree.Nil slots next out again = layout slots next
lay (tree.Set x e others) slots next out again =
    let behind = lay others slots next out again in
    added behind.slots (Some (Set x e behind.node))
lay (tree.If e a b others) slots next out again =
    let behind = lay others slots next out again in
    let first = lay a behind.slots behind.node out again in
    let second = lay b first.slots behind.node out again in
    added second.slots (Some (Branch e first.node second.node))
lay (tree.Loop mark e body step test_first others) slots next out again =
    let behind = lay others slots next out again in
    let head = added behind.slots None in
    let tail = lay step head.slots head.node out again in
    let inner = lay body tail.slots tail.node behind.node tail.node in
    let test = Branch e inner.node behind.node in
    layout (filled mark inner.slots head.node test) (if test_first then head.node else inner.node)
lay (tree.Break others) slots next out again =
    let behind = lay others slots next out again in
    layout behind.slots out
lay (tree.Continue others) slots next out again =
    let behind = lay others slots next out again in
    layout behind.slots again
lay (tree.Return e others) slots next out again =
    let behind = lay others slots next out again in
    added behind.slots (Some (Return e))
lay (tree.Mark mark others) slots next out again =
    let behind = lay others slots next out again in
    added behind.slots (Some (Mark mark behind.node))
lay (tree.Block a others) slots next out again =
    let behind = lay others slots next out again in
    lay a behind.slots behind.node out again

-- What a statement adds in front of what is laid behind it.
pub record Lays (front : Statements → Statements) (out again : ℕ) (behind made : Layout) : Type 0 where
  pub by : (others : Statements) (slots : Slots) (next : ℕ) → behind ≡ lay others slots next out again
      → made ≡ lay (front others) slots next out again

-- The node with which a layout begins, number 0: falling off the end of a function returns 0.
abbrev pub ending : Slots
ending = Some (Return (tree.Num (pos 0))) ∷ []

-- The slots of these nodes, all of them filled.
abbrev pub all_filled : List Op → Slots
all_filled = map (λ op. Some (operation_of op))

-- The nodes are those of the function's statements, laid in front of the end, and a run begins where these begin. No
-- slot is open.
abbrev pub IsLaidOut : Program → List Op → ℕ → Type 0
IsLaidOut f ops entry = layout (all_filled ops) entry ≡ lay f.body ending 0 0 0
