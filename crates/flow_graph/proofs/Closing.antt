-- The operations of slots of which none is open.
use Rattle.std.proofs.Common.{◌≡◌, ℕ, zero, suc, ◌+◌, length, List, [], ◌∷◌, ◌++◌, Option, Some, None, refl, sym, ap, ◌∙◌, arith, append-nil}
use Rattle.std.specs.Prelude.{filter_map}
use Rattle.std.proofs.lemmas.List.Elements.{filter_map-append}
use Rattle.std.specs.Prelude.{slice_get, is_none}
use Rattle.std.specs.Option.{option_map}
use Rattle.c_ast.specs.Formed.{one_if}
use Rattle.flow_graph.specs.declared.op.Op.{Op}
use Rattle.flow_graph.specs.Operation.{operation_of}
use Rattle.flow_graph.specs.Layout.{Slots, slots_of, all_filled}
use Rattle.flow_graph.proofs.Laid.{table_of}

pub closed_some : (slots : List (Option Op)) (slot : Option Op) (ops : List Op) (op : Op) → ops ≡ filter_map (λ s. s) slots → slot ≡ Some op → ops ++ op ∷ []
    ≡ filter_map (λ s. s) (slots ++ slot ∷ [])
closed_some slots slot ops op is full = rw full (ap (λ (z : List Op). z ++ op ∷ []) is ∙ sym (filter_map-append (λ s. s) slots (Some op ∷ [])))

closed_none : (slots : List (Option Op)) (slot : Option Op) (ops : List Op) → ops ≡ filter_map (λ s. s) slots → slot ≡ None → ops
    ≡ filter_map (λ s. s) (slots ++ slot ∷ [])
closed_none slots slot ops is empty = rw empty (is ∙ sym (append-nil (filter_map (λ s. s) slots)) ∙ sym (filter_map-append (λ s. s) slots (None ∷ [])))

pub closed_other : (slots : List (Option Op)) (slot : Option Op) (ops : List Op) → ops ≡ filter_map (λ s. s) slots → ((op : Op) → slot ≡ Some op → ⊥) → ops
    ≡ filter_map (λ s. s) (slots ++ slot ∷ [])
closed_other slots None ops is empty = closed_none slots None ops is refl
closed_other slots (Some op) ops is empty = absurd (empty op refl)

abbrev pub opens : Slots → ℕ
opens [] = 0
opens (op ∷ slots) = one_if (is_none op) + opens slots

-- where none is open, the operations are those of the slots
pub closed_table : (slots : List (Option Op)) (i : ℕ) → opens (slots_of slots) ≡ 0 → table_of (slots_of slots) i
    ≡ option_map operation_of (slice_get (filter_map (λ s. s) slots) i)
closed_table [] i none = refl
closed_table (None ∷ slots) i none = absurd (omega arith)
closed_table (Some op ∷ slots) zero none = refl
closed_table (Some op ∷ slots) (suc i) none = closed_table slots i (omega arith)

pub closed_length : (slots : List (Option Op)) → opens (slots_of slots) ≡ 0 → length (filter_map (λ s. s) slots) ≡ length (slots_of slots)
closed_length [] none = refl
closed_length (None ∷ slots) none = absurd (omega arith)
closed_length (Some op ∷ slots) none = ap suc (closed_length slots (omega arith))

-- and the slots are those of the operations
pub closed_filled : (slots : List (Option Op)) → opens (slots_of slots) ≡ 0 → all_filled (filter_map (λ s. s) slots) ≡ slots_of slots
closed_filled [] none = refl
closed_filled (None ∷ slots) none = absurd (omega arith)
closed_filled (Some op ∷ slots) none = ap (λ (z : Slots). Some (operation_of op) ∷ z) (closed_filled slots (omega arith))
