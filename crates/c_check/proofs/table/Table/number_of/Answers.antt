-- The number of a name's variable is that of its slot.
use Rattle.std.proofs.Common.{◌≡◌, ℕ, List, ◌∷◌, Some, None, reverse, subst, sym, ap, ◌∙◌}
use Rattle.std.specs.Prelude.{option_map, option_copied}
use Rattle.std.specs.HashMap.{get_by_text}
use Rattle.c_check.specs.declared.table.Slot.{Slot}
use Rattle.c_check.specs.Entries.{turned, slot_of, slots_of}
use Rattle.c_check.proofs.Slots.{number_of_slot}
use Rattle.c_check.proofs.table.Table.number_of.Goals as goal

pub returns-in-Some : goal.returns-in-Some
returns-in-Some c =
    let blocks = reverse c.self.inside.block ∷ turned c.self.inside.outer in
    let value : option_copied c.get.result ≡ get_by_text c.self.inside.newest c.text.result.now = c.get.ensures.value in
    let found : slot_of (slots_of blocks) c.args.name.now ≡ Some c.in-Some.slot.now =
    sym (c.self.invariant.current c.args.name.now)
    ∙ subst (λ (name : List ℕ). get_by_text c.self.inside.newest name ≡ Some c.in-Some.slot.now) c.text.ensures (sym value ∙ ap option_copied c.in-Some.is) in
    rw (← c.self.view_is) (sym (number_of_slot c.args.name.now blocks ∙ ap (option_map (λ (some_slot : Slot). some_slot.number)) found))

pub returns-in-None : goal.returns-in-None
returns-in-None c =
    let blocks = reverse c.self.inside.block ∷ turned c.self.inside.outer in
    let value : option_copied c.get.result ≡ get_by_text c.self.inside.newest c.text.result.now = c.get.ensures.value in
    let found : slot_of (slots_of blocks) c.args.name.now ≡ None =
    sym (c.self.invariant.current c.args.name.now)
    ∙ subst (λ (name : List ℕ). get_by_text c.self.inside.newest name ≡ None) c.text.ensures (sym value ∙ ap option_copied c.in-None.is) in
    rw (← c.self.view_is) (sym (number_of_slot c.args.name.now blocks ∙ ap (option_map (λ (some_slot : Slot). some_slot.number)) found))
