-- The variable becomes the newest of its name, and is put last into its block.
use Rattle.std.proofs.Common.{◌≡◌, ℕ, List, [], ◌∷◌, ◌++◌, length, reverse, Some, sym, ap, ◌∙◌}
use Rattle.std.specs.Prelude.{string_bytes, bytes_eq}
use Rattle.std.specs.HashMap.{get_by_text}
use Rattle.std.specs.Map.{update}
use Rattle.std.proofs.lemmas.Map.Text.{hash_map_updates_text}
use Rattle.std.proofs.lemmas.List.{reverse-append}
use Rattle.c_check.specs.declared.table.Entry.{Entry}
use Rattle.c_check.specs.declared.table.Slot.{Slot}
use Rattle.c_check.specs.Entries.{turned}
use Rattle.c_check.proofs.Slots.{declares, restores, length-turned}
use Rattle.c_check.proofs.table.Table.declare.Goals as goal

pub invariant_of-self-in-Ok : goal.invariant_of-self-in-Ok
invariant_of-self-in-Ok c =
    let entry : Entry = record { name = c.in_ok-name.name; number = c.args.number; hidden = c.in_ok-hidden.hidden } in
    let slot : Slot = record { number = c.args.number; depth = c.len.result } in
    let newest : slot ≡ record { number = c.args.number; depth = length (turned c.self.inside.outer) } =
    ap (λ (n : ℕ). record { number = c.args.number; depth = n }) (c.len.ensures ∙ sym (length-turned c.self.inside.outer)) in
    let key : string_bytes c.in_ok-key.key ≡ c.args.name.now = c.in_ok-key.ensures.ok ∙ c.text-text.ensures in
    let name : string_bytes c.in_ok-name.name ≡ c.args.name.now = c.in_ok-name.ensures.ok ∙ c.text-text.ensures in
    let old : c.in_ok-hidden.hidden ≡ get_by_text c.self.inside.newest (string_bytes c.in_ok-key.key) = c.in_ok-hidden.ensures.old in
    let hides : c.in_ok-hidden.hidden ≡ get_by_text c.self.inside.newest (string_bytes c.in_ok-name.name) = rw (name, ← key) old in
    let sets : (other : List ℕ)
    → get_by_text c.insert.new.self other ≡ update bytes_eq (get_by_text c.self.inside.newest) (string_bytes c.in_ok-name.name) (Some slot) other =
    λ other. rw (name, ← key) (hash_map_updates_text (string_bytes c.in_ok-key.key) c.self.inside.newest c.insert.new.self
    (Some slot) c.in_ok-hidden.ensures.updates other) in
    let table = declares c.self.inside.newest c.insert.new.self entry slot (reverse c.self.inside.block) (turned c.self.inside.outer) c.self.invariant
    newest hides sets in
    let block : c.push-pushed.new.self ≡ c.self.inside.block ++ entry ∷ [] = c.in-Ok.ensures.ok in
    let front : reverse c.push-pushed.new.self ≡ entry ∷ reverse c.self.inside.block = ap reverse block ∙ reverse-append c.self.inside.block (entry ∷ []) in
    rw front table

pub invariant_of-self-in-Err : goal.invariant_of-self-in-Err
invariant_of-self-in-Err c =
    let entry : Entry = record { name = c.in_ok-name.name; number = c.args.number; hidden = c.in_ok-hidden.hidden } in
    let slot : Slot = record { number = c.args.number; depth = c.len.result } in
    let newest : slot ≡ record { number = c.args.number; depth = length (turned c.self.inside.outer) } =
    ap (λ (n : ℕ). record { number = c.args.number; depth = n }) (c.len.ensures ∙ sym (length-turned c.self.inside.outer)) in
    let key : string_bytes c.in_ok-key.key ≡ c.args.name.now = c.in_ok-key.ensures.ok ∙ c.text-text.ensures in
    let name : string_bytes c.in_ok-name.name ≡ c.args.name.now = c.in_ok-name.ensures.ok ∙ c.text-text.ensures in
    let old : c.in_ok-hidden.hidden ≡ get_by_text c.self.inside.newest (string_bytes c.in_ok-key.key) = c.in_ok-hidden.ensures.old in
    let hides : c.in_ok-hidden.hidden ≡ get_by_text c.self.inside.newest (string_bytes c.in_ok-name.name) = rw (name, ← key) old in
    let sets : (other : List ℕ)
    → get_by_text c.insert.new.self other ≡ update bytes_eq (get_by_text c.self.inside.newest) (string_bytes c.in_ok-name.name) (Some slot) other =
    λ other. rw (name, ← key) (hash_map_updates_text (string_bytes c.in_ok-key.key) c.self.inside.newest c.insert.new.self
    (Some slot) c.in_ok-hidden.ensures.updates other) in
    let table = declares c.self.inside.newest c.insert.new.self entry slot (reverse c.self.inside.block) (turned c.self.inside.outer) c.self.invariant
    newest hides sets in
    let block : c.push-pushed.new.self ≡ c.self.inside.block = c.in-Err.ensures.err in
    let back : (other : List ℕ)
    → get_by_text c.give_back.new.newest other ≡ update bytes_eq (get_by_text c.insert.new.self) (string_bytes c.in_ok-name.name) c.in_ok-hidden.hidden
    other =
    λ other. rw name (rw c.text-text.ensures at c.give_back.ensures other) in
    rw block (restores c.insert.new.self c.give_back.new.newest entry (reverse c.self.inside.block) (turned c.self.inside.outer) table back)
