-- Each entry that is taken away gives back what it hides.
use Rattle.std.proofs.Common.{◌≡◌, List, ◌∷◌, [], reverse, ap, ◌∙◌, subst}
use Rattle.std.proofs.lemmas.List.{reverse-append}
use Rattle.c_check.specs.declared.table.Entry.{Entry}
use Rattle.c_check.specs.Entries.{turned, IsTable}
use Rattle.c_check.proofs.Slots.{restores, newest_is_some}
use Rattle.c_check.proofs.table.Table.leave.Goals as goal

pub give_back-requires : goal.give_back-requires
give_back-requires c =
    let front : reverse c.loop-entry.self-inside.block ≡ c.in-Some.entry ∷ reverse c.pop.new.self = ap reverse c.in-Some.ensures
    ∙ reverse-append c.pop.new.self (c.in-Some.entry ∷ []) in
    let table = subst (λ (entries : List Entry). IsTable c.loop-entry.self-inside.newest (entries ∷ turned c.loop-entry.self-inside.outer)) front
    c.loop-entry.invariant.table in
    rw c.as_str.ensures.value (newest_is_some c.loop-entry.self-inside.newest c.in-Some.entry (reverse c.pop.new.self)
    (turned c.loop-entry.self-inside.outer) table)

pub loop-entry-preserved : goal.loop-entry-preserved
loop-entry-preserved c =
    let front : reverse c.loop-entry.self-inside.block ≡ c.in-Some.entry ∷ reverse c.pop.new.self = ap reverse c.in-Some.ensures
    ∙ reverse-append c.pop.new.self (c.in-Some.entry ∷ []) in
    let table = subst (λ (entries : List Entry). IsTable c.loop-entry.self-inside.newest (entries ∷ turned c.loop-entry.self-inside.outer)) front
    c.loop-entry.invariant.table in
    record {
      table = restores c.loop-entry.self-inside.newest c.give_back.new.newest c.in-Some.entry (reverse c.pop.new.self)
          (turned c.loop-entry.self-inside.outer) table
          (λ name. rw c.as_str.ensures.value at c.give_back.ensures name);
      outer = c.loop-entry.invariant.outer;
    }
