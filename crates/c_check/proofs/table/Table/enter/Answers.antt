-- The block is put behind those around it, and an empty one begins.
use Rattle.std.proofs.Common.{◌∷◌, reverse, sym, ap, ◌∙◌, subst}
use Rattle.c_check.specs.Table.{entered_table}
use Rattle.c_check.specs.Entries.{turned, table_of, IsTable}
use Rattle.c_check.proofs.Slots.{enters, blocks-entered}
use Rattle.c_check.proofs.table.Table.enter.Goals as goal

pub invariant_of-self-2 : goal.invariant_of-self-2
invariant_of-self-2 c =
    let blocks = blocks-entered c.set.new.self c.push.new.self c.self.inside.outer c.len-at.result c.replace-block.new.dest c.replace-block.result
    c.new.result c.self.inside.block
    (c.replace-block.ensures.after ∙ c.new-2.ensures) c.set.ensures c.in_ok-push.ensures.ok c.len-at.ensures c.replace-block.ensures.value in
    subst (IsTable c.self.inside.newest) (sym blocks) (enters c.self.inside.newest (reverse c.self.inside.block ∷ turned c.self.inside.outer) c.self.invariant)

pub returns-clause-entered : goal.returns-clause-entered
returns-clause-entered c =
    let blocks = blocks-entered c.set.new.self c.push.new.self c.self.inside.outer c.len-at.result c.replace-block.new.dest c.replace-block.result
    c.new.result c.self.inside.block
    (c.replace-block.ensures.after ∙ c.new-2.ensures) c.set.ensures c.in_ok-push.ensures.ok c.len-at.ensures c.replace-block.ensures.value in
    ap table_of blocks ∙ ap entered_table c.self.view_is
