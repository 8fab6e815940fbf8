use Rattle.std.proofs.Common.{◌∙◌, sym}
use Rattle.miners.proofs.Gathering.{had_entries, had_met, had_made}
use Rattle.miners.proofs.mining.is_had.Goals as goal

pub returns-then-is_same : goal.returns-then-is_same
returns-then-is_same c = λ constants.
    had_entries constants c.args.met.now c.args.made.now c.args.node.now (sym c.is_same.ensures ∙ c.if-is_same.true)

pub returns-then-is_among : goal.returns-then-is_among
returns-then-is_among c = λ constants.
    had_met constants c.args.met.now c.args.made.now c.args.node.now (sym c.is_same.ensures ∙ c.if-is_same.false)
    (sym (c.is_among.ensures constants) ∙ c.if-is_among.true)

pub returns : goal.returns
returns c = λ constants.
    had_made constants c.args.met.now c.args.made.now c.args.node.now _ (sym c.is_same.ensures ∙ c.if-is_same.false)
    (sym (c.is_among.ensures constants) ∙ c.if-is_among.false) (c.is_among-2.ensures constants)
