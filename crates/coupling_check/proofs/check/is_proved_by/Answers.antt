use Rattle.std.proofs.Common.{rules}
use Rattle.coupling_check.proofs.Proving.{checkable_of, proved_of}
use Rattle.coupling_check.proofs.check.is_proved_by.Goals as goal

pub returns-then-may_be_asked : goal.returns-then-may_be_asked
returns-then-may_be_asked g c = (
  λ is. proved_of (g.R.Rows.list c.args.rows.now) c.args.multipliers.now (c.may_be_asked.ensures.0 c.if-may_be_asked.true)
      (c.refutes_of.ensures.exact.0 is),
  λ proved. c.refutes_of.ensures.exact.1 proved.refutes,
)

pub returns-else-may_be_asked : goal.returns-else-may_be_asked
returns-else-may_be_asked g c = (
  λ never. absurd (search rules),
  λ proved. c.may_be_asked.ensures.1 (checkable_of (g.R.Rows.list c.args.rows.now) c.args.multipliers.now
      c.requires.one_length c.requires.fit proved),
)
