use Rattle.elimination.specs.declared.answer.Answer.TheVariants.{Refuted, NotRefutable}
use Rattle.elimination.specs.Eliminated.{eliminated}
use Rattle.elimination.proofs.Answering.{refuted_refutes, not_refutable}
use Rattle.elimination.proofs.Deciding.{has_point}
use Rattle.elimination.proofs.Ending.{answer_is}
use Rattle.elimination.proofs.eliminate.decide.Goals as goal

pub returns-clause-refuted : goal.returns-clause-refuted
returns-clause-refuted c multipliers is =
    refuted_refutes c.args.rows.now c.args.cap multipliers (answer_is (eliminated c.args.rows.now c.args.cap) c.answer.result
    (Refuted multipliers) c.answer.ensures is)

pub returns-clause-not_refutable : goal.returns-clause-not_refutable
returns-clause-not_refutable c is =
    not_refutable c.args.rows.now c.args.cap c.requires.one_length
    (answer_is (eliminated c.args.rows.now c.args.cap) c.answer.result NotRefutable c.answer.ensures is)

pub returns-clause-point : goal.returns-clause-point
returns-clause-point c is =
    has_point c.args.rows.now c.args.cap c.requires.one_length
    (answer_is (eliminated c.args.rows.now c.args.cap) c.answer.result NotRefutable c.answer.ensures is)
