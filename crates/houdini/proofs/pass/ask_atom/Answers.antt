use Rattle.std.proofs.Common.{sym, ◌∙◌, subst, List}
use Rattle.horn_clauses.specs.Obligations.{Obligation}
use Rattle.houdini.specs.Pass.{AnswersObligations}
use Rattle.houdini.proofs.Asking.{both_of, one_of}
use Rattle.houdini.proofs.pass.ask_atom.Goals as goal

pub returns-then-is_equality-clause-answers : goal.returns-then-is_equality-clause-answers
returns-then-is_equality-clause-answers g c =
    subst (λ (asked : List Obligation). AnswersObligations c.args.family.now asked c.args.cap c.args.lists.now c.ask_both.new.lists c.ask_both.result)
    (both_of c.args.clause.now c.args.atom.now (sym c.is_equality.ensures ∙ c.if-is_equality.true)) c.ask_both.ensures.answers

pub returns-else-is_equality-clause-answers : goal.returns-else-is_equality-clause-answers
returns-else-is_equality-clause-answers g c =
    subst (λ (asked : List Obligation). AnswersObligations c.args.family.now asked c.args.cap c.args.lists.now c.ask.new.lists c.ask.result)
    (one_of c.args.clause.now c.args.atom.now (sym c.is_equality.ensures ∙ c.if-is_equality.false)) c.ask.ensures.answers
