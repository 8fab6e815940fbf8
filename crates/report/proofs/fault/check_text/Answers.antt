use Rattle.std.proofs.Common.{◌≡◌, ℕ, List, IfOk, string_bytes, subst, append_assoc}
use Rattle.std.proofs.lemmas.Result.{IfOk-weaker}
use Rattle.c_check.specs.declared.fault.CheckFault.TheVariants as check
use Rattle.report.specs.Faults.{check_text}
use Rattle.report.proofs.fault.check_text.Goals as goal

pub returns-in-ManyFunctions : goal.returns-in-ManyFunctions
returns-in-ManyFunctions c = rw c.in-ManyFunctions.is (IfOk-weaker c.format.result _ _ (λ text output. simp append_assoc output) c.format.ensures.ok)

pub returns-in-Undeclared : goal.returns-in-Undeclared
returns-in-Undeclared c = rw c.in-Undeclared.is
    (subst (λ (word : List ℕ). IfOk c.format-in-Undeclared.result (λ text. string_bytes text
    ≡ check_text c.args.name.now (check.Undeclared word c.in-Undeclared.line)))
    c.text.ensures (IfOk-weaker c.format-in-Undeclared.result _ _ (λ text output. simp append_assoc output) c.format-in-Undeclared.ensures.ok))

pub returns-in-Twice : goal.returns-in-Twice
returns-in-Twice c = rw c.in-Twice.is
    (subst (λ (word : List ℕ). IfOk c.format-in-Twice.result (λ text. string_bytes text ≡ check_text c.args.name.now (check.Twice word c.in-Twice.line)))
    c.text-in-Twice.ensures (IfOk-weaker c.format-in-Twice.result _ _ (λ text output. simp append_assoc output) c.format-in-Twice.ensures.ok))

pub returns-in-Outside : goal.returns-in-Outside
returns-in-Outside c = rw c.in-Outside.is (IfOk-weaker c.format-in-Outside.result _ _ (λ text output. simp append_assoc output) c.format-in-Outside.ensures.ok)

pub returns-in-MarkRange : goal.returns-in-MarkRange
returns-in-MarkRange c = rw c.in-MarkRange.is
    (IfOk-weaker c.format-in-MarkRange.result _ _ (λ text output. simp append_assoc output) c.format-in-MarkRange.ensures.ok)

pub returns-in-MarkTwice : goal.returns-in-MarkTwice
returns-in-MarkTwice c = rw c.in-MarkTwice.is
    (IfOk-weaker c.format-in-MarkTwice.result _ _ (λ text output. simp append_assoc output) c.format-in-MarkTwice.ensures.ok)

pub returns-in-Divisor : goal.returns-in-Divisor
returns-in-Divisor c = rw c.in-Divisor.is (IfOk-weaker c.format-in-Divisor.result _ _ (λ text output. simp append_assoc output) c.format-in-Divisor.ensures.ok)

pub returns-in-ManyVariables : goal.returns-in-ManyVariables
returns-in-ManyVariables c = rw c.in-ManyVariables.is
    (IfOk-weaker c.format-in-ManyVariables.result _ _ (λ text output. simp append_assoc output) c.format-in-ManyVariables.ensures.ok)
