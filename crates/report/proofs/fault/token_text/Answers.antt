use Rattle.std.proofs.Common.{◌≡◌, ℕ, List, IfOk, string_bytes, subst, append_assoc}
use Rattle.std.proofs.lemmas.Result.{IfOk-weaker}
use Rattle.c_tokens.specs.declared.fault.TokenFault.TheVariants as tokens
use Rattle.report.specs.Faults.{token_text}
use Rattle.report.proofs.fault.token_text.Goals as goal

pub returns-in-NoToken : goal.returns-in-NoToken
returns-in-NoToken c = rw c.in-NoToken.is (IfOk-weaker c.format.result _ _ (λ text output. simp append_assoc output) c.format.ensures.ok)

pub returns-in-Unsupported : goal.returns-in-Unsupported
returns-in-Unsupported c = rw c.in-Unsupported.is
    (subst (λ (word : List ℕ). IfOk c.format-in-Unsupported.result (λ text. string_bytes text
    ≡ token_text c.args.name.now (tokens.Unsupported word c.in-Unsupported.line c.in-Unsupported.column)))
    c.text.ensures (IfOk-weaker c.format-in-Unsupported.result _ _ (λ text output. simp append_assoc output) c.format-in-Unsupported.ensures.ok))

pub returns-in-LiteralRange : goal.returns-in-LiteralRange
returns-in-LiteralRange c = rw c.in-LiteralRange.is
    (IfOk-weaker c.format-in-LiteralRange.result _ _ (λ text output. simp append_assoc output) c.format-in-LiteralRange.ensures.ok)
