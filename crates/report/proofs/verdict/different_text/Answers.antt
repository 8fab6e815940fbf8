use Rattle.std.proofs.Common.{◌≡◌, ◌++◌, List, ℕ, IfOk, string_bytes, subst}
use Rattle.std.specs.Prelude.{codes, decimal}
use Rattle.std.specs.Fmt.{signed_decimal}
use Rattle.std.proofs.lemmas.Result.{IfOk-weaker}
use Rattle.report.proofs.verdict.different_text.Goals as goal

pub returns : goal.returns
returns c =
    subst (λ (values : List ℕ). IfOk c.format.result (λ text. string_bytes text
    ≡ codes "different\nsample " ++ (decimal c.args.index ++ (codes "\ninput" ++ (values
    ++ (codes "\nA returns " ++ (signed_decimal c.args.first.now
    ++ (codes "\nB returns " ++ (signed_decimal c.args.second.now ++ codes "\n")))))))))
    c.in_ok-values.ensures (IfOk-weaker c.format.result _ _ (λ text output. output) c.format.ensures.ok)
