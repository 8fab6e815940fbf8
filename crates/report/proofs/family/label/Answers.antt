use Rattle.std.proofs.Common.{◌≡◌, ◌++◌, Bool, List, ℕ, false, ap, sym, ◌∙◌, append-nil}
use Rattle.std.specs.Prelude.{codes}
use Rattle.std.proofs.lemmas.Result.{IfOk-weaker}
use Rattle.report.specs.Families.{side_word, name_of, number_text, has_namesake, label}
use Rattle.report.proofs.family.label.Goals as goal

pub returns : goal.returns
returns c =
    let vars = c.args.vars.now in
    let name = name_of vars c.args.x in
    let alone : has_namesake c.args.x name 0 vars ≡ false = cc in
    let same : label c.args.side vars c.args.x ≡ side_word c.args.side ++ (codes "." ++ name) =
    ap (λ (b : Bool). side_word c.args.side ++ (codes "." ++ (name ++ number_text b c.args.x))) alone
    ∙ ap (λ (bytes : List ℕ). side_word c.args.side ++ (codes "." ++ bytes)) (append-nil name) in
    IfOk-weaker c.format-2.result _ _ (λ text output. (rw (c.side_word-side.ensures, c.name_of-name.ensures) at output) ∙ sym same) c.format-2.ensures.ok
