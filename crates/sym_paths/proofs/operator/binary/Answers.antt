use Rattle.std.proofs.Common.{◌≡◌, length, ◌∙◌}
use Rattle.std.proofs.lemmas.Result.{IfOk-weaker}
use Rattle.lin_terms.specs.declared.form.Form.{Form}
use Rattle.sym_paths.specs.Arrivals.{HasRoom}
use Rattle.sym_paths.proofs.operator.binary.Goals as goal

pub returns-in-Add-clause-room : goal.returns-in-Add-clause-room
returns-in-Add-clause-room c =
    c.single.ensures.room c.args.room
    (IfOk-weaker c.add.result (λ (form : Form). length form.coefs ≡ length c.args.first.now.coefs) (HasRoom c.args.room)
    (λ form same. same ∙ c.requires.first) c.add.ensures.columns)

pub returns-in-Sub-clause-room : goal.returns-in-Sub-clause-room
returns-in-Sub-clause-room c =
    c.single-in-Sub.ensures.room c.args.room
    (IfOk-weaker c.difference.result (λ (form : Form). length form.coefs ≡ length c.args.first.now.coefs) (HasRoom c.args.room)
    (λ form same. same ∙ c.requires.first) c.difference.ensures.columns)
