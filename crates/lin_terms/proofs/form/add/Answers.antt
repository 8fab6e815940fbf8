use Rattle.std.proofs.Common.{◌≡◌, ℤ, ◌+ℤ◌, ◌*ℤ◌, pos, List, subst, ◌∙◌, arith}
use Rattle.std.proofs.lemmas.Int.{ints}
use Rattle.std.proofs.lemmas.Result.{IfOk-weaker}
use Rattle.lin_terms.specs.declared.form.Form.{Form}
use Rattle.lin_terms.specs.Form.{value_at, sum_of}
use Rattle.lin_terms.specs.Makes.{fitting, Makes}
use Rattle.lin_terms.proofs.FormLemmas.{multiple_of-one}
use Rattle.lin_terms.proofs.form.add.Goals as goal

pub returns-clause-made : goal.returns-clause-made
returns-clause-made c =
    subst (λ (y : Form). Makes c.combined.result (fitting (sum_of c.args.x.now y))) (multiple_of-one c.args.y.now) c.combined.ensures.made

once : (x y : ℤ) → x +ℤ (pos 1 *ℤ y) ≡ x +ℤ y
once x y = omega (arith, ints)

pub returns-clause-value : goal.returns-clause-value
returns-clause-value c =
    let x : Form = c.args.x.now in
    let y : Form = c.args.y.now in
    IfOk-weaker c.combined.result (λ (form : Form). (values : List ℤ) → value_at form values ≡ value_at x values +ℤ (pos 1 *ℤ value_at y values))
    (λ (form : Form). (values : List ℤ) → value_at form values ≡ value_at x values +ℤ value_at y values)
    (λ form said values. said values ∙ once (value_at x values) (value_at y values)) c.combined.ensures.value
