use Rattle.std.proofs.Common.{◌≡◌, rules, arith, ◌∙◌, sym, subst, true, FitsSigned, to_z-of_z, List}
use Rattle.std.specs.Int.{w128}
use Rattle.std.specs.Prelude.{ℤ}
use Rattle.lin_terms.specs.Bounds.{fit_form}
use Rattle.lin_terms.proofs.Composing.{take_one, fit_one, wide_one, take_all}
use Rattle.lin_terms.proofs.over.coefs_over.Goals as goal

pub returns-then-not-fits_form-clause-wide : goal.returns-then-not-fits_form-clause-wide
returns-then-not-fits_form-clause-wide c =
    let fits : FitsSigned w128 c.coef_over-entry.result = search rules in
    let tested = simp to_z-of_z at c.fits_form.ensures in
    λ e. wide_one c.args.columns c.args.coefs.now c.args.at.now c.loop-j.j c.coef_over-entry.result c.requires.lengths c.loop-j-test.true
    c.coef_over-entry.ensures.value (sym tested ∙ c.if-not-fits_form.true)

pub loop-j-preserved : goal.loop-j-preserved
loop-j-preserved c =
    let fits : FitsSigned w128 c.coef_over-entry.result = search rules in
    let tested = simp to_z-of_z at c.fits_form.ensures in
    let pushed = simp to_z-of_z at c.in_ok-push.ensures in
    record {
      so_far = pushed ∙ take_one c.args.columns c.args.coefs.now c.args.at.now c.loop-j.made.items c.loop-j.j c.coef_over-entry.result c.requires.lengths
          c.loop-j-test.true c.coef_over-entry.ensures.value c.loop-j.invariant.so_far;
      fit = fit_one c.args.columns c.args.coefs.now c.args.at.now c.loop-j.j c.coef_over-entry.result c.requires.lengths c.loop-j-test.true
          c.coef_over-entry.ensures.value (sym tested ∙ c.if-not-fits_form.false) c.loop-j.invariant.fit;
    }

pub returns-clause-made : goal.returns-clause-made
returns-clause-made c =
    c.loop-j.invariant.so_far ∙ take_all c.args.columns c.args.coefs.now c.args.at.now c.loop-j.j c.requires.lengths (omega arith)

pub returns-clause-fit : goal.returns-clause-fit
returns-clause-fit c =
    let all = take_all c.args.columns c.args.coefs.now c.args.at.now c.loop-j.j c.requires.lengths (omega arith) in
    search (rules, subst (λ (xs : List ℤ). fit_form xs ≡ true) all c.loop-j.invariant.fit)
