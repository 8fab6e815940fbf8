use Rattle.std.proofs.Common.{rules, arith, ◌∙◌, FitsSigned, w64, to_z-of_z}
use Rattle.lin_terms.specs.Sign.{factor_of}
use Rattle.horn_clauses.proofs.Negated.{take_one, take_all}
use Rattle.horn_clauses.proofs.obligation.negated_coefs.Goals as goal

pub loop-j-preserved : goal.loop-j-preserved
loop-j-preserved c =
    let fits : FitsSigned w64 c.negated_coef.result = search rules in
    let pushed = simp to_z-of_z at c.in_ok-push.ensures.items in
    pushed ∙ take_one c.args.columns (factor_of c.args.side) c.args.coefs.now c.args.forms.now c.loop-j.made.items c.loop-j.j c.negated_coef.result
    c.requires.long c.loop-j-test.true c.negated_coef.ensures c.loop-j.invariant

pub returns : goal.returns
returns c =
    take_all c.args.columns (factor_of c.args.side) c.args.coefs.now c.args.forms.now c.loop-j.made.items c.loop-j.j c.requires.long (omega arith)
    c.loop-j.invariant
