use Rattle.std.proofs.lemmas.Result.{err_from_is_err_and}
use Rattle.c_ast.specs.Comparison.{condition_of}
use Rattle.relation.proofs.Keeping.{can_check, kept_is_coupled}
use Rattle.relation.proofs.coupled.Coupled.over.Goals as goal

pub returns-in_err-test_form : goal.returns-in_err-test_form
returns-in_err-test_form c =
    let failed = err_from_is_err_and c.from_residual.result c.from_residual.ensures.1 in
    rw (failed.1, failed.2) (c.in_err-test_form.ensures.refused c.args.proofs)

pub check_obligations-requires : goal.check_obligations-requires
check_obligations-requires c =
    can_check c.args.first.now c.args.second.now (condition_of c.args.subject.now) c.args.alignment c.args.product.now c.args.family
    c.requires.product.is c.in_ok-test_form.ensures.form.shape

pub invariant_of-result : goal.invariant_of-result
invariant_of-result c =
    kept_is_coupled c.args.subject.now c.in_ok-subject-in-Ok.subject c.args.alignment c.args.first.now c.args.second.now c.args.product.now c.args.family
    c.args.proofs c.in-Ok.count c.first_lists-proofs.result.lists c.first.ensures.formed c.counts.ensures.named c.requires.product
    c.in_ok-test_form.ensures.form c.in-Ok.ensures c.in_ok-subject-in-Ok.ensures c.first_lists-proofs.ensures
