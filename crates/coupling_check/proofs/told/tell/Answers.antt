use Rattle.std.proofs.Common.{arith}
use Rattle.coupling_check.proofs.Telling.{told_enough, told_long, told_fit}
use Rattle.coupling_check.proofs.told.tell.Goals as goal

pub invariant_of-result-clause-enough : goal.invariant_of-result-clause-enough
invariant_of-result-clause-enough c =
    told_enough c.args.family.now c.args.clause.now c.args.atom.now c.args.upper c.requires c.atoms_or_none-atoms.result.now c.columns_over-columns.result
    c.atoms_or_none-atoms.ensures c.columns_over-columns.ensures

pub invariant_of-result-clause-few : goal.invariant_of-result-clause-few
invariant_of-result-clause-few c = omega (arith, c.requires.between.after, c.requires.few_at_end)

pub invariant_of-result-clause-forms_fit : goal.invariant_of-result-clause-forms_fit
invariant_of-result-clause-forms_fit c = c.requires.between.forms_fit

pub invariant_of-result-clause-long : goal.invariant_of-result-clause-long
invariant_of-result-clause-long c =
    told_long c.args.family.now c.args.clause.now c.args.atom.now c.args.upper c.requires c.atoms_or_none-atoms.result.now c.columns_over-columns.result
    c.atoms_or_none-atoms.ensures c.columns_over-columns.ensures

pub invariant_of-result-clause-fit : goal.invariant_of-result-clause-fit
invariant_of-result-clause-fit c =
    told_fit c.args.family.now c.args.clause.now c.args.atom.now c.args.upper c.requires c.atoms_or_none-atoms.result.now c.columns_over-columns.result
    c.atoms_or_none-atoms.ensures c.columns_over-columns.ensures
