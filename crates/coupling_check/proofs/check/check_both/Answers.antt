use Rattle.std.proofs.Common.{[], ◌∷◌, true, false}
use Rattle.horn_clauses.specs.Obligations.{obligation}
use Rattle.coupling_check.proofs.Proving.{then_reaches}
use Rattle.coupling_check.proofs.check.check_both.Goals as goal

pub returns : goal.returns
returns c =
    then_reaches c.args.family.now (obligation c.args.clause.now c.args.atom.now false ∷ []) (obligation c.args.clause.now c.args.atom.now true ∷ [])
    c.args.lists.now c.args.number c.in_ok-upper.upper c.check_one-2.result c.in_ok-upper.ensures c.check_one-2.ensures
