use Rattle.std.proofs.Common.{ap, get_or}
use Rattle.horn_clauses.specs.declared.clause.Clause.{Clause}
use Rattle.houdini.proofs.Single.{struck_of, open_inside}
use Rattle.houdini.proofs.search.strike_open.Goals as goal

pub bounds-clauses-number : goal.bounds-clauses-number
bounds-clauses-number c =
    open_inside c.args.family c.args.product.now.clauses c.as_slice-clauses.result.now c.args.number c.args.place c.requires c.as_slice-clauses.ensures

pub returns : goal.returns
returns c =
    let clauses = c.as_slice-clauses.result.now in
    struck_of c.args.product.now c.args.family c.in_ok-left.left c.args.number c.args.place clauses
    (get_or clauses c.args.number c.index-clauses-number.result) c.requires c.as_slice-clauses.ensures
    (ap (λ (z : Clause). get_or clauses c.args.number z) c.index-clauses-number.is) c.in_ok-left.ensures
