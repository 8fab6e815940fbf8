use Rattle.std.proofs.Common.{sym, subst}
use Rattle.std.specs.Prelude.{All}
use Rattle.horn_clauses.specs.Obligations.{CanOblige}
use Rattle.houdini.specs.declared.failure.End.{End}
use Rattle.houdini.proofs.EndRows.{can_ask_all}
use Rattle.houdini.proofs.failure.failures.Goals as goal

pub failures_over-requires : goal.failures_over-requires
failures_over-requires c =
    subst (λ (end : End). All (CanOblige end.family end.clause) c.args.atoms.now) (sym c.in_ok-end.ensures)
    (can_ask_all c.args.family.now c.args.clause.now c.args.atoms.now c.requires)
