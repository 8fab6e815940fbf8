use Rattle.std.proofs.Common.{◌↔◌, List, sym, subst, All}
use Rattle.lin_terms.specs.Bounds.{FitsRow}
use Rattle.elimination.specs.declared.multipliers.Multiplier.{Multiplier}
use Rattle.elimination.proofs.Tables.{fitting_table}
use Rattle.elimination.proofs.multipliers.Multipliers.fit.Goals as goal

pub returns : goal.returns
returns c =
    let both = fitting_table c.self.inside.count c.self.inside.entries c.args.self.now c.self.invariant c.self.view_is in
    let kept = subst (λ (entries : List Multiplier). All (λ (entry : Multiplier). FitsRow entry.value) entries ↔ All FitsRow c.args.self.now)
    (sym c.as_slice.ensures) both in
    (λ is. kept.0 (c.entries_fit.ensures.0 is), λ fits. c.entries_fit.ensures.1 (kept.1 fits))
