use Rattle.std.proofs.Common.{◌∙◌, ap, map, List}
use Rattle.lin_terms.specs.Divisor.{gcd_with}
use Rattle.elimination.specs.declared.multipliers.Multiplier.{Multiplier}
use Rattle.elimination.proofs.Gcds.{gcd_carried}
use Rattle.elimination.proofs.multipliers.Multipliers.gcd_with.Goals as goal

pub returns : goal.returns
returns c = λ numbers so_far.
    c.gcd_of_entries.ensures
    ∙ ap (λ (entries : List Multiplier). gcd_with c.args.start (map (λ entry. entry.value) entries)) c.as_slice.ensures
    ∙ gcd_carried numbers c.self.inside.count c.args.start c.self.inside.entries c.args.self.now c.self.invariant c.self.view_is so_far
