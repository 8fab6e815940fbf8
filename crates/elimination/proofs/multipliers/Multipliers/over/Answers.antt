use Rattle.std.proofs.Common.{◌∙◌, sym, subst, ap, map, List}
use Rattle.std.specs.Prelude.{ℤ}
use Rattle.std.specs.Int.{int_div_euclid}
use Rattle.elimination.specs.declared.multipliers.Multiplier.{Multiplier}
use Rattle.elimination.specs.Sparse.{table, IsRising, quotients_of}
use Rattle.elimination.proofs.Tables.{table-quotients, rising-quotients}
use Rattle.elimination.proofs.multipliers.Multipliers.over.Goals as goal

pub invariant_of-result : goal.invariant_of-result
invariant_of-result c =
    let made = c.from_vec.ensures ∙ c.in_ok-entries.ensures ∙ ap (λ (entries : List Multiplier). quotients_of c.args.divisor.now entries) c.as_slice.ensures in
    subst (IsRising 0 c.self.inside.count) (sym made) (rising-quotients c.args.divisor.now c.requires 0 c.self.inside.count c.self.inside.entries
    c.self.invariant)

pub returns : goal.returns
returns c =
    let made = c.from_vec.ensures ∙ c.in_ok-entries.ensures ∙ ap (λ (entries : List Multiplier). quotients_of c.args.divisor.now entries) c.as_slice.ensures in
    ap (λ (entries : List Multiplier). table 0 c.self.inside.count entries) made
    ∙ table-quotients c.args.divisor.now c.requires c.self.inside.count c.self.inside.entries c.self.invariant
    ∙ ap (λ (all : List ℤ). map (λ (x : ℤ). int_div_euclid x c.args.divisor.now) all) c.self.view_is
