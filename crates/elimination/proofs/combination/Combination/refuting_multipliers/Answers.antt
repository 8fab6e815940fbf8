use Rattle.std.proofs.Common.{◌≡◌, ◌∙◌, sym, ap, cond, false, Bool, List, map}
use Rattle.std.specs.Prelude.{ℤ, neg_ℤ}
use Rattle.elimination.specs.Combination.{Combination, is_positive}
use Rattle.elimination.specs.Joining.{refuting_multipliers}
use Rattle.elimination.proofs.Gcds.{scaled_by_one}
use Rattle.elimination.proofs.combination.Combination.refuting_multipliers.Goals as goal

pub returns : goal.returns
returns c =
    let constant : ℤ = c.self.inside.constant in
    let multipliers : List ℤ = c.self.inside.multipliers in
    let other : is_positive constant ≡ false = sym c.is_positive.ensures ∙ c.if-is_positive.false in
    c.in_ok-same.ensures ∙ scaled_by_one multipliers
    ∙ sym (ap (λ (t : Bool). cond t (map neg_ℤ multipliers) multipliers) other)
    ∙ ap (λ (row : Combination). refuting_multipliers row.row.constant row.multipliers) c.self.view_is
