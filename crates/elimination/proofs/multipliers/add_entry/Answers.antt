use Rattle.std.proofs.Common.{◌≡◌, rules, pos, sym, subst, ◌∙◌, ap, List, [], ◌∷◌, ◌++◌, FitsSigned}
use Rattle.std.specs.Int.{w128}
use Rattle.std.proofs.lemmas.Int.{to_z-of_z}
use Rattle.std.specs.Prelude.{ℤ}
use Rattle.elimination.specs.declared.multipliers.Multiplier.{Multiplier}
use Rattle.elimination.specs.Sparse.{IsAdded}
use Rattle.elimination.proofs.Merging.{added_last, added_nothing}
use Rattle.elimination.proofs.multipliers.add_entry.Goals as goal

pub returns-in_ok-push : goal.returns-in_ok-push
returns-in_ok-push c =
    let row = c.args.row in
    let value : ℤ = c.args.value.now in
    let before : List Multiplier = c.args.made.now.items in
    let fits : FitsSigned w128 value = search rules in
    let after = c.in_ok-push.ensures.items ∙ ap (λ (v : ℤ). before ++ record { row = row; value = v } ∷ []) (to_z-of_z w128 value fits) in
    subst (IsAdded row value before) (sym after) (added_last row value before)

pub returns-else-value-ne0 : goal.returns-else-value-ne0
returns-else-value-ne0 c =
    let zero : c.args.value.now ≡ pos 0 = search rules in added_nothing c.args.row c.args.value.now c.args.made.now.items zero
