use Rattle.std.proofs.Common.{◌≡◌, ◌+◌, ◌-◌, ◌∷◌, ◌++◌, [], List, suc, pos, arith, ◌∙◌, ap}
use Rattle.elimination.specs.declared.multipliers.Multiplier.{Multiplier}
use Rattle.elimination.specs.Sparse.{table}
use Rattle.elimination.proofs.Tables.{table-unit}
use Rattle.elimination.proofs.multipliers.Multipliers.unit.Goals as goal

pub returns : goal.returns
returns c =
    let row = c.args.row in
    let behind = c.args.count - c.args.row - 1 in
    let count : c.args.count ≡ row + suc behind = omega (arith, c.requires) in
    ap (λ (entries : List Multiplier). table 0 c.args.count entries)
    (c.in_ok-push.ensures.ok ∙ ap (λ (entries : List Multiplier). entries ++ record { row = row; value = pos 1 } ∷ []) c.new-entries.ensures)
    ∙ ap (λ n. table 0 n (record { row = row; value = pos 1 } ∷ [])) count
    ∙ table-unit 0 row behind row (pos 1) (omega arith)
