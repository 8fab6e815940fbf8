use Rattle.std.proofs.Common.{◌≡◌, map, drop}
use Rattle.lin_terms.specs.Sign.{sign_row}
use Rattle.sym_paths.specs.Rows.{all_joined}
use Rattle.sym_paths.specs.Arrivals.{fresh}
use Rattle.sym_paths.proofs.division.where_all.Given as goal

abbrev pub invariant-loop-sign : goal.invariant-loop-sign
invariant-loop-sign l =
    all_joined (map (λ c. sign_row c.0 c.1.now) (drop l.sign-index l.conditions)) l.form (record { rows = l.rows; columns = l.columns })
    ≡ all_joined (map (λ c. sign_row c.0 c.1.now) l.conditions) l.form (fresh l.columns)
