use Rattle.std.proofs.Common.{◌≡◌, ◌∙◌, ap, arith, ◌≤◌, cond, List, Some}
use Rattle.std.specs.Prelude.{ℤ}
use Rattle.std.specs.Ordering.{int_eq}
use lib.Pointwise.{pointwise}
use Rattle.elimination.specs.Indexed.{scanned, place_of}
use Rattle.elimination.proofs.Located.{placed_key, noted_behind}
use Rattle.elimination.proofs.indexed.note.Goals as goal

pub returns-clause-ok : goal.returns-clause-ok
returns-clause-ok c coefs =
    let row : List ℤ = c.args.row.now.row.coefs in
    let before = place_of coefs c.args.places.now in
    let same : c.in_ok-coefs.coefs.items ≡ row = c.in_ok-coefs.ensures.items ∙ c.coefs.ensures in
    let far : scanned ≤ c.args.at = omega (arith, c.if-at-lt-SCANNED.false) in
    placed_key c.args.places.now c.insert.new.self c.in_ok-coefs.coefs c.args.at c.in_ok-insert.ensures.updates coefs
    ∙ ap (λ key. cond (pointwise int_eq coefs key) (Some c.args.at) before) same ∙ noted_behind row c.args.at coefs before far
