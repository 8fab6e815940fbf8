use Rattle.std.proofs.Common.{rules, ◌≡◌, List, length, min}
use Rattle.elimination.specs.Combination.{Combination}
use Rattle.elimination.specs.Indexed.{scanned}
use Rattle.elimination.proofs.Located.{front_is}
use Rattle.elimination.proofs.indexed.IndexedRows.front.Goals as goal

pub returns : goal.returns
returns c =
    let rows : List Combination = c.args.self.now in
    let same : c.deref.result.now ≡ rows = search rules in
    let count : c.min-count.result ≡ min (length rows) scanned = search rules in
    front_is c.deref.result.now rows c.min-count.result same count
