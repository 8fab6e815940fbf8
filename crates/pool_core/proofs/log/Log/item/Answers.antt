use Rattle.std.proofs.Common.{rules, ◌≡◌, Some, get_or}
use Rattle.std.specs.List.{position}
use Rattle.pool_core.proofs.Looking.{read_passes}
use Rattle.pool_core.proofs.log.Log.item.Goals as goal

pub returns-in-Some-clause-passes : goal.returns-in-Some-clause-passes
returns-in-Some-clause-passes c = λ test first.
    let items = c.args.self.now.items in
    let found : position test items ≡ Some c.in-Some.place = cc in
    let here : c.index.result.now ≡ get_or items c.in-Some.place c.index.result.now = search rules in
    read_passes test items c.in-Some.place c.index.result.now found here
