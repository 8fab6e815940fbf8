use Rattle.std.proofs.Common.{◌≡◌, [], drop}
use Rattle.path_product.specs.Starts.{cases_in}
use Rattle.path_product.specs.Coded.{gathered}
use Rattle.path_product.proofs.SideWalks.{left_first}
use Rattle.path_product.proofs.side.side_cases.Given as goal

-- The paths so far, and then those of the cases to come, are all.
abbrev pub invariant-loop-case : goal.invariant-loop-case
invariant-loop-case l = gathered [] (left_first l.starts l.count l.place (cases_in l.starts l.place))
    ≡ gathered l.paths.items (left_first l.starts l.count l.place (drop l.case-index (cases_in l.starts l.place)))
