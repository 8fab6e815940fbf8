use Rattle.std.proofs.Common.{◌≡◌, ◌+◌, ◌*◌, drop}
use Rattle.path_product.specs.Starts.{cases_in}
use Rattle.path_product.specs.Coded.{gathered}
use Rattle.path_product.proofs.SideWalks.{left_walk}
use Rattle.path_product.proofs.side.Walk.+walk.Given as goal

abbrev pub decreases-take_case : goal.decreases-take_case
decreases-take_case l = 2 * l.count + 1

abbrev pub decreases-walk_on : goal.decreases-walk_on
decreases-walk_on l = 2 * l.count

-- The paths so far, and then those of the cases to come, are all.
abbrev pub invariant-walk_on-loop-case : goal.invariant-walk_on-loop-case
invariant-walk_on-loop-case l = record {
  rows : l.rows ≡ l.initial.rows;
  all : gathered l.initial.paths.items (left_walk l.self.starts.now l.self.most l.count l.at l.initial.rows (cases_in l.self.starts.now l.at.place))
      ≡ gathered l.paths.items
      (left_walk l.self.starts.now l.self.most l.count l.at l.initial.rows (drop l.case-index (cases_in l.self.starts.now l.at.place)));
}
