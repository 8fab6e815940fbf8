use Rattle.std.proofs.Common.{◌≡◌, ◌++◌, drop}
use Rattle.pool_core.proofs.pages.pages_again.Given as goal

abbrev pub invariant-loop-page : goal.invariant-loop-page
invariant-loop-page l = l.made ++ drop l.page-index l.pages ≡ l.pages
