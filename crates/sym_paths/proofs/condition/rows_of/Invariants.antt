use Rattle.std.proofs.Common.{◌≡◌, ◌++◌, map}
use Rattle.sym_paths.proofs.condition.rows_of.Given as goal

abbrev pub invariant-loop-case : goal.invariant-loop-case
invariant-loop-case l = l.found.items ++ map (λ case. case.rows) l.case-iterator.rest.items ≡ map (λ case. case.rows) l.fn.cases.items
