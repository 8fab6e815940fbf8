use Rattle.std.proofs.Common.{◌≡◌, ◌++◌, reverse, drop}
use Rattle.houdini.specs.Cut.{unmarked}
use Rattle.houdini.proofs.cut.unmarked.Given as goal

abbrev pub invariant-loop-mark : goal.invariant-loop-mark
invariant-loop-mark l = l.made ++ unmarked (reverse l.left.items) (drop l.mark-index l.marks) ≡ unmarked l.fn.atoms l.marks
