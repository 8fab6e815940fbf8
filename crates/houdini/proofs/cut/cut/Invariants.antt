use Rattle.std.proofs.Common.{◌≡◌, ◌++◌, reverse, vec_len}
use Rattle.std.specs.Prelude.{if◌then◌else◌}
use Rattle.houdini.specs.Cut.{cut_among}
use Rattle.houdini.proofs.cut.cut.Given as goal

abbrev pub invariant-loop-entry : goal.invariant-loop-entry
invariant-loop-entry l =
    l.nodes ++ (if l.found then reverse l.left.items else cut_among (reverse l.left.items) l.node l.marks)
    ≡ cut_among l.fn.family.nodes l.node l.marks

abbrev pub decreases-loop-entry : goal.decreases-loop-entry
decreases-loop-entry l = vec_len l.left
