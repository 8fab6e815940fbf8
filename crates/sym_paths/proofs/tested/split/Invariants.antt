use Rattle.std.proofs.Common.{◌≡◌, ℕ, map, ◌++◌, drop}
use Rattle.sym_paths.specs.Rows.{split}
use Rattle.sym_paths.specs.Arrivals.{fresh, answer_of}
use Rattle.sym_paths.proofs.tested.split.Given as goal

abbrev pub invariant-loop-sign : goal.invariant-loop-sign
invariant-loop-sign l = (columns : ℕ) → map (answer_of columns) l.found.items ++ split (drop l.sign-index l.options) l.form (fresh columns)
    ≡ split l.options l.form (fresh columns)
