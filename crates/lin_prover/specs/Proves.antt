-- What a prover's answer means (Farkas' lemma).
use Rattle.std.specs.Prelude.{◌≡◌, ℕ, List, All, Result, Ok, Err}
use Rattle.lin_terms.specs.declared.row.Row.{Row}
use Rattle.lin_terms.specs.Bounds.{FitsRow}
use Rattle.lin_terms.specs.Row.{HasPoint}
use Rattle.farkas_check.specs.Refutes.{Refutes}
use Rattle.elimination.specs.declared.answer.Answer.{Answer}
use Rattle.elimination.specs.declared.answer.Answer.TheVariants.{Refuted, NotRefutable}
use Rattle.elimination.specs.declared.answer.Limit.{Limit}
use Rattle.elimination.specs.declared.answer.Limit.TheVariants.{Memory}
use Rattle.elimination.specs.Eliminated.{eliminated}

-- Multipliers that are answered refute the rows and are below 2^56 in size; where none are, some fractions meet all
-- rows, so that there are none of any size; and a limit is what elimination with this cap meets, unless memory ran out.
abbrev pub Proves : List Row → ℕ → Result Answer Limit → Type 0
Proves rows cap (Ok (Refuted multipliers)) = Refutes rows multipliers × All FitsRow multipliers
Proves rows cap (Ok NotRefutable) = HasPoint rows
Proves rows cap (Err Memory) = Unit {0}
Proves rows cap (Err limit) = eliminated rows cap ≡ Err limit
