-- What the answers of an elimination say of the given rows (Farkas' lemma).
use Rattle.std.specs.Prelude.{◌≡◌, ◌≢◌, ◌↔◌, ℕ, ℤ, List, All, Ok, Err}
use Rattle.lin_terms.specs.declared.row.Row.{Row}
use Rattle.lin_terms.specs.Bounds.{FitsRow}
use Rattle.lin_terms.specs.Row.{HasPoint, HaveOneLength}
use Rattle.farkas_check.specs.Refutes.{Refutes, IsRefutable}
use Rattle.elimination.specs.declared.answer.Answer.{Answer}
use Rattle.elimination.specs.declared.answer.Answer.TheVariants.{Refuted, NotRefutable}
use Rattle.elimination.specs.declared.answer.Limit.TheVariants.{Memory}
use Rattle.elimination.specs.Combination.{Combination}
use Rattle.elimination.specs.Joining.{list_of}
use Rattle.elimination.specs.Made.{IsMade}
use Rattle.elimination.specs.Eliminated.{initial, eliminate, eliminated}

-- Each row of each list that is made is the sum of the given rows, each times its multiplier. The list is the one that
-- is left where `left` columns are eliminated.
abbrev pub LawOfMultipliers : Type 0
LawOfMultipliers = (given : List Row) (cap left : ℕ) (rows : List Combination)
    → eliminate cap left 0 (list_of cap (initial 0 given)) ≡ Ok rows → All (IsMade given) rows

-- Multipliers that are answered refute the rows, and are below 2^56 in size.
abbrev pub LawOfRefutations : Type 0
LawOfRefutations = (rows : List Row) (cap : ℕ) (multipliers : List ℤ)
    → eliminated rows cap ≡ Ok (Refuted multipliers) → Refutes rows multipliers × All FitsRow multipliers

-- Rows that are answered to be not refutable have a point.
abbrev pub LawOfPoints : Type 0
LawOfPoints = (rows : List Row) (cap : ℕ) → HaveOneLength rows → eliminated rows cap ≡ Ok NotRefutable → HasPoint rows

-- the answer is multipliers
abbrev pub IsRefuted : Answer → Type 0
IsRefuted (Refuted multipliers) = Unit {0}
IsRefuted NotRefutable = ⊥

-- Where no limit is met, the answer is multipliers exactly where some refute the rows, of whatever size.
abbrev pub LawOfRefutability : Type 0
LawOfRefutability = (rows : List Row) (cap : ℕ) (answer : Answer)
    → HaveOneLength rows → eliminated rows cap ≡ Ok answer → IsRefuted answer ↔ IsRefutable rows

-- Want of memory is no limit of the method.
abbrev pub LawOfLimits : Type 0
LawOfLimits = (rows : List Row) (cap : ℕ) → eliminated rows cap ≢ Err Memory
