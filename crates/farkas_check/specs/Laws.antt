-- Laws of refutations, over the definitions alone. Each is a clause of a call that does nothing.
use Rattle.std.specs.Prelude.{◌≡◌, ◌↔◌, ℕ, ℤ, pos, List, ◌∷◌, ◌++◌, length, slice_index_or}
use Rattle.std.specs.List.{AllZip}
use Rattle.lin_terms.specs.declared.row.Row.{Row}
use Rattle.lin_terms.specs.Row.{HasNoPoint, HasNoIntegerPoint}
use Rattle.farkas_check.specs.Refutes.{Refutes, IsRefutable}

-- Farkas' lemma, the half that makes the check sound: no fractions meet rows that are refutable.
abbrev pub RefutableRowsHaveNoPoint : Type 0
RefutableRowsHaveNoPoint = (rows : List Row) → IsRefutable rows → HasNoPoint rows

-- the same of whole numbers
abbrev pub RefutableRowsHaveNoIntegerPoint : Type 0
RefutableRowsHaveNoIntegerPoint = (rows : List Row) → IsRefutable rows → HasNoIntegerPoint rows

-- A row that is taken 0 times changes nothing, wherever it stands.
abbrev pub IdleRowsChangeNothing : Type 0
IdleRowsChangeNothing = (before behind : List Row) (row : Row) (multipliers others : List ℤ)
    → length multipliers ≡ length before
    → Refutes (before ++ behind) (multipliers ++ others)
    ↔ Refutes (before ++ row ∷ behind) (multipliers ++ pos 0 ∷ others)

-- Rows that are refutable stay so when another row stands among them.
abbrev pub MoreRowsAreRefutable : Type 0
MoreRowsAreRefutable = (before behind : List Row) (row : Row) → IsRefutable (before ++ behind)
    → IsRefutable (before ++ row ∷ behind)

-- The rows are the same, but that the one may have more columns of zeros.
pub record AreAlike (first second : Row) : Type 0 where
  pub entries : (j : ℕ) → slice_index_or first.coefs j (pos 0) ≡ slice_index_or second.coefs j (pos 0)
  pub constant : first.constant ≡ second.constant
  pub equality : first.equality ≡ second.equality

-- Columns of zeros change nothing.
abbrev pub AlikeRowsAreRefuted : Type 0
AlikeRowsAreRefuted = (rows others : List Row) (multipliers : List ℤ) → AllZip AreAlike rows others
    → Refutes rows multipliers → Refutes others multipliers
