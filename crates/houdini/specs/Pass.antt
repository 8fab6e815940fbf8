-- One pass over the obligations of a family, each of which is asked of the prover.
use Rattle.std.specs.Prelude.{Bool, false, ◌≡◌, ℕ, ◌+◌, ℤ, List, ◌++◌, length, slice_get, Result, Ok, Err, Some}
use Rattle.std.specs.List.{flat_map}
use Rattle.re_base.specs.Causes.{Rose}
use Rattle.lin_terms.specs.declared.row.Row.{Row}
use Rattle.farkas_check.specs.Refutes.{IsRefutable}
use Rattle.elimination.specs.declared.answer.Limit.{Limit}
use Rattle.horn_clauses.specs.declared.atom.Atom.{Atom}
use Rattle.horn_clauses.specs.declared.atom.Atom.TheVariants.{False, Linear}
use Rattle.horn_clauses.specs.declared.clause.Clause.{Clause}
use Rattle.horn_clauses.specs.declared.family.Family.{Family}
use Rattle.horn_clauses.specs.Family.{atoms_at}
use Rattle.horn_clauses.specs.Obligations.{is_equality, Obligation, rows_of, atoms_or_none, obligations_at, obligations_for}
use Rattle.coupling_check.specs.Checks.{IsProvedBy, AreProved}
use Rattle.houdini.specs.declared.stop.Stop.{Stop}
use Rattle.houdini.specs.declared.stop.Stop.TheVariants as stop
use Rattle.houdini.specs.declared.pass.Unproved.{Unproved}
use Rattle.houdini.specs.declared.pass.Unproved.TheVariants as unproved
use Rattle.houdini.specs.declared.pass.Ending.{Ending}
use Rattle.houdini.specs.declared.pass.Ending.TheVariants as ending
use Rattle.coupling_check.specs.Checks.{AreRefutable}
use Rattle.houdini.specs.Striking.{IsShown}
use Rattle.houdini.specs.Answers.{IsLimitOf}

-- ---- when the watch may have said stop

-- A search is stopped only where the watch's count rose.
abbrev pub IsCause : ℕ → ℕ → Stop → Type 0
IsCause before now stop.Stopped = Rose before now
IsCause before now stop.Memory = Unit {0}

-- The same, where the pass ends so.
abbrev pub IsCauseOfUnproved : ℕ → ℕ → Unproved → Type 0
IsCauseOfUnproved before now unproved.Open = Unit {0}
IsCauseOfUnproved before now (unproved.Limit limit) = Unit {0}
IsCauseOfUnproved before now (unproved.Stop why) = IsCause before now why

-- The same, where the pass ends so at a place.
abbrev pub IsCauseOfEnding : ℕ → ℕ → Ending → Type 0
IsCauseOfEnding before now (ending.Open clause atom) = Unit {0}
IsCauseOfEnding before now (ending.Limit limit) = Unit {0}
IsCauseOfEnding before now (ending.Stop why) = IsCause before now why

-- ---- what the prover says of an obligation

-- Multipliers prove the rows; or there are none; or elimination meets the limit; or memory ran out.
abbrev pub AnswersRows : List Row → ℕ → Result (List ℤ) Unproved → Type 0
AnswersRows rows cap (Ok multipliers) = IsProvedBy rows multipliers
AnswersRows rows cap (Err unproved.Open) = ¬ IsRefutable rows
AnswersRows rows cap (Err (unproved.Limit limit)) = IsLimitOf rows cap limit
AnswersRows rows cap (Err (unproved.Stop why)) = why ≡ stop.Memory

-- Whether the atom is an equality.
abbrev pub is_equality_atom : Atom → Bool
is_equality_atom False = false
is_equality_atom (Linear coefs constant rel) = is_equality rel

-- ---- lists of multipliers so far

-- The new lists are the old ones and, behind them, a list for each of the obligations, which proves it.
pub record Adds (family : Family) (obligations : List Obligation) (old new : List (List ℤ)) : Type 0 where
  pub added : List (List ℤ)
  pub is : new ≡ old ++ added
  pub proved : AreProved family obligations added
  pub as_many : length added ≡ length obligations

-- As many lists were added as there are obligations before one that has this limit.
pub record StopsAt (family : Family) (obligations : List Obligation) (cap : ℕ) (old new : List (List ℤ)) (limit : Limit)
    : Type 0 where
  pub place : ℕ
  pub behind : length new ≡ length old + place
  pub asked : Obligation
  pub numbered : slice_get obligations place ≡ Some asked
  pub limited : IsLimitOf (rows_of family asked) cap limit

-- All of the obligations are proved; or one of them is not refutable; or one has a limit.
abbrev pub AnswersObligations : Family → List Obligation → ℕ → List (List ℤ) → List (List ℤ)
    → Result (Unit {0}) Unproved → Type 0
AnswersObligations family obligations cap old new (Ok done) = Adds family obligations old new
AnswersObligations family obligations cap old new (Err unproved.Open) = ¬ AreRefutable family obligations
AnswersObligations family obligations cap old new (Err (unproved.Limit limit)) =
    StopsAt family obligations cap old new limit
AnswersObligations family obligations cap old new (Err (unproved.Stop why)) = Unit {0}

-- ---- where the pass ends

-- The atom at this place is not shown to hold at the clause's end.
pub record IsOpenAt (family : Family) (clause : Clause) (atoms : List Atom) (place : ℕ) : Type 0 where
  pub atom : Atom
  pub stands : slice_get atoms place ≡ Some atom
  pub unshown : ¬ IsShown family clause atom

-- The same of the family's atoms at the end of the clause with this number.
pub record IsOpenIn (family : Family) (clauses : List Clause) (number place : ℕ) : Type 0 where
  pub clause : Clause
  pub numbered : slice_get clauses number ≡ Some clause
  pub unshown : IsOpenAt family clause (atoms_or_none (atoms_at family clause.to)) place

-- The end at this place.
abbrev pub ending_of : Unproved → ℕ → ℕ → Ending
ending_of unproved.Open clause atom = ending.Open clause atom
ending_of (unproved.Limit limit) clause atom = ending.Limit limit
ending_of (unproved.Stop why) clause atom = ending.Stop why

-- What is told of a clause and atoms at its end: with the clause's number where one of them is open.
abbrev pub AnswersAtoms : Family → Clause → ℕ → List Atom → ℕ → List (List ℤ) → List (List ℤ)
    → Result (Unit {0}) Ending → Type 0
AnswersAtoms family clause number atoms cap old new (Ok done) =
    Adds family (flat_map (obligations_at clause) atoms) old new
AnswersAtoms family clause number atoms cap old new (Err (ending.Open found place)) =
    (found ≡ number) × IsOpenAt family clause atoms place
AnswersAtoms family clause number atoms cap old new (Err (ending.Limit limit)) =
    StopsAt family (flat_map (obligations_at clause) atoms) cap old new limit
AnswersAtoms family clause number atoms cap old new (Err (ending.Stop why)) = Unit {0}

-- The same of all clauses.
abbrev pub AnswersClauses : Family → List Clause → ℕ → List (List ℤ) → List (List ℤ) → Result (Unit {0}) Ending → Type 0
AnswersClauses family clauses cap old new (Ok done) = Adds family (flat_map (obligations_for family) clauses) old new
AnswersClauses family clauses cap old new (Err (ending.Open number place)) = IsOpenIn family clauses number place
AnswersClauses family clauses cap old new (Err (ending.Limit limit)) =
    StopsAt family (flat_map (obligations_for family) clauses) cap old new limit
AnswersClauses family clauses cap old new (Err (ending.Stop why)) = Unit {0}
