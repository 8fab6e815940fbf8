-- What the answers say of the given rows.
use Rattle.std.proofs.Common.{◌≡◌, ◌≢◌, ◌↔◌, ℕ, Bool, true, false, cond, List, subst, length, Result, Ok, Err}
use Rattle.std.specs.Prelude.{ℤ, nat_le, All}
use Rattle.std.proofs.lemmas.List.Elements.{All-from_recursion}
use Rattle.lin_terms.specs.declared.row.Row.{Row}
use Rattle.lin_terms.specs.Bounds.{FitsRow}
use Rattle.lin_terms.specs.Row.{HaveOneLength, columns_of}
use Rattle.farkas_check.specs.Refutes.{Refutes, IsRefutable}
use Rattle.farkas_check.proofs.Laws.{no_point}
use Rattle.elimination.specs.declared.answer.Answer.{Answer}
use Rattle.elimination.specs.declared.answer.Answer.TheVariants.{Refuted, NotRefutable}
use Rattle.elimination.specs.declared.answer.Limit.TheVariants.{ManyRows, Memory}
use Rattle.elimination.specs.declared.answer.EarlyEnd.{EarlyEnd}
use Rattle.elimination.specs.declared.answer.EarlyEnd.TheVariants.{Contradiction, AtLimit}
use Rattle.elimination.specs.Combination.{Combination}
use Rattle.elimination.specs.Joining.{list_of}
use Rattle.elimination.specs.Eliminated.{most_rows, initial, eliminate, answer_of, eliminated}
use Rattle.elimination.specs.Laws.{IsRefuted}
use Rattle.elimination.proofs.Keeping.{Holding}
use Rattle.elimination.proofs.Deciding.{has_point}
use Rattle.elimination.specs.Made.{IsMade}
use Rattle.elimination.proofs.Making.{all_made}
use Rattle.elimination.proofs.Lists.{Anything}
use Rattle.elimination.proofs.Fitting.{AreFitting, all_fits}

-- what stands where the elimination ends
abbrev ended : List Row → ℕ → Result (List Combination) EarlyEnd
ended rows cap = eliminate cap (columns_of rows) 0 (list_of cap (initial 0 rows))

-- ---- multipliers

answered_holds : (P : Combination → Type 0) (R : List ℤ → Type 0) (last : Result (List Combination) EarlyEnd) (multipliers : List ℤ) → Holding P R last
    → answer_of last ≡ Ok (Refuted multipliers) → R multipliers
answered_holds P R (Ok rows) multipliers holds e = cc
answered_holds P R (Err (Contradiction found)) multipliers holds e = let same : found ≡ multipliers = cc in subst R same holds
answered_holds P R (Err (AtLimit limit)) multipliers holds e = cc

few_hold : (P : Combination → Type 0) (R : List ℤ → Type 0) (test : Bool) (rows : List Row) (cap : ℕ) (multipliers : List ℤ) → Holding P R (ended rows cap)
    → cond test (answer_of (ended rows cap)) (Err ManyRows) ≡ Ok (Refuted multipliers) → R multipliers
few_hold P R true rows cap multipliers holds e = answered_holds P R (ended rows cap) multipliers holds e
few_hold P R false rows cap multipliers holds e = cc

pub refuted_refutes : (rows : List Row) (cap : ℕ) (multipliers : List ℤ) → eliminated rows cap ≡ Ok (Refuted multipliers)
    → Refutes rows multipliers × All FitsRow multipliers
refuted_refutes rows cap multipliers e = (
  few_hold (IsMade rows) (Refutes rows) (nat_le (length rows) most_rows) rows cap multipliers (all_made rows cap (columns_of rows)) e,
  All-from_recursion FitsRow multipliers (few_hold Anything AreFitting (nat_le (length rows) most_rows) rows cap multipliers (all_fits rows cap) e),
)

-- ---- refutability

pub not_refutable : (rows : List Row) (cap : ℕ) → HaveOneLength rows → eliminated rows cap ≡ Ok NotRefutable → ¬ IsRefutable rows
not_refutable rows cap one_length e refutable =
    let point = has_point rows cap one_length e in
    no_point rows refutable.multipliers refutable.refutes point.numbers point.denominator point.positive point.meets

pub exactly_refutable : (rows : List Row) (cap : ℕ) (answer : Answer) → HaveOneLength rows → eliminated rows cap ≡ Ok answer
    → IsRefuted answer ↔ IsRefutable rows
exactly_refutable rows cap (Refuted multipliers) one_length e =
    (λ refuted. record { multipliers = multipliers; refutes = (refuted_refutes rows cap multipliers e).0 }, λ refutable. tt)
exactly_refutable rows cap NotRefutable one_length e = (λ refuted. absurd refuted, λ refutable. not_refutable rows cap one_length e refutable)

-- ---- limits

answered_limit : (last : Result (List Combination) EarlyEnd) → Holding Anything AreFitting last → answer_of last ≡ Err Memory → ⊥
answered_limit (Ok rows) holds e = cc
answered_limit (Err (Contradiction multipliers)) holds e = cc
answered_limit (Err (AtLimit limit)) holds e = let same : limit ≡ Memory = cc in subst (λ l. Holding Anything AreFitting (Err (AtLimit l))) same holds

few_limit : (test : Bool) (rows : List Row) (cap : ℕ) → cond test (answer_of (ended rows cap)) (Err ManyRows) ≡ Err Memory → ⊥
few_limit true rows cap e = answered_limit (ended rows cap) (all_fits rows cap) e
few_limit false rows cap e = cc

pub never_memory : (rows : List Row) (cap : ℕ) → eliminated rows cap ≢ Err Memory
never_memory rows cap e = few_limit (nat_le (length rows) most_rows) rows cap e
