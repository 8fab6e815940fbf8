-- What a search may answer of a family that it has narrowed to.
use Rattle.std.proofs.Common.{◌≡◌, ℕ, ◌≤◌, inl, inr, List, length, sym, ap, ◌∙◌, subst, arith}
use Rattle.std.specs.Prelude.{Option, Some, None, IsSomeAnd}
use Rattle.horn_clauses.specs.declared.atom.Atom.{Atom}
use Rattle.horn_clauses.specs.declared.atom.Atom.TheVariants.{False}
use Rattle.horn_clauses.specs.declared.clause.Product.{Product}
use Rattle.horn_clauses.specs.declared.clause.Proofs.{Proofs}
use Rattle.horn_clauses.specs.declared.family.Family.{Family}
use Rattle.horn_clauses.specs.Node.{entries, exits}
use Rattle.horn_clauses.specs.Family.{atoms_at}
use Rattle.horn_clauses.specs.Equalities.{ForcesEqualResults, EndsEqual, equal_results}
use Rattle.horn_clauses.specs.Obligations.{atoms_or_none}
use Rattle.coupling_check.specs.Checks.{Checks}
use Rattle.coupling_check.proofs.Laws.{checked_is_refutable}
use Rattle.houdini.specs.Within.{IsSublist}
use Rattle.houdini.specs.Linear.{IsLinearWithin, ContainsLinear, Narrows}
use Rattle.elimination.specs.declared.answer.Limit.{Limit}
use Rattle.houdini.specs.declared.search.Round.{Round}
use Rattle.houdini.specs.declared.search.Round.TheVariants as round
use Rattle.houdini.specs.Answers.{IsGreatest, HasNoLinear, EndsAtLimit}
use Rattle.houdini.specs.Round.{MayCouple, IsStruck, AnswersRound}
use Rattle.houdini.proofs.Sublists.{sublist_contains}
use Rattle.houdini.proofs.Within.{AreAtomsWithin, atoms_within, as_many_are_same}

-- Each linear family of the candidates is within what they are narrowed to.
pub contains_linear : (product : Product) (candidates left : Family) → Narrows product candidates left
    → ContainsLinear product candidates left
contains_linear product candidates left narrows family linear = (narrows.linear family linear).within

says_within : (xs ys : List Atom) → IsSublist xs ys → ForcesEqualResults xs → ForcesEqualResults ys
says_within xs ys sub (inl equal) = inl (sublist_contains xs ys equal_results sub equal)
says_within xs ys sub (inr never) = inr (sublist_contains xs ys False sub never)

says_at : (xs ys : Option (List Atom)) → AreAtomsWithin xs ys → IsSomeAnd xs ForcesEqualResults → IsSomeAnd ys ForcesEqualResults
says_at None ys within says = absurd says
says_at (Some xs) None within says = absurd within
says_at (Some xs) (Some ys) within says = says_within xs ys within says

-- What is left couples, where a family of the candidates is linear.
couples : (product : Product) (candidates left family : Family) (at_entries : ℕ)
    → at_entries ≡ length (atoms_or_none (atoms_at candidates entries)) → Narrows product candidates left
    → IsLinearWithin product candidates family → MayCouple left at_entries
couples product candidates left family at_entries counted narrows linear =
    let inside = narrows.linear family linear in
    let same : atoms_at left entries ≡ atoms_at candidates entries = sym inside.at_entries ∙ linear.at_entries in
    let many : length (atoms_or_none (atoms_at left entries)) ≡ length (atoms_or_none (atoms_at candidates entries)) =
    ap (λ (found : Option (List Atom)). length (atoms_or_none found)) same in
    record {
      many = omega (arith, many, counted);
      at_exits = says_at (atoms_at family exits) (atoms_at left exits) (atoms_within family left exits inside.within) linear.at_exits;
    }

-- No family is linear, where what is left lost an atom of the entries, or both atoms of the exits.
pub none_is_linear : (product : Product) (candidates left : Family) (at_entries : ℕ)
    → at_entries ≡ length (atoms_or_none (atoms_at candidates entries)) → Narrows product candidates left
    → ¬ MayCouple left at_entries → HasNoLinear product candidates
none_is_linear product candidates left at_entries counted narrows lost family linear =
    lost (couples product candidates left family at_entries counted narrows linear)

-- As many atoms at the entries as the candidates have are all of those.
pub all_at_entries : (product : Product) (candidates left : Family) → Narrows product candidates left
    → length (atoms_or_none (atoms_at candidates entries)) ≤ length (atoms_or_none (atoms_at left entries))
    → atoms_at left entries ≡ atoms_at candidates entries
all_at_entries product candidates left narrows many =
    as_many_are_same (atoms_at left entries) (atoms_at candidates entries)
    (atoms_within left candidates entries narrows.within) many

-- What is left is the greatest linear family, once it has all atoms of the entries, one of the two at the exits, and
-- proofs of its obligations.
pub greatest_of : (product : Product) (candidates left : Family) (proofs : Proofs) → Narrows product candidates left
    → atoms_at left entries ≡ atoms_at candidates entries → EndsEqual left
    → Checks product left proofs → IsGreatest product candidates left proofs
greatest_of product candidates left proofs narrows at_entries at_exits checks = record {
  linear = record {
    within = narrows.within;
    at_entries = at_entries;
    at_exits = at_exits;
    refutable = checked_is_refutable product left proofs checks;
  };
  greatest = contains_linear product candidates left narrows;
  checks = checks;
}

-- The family whose obligations are proved is the greatest linear one.
pub proved_is_greatest : (product : Product) (candidates left : Family) (at_entries most : ℕ) (result : Round) (family : Family) (proofs : Proofs)
    → at_entries ≡ length (atoms_or_none (atoms_at candidates entries)) → Narrows product candidates left → MayCouple left at_entries
    → AnswersRound product left most result → result ≡ round.Proved family proofs → IsGreatest product candidates family proofs
proved_is_greatest product candidates left at_entries most result family proofs counted narrows couples answers is =
    let parts : AnswersRound product left most (round.Proved family proofs) =
    subst (λ (r : Round). AnswersRound product left most r) is answers in
    subst (λ (f : Family). IsGreatest product candidates f proofs) (sym parts.0)
    (greatest_of product candidates left proofs narrows
    (all_at_entries product candidates left narrows (omega (arith, couples.many, counted))) couples.at_exits parts.1)

-- The family that is left after a strike is narrower still, and has fewer atoms.
pub struck_is : (product : Product) (left : Family) (most : ℕ) (result : Round) (fewer : Family)
    → AnswersRound product left most result → result ≡ round.Struck fewer → IsStruck product left fewer
struck_is product left most result fewer answers is = subst (λ (r : Round). AnswersRound product left most r) is answers

-- What is left has all atoms of the entries, and contains all linear families, where an obligation has a limit.
pub ends_at_limit : (product : Product) (candidates left : Family) (at_entries most : ℕ) (result : Round) (number : ℕ) (last : Family) (limit : Limit)
    → at_entries ≡ length (atoms_or_none (atoms_at candidates entries)) → Narrows product candidates left → MayCouple left at_entries
    → AnswersRound product left most result → result ≡ round.Limited number last limit → EndsAtLimit product candidates most number last limit
ends_at_limit product candidates left at_entries most result number last limit counted narrows couples answers is =
    let parts : AnswersRound product left most (round.Limited number last limit) =
    subst (λ (r : Round). AnswersRound product left most r) is answers in
    subst (λ (f : Family). EndsAtLimit product candidates most number f limit) (sym parts.0)
    (record {
      within = narrows.within;
      at_entries = all_at_entries product candidates left narrows (omega (arith, couples.many, counted));
      contains = contains_linear product candidates left narrows;
      limited = parts.1;
    })
