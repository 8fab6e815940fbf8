-- The table of the alignments: how large the counts of each row are.
use Rattle.std.proofs.Common.{ℕ, ◌-◌, ◌≤◌, Bool, true, false, cond, eqb, ltb, refl, arith}
use Rattle.std.specs.Prelude.{nat_lt, nat_le}
use Rattle.std.proofs.lemmas.Bool.{ltb-true, leb-true}
use Rattle.std.proofs.lemmas.List.Sums.{AllPass-from_list_all}
use Rattle.alignment.specs.Number.{IsAlignment}
use Rattle.alignment.specs.Counts.{Counts, table, counts_of, at_marks}
use Rattle.alignment.specs.Laws.{SomeAtMarks}

-- A number that is tested of each row is the same for the counts of each alignment.
pub some_at_marks : SomeAtMarks
unfolding table
some_at_marks number named = (
  ltb-true 0 _ (AllPass-from_list_all (λ (row : Counts). nat_lt 0 row.2) table refl (number - 1) (0, 0, 0, 0) (omega (arith, named.least, named.most))),
  ltb-true 0 _ (AllPass-from_list_all (λ (row : Counts). nat_lt 0 row.3) table refl (number - 1) (0, 0, 0, 0) (omega (arith, named.least, named.most))),
)

-- From the entry side A takes three segments at most.
pub p_is_small : (number : ℕ) → IsAlignment number → (counts_of number).0 ≤ 2
unfolding table
p_is_small number named =
    leb-true _ 2 (AllPass-from_list_all (λ (row : Counts). nat_le row.0 2) table refl (number - 1) (0, 0, 0, 0) (omega (arith, named.least, named.most)))

-- From the entry side B takes three segments at most.
pub q_is_small : (number : ℕ) → IsAlignment number → (counts_of number).1 ≤ 2
unfolding table
q_is_small number named =
    leb-true _ 2 (AllPass-from_list_all (λ (row : Counts). nat_le row.1 2) table refl (number - 1) (0, 0, 0, 0) (omega (arith, named.least, named.most)))

-- At one mark side A takes three segments at most.
pub a_is_small : (number : ℕ) → IsAlignment number → (counts_of number).2 ≤ 3
unfolding table
a_is_small number named =
    leb-true _ 3 (AllPass-from_list_all (λ (row : Counts). nat_le row.2 3) table refl (number - 1) (0, 0, 0, 0) (omega (arith, named.least, named.most)))

-- At one mark side B takes three segments at most.
pub b_is_small : (number : ℕ) → IsAlignment number → (counts_of number).3 ≤ 3
unfolding table
b_is_small number named =
    leb-true _ 3 (AllPass-from_list_all (λ (row : Counts). nat_le row.3 3) table refl (number - 1) (0, 0, 0, 0) (omega (arith, named.least, named.most)))

-- So each side does at two marks, whether they are one or not.
pub few_at_marks : (counts : Counts) (same lower : Bool) → counts.2 ≤ 3 → counts.3 ≤ 3
    → let moves : ℕ × ℕ = cond same (counts.2, counts.3) (cond lower (1, 0) (0, 1)) in (moves.0 ≤ 3) × (moves.1 ≤ 3)
few_at_marks counts true lower first second = (first, second)
few_at_marks counts false true first second = (omega arith, omega arith)
few_at_marks counts false false first second = (omega arith, omega arith)

-- So it does at the marks j and k.
pub few_moves_at_marks : (number j k : ℕ) → IsAlignment number → ((at_marks (counts_of number) j k).0 ≤ 3) × ((at_marks (counts_of number) j k).1 ≤ 3)
few_moves_at_marks number j k named = few_at_marks (counts_of number) (eqb j k) (ltb j k) (a_is_small number named) (b_is_small number named)
