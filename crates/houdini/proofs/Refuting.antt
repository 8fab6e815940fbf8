-- What fewer atoms at a clause's start refute, more refute too.
use Rattle.std.proofs.Common.{◌≡◌, ℕ, zero, suc, ◌-◌, Bool, ◌⊎◌, inl, inr, List, [], ◌∷◌, ◌++◌, map, replicate, length, get_or, refl, sym, ◌∙◌, ap, subst, arith}
use Rattle.std.specs.Prelude.{ℤ, pos, ◌+ℤ◌, ◌*ℤ◌, All}
use Rattle.std.proofs.lemmas.Int.{ints}
use Rattle.std.proofs.lemmas.List.Elements.{All-nil, All-cons, All-weaker}
use Rattle.lin_terms.specs.declared.row.Row.{Row}
use Rattle.lin_terms.specs.declared.form.Form.{Form}
use Rattle.lin_terms.specs.declared.sign.Sign.{Sign}
use Rattle.lin_terms.specs.Form.{combined_coefs}
use Rattle.lin_terms.specs.Sign.{factor_of}
use Rattle.lin_terms.specs.Vectors.{plus}
use Rattle.lin_terms.proofs.Laws.{get_or-plus, get_or-scaled, get_or-zeros}
use Rattle.farkas_check.specs.Refutes.{IsRefutable}
use Rattle.farkas_check.specs.Laws.{AreAlike}
use Rattle.lin_prover.specs.Laws.{StandsAmong}
use Rattle.lin_prover.proofs.Laws.{refuted_among_more}
use Rattle.horn_clauses.specs.declared.atom.Atom.{Atom}
use Rattle.horn_clauses.specs.declared.atom.Atom.TheVariants.{False, Linear}
use Rattle.horn_clauses.specs.declared.family.Family.{Family}
use Rattle.horn_clauses.specs.Family.{atoms_at}
use Rattle.horn_clauses.specs.Obligations.{Obligation, rows_of, atom_row, negated_row, negated_rows, side_of, columns_over, atoms_or_none}
use Rattle.houdini.specs.Within.{IsSublist, IsWithin}
use Rattle.coupling_check.specs.Checks.{AreRefutable}
use Rattle.houdini.proofs.Within.{atoms_within, sublist_at}

-- ---- rows that are alike

-- Each of the first rows has one like it among the second, in their order.
abbrev AreAmong : List Row → List Row → Type 0
AreAmong [] others = Unit {0}
AreAmong (row ∷ rows) [] = ⊥
AreAmong (row ∷ rows) (other ∷ others) = (AreAlike row other × AreAmong rows others) ⊎ AreAmong (row ∷ rows) others

one_further : (other : Row) (others : List Row) (row : Row) → StandsAmong others row → StandsAmong (other ∷ others) row
one_further other others row stands = record {
  place = suc stands.place;
  found = stands.found;
  stands = stands.stands;
  alike = stands.alike;
}

stand_among : (rows others : List Row) → AreAmong rows others → All (StandsAmong others) rows
stand_among [] others among = All-nil (StandsAmong others)
stand_among (row ∷ rows) [] among = absurd among
stand_among (row ∷ rows) (other ∷ others) (inl among) =
    All-cons (StandsAmong (other ∷ others)) row rows (record { place = 0; found = other; stands = refl; alike = among.0 })
    (All-weaker (StandsAmong others) (StandsAmong (other ∷ others)) (one_further other others) rows (stand_among rows others among.1))
stand_among (row ∷ rows) (other ∷ others) (inr among) =
    All-weaker (StandsAmong others) (StandsAmong (other ∷ others)) (one_further other others) (row ∷ rows)
    (stand_among (row ∷ rows) others among)

alike_itself : (row : Row) → AreAlike row row
alike_itself row = record { entries = λ j. refl; constant = refl; equality = refl }

among_themselves : (rows : List Row) → AreAmong rows rows
among_themselves [] = tt
among_themselves (row ∷ rows) = inl (alike_itself row, among_themselves rows)

none_among : (others : List Row) (more rows : List Row) → AreAmong rows more → AreAmong rows (others ++ more)
none_among [] more rows among = among
none_among (other ∷ others) more [] among = tt
none_among (other ∷ others) more (row ∷ rows) among = inr (none_among others more (row ∷ rows) among)

joined_among : (rows others more further : List Row) → AreAmong rows others → AreAmong more further
    → AreAmong (rows ++ more) (others ++ further)
joined_among [] others more further first second = none_among others further more second
joined_among (row ∷ rows) [] more further first second = absurd first
joined_among (row ∷ rows) (other ∷ others) more further (inl first) second =
    inl (first.0, joined_among rows others more further first.1 second)
joined_among (row ∷ rows) (other ∷ others) more further (inr first) second =
    inr (joined_among (row ∷ rows) others more further first second)

-- ---- the rows of an obligation, over other columns

padded_entry : (coefs : List ℤ) (n j : ℕ) → get_or (coefs ++ replicate n (pos 0)) j (pos 0) ≡ get_or coefs j (pos 0)
padded_entry [] n j = get_or-zeros n j
padded_entry (x ∷ coefs) n zero = refl
padded_entry (x ∷ coefs) n (suc j) = padded_entry coefs n j

alike_atom : (columns others : ℕ) (atom : Atom) → AreAlike (atom_row columns atom) (atom_row others atom)
alike_atom columns others False = record {
  entries = λ j. get_or-zeros columns j ∙ sym (get_or-zeros others j);
  constant = refl;
  equality = refl;
}
alike_atom columns others (Linear coefs constant rel) = record {
  entries = λ j. padded_entry coefs (columns - length coefs) j ∙ sym (padded_entry coefs (others - length coefs) j);
  constant = refl;
  equality = refl;
}

atoms_among : (columns others : ℕ) (xs ys : List Atom) → IsSublist xs ys → AreAmong (map (atom_row columns) xs) (map (atom_row others) ys)
atoms_among columns others [] ys sub = tt
atoms_among columns others (x ∷ xs) [] sub = absurd sub
atoms_among columns others (x ∷ xs) (y ∷ ys) (inl sub) =
    inl (
      subst (λ (z : Atom). AreAlike (atom_row columns x) (atom_row others z)) sub.0 (alike_atom columns others x),
      atoms_among columns others xs ys sub.1,
    )
atoms_among columns others (x ∷ xs) (y ∷ ys) (inr sub) = inr (atoms_among columns others (x ∷ xs) ys sub)

nothing_added : (x : ℤ) → pos 0 +ℤ x ≡ x
nothing_added x = omega (arith, ints)

-- the sum's entries do not depend on the columns
sum_entry : (columns j : ℕ) (factor : ℤ) (coefs : List ℤ) (forms : List Form) (side : Sign) (constant : ℤ)
    → get_or (negated_row columns forms coefs constant side).coefs j (pos 0)
    ≡ factor_of side *ℤ get_or (combined_coefs coefs forms) j (pos 0)
sum_entry columns j factor coefs forms side constant =
    get_or-scaled (factor_of side) (plus (replicate columns (pos 0)) (combined_coefs coefs forms)) j
    ∙ ap (λ (z : ℤ). factor_of side *ℤ z) (get_or-plus (replicate columns (pos 0)) (combined_coefs coefs forms) j
    ∙ ap (λ (z : ℤ). z +ℤ get_or (combined_coefs coefs forms) j (pos 0)) (get_or-zeros columns j)
    ∙ nothing_added (get_or (combined_coefs coefs forms) j (pos 0)))

negated_among : (columns others : ℕ) (forms : List Form) (atom : Atom) (upper : Bool)
    → AreAmong (negated_rows columns forms atom upper) (negated_rows others forms atom upper)
negated_among columns others forms False upper = tt
negated_among columns others forms (Linear coefs constant rel) upper = inl (
  record {
    entries = λ j. sum_entry columns j (pos 0) coefs forms (side_of rel upper) constant
        ∙ sym (sum_entry others j (pos 0) coefs forms (side_of rel upper) constant);
    constant = refl;
    equality = refl;
  },
  tt,
)

rows_among : (family other : Family) (asked : Obligation)
    → IsSublist (atoms_or_none (atoms_at family asked.clause.from)) (atoms_or_none (atoms_at other asked.clause.from))
    → AreAmong (rows_of family asked) (rows_of other asked)
rows_among family other asked sub =
    let xs : List Atom = atoms_or_none (atoms_at family asked.clause.from) in
    let ys : List Atom = atoms_or_none (atoms_at other asked.clause.from) in
    let columns : ℕ = columns_over xs asked.clause in
    let others : ℕ = columns_over ys asked.clause in
    joined_among (map (atom_row columns) xs ++ asked.clause.rows) (map (atom_row others) ys ++ asked.clause.rows)
    (negated_rows columns asked.clause.after asked.atom asked.upper) (negated_rows others asked.clause.after asked.atom asked.upper)
    (joined_among (map (atom_row columns) xs) (map (atom_row others) ys) asked.clause.rows asked.clause.rows
    (atoms_among columns others xs ys sub) (among_themselves asked.clause.rows))
    (negated_among columns others asked.clause.after asked.atom asked.upper)

-- An obligation that is refutable over a family is refutable over each that it is within.
pub refutable_over_more : (family other : Family) (asked : Obligation) → IsWithin family other → IsRefutable (rows_of family asked)
    → IsRefutable (rows_of other asked)
refutable_over_more family other asked within refutable =
    refuted_among_more (rows_of family asked) (rows_of other asked)
    (stand_among (rows_of family asked) (rows_of other asked)
    (rows_among family other asked (sublist_at (atoms_at family asked.clause.from) (atoms_at other asked.clause.from)
    (atoms_within family other asked.clause.from within))))
    refutable

pub all_refutable_over_more : (family other : Family) (obligations : List Obligation) → IsWithin family other
    → AreRefutable family obligations → AreRefutable other obligations
all_refutable_over_more family other obligations within refutable =
    All-weaker (λ (asked : Obligation). IsRefutable (rows_of family asked)) (λ (asked : Obligation). IsRefutable (rows_of other asked))
    (λ asked. refutable_over_more family other asked within) obligations refutable
