-- Entries of the rows of an obligation, told one after the other.
use Rattle.std.proofs.Common.{◌≡◌, ℕ, ◌<◌, ◌≤◌, ◌^◌, Bool, List, [], ◌∷◌, length, map, get_or, sym, ap, ◌∙◌, subst, arith, ⊎_elim, lit<}
use Rattle.std.specs.Prelude.{ℤ, pos, neg_ℤ, ◌+ℤ◌, ◌*ℤ◌, unsigned_abs, All}
use Rattle.std.proofs.lemmas.Int.{ints}
use Rattle.std.proofs.lemmas.Bool.{cases_lt}
use Rattle.std.proofs.lemmas.List.{length-map, get_or-map, get_or_past}
use Rattle.std.proofs.lemmas.List.Elements.{All-get_or, All-head}
use Rattle.lin_terms.specs.declared.form.Form.{Form}
use Rattle.lin_terms.specs.declared.row.Row.{Row}
use Rattle.lin_terms.specs.declared.sign.Sign.{Sign}
use Rattle.lin_terms.specs.declared.sign.Sign.TheVariants.{Negative, NotPositive, Zero, NotNegative, Positive}
use Rattle.lin_terms.specs.Vectors.{dot}
use Rattle.lin_terms.specs.Form.{entries_at, constants_of}
use Rattle.lin_terms.specs.Row.{IsFittingRow, columns_of}
use Rattle.lin_terms.specs.Sign.{factor_of, offset_of}
use Rattle.farkas_check.specs.Refutes.{column}
use Rattle.horn_clauses.specs.declared.atom.Rel.{Rel}
use Rattle.horn_clauses.specs.declared.atom.Atom.{Atom}
use Rattle.horn_clauses.specs.declared.atom.Atom.TheVariants.{False, Linear}
use Rattle.horn_clauses.specs.declared.clause.Clause.{Clause}
use Rattle.horn_clauses.specs.declared.family.Family.{Family}
use Rattle.horn_clauses.specs.Family.{atoms_at}
use Rattle.horn_clauses.specs.Obligations.{atom_row, side_of, negated_row, negated_rows, atoms_or_none, columns_over, obligation_rows, FitsNode, CanOblige}
use Rattle.coupling_check.specs.Told.{coefs_in, told_rows}
use Rattle.coupling_check.proofs.Shapes.{rows_long, rows_fit}
use Rattle.coupling_check.proofs.Sums.{get_or-multiples}

-- ---- the atoms at the start

module _ (columns : ℕ) (atoms : List Atom) (i : ℕ) (atom : Atom) (below : i < length atoms) (is : atom ≡ get_or atoms i atom) where
  row_of_atom : get_or (map (atom_row columns) atoms) i (atom_row columns atom) ≡ atom_row columns atom
  row_of_atom = get_or-map (atom_row columns) atoms i atom (atom_row columns atom) below ∙ ap (atom_row columns) (sym is)

  -- what is read of the row of an atom
  pub read_of_atom : (A : Type 0) (read : Row → A) (other : A) → get_or (map read (map (atom_row columns) atoms)) i other ≡ read (atom_row columns atom)
  read_of_atom A read other =
      get_or-map read (map (atom_row columns) atoms) i (atom_row columns atom) other (omega (arith, length-map atoms (atom_row columns), below))
      ∙ ap read row_of_atom

  pub fitting_atom : All IsFittingRow (map (atom_row columns) atoms) → IsFittingRow (atom_row columns atom)
  fitting_atom fit =
      subst IsFittingRow row_of_atom (fit i (atom_row columns atom) (omega (arith, length-map atoms (atom_row columns), below)))

-- ---- the atom at the end

pub is_of : (atom : Atom) (coefs slice : List ℤ) (constant : ℤ) (rel : Rel) → atom ≡ Linear coefs constant rel → slice ≡ coefs
    → atom ≡ Linear slice constant rel
is_of atom coefs slice constant rel is same = subst (λ (xs : List ℤ). atom ≡ Linear xs constant rel) (sym same) is

turned_size : (side : Sign) (z : ℤ) → unsigned_abs (factor_of side *ℤ z) < 2 ^ 56 → unsigned_abs z < 2 ^ 57
turned_size Negative z small = omega (arith, ints, small)
turned_size NotPositive z small = omega (arith, ints, small)
turned_size Zero z small = omega (arith, ints, small)
turned_size NotNegative z small = omega (arith, ints, small)
turned_size Positive z small = omega (arith, ints, small)

between_size : (side : Sign) (z : ℤ) → unsigned_abs ((factor_of side *ℤ z) +ℤ offset_of side) < 2 ^ 56 → unsigned_abs z < 2 ^ 57
between_size Negative z small = omega (arith, ints, small)
between_size NotPositive z small = omega (arith, ints, small)
between_size Zero z small = omega (arith, ints, small)
between_size NotNegative z small = omega (arith, ints, small)
between_size Positive z small = omega (arith, ints, small)

module _ (columns : ℕ) (forms : List Form) (atom : Atom) (upper : Bool) (coefs : List ℤ) (constant : ℤ) (rel : Rel)
    (is : atom ≡ Linear coefs constant rel) where
  abbrev row : Row
  row = negated_row columns forms coefs constant (side_of rel upper)

  fits : All IsFittingRow (negated_rows columns forms atom upper) → IsFittingRow row
  fits fit = All-head IsFittingRow row [] (subst (λ (a : Atom). All IsFittingRow (negated_rows columns forms a upper)) is fit)

  -- what the entry of the row is
  pub negated_entry_is : (j : ℕ) → get_or (column j (negated_rows columns forms atom upper)) 0 (pos 0)
      ≡ factor_of (side_of rel upper) *ℤ dot coefs (entries_at j forms)
  negated_entry_is j =
      ap (λ (a : Atom). get_or (column j (negated_rows columns forms a upper)) 0 (pos 0)) is
      ∙ get_or-multiples columns (factor_of (side_of rel upper)) coefs forms j

  entry_fits : (j : ℕ) → IsFittingRow row → unsigned_abs (get_or row.coefs j (pos 0)) < 2 ^ 56
  entry_fits j fit =
      ⊎_elim (λ (inside : j < length row.coefs). All-get_or (λ (entry : ℤ). unsigned_abs entry < 2 ^ 56) row.coefs j (pos 0) inside fit.coefs)
      (λ (past : length row.coefs ≤ j). rw (get_or_past row.coefs j (pos 0) past) (lit< tt))
      (cases_lt j (length row.coefs))

  -- the sum that the entry is made of
  pub entry_size : (j : ℕ) → All IsFittingRow (negated_rows columns forms atom upper) → unsigned_abs (dot coefs (entries_at j forms)) < 2 ^ 57
  entry_size j fit =
      turned_size (side_of rel upper) (dot coefs (entries_at j forms))
      (subst (λ (z : ℤ). unsigned_abs z < 2 ^ 56) (get_or-multiples columns (factor_of (side_of rel upper)) coefs forms j) (entry_fits j (fits fit)))

  -- and the constant
  pub constant_size : All IsFittingRow (negated_rows columns forms atom upper) → unsigned_abs (dot coefs (constants_of forms) +ℤ neg_ℤ constant) < 2 ^ 57
  constant_size fit = between_size (side_of rel upper) (dot coefs (constants_of forms) +ℤ neg_ℤ constant) (fits fit).constant

-- ---- the obligation

coefs_enough : (width : ℕ) (atom : Atom) → FitsNode width atom → length (coefs_in atom) ≤ width
coefs_enough width False fits = omega arith
coefs_enough width (Linear coefs constant rel) fits = omega (arith, fits.as_many)

module _ (family : Family) (clause : Clause) (atom : Atom) (upper : Bool) (can : CanOblige family clause atom) (atoms : List Atom) (columns : ℕ)
    (at : atoms ≡ atoms_or_none (atoms_at family clause.from)) (over : columns ≡ columns_over atoms clause) where
  pub told_is : told_rows columns atoms clause atom upper ≡ obligation_rows family clause atom upper
  told_is =
      ap (λ (n : ℕ). told_rows n atoms clause atom upper) over ∙ ap (λ (xs : List Atom). told_rows (columns_over xs clause) xs clause atom upper) at

  pub told_enough : length (coefs_in atom) ≤ length clause.after
  told_enough = subst (λ (n : ℕ). length (coefs_in atom) ≤ n) (sym can.between.after) (coefs_enough can.end atom can.at_end)

  pub told_long : All (λ row. length row.coefs ≡ columns) (told_rows columns atoms clause atom upper)
  told_long =
      subst (λ (rows : List Row). All (λ row. length row.coefs ≡ columns) rows) (sym told_is)
      (subst (λ (n : ℕ). All (λ (row : Row). length row.coefs ≡ n) (obligation_rows family clause atom upper))
      (sym (over ∙ ap (λ (xs : List Atom). columns_over xs clause) at)) (rows_long family clause atom can upper))

  pub told_fit : All IsFittingRow (told_rows columns atoms clause atom upper)
  told_fit = subst (λ (rows : List Row). All IsFittingRow rows) (sym told_is) (rows_fit family clause atom can upper)

-- ---- columns

pub columns_are : (columns : ℕ) (rows : List Row) → 0 < length rows → All (λ row. length row.coefs ≡ columns) rows → columns ≡ columns_of rows
columns_are columns [] some long = absurd (omega (arith, some))
columns_are columns (row ∷ rows) some long = sym (All-head (λ (other : Row). length other.coefs ≡ columns) row rows long)
