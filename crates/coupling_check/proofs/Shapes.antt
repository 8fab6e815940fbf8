-- The rows of an obligation have one length, and small entries.
use Rattle.std.proofs.Common.{◌≡◌, ℕ, ◌+◌, ◌-◌, ◌<◌, ◌≤◌, ◌^◌, lit<, Bool, List, [], ◌∷◌, ◌++◌, length, length-append, map, replicate, get_or, Option, Some, None, sym, ◌∙◌, subst, arith}
use Rattle.std.specs.Prelude.{ℤ, pos, neg_ℤ, ◌+ℤ◌, ◌*ℤ◌, unsigned_abs, IsSomeAnd, All}
use Rattle.std.specs.List.{AllByRecursion}
use Rattle.std.proofs.lemmas.Int.{ints}
use Rattle.std.proofs.lemmas.List.{length-replicate}
use Rattle.std.proofs.lemmas.List.Elements.{All-nil, All-cons, All-head, All-append, All-map, All-weaker, All-replicate, All-from_get_or, All-from_recursion, recursion_from_All}
use Rattle.lin_terms.specs.declared.form.Form.{Form}
use Rattle.lin_terms.specs.declared.row.Row.{Row}
use Rattle.lin_terms.specs.declared.sign.Sign.{Sign}
use Rattle.lin_terms.specs.declared.sign.Sign.TheVariants.{Negative, NotPositive, Zero, NotNegative, Positive}
use Rattle.lin_terms.specs.Bounds.{FitsForm, FitsRow}
use Rattle.lin_terms.specs.Vectors.{dot}
use Rattle.lin_terms.specs.Form.{entries_at, constants_of}
use Rattle.lin_terms.specs.Row.{EntriesAreBelow, IsFittingRow, HaveOneLength}
use Rattle.lin_terms.specs.Sign.{factor_of, offset_of}
use Rattle.horn_clauses.specs.declared.atom.Rel.{Rel}
use Rattle.horn_clauses.specs.declared.atom.Atom.{Atom}
use Rattle.horn_clauses.specs.declared.atom.Atom.TheVariants.{False, Linear}
use Rattle.horn_clauses.specs.declared.clause.Clause.{Clause}
use Rattle.horn_clauses.specs.declared.family.Family.{Family}
use Rattle.horn_clauses.specs.Family.{atoms_at}
use Rattle.horn_clauses.specs.Clause.{columns_in}
use Rattle.horn_clauses.specs.Obligations.{padded, atom_row, side_of, negated_row, negated_rows, atoms_or_none, first_width, columns_over, obligation_rows}
use Rattle.horn_clauses.specs.Obligations.{FitsNode, CanOblige, CanNegate}
use Rattle.coupling_check.proofs.Sums.{length-multiples, get_or-multiples, coef_size, constant_size}

-- ---- the atoms at the start

pub some_all : (P : Atom → Type 0) (found : Option (List Atom)) → IsSomeAnd found (All P) → All P (atoms_or_none found)
some_all P None all = absurd all
some_all P (Some atoms) all = all

-- The atom has no more coefficients than there are columns.
IsWithin : ℕ → Atom → Type 0
IsWithin columns False = Unit {0}
IsWithin columns (Linear coefs constant rel) = length coefs ≤ columns

one_within : (width columns : ℕ) (atom : Atom) → width ≤ columns → FitsNode width atom → IsWithin columns atom
unfolding IsWithin
one_within width columns False below fits = tt
one_within width columns (Linear coefs constant rel) below fits = omega (arith, fits.as_many)

all_within : (width columns : ℕ) (atoms : List Atom) → width ≤ columns → All (FitsNode width) atoms → All (IsWithin columns) atoms
all_within width columns atoms below fit = All-weaker (FitsNode width) (IsWithin columns) (λ atom. one_within width columns atom below) atoms fit

-- where one is linear, the first linear one is as long as the others
within_first : (width : ℕ) (atoms : List Atom) → AllByRecursion (FitsNode width) atoms → AllByRecursion (IsWithin (first_width atoms)) atoms
unfolding IsWithin
within_first width [] fit = tt
within_first width (False ∷ atoms) fit = (tt, within_first width atoms fit.1)
within_first width (Linear coefs constant rel ∷ atoms) fit =
    let others = all_within width (length coefs) atoms (omega (arith, fit.0.as_many)) (All-from_recursion (FitsNode width) atoms fit.1) in
    (omega arith, recursion_from_All (IsWithin (length coefs)) atoms others)

columns_enough : (width : ℕ) (atoms : List Atom) (rows : List Row) (forms : List Form) → width ≤ columns_in width rows forms → All (FitsNode width) atoms
    → All (IsWithin (columns_in (first_width atoms) rows forms)) atoms
columns_enough width atoms (row ∷ rows) forms enough fit = all_within width (length row.coefs) atoms enough fit
columns_enough width atoms [] (form ∷ forms) enough fit = all_within width (length form.coefs) atoms enough fit
columns_enough width atoms [] [] enough fit =
    All-from_recursion (IsWithin (first_width atoms)) atoms (within_first width atoms (recursion_from_All (FitsNode width) atoms fit))

length-padded : (columns : ℕ) (coefs : List ℤ) → length coefs ≤ columns → length (padded columns coefs) ≡ columns
length-padded columns coefs within =
    omega (arith, length-append coefs (replicate (columns - length coefs) (pos 0)), length-replicate (columns - length coefs) (pos 0))

length-atom_row : (columns : ℕ) (atom : Atom) → IsWithin columns atom → length (atom_row columns atom).coefs ≡ columns
unfolding IsWithin
length-atom_row columns False within = length-replicate columns (pos 0)
length-atom_row columns (Linear coefs constant rel) within = length-padded columns coefs within

-- ---- the columns

pub rows_have_columns : (width other : ℕ) (rows : List Row) (forms : List Form) → All (λ row. length row.coefs ≡ columns_in width rows forms) rows
    → All (λ row. length row.coefs ≡ columns_in other rows forms) rows
rows_have_columns width other [] forms long = All-nil (λ (row : Row). length row.coefs ≡ columns_in other [] forms)
rows_have_columns width other (row ∷ rows) forms long = long

pub forms_have_columns : (width other : ℕ) (rows : List Row) (forms : List Form) → All (λ form. length form.coefs ≡ columns_in width rows forms) forms
    → All (λ form. length form.coefs ≡ columns_in other rows forms) forms
forms_have_columns width other (row ∷ rows) forms long = long
forms_have_columns width other [] [] long = All-nil (λ (form : Form). length form.coefs ≡ other)
forms_have_columns width other [] (form ∷ forms) long = long

pub one_length : (columns : ℕ) (rows : List Row) → All (λ row. length row.coefs ≡ columns) rows → HaveOneLength rows
one_length columns [] long = All-nil (λ (row : Row). length row.coefs ≡ 0)
one_length columns (row ∷ rows) long =
    subst (λ (n : ℕ). All (λ (other : Row). length other.coefs ≡ n) (row ∷ rows))
    (sym (All-head (λ (other : Row). length other.coefs ≡ columns) row rows long)) long

-- ---- sizes

opposite_fits : (constant : ℤ) → FitsForm constant → FitsRow (neg_ℤ constant)
opposite_fits constant fits = omega (arith, ints, fits)

coef_fits : (coef : ℤ) → unsigned_abs coef ≤ 2 → FitsRow coef
coef_fits coef small = omega (arith, small)

pub atom_row-fits : (width columns : ℕ) (atom : Atom) → FitsNode width atom → IsFittingRow (atom_row columns atom)
atom_row-fits width columns False fits = record { coefs = All-replicate FitsRow columns (pos 0) (lit< tt); constant = lit< tt }
atom_row-fits width columns (Linear coefs constant rel) fits = record {
  coefs = All-append FitsRow coefs (replicate (columns - length coefs) (pos 0))
      (All-weaker (λ (coef : ℤ). unsigned_abs coef ≤ 2) FitsRow coef_fits coefs fits.small)
      (All-replicate FitsRow (columns - length coefs) (pos 0) (lit< tt));
  constant = opposite_fits constant fits.fits;
}

entry_fits : (entry : ℤ) → unsigned_abs entry < 2 ^ 50 → FitsRow entry
entry_fits entry below = omega (arith, below)

pub clause_row-fits : (row : Row) → EntriesAreBelow (2 ^ 50) row → IsFittingRow row
clause_row-fits row below = record {
  coefs = All-weaker (λ (entry : ℤ). unsigned_abs entry < 2 ^ 50) FitsRow entry_fits row.coefs below.coefs;
  constant = entry_fits row.constant below.constant;
}

turned_size : (side : Sign) (z : ℤ) → unsigned_abs (factor_of side *ℤ z) ≡ unsigned_abs z
turned_size Negative z = omega (arith, ints)
turned_size NotPositive z = omega (arith, ints)
turned_size Zero z = omega (arith, ints)
turned_size NotNegative z = omega (arith, ints)
turned_size Positive z = omega (arith, ints)

offset_size : (side : Sign) (z : ℤ) → unsigned_abs (z +ℤ offset_of side) ≤ unsigned_abs z + 1
offset_size Negative z = omega (arith, ints)
offset_size NotPositive z = omega (arith, ints)
offset_size Zero z = omega (arith, ints)
offset_size NotNegative z = omega (arith, ints)
offset_size Positive z = omega (arith, ints)

module _ (columns : ℕ) (forms : List Form) (coefs : List ℤ) (constant : ℤ) (side : Sign) (can : CanNegate columns forms coefs)
    (fits : FitsForm constant) where
  pub negated_row-fits : IsFittingRow (negated_row columns forms coefs constant side)
  negated_row-fits = record {
    coefs = All-from_get_or FitsRow (negated_row columns forms coefs constant side).coefs (pos 0)
        (λ j inside. subst FitsRow (sym (get_or-multiples columns (factor_of side) coefs forms j))
        (let size = turned_size side (dot coefs (entries_at j forms)) in omega (arith, size, coef_size columns forms coefs can j)));
    constant =
        let between : ℤ = dot coefs (constants_of forms) +ℤ neg_ℤ constant in
        omega (arith, offset_size side (factor_of side *ℤ between), turned_size side between, constant_size columns forms coefs can constant fits);
  }

  pub length-negated_row : length (negated_row columns forms coefs constant side).coefs ≡ columns
  length-negated_row = length-multiples columns (factor_of side) coefs forms can.long

-- ---- the obligation

-- The row has so many columns, and small entries.
pub record IsShaped (columns : ℕ) (row : Row) : Type 0 where
  pub long : length row.coefs ≡ columns
  pub fits : IsFittingRow row

module _ (family : Family) (clause : Clause) (atom : Atom) (can : CanOblige family clause atom) where
  abbrev atoms : List Atom
  atoms = atoms_or_none (atoms_at family clause.from)

  abbrev columns : ℕ
  columns = columns_over atoms clause

  at_start : All (FitsNode can.start) atoms
  at_start = some_all (FitsNode can.start) (atoms_at family clause.from) can.at_start

  forms_long : All (λ form. length form.coefs ≡ columns) clause.after
  forms_long = forms_have_columns can.start (first_width atoms) clause.rows clause.after can.between.forms

  pub can_negate : (coefs : List ℤ) (constant : ℤ) (rel : Rel) → FitsNode can.end (Linear coefs constant rel) → CanNegate columns clause.after coefs
  can_negate coefs constant rel fits = record {
    as_many = fits.as_many ∙ sym can.between.after;
    few = omega (arith, fits.as_many, can.few_at_end);
    small = fits.small;
    long = forms_long;
    fit = can.between.forms_fit;
  }

  atom_rows-shaped : All (IsShaped columns) (map (atom_row columns) atoms)
  atom_rows-shaped =
      let within = columns_enough can.start atoms clause.rows clause.after can.between.enough at_start in
      All-map (IsShaped columns) (atom_row columns) atoms (λ k d inside. record {
        long = length-atom_row columns (get_or atoms k d) (within k d inside);
        fits = atom_row-fits can.start columns (get_or atoms k d) (at_start k d inside);
      })

  clause_rows-shaped : All (IsShaped columns) clause.rows
  clause_rows-shaped =
      let long = rows_have_columns can.start (first_width atoms) clause.rows clause.after can.between.rows in
      λ k d inside. record { long = long k d inside; fits = clause_row-fits (get_or clause.rows k d) (can.between.rows_fit k d inside) }

  negated_rows-shaped : (last : Atom) (upper : Bool) → FitsNode can.end last → All (IsShaped columns) (negated_rows columns clause.after last upper)
  negated_rows-shaped False upper fits = All-nil (IsShaped columns)
  negated_rows-shaped (Linear coefs constant rel) upper fits =
      let side : Sign = side_of rel upper in
      let negate = can_negate coefs constant rel fits in
      All-cons (IsShaped columns) (negated_row columns clause.after coefs constant side) [] (record {
        long = length-negated_row columns clause.after coefs constant side negate fits.fits;
        fits = negated_row-fits columns clause.after coefs constant side negate fits.fits;
      }) (All-nil (IsShaped columns))

  rows-shaped : (upper : Bool) → All (IsShaped columns) (obligation_rows family clause atom upper)
  rows-shaped upper =
      All-append (IsShaped columns) (map (atom_row columns) atoms ++ clause.rows) (negated_rows columns clause.after atom upper)
      (All-append (IsShaped columns) (map (atom_row columns) atoms) clause.rows atom_rows-shaped clause_rows-shaped)
      (negated_rows-shaped atom upper can.at_end)

  pub rows_long : (upper : Bool) → All (λ row. length row.coefs ≡ columns) (obligation_rows family clause atom upper)
  rows_long upper =
      All-weaker (IsShaped columns) (λ (row : Row). length row.coefs ≡ columns) (λ row shaped. shaped.long) (obligation_rows family clause atom upper)
      (rows-shaped upper)

  pub rows_have_one_length : (upper : Bool) → HaveOneLength (obligation_rows family clause atom upper)
  rows_have_one_length upper = one_length columns (obligation_rows family clause atom upper) (rows_long upper)

  pub rows_fit : (upper : Bool) → All IsFittingRow (obligation_rows family clause atom upper)
  rows_fit upper = All-weaker (IsShaped columns) IsFittingRow (λ row shaped. shaped.fits) (obligation_rows family clause atom upper) (rows-shaped upper)
