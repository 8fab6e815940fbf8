-- Coupled clauses have the shapes and the sizes of clauses.
use Rattle.std.proofs.Common.{◌≡◌, ℕ, ◌+◌, ◌<◌, ◌≤◌, ◌^◌, true, List, [], ◌∷◌, ◌++◌, length, map, drop, replicate, All, sym, ◌∙◌, length-append, arith}
use Rattle.std.specs.Prelude.{ℤ, pos, nat_le, unsigned_abs}
use Rattle.std.proofs.lemmas.Bool.{leb-true}
use Rattle.std.proofs.lemmas.List.{length-map}
use Rattle.std.proofs.lemmas.List.Elements.{All-nil, All-head, All-append, All-replicate, All-take, All-drop, All-map, All-weaker}
use Rattle.lin_terms.specs.declared.form.Form.{Form}
use Rattle.lin_terms.specs.declared.row.Row.{Row}
use Rattle.lin_terms.specs.Makes.{IsFittingForm}
use Rattle.lin_terms.specs.Row.{EntriesAreBelow}
use Rattle.horn_clauses.specs.declared.node.Node.{Node}
use Rattle.horn_clauses.specs.Clause.{columns_in, FitsClause}
use Rattle.sym_paths.specs.Walk.{Path}
use Rattle.sym_paths.specs.Nodes.{End}
use Rattle.sym_paths.specs.Cases.{fitted}
use Rattle.sym_paths.specs.Fits.{FitsInputs}
use Rattle.path_product.specs.declared.starts.Start.{Start}
use Rattle.path_product.specs.Starts.{width_in}
use Rattle.path_product.specs.Fits.{FitsPath}
use Rattle.path_product.specs.Clauses.{Spot, zeros, placed, placed_row, placed_form, Columns, unknowns_in, condition_spot, first_spot, second_spot, columns_of, coupled}
use Rattle.path_product.proofs.Coupling.{all_columns, rows_over, forms_over}

-- ---- sizes

abbrev IsSmall : ℤ → Type 0
IsSmall entry = unsigned_abs entry < 2 ^ 50

zeros_small : (n : ℕ) → All IsSmall (zeros n)
zeros_small n = All-replicate IsSmall n (pos 0) (omega arith)

fitted_small : (n : ℕ) (numbers : List ℤ) → All IsSmall numbers → All IsSmall (fitted n numbers)
fitted_small n numbers small =
    All-take IsSmall n (numbers ++ replicate n (pos 0)) (All-append IsSmall numbers (replicate n (pos 0)) small (zeros_small n))

placed_small : (spot : Spot) (coefs : List ℤ) → All IsSmall coefs → All IsSmall (placed spot coefs)
placed_small spot coefs small =
    All-append IsSmall (zeros spot.before)
    (fitted spot.variables coefs ++ (zeros spot.gap ++ (fitted spot.unknowns (drop spot.variables coefs) ++ zeros spot.behind)))
    (zeros_small spot.before)
    (All-append IsSmall (fitted spot.variables coefs) (zeros spot.gap ++ (fitted spot.unknowns (drop spot.variables coefs) ++ zeros spot.behind))
    (fitted_small spot.variables coefs small)
    (All-append IsSmall (zeros spot.gap) (fitted spot.unknowns (drop spot.variables coefs) ++ zeros spot.behind) (zeros_small spot.gap)
    (All-append IsSmall (fitted spot.unknowns (drop spot.variables coefs)) (zeros spot.behind)
    (fitted_small spot.unknowns (drop spot.variables coefs) (All-drop IsSmall spot.variables coefs small)) (zeros_small spot.behind))))

rows_small : (spot : Spot) (rows : List Row) → All (EntriesAreBelow (2 ^ 50)) rows → All (EntriesAreBelow (2 ^ 50)) (map (placed_row spot) rows)
rows_small spot rows small =
    All-map (EntriesAreBelow (2 ^ 50)) (placed_row spot) rows
    (All-weaker (EntriesAreBelow (2 ^ 50)) (λ (row : Row). EntriesAreBelow (2 ^ 50) (placed_row spot row))
    (λ row fits. record { coefs = placed_small spot row.coefs fits.coefs; constant = fits.constant }) rows small)

forms_small : (spot : Spot) (forms : List Form) → All IsFittingForm forms → All IsFittingForm (map (placed_form spot) forms)
forms_small spot forms small =
    All-map IsFittingForm (placed_form spot) forms
    (All-weaker IsFittingForm (λ (form : Form). IsFittingForm (placed_form spot form))
    (λ form fits. record { coefs = placed_small spot form.coefs fits.coefs; constant = fits.constant }) forms small)

-- ---- columns

-- Rows and forms have as many columns as the first of them, or as the start has variables, and there are at most 16 more.
record HaveColumns (start : ℕ) (rows : List Row) (forms : List Form) : Type 0 where
  all_rows : All (λ row. length row.coefs ≡ columns_in start rows forms) rows
  all_forms : All (λ form. length form.coefs ≡ columns_in start rows forms) forms
  enough : start ≤ columns_in start rows forms
  few : columns_in start rows forms ≤ start + 16

module _ (start total : ℕ) (enough : start ≤ total) (few : total ≤ start + 16) where
  of_columns : (rows : List Row) (forms : List Form) → All (λ row. length row.coefs ≡ total) rows → All (λ form. length form.coefs ≡ total) forms
      → columns_in start rows forms ≡ total → HaveColumns start rows forms
  of_columns rows forms rows_over forms_over is = record {
    all_rows = All-weaker (λ (row : Row). length row.coefs ≡ total) (λ (row : Row). length row.coefs ≡ columns_in start rows forms)
        (λ row over. over ∙ sym is) rows rows_over;
    all_forms = All-weaker (λ (form : Form). length form.coefs ≡ total) (λ (form : Form). length form.coefs ≡ columns_in start rows forms)
        (λ form over. over ∙ sym is) forms forms_over;
    enough = omega (arith, is, enough);
    few = omega (arith, is, few);
  }

  have_columns : (rows : List Row) (forms : List Form) → All (λ row. length row.coefs ≡ total) rows → All (λ form. length form.coefs ≡ total) forms
      → HaveColumns start rows forms
  have_columns (row ∷ rows) forms rows_over forms_over =
      of_columns (row ∷ rows) forms rows_over forms_over (All-head (λ (r : Row). length r.coefs ≡ total) row rows rows_over)
  have_columns [] (form ∷ forms) rows_over forms_over =
      of_columns [] (form ∷ forms) rows_over forms_over (All-head (λ (f : Form). length f.coefs ≡ total) form forms forms_over)
  have_columns [] [] rows_over forms_over = record {
    all_rows = All-nil (λ (row : Row). length row.coefs ≡ start);
    all_forms = All-nil (λ (form : Form). length form.coefs ≡ start);
    enough = omega arith;
    few = omega arith;
  }

-- ---- a clause of three cases that fit

module _ (first second : List Start) (from : Node) (v w : ℕ) (condition : List Row) (x y : Path End) (inputs : FitsInputs v condition)
    (left : FitsPath first v x) (right : FitsPath second w y) (few : nat_le (unknowns_in (columns_of v w condition x y)) 16 ≡ true) where
  abbrev c : Columns
  c = columns_of v w condition x y

  clause_columns : HaveColumns (v + w) (coupled from v w condition x y).rows (coupled from v w condition x y).after
  clause_columns =
      have_columns (v + w) (all_columns c) (omega arith) (omega (arith, leb-true (unknowns_in c) 16 few))
      (coupled from v w condition x y).rows (coupled from v w condition x y).after
      (rows_over from c condition x y) (forms_over from c condition x y)

  length_after : length (coupled from v w condition x y).after ≡ width_in first x.value.place + width_in second y.value.place
  length_after =
      let all = length-append (map (placed_form (first_spot c)) x.value.forms) (map (placed_form (second_spot c)) y.value.forms) in
      let one = length-map x.value.forms (placed_form (first_spot c)) in
      let other = length-map y.value.forms (placed_form (second_spot c)) in
      all ∙ omega (arith, one, other, left.after, right.after)

  pub coupled_fits : FitsClause (v + w) (width_in first x.value.place + width_in second y.value.place) (coupled from v w condition x y)
  coupled_fits = record {
    rows = clause_columns.all_rows;
    forms = clause_columns.all_forms;
    enough = clause_columns.enough;
    few = clause_columns.few;
    after = length_after;
    rows_fit = All-append (EntriesAreBelow (2 ^ 50)) (map (placed_row (condition_spot c)) condition)
        (map (placed_row (first_spot c)) x.state.rows ++ map (placed_row (second_spot c)) y.state.rows)
        (rows_small (condition_spot c) condition inputs.over.small)
        (All-append (EntriesAreBelow (2 ^ 50)) (map (placed_row (first_spot c)) x.state.rows) (map (placed_row (second_spot c)) y.state.rows)
        (rows_small (first_spot c) x.state.rows left.rows_fit) (rows_small (second_spot c) y.state.rows right.rows_fit));
    forms_fit = All-append IsFittingForm (map (placed_form (first_spot c)) x.value.forms) (map (placed_form (second_spot c)) y.value.forms)
        (forms_small (first_spot c) x.value.forms left.forms_fit) (forms_small (second_spot c) y.value.forms right.forms_fit);
  }
