use Rattle.std.proofs.Common.{◌≡◌, ℕ, ◌+◌, ◌-◌, ◌<◌, ◌^◌, arith, rules, ◌∙◌, ap, sym, subst, min, get_or, pos, length, List, FitsSigned, w64, to_z-of_z}
use Rattle.std.specs.Prelude.{ℤ, ◌+ℤ◌, ◌*ℤ◌, unsigned_abs}
use Rattle.lin_terms.specs.declared.row.Row.{Row}
use Rattle.lin_terms.specs.Bounds.{FitsRow}
use Rattle.lin_terms.specs.Row.{columns_of}
use Rattle.farkas_check.specs.Refutes.{column}
use Rattle.farkas_check.proofs.Wide.{entry_back}
use Rattle.farkas_check.proofs.Adding.{entries_added, entries_left, column_fits, row_added}
use Rattle.farkas_check.proofs.sums.add_row.Goals as goal

pub product-requires-clause-fits : goal.product-requires-clause-fits
product-requires-clause-fits g c =
    let rows : List Row = g.R.Rows.list c.args.rows.now in
    let fits : FitsSigned w64 c.entry.result = search rules in
    simp to_z-of_z (subst FitsRow (sym c.entry.ensures) (column_fits rows c.args.i (c.args.first + c.loop-k.k) c.requires.inside c.requires.rows_fit))

pub loop-k-preserved : goal.loop-k-preserved
loop-k-preserved g c =
    let rows : List Row = g.R.Rows.list c.args.rows.now in
    let k : ℕ = c.loop-k.k in
    let m : ℤ = c.args.multiplier.now in
    let product : ℤ = c.product.result in
    let sums : List ℤ = c.loop-k.sums in
    let before : List ℤ = c.args.sums.now in
    let in_sums : k < length sums = omega (arith, c.requires.width, c.min-k-end.ensures) in
    let old = c.loop-k.invariant.left k (omega arith) in
    let room : unsigned_abs (get_or sums k (pos 0)) < 2 ^ 126 = rw old (c.requires.room k (pos 0) (omega (arith, c.requires.width, c.min-k-end.ensures))) in
    let fits : FitsSigned w64 c.entry.result = search rules in
    let made = (simp to_z-of_z at c.product.ensures.value) ∙ ap (λ (z : ℤ). m *ℤ z) c.entry.ensures in
    let is = ap (λ (z : ℤ). z +ℤ product) old ∙ ap (λ (z : ℤ). get_or before k (pos 0) +ℤ z) made in
    rw (entry_back (get_or sums k (pos 0)) product room c.product.ensures.small) (record {
      added = entries_added sums before (λ (j : ℕ). m *ℤ get_or (column (c.args.first + j) rows) c.args.i (pos 0)) k _ in_sums is c.loop-k.invariant.added;
      left = entries_left sums before k _ c.loop-k.invariant.left;
    })

pub returns : goal.returns
returns g c =
    let rows : List Row = g.R.Rows.list c.args.rows.now in
    let all : c.loop-k.k ≡ min 32 (columns_of rows - c.args.first) =
    omega (arith, c.min-k-end.ensures, c.saturating_sub.ensures, c.columns.ensures, c.loop-k-test.false) in
    row_added rows c.args.i c.args.first c.loop-k.k c.args.multiplier.now c.loop-k.sums c.args.sums.now c.requires.inside c.requires.one_length all
    c.loop-k.invariant.added c.loop-k.invariant.left
