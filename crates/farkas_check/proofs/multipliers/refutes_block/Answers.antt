use Rattle.std.proofs.Common.{◌≡◌, ℕ, Bool, true, false, ◌+◌, ◌<◌, ◌≤◌, ◌^◌, arith, rules, sym, ap, subst, ◌∙◌, to_z, get_or, pos, length, List, FitsSigned, w64, to_z-of_z}
use Rattle.std.specs.Int.{w128}
use Rattle.std.specs.Prelude.{ℤ, negsuc, ◌≤ℤ◌, ◌*ℤ◌, unsigned_abs}
use Rattle.std.proofs.lemmas.Int.{ints}
use Rattle.std.proofs.lemmas.List.Elements.{All-from_get_or}
use Rattle.lin_terms.specs.declared.row.Row.{Row}
use Rattle.lin_terms.specs.Bounds.{FitsRow}
use Rattle.lin_terms.specs.Vectors.{dot}
use Rattle.farkas_check.specs.Refutes.{column, constants, MayMultiply}
use Rattle.farkas_check.proofs.Wide.{sum_back}
use Rattle.farkas_check.proofs.Adding.{row_at, row_at-is, may_at, signs_more, signs_all, zeros_sum, zeros_bound, constant_fits, block_bound, block_summed, summed, grown, summed_all, zeros_block, no_sign}
use Rattle.farkas_check.proofs.multipliers.refutes_block.Goals as goal

not_both : (t : Bool) → t ≡ true → t ≡ false → ⊥
not_both t first second = absurd cc

pub loop-i-init : goal.loop-i-init
loop-i-init g c = record {
  signs = (λ signs. signs, λ signs. signs);
  columns = λ k below. zeros_sum 32 k (dot c.args.multipliers.now (column (c.args.first + k) (g.R.Rows.list c.args.rows.now)));
  columns_bound = λ k below. zeros_bound 32 k;
  constant = omega (arith, ints);
  constant_bound = omega arith;
}

pub returns-then-not-may_multiply : goal.returns-then-not-may_multiply
returns-then-not-may_multiply g c =
    let i : ℕ = c.loop-i.i in
    let ms : List ℤ = c.args.multipliers.now in
    let rows : List Row = g.R.Rows.list c.args.rows.now in
    let below : i < length rows = omega (arith, c.requires.as_many, c.loop-i-test.true) in
    let may = may_at rows i (get_or ms i (pos 0)) c.is_equality.result below c.is_equality.ensures in
    let may_not = λ (h : MayMultiply (row_at rows i) (get_or ms i (pos 0))).
    let told : c.may_multiply.result ≡ true = c.may_multiply.ensures.1 (may.1 h) in
    not_both c.may_multiply.result told c.if-not-may_multiply.true in (
      λ never. absurd cc,
      λ refuted. absurd (no_sign rows ms i (row_at rows i) c.requires.as_many below (row_at-is rows i below) may_not c.loop-i.invariant.signs refuted.signs),
    )

pub add_row-requires-clause-room : goal.add_row-requires-clause-room
add_row-requires-clause-room g c =
    All-from_get_or (λ (sum : ℤ). unsigned_abs sum < 2 ^ 126) c.loop-i.columns (pos 0)
    (λ k below. let bound = c.loop-i.invariant.columns_bound k (omega (arith, c.if-not-may_multiply.array_long)) in
    omega (arith, bound, c.requires.many, c.requires.as_many, c.loop-i-test.true))

pub product-constant-requires-clause-fits : goal.product-constant-requires-clause-fits
product-constant-requires-clause-fits g c =
    let rows : List Row = g.R.Rows.list c.args.rows.now in
    let fits : FitsSigned w64 c.constant.result = search rules in
    simp to_z-of_z (subst FitsRow (sym c.constant.ensures) (constant_fits rows c.loop-i.i (omega (arith, c.requires.as_many)) c.requires.rows_fit))

pub loop-i-preserved : goal.loop-i-preserved
loop-i-preserved g c =
    let i : ℕ = c.loop-i.i in
    let ms : List ℤ = c.args.multipliers.now in
    let rows : List Row = g.R.Rows.list c.args.rows.now in
    let first : ℕ = c.args.first in
    let below : i < length rows = omega (arith, c.requires.as_many, c.loop-i-test.true) in
    let m : ℤ = get_or ms i (pos 0) in
    let old : List ℤ = c.loop-i.columns in
    let new : List ℤ = c.add_row.new.sums in
    let m_fits : FitsRow m = c.requires.multipliers_fit i (pos 0) (omega arith) in
    let product : ℤ = c.product-constant.result in
    let constant : ℤ = to_z w128 c.loop-i.constant-bits in
    let room : unsigned_abs constant < 2 ^ 126 = omega (arith, c.loop-i.invariant.constant_bound, c.requires.many) in
    let fits : FitsSigned w64 c.constant.result = search rules in
    let made = (simp to_z-of_z at c.product-constant.ensures.value) ∙ ap (λ (z : ℤ). m *ℤ z) c.constant.ensures in
    let may : MayMultiply (row_at rows i) m =
    (may_at rows i m c.is_equality.result below c.is_equality.ensures).0 (c.may_multiply.ensures.0 c.if-not-may_multiply.false) in
    rw (sum_back constant product room c.product-constant.ensures.small) (record {
      signs = signs_more rows ms i (row_at rows i) c.requires.as_many below (row_at-is rows i below) may c.loop-i.invariant.signs;
      columns = λ k in_block. block_summed ms rows i (first + k) (get_or old k (pos 0)) (get_or new k (pos 0)) (dot ms (column (first + k) rows))
          c.requires.as_many below (c.add_row.ensures k in_block) (c.loop-i.invariant.columns k in_block);
      columns_bound = λ k in_block. block_bound i (first + k) m (get_or old k (pos 0)) (get_or new k (pos 0)) rows m_fits below c.requires.rows_fit
          (c.add_row.ensures k in_block) (c.loop-i.invariant.columns_bound k in_block);
      constant = summed ms (constants rows) i constant product _ (omega arith) made c.loop-i.invariant.constant;
      constant_bound = grown i constant product c.loop-i.invariant.constant_bound c.product-constant.ensures.small;
    })

pub returns-then-constant-lt0 : goal.returns-then-constant-lt0
returns-then-constant-lt0 g c =
    let i : ℕ = c.loop-i.i in
    let ms : List ℤ = c.args.multipliers.now in
    let rows : List Row = g.R.Rows.list c.args.rows.now in
    let first : ℕ = c.args.first in
    let past : length ms ≤ i = omega (arith, c.loop-i-test.false) in
    let rows_past : length rows ≤ i = omega (arith, c.requires.as_many, c.loop-i-test.false) in
    let are_sums : (k : ℕ) → k < 32 → get_or c.loop-i.columns k (pos 0) ≡ dot ms (column (first + k) rows) =
    λ k below. summed_all ms (column (first + k) rows) i (get_or c.loop-i.columns k (pos 0)) _ past (c.loop-i.invariant.columns k below) in
    let zeros = zeros_block first ms rows c.loop-i.columns c.if-constant-lt0.array_long are_sums in
    let constant : to_z w128 c.loop-i.constant-bits ≡ dot ms (constants rows) =
    summed_all ms (constants rows) i (to_z w128 c.loop-i.constant-bits) _ past c.loop-i.invariant.constant in
    let negative : dot ms (constants rows) ≤ℤ negsuc 0 = rw (← constant) (search rules) in (
      λ is. record {
        signs = signs_all rows ms i c.requires.as_many rows_past c.loop-i.invariant.signs;
        no_variable = zeros.0 (c.are_zeros.ensures.0 is);
        negative_constant = negative;
      },
      λ refuted. c.are_zeros.ensures.1 (zeros.1 refuted.no_variable),
    )
