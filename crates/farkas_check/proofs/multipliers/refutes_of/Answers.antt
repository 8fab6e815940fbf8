use Rattle.std.proofs.Common.{◌<◌, ◌≤◌, ◌*◌, arith, refl, sym, ◌∙◌}
use Rattle.lin_terms.specs.Row.{columns_of}
use Rattle.farkas_check.specs.Refutes.{RefutesBlock}
use Rattle.farkas_check.proofs.Adding.{zeros_more, refuted}
use Rattle.farkas_check.proofs.Soundness.{no_point, no_integer_point}
use Rattle.farkas_check.proofs.multipliers.refutes_of.Goals as goal

pub returns-then-not-refutes_block-clause-exact : goal.returns-then-not-refutes_block-clause-exact
returns-then-not-refutes_block-clause-exact g c = (
  λ never. absurd cc,
  λ refutes. sym c.if-not-refutes_block.true ∙ c.refutes_block.ensures.1 (record {
    signs = refutes.signs;
    no_variable = λ k below. refutes.no_variable _;
    negative_constant = refutes.negative_constant;
  }),
)

pub loop-walk-preserved : goal.loop-walk-preserved
loop-walk-preserved g c =
    let block : RefutesBlock (c.loop-walk.walk * 32) (g.R.Rows.list c.args.rows.now) c.args.multipliers.now =
    c.refutes_block.ensures.0 c.if-not-refutes_block.false in
    record {
      signs = λ some. block.signs;
      negative_constant = λ some. block.negative_constant;
      no_variable = zeros_more c.loop-walk.walk c.args.multipliers.now (g.R.Rows.list c.args.rows.now) block.no_variable c.loop-walk.invariant.no_variable;
    }

pub returns-clause-exact : goal.returns-clause-exact
returns-clause-exact g c =
    let enough : columns_of (g.R.Rows.list c.args.rows.now) ≤ c.loop-walk.walk * 32 =
    omega (arith, c.columns.ensures, c.div_ceil.ensures, c.max-walk-end.ensures, c.loop-walk-test.false) in
    let some : 0 < c.loop-walk.walk = omega (arith, c.max-walk-end.ensures, c.loop-walk-test.false) in
    let all = refuted c.loop-walk.walk c.args.multipliers.now (g.R.Rows.list c.args.rows.now) c.requires.one_length enough some
    c.loop-walk.invariant.signs c.loop-walk.invariant.negative_constant c.loop-walk.invariant.no_variable in
    (λ is. all, λ refutes. refl)

pub returns-clause-no_integer_point : goal.returns-clause-no_integer_point
returns-clause-no_integer_point g c = λ is. no_integer_point (g.R.Rows.list c.args.rows.now) c.args.multipliers.now ((returns-clause-exact g c).0 is)

pub returns-clause-no_point : goal.returns-clause-no_point
returns-clause-no_point g c = λ is. no_point (g.R.Rows.list c.args.rows.now) c.args.multipliers.now ((returns-clause-exact g c).0 is)
