use Rattle.std.proofs.Common.{string_bytes}
use Rattle.std.specs.Prelude.{codes}
use Rattle.std.proofs.lemmas.Result.{IfOk-equal}
use Rattle.c_ast.specs.declared.place.Side.TheVariants.{A, B, Pre}
use Rattle.graph_run.specs.declared.skip.Skip.TheVariants.{NotEnded, Wide, Unmet}
use Rattle.pool_core.specs.declared.verdict.SampleWhy.TheVariants.{Equal}
use Rattle.report.specs.Samples.{sample_line, skip_of}
use Rattle.report.proofs.Joined.{seven_behind}
use Rattle.report.proofs.samples.push_sample_lines.Goals as goal

pub returns : goal.returns
returns c =
    let samples = c.args.samples.now in
    IfOk-equal c.push_line-7.result _ _ _ c.push_line-7.ensures
    (rw (
      c.in_ok-push_line-6.ensures,
      c.in_ok-push_line-5.ensures,
      c.in_ok-push_line-4.ensures,
      c.in_ok-push_line-3.ensures,
      c.in_ok-push_line-2.ensures,
      c.in_ok-push_line.ensures,
      c.skip_of.ensures,
      c.skip_of-2.ensures,
      c.skip_of-3.ensures,
      c.skip_of-4.ensures,
      c.skip_of-5.ensures,
      c.skip_of-6.ensures,
    )
    (seven_behind (string_bytes c.args.text.now) (sample_line (codes "equal") Equal samples)
    (sample_line (codes "unmet pre") (skip_of Pre Unmet) samples)
    (sample_line (codes "wide pre") (skip_of Pre Wide) samples)
    (sample_line (codes "not-ended A") (skip_of A NotEnded) samples)
    (sample_line (codes "wide A") (skip_of A Wide) samples)
    (sample_line (codes "not-ended B") (skip_of B NotEnded) samples)
    (sample_line (codes "wide B") (skip_of B Wide) samples)))
