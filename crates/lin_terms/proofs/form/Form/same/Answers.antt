use Rattle.std.proofs.Common.{arith}
use Rattle.std.proofs.lemmas.Bool.Decides.{Decides-int_eq}
use Rattle.std.proofs.lemmas.Int.{ints}
use Rattle.std.proofs.lemmas.Slice.Eq.{slice_eq-Decides}
use Rattle.lin_terms.proofs.FormLemmas.{same_parts}
use Rattle.lin_terms.proofs.form.Form.same.Goals as goal

pub returns-then-self-other : goal.returns-then-self-other
returns-then-self-other c =
    same_parts _ c.args.self.now c.args.other.now c.as_slice.result.now c.as_slice-then-self-other.result.now
    (slice_eq-Decides Decides-int_eq _ _ _ c.eq.ensures) c.as_slice.ensures c.as_slice-then-self-other.ensures (omega (arith, ints, c.if-self-other.true))
