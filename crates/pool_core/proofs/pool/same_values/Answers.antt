use Rattle.std.proofs.lemmas.Bool.Decides.{Decides-int_eq}
use Rattle.std.proofs.lemmas.Slice.Eq.{slice_eq-Decides}
use Rattle.pool_core.proofs.pool.same_values.Goals as goal

pub returns : goal.returns
returns c = let tested = slice_eq-Decides Decides-int_eq _ _ _ c.eq.ensures in (λ t. tested.0 t, λ e. tested.1 e)
