use Rattle.std.proofs.Common.{arith}
use Rattle.pool_core.proofs.Paging.{length_paged}
use Rattle.pool_core.proofs.pages.Pages.len.Goals as goal

pub overflow_mul-result : goal.overflow_mul-result
overflow_mul-result c = omega (arith, c.len.ensures, length_paged c.self.inside.full c.self.inside.last c.self.invariant.0)

pub overflow_add-result : goal.overflow_add-result
overflow_add-result c = omega (arith, c.len.ensures, c.len-2.ensures, length_paged c.self.inside.full c.self.inside.last c.self.invariant.0)

pub returns-clause-number : goal.returns-clause-number
returns-clause-number c =
    rw (← c.self.view_is) (omega (arith, c.len.ensures, c.len-2.ensures, length_paged c.self.inside.full c.self.inside.last c.self.invariant.0))

pub returns-clause-few : goal.returns-clause-few
returns-clause-few c = omega (arith, c.len.ensures, c.len-2.ensures, length_paged c.self.inside.full c.self.inside.last c.self.invariant.0)
