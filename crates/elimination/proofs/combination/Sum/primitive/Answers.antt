use Rattle.std.proofs.Common.{◌≤◌, rules}
use Rattle.elimination.proofs.Gcds.{primitive_of_one}
use Rattle.elimination.proofs.combination.Sum.primitive.Goals as goal

pub returns-then-divisor-le1 : goal.returns-then-divisor-le1
returns-then-divisor-le1 c =
    let small : c.divisor-divisor.result ≤ 1 = search rules in
    primitive_of_one c.args.self c.divisor-divisor.result c.divisor-divisor.ensures.divisor small
