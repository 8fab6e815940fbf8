use Rattle.std.proofs.Common.{rules}
use Rattle.std.specs.Option.{option_copied}
use Rattle.relation.specs.Coupled.{IsProductOf}
use Rattle.relation.proofs.Keeping.{can_ask, couples_some}
use Rattle.relation.proofs.coupled.Coupled.new.Goals as goal

pub product_under-requires : goal.product_under-requires
product_under-requires c =
    can_ask c.args.subject.now c.in_ok-first.first c.first.result.now (option_copied c.condition.result) c.condition.ensures.formed
    c.first.ensures.function c.in_ok-first.ensures c.condition.ensures.condition

pub returns : goal.returns
returns c =
    let is_product : IsProductOf c.args.subject.now c.args.alignment c.in_ok-first.first c.in_ok-second.second c.in-Ok.product = search rules in
    couples_some c.args.subject.now c.args.alignment c.in_ok-first.first c.in_ok-second.second c.in-Ok.product c.args.family c.args.proofs c.over.result
    is_product c.over.ensures
