use Rattle.std.proofs.Common.{◌∙◌, ap, length, map}
use Rattle.std.proofs.lemmas.List.{with_items_is, length-map}
use Rattle.miners.specs.Kept.{lowered}
use Rattle.miners.proofs.kept.lower_kept.Goals as goal

pub returns : goal.returns
returns c =
    let size = ap length c.lower_all.ensures ∙ length-map c.as_mut_slice.result.now (lowered c.args.point.now) ∙ c.as_mut_slice.ensures.len in
    with_items_is c.args.bounds.now c.lower_all.new.bounds size ∙ c.lower_all.ensures
    ∙ ap (map (lowered c.args.point.now)) c.as_mut_slice.ensures.value
