use Rattle.std.proofs.Common.{map, ap, sym, ◌∙◌, rules, arith}
use Rattle.std.proofs.lemmas.Fn.{filter_same}
use Rattle.miners.specs.Sparse.{coefs_of, is_done}
use Rattle.miners.proofs.Enumerated.{first_shapes, all_done}
use Rattle.miners.proofs.listing.listed.Goals as goal

pub loop-index-init : goal.loop-index-init
loop-index-init c = λ k e.
    first_shapes c.args.kind c.args.count k c.empty.result _ _ c.empty.ensures c.new-shapes.ensures.items c.in_ok-push.ensures.items e

pub returns : goal.returns
returns c =
    ap (map (coefs_of c.args.count)) (filter_same _ (is_done c.args.kind) _ (λ x b f' k. search rules) _ _ c.retain.ensures.filtered)
    ∙ sym (all_done c.args.kind c.args.count c.loop-index.index c.loop-index.shapes.items) ∙ c.loop-index.invariant 0 (omega arith)
