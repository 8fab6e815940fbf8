use Rattle.std.proofs.Common.{◌≡◌, ◌++◌, map, drop}
use Rattle.path_product.specs.declared.starts.Start.{Start}
use Rattle.path_product.proofs.visits.all_places.Given as goal

abbrev pub invariant-loop-start : goal.invariant-loop-start
invariant-loop-start l = l.places.items ++ map (λ (start : Start). start.place) (drop l.start-index l.starts)
    ≡ map (λ (start : Start). start.place) l.starts
