use Rattle.std.proofs.Common.{◌≡◌, drop}
use Rattle.path_product.specs.Starts.{starts_among}
use Rattle.path_product.proofs.StartsMade.{behind_starts}
use Rattle.path_product.proofs.starts.starts_among.Given as goal

-- The starts so far, and then those of the places to come, are all.
abbrev pub invariant-loop-place : goal.invariant-loop-place
invariant-loop-place l = starts_among l.graph l.places ≡ behind_starts l.starts (starts_among l.graph (drop l.place-index l.places))
