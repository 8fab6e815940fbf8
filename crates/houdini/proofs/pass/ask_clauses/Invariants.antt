use Rattle.std.proofs.Common.{◌≤◌, take}
use Rattle.std.specs.List.{flat_map}
use Rattle.horn_clauses.specs.Obligations.{obligations_for}
use Rattle.houdini.specs.Pass.{Adds}
use Rattle.houdini.proofs.pass.ask_clauses.Given as goal

abbrev pub invariant-loop-number : goal.invariant-loop-number
invariant-loop-number g l = record {
  adds : Adds l.family (flat_map (obligations_for l.family) (take l.number l.clauses)) l.initial.lists l.lists;
  later : g.W.Watch.stops l.initial.watch ≤ g.W.Watch.stops l.watch;
}
