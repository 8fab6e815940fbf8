use Rattle.std.proofs.Common.{◌≤◌, take}
use Rattle.std.specs.List.{flat_map}
use Rattle.horn_clauses.specs.Obligations.{obligations_at}
use Rattle.houdini.specs.Pass.{Adds}
use Rattle.houdini.proofs.pass.ask_atoms.Given as goal

abbrev pub invariant-loop-i : goal.invariant-loop-i
invariant-loop-i g l = record {
  adds : Adds l.family (flat_map (obligations_at l.clause) (take l.i l.atoms)) l.initial.lists l.lists;
  later : g.W.Watch.stops l.initial.watch ≤ g.W.Watch.stops l.watch;
}
