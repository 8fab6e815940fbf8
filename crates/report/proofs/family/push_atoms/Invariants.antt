-- What is written, and then the atoms that are left, is all.
use Rattle.std.proofs.Common.{◌≡◌, ◌++◌, map, string_bytes, drop}
use Rattle.std.specs.Prelude.{flat_map}
use Rattle.report.specs.Families.{atom_text}
use Rattle.report.proofs.family.push_atoms.Given as goal

abbrev pub invariant-loop-atom : goal.invariant-loop-atom
invariant-loop-atom l = string_bytes l.text ++ flat_map (atom_text (map string_bytes l.labels)) (drop l.atom-index l.atoms)
    ≡ string_bytes l.fn.text ++ flat_map (atom_text (map string_bytes l.labels)) l.atoms
