-- What is written, and then the nodes that are left, is all.
use Rattle.std.proofs.Common.{◌≡◌, ◌++◌, string_bytes, drop}
use Rattle.std.specs.Prelude.{flat_map}
use Rattle.report.specs.Families.{entry_text, family_text}
use Rattle.report.proofs.family.push_family.Given as goal

abbrev pub invariant-loop-entry : goal.invariant-loop-entry
invariant-loop-entry l = string_bytes l.text ++ flat_map (entry_text l.subject) (drop l.entry-index l.family.nodes)
    ≡ string_bytes l.fn.text ++ family_text l.subject l.family
