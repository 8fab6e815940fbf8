use Rattle.std.proofs.Common.{rules, arith, List, sym, subst}
use Rattle.std.specs.Prelude.{All}
use Rattle.horn_clauses.specs.declared.atom.Atom.{Atom}
use Rattle.horn_clauses.specs.declared.node.Node.{Node}
use Rattle.relation.specs.Coupled.{IsSmallAtom}
use Rattle.relation.proofs.family.has_small_atoms.Goals as goal

-- The entry's atoms are small.
abbrev IsSmallEntry : Node × List Atom → Type 0
IsSmallEntry entry = All IsSmallAtom entry.1

pub returns-then-not-are_small_atoms : goal.returns-then-not-are_small_atoms
returns-then-not-are_small_atoms c = (
  λ never. absurd (search rules),
  λ small.
      let listed : List (Node × List Atom) = c.as_slice-entry-items.result.now in
      let all : All IsSmallEntry listed = subst (λ (entries : List (Node × List Atom)). All IsSmallEntry entries) (sym c.as_slice-entry-items.ensures) small in
      let here : IsSmallEntry c.entry-item.result =
      subst IsSmallEntry (sym c.entry-item.is) (all c.loop-entry.entry-index c.entry-item.result (omega (arith, c.loop-entry-test.true))) in
      let told = c.are_small_atoms.ensures.1 (subst (λ (atoms : List Atom). All IsSmallAtom atoms) (sym c.as_slice.ensures) here) in
      absurd (search rules),
)
