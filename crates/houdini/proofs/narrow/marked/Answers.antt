use Rattle.std.proofs.Common.{sym, subst, ap, ◌∙◌, ◌≡◌, List, Bool, length, false, replicate, arith}
use Rattle.std.specs.List.{AllZip}
use Rattle.std.proofs.lemmas.List.{length-replicate}
use Rattle.horn_clauses.specs.declared.atom.Atom.{Atom}
use Rattle.horn_clauses.specs.Family.{atoms_at}
use Rattle.horn_clauses.specs.Obligations.{atoms_or_none}
use Rattle.houdini.specs.Failures.{IsOpenIfMarked}
use Rattle.houdini.specs.Striking.{IsShown}
use Rattle.houdini.proofs.Failing.{marked_are_open}
use Rattle.houdini.proofs.Marking.{none_marked, written_back}
use Rattle.houdini.proofs.narrow.marked.Goals as goal

pub returns-then-len-ge-MOST_ROWS-clause-marks : goal.returns-then-len-ge-MOST_ROWS-clause-marks
returns-then-len-ge-MOST_ROWS-clause-marks g c =
    let atoms : List Atom = atoms_or_none (atoms_at c.args.family.now c.args.clause.now.to) in
    let none : c.in_ok-marks.marks.items ≡ replicate (length atoms) false =
    c.in_ok-marks.ensures ∙ ap (λ (xs : List Atom). replicate (length xs) false) c.atoms_or_none-atoms.ensures in
    subst (λ (marks : List Bool). AllZip (IsOpenIfMarked c.args.family.now c.args.clause.now) atoms marks) (sym none)
    (none_marked (λ (atom : Atom). ¬ IsShown c.args.family.now c.args.clause.now atom) atoms)

pub returns-clause-marks : goal.returns-clause-marks
returns-clause-marks g c =
    let atoms : List Atom = atoms_or_none (atoms_at c.args.family.now c.args.clause.now.to) in
    let none : c.as_mut_slice.result.now ≡ replicate (length c.atoms_or_none-atoms.result.now) false = c.as_mut_slice.ensures.value ∙ c.in_ok-marks.ensures in
    let before = ap (λ (xs : List Bool). length xs) c.as_mut_slice.ensures.value in
    let as_many = ap (λ (xs : List Bool). length xs) none in
    let whole = written_back c.in_ok-marks.marks.len c.in_ok-marks.marks.items c.mark.new.marks (omega (arith, c.mark.auto.marks, before))
    (omega (arith, c.in_ok-marks.marks.ok.0)) in
    subst (λ (marks : List Bool). AllZip (IsOpenIfMarked c.args.family.now c.args.clause.now) atoms marks) (sym whole)
    (marked_are_open c.args.family.now c.args.clause.now c.requires
    (λ is. let yes = c.is_empty.ensures.1 is in cc (yes, c.if-is_empty.false))
    c.as_slice-rows.result.now c.as_slice-ways.result.now c.atoms_or_none-atoms.result.now c.as_mut_slice.result.now c.mark.new.marks
    (c.as_slice-rows.ensures ∙ c.in_ok-start.ensures.rows) (c.as_slice-ways.ensures.value ∙ c.in_ok-failures.ensures) c.atoms_or_none-atoms.ensures
    none (omega (arith, c.mark.auto.marks, as_many, length-replicate (length c.atoms_or_none-atoms.result.now) false)) c.in_ok-mark.ensures.marks)
