use Rattle.std.proofs.Common.{rules, arith, ◌∙◌, List, length, get_or, sym, ap}
use Rattle.std.proofs.lemmas.List.{take_more_same}
use Rattle.horn_clauses.specs.declared.atom.Atom.{Atom}
use Rattle.horn_clauses.specs.Equalities.{equal_parameters}
use Rattle.horn_clauses.proofs.Equal.{length-equal_parameters, get_or-equal_parameters, same_front}
use Rattle.horn_clauses.proofs.equalities.are_equal_parameters.Goals as goal

pub returns-then-atoms-count : goal.returns-then-atoms-count
returns-then-atoms-count c = (
  λ never. absurd (search rules),
  λ same. absurd (omega (arith, ap (λ (atoms : List Atom). length atoms) same, length-equal_parameters c.args.count, c.if-atoms-count.true)),
)

pub returns-then-not-is_equality_at : goal.returns-then-not-is_equality_at
returns-then-not-is_equality_at c =
    let below = c.loop-i-test.true in
    let long = c.loop-i.invariant.long in (
      λ never. absurd (search rules),
      λ same.
          let here = c.is_equality_at.ensures.1 (c.index-atoms-i.is ∙ ap (λ (atoms : List Atom). get_or atoms c.loop-i.i c.index-atoms-i.result) same
          ∙ get_or-equal_parameters c.args.count c.loop-i.i c.index-atoms-i.result (omega (arith, below, long))) in
          absurd (search rules),
    )

pub loop-i-preserved : goal.loop-i-preserved
loop-i-preserved c =
    let below = c.loop-i-test.true in
    let long = c.loop-i.invariant.long in
    record {
      long = long;
      same = take_more_same c.args.atoms.now (equal_parameters c.args.count) c.loop-i.i c.index-atoms-i.result (omega (arith, below))
          (omega (arith, below, long, length-equal_parameters c.args.count)) c.loop-i.invariant.same
          (sym c.index-atoms-i.is ∙ c.is_equality_at.ensures.0 c.if-not-is_equality_at.false
          ∙ sym (get_or-equal_parameters c.args.count c.loop-i.i c.index-atoms-i.result (omega (arith, below, long))));
    }

pub returns : goal.returns
returns c = (
  λ is. same_front c.args.atoms.now (equal_parameters c.args.count) c.loop-i.i
      (c.loop-i.invariant.long ∙ sym (length-equal_parameters c.args.count)) (omega (arith, c.loop-i-test.false)) c.loop-i.invariant.same,
  λ same. search rules,
)
