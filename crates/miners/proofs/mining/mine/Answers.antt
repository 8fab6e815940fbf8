use Rattle.std.proofs.Common.{◌≡◌, ◌<◌, ◌≤◌, ◌∙◌, length, ap, subst, sym, arith}
use Rattle.c_ast.specs.declared.trace.Pair.{Pair}
use Rattle.horn_clauses.specs.declared.family.Family.{Family}
use Rattle.walks.specs.Laws.{IsNarrowPair}
use Rattle.miners.specs.Candidates.{AreMinedFrom}
use Rattle.miners.specs.Gathered.{with_pair, family_of, mined_family}
use Rattle.miners.proofs.Families.{gathered_is_mined}
use Rattle.miners.proofs.Gathering.{fold_next, fold_past}
use Rattle.miners.proofs.mining.mine.Goals as goal

pub add-requires : goal.add-requires
add-requires c =
    let below : c.loop-pair.pair-index < length c.args.pairs.now = omega (arith, c.loop-pair-test.true) in
    subst (λ (pair : Pair). IsNarrowPair pair) (sym c.pair-item.is) (c.requires c.loop-pair.pair-index c.pair-item.result below)

pub loop-pair-preserved : goal.loop-pair-preserved
loop-pair-preserved c =
    let below : c.loop-pair.pair-index < length c.args.pairs.now = omega (arith, c.loop-pair-test.true) in
    fold_next with_pair c.args.pairs.now c.loop-pair.pair-index c.pair-item.result c.loop-pair.mining _ _ below c.pair-item.is
    c.in_ok-add.ensures.ok c.loop-pair.invariant

pub returns-clause-exact : goal.returns-clause-exact
returns-clause-exact c =
    let past : length c.args.pairs.now ≤ c.loop-pair.pair-index = omega (arith, c.loop-pair-test.false) in
    c.in_ok-made.ensures ∙ ap family_of (fold_past with_pair c.args.pairs.now c.loop-pair.pair-index _ _ past c.loop-pair.invariant)

pub returns-clause-mined : goal.returns-clause-mined
returns-clause-mined c =
    let past : length c.args.pairs.now ≤ c.loop-pair.pair-index = omega (arith, c.loop-pair-test.false) in
    let exact : c.in_ok-made.made ≡ mined_family c.args.subject.now c.args.alignment c.args.pairs.now =
    c.in_ok-made.ensures ∙ ap family_of (fold_past with_pair c.args.pairs.now c.loop-pair.pair-index _ _ past c.loop-pair.invariant) in
    subst (λ (family : Family). AreMinedFrom c.args.subject.now c.args.alignment c.args.pairs.now family) (sym exact)
    (gathered_is_mined c.args.subject.now c.args.alignment c.args.pairs.now)
