use Rattle.std.proofs.Common.{rules, arith, ◌∙◌, sym, map, List, ℕ}
use Rattle.pool_core.specs.declared.pages.Added.{Added}
use Rattle.pool_core.proofs.Comparing.{front_at, one_more, index_at, index_long}
use Rattle.pool_core.proofs.pages.Pages.are_first_of.Goals as goal

-- The indexes of the pairs.
abbrev indexes_in : List Added → List ℕ
indexes_in added = map (λ (each : Added). each.index) added

pub returns-then-get : goal.returns-then-get
returns-then-get c =
    let inside = c.loop-at-test.true in
    let number = c.len-at-end.ensures.number in
    let shorter = c.loop-at.invariant.shorter in
    let own = index_at c.args.self.now c.loop-at.at c.get.result.now 0 (omega (arith, inside, number)) c.get.ensures in
    let other = index_at c.args.others.now c.loop-at.at c.get-in-loop-at.result.now 0 (omega (arith, inside, number, shorter)) c.get-in-loop-at.ensures in (
      λ never. absurd (search rules),
      λ same. absurd (c.if-get.true (sym own
          ∙ front_at (indexes_in c.args.self.now) (indexes_in c.args.others.now) c.loop-at.at 0
          (omega (arith, inside, number, index_long c.args.self.now)) same ∙ other)),
    )

pub loop-at-preserved : goal.loop-at-preserved
loop-at-preserved c =
    let inside = c.loop-at-test.true in
    let number = c.len-at-end.ensures.number in
    let shorter = c.loop-at.invariant.shorter in
    let own = index_at c.args.self.now c.loop-at.at c.get.result.now 0 (omega (arith, inside, number)) c.get.ensures in
    let other = index_at c.args.others.now c.loop-at.at c.get-in-loop-at.result.now 0 (omega (arith, inside, number, shorter)) c.get-in-loop-at.ensures in
    record {
      shorter = shorter;
      same = one_more (indexes_in c.args.self.now) (indexes_in c.args.others.now) c.loop-at.at 0
          (omega (arith, inside, number, index_long c.args.self.now)) (omega (arith, inside, number, shorter, index_long c.args.others.now))
          c.loop-at.invariant.same (own ∙ c.if-get.false ∙ sym other);
    }
