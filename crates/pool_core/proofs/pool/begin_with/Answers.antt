use Rattle.std.proofs.Common.{rules, arith, ◌∙◌, sym, map, List, ℕ}
use Rattle.std.proofs.lemmas.List.{length-map}
use Rattle.pool_core.specs.declared.pages.Added.{Added}
use Rattle.pool_core.proofs.Comparing.{front_of, front_at, one_more, index_at}
use Rattle.pool_core.proofs.pool.begin_with.Goals as goal

-- The indexes of the pairs.
abbrev indexes_in : List Added → List ℕ
indexes_in added = map (λ (each : Added). each.index) added

pub loop-k-preserved : goal.loop-k-preserved
loop-k-preserved c =
    let shorter = c.loop-k.invariant.shorter in
    let inside = c.loop-k-test.true in
    let long = length-map c.args.pairs.now (λ (each : Added). each.index) in
    record {
      shorter = shorter;
      same = one_more c.args.indexes.now (indexes_in c.args.pairs.now) c.loop-k.k 0 inside (omega (arith, inside, shorter, long))
          c.loop-k.invariant.same
          (sym c.if-get-index.false ∙ sym (index_at c.args.pairs.now c.loop-k.k c.get.result.now 0 (omega (arith, inside, shorter)) c.get.ensures));
    }

pub returns-then-get-index : goal.returns-then-get-index
returns-then-get-index c =
    let inside = c.loop-k-test.true in (
      λ never. absurd (search rules),
      λ same. absurd (c.if-get-index.true
          (sym (index_at c.args.pairs.now c.loop-k.k c.get.result.now 0 (omega (arith, inside, c.loop-k.invariant.shorter)) c.get.ensures)
          ∙ sym (front_at c.args.indexes.now (indexes_in c.args.pairs.now) c.loop-k.k 0 inside same))),
    )

pub returns : goal.returns
returns c = (
  λ is. front_of c.args.indexes.now (indexes_in c.args.pairs.now) c.loop-k.k c.loop-k-test.false c.loop-k.invariant.same,
  λ same. search rules,
)
