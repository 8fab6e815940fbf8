use Rattle.std.proofs.Common.{◌≡◌, ℕ, List, length, take, rules, sym, subst, ◌∙◌}
use Rattle.horn_clauses.specs.declared.family.Family.{Family}
use Rattle.pool_core.specs.History.{indexes_of}
use Rattle.pool_core.specs.Plays.{IsDrawnFromMined}
use Rattle.pool_core.proofs.Posting.{equivalence_may_follow}
use Rattle.pool_core.proofs.pool.Pool.post_equivalence.Goals as goal

pub put-requires-clause-follows : goal.put-requires-clause-follows
put-requires-clause-follows c =
    let first = subst (λ (indexes : List ℕ). indexes ≡ take (length indexes) (indexes_of c.args.self.now.items)) c.as_slice.ensures
    (c.if-not-begins_with.ensures.first.0 (search rules)) in
    let drawn = subst (λ (m : ℕ). IsDrawnFromMined c.args.self.now m c.args.coupled.alignment c.args.coupled.family) c.len-prefix.ensures
    (subst (λ (k : ℕ). IsDrawnFromMined c.args.self.now c.len-prefix.result k c.args.coupled.family) c.alignment-alignment.ensures
    (subst (λ (family : Family). IsDrawnFromMined c.args.self.now c.len-prefix.result c.alignment-alignment.result family) c.family.ensures.family
    (c.if-not-is_drawn.ensures.0 (search rules)))) in
    equivalence_may_follow c.args.self.now c.if-not-is_open.ensures.legal c.args.worker c.args.coupled c.args.indexes c.family.ensures.coupled (
      (c.if-not-is_open.ensures.undecided.0 (search rules), sym c.subject.ensures ∙ c.if-not-is_own.ensures.0 (search rules)),
      first,
      tt,
      drawn,
    )
