use Rattle.std.proofs.Common.{◌≡◌, ℕ, false, None, rules, sym, subst, ◌∙◌}
use Rattle.std.specs.Prelude.{position}
use Rattle.pool_core.specs.declared.item.Item.TheVariants as item
use Rattle.pool_core.specs.History.{has_mined, has_later_pair, MayFollow}
use Rattle.pool_core.proofs.Playing.{mined_may_follow}
use Rattle.pool_core.proofs.pool.Pool.mined.Goals as goal

pub put-requires-clause-follows : goal.put-requires-clause-follows
put-requires-clause-follows c =
    let later = subst (λ (m : ℕ). has_later_pair c.args.worker m c.args.self.now.items ≡ false) c.len-prefix.ensures
    (sym c.has_later_pair.ensures ∙ c.if-has_later_pair.false) in
    let new = subst (λ (m : ℕ). position (has_mined m c.args.alignment) c.args.self.now.items ≡ None) c.len-prefix.ensures
    (sym c.mined_at.ensures ∙ c.in_default.is) in
    subst (λ (m : ℕ). MayFollow c.args.self.now.subject c.args.self.now.items (item.Mined c.args.worker m c.args.alignment c.args.candidates))
    (sym c.len-prefix.ensures)
    (mined_may_follow c.args.self.now c.if-not-is_open.ensures.legal c.args.worker c.args.snapshot.now c.args.alignment c.args.candidates
    c.if-not-has_first.ensures.snapshot c.requires (
      (c.if-not-is_open.ensures.undecided.0 (search rules), sym c.subject.ensures.subject ∙ c.if-not-is_own.ensures.0 (search rules)),
      (c.if-not-has_first.ensures.first.0 (search rules), later),
      tt,
      tt,
    ) new)
