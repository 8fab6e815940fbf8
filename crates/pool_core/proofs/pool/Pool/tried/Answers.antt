use Rattle.std.proofs.Common.{◌≡◌, ℕ, true, None, Some, rules, refl, sym, subst, ap, ◌∙◌}
use Rattle.std.specs.Prelude.{position}
use Rattle.std.specs.List.{list_any}
use Rattle.pool_core.specs.declared.item.Item.TheVariants as item
use Rattle.pool_core.specs.History.{has_mined, has_tried, MayFollow}
use Rattle.pool_core.specs.Plays.{with_item}
use Rattle.pool_core.proofs.Playing.{tried_may_follow}
use Rattle.pool_core.proofs.pool.Pool.tried.Goals as goal

pub put-requires-clause-follows : goal.put-requires-clause-follows
put-requires-clause-follows c =
    subst (λ (m : ℕ). MayFollow c.args.self.now.subject c.args.self.now.items (item.Tried c.args.worker m c.args.alignment c.args.why))
    (sym c.len-prefix.ensures)
    (tried_may_follow c.args.self.now c.if-not-is_open.ensures.legal c.args.worker c.args.snapshot.now c.args.alignment c.args.why
    c.if-not-has_first.ensures.snapshot c.requires (
      (c.if-not-is_open.ensures.undecided.0 (search rules), sym c.subject.ensures.subject ∙ c.if-not-is_own.ensures.0 (search rules)),
      c.if-not-has_first.ensures.first.0 (search rules),
      tt,
      subst (λ (m : ℕ). list_any (has_mined m c.args.alignment) c.args.self.now.items ≡ true) c.len-prefix.ensures
          (sym c.has_mined.ensures ∙ c.if-not-has_mined.false),
    )
    (subst (λ (m : ℕ). position (has_tried m c.args.alignment) c.args.self.now.items ≡ None) c.len-prefix.ensures
    (sym c.tried_at.ensures ∙ c.in_default.is)))

pub returns-in-Some : goal.returns-in-Some
returns-in-Some c = record {
  answers = (
    (
      (c.if-not-is_open.ensures.undecided.0 (search rules), sym c.subject.ensures.subject ∙ c.if-not-is_own.ensures.0 (search rules)),
      c.if-not-has_first.ensures.first.0 (search rules),
      tt,
      subst (λ (m : ℕ). list_any (has_mined m c.args.alignment) c.args.self.now.items ≡ true) c.len-prefix.ensures
          (sym c.has_mined.ensures ∙ c.if-not-has_mined.false),
    ),
    subst (λ (m : ℕ). position (has_tried m c.args.alignment) c.args.self.now.items ≡ Some c.in-Some.place) c.len-prefix.ensures
        (sym c.tried_at.ensures ∙ c.in-Some.is),
  );
  changes = refl;
}

pub returns : goal.returns
returns c = record {
  answers = (
    (
      (c.if-not-is_open.ensures.undecided.0 (search rules), sym c.subject.ensures.subject ∙ c.if-not-is_own.ensures.0 (search rules)),
      c.if-not-has_first.ensures.first.0 (search rules),
      tt,
      subst (λ (m : ℕ). list_any (has_mined m c.args.alignment) c.args.self.now.items ≡ true) c.len-prefix.ensures
          (sym c.has_mined.ensures ∙ c.if-not-has_mined.false),
    ),
    subst (λ (m : ℕ). position (has_tried m c.args.alignment) c.args.self.now.items ≡ None) c.len-prefix.ensures
        (sym c.tried_at.ensures ∙ c.in_default.is),
    c.put.ensures.place,
  );
  changes = c.put.ensures.items
      ∙ ap (λ (m : ℕ). with_item c.args.self.now (item.Tried c.args.worker m c.args.alignment c.args.why)) c.len-prefix.ensures;
}
