use Rattle.std.proofs.Common.{ℕ, rules, ◌≡◌, ◌+◌, ◌<◌, arith, ◌++◌, ◌∷◌, [], List, Option, Some, length, refl, sym, subst, ap, ◌∙◌}
use Rattle.std.proofs.Math.ListN.{set}
use Rattle.std.proofs.lemmas.List.{length_push}
use Rattle.pool_core.specs.Tables.{Logged, slot_of, most_items, IsUnlogged}
use Rattle.pool_core.proofs.Tables.{tables_as, tables_of_tried}
use Rattle.pool_core.proofs.log.Log.push_tried.Goals as goal

pub invariant_of-self : goal.invariant_of-self
invariant_of-self c =
    let before = c.self.inside in
    let next = c.args.item in
    let log : Logged = record { samples = before.samples; items = before.items.items } in
    let pushed : c.push.new.self.items ≡ log.items ++ next ∷ [] = search rules in
    let place : c.len-place.result ≡ length log.items = search rules in
    let made : List (Option ℕ) = set before.at_tried (slot_of c.args.prefix c.args.alignment) (Some (length log.items)) in
    let slots : c.set.new.self ≡ made = cc in
    let new = subst (λ (l : Logged). IsUnlogged l next) (sym c.self.view_is) c.requires.new in
    let room = subst (λ (l : Logged). length l.items < most_items l.samples) (sym c.self.view_is) c.requires.room in
    let longer : length c.push.new.self.items ≡ length log.items + 1 = ap length pushed ∙ length_push log.items next in
    let tables = tables_of_tried before.at_samples before.at_mined before.at_tried log next c.args.prefix c.args.alignment
    c.requires.of_tried c.slot_of.ensures.named
    c.self.invariant.3 new in
    let as_made = tables_as before.at_samples before.at_samples before.at_mined before.at_mined c.set.new.self made log next
    c.push.new.self.items refl refl slots pushed tables in (
      c.self.invariant.0,
      omega arith,
      omega (arith, c.self.invariant.2),
      as_made,
    )
