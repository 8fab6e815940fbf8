use Rattle.std.proofs.Common.{List, ◌++◌, ◌∷◌, [], sym, subst, ap, ◌∙◌}
use Rattle.c_ast.specs.declared.trace.Pair.{Pair}
use Rattle.pool_core.specs.declared.item.Item.TheVariants as item
use Rattle.pool_core.specs.declared.pages.Added.{Added}
use Rattle.pool_core.specs.History.{MayFollow}
use Rattle.pool_core.specs.Plays.{State}
use Rattle.pool_core.specs.Tables.{Logged, with_logged}
use Rattle.pool_core.specs.Beside.{IsKept}
use Rattle.pool_core.proofs.Beside.{added_pair}
use Rattle.pool_core.proofs.Pooling.{unlogged, has_room, kept_with}
use Rattle.pool_core.proofs.pool.Pool.put_pair.Goals as goal

pub push-requires-clause-new : goal.push-requires-clause-new
push-requires-clause-new c =
    unlogged c.self.inside.subject c.self.inside.log c.self.invariant.samples c.self.invariant.legal (item.Pair c.args.worker c.args.index c.args.pair)
    (subst (λ (s : State). MayFollow s.subject s.items (item.Pair c.args.worker c.args.index c.args.pair)) (sym c.self.view_is) c.requires)

pub push-requires-clause-room : goal.push-requires-clause-room
push-requires-clause-room c =
    has_room c.self.inside.subject c.self.inside.log c.self.invariant.samples c.self.invariant.legal (item.Pair c.args.worker c.args.index c.args.pair)
    (subst (λ (s : State). MayFollow s.subject s.items (item.Pair c.args.worker c.args.index c.args.pair)) (sym c.self.view_is) c.requires)

pub invariant_of-self-2 : goal.invariant_of-self-2
invariant_of-self-2 c =
    let own = c.in_ok-pair.ensures in
    let may = subst (λ (s : State). MayFollow s.subject s.items (item.Pair c.args.worker c.args.index c.args.pair)) (sym c.self.view_is) c.requires in
    let log = c.push.ensures.items
    ∙ ap (λ (pair : Pair). with_logged c.self.inside.log (item.Pair c.args.worker c.args.index pair)) own in
    let pairs = c.in_ok-add.ensures.ok
    ∙ ap (λ (pair : Pair). c.self.inside.pairs ++ added_pair c.args.worker c.args.index pair ∷ []) (c.in_ok-again.ensures ∙ own) in
    subst (λ (l : Logged). IsKept c.self.inside.subject l c.add.new.self c.self.inside.lives.fronts.items) (sym log)
    (subst (λ (ps : List Added). IsKept c.self.inside.subject (with_logged c.self.inside.log (item.Pair c.args.worker c.args.index c.args.pair)) ps
    c.self.inside.lives.fronts.items) (sym pairs)
    (kept_with c.self.inside.subject c.self.inside.log c.self.inside.pairs c.self.inside.lives.fronts.items c.self.invariant
    c.args.worker c.args.index c.args.pair may))
