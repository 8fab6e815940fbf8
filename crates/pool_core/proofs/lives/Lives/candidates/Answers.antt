use Rattle.std.proofs.lemmas.List.{length-map}
use Rattle.pool_core.proofs.Beside.{pairs_from, front_at, fronts_set, mined_of_all}
use Rattle.pool_core.proofs.lives.Lives.candidates.Goals as goal

pub returns-in_err-follow-clause-fronts : goal.returns-in_err-follow-clause-fronts
returns-in_err-follow-clause-fronts c = λ subject are.
    fronts_set subject (pairs_from c.args.pages.now) c.args.self.now.fronts.items c.number.result c.index_mut-front.result.now c.follow.new.self
    are c.number.ensures.named c.index_mut-front.ensures.value (c.follow.ensures.front subject c.number.result)

pub returns-in_err-made-clause-fronts : goal.returns-in_err-made-clause-fronts
returns-in_err-made-clause-fronts c = λ subject are.
    fronts_set subject (pairs_from c.args.pages.now) c.args.self.now.fronts.items c.number.result c.index_mut-front.result.now c.follow.new.self
    are c.number.ensures.named c.index_mut-front.ensures.value (c.follow.ensures.front subject c.number.result)

pub returns-clause-candidates : goal.returns-clause-candidates
returns-clause-candidates c = λ subject are node.
    let had = front_at subject (pairs_from c.args.pages.now) c.args.self.now.fronts.items c.number.result c.index_mut-front.result.now are
    c.number.ensures.named c.index_mut-front.ensures.value in
    rw (c.in_ok-made.ensures, ← c.number.ensures.number) (mined_of_all subject (pairs_from c.args.pages.now) c.number.result c.follow.new.self
    (c.follow.ensures.front subject c.number.result had) (simp length-map c.in_ok-follow.ensures.all) node)

pub returns-clause-fronts : goal.returns-clause-fronts
returns-clause-fronts c = λ subject are.
    fronts_set subject (pairs_from c.args.pages.now) c.args.self.now.fronts.items c.number.result c.index_mut-front.result.now c.follow.new.self
    are c.number.ensures.named c.index_mut-front.ensures.value (c.follow.ensures.front subject c.number.result)
