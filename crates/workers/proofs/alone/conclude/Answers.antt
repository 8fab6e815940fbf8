use Rattle.std.proofs.Common.{rules, ◌≡◌, ◌∷◌, [], length, sym, subst}
use Rattle.c_ast.specs.Comparison.{Comparison}
use Rattle.workers.specs.Alone.{IsFinished}
use Rattle.workers.specs.Solved.{IsSolvedAlone}
use Rattle.workers.proofs.Concluding.{conclusion_is_answered, solved_alone}
use Rattle.workers.proofs.alone.conclude.Goals as goal

pub unconcluded-requires : goal.unconcluded-requires
unconcluded-requires c =
    conclusion_is_answered c.args.pool c.in-Err.why
    (subst (λ (s : Comparison). IsFinished s c.args.pool.items) (sym c.requires.own) c.requires.finished) c.in-Err.ensures

pub returns : goal.returns
returns c =
    let history : c.from_vec-history.result ≡ c.args.pool.items = search rules in
    let shares : c.push.new.self ≡ length c.args.pool.items ∷ [] = search rules in
    let solved = solved_alone c.args.pool c.in-Ok.verdict
    (subst (λ (s : Comparison). IsFinished s c.args.pool.items) (sym c.requires.own) c.requires.finished) c.in-Ok.ensures in
    rw (history, shares) (subst (λ (s : Comparison). IsSolvedAlone s (record {
      verdict = c.in-Ok.verdict;
      history = c.args.pool.items;
      shares = length c.args.pool.items ∷ [];
    })) c.requires.own solved)
