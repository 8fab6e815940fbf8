use Rattle.std.proofs.Common.{Err, sym, subst}
use Rattle.c_ast.specs.Comparison.{Comparison}
use Rattle.pool_core.specs.declared.item.Item.TheVariants as item
use Rattle.pool_core.specs.declared.verdict.Verdict.{Verdict}
use Rattle.pool_core.specs.Plays.{State, Append, Post, Answers, with_item}
use Rattle.workers.specs.Alone.{IsSampledTo}
use Rattle.workers.proofs.Refusing.{pair_is_answered, difference_is_answered}
use Rattle.workers.proofs.Stepping.{difference_posted}
use Rattle.workers.proofs.alone.add_difference.Goals as goal

pub for_memory-requires : goal.for_memory-requires
for_memory-requires c =
    pair_is_answered c.args.pool.now c.args.index c.args.pair c.in-Err.why
    (subst (λ (s : Comparison). IsSampledTo s c.args.pool.now.items c.args.index) (sym c.requires.own) c.requires.sampled)
    (subst (λ (s : Comparison). Answers c.args.pool.now (Append 0 s c.args.index c.args.pair) (Err c.in-Err.why)) (sym c.requires.own) c.in-Err.ensures.answers)

pub for_memory-requires-in-Err-post : goal.for_memory-requires-in-Err-post
for_memory-requires-in-Err-post c =
    difference_is_answered c.args.pool.now c.args.index c.args.pair c.in-Err-post.why c.requires.sampled.is.undecided c.requires.differ
    (subst (λ (v : Verdict). Answers (with_item c.args.pool.now (item.Pair 0 c.args.index c.args.pair)) (Post 0 v) (Err c.in-Err-post.why))
    c.in_ok-difference.ensures
    (subst (λ (s : State). Answers s (Post 0 c.in_ok-difference.difference) (Err c.in-Err-post.why)) c.in_default.ensures.changes
    c.in-Err-post.ensures.answers))

pub returns-clause-first : goal.returns-clause-first
returns-clause-first c =
    difference_posted c.args.subject.now c.args.pool.now c.append.new.self c.post.new.self c.requires.own c.args.index c.args.pair
    c.in_ok-difference.difference c.requires.sampled c.in_ok-difference.ensures c.in_default.ensures.changes c.in_default-post.ensures.changes
    c.history.ensures.legal
