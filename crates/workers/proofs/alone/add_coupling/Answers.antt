use Rattle.std.proofs.Common.{Err, List, ℕ, ◌∙◌, ap, sym, subst}
use Rattle.c_ast.specs.Comparison.{Comparison}
use Rattle.miners.specs.Candidates.{AreMinedFrom}
use Rattle.pool_core.specs.declared.verdict.Verdict.TheVariants.{Equivalent}
use Rattle.pool_core.specs.History.{pairs_of, indexes_of}
use Rattle.pool_core.specs.Plays.{State, Snapshot, Mine, Post, Answers}
use Rattle.workers.specs.Alone.{IsTriedTo}
use Rattle.workers.specs.Found.{IsGreatestCoupling}
use Rattle.workers.proofs.Refusing.{mined_is_answered, coupling_is_answered}
use Rattle.workers.proofs.Stepping.{candidates_added, coupling_posted}
use Rattle.workers.proofs.alone.add_coupling.Goals as goal

pub for_memory-requires : goal.for_memory-requires
for_memory-requires c =
    mined_is_answered c.args.pool.now c.args.alignment c.args.candidates c.in-Err.why
    (subst (λ (s : Comparison). IsTriedTo s c.args.pool.now.items c.args.alignment) (sym c.requires.own) c.requires.tried)
    (subst (λ (s : Snapshot). Answers c.args.pool.now (Mine 0 s c.args.alignment c.args.candidates) (Err c.in-Err.why)) c.requires.snapshot
    c.in-Err.ensures.answers)

pub for_memory-requires-in-Err-post : goal.for_memory-requires-in-Err-post
for_memory-requires-in-Err-post c =
    let pool = c.args.pool.now in
    let indexes = c.in_ok-indexes.ensures ∙ ap (λ (s : Snapshot). s.indexes) c.requires.snapshot in
    coupling_is_answered pool c.args.alignment c.args.candidates c.args.coupled c.in-Err-post.why
    (subst (λ (s : Comparison). IsTriedTo s pool.items c.args.alignment) (sym c.requires.own) c.requires.tried)
    (subst (λ (s : Comparison). AreMinedFrom s c.args.alignment (pairs_of pool.items) c.args.candidates) (sym c.requires.own) c.requires.mined)
    (subst (λ (s : Comparison). IsGreatestCoupling s c.args.alignment (pairs_of pool.items) c.args.coupled) (sym c.requires.own) c.requires.greatest)
    (subst (λ (s : State). Answers s (Post 0 (Equivalent c.args.coupled (indexes_of pool.items))) (Err c.in-Err-post.why))
    (candidates_added c.args.subject.now pool c.mined.new.self c.mined.new.self c.requires.own c.args.alignment c.args.candidates c.args.snapshot.now
    c.requires.snapshot c.in_default.ensures.changes)
    (subst (λ (some : List ℕ). Answers c.mined.new.self (Post 0 (Equivalent c.args.coupled some)) (Err c.in-Err-post.why)) indexes
    c.in-Err-post.ensures.answers))

pub returns-clause-first : goal.returns-clause-first
returns-clause-first c =
    coupling_posted c.args.subject.now c.args.pool.now c.mined.new.self c.post.new.self c.requires.own c.args.alignment c.args.candidates
    c.args.snapshot.now c.args.coupled c.in_ok-indexes.indexes c.requires.tried c.requires.greatest c.requires.snapshot c.in_ok-indexes.ensures
    c.in_default.ensures.changes c.in_default-post.ensures.changes c.history.ensures.legal
