use Rattle.std.proofs.Common.{Err, sym, subst}
use Rattle.c_ast.specs.Comparison.{Comparison}
use Rattle.pool_core.specs.Plays.{State, Snapshot, snapshot_of, Mine, Try, Answers}
use Rattle.workers.specs.Alone.{IsTriedTo}
use Rattle.workers.proofs.Refusing.{mined_is_answered, tried_is_answered}
use Rattle.workers.proofs.Stepping.{candidates_added, reason_added}
use Rattle.workers.proofs.alone.add_reason.Goals as goal

pub for_memory-requires : goal.for_memory-requires
for_memory-requires c =
    mined_is_answered c.args.pool.now c.args.alignment c.args.candidates c.in-Err.why
    (subst (λ (s : Comparison). IsTriedTo s c.args.pool.now.items c.args.alignment) (sym c.requires.own) c.requires.tried)
    (subst (λ (s : Snapshot). Answers c.args.pool.now (Mine 0 s c.args.alignment c.args.candidates) (Err c.in-Err.why)) c.requires.snapshot
    c.in-Err.ensures.answers)

pub for_memory-requires-in-Err-tried : goal.for_memory-requires-in-Err-tried
for_memory-requires-in-Err-tried c =
    let pool = c.args.pool.now in
    tried_is_answered pool c.args.alignment c.args.candidates c.args.why c.in-Err-tried.why
    (subst (λ (s : Comparison). IsTriedTo s pool.items c.args.alignment) (sym c.requires.own) c.requires.tried)
    (subst (λ (s : State). Answers s (Try 0 (snapshot_of pool) c.args.alignment c.args.why) (Err c.in-Err-tried.why))
    (candidates_added c.args.subject.now pool c.mined.new.self c.mined.new.self c.requires.own c.args.alignment c.args.candidates c.args.snapshot.now
    c.requires.snapshot c.in_default.ensures.changes)
    (subst (λ (s : Snapshot). Answers c.mined.new.self (Try 0 s c.args.alignment c.args.why) (Err c.in-Err-tried.why)) c.requires.snapshot
    c.in-Err-tried.ensures.answers))

pub returns-clause-tried : goal.returns-clause-tried
returns-clause-tried c =
    reason_added c.args.subject.now c.args.pool.now c.mined.new.self c.tried.new.self c.requires.own c.args.alignment c.args.candidates
    c.args.snapshot.now c.args.why c.requires.tried c.requires.snapshot c.in_default.ensures.changes c.in_default-tried.ensures.changes
    c.history.ensures.legal
