use Rattle.c_tokens.proofs.OneAnswer.{only-tokens, only-fault}
use Rattle.c_tokens.proofs.scan.tokens.Goals as goal

pub returns-clause-only_tokens : goal.returns-clause-only_tokens
returns-clause-only_tokens c =
    only-tokens (λ v. v.items) c.args.text.now c.scanned.result c.scanned.ensures.tokens c.scanned.ensures.fault

pub returns-clause-only_fault : goal.returns-clause-only_fault
returns-clause-only_fault c =
    only-fault (λ v. v.items) c.args.text.now c.scanned.result c.scanned.ensures.tokens c.scanned.ensures.fault
