-- The statements of the public laws, for the proofs of other crates.
use Rattle.c_tokens.specs.Fixed.{HasOneKind}
use Rattle.c_tokens.specs.Tokens.{HasOneAnswer}
use Rattle.c_tokens.proofs.OneAnswer.{Follow-one}
use Rattle.c_tokens.proofs.FixedKinds.{words-kind}

-- `one_answer`: a text has one list of tokens or one first faulty place, and not both.
pub answers-one : HasOneAnswer
answers-one text xs ys one other = Follow-one text 0 xs ys one other

-- `one_kind`: a token of one spelling has one kind.
pub kinds-one : HasOneKind
kinds-one = words-kind
