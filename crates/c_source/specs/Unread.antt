-- Why the tokens of a text are refused.
use Rattle.std.specs.Prelude.{ℕ, List}
use Rattle.c_tokens.specs.declared.token.Token.{Token}
use Rattle.c_tokens.specs.Tokens.{AreTokens}
use Rattle.c_reader.specs.declared.fault.ReadFault.{ReadFault}
use Rattle.c_reader.specs.declared.fault.ReadFault.TheVariants as read
use Rattle.c_reader.specs.Depth.{IsDeep}

-- The fault of the tokens: too many open brackets, or else no tree, which `HasNone` says of them.
abbrev pub IsReadFault : (List Token → Type 0) → List Token → ReadFault → Type 0
IsReadFault HasNone tokens read.Deep = IsDeep tokens
IsReadFault HasNone tokens read.Grammar = (¬ IsDeep tokens) × HasNone tokens
IsReadFault HasNone tokens read.Memory = ⊥

-- The tokens of the text are refused for this reason.
pub record IsUnread (HasNone : List Token → Type 0) (text : List ℕ) (fault : ReadFault) : Type 0 where
  pub tokens : List Token
  pub are : AreTokens text tokens
  pub reason : IsReadFault HasNone tokens fault
