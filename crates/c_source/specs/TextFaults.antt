-- What a refusal of one part says of a text.
use Rattle.std.specs.Prelude.{◌≢◌}
use Rattle.c_tokens.specs.declared.fault.TokenFault.{TokenFault}
use Rattle.c_tokens.specs.declared.fault.TokenFault.TheVariants as tokens
use Rattle.c_reader.specs.declared.fault.ReadFault.{ReadFault}
use Rattle.c_reader.specs.declared.fault.ReadFault.TheVariants as read
use Rattle.c_check.specs.declared.fault.CheckFault.{CheckFault}
use Rattle.c_check.specs.declared.fault.CheckFault.TheVariants as check
use Rattle.c_source.specs.declared.fault.TextFault.{TextFault}
use Rattle.c_source.specs.declared.fault.TextFault.TheVariants.{Token, Reader, Check, Memory}

-- What a fault of the tokens says: the text's first faulty place, or want of memory.
abbrev pub of_tokens : TokenFault → TextFault
of_tokens tokens.Memory = Memory
of_tokens fault = Token fault

-- What a fault of the reader says: what is wrong with the tokens, or want of memory.
abbrev pub of_reader : ReadFault → TextFault
of_reader read.Memory = Memory
of_reader fault = Reader fault

-- What a fault of the checker says: the rule that is broken, or want of memory.
abbrev pub of_check : CheckFault → TextFault
of_check check.Memory = Memory
of_check fault = Check fault

-- The fault, and what it holds, is not want of memory.
abbrev pub IsNoWant : TextFault → Type 0
IsNoWant (Token fault) = fault ≢ tokens.Memory
IsNoWant (Reader fault) = fault ≢ read.Memory
IsNoWant (Check fault) = fault ≢ check.Memory
IsNoWant Memory = ⊥
