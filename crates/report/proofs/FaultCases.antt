-- Lines of faults, by computing.
use Rattle.std.proofs.Common.{◌≡◌, refl}
use Rattle.std.specs.Prelude.{codes}
use Rattle.std.specs.Fmt.{digits}
use Rattle.c_tokens.specs.declared.fault.TokenFault.TheVariants.{NoToken}
use Rattle.c_check.specs.declared.fault.CheckFault.TheVariants.{Twice, Divisor}
use Rattle.report.specs.declared.fault.Fault.TheVariants.{Token, Check}
use Rattle.report.specs.Faults.{fault_text, arity_text}

line_before_column : fault_text (Token (codes "a.c") (NoToken 3 14)) ≡ codes "llreve: a.c:3:14: no token\n"
unfolding digits
line_before_column = refl

line_before_word : fault_text (Check (codes "a.c") (Twice (codes "x") 6)) ≡ codes "llreve: a.c:6: declared twice x\n"
unfolding digits
line_before_word = refl

line_of_divisor : fault_text (Check (codes "a.c") (Divisor 1)) ≡ codes "llreve: a.c:1: divisor not a nonzero constant\n"
unfolding digits
line_of_divisor = refl

both_arities : arity_text 1 2 ≡ codes "llreve: arity 1 and 2\n"
unfolding digits
both_arities = refl
