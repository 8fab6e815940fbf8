use Rattle.std.proofs.Common.{◌≡◌, take}
use Rattle.lin_terms.specs.Sign.{factor_of}
use Rattle.horn_clauses.proofs.Negated.{multiples}
use Rattle.horn_clauses.proofs.obligation.negated_coefs.Given as goal

abbrev pub invariant-loop-j : goal.invariant-loop-j
invariant-loop-j l = l.made.items ≡ take l.j (multiples l.columns (factor_of l.side) l.coefs l.forms)
