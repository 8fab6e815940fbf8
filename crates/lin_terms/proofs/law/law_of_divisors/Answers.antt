use Rattle.lin_terms.proofs.Divisors.{gcd_of_divides, gcd_of_below, gcd_with-append, same_gcd, exact_quotient, dot-quotients}
use Rattle.lin_terms.proofs.law.law_of_divisors.Goals as goal

pub returns-clause-divides : goal.returns-clause-divides
returns-clause-divides c = gcd_of_divides

pub returns-clause-below : goal.returns-clause-below
returns-clause-below c = gcd_of_below

pub returns-clause-joined : goal.returns-clause-joined
returns-clause-joined c = gcd_with-append

pub returns-clause-same : goal.returns-clause-same
returns-clause-same c = same_gcd

pub returns-clause-quotient : goal.returns-clause-quotient
returns-clause-quotient c = exact_quotient

pub returns-clause-dot_of_quotients : goal.returns-clause-dot_of_quotients
returns-clause-dot_of_quotients c = dot-quotients
