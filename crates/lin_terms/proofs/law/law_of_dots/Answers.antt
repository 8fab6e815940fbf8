use Rattle.lin_terms.proofs.Dots.{dot-plus, dot-scaled, dot-append, dot-zeros, dot-replicate, dot-only_at, dot-drop}
use Rattle.lin_terms.proofs.law.law_of_dots.Goals as goal

pub returns-clause-sums : goal.returns-clause-sums
returns-clause-sums c = dot-plus

pub returns-clause-multiples : goal.returns-clause-multiples
returns-clause-multiples c = dot-scaled

pub returns-clause-joined : goal.returns-clause-joined
returns-clause-joined c = dot-append

pub returns-clause-zeros : goal.returns-clause-zeros
returns-clause-zeros c = dot-zeros

pub returns-clause-replicated : goal.returns-clause-replicated
returns-clause-replicated c = dot-replicate

pub returns-clause-one : goal.returns-clause-one
returns-clause-one c = dot-only_at

pub returns-clause-from_a_place : goal.returns-clause-from_a_place
returns-clause-from_a_place c = dot-drop
