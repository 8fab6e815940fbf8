use Rattle.relation.proofs.Laws.{soundness_of_products, refutable_is_refuted, linear_families_couple}
use Rattle.relation.proofs.law.law_of_linear_families.Goals as goal

pub returns : goal.returns
returns c = record { sound = soundness_of_products; refuted = refutable_is_refuted; linear = linear_families_couple }
