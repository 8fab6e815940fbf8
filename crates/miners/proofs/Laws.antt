-- The public laws (src/law.rt), each clause with its proof: what the proofs of other crates may cite.
pub use Rattle.miners.proofs.MiningIs.{mines_candidates, one_list, mining_goes_on, had_points_strike_nothing}
pub use Rattle.miners.proofs.CandidatesAre.{candidates_are_mined, holding_atoms_are_candidates, unmet_nodes_have_none, more_pairs_add_none}
pub use Rattle.miners.proofs.CandidatesAre.{wide_nodes_say_nothing, candidates_are_determined, candidates_fit, entries_fit}
pub use Rattle.miners.proofs.Points.{points_have_one_length}
pub use Rattle.miners.proofs.TenLeast.{law_of_bound_constants, law_of_ten_least}
pub use Rattle.miners.proofs.InOrder.{candidates_are_in_order}
pub use Rattle.miners.proofs.OneWay.{before_asymmetric}
pub use Rattle.miners.proofs.Families.{gathered_is_mined}
