-- The public law (src/law.rt), each clause with its proof: what the proofs of other crates may cite.
pub use Rattle.walks.proofs.Walking.{walks_follow_moves, walks_end_at_exits, walks_are_short}
pub use Rattle.walks.proofs.Fitting.{positions_fit, values_fit, traces_fit, positions_are_narrow, values_stay_narrow}
