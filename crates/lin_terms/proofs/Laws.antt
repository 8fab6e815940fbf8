-- The laws of lin_terms: all that proofs of other crates may cite of its proofs.
pub use Rattle.lin_terms.proofs.Dots.{dot-plus, dot-scaled, dot-append, dot-zeros, dot-replicate, dot-only_at, dot-drop}
pub use Rattle.lin_terms.proofs.Dots.{get_or-plus, get_or-scaled, get_or-zeros, zero_entries, length-plus, length-scaled}
pub use Rattle.lin_terms.proofs.Divisors.{gcd_of_divides, gcd_of_below, gcd_with-append, same_gcd, exact_quotient, dot-quotients}
pub use Rattle.lin_terms.proofs.Signs.{nonneg_add, nonneg_mul, zero_factor}
pub use Rattle.lin_terms.proofs.Fitting.{fitting_fits, fitting_is_wanted, variable_fits}
pub use Rattle.lin_terms.proofs.Composing.{value_at-composed}
pub use Rattle.lin_terms.proofs.Rows.{whole_is_fraction}
pub use Rattle.lin_terms.proofs.TightLemmas.{no_wider_below}
pub use Rattle.lin_terms.proofs.TightLemmas.{tight_keeps, tight_columns}
pub use Rattle.lin_terms.proofs.Rows.{sign_row-holds}
pub use Rattle.lin_terms.proofs.FormLemmas.{value_at-sum_of, value_at-multiple_of, value_at-constant, value_at-constant_form, value_at-variable_form}
