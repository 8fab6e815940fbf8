-- The public law (src/law.rt) with its proof: what the proofs of other crates may cite.
pub use Rattle.path_product.proofs.Products.{law_of_products}
