use Rattle.path_product.proofs.Laws.{law_of_products}
use Rattle.path_product.proofs.law.law_of_products.Goals as goal

pub returns : goal.returns
returns c = law_of_products
