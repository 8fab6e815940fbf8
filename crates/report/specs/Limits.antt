-- How it is told why an alignment has no coupling.
use Rattle.std.specs.Prelude.{ℕ, List, [], ◌++◌, codes, decimal}
use Rattle.c_ast.specs.Comparison.{Comparison}
use Rattle.sym_paths.specs.declared.limit.PathLimit.{PathLimit}
use Rattle.sym_paths.specs.declared.limit.PathLimit.TheVariants as path
use Rattle.path_product.specs.declared.limit.ProductLimit.{ProductLimit}
use Rattle.path_product.specs.declared.limit.ProductLimit.TheVariants as product
use Rattle.elimination.specs.declared.answer.Limit.{Limit}
use Rattle.elimination.specs.declared.answer.Limit.TheVariants as row
use Rattle.pool_core.specs.declared.verdict.Why.{Why}
use Rattle.pool_core.specs.declared.verdict.Why.TheVariants.{NoCoupling, Product, AtObligation}
use Rattle.report.specs.Families.{place_text, node_text, side_word, family_text}

-- The word of a limit of a walk.
abbrev pub path_limit_word : PathLimit → List ℕ
path_limit_word path.NonLinear = codes "non-linear"
path_limit_word path.WideForm = codes "wide-form"
path_limit_word path.ManyUnknowns = codes "many-unknowns"
path_limit_word path.ManyPaths = codes "many-paths"
path_limit_word path.Memory = []

-- The words of a limit of the product: that of a walk, with the condition or the side and the place from which it
-- goes, or one at a node.
abbrev pub product_limit_text : ProductLimit → List ℕ
product_limit_text (product.AtPre limit) = path_limit_word limit ++ codes " pre"
product_limit_text (product.AtPlace side place limit) =
    path_limit_word limit ++ (codes " " ++ (side_word side ++ (codes " " ++ place_text place)))
product_limit_text (product.ManyVariables node) = codes "many-variables " ++ node_text node
product_limit_text (product.WideForm node) = codes "wide-form " ++ node_text node
product_limit_text (product.ManyUnknowns node) = codes "many-unknowns " ++ node_text node
product_limit_text (product.ManyPaths node) = codes "many-paths " ++ node_text node
product_limit_text product.Memory = []

-- The word of a limit of elimination.
abbrev pub row_limit_word : Limit → List ℕ
row_limit_word row.WideRow = codes "wide-row"
row_limit_word row.ManyRows = codes "many-rows"
row_limit_word row.Memory = []

-- The words of a limit at an obligation, which has this number.
abbrev pub obligation_limit_text : Limit → ℕ → List ℕ
obligation_limit_text limit obligation = row_limit_word limit ++ (codes " " ++ decimal obligation)

-- The words of a reason.
abbrev pub why_words : Why → List ℕ
why_words NoCoupling = codes "no-coupling"
why_words (Product limit) = product_limit_text limit
why_words (AtObligation obligation left limit) = obligation_limit_text limit obligation

-- The family that was left, where the reason is a limit at an obligation.
abbrev pub left_text : Comparison → Why → List ℕ
left_text subject NoCoupling = []
left_text subject (Product limit) = []
left_text subject (AtObligation obligation left limit) = family_text subject left

-- The rest of the reason's line, and the family that was left.
abbrev pub why_text : Comparison → Why → List ℕ
why_text subject why = why_words why ++ (codes "\n" ++ left_text subject why)
