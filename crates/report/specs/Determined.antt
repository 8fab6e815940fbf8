-- When the text of a verdict determines what it tells.
use Rattle.std.specs.Prelude.{◌≡◌, ℕ, ◌<◌, ◌^◌, ℤ, unsigned_abs, Bool, true, leb, eqb, ◌&&◌, ◌||◌, length, All}
use Rattle.std.specs.List.{list_all}
use Rattle.c_ast.specs.declared.place.Place.{Place}
use Rattle.c_ast.specs.declared.place.Place.TheVariants as place
use Rattle.c_ast.specs.declared.func.Var.{Var}
use Rattle.c_ast.specs.Comparison.{Comparison, IsComparison}
use Rattle.horn_clauses.specs.declared.node.Node.{Node}
use Rattle.horn_clauses.specs.declared.family.Family.{Family}
use Rattle.path_product.specs.declared.limit.ProductLimit.{ProductLimit}
use Rattle.path_product.specs.declared.limit.ProductLimit.TheVariants as product
use Rattle.pool_core.specs.declared.verdict.Why.{Why}
use Rattle.pool_core.specs.declared.verdict.Why.TheVariants.{NoCoupling, Product, AtObligation}
use Rattle.pool_core.specs.declared.verdict.Verdict.{Verdict}
use Rattle.pool_core.specs.declared.verdict.Verdict.TheVariants.{Equivalent, Different, Unknown}
use Rattle.report.specs.Verdicts.{verdict_text}
use Rattle.report.specs.Fits.{FitsSubject}

-- ---- names

-- Whether the byte is a decimal digit.
abbrev pub is_digit : ℕ → Bool
is_digit byte = leb 48 byte && leb byte 57

-- Whether the byte is a letter, a digit, `_` or `.`.
abbrev pub is_name_byte : ℕ → Bool
is_name_byte byte =
    is_digit byte || (leb 65 byte && leb byte 90) || (leb 97 byte && leb byte 122) || eqb byte 95 || eqb byte 46

-- The name has only letters, digits, `_` and `.`.
abbrev pub HasPlainName : Var → Type 0
HasPlainName var = list_all is_name_byte var.name ≡ true

-- The names of both functions' variables are such.
pub record HasPlainNames (subject : Comparison) : Type 0 where
  pub first : All HasPlainName subject.first.vars
  pub second : All HasPlainName subject.second.vars

-- ---- numbers

-- The number has at most 64 digits.
abbrev pub IsShort : ℕ → Type 0
IsShort n = n < 10 ^ 64

-- The number has at most 64 digits and perhaps a sign.
abbrev pub IsShortSigned : ℤ → Type 0
IsShortSigned z = unsigned_abs z < 10 ^ 64

-- The number of a mark is short.
abbrev pub IsShortPlace : Place → Type 0
IsShortPlace place.Entry = Unit {0}
IsShortPlace (place.Mark mark) = IsShort mark
IsShortPlace place.Exit = Unit {0}

-- The numbers of both marks are short.
abbrev pub IsShortNode : Node → Type 0
IsShortNode node = IsShortPlace node.0 × IsShortPlace node.1

-- The marks of all nodes have short numbers.
abbrev pub HasShortNodes : Family → Type 0
HasShortNodes family = All (λ entry. IsShortNode entry.0) family.nodes

-- The marks that the limit names have short numbers.
abbrev pub IsShortLimit : ProductLimit → Type 0
IsShortLimit (product.AtPre limit) = Unit {0}
IsShortLimit (product.AtPlace side place limit) = IsShortPlace place
IsShortLimit (product.ManyVariables node) = IsShortNode node
IsShortLimit (product.WideForm node) = IsShortNode node
IsShortLimit (product.ManyUnknowns node) = IsShortNode node
IsShortLimit (product.ManyPaths node) = IsShortNode node
IsShortLimit product.Memory = Unit {0}

-- The numbers that the reason tells are short.
abbrev pub IsShortWhy : Why → Type 0
IsShortWhy NoCoupling = Unit {0}
IsShortWhy (Product limit) = IsShortLimit limit
IsShortWhy (AtObligation obligation left limit) = IsShort obligation × HasShortNodes left

-- The numbers that the verdict tells are short, as all numbers of the program are: the widest has 128 bits.
abbrev pub HasShortNumbers : Verdict → Type 0
HasShortNumbers (Equivalent coupled indexes) = All IsShort indexes × HasShortNodes coupled.family
HasShortNumbers (Different index input first second) =
    IsShort index × All IsShortSigned input × IsShortSigned first × IsShortSigned second
HasShortNumbers (Unknown samples alignments) = IsShort (length samples) × All IsShortWhy alignments

-- ---- the law

-- The verdicts are alike in all that their texts tell: of a coupling that is the alignment and the family, and not its
-- multipliers.
abbrev pub TellTheSame : Verdict → Verdict → Type 0
TellTheSame (Equivalent coupled indexes) (Equivalent other others) =
    (coupled.alignment ≡ other.alignment) × (indexes ≡ others) × (coupled.family ≡ other.family)
TellTheSame (Different index input first second) (Different other values third fourth) =
    (index ≡ other) × (input ≡ values) × (first ≡ third) × (second ≡ fourth)
TellTheSame (Unknown samples alignments) (Unknown others reasons) = (samples ≡ others) × (alignments ≡ reasons)
TellTheSame _ _ = ⊥

-- A verdict on two functions that can be told, with short numbers.
pub record IsTold (subject : Comparison) (verdict : Verdict) : Type 0 where
  pub fits : FitsSubject subject verdict
  pub short : HasShortNumbers verdict

-- Where the names of the variables are plain, verdicts on the same functions with one text tell the same.
abbrev pub TextsDetermineVerdicts : Type 0
TextsDetermineVerdicts = (subject : Comparison) (verdict other : Verdict)
    → IsComparison subject → HasPlainNames subject → IsTold subject verdict → IsTold subject other
    → verdict_text subject verdict ≡ verdict_text subject other → TellTheSame verdict other
