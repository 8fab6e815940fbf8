-- What is justified can be told.
use Rattle.std.specs.Prelude.{List, All}
use Rattle.c_ast.specs.Comparison.{Comparison, IsComparison}
use Rattle.pool_core.specs.declared.item.Item.{Item}
use Rattle.pool_core.specs.declared.verdict.Verdict.{Verdict}
use Rattle.pool_core.specs.Justified.{IsJustified}
use Rattle.pool_core.specs.History.{IsLegal}
use Rattle.report.specs.Fits.{FitsSubject}
use Rattle.report.specs.Histories.{IsKeptItem}

-- A verdict that is justified can be told of the two functions that are compared.
abbrev pub JustifiedVerdictsFit : Type 0
JustifiedVerdictsFit = (subject : Comparison) (verdict : Verdict) → IsComparison subject → IsJustified subject verdict
    → FitsSubject subject verdict

-- Each item of a legal history can be told.
abbrev pub LegalHistoriesAreKept : Type 0
LegalHistoriesAreKept = (subject : Comparison) (items : List Item) → IsLegal subject items → All IsKeptItem items
