-- Laws of histories.
use Rattle.std.specs.Prelude.{◌≡◌, ℕ, List, [], ◌∷◌, ◌++◌}
use Rattle.c_ast.specs.Comparison.{Comparison}
use Rattle.pool_core.specs.declared.item.Item.{Item}
use Rattle.pool_core.specs.declared.item.Item.TheVariants as item
use Rattle.pool_core.specs.declared.verdict.Verdict.{Verdict}
use Rattle.pool_core.specs.Justified.{IsJustified}
use Rattle.pool_core.specs.History.{MayFollow, IsLegal}

-- A front of a legal history is legal.
abbrev pub FrontsAreLegal : Type 0
FrontsAreLegal = (subject : Comparison) (front behind : List Item)
    → IsLegal subject (front ++ behind) → IsLegal subject front

-- Each item of a legal history may follow those before it.
abbrev pub ItemsFollow : Type 0
ItemsFollow = (subject : Comparison) (front : List Item) (next : Item) (behind : List Item)
    → IsLegal subject (front ++ next ∷ behind) → MayFollow subject front next

-- A legal history with an item that may follow is legal.
abbrev pub HistoriesGoOn : Type 0
HistoriesGoOn = (subject : Comparison) (items : List Item) (next : Item)
    → IsLegal subject items → MayFollow subject items next
    → IsLegal subject (items ++ next ∷ [])

-- In a legal history nothing follows a verdict, which is justified.
abbrev pub NothingFollowsVerdicts : Type 0
NothingFollowsVerdicts = (subject : Comparison) (front : List Item) (worker : ℕ) (verdict : Verdict)
    (behind : List Item) → IsLegal subject (front ++ item.Posted worker verdict ∷ behind)
    → (behind ≡ []) × IsJustified subject verdict
