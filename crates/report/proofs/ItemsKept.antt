-- The items of a legal history can be told.
use Rattle.std.proofs.Common.{ℕ, List, [], ◌∷◌, ◌++◌}
use Rattle.std.specs.Prelude.{All, ℤ}
use Rattle.std.proofs.lemmas.List.Elements.{All-nil, All-cons}
use Rattle.c_ast.specs.declared.place.Side.{Side}
use Rattle.c_ast.specs.declared.place.Side.TheVariants.{A, B, Pre}
use Rattle.c_ast.specs.declared.trace.Pair.{Pair}
use Rattle.c_ast.specs.Comparison.{Comparison}
use Rattle.graph_run.specs.declared.skip.Skip.{Skip}
use Rattle.graph_run.specs.declared.skip.Skip.TheVariants.{NotEnded, Wide, Unmet, Memory}
use Rattle.trace_pair.specs.declared.skipped.Skipped.{Skipped}
use Rattle.trace_pair.specs.Pairs.{IsSkippedOn, IsSkip, IsCauseOf}
use Rattle.pool_core.specs.declared.item.Item.{Item}
use Rattle.pool_core.specs.declared.item.Item.TheVariants as item
use Rattle.pool_core.specs.declared.verdict.Why.{Why}
use Rattle.pool_core.specs.declared.verdict.Why.TheVariants as why
use Rattle.pool_core.specs.declared.verdict.Verdict.{Verdict}
use Rattle.pool_core.specs.declared.verdict.Verdict.TheVariants as verdict
use Rattle.pool_core.specs.Tried.{IsTried}
use Rattle.pool_core.specs.History.{MayBePosted, IsAllowed, IsLegalBehind, IsLegal}
use Rattle.report.specs.Fits.{IsKeptWhy}
use Rattle.report.specs.Histories.{IsDecided, IsKeptItem}
use Rattle.report.proofs.KeptLimits.{limit_is_kept}

-- ---- skips

cause_is : (subject : Comparison) (inputs : List ℤ) (side : Side) (cause : Skip) → IsSkippedOn subject inputs side cause → IsCauseOf side cause
cause_is subject inputs A NotEnded skip = tt
cause_is subject inputs A Wide skip = tt
cause_is subject inputs A Unmet (admitted, met) = absurd met
cause_is subject inputs A Memory (admitted, met) = absurd met
cause_is subject inputs B NotEnded skip = tt
cause_is subject inputs B Wide skip = tt
cause_is subject inputs B Unmet (admitted, returns, met) = absurd met
cause_is subject inputs B Memory (admitted, returns, met) = absurd met
cause_is subject inputs Pre NotEnded skip = absurd skip
cause_is subject inputs Pre Wide skip = tt
cause_is subject inputs Pre Unmet skip = tt
cause_is subject inputs Pre Memory skip = absurd skip

-- The cause of a skip is one of its side's.
pub skip_is_kept : (subject : Comparison) (index : ℕ) (skipped : Skipped) → IsSkip subject index skipped → IsCauseOf skipped.side skipped.why
skip_is_kept subject index skipped is = cause_is subject _ skipped.side skipped.why is

-- ---- reasons

-- A reason that is true of an alignment is not want of memory.
pub reason_is_kept : (subject : Comparison) (alignment : ℕ) (pairs : List Pair) (reason : Why) → IsTried subject alignment pairs reason
    → IsKeptWhy reason
reason_is_kept subject alignment pairs why.NoCoupling tried = tt
reason_is_kept subject alignment pairs (why.Product limit) tried = limit_is_kept subject alignment limit tried
reason_is_kept subject alignment pairs (why.AtObligation obligation left limit) tried = tried.limited.limited.no_memory

-- ---- items

module _ (subject : Comparison) where
  posted_decides : (before : List Item) (posted : Verdict) → MayBePosted subject before posted → IsDecided posted
  posted_decides before (verdict.Equivalent coupled indexes) may = tt
  posted_decides before (verdict.Different index input first second) may = tt
  posted_decides before (verdict.Unknown samples alignments) may = absurd may

  item_is_kept : (before : List Item) (next : Item) → IsAllowed subject before next → IsKeptItem next
  item_is_kept before (item.Pair worker index pair) allowed = tt
  item_is_kept before (item.Skipped worker index skipped) (new, is) = skip_is_kept subject index skipped is
  item_is_kept before (item.Mined worker prefix alignment candidates) allowed = tt
  item_is_kept before (item.Tried worker prefix alignment reason) allowed = reason_is_kept subject alignment _ reason allowed.tried
  item_is_kept before (item.Posted worker posted) allowed = posted_decides before posted allowed

  kept_behind : (before items : List Item) → IsLegalBehind subject before items → All IsKeptItem items
  kept_behind before [] legal = All-nil IsKeptItem
  kept_behind before (next ∷ items) legal =
      All-cons IsKeptItem next items (item_is_kept before next legal.0.1) (kept_behind (before ++ next ∷ []) items legal.1)

pub items_kept : (subject : Comparison) (items : List Item) → IsLegal subject items → All IsKeptItem items
items_kept subject items legal = kept_behind subject [] items legal
