-- The texts of histories.
use Rattle.std.specs.Prelude.{ℕ, suc, List, [], ◌∷◌, ◌++◌, length, codes, decimal}
use Rattle.graph_run.specs.declared.skip.Skip.{Skip}
use Rattle.graph_run.specs.declared.skip.Skip.TheVariants as skip
use Rattle.trace_pair.specs.declared.skipped.Skipped.{Skipped}
use Rattle.trace_pair.specs.Pairs.{IsCauseOf}
use Rattle.pool_core.specs.declared.item.Item.{Item}
use Rattle.pool_core.specs.declared.item.Item.TheVariants as item
use Rattle.pool_core.specs.declared.verdict.Verdict.{Verdict}
use Rattle.pool_core.specs.declared.verdict.Verdict.TheVariants.{Equivalent, Different, Unknown}
use Rattle.report.specs.Families.{side_word}
use Rattle.report.specs.Limits.{why_words}
use Rattle.report.specs.Fits.{IsKeptWhy}

-- ---- what is told

-- The verdict is not that nothing is decided.
abbrev pub IsDecided : Verdict → Type 0
IsDecided (Equivalent coupled indexes) = Unit {0}
IsDecided (Different index input first second) = Unit {0}
IsDecided (Unknown samples alignments) = ⊥

-- The cause of a skip is one of its side's, no reason is want of memory, and a verdict that is posted decides.
abbrev pub IsKeptItem : Item → Type 0
IsKeptItem (item.Pair worker index pair) = Unit {0}
IsKeptItem (item.Skipped worker index skipped) = IsCauseOf skipped.side skipped.why
IsKeptItem (item.Mined worker prefix alignment candidates) = Unit {0}
IsKeptItem (item.Tried worker prefix alignment why) = IsKeptWhy why
IsKeptItem (item.Posted worker verdict) = IsDecided verdict

-- ---- texts

-- The word of a cause.
abbrev pub skip_word : Skip → List ℕ
skip_word skip.NotEnded = codes "not-ended"
skip_word skip.Wide = codes "wide"
skip_word skip.Unmet = codes "unmet"
skip_word skip.Memory = []

-- The side and the cause.
abbrev pub skipped_text : Skipped → List ℕ
skipped_text skipped = side_word skipped.side ++ (codes " " ++ skip_word skipped.why)

-- The word of a verdict that decides.
abbrev pub verdict_word : Verdict → List ℕ
verdict_word (Equivalent coupled indexes) = codes "equivalent"
verdict_word (Different index input first second) = codes "different"
verdict_word (Unknown samples alignments) = []

-- The number of pairs, and the alignment's.
abbrev pub candidates_text : ℕ → ℕ → List ℕ
candidates_text prefix alignment = decimal prefix ++ (codes " alignment " ++ decimal alignment)

-- What the item adds.
abbrev pub item_text : Item → List ℕ
item_text (item.Pair worker index pair) = codes "pair " ++ decimal index
item_text (item.Skipped worker index skipped) = codes "skip " ++ (decimal index ++ (codes " " ++ skipped_text skipped))
item_text (item.Mined worker prefix alignment candidates) = codes "mined " ++ candidates_text prefix alignment
item_text (item.Tried worker prefix alignment why) =
    codes "tried " ++ (candidates_text prefix alignment ++ (codes " " ++ why_words why))
item_text (item.Posted worker verdict) = codes "posted " ++ verdict_word verdict

-- The worker that added the item.
abbrev pub worker_of : Item → ℕ
worker_of (item.Pair worker index pair) = worker
worker_of (item.Skipped worker index skipped) = worker
worker_of (item.Mined worker prefix alignment candidates) = worker
worker_of (item.Tried worker prefix alignment why) = worker
worker_of (item.Posted worker verdict) = worker

-- The line of the item at this position.
abbrev pub item_line : ℕ → Item → List ℕ
item_line position item =
    decimal position ++ (codes " worker " ++ (decimal (worker_of item)
    ++ (codes " " ++ (item_text item ++ codes "\n"))))

-- The lines of the items, the first of which has this position.
abbrev pub item_lines : ℕ → List Item → List ℕ
item_lines position [] = []
item_lines position (item ∷ items) = item_line position item ++ item_lines (suc position) items

-- The number of items, and then a line for each.
abbrev pub history_text : List Item → List ℕ
history_text items = codes "history " ++ (decimal (length items) ++ (codes "\n" ++ item_lines 0 items))
