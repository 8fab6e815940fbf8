-- The marks that stand in the work that is left.
use Rattle.std.specs.Prelude.{◌≡◌, ◌⊎◌, ℕ, List, [], ◌∷◌, Some, ℤ}
use Rattle.c_ast.specs.declared.place.Place.{Place}
use Rattle.c_ast.specs.Tree.{Program}
use Rattle.c_ast.specs.Step.{Scope, LoopParts, Item, Run, Test, Cond, Tail, Work, Next, Goes, Passes, Ends, step, start}
use Rattle.c_ast.specs.Segment.{StandsIn, Follows, GoesOnFrom}

-- The mark stands in the loop, which is followed by this work; right after it is passed the work is the last one.
abbrev pub LoopHas : Scope → LoopParts → Work → ℕ → Work → Type 0
LoopHas scope loop work mark after =
    (loop.mark ≡ Some mark) × (after ≡ Cond scope loop ∷ work)
    ⊎ StandsIn scope loop.body (Tail scope loop ∷ work) mark after
    ⊎ StandsIn scope loop.step (Test scope loop ∷ work) mark after

-- The same of an item.
abbrev pub ItemHas : Item → Work → ℕ → Work → Type 0
ItemHas (Run scope stmts) work mark after = StandsIn scope stmts work mark after
ItemHas (Test scope loop) work mark after = LoopHas scope loop work mark after
ItemHas (Cond scope loop) work mark after = LoopHas scope loop work mark after
ItemHas (Tail scope loop) work mark after = LoopHas scope loop work mark after

-- The mark stands in an item of the work; right after it is passed the work is the last one.
abbrev pub WorkHas : Work → ℕ → Work → Type 0
WorkHas [] mark after = ⊥
WorkHas (item ∷ work) mark after = ItemHas item work mark after ⊎ WorkHas work mark after

-- Each mark of the work is the function's.
pub record IsAhead (f : Program) (work : Work) : Type 0 where
  pub by : (mark : ℕ) (after : Work) → WorkHas work mark after → Follows f mark after

-- The marks ahead of the work that a step leads to, and the mark that it passes, are the function's.
abbrev pub IsAheadNext : Program → Next → Type 0
IsAheadNext f (Goes work env) = IsAhead f work
IsAheadNext f (Passes mark work env) = IsAhead f work × Follows f mark work
IsAheadNext f (Ends value) = Unit {0}

-- Where a run goes on from a place, the marks ahead are the function's.
abbrev pub MarksAreAhead : Type 0
MarksAreAhead = (f : Program) (l : Place) (work : Work) → GoesOnFrom f l work → IsAhead f work

-- They are so as the run begins.
abbrev pub MarksAreAheadAtStart : Type 0
MarksAreAheadAtStart = (f : Program) → IsAhead f (start f)

-- A step keeps them so.
abbrev pub MarksStayAhead : Type 0
MarksStayAhead = (f : Program) (work : Work) (env : List ℤ) → IsAhead f work → IsAheadNext f (step work env)
