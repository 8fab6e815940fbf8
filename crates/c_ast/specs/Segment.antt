-- Segments of runs: from a place with the values in scope there to the next place that is met.
use Rattle.std.specs.Prelude.{◌≡◌, ℕ, ◌⊎◌, List, [], ◌∷◌, length, Option, Some, None, ℤ}
use Rattle.c_ast.specs.declared.place.Place.{Place}
use Rattle.c_ast.specs.declared.place.Place.TheVariants as place
use Rattle.c_ast.specs.Tree.{Statements, Nil, Set, If, Loop, Break, Continue, Return, Mark, Block, Program}
use Rattle.c_ast.specs.Step.{Scope, LoopParts, Run, Test, Cond, Tail, Work, scope_of, values_in, spread, first_variables, start, seen}
use Rattle.c_ast.specs.Returns.{always}

-- The mark stands in these statements, which have this scope and are followed by this work; right after it is passed
-- the work is the last one.
abbrev pub StandsIn : Scope → Statements → Work → ℕ → Work → Type 0
StandsIn scope Nil work mark after = ⊥
StandsIn scope (Set x e others) work mark after = StandsIn (x ∷ scope) others work mark after
StandsIn scope (If e a b others) work mark after =
    StandsIn scope a (Run scope others ∷ work) mark after ⊎ StandsIn scope b (Run scope others ∷ work) mark after
    ⊎ StandsIn scope others work mark after
StandsIn scope (Loop own cond body tail test_first others) work mark after =
    let loop : LoopParts = record { mark = own; cond = cond; body = body; step = tail } in
    let behind = Run scope others ∷ work in
    (own ≡ Some mark) × (after ≡ Cond scope loop ∷ behind) ⊎ StandsIn scope body (Tail scope loop ∷ behind) mark after
    ⊎ StandsIn scope tail (Test scope loop ∷ behind) mark after ⊎ StandsIn scope others work mark after
StandsIn scope (Break others) work mark after = StandsIn scope others work mark after
StandsIn scope (Continue others) work mark after = StandsIn scope others work mark after
StandsIn scope (Return e others) work mark after = StandsIn scope others work mark after
StandsIn scope (Mark own others) work mark after =
    (own ≡ mark) × (after ≡ Run scope others ∷ work) ⊎ StandsIn scope others work mark after
StandsIn scope (Block a others) work mark after =
    StandsIn scope a (Run scope others ∷ work) mark after ⊎ StandsIn scope others work mark after

-- The work stands right after the function's mark is passed.
abbrev pub Follows : Program → ℕ → Work → Type 0
Follows f mark work = StandsIn (first_variables f.params) f.body [] mark work

-- A run goes on with the work from the place.
abbrev pub GoesOnFrom : Program → Place → Work → Type 0
GoesOnFrom f place.Entry work = work ≡ start f
GoesOnFrom f (place.Mark mark) work = Follows f mark work
GoesOnFrom f place.Exit work = ⊥

-- A mark and the values there, whatever is seen after it.
abbrev pub at_mark : ℕ → ℕ → List ℤ → Option (Place × List ℤ) → Option (Place × List ℤ)
at_mark marks mark values others = Some (place.Mark mark, values)

-- The exit, where the result alone has a value.
abbrev pub at_exit : ℤ → Place × List ℤ
at_exit value = (place.Exit, value ∷ [])

-- The first place that at most n steps meet, with the values in scope there.
abbrev pub met_within : ℕ → Work → List ℤ → Option (Place × List ℤ)
met_within n = seen always None at_mark at_exit n 0

-- The values are as many as the variables in scope at the place.
abbrev pub FitsPlace : Program → Place → List ℤ → Type 0
FitsPlace f place.Entry values = length values ≡ f.params
FitsPlace f (place.Mark mark) values =
    (work : Work) × Follows f mark work × (length values ≡ length (values_in (scope_of work) (spread [] f.vars [])))
FitsPlace f place.Exit values = length values ≡ 1

-- From the place `l` with the values `e` in scope and 0 elsewhere, the next place that is met is `l'`, with the values
-- `e'`. `e` may have any length: a variable in scope without a value is 0, and values beyond the variables in scope are
-- left out.
pub record IsSegment (f : Program) (l : Place) (e : List ℤ) (l' : Place) (e' : List ℤ) : Type 0 where
  pub work : Work
  pub from : GoesOnFrom f l work
  pub steps : ℕ
  pub met : met_within steps work (spread (scope_of work) f.vars e) ≡ Some (l', e')
