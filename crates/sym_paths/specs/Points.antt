-- Points of a walk: numbers for the variables of the start, and for the unknowns so far.
use Rattle.std.specs.Prelude.{◌≡◌, ◌≤◌, ◌⊎◌, ℤ, List, [], ◌∷◌, ◌++◌, length, All}
use Rattle.lin_terms.specs.declared.form.Form.{Form}
use Rattle.lin_terms.specs.declared.row.Row.{Row}
use Rattle.lin_terms.specs.Form.{value_at}
use Rattle.lin_terms.specs.Row.{Holds}
use Rattle.sym_paths.specs.Walk.{State, Path, Arrives, Stops, Walk}

-- The form has this value at the point, whatever numbers come behind it.
abbrev pub HasValue : List ℤ → Form → ℤ → Type 0
HasValue point form value = (behind : List ℤ) → value_at form (point ++ behind) ≡ value

-- The forms have these values, one by one.
abbrev pub HaveValues : List ℤ → List Form → List ℤ → Type 0
HaveValues point [] [] = Unit {0}
HaveValues point [] (value ∷ values) = ⊥
HaveValues point (form ∷ forms) [] = ⊥
HaveValues point (form ∷ forms) (value ∷ values) = HasValue point form value × HaveValues point forms values

-- The row holds at the point, whatever numbers come behind it.
abbrev pub HoldsBefore : List ℤ → Row → Type 0
HoldsBefore point row = (behind : List ℤ) → Holds (point ++ behind) row

-- The second point has further numbers behind those of the first.
pub record Extends (point longer : List ℤ) : Type 0 where
  pub behind : List ℤ
  pub is : longer ≡ point ++ behind

-- The point has a number for each column in use, and all rows hold there.
pub record IsPoint (point : List ℤ) (state : State) : Type 0 where
  pub room : state.columns ≤ length point
  pub holds : All (Holds point) state.rows

-- The point has a number for each column in use and none besides, and all rows hold there, whatever comes behind.
pub record IsWholePoint (point : List ℤ) (state : State) : Type 0 where
  pub exact : length point ≡ state.columns
  pub holds : All (HoldsBefore point) state.rows

module _ {A : Type 0} where
  -- Each path that the walk arrives by has the property.
  abbrev pub EachArrives : (Path A → Type 0) → Walk A → Type 0
  EachArrives P [] = Unit {0}
  EachArrives P (Arrives path ∷ walk) = P path × EachArrives P walk
  EachArrives P (Stops limit ∷ walk) = EachArrives P walk

  -- Some path that the walk arrives by has the property, unless it meets a limit before.
  abbrev pub SomeArrives : (Path A → Type 0) → Walk A → Type 0
  SomeArrives P [] = ⊥
  SomeArrives P (Arrives path ∷ walk) = P path ⊎ SomeArrives P walk
  SomeArrives P (Stops limit ∷ walk) = Unit {0}

  -- Each of them has the property.
  abbrev pub EachOf : (A → Type 0) → List A → Type 0
  EachOf P [] = Unit {0}
  EachOf P (x ∷ xs) = P x × EachOf P xs

  -- Some of them has the property.
  abbrev pub SomeOf : (A → Type 0) → List A → Type 0
  SomeOf P [] = ⊥
  SomeOf P (x ∷ xs) = P x ⊎ SomeOf P xs

-- Further numbers make a whole point of the path's state, at which its value has the property.
pub record ReachedFrom {A : Type 0} (point : List ℤ) (G : List ℤ → A → Type 0) (path : Path A) : Type 0 where
  pub longer : List ℤ
  pub extends : Extends point longer
  pub whole : IsWholePoint longer path.state
  pub has : G longer path.value

-- The walk splits the points of a state: rows are only added; wherever the rows of a path hold its value has G, where P
-- held before; and from a whole point where P holds the walk arrives by some path, or meets a limit.
pub record Splits {A : Type 0} (state : State) (P : List ℤ → Type 0) (G : List ℤ → A → Type 0)
    (walk : Walk A) : Type 0 where
  pub sound : EachArrives (λ path. (point : List ℤ) → IsPoint point path.state
      → IsPoint point state × (P point → G point path.value)) walk
  pub complete : (point : List ℤ) → IsWholePoint point state → P point → SomeArrives (ReachedFrom point G) walk

-- What a walk owes that rows join, and that arrives at a value then: `R` says that the rows hold at a point, and `W`
-- that they hold whatever comes behind it.
pub record Joins {A : Type 0} (state : State) (R W : List ℤ → Type 0) (value : A) (walk : Walk A) : Type 0 where
  pub sound : EachArrives (λ path. (point : List ℤ) → IsPoint point path.state
      → IsPoint point state × R point × (path.value ≡ value)) walk
  pub complete : (point : List ℤ) → IsWholePoint point state → W point
      → SomeArrives (λ path. IsWholePoint point path.state × (path.value ≡ value)) walk
