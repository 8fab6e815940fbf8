-- Walks that begin at given values.
use Rattle.std.proofs.Common.{◌≡◌, ℕ, List, [], ◌∷◌}
use Rattle.std.specs.Prelude.{ℤ, Ok}
use Rattle.c_ast.specs.declared.place.Place.{Place}
use Rattle.sym_paths.specs.Walk.{State, Path, Arrives, Stops, Walk, collect, onward}
use Rattle.sym_paths.specs.Nodes.{End}
use Rattle.sym_paths.specs.Points.{HaveValues, Extends, IsPoint, IsWholePoint, EachArrives, SomeArrives, EachOf, SomeOf, ReachedFrom, Splits}
use Rattle.sym_paths.proofs.Laws.{each_changed, some_changed, onward_each, onward_some, extends_itself, extends_on, each_collected, some_collected}

-- The forms have values at the point that are right at the place.
abbrev pub EndsAs : (Place → List ℤ → Type 0) → List ℤ → End → Type 0
EndsAs R point end = (after : List ℤ) × HaveValues point end.forms after × R end.place after

-- The path's value has G at each point of the path that begins with these values.
abbrev pub IsRightFrom : {A : Type 0} → List ℤ → (List ℤ → A → Type 0) → Path A → Type 0
IsRightFrom e G path = (point : List ℤ) → Extends e point → IsPoint point path.state → G point path.value

-- At these values each path that the walk arrives by is right, and some path is reached, or the walk meets a limit.
pub record Begins {A : Type 0} (e : List ℤ) (G : List ℤ → A → Type 0) (walk : Walk A) : Type 0 where
  pub sound : EachArrives (IsRightFrom e G) walk
  pub complete : SomeArrives (ReachedFrom e G) walk

-- The same of paths at hand: each is right, and some is reached.
pub record BeginBy {A : Type 0} (e : List ℤ) (G : List ℤ → A → Type 0) (paths : List (Path A)) : Type 0 where
  pub sound : EachOf (IsRightFrom e G) paths
  pub complete : SomeOf (ReachedFrom e G) paths

module _ {A : Type 0} (e : List ℤ) where
  -- the paths that are collected
  pub begins_collected : (G : List ℤ → A → Type 0) (n : ℕ) (walk : Walk A) (paths : List (Path A)) → collect n walk ≡ Ok paths
      → Begins e G walk → BeginBy e G paths
  begins_collected G n walk paths made begins = record {
    sound = each_collected (IsRightFrom e G) n walk paths made begins.sound;
    complete = some_collected (ReachedFrom e G) n walk paths made begins.complete;
  }

  -- a walk that splits a state of which the values are a whole point
  pub begins_splits : (state : State) (P : List ℤ → Type 0) (G : List ℤ → A → Type 0) (walk : Walk A) → IsWholePoint e state
      → ((point : List ℤ) → Extends e point → P point) → Splits state P G walk → Begins e G walk
  begins_splits state P G walk whole has splits = record {
    sound = each_changed _ _ walk (λ path right point extends is. (right point is).1 (has point extends)) splits.sound;
    complete = splits.complete e whole (has e (extends_itself e));
  }

module _ {A : Type 0} where
  for_each : (R : Path A → List ℤ → Type 0) (walk : Walk A) → ((e : List ℤ) → EachArrives (λ path. R path e) walk)
      → EachArrives (λ path. (e : List ℤ) → R path e) walk
  for_each R [] all = tt
  for_each R (Arrives path ∷ walk) all = (λ e. (all e).0, for_each R walk (λ e. (all e).1))
  for_each R (Stops why ∷ walk) all = for_each R walk all

  -- for some values, which may depend on the point
  pub some_splits : (state : State) (P : List ℤ → Type 0) (Q : List ℤ → List ℤ → Type 0) (G : List ℤ → A → Type 0) (walk : Walk A)
      → ((point : List ℤ) → P point → (e : List ℤ) × Q e point) → ((e : List ℤ) → Splits state (Q e) G walk) → Splits state P G walk
  some_splits state P Q G walk pick splits = record {
    sound = each_changed _ _ walk
        (λ path right point is. ((right [] point is).0, λ p. let picked = pick point p in (right picked.0 point is).1 picked.1))
        (for_each (λ path e. (point : List ℤ) → IsPoint point path.state → IsPoint point state × (Q e point → G point path.value)) walk
        (λ e. (splits e).sound));
    complete = λ point whole p. let picked = pick point p in (splits picked.0).complete point whole picked.1;
  }

-- the one law of composition
module _ {A B : Type 0} (H : List ℤ → B → Type 0) (next : A → State → Walk B) where
  pub onward_begins : (e : List ℤ) (G : List ℤ → A → Type 0) (walk : Walk A) → Begins e G walk
      → ((value : A) (after : State) → Splits after (λ point. G point value) H (next value after)) → Begins e H (onward walk next)
  onward_begins e G walk begins splits = record {
    sound = onward_each next _ _ walk
        (λ path right. each_changed _ _ (next path.value path.state)
        (λ q later point extends is. let both = later point is in both.1 (right point extends both.0))
        (splits path.value path.state).sound) begins.sound;
    complete = onward_some next (ReachedFrom e G) (ReachedFrom e H) walk
        (λ path r. some_changed (ReachedFrom r.longer H) (ReachedFrom e H) (next path.value path.state)
        (λ t u. record { longer = u.longer; extends = extends_on e r.longer u.longer r.extends u.extends; whole = u.whole; has = u.has })
        ((splits path.value path.state).complete r.longer r.whole r.has)) begins.complete;
  }
