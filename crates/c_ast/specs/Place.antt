-- Places: when two are one, and their order.
use Rattle.std.specs.Prelude.{◌≡◌, ◌↔◌, ◌<◌, Bool, true, false, ◌==◌}
use Rattle.c_ast.specs.declared.place.Place.{Place}
use Rattle.c_ast.specs.declared.place.Place.TheVariants as place

-- Whether the two places are one.
abbrev pub is_same_place : Place → Place → Bool
is_same_place place.Entry place.Entry = true
is_same_place (place.Mark j) (place.Mark k) = j == k
is_same_place place.Exit place.Exit = true
is_same_place _ _ = false

-- The entry comes first, then the marks by rising number, then the exit.
abbrev pub ComesBefore : Place → Place → Type 0
ComesBefore place.Entry place.Entry = ⊥
ComesBefore place.Entry _ = Unit {0}
ComesBefore (place.Mark j) place.Entry = ⊥
ComesBefore (place.Mark j) (place.Mark k) = j < k
ComesBefore (place.Mark j) place.Exit = Unit {0}
ComesBefore place.Exit _ = ⊥

-- The test says exactly when two places are one.
abbrev pub LawOfPlaces : Type 0
LawOfPlaces = (l m : Place) → (is_same_place l m ≡ true) ↔ (l ≡ m)
