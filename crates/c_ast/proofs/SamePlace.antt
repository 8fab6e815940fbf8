-- The test of places says exactly when two are one.
use Rattle.std.proofs.Common.{◌≡◌, true, subst, refl, ap}
use Rattle.std.proofs.lemmas.Bool.{eqb-true, eq-eqb}
use Rattle.c_ast.specs.declared.place.Place.{Place}
use Rattle.c_ast.specs.declared.place.Place.TheVariants as place
use Rattle.c_ast.specs.Place.{is_same_place, LawOfPlaces}

same_place : (l m : Place) → is_same_place l m ≡ true → l ≡ m
same_place place.Entry place.Entry is = refl
same_place place.Entry (place.Mark k) is = cc
same_place place.Entry place.Exit is = cc
same_place (place.Mark j) place.Entry is = cc
same_place (place.Mark j) (place.Mark k) is = ap place.Mark (eqb-true j k is)
same_place (place.Mark j) place.Exit is = cc
same_place place.Exit place.Entry is = cc
same_place place.Exit (place.Mark k) is = cc
same_place place.Exit place.Exit is = refl

place_is_itself : (l : Place) → is_same_place l l ≡ true
place_is_itself place.Entry = refl
place_is_itself (place.Mark k) = eq-eqb k k refl
place_is_itself place.Exit = refl

pub law_of_places : LawOfPlaces
law_of_places l m = (same_place l m, λ same. subst (λ (z : Place). is_same_place l z ≡ true) same (place_is_itself l))
