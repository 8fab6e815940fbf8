-- Facts of each element of a list.
use Rattle.std.proofs.Common.{◌≡◌, ℕ, zero, suc, Bool, true, List, [], ◌∷◌, ◌++◌, map, get_or}
use Rattle.std.specs.Prelude.{filter}
use Rattle.std.specs.List.{AllByRecursion}
use Rattle.std.proofs.lemmas.Bool.{cond_both}

pub all_by : {X : Type 0} (A B C : X → Type 0) → ((x : X) → A x → B x → C x) → (xs : List X)
    → AllByRecursion A xs → AllByRecursion B xs → AllByRecursion C xs
all_by A B C both [] all_a all_b = tt
all_by A B C both (x ∷ xs) all_a all_b = (both x all_a.0 all_b.0, all_by A B C both xs all_a.1 all_b.1)

-- nothing is said of an element
abbrev pub Anything : {X : Type 0} → X → Type 0
Anything x = Unit {0}

pub all_anything : {X : Type 0} (xs : List X) → AllByRecursion Anything xs
all_anything [] = tt
all_anything (x ∷ xs) = (tt, all_anything xs)

pub all_weaker : {X : Type 0} (A C : X → Type 0) → ((x : X) → A x → C x) → (xs : List X) → AllByRecursion A xs → AllByRecursion C xs
all_weaker A C weaker [] all = tt
all_weaker A C weaker (x ∷ xs) all = (weaker x all.0, all_weaker A C weaker xs all.1)

pub all_append : {X : Type 0} (A : X → Type 0) (xs ys : List X) → AllByRecursion A xs → AllByRecursion A ys → AllByRecursion A (xs ++ ys)
all_append A [] ys front back = back
all_append A (x ∷ xs) ys front back = (front.0, all_append A xs ys front.1 back)

pub all_front : {X : Type 0} (A : X → Type 0) (xs ys : List X) → AllByRecursion A (xs ++ ys) → AllByRecursion A xs
all_front A [] ys all = tt
all_front A (x ∷ xs) ys all = (all.0, all_front A xs ys all.1)

pub all_back : {X : Type 0} (A : X → Type 0) (xs ys : List X) → AllByRecursion A (xs ++ ys) → AllByRecursion A ys
all_back A [] ys all = all
all_back A (x ∷ xs) ys all = all_back A xs ys all.1

pub all_map : {X Y : Type 0} (A : X → Type 0) (B : Y → Type 0) (f : X → Y) → ((x : X) → A x → B (f x)) → (xs : List X)
    → AllByRecursion A xs → AllByRecursion B (map f xs)
all_map A B f image [] all = tt
all_map A B f image (x ∷ xs) all = (image x all.0, all_map A B f image xs all.1)

pub all_of_map : {X Y : Type 0} (A : Y → Type 0) (f : X → Y) (xs : List X) → AllByRecursion A (map f xs) → AllByRecursion (λ x. A (f x)) xs
all_of_map A f [] all = tt
all_of_map A f (x ∷ xs) all = (all.0, all_of_map A f xs all.1)

-- what holds of the elements that pass a test
pub all_filter : {X : Type 0} (A B : X → Type 0) (test : X → Bool) → ((x : X) → test x ≡ true → A x → B x) → (xs : List X)
    → AllByRecursion A xs → AllByRecursion B (filter test xs)
all_filter A B test passes [] all = tt
all_filter A B test passes (x ∷ xs) all =
    let later = all_filter A B test passes xs all.1 in
    cond_both (test x) (x ∷ filter test xs) (filter test xs) (AllByRecursion B) (λ is. (passes x is all.0, later)) (λ is. later)

-- what holds of each element and of the default holds at each place
pub get_or_all : {X : Type 0} (A : X → Type 0) (xs : List X) (i : ℕ) (d : X) → A d → AllByRecursion A xs → A (get_or xs i d)
get_or_all A [] i d default all = default
get_or_all A (x ∷ xs) zero d default all = all.0
get_or_all A (x ∷ xs) (suc i) d default all = get_or_all A xs i d default all.1
