-- The lists of coefficients of a kind, made place by place.
use Rattle.std.proofs.Common.{◌≡◌, ℕ, zero, suc, ◌+◌, ◌<◌, ◌≤◌, Bool, true, false, List, [], ◌∷◌, ◌++◌, map, length, get_or, drop, drop-cons, add-one, Option, Some, None, arith, refl, sym, ◌∙◌, ap, append_assoc}
use Rattle.std.specs.Prelude.{ℤ, pos, negsuc, ◌+ℤ◌, if◌then◌else◌, flat_map, filter}
use Rattle.std.proofs.lemmas.Int.{ints}
use Rattle.std.proofs.lemmas.Grind.{flat_map-append}
use Rattle.std.proofs.lemmas.List.{map-append, append-nil}
use Rattle.miners.specs.declared.shape.Coef.{Coef}
use Rattle.miners.specs.declared.shape.Shape.{Shape}
use Rattle.miners.specs.declared.shape.Kind.{Kind}
use Rattle.miners.specs.declared.shape.Kind.TheVariants.{Equality, Bound}
use Rattle.miners.specs.Mined.{grown, sizes, with_coef, are_coprime, coef_values, Signs, signs, with_sign, is_any, sign_values}
use Rattle.miners.specs.Sparse.{coef_of, only_at, coef_at, told, coefs_of, ones_of, twos_of, sizes_in, signs_in, IsFree, grown_sizes, grown_signs, grown_after, GoesOn, tail_at, ended_by, ended, ended_with, all_ended, shapes_of, is_done}
use Rattle.miners.proofs.Placed.{only_zero}

pub told_same : (f g : ℕ → ℤ) → ((j : ℕ) → f j ≡ g j) → (i n : ℕ) → told f i n ≡ told g i n
told_same f g e i zero = refl
told_same f g e i (suc n) = ap (λ x. x ∷ told f (suc i) n) (e i) ∙ ap (λ t. g i ∷ t) (told_same f g e (suc i) n)

pub map_same : {A B : Type 0} (f g : A → B) → ((x : A) → f x ≡ g x) → (xs : List A) → map f xs ≡ map g xs
map_same f g e [] = refl
map_same f g e (x ∷ xs) = ap (λ y. y ∷ map f xs) (e x) ∙ ap (λ t. g x ∷ t) (map_same f g e xs)

zero_plus : (x : ℤ) → x ≡ pos 0 +ℤ x
zero_plus x = omega (arith, ints)

plus_zero : (x : ℤ) → x ≡ x +ℤ pos 0
plus_zero x = omega (arith, ints)

-- ---- one coefficient more

tail_split : (i : ℕ) (v : ℤ) (xs : List ℤ) (j : ℕ) → tail_at i (v ∷ xs) j ≡ only_at i v j +ℤ tail_at (suc i) xs j
tail_split zero v xs zero = plus_zero v
tail_split zero v xs (suc j) = zero_plus (get_or xs j (pos 0))
tail_split (suc i) v xs zero = refl
tail_split (suc i) v xs (suc j) = tail_split i v xs j

moved : (after before only tail more : ℤ) → after ≡ only +ℤ before → more ≡ only +ℤ tail → after +ℤ tail ≡ before +ℤ more
moved after before only tail more e f = omega (arith, ints)

next_ended : (kind : Kind) (n i k : ℕ) (s next : Shape) (coef : Coef) → GoesOn kind s i coef (Some next)
    → ended kind n (suc i) k next ≡ ended_with kind n i k s (coef_of coef)
next_ended kind n i k s next coef g =
    let same : (xs : List ℤ) → ended_by n (suc i) next xs ≡ ended_by n i s (coef_of coef ∷ xs) =
    λ xs. told_same (λ j. coef_at next j +ℤ tail_at (suc i) xs j) (λ j. coef_at s j +ℤ tail_at i (coef_of coef ∷ xs) j)
    (λ j. moved (coef_at next j) (coef_at s j) (only_at i (coef_of coef) j) (tail_at (suc i) xs j)
    (tail_at i (coef_of coef ∷ xs) j) (g.1 j) (tail_split i (coef_of coef) xs j)) 0 n in
    map_same (ended_by n (suc i) next) (λ xs. ended_by n i s (coef_of coef ∷ xs)) same (grown_after kind k next)
    ∙ ap (map (λ xs. ended_by n i s (coef_of coef ∷ xs))) (sym (g.0 k))

pub pushed_ended : (kind : Kind) (n i k : ℕ) (xs : List Shape) (s next : Shape) (coef : Coef) → GoesOn kind s i coef (Some next)
    → all_ended kind n (suc i) k (xs ++ next ∷ []) ≡ all_ended kind n (suc i) k xs ++ ended_with kind n i k s (coef_of coef)
unfolding all_ended
pushed_ended kind n i k xs s next coef g =
    flat_map-append (ended kind n (suc i) k) xs (next ∷ [])
    ∙ ap (λ t. flat_map (ended kind n (suc i) k) xs ++ t) (append-nil (ended kind n (suc i) k next) ∙ next_ended kind n i k s next coef g)

pub kept_ended : (kind : Kind) (n i k : ℕ) (xs : List Shape) (s : Shape) (coef : Coef) → GoesOn kind s i coef None
    → all_ended kind n (suc i) k xs ≡ all_ended kind n (suc i) k xs ++ ended_with kind n i k s (coef_of coef)
kept_ended kind n i k xs s coef g =
    sym (append-nil (all_ended kind n (suc i) k xs))
    ∙ ap (λ t. all_ended kind n (suc i) k xs ++ map (λ tail. ended_by n i s (coef_of coef ∷ tail)) t) (sym (g k))

-- ---- all coefficients

map_after : (f : List ℤ → List ℤ) (v : ℤ) (xs : List (List ℤ)) → map f (map (λ t. v ∷ t) xs) ≡ map (λ t. f (v ∷ t)) xs
map_after f v [] = refl
map_after f v (x ∷ xs) = ap (λ t. f (v ∷ x) ∷ t) (map_after f v xs)

spread_out : (f : List ℤ → List ℤ) (h : ℤ → List (List ℤ)) (vs : List ℤ)
    → map f (flat_map (λ v. map (λ t. v ∷ t) (h v)) vs) ≡ flat_map (λ v. map (λ t. f (v ∷ t)) (h v)) vs
spread_out f h [] = refl
spread_out f h (v ∷ vs) =
    map-append f (map (λ t. v ∷ t) (h v)) (flat_map (λ v. map (λ t. v ∷ t) (h v)) vs)
    ∙ ap (λ x. x ++ map f (flat_map (λ v. map (λ t. v ∷ t) (h v)) vs)) (map_after f v (h v))
    ∙ ap (λ x. map (λ t. f (v ∷ t)) (h v) ++ x) (spread_out f h vs)

values_ended : (kind : Kind) (n i k : ℕ) (s : Shape) → flat_map (ended_with kind n i k s) coef_values ≡ ended kind n i (suc k) s
values_ended Equality n i k s = sym (spread_out (ended_by n i s) (λ v. grown_sizes k (with_coef (sizes_in s) v)) coef_values)
values_ended Bound n i k s = sym (spread_out (ended_by n i s) (λ v. grown_signs k (with_sign (signs_in s) v)) coef_values)

regroup : {A : Type 0} (x a b c d e : List A) → ((((x ++ a) ++ b) ++ c) ++ d) ++ e ≡ x ++ (a ++ (b ++ (c ++ (d ++ (e ++ [])))))
regroup x a b c d e = simp (append_assoc, append-nil)

-- five steps, one for each coefficient
pub five_ended : (kind : Kind) (n i k : ℕ) (s : Shape) (x x1 x2 x3 x4 x5 : List (List ℤ))
    → x1 ≡ x ++ ended_with kind n i k s (pos 2) → x2 ≡ x1 ++ ended_with kind n i k s (pos 1)
    → x3 ≡ x2 ++ ended_with kind n i k s (pos 0) → x4 ≡ x3 ++ ended_with kind n i k s (negsuc 0)
    → x5 ≡ x4 ++ ended_with kind n i k s (negsuc 1) → x5 ≡ x ++ ended kind n i (suc k) s
five_ended kind n i k s x x1 x2 x3 x4 x5 e1 e2 e3 e4 e5 =
    let w : ℤ → List (List ℤ) = ended_with kind n i k s in
    e5 ∙ ap (λ t. t ++ w (negsuc 1)) (e4 ∙ ap (λ t. t ++ w (negsuc 0)) (e3 ∙ ap (λ t. t ++ w (pos 0)) (e2 ∙ ap (λ t. t ++ w (pos 1)) e1)))
    ∙ regroup x (w (pos 2)) (w (pos 1)) (w (pos 0)) (w (negsuc 0)) (w (negsuc 1))
    ∙ ap (λ t. x ++ t) (values_ended kind n i k s)

-- ---- all shapes

pub start_ended : (kind : Kind) (n i k : ℕ) (xs ys : List Shape) → ys ≡ []
    → all_ended kind n (suc i) k ys ++ all_ended kind n i (suc k) (drop 0 xs) ≡ all_ended kind n i (suc k) xs
unfolding all_ended
start_ended kind n i k xs ys e = rw e refl

pub step_ended : (kind : Kind) (n i k : ℕ) (xs : List Shape) (j : ℕ) (d : Shape) (x y all : List (List ℤ)) → j < length xs
    → y ≡ x ++ ended kind n i k (get_or xs j d) → x ++ all_ended kind n i k (drop j xs) ≡ all
    → y ++ all_ended kind n i k (drop (j + 1) xs) ≡ all
unfolding all_ended
step_ended kind n i k xs j d x y all below e f =
    rw add-one (ap (λ t. t ++ flat_map (ended kind n i k) (drop (suc j) xs)) e
    ∙ append_assoc x (ended kind n i k (get_or xs j d)) (flat_map (ended kind n i k) (drop (suc j) xs))
    ∙ ap (λ t. x ++ flat_map (ended kind n i k) t) (sym (drop-cons xs j d below)) ∙ f)

pub drop_past : {A : Type 0} (xs : List A) (j : ℕ) → length xs ≤ j → drop j xs ≡ []
drop_past [] zero h = refl
drop_past [] (suc j) h = refl
drop_past (x ∷ xs) zero h = absurd (omega (arith, h))
drop_past (x ∷ xs) (suc j) h = drop_past xs j (omega (arith, h))

pub end_ended : (kind : Kind) (n i k : ℕ) (xs : List Shape) (j : ℕ) (x all : List (List ℤ)) → length xs ≤ j
    → x ++ all_ended kind n i k (drop j xs) ≡ all → x ≡ all
unfolding all_ended
end_ended kind n i k xs j x all past e =
    sym (append-nil x) ∙ ap (λ t. x ++ flat_map (ended kind n i k) t) (sym (drop_past xs j past)) ∙ e

-- ---- the last place

no_tail : (i j : ℕ) → tail_at i [] j ≡ pos 0
no_tail zero j = refl
no_tail (suc i) zero = refl
no_tail (suc i) (suc j) = no_tail i j

whole : (n i : ℕ) (s : Shape) → ended_by n i s [] ≡ coefs_of n s
whole n i s = told_same (λ j. coef_at s j +ℤ tail_at i [] j) (coef_at s) (λ j. rw (no_tail i j) (sym (plus_zero (coef_at s j)))) 0 n

pub all_done : (kind : Kind) (n i : ℕ) (xs : List Shape)
    → all_ended kind n i 0 xs ≡ map (coefs_of n) (filter (is_done kind) xs)
unfolding all_ended
all_done kind n i [] = refl
all_done kind n i (s ∷ xs) = by kind (is_done kind s) refl (all_done kind n i xs)
  where
    by : (kind : Kind) (b : Bool) → is_done kind s ≡ b
        → flat_map (ended kind n i 0) xs ≡ map (coefs_of n) (filter (is_done kind) xs)
        → flat_map (ended kind n i 0) (s ∷ xs) ≡ map (coefs_of n) (filter (is_done kind) (s ∷ xs))
    by Equality true e h = rw e (ap (λ t. t ∷ flat_map (ended Equality n i 0) xs) (whole n i s) ∙ ap (λ t. coefs_of n s ∷ t) h)
    by Equality false e h = rw e h
    by Bound true e h = rw e (ap (λ t. t ∷ flat_map (ended Bound n i 0) xs) (whole n i s) ∙ ap (λ t. coefs_of n s ∷ t) h)
    by Bound false e h = rw e h

-- ---- the first place

pub told_later : (f : ℕ → ℤ) (i n : ℕ) → told f (suc i) n ≡ told (λ j. f (suc j)) i n
told_later f i zero = refl
told_later f i (suc n) = ap (λ t. f (suc i) ∷ t) (told_later f (suc i) n)

-- the numbers of a list of n, by their places
told_list : (xs : List ℤ) → told (λ j. get_or xs j (pos 0)) 0 (length xs) ≡ xs
told_list [] = refl
told_list (x ∷ xs) = ap (λ t. x ∷ t) (told_later (λ j. get_or (x ∷ xs) j (pos 0)) 0 (length xs) ∙ told_list xs)

abbrev listed_by : ℕ → List ℤ → List ℤ
listed_by n xs = told (λ j. get_or xs j (pos 0)) 0 n

listed_more : (n : ℕ) (v : ℤ) (xs : List ℤ) → listed_by (suc n) (v ∷ xs) ≡ v ∷ listed_by n xs
listed_more n v xs = ap (λ t. v ∷ t) (told_later (λ j. get_or (v ∷ xs) j (pos 0)) 0 n)

map_put : (n : ℕ) (v : ℤ) (xs : List (List ℤ)) → map (listed_by n) xs ≡ xs
    → map (listed_by (suc n)) (map (λ t. v ∷ t) xs) ≡ map (λ t. v ∷ t) xs
map_put n v xs e =
    map_after (listed_by (suc n)) v xs ∙ map_same (λ t. listed_by (suc n) (v ∷ t)) (λ t. v ∷ listed_by n t) (listed_more n v) xs
    ∙ sym (map_through n v xs) ∙ ap (map (λ t. v ∷ t)) e
  where
    map_through : (n : ℕ) (v : ℤ) (xs : List (List ℤ)) → map (λ t. v ∷ t) (map (listed_by n) xs) ≡ map (λ t. v ∷ listed_by n t) xs
    map_through n v [] = refl
    map_through n v (x ∷ xs) = ap (λ t. (v ∷ listed_by n x) ∷ t) (map_through n v xs)

map_puts : (n : ℕ) (h : ℤ → List (List ℤ)) (vs : List ℤ) → ((v : ℤ) → map (listed_by n) (h v) ≡ h v)
    → map (listed_by (suc n)) (flat_map (λ v. map (λ t. v ∷ t) (h v)) vs) ≡ flat_map (λ v. map (λ t. v ∷ t) (h v)) vs
map_puts n h [] e = refl
map_puts n h (v ∷ vs) e =
    map-append (listed_by (suc n)) (map (λ t. v ∷ t) (h v)) (flat_map (λ v. map (λ t. v ∷ t) (h v)) vs)
    ∙ ap (λ x. x ++ map (listed_by (suc n)) (flat_map (λ v. map (λ t. v ∷ t) (h v)) vs)) (map_put n v (h v) (e v))
    ∙ ap (λ x. map (λ t. v ∷ t) (h v) ++ x) (map_puts n h vs e)

-- each list that is grown by n places has n numbers
grown_whole : {S : Type 0} (next : S → ℤ → Option S) (done : S → Bool) (values : List ℤ) (n : ℕ) (seen : Option S)
    → map (listed_by n) (grown next done values n seen) ≡ grown next done values n seen
grown_whole next done values zero None = refl
grown_whole next done values (suc n) None = refl
grown_whole next done values zero (Some seen) = by (done seen)
  where
    by : (b : Bool) → map (listed_by 0) (if b then [] ∷ [] else []) ≡ (if b then [] ∷ [] else [])
    by true = refl
    by false = refl
grown_whole next done values (suc n) (Some seen) =
    map_puts n (λ v. grown next done values n (next seen v)) values (λ v. grown_whole next done values n (next seen v))

none_grown : (n : ℕ) → grown_signs n None ≡ []
none_grown zero = refl
none_grown (suc n) = refl

-- 2 and -2 are no coefficients of bounds
signs_grown : (n : ℕ) (seen : Option Signs) → grown_signs n seen ≡ grown with_sign is_any sign_values n seen
signs_grown zero None = refl
signs_grown (suc n) None = refl
signs_grown zero (Some seen) = refl
signs_grown (suc n) (Some seen) =
    rw (none_grown n, signs_grown n (with_sign seen (pos 1)), signs_grown n (with_sign seen (pos 0)), signs_grown n (with_sign seen (negsuc 0))) refl

free_coef : (s : Shape) → IsFree s → (j : ℕ) → coef_at s j ≡ pos 0
unfolding coef_at
free_coef s f j =
    rw (f.first, f.second, f.third, f.fourth, only_zero s.first.index j, only_zero s.second.index j, only_zero s.third.index j, only_zero s.fourth.index j) refl

free_ended : (n : ℕ) (s : Shape) → IsFree s → (xs : List ℤ) → ended_by n 0 s xs ≡ listed_by n xs
free_ended n s f xs =
    told_same (λ j. coef_at s j +ℤ get_or xs j (pos 0)) (λ j. get_or xs j (pos 0))
    (λ j. rw (free_coef s f j) (sym (zero_plus (get_or xs j (pos 0))))) 0 n

free_sizes : (s : Shape) → IsFree s → sizes_in s ≡ sizes 0 0
unfolding ones_of twos_of
free_sizes s f = rw (f.first, f.second, f.third, f.fourth) refl

free_signs : (s : Shape) → IsFree s → signs_in s ≡ signs false false
free_signs s f = rw (f.first, f.second) refl

free_shapes : (kind : Kind) (n : ℕ) (s : Shape) → IsFree s → map (listed_by n) (grown_after kind n s) ≡ shapes_of kind n
free_shapes Equality n s f =
    grown_whole with_coef are_coprime coef_values n (Some (sizes_in s)) ∙ ap (λ t. grown_sizes n (Some t)) (free_sizes s f)
free_shapes Bound n s f =
    grown_whole with_sign is_any coef_values n (Some (signs_in s)) ∙ ap (λ t. grown_signs n (Some t)) (free_signs s f)
    ∙ signs_grown n (Some (signs false false))

-- the shape whose terms are free becomes them all
pub all_from_free : (kind : Kind) (n : ℕ) (s : Shape) → IsFree s → all_ended kind n 0 n (s ∷ []) ≡ shapes_of kind n
unfolding all_ended
all_from_free kind n s f =
    append-nil (ended kind n 0 n s) ∙ map_same (ended_by n 0 s) (listed_by n) (free_ended n s f) (grown_after kind n s) ∙ free_shapes kind n s f

pub first_shapes : (kind : Kind) (n k : ℕ) (s : Shape) (xs ys : List Shape) → IsFree s → xs ≡ [] → ys ≡ xs ++ s ∷ [] → 0 + k ≡ n
    → all_ended kind n 0 k ys ≡ shapes_of kind n
first_shapes kind n k s xs ys f e g h =
    let same : k ≡ n = omega (arith, h) in
    rw (g, e, same) (all_from_free kind n s f)
