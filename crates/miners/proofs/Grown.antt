-- Lists made entry by entry are exactly those that are taken, in order.
use Rattle.std.proofs.Common.{◌≡◌, ℕ, zero, suc, Bool, true, false, cond, ◌⊎◌, inl, inr, List, [], ◌∷◌, ◌++◌, map, flat_map, Option, Some, None, arith, refl, sym, ◌∙◌, ap, subst, length}
use Rattle.std.specs.Prelude.{ℤ, ◌<ℤ◌}
use Rattle.miners.specs.Template.{IsGreater}
use Rattle.miners.specs.Mined.{grown}
use Rattle.miners.proofs.Listings.{Each, IsOneOf, IsListed, one_of_left, one_of_right, one_of_either, listed_append}

-- Whether the list is taken to its end.
abbrev pub takes : {S : Type 0} → (S → ℤ → Option S) → (S → Bool) → Option S → List ℤ → Bool
takes next done None xs = false
takes next done (Some seen) [] = done seen
takes next done (Some seen) (x ∷ xs) = takes next done (next seen x) xs

-- The values, each put before the lists that f gives for it.
abbrev pub spread : (ℤ → List (List ℤ)) → List ℤ → List (List ℤ)
spread f values = flat_map (λ value. map (λ coefs. value ∷ coefs) (f value)) values

-- The greater number comes first.
abbrev pub Above : ℤ → ℤ → Type 0
Above x y = y <ℤ x

one_of_put : (v x : ℤ) (xs : List ℤ) (ls : List (List ℤ)) → IsOneOf (x ∷ xs) (map (λ ys. v ∷ ys) ls) → (x ≡ v) × IsOneOf xs ls
one_of_put v x xs [] h = absurd h
one_of_put v x xs (l ∷ ls) (inl h) = (cc, inl cc)
one_of_put v x xs (l ∷ ls) (inr h) = let r = one_of_put v x xs ls h in (r.0, inr r.1)

none_put : (v : ℤ) (ls : List (List ℤ)) → IsOneOf [] (map (λ ys. v ∷ ys) ls) → ⊥
none_put v [] h = h
none_put v (l ∷ ls) (inl h) = cc
none_put v (l ∷ ls) (inr h) = none_put v ls h

put_one : (v : ℤ) (xs : List ℤ) (ls : List (List ℤ)) → IsOneOf xs ls → IsOneOf (v ∷ xs) (map (λ ys. v ∷ ys) ls)
put_one v xs [] h = absurd h
put_one v xs (l ∷ ls) (inl h) = inl (ap (λ t. v ∷ t) h)
put_one v xs (l ∷ ls) (inr h) = inr (put_one v xs ls h)

pub spread_one : (f : ℤ → List (List ℤ)) (vs : List ℤ) (x : ℤ) (xs : List ℤ) → IsOneOf (x ∷ xs) (spread f vs) → IsOneOf x vs × IsOneOf xs (f x)
spread_one f [] x xs h = absurd h
spread_one f (v ∷ vs) x xs h = by f v vs x xs (one_of_either (x ∷ xs) (map (λ ys. v ∷ ys) (f v)) (spread f vs) h) (spread_one f vs x xs)
  where
    by : (f : ℤ → List (List ℤ)) (v : ℤ) (vs : List ℤ) (x : ℤ) (xs : List ℤ) → IsOneOf (x ∷ xs) (map (λ ys. v ∷ ys) (f v)) ⊎ IsOneOf (x ∷ xs) (spread f vs)
        → (IsOneOf (x ∷ xs) (spread f vs) → IsOneOf x vs × IsOneOf xs (f x)) → IsOneOf x (v ∷ vs) × IsOneOf xs (f x)
    by f v vs x xs (inl h) k = let r = one_of_put v x xs (f v) h in (inl r.0, subst (λ t. IsOneOf xs (f t)) (sym r.0) r.1)
    by f v vs x xs (inr h) k = (inr (k h).0, (k h).1)

pub spread_nil : (f : ℤ → List (List ℤ)) (vs : List ℤ) → IsOneOf [] (spread f vs) → ⊥
spread_nil f [] h = h
spread_nil f (v ∷ vs) h = by f v vs (one_of_either [] (map (λ ys. v ∷ ys) (f v)) (spread f vs) h) (spread_nil f vs)
  where
    by : (f : ℤ → List (List ℤ)) (v : ℤ) (vs : List ℤ) → IsOneOf [] (map (λ ys. v ∷ ys) (f v)) ⊎ IsOneOf [] (spread f vs) → (IsOneOf [] (spread f vs) → ⊥) → ⊥
    by f v vs (inl h) k = none_put v (f v) h
    by f v vs (inr h) k = k h

pub one_spread : (f : ℤ → List (List ℤ)) (vs : List ℤ) (x : ℤ) (xs : List ℤ) → IsOneOf x vs → IsOneOf xs (f x) → IsOneOf (x ∷ xs) (spread f vs)
one_spread f [] x xs h k = absurd h
one_spread f (v ∷ vs) x xs (inl h) k =
    subst (λ t. IsOneOf (t ∷ xs) (spread f (v ∷ vs))) (sym h)
    (one_of_left (v ∷ xs) (map (λ ys. v ∷ ys) (f v)) (spread f vs) (put_one v xs (f v) (subst (λ t. IsOneOf xs (f t)) h k)))
one_spread f (v ∷ vs) x xs (inr h) k = one_of_right (x ∷ xs) (map (λ ys. v ∷ ys) (f v)) (spread f vs) (one_spread f vs x xs h k)

-- A taken list has only the values.
abbrev pub Within : {S : Type 0} → (S → ℤ → Option S) → List ℤ → Type 0
Within {S} step values = (s t : S) (x : ℤ) → step s x ≡ Some t → IsOneOf x values

none_taken : {S : Type 0} (step : S → ℤ → Option S) (done : S → Bool) (xs : List ℤ) → takes step done None xs ≡ true → ⊥
none_taken step done xs h = cc

next_of : {S : Type 0} (step : S → ℤ → Option S) (done : S → Bool) (o : Option S) (xs : List ℤ) → takes step done o xs ≡ true → (t : S) × (o ≡ Some t)
next_of step done None xs h = cc
next_of step done (Some t) xs h = (t, refl)

done_one : (b : Bool) (xs : List ℤ) → IsOneOf xs (cond b ([] ∷ []) []) → (xs ≡ []) × (b ≡ true)
done_one true xs (inl h) = (h, refl)
done_one true xs (inr h) = absurd h
done_one false xs h = absurd h

one_done : (b : Bool) → b ≡ true → IsOneOf {A = List ℤ} [] (cond b ([] ∷ []) [])
one_done true e = inl refl
one_done false e = cc

pub grown_taken : {S : Type 0} (step : S → ℤ → Option S) (done : S → Bool) (values : List ℤ) (n : ℕ) (o : Option S) (xs : List ℤ)
    → IsOneOf xs (grown step done values n o) → (length xs ≡ n) × (takes step done o xs ≡ true)
grown_taken step done values zero None xs h = absurd h
grown_taken step done values (suc n) None xs h = absurd h
grown_taken step done values zero (Some s) xs h =
    let r = done_one (done s) xs h in (ap length r.0, ap (λ t. takes step done (Some s) t) r.0 ∙ r.1)
grown_taken step done values (suc n) (Some s) [] h = absurd (spread_nil (λ v. grown step done values n (step s v)) values h)
grown_taken step done values (suc n) (Some s) (x ∷ xs) h =
    let r = grown_taken step done values n (step s x) xs (spread_one (λ v. grown step done values n (step s v)) values x xs h).1 in
    (ap suc r.0, r.1)

pub taken_grown : {S : Type 0} (step : S → ℤ → Option S) (done : S → Bool) (values : List ℤ) → Within step values → (n : ℕ) (o : Option S) (xs : List ℤ)
    → length xs ≡ n → takes step done o xs ≡ true → IsOneOf xs (grown step done values n o)
taken_grown step done values w n None xs e h = absurd (none_taken step done xs h)
taken_grown step done values w zero (Some s) [] e h = one_done (done s) h
taken_grown step done values w zero (Some s) (x ∷ xs) e h = absurd (omega (arith, e))
taken_grown step done values w (suc n) (Some s) [] e h = absurd (omega (arith, e))
taken_grown step done values w (suc n) (Some s) (x ∷ xs) e h =
    let t = next_of step done (step s x) xs h in
    one_spread (λ v. grown step done values n (step s v)) values x xs (w s t.0 x t.1) (taken_grown step done values w n (step s x) xs (omega (arith, e)) h)

-- ---- the order
listed_put : (v : ℤ) (ls : List (List ℤ)) → IsListed IsGreater ls → IsListed IsGreater (map (λ ys. v ∷ ys) ls)
listed_put v [] h = tt
listed_put v (l ∷ ls) h = (each_put v l ls h.0, listed_put v ls h.1)
  where
    each_put : (v : ℤ) (l : List ℤ) (ls : List (List ℤ)) → Each (IsGreater l) ls → Each (IsGreater (v ∷ l)) (map (λ ys. v ∷ ys) ls)
    each_put v l [] h = tt
    each_put v l (m ∷ ls) h = (inr (refl, h.0), each_put v l ls h.1)

before_put : (v w : ℤ) (l : List ℤ) (ls : List (List ℤ)) → w <ℤ v → Each (IsGreater (v ∷ l)) (map (λ ys. w ∷ ys) ls)
before_put v w l [] h = tt
before_put v w l (m ∷ ls) h = (inl h, before_put v w l ls h)

before_spread : (f : ℤ → List (List ℤ)) (v : ℤ) (vs : List ℤ) (l : List ℤ) → Each (Above v) vs → Each (IsGreater (v ∷ l)) (spread f vs)
before_spread f v [] l h = tt
before_spread f v (w ∷ vs) l h = each_both (v ∷ l) (map (λ ys. w ∷ ys) (f w)) (spread f vs) (before_put v w l (f w) h.0) (before_spread f v vs l h.1)
  where
    each_both : (l : List ℤ) (xs ys : List (List ℤ)) → Each (IsGreater l) xs → Each (IsGreater l) ys → Each (IsGreater l) (xs ++ ys)
    each_both l [] ys h k = k
    each_both l (x ∷ xs) ys h k = (h.0, each_both l xs ys h.1 k)

all_before : (f : ℤ → List (List ℤ)) (v : ℤ) (vs : List ℤ) (ls : List (List ℤ)) → Each (Above v) vs
    → Each (λ x. Each (IsGreater x) (spread f vs)) (map (λ ys. v ∷ ys) ls)
all_before f v vs [] h = tt
all_before f v vs (l ∷ ls) h = (before_spread f v vs l h, all_before f v vs ls h)

pub listed_spread : (f : ℤ → List (List ℤ)) (vs : List ℤ) → IsListed Above vs → ((v : ℤ) → IsListed IsGreater (f v)) → IsListed IsGreater (spread f vs)
listed_spread f [] h k = tt
listed_spread f (v ∷ vs) h k = listed_append IsGreater (map (λ ys. v ∷ ys) (f v)) (spread f vs) (listed_put v (f v) (k v)) (listed_spread f vs h.1 k)
    (all_before f v vs (f v) h.0)

listed_done : (b : Bool) → IsListed IsGreater (cond b ([] ∷ []) [])
listed_done true = (tt, tt)
listed_done false = tt

pub listed_grown : {S : Type 0} (step : S → ℤ → Option S) (done : S → Bool) (values : List ℤ) → IsListed Above values → (n : ℕ) (o : Option S)
    → IsListed IsGreater (grown step done values n o)
listed_grown step done values h zero None = tt
listed_grown step done values h (suc n) None = tt
listed_grown step done values h zero (Some s) = listed_done (done s)
listed_grown step done values h (suc n) (Some s) =
    listed_spread (λ v. grown step done values n (step s v)) values h (λ v. listed_grown step done values h n (step s v))
