-- Clauses that are made one after another are those of the walk.
use Rattle.std.proofs.Common.{◌≡◌, ℕ, zero, suc, ◌+◌, ◌-◌, ◌<◌, ◌≤◌, List, [], ◌∷◌, ◌++◌, length, map, drop, get_or, refl, sym, ap, subst, ◌∙◌, append_assoc, append-nil, length-append, ◌⊎◌, inl, inr, arith}
use Rattle.std.specs.Prelude.{Result, Ok, Err}
use Rattle.std.proofs.lemmas.List.{at_drop_more, at_drop_all}
use Rattle.horn_clauses.specs.declared.clause.Clause.{Clause}
use Rattle.sym_paths.specs.declared.limit.PathLimit.{PathLimit}
use Rattle.sym_paths.specs.declared.limit.PathLimit.TheVariants as limit
use Rattle.sym_paths.specs.Walk.{Path, Arrives, Stops, Walk, more, collect}
use Rattle.path_product.specs.Compose.{each}
use Rattle.path_product.specs.Clauses.{values_of_all}
use Rattle.path_product.specs.Making.{behind_clauses, made_on, Leaves, Adds, Ends, MeetsLimit}

-- ---- one thing that a walk meets

made_more : (made : List Clause) (path : Path Clause) (r : Result (List (Path Clause)) PathLimit)
    → behind_clauses made (values_of_all (more path r)) ≡ behind_clauses (made ++ path.value ∷ []) (values_of_all r)
made_more made path (Ok paths) =
    ap (λ (cs : List Clause). Ok cs) (sym (append_assoc made (path.value ∷ []) (map (λ (p : Path Clause). p.value) paths)))
made_more made path (Err why) = refl

pub one_joins : (made : List Clause) (path : Path Clause) → length made < 1024 → Adds (Arrives path ∷ []) made (made ++ path.value ∷ [])
one_joins made path few = record {
  same = λ others.
      let long : length (made ++ path.value ∷ []) ≡ length made + 1 = length-append made (path.value ∷ []) in
      let one : 1024 - length made ≡ suc (1024 - length (made ++ path.value ∷ [])) = omega (arith, few, long) in
      ap (λ (n : ℕ). behind_clauses made (values_of_all (collect n (Arrives path ∷ others)))) one
      ∙ made_more made path (collect (1024 - length (made ++ path.value ∷ [])) others);
}

pub one_too_many : (made : List Clause) (path : Path Clause) → 1024 ≤ length made → Ends (Arrives path ∷ []) made limit.ManyPaths
one_too_many made path all = record {
  same = λ others.
      let none : 1024 - length made ≡ 0 = omega (arith, all) in
      ap (λ (n : ℕ). behind_clauses made (values_of_all (collect n (Arrives path ∷ others)))) none;
}

stopped : (n : ℕ) (why : PathLimit) (others : Walk Clause) → collect n (Stops why ∷ others) ≡ Err why
stopped zero why others = refl
stopped (suc n) why others = refl

pub one_stops : (made : List Clause) (why : PathLimit) → Ends (Stops why ∷ []) made why
one_stops made why = record {
  same = λ others. ap (λ (r : Result (List (Path Clause)) PathLimit). behind_clauses made (values_of_all r))
      (stopped (1024 - length made) why others);
}

-- ---- walks one after another

pub all_left : (walk : Walk Clause) (made : List Clause) → Leaves walk walk made made
all_left walk made = record { same = λ others. refl }

pub next_adds : (walk first rest : Walk Clause) (made made' made'' : List Clause) → Leaves walk (first ++ rest) made made' → Adds first made' made''
    → Leaves walk rest made made''
next_adds walk first rest made made' made'' left adds = record {
  same = λ others.
      left.same others ∙ ap (λ (w : Walk Clause). made_on made' w) (append_assoc first rest others) ∙ adds.same (rest ++ others);
}

pub next_ends : (walk first rest : Walk Clause) (made made' : List Clause) (why : PathLimit) → Leaves walk (first ++ rest) made made'
    → MeetsLimit first made' why → MeetsLimit walk made why
next_ends walk first rest made made' why left (inl memory) = inl memory
next_ends walk first rest made made' why left (inr ends) = inr (record {
  same = λ others.
      left.same others ∙ ap (λ (w : Walk Clause). made_on made' w) (append_assoc first rest others) ∙ ends.same (rest ++ others);
})

-- ---- loops over lists

module _ (A : Type 0) (f : A → Walk Clause) (xs : List A) (i : ℕ) (x : A) (inside : i < length xs) (is : x ≡ get_or xs i x)
    (made made' : List Clause) (left : Leaves (each xs f) (each (drop i xs) f) made made') where
  each_next : Leaves (each xs f) (f x ++ each (drop (i + 1) xs) f) made made'
  each_next =
      subst (λ (w : Walk Clause). Leaves (each xs f) w made made')
      (at_drop_more (λ (ys : List A). each ys f) xs i x inside ∙ ap (λ (y : A). f y ++ each (drop (i + 1) xs) f) (sym is)) left

  pub turn_adds : (made'' : List Clause) → Adds (f x) made' made'' → Leaves (each xs f) (each (drop (i + 1) xs) f) made made''
  turn_adds made'' adds = next_adds (each xs f) (f x) (each (drop (i + 1) xs) f) made made' made'' each_next adds

  pub turn_ends : (why : PathLimit) → MeetsLimit (f x) made' why → MeetsLimit (each xs f) made why
  turn_ends why ends = next_ends (each xs f) (f x) (each (drop (i + 1) xs) f) made made' why each_next ends

module _ (A B : Type 0) (view : A → B) (f : B → Walk Clause) (xs : List A) (i : ℕ) (x : A) (inside : i < length xs) (is : x ≡ get_or xs i x)
    (made made' : List Clause) (left : Leaves (each (map view xs) f) (each (map view (drop i xs)) f) made made') where
  mapped_next : Leaves (each (map view xs) f) (f (view x) ++ each (map view (drop (i + 1) xs)) f) made made'
  mapped_next =
      subst (λ (w : Walk Clause). Leaves (each (map view xs) f) w made made')
      (at_drop_more (λ (ys : List A). each (map view ys) f) xs i x inside
      ∙ ap (λ (y : A). f (view y) ++ each (map view (drop (i + 1) xs)) f) (sym is)) left

  pub mapped_turn_adds : (made'' : List Clause) → Adds (f (view x)) made' made''
      → Leaves (each (map view xs) f) (each (map view (drop (i + 1) xs)) f) made made''
  mapped_turn_adds made'' adds =
      next_adds (each (map view xs) f) (f (view x)) (each (map view (drop (i + 1) xs)) f) made made' made'' mapped_next adds

  pub mapped_turn_ends : (why : PathLimit) → MeetsLimit (f (view x)) made' why → MeetsLimit (each (map view xs) f) made why
  mapped_turn_ends why ends =
      next_ends (each (map view xs) f) (f (view x)) (each (map view (drop (i + 1) xs)) f) made made' why mapped_next ends

-- ---- all clauses of a node

none_in_front : (r : Result (List Clause) PathLimit) → behind_clauses [] r ≡ r
none_in_front (Ok clauses) = refl
none_in_front (Err why) = refl

from_nothing : (walk : Walk Clause) → made_on [] (walk ++ []) ≡ values_of_all (collect 1024 walk)
from_nothing walk =
    ap (λ (w : Walk Clause). made_on [] w) (append-nil walk) ∙ none_in_front (values_of_all (collect 1024 walk))

pub all_made : (walk : Walk Clause) (made : List Clause) → Adds walk [] made → values_of_all (collect 1024 walk) ≡ Ok made
all_made walk made adds = sym (from_nothing walk) ∙ adds.same [] ∙ ap (λ (cs : List Clause). Ok cs) (append-nil made)

pub limit_met : (walk : Walk Clause) (why : PathLimit) → MeetsLimit walk [] why
    → (why ≡ limit.Memory) ⊎ (values_of_all (collect 1024 walk) ≡ Err why)
limit_met walk why (inl memory) = inl memory
limit_met walk why (inr ends) = inr (sym (from_nothing walk) ∙ ends.same [])

pub all_turned : (A : Type 0) (f : A → Walk Clause) (xs : List A) (i : ℕ) (made : List Clause) → length xs ≤ i
    → Leaves (each xs f) (each (drop i xs) f) [] made → values_of_all (collect 1024 (each xs f)) ≡ Ok made
all_turned A f xs i made last left =
    all_made (each xs f) made
    (subst (λ (w : Walk Clause). Leaves (each xs f) w [] made) (at_drop_all (λ (ys : List A). each ys f) xs i last) left)
