-- Lists of nodes and of places: what is in them, what is taken out, and their order.
use Rattle.std.proofs.Common.{◌≡◌, ◌≢◌, zero, suc, ◌<◌, ◌≤◌, Bool, true, false, not, ◌||◌, ◌⊎◌, inl, inr, ⊎_elim, List, [], ◌∷◌, ◌++◌, length, map, All, Contains, refl, sym, ap, subst, ◌∙◌, true≢false, arith}
use Rattle.std.proofs.lemmas.List.Elements.{All-nil, All-cons, All-head, All-tail}
use Rattle.c_ast.specs.declared.place.Place.{Place}
use Rattle.c_ast.specs.Place.{ComesBefore}
use Rattle.horn_clauses.specs.declared.node.Node.{Node}
use Rattle.horn_clauses.specs.Node.{node, is_same_node, StandsBefore}
use Rattle.horn_clauses.proofs.Laws.{law_of_nodes}
use Rattle.sym_paths.specs.Points.{EachOf, SomeOf}
use Rattle.path_product.specs.Product.{is_among, put_if, kept, without, pairs}
use Rattle.path_product.specs.Agreement.{AreOrdered}

-- ---- truth values

pub decide : (b : Bool) → (b ≡ true) ⊎ (b ≡ false)
decide true = inl refl
decide false = inr refl

pub or_first : (a b : Bool) → a ≡ true → (a || b) ≡ true
or_first true b is = refl
or_first false b is = cc

pub or_second : (a b : Bool) → b ≡ true → (a || b) ≡ true
or_second true b is = refl
or_second false b is = is

pub or_either : (a b : Bool) → (a || b) ≡ true → (a ≡ true) ⊎ (b ≡ true)
or_either true b is = inl refl
or_either false b is = inr is

not_false : (b : Bool) → b ≡ false → not b ≡ true
not_false true is = cc
not_false false is = refl

false_of : (b : Bool) → (b ≡ true → ⊥) → b ≡ false
false_of true never = absurd (never refl)
false_of false never = refl

pub node_is_itself : (n : Node) → is_same_node n n ≡ true
node_is_itself n = (law_of_nodes n n).1 refl

-- ---- what is in a list

-- The list has it, read from the front.
abbrev pub IsIn : {A : Type 0} → A → List A → Type 0
IsIn x [] = ⊥
IsIn x (y ∷ ys) = (x ≡ y) ⊎ IsIn x ys

module _ {A : Type 0} where
  pub contains_in : (x : A) (xs : List A) → IsIn x xs → Contains xs x
  contains_in x [] has = absurd has
  contains_in x (y ∷ ys) (inl same) = (0, omega arith, sym same)
  contains_in x (y ∷ ys) (inr has) = let found = contains_in x ys has in (suc found.0, omega (arith, found.1), found.2)

  pub in_contained : (x : A) (xs : List A) → Contains xs x → IsIn x xs
  in_contained x [] (k, within, is) = absurd (omega (arith, within))
  in_contained x (y ∷ ys) (zero, within, is) = inl (sym is)
  in_contained x (y ∷ ys) (suc k, within, is) = inr (in_contained x ys (k, omega arith, is))

  pub in_left : (x : A) (xs ys : List A) → IsIn x xs → IsIn x (xs ++ ys)
  in_left x [] ys has = absurd has
  in_left x (z ∷ xs) ys (inl same) = inl same
  in_left x (z ∷ xs) ys (inr has) = inr (in_left x xs ys has)

  pub in_right : (x : A) (xs ys : List A) → IsIn x ys → IsIn x (xs ++ ys)
  in_right x [] ys has = has
  in_right x (z ∷ xs) ys has = inr (in_right x xs ys has)

  pub in_either : (x : A) (xs ys : List A) → IsIn x (xs ++ ys) → IsIn x xs ⊎ IsIn x ys
  in_either x [] ys has = inr has
  in_either x (z ∷ xs) ys (inl same) = inl (inl same)
  in_either x (z ∷ xs) ys (inr has) = ⊎_elim (λ first. inl (inr first)) (λ second. inr second) (in_either x xs ys has)

  pub all_in : (P : A → Type 0) (xs : List A) → ((x : A) → IsIn x xs → P x) → All P xs
  all_in P [] each = All-nil P
  all_in P (x ∷ xs) each = All-cons P x xs (each x (inl refl)) (all_in P xs (λ y has. each y (inr has)))

  pub in_all : (P : A → Type 0) (xs : List A) → All P xs → (x : A) → IsIn x xs → P x
  in_all P [] all x has = absurd has
  in_all P (y ∷ ys) all x (inl same) = subst P (sym same) (All-head P y ys all)
  in_all P (y ∷ ys) all x (inr has) = in_all P ys (All-tail P y ys all) x has

  pub each_in : (P : A → Type 0) (xs : List A) → ((x : A) → IsIn x xs → P x) → EachOf P xs
  each_in P [] each = tt
  each_in P (x ∷ xs) each = (each x (inl refl), each_in P xs (λ y has. each y (inr has)))

  pub in_each : (P : A → Type 0) (xs : List A) → EachOf P xs → (x : A) → IsIn x xs → P x
  in_each P [] each x has = absurd has
  in_each P (y ∷ ys) each x (inl same) = subst P (sym same) each.0
  in_each P (y ∷ ys) each x (inr has) = in_each P ys each.1 x has

  pub some_in : (P : A → Type 0) (xs : List A) (x : A) → IsIn x xs → P x → SomeOf P xs
  some_in P [] x has is = absurd has
  some_in P (y ∷ ys) x (inl same) is = inl (subst P same is)
  some_in P (y ∷ ys) x (inr has) is = inr (some_in P ys x has is)

  pub in_some : (P : A → Type 0) (xs : List A) → SomeOf P xs → (x : A) × IsIn x xs × P x
  in_some P [] some = absurd some
  in_some P (x ∷ xs) (inl here) = (x, inl refl, here)
  in_some P (x ∷ xs) (inr later) = let found = in_some P xs later in (found.0, inr found.1, found.2)

  pub put_has : (b : Bool) (x : A) (xs : List A) → b ≡ true → IsIn x (put_if b x xs)
  put_has true x xs is = inl refl
  put_has false x xs is = cc

  pub put_keeps : (b : Bool) (x y : A) (xs : List A) → IsIn y xs → IsIn y (put_if b x xs)
  put_keeps true x y xs has = inr has
  put_keeps false x y xs has = has

  pub put_from : (b : Bool) (x y : A) (xs : List A) → IsIn y (put_if b x xs) → ((b ≡ true) × (y ≡ x)) ⊎ IsIn y xs
  put_from true x y xs (inl same) = inl (refl, same)
  put_from true x y xs (inr has) = inr has
  put_from false x y xs has = inr has

  pub put_length : (b : Bool) (x : A) (xs : List A) → length (put_if b x xs) ≤ suc (length xs)
  put_length true x xs = omega arith
  put_length false x xs = omega arith

pub in_map : {A B : Type 0} (f : A → B) (x : A) (xs : List A) → IsIn x xs → IsIn (f x) (map f xs)
in_map f x [] has = absurd has
in_map f x (y ∷ ys) (inl same) = inl (ap f same)
in_map f x (y ∷ ys) (inr has) = inr (in_map f x ys has)

pub from_map : {A B : Type 0} (f : A → B) (y : B) (xs : List A) → IsIn y (map f xs) → (x : A) × IsIn x xs × (y ≡ f x)
from_map f y [] has = absurd has
from_map f y (x ∷ xs) (inl same) = (x, inl refl, same)
from_map f y (x ∷ xs) (inr has) = let found = from_map f y xs has in (found.0, inr found.1, found.2)

-- ---- nodes among nodes

pub among_in : (n : Node) (nodes : List Node) → IsIn n nodes → is_among n nodes ≡ true
among_in n [] has = absurd has
among_in n (m ∷ nodes) (inl same) = or_first (is_same_node n m) (is_among n nodes) ((law_of_nodes n m).1 same)
among_in n (m ∷ nodes) (inr has) = or_second (is_same_node n m) (is_among n nodes) (among_in n nodes has)

pub in_among : (n : Node) (nodes : List Node) → is_among n nodes ≡ true → IsIn n nodes
in_among n [] is = cc
in_among n (m ∷ nodes) is =
    ⊎_elim (λ here. inl ((law_of_nodes n m).0 here)) (λ later. inr (in_among n nodes later)) (or_either (is_same_node n m) (is_among n nodes) is)

pub in_kept : (test : Node → Bool) (n : Node) (nodes : List Node) → IsIn n nodes → test n ≡ true → IsIn n (kept test nodes)
in_kept test n [] has passes = absurd has
in_kept test n (m ∷ nodes) (inl same) passes =
    subst (λ (z : Node). IsIn z (put_if (test m) m (kept test nodes))) (sym same)
    (put_has (test m) m (kept test nodes) (ap test (sym same) ∙ passes))
in_kept test n (m ∷ nodes) (inr has) passes = put_keeps (test m) m n (kept test nodes) (in_kept test n nodes has passes)

pub kept_from : (test : Node → Bool) (n : Node) (nodes : List Node) → IsIn n (kept test nodes) → IsIn n nodes × (test n ≡ true)
kept_from test n [] has = absurd has
kept_from test n (m ∷ nodes) has =
    ⊎_elim (λ here. (inl here.1, ap test here.1 ∙ here.0)) (λ later. let found = kept_from test n nodes later in (inr found.0, found.1))
    (put_from (test m) m n (kept test nodes) has)

kept_shorter : (test : Node → Bool) (nodes : List Node) → length (kept test nodes) ≤ length nodes
kept_shorter test [] = omega arith
kept_shorter test (m ∷ nodes) = omega (arith, kept_shorter test nodes, put_length (test m) m (kept test nodes))

kept_less : (test : Node → Bool) (n : Node) (nodes : List Node) → IsIn n nodes → test n ≡ false → length (kept test nodes) < length nodes
kept_less test n [] has fails = absurd has
kept_less test n (m ∷ nodes) (inl same) fails =
    subst (λ (b : Bool). length (put_if b m (kept test nodes)) < suc (length nodes)) (sym (ap test (sym same) ∙ fails))
    (omega (arith, kept_shorter test nodes))
kept_less test n (m ∷ nodes) (inr has) fails =
    omega (arith, kept_less test n nodes has fails, put_length (test m) m (kept test nodes))

-- ---- without a node

-- another one stays
pub stays_without : (n m : Node) (nodes : List Node) → n ≢ m → IsIn n nodes → IsIn n (without m nodes)
stays_without n m nodes other has =
    in_kept (λ k. not (is_same_node m k)) n nodes has
    (not_false (is_same_node m n) (false_of (is_same_node m n) (λ is. other (sym ((law_of_nodes m n).0 is)))))

pub from_without : (n m : Node) (nodes : List Node) → IsIn n (without m nodes) → IsIn n nodes
from_without n m nodes has = (kept_from (λ k. not (is_same_node m k)) n nodes has).0

pub without_shorter : (n : Node) (nodes : List Node) → length (without n nodes) ≤ length nodes
without_shorter n nodes = kept_shorter (λ m. not (is_same_node n m)) nodes

pub without_less : (n : Node) (nodes : List Node) → IsIn n nodes → length (without n nodes) < length nodes
without_less n nodes has = kept_less (λ m. not (is_same_node n m)) n nodes has (ap not (node_is_itself n))

-- Two nodes are one, or they are not.
pub same_or_other : (n m : Node) → (n ≡ m) ⊎ (n ≢ m)
same_or_other n m =
    ⊎_elim (λ is. inl ((law_of_nodes n m).0 is)) (λ is. inr (λ same. true≢false (sym ((law_of_nodes n m).1 same) ∙ is)))
    (decide (is_same_node n m))

-- ---- order

-- Each comes before all that stand behind it.
abbrev pub Rise : {A : Type 0} → (A → A → Type 0) → List A → Type 0
Rise R [] = Unit {0}
Rise R (x ∷ xs) = EachOf (R x) xs × Rise R xs

module _ {A : Type 0} (R : A → A → Type 0) where
  pub rise_joined : (xs ys : List A) → Rise R xs → Rise R ys → ((x y : A) → IsIn x xs → IsIn y ys → R x y) → Rise R (xs ++ ys)
  rise_joined [] ys first second before = second
  rise_joined (x ∷ xs) ys first second before = (
    each_in (R x) (xs ++ ys) (λ y has. ⊎_elim (λ here. in_each (R x) xs first.0 y here) (λ there. before x y (inl refl) there) (in_either y xs ys has)),
    rise_joined xs ys first.1 second (λ a b one other. before a b (inr one) other),
  )

pub rise_kept : (test : Node → Bool) (nodes : List Node) → Rise StandsBefore nodes → Rise StandsBefore (kept test nodes)
rise_kept test [] rise = tt
rise_kept test (n ∷ nodes) rise = go (test n) (rise_kept test nodes rise.1)
  where
    behind : EachOf (StandsBefore n) (kept test nodes)
    behind = each_in (StandsBefore n) (kept test nodes) (λ m has. in_each (StandsBefore n) nodes rise.0 m (kept_from test m nodes has).0)

    go : (b : Bool) → Rise StandsBefore (kept test nodes) → Rise StandsBefore (put_if b n (kept test nodes))
    go true others = (behind, others)
    go false others = others

pub rise_ordered : (nodes : List Node) → Rise StandsBefore nodes → AreOrdered nodes
rise_ordered [] rise = tt
rise_ordered (n ∷ []) rise = tt
rise_ordered (n ∷ m ∷ nodes) rise = (rise.0.0, rise_ordered (m ∷ nodes) rise.1)

-- ---- pairs of places

pub in_pairs : (l r : Place) (first second : List Place) → IsIn l first → IsIn r second → IsIn (node l r) (pairs first second)
in_pairs l r [] second one other = absurd one
in_pairs l r (m ∷ first) second (inl same) other =
    in_left (node l r) (map (node m) second) (pairs first second)
    (subst (λ (z : Place). IsIn (node z r) (map (node m) second)) (sym same) (in_map (node m) r second other))
in_pairs l r (m ∷ first) second (inr one) other =
    in_right (node l r) (map (node m) second) (pairs first second) (in_pairs l r first second one other)

pub from_pairs : (n : Node) (first second : List Place) → IsIn n (pairs first second) → IsIn n.0 first × IsIn n.1 second
from_pairs n [] second has = absurd has
from_pairs n (l ∷ first) second has =
    ⊎_elim (λ here. let found = from_map (node l) n second here in
    (inl (ap (λ (z : Node). z.0) found.2), subst (λ (z : Place). IsIn z second) (sym (ap (λ (z : Node). z.1) found.2)) found.1))
    (λ later. let found = from_pairs n first second later in (inr found.0, found.1))
    (in_either n (map (node l) second) (pairs first second) has)

rise_row : (l : Place) (second : List Place) → Rise ComesBefore second → Rise StandsBefore (map (node l) second)
rise_row l [] rise = tt
rise_row l (r ∷ second) rise = (
  each_in (StandsBefore (node l r)) (map (node l) second)
      (λ n has. let found = from_map (node l) n second has in
      subst (StandsBefore (node l r)) (sym found.2) (inr (refl, in_each (ComesBefore r) second rise.0 found.0 found.1))),
  rise_row l second rise.1,
)

pub rise_pairs : (first second : List Place) → Rise ComesBefore first → Rise ComesBefore second → Rise StandsBefore (pairs first second)
rise_pairs [] second one other = tt
rise_pairs (l ∷ first) second one other =
    rise_joined StandsBefore (map (node l) second) (pairs first second) (rise_row l second other) (rise_pairs first second one.1 other)
    (λ n m here later. let at = ap (λ (z : Node). z.0) (from_map (node l) n second here).2 in
    inl (subst (λ (z : Place). ComesBefore z m.0) (sym at) (in_each (ComesBefore l) first one.0 m.0 (from_pairs m first second later).0)))
