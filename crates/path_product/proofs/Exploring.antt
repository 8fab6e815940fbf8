-- The queue's list, of which a part is taken, and the definition's two lists: what waits, and what is not met.
use Rattle.std.proofs.Common.{◌≡◌, ℕ, suc, ◌+◌, ◌-◌, ◌<◌, ◌≤◌, Bool, true, false, not, ◌&&◌, ◌||◌, List, [], ◌∷◌, ◌++◌, length, take, drop, get_or, All, refl, sym, ap, ◌∙◌, append_assoc, append-nil, length-append, arith}
use Rattle.std.specs.Prelude.{if◌then◌else◌, Result, Ok, Err}
use Rattle.std.proofs.lemmas.List.{at_drop_more, take_all, drop_all, take_more, take-append-le, drop-append-le}
use Rattle.std.proofs.lemmas.List.Elements.{All-head, All-tail}
use Rattle.horn_clauses.specs.declared.node.Node.{Node}
use Rattle.horn_clauses.specs.declared.clause.Clause.{Clause}
use Rattle.horn_clauses.specs.declared.clause.Product.{Product}
use Rattle.horn_clauses.specs.Node.{entries, is_same_node}
use Rattle.horn_clauses.proofs.Laws.{law_of_nodes}
use Rattle.path_product.specs.declared.limit.ProductLimit.{ProductLimit}
use Rattle.path_product.specs.Product.{is_among, put_if, kept, without, and_then, Visit, fresh, remaining, more_visits, visited, explored, nodes_of, all_clauses, product_of_visits}
use Rattle.path_product.specs.Queue.{met_with, met_after, unmet, product_with, is_listed, product_from, AreFew}
use Rattle.path_product.proofs.Nodes.{same_turned, among_last, among_same, or_none}

-- ---- lists of nodes that pass a test

put_twice : (a b : Bool) (n : Node) (others : List Node) (f : Node → Bool) → f n ≡ b
    → kept f (put_if a n others) ≡ put_if (a && b) n (kept f others)
put_twice true true n others f is = ap (λ (c : Bool). put_if c n (kept f others)) is
put_twice true false n others f is = ap (λ (c : Bool). put_if c n (kept f others)) is
put_twice false b n others f is = refl

pub kept_twice : (f g : Node → Bool) (nodes : List Node) → kept g (kept f nodes) ≡ kept (λ n. f n && g n) nodes
kept_twice f g [] = refl
kept_twice f g (n ∷ nodes) =
    put_twice (f n) (g n) n (kept f nodes) g refl ∙ ap (put_if (f n && g n) n) (kept_twice f g nodes)

pub kept_alike : (f g : Node → Bool) (nodes : List Node) → ((n : Node) → f n ≡ g n) → kept f nodes ≡ kept g nodes
kept_alike f g [] alike = refl
kept_alike f g (n ∷ nodes) alike =
    ap (λ (b : Bool). put_if b n (kept f nodes)) (alike n) ∙ ap (put_if (g n) n) (kept_alike f g nodes alike)

and_none : (b : Bool) → (b && false) ≡ false
and_none true = refl
and_none false = refl

kept_first : (n m : Node) (f : Node → Bool) (nodes : List Node) (others : Bool) (same test : Bool) → is_same_node n m ≡ same → f m ≡ test
    → is_among n nodes ≡ (others && f n) → is_among n (put_if test m nodes) ≡ ((same || others) && f n)
kept_first n m f nodes others true true same_is test_is step =
    let one : n ≡ m = (law_of_nodes n m).0 same_is in
    ap (λ (b : Bool). b || is_among n nodes) same_is ∙ sym test_is ∙ ap f (sym one)
kept_first n m f nodes others true false same_is test_is step =
    let one : n ≡ m = (law_of_nodes n m).0 same_is in
    let fails : f n ≡ false = ap f one ∙ test_is in
    step ∙ ap (λ (b : Bool). others && b) fails ∙ and_none others ∙ sym fails
kept_first n m f nodes others false true same_is test_is step = ap (λ (b : Bool). b || is_among n nodes) same_is ∙ step
kept_first n m f nodes others false false same_is test_is step = step

pub among_kept : (n : Node) (f : Node → Bool) (nodes : List Node) → is_among n (kept f nodes) ≡ (is_among n nodes && f n)
among_kept n f [] = refl
among_kept n f (m ∷ nodes) =
    kept_first n m f (kept f nodes) (is_among n nodes) (is_same_node n m) (f m) refl refl (among_kept n f nodes)

pub kept_all : (nodes : List Node) → kept (λ n. not false) nodes ≡ nodes
kept_all [] = refl
kept_all (n ∷ nodes) = ap (λ (ns : List Node). n ∷ ns) (kept_all nodes)

length_put : (b : Bool) (n : Node) (nodes : List Node) → length (put_if b n nodes) ≤ suc (length nodes)
length_put true n nodes = omega arith
length_put false n nodes = omega arith

pub length_kept : (f : Node → Bool) (nodes : List Node) → length (kept f nodes) ≤ length nodes
length_kept f [] = omega arith
length_kept f (n ∷ nodes) = omega (arith, length_put (f n) n (kept f nodes), length_kept f nodes)

fewer : (m n : Node) (nodes : List Node) (same : Bool) → is_same_node m n ≡ same
    → (is_among m nodes ≡ true → length (without m nodes) < length nodes) → (same || is_among m nodes) ≡ true
    → length (put_if (not same) n (without m nodes)) < suc (length nodes)
fewer m n nodes true is others among = omega (arith, length_kept (λ k. not (is_same_node m k)) nodes)
fewer m n nodes false is others among = omega (arith, others among)

pub length_without : (m : Node) (nodes : List Node) → is_among m nodes ≡ true → length (without m nodes) < length nodes
length_without m [] among = absurd cc
length_without m (n ∷ nodes) among = fewer m n nodes (is_same_node m n) refl (length_without m nodes) among

-- ---- a node that is met

among_with_met : (n m : Node) (met : List Node) (same : Bool) → is_same_node n m ≡ same → is_among m met ≡ true
    → is_among n met ≡ (is_among n met || same)
among_with_met n m met true is among =
    let has : is_among n met ≡ true = sym (among_same n m met is) ∙ among in
    has ∙ sym (ap (λ (b : Bool). b || true) has)
among_with_met n m met false is among = sym (or_none (is_among n met))

among_with_case : (n m : Node) (met : List Node) (has : Bool) → is_among m met ≡ has
    → is_among n (if has then met else met ++ m ∷ []) ≡ (is_among n met || is_same_node n m)
among_with_case n m met true is = among_with_met n m met (is_same_node n m) refl is
among_with_case n m met false is = among_last n m met

pub among_with : (n m : Node) (met : List Node) → is_among n (met_with met m) ≡ (is_among n met || is_same_node n m)
among_with n m met = among_with_case n m met (is_among m met) refl

neither : (a b : Bool) → not (a || b) ≡ (not a && not b)
neither true b = refl
neither false b = refl

pub unmet_with : (met all : List Node) (m : Node) → unmet (met_with met m) all ≡ without m (unmet met all)
unmet_with met all m =
    kept_alike (λ n. not (is_among n (met_with met m))) (λ n. not (is_among n met) && not (is_same_node m n)) all
    (λ n. ap not (among_with n m met) ∙ neither (is_among n met) (is_same_node n m)
    ∙ ap (λ (b : Bool). not (is_among n met) && not b) (same_turned n m))
    ∙ sym (kept_twice (λ n. not (is_among n met)) (λ n. not (is_same_node m n)) all)

-- a node of all is among those that are not met where it is not met
unmet_is : (met all : List Node) (m : Node) → is_among m all ≡ true → is_among m (unmet met all) ≡ not (is_among m met)
unmet_is met all m within =
    among_kept m (λ n. not (is_among n met)) all ∙ ap (λ (b : Bool). b && not (is_among m met)) within

with_is_case : (met : List Node) (m : Node) (has : Bool) → (if has then met else met ++ m ∷ []) ≡ met ++ put_if (not has) m []
with_is_case met m true = sym (append-nil met)
with_is_case met m false = refl

with_is : (met all : List Node) (m : Node) → is_among m all ≡ true → met_with met m ≡ met ++ put_if (is_among m (unmet met all)) m []
with_is met all m within =
    with_is_case met m (is_among m met) ∙ ap (λ (b : Bool). met ++ put_if b m []) (sym (unmet_is met all m within))

few_case : (met all : List Node) (m : Node) (has : Bool) → is_among m met ≡ has → is_among m all ≡ true → AreFew all met
    → AreFew all (if has then met else met ++ m ∷ [])
few_case met all m true is within few = few
few_case met all m false is within few =
    let new : met_with met m ≡ met ++ m ∷ [] = ap (λ (b : Bool). if b then met else met ++ m ∷ []) is in
    let rest : unmet (met ++ m ∷ []) all ≡ without m (unmet met all) = ap (λ (ns : List Node). unmet ns all) (sym new) ∙ unmet_with met all m in
    let less : length (without m (unmet met all)) < length (unmet met all) =
    length_without m (unmet met all) (unmet_is met all m within ∙ ap not is) in
    let rest_length : length (unmet (met ++ m ∷ []) all) ≡ length (without m (unmet met all)) = ap (λ (ns : List Node). length ns) rest in
    let long : length (met ++ m ∷ []) ≡ length met + 1 = length-append met (m ∷ []) in
    omega (arith, few, less, rest_length, long)

pub few_with : (met all : List Node) (m : Node) → is_among m all ≡ true → AreFew all met → AreFew all (met_with met m)
few_with met all m within few = few_case met all m (is_among m met) refl within few

-- ---- the ends of clauses

put_in_front : (b : Bool) (m : Node) (met others : List Node) → (met ++ put_if b m []) ++ others ≡ met ++ put_if b m others
put_in_front true m met others = append_assoc met (m ∷ []) others
put_in_front false m met others = append_assoc met [] others

-- each clause ends at one of all nodes
abbrev pub EndWithin : List Node → List Clause → Type 0
EndWithin all clauses = All (λ clause. is_among clause.to all ≡ true) clauses

first_within : (all : List Node) (clause : Clause) (clauses : List Clause) → EndWithin all (clause ∷ clauses) → is_among clause.to all ≡ true
first_within all clause clauses within = All-head (λ (c : Clause). is_among c.to all ≡ true) clause clauses within

others_within : (all : List Node) (clause : Clause) (clauses : List Clause) → EndWithin all (clause ∷ clauses) → EndWithin all clauses
others_within all clause clauses within = All-tail (λ (c : Clause). is_among c.to all ≡ true) clause clauses within

pub remaining_is : (met all : List Node) (clauses : List Clause)
    → remaining (unmet met all) clauses ≡ unmet (met_after met clauses) all
remaining_is met all [] = refl
remaining_is met all (clause ∷ clauses) =
    ap (λ (left : List Node). remaining left clauses) (sym (unmet_with met all clause.to))
    ∙ remaining_is (met_with met clause.to) all clauses

pub met_after_is : (met all : List Node) (clauses : List Clause) → EndWithin all clauses
    → met_after met clauses ≡ met ++ fresh (unmet met all) clauses
met_after_is met all [] within = sym (append-nil met)
met_after_is met all (clause ∷ clauses) within =
    met_after_is (met_with met clause.to) all clauses (others_within all clause clauses within)
    ∙ ap (λ (left : List Node). met_with met clause.to ++ fresh left clauses) (unmet_with met all clause.to)
    ∙ ap (λ (ns : List Node). ns ++ fresh (without clause.to (unmet met all)) clauses)
    (with_is met all clause.to (first_within all clause clauses within))
    ∙ put_in_front (is_among clause.to (unmet met all)) clause.to met (fresh (without clause.to (unmet met all)) clauses)

pub few_after : (met all : List Node) (clauses : List Clause) → EndWithin all clauses → AreFew all met → AreFew all (met_after met clauses)
few_after met all [] within few = few
few_after met all (clause ∷ clauses) within few =
    few_after (met_with met clause.to) all clauses (others_within all clause clauses within)
    (few_with met all clause.to (first_within all clause clauses within) few)

-- ---- one turn

next_to_take : (met : List Node) (count : ℕ) (n : Node) → count < length met → n ≡ get_or met count n → drop count met ≡ n ∷ drop (count + 1) met
next_to_take met count n inside is =
    at_drop_more (λ (ns : List Node). ns) met count n inside ∙ ap (λ (m : Node). m ∷ drop (count + 1) met) (sym is)

one_more_taken : (met : List Node) (count : ℕ) (n : Node) → count < length met → n ≡ get_or met count n → take (count + 1) met ≡ take count met ++ n ∷ []
one_more_taken met count n inside is =
    take_more met count n inside ∙ ap (λ (m : Node). take count met ++ m ∷ []) (sym is)

module _ (clauses_from : Node → Result (List Clause) ProductLimit) (all : List Node) where
  -- what comes of visits that are made
  abbrev told : List Node → List Clause → Result (List Visit) ProductLimit → Result Product ProductLimit
  told front clauses r = and_then (λ limit. limit) r (λ visits. Ok (product_with clauses_from all front clauses visits))

  visit_told : (front : List Node) (clauses : List Clause) (n : Node) (made : List Clause) (r : Result (List Visit) ProductLimit)
      → told front clauses (more_visits (record { node = n; clauses = made }) r) ≡ told (front ++ n ∷ []) (clauses ++ made) r
  visit_told front clauses n made (Ok visits) =
      ap (λ (ns : List Node). Ok (record {
        nodes = kept (is_listed ns) all;
        clauses = clauses ++ (made ++ all_clauses visits);
      })) (sym (append_assoc front (n ∷ []) (nodes_of visits)))
      ∙ ap (λ (cs : List Clause). Ok (record {
        nodes = kept (is_listed ((front ++ n ∷ []) ++ nodes_of visits)) all;
        clauses = cs;
      })) (sym (append_assoc clauses made (all_clauses visits)))
  visit_told front clauses n made (Err why) = refl

  module _ (met : List Node) (count : ℕ) (clauses : List Clause) (n : Node)
      (inside : count < length met) (is : n ≡ get_or met count n) (few : AreFew all met) where
    opened : explored clauses_from (length all - count) (drop count met) (unmet met all)
        ≡ visited clauses_from n (clauses_from n) (λ cs. explored clauses_from (length all - (count + 1))
        (drop (count + 1) met ++ fresh (unmet met all) cs) (remaining (unmet met all) cs))
    opened =
        let more : length all - count ≡ suc (length all - (count + 1)) = omega (arith, few, inside) in
        ap (λ (ns : List Node). explored clauses_from (length all - count) ns (unmet met all)) (next_to_take met count n inside is)
        ∙ ap (λ (k : ℕ). explored clauses_from k (n ∷ drop (count + 1) met) (unmet met all)) more

    pub turn_goes : (made : List Clause) → clauses_from n ≡ Ok made → EndWithin all made
        → product_from clauses_from all met count clauses ≡ product_from clauses_from all (met_after met made) (count + 1) (clauses ++ made)
    turn_goes made from within =
        let after : met_after met made ≡ met ++ fresh (unmet met all) made = met_after_is met all made within in
        let below : count + 1 ≤ length met = omega (arith, inside) in
        let queue : drop (count + 1) (met_after met made) ≡ drop (count + 1) met ++ fresh (unmet met all) made =
        ap (drop (count + 1)) after ∙ drop-append-le (count + 1) met (fresh (unmet met all) made) below in
        let front : take (count + 1) (met_after met made) ≡ take count met ++ n ∷ [] =
        ap (take (count + 1)) after ∙ take-append-le (count + 1) met (fresh (unmet met all) made) below
        ∙ one_more_taken met count n inside is in
        let others : Result (List Visit) ProductLimit = explored clauses_from (length all - (count + 1))
        (drop (count + 1) met ++ fresh (unmet met all) made) (remaining (unmet met all) made) in
        ap (told (take count met) clauses) opened
        ∙ ap (λ (r : Result (List Clause) ProductLimit). told (take count met) clauses (visited clauses_from n r
        (λ cs. explored clauses_from (length all - (count + 1)) (drop (count + 1) met ++ fresh (unmet met all) cs) (remaining (unmet met all) cs))))
        from
        ∙ visit_told (take count met) clauses n made others
        ∙ ap (λ (ns : List Node). told ns (clauses ++ made) others) (sym front)
        ∙ ap (λ (ns : List Node). told (take (count + 1) (met_after met made)) (clauses ++ made)
        (explored clauses_from (length all - (count + 1)) ns (remaining (unmet met all) made))) (sym queue)
        ∙ ap (λ (ns : List Node). told (take (count + 1) (met_after met made)) (clauses ++ made)
        (explored clauses_from (length all - (count + 1)) (drop (count + 1) (met_after met made)) ns)) (remaining_is met all made)

    pub turn_fails : (why : ProductLimit) → clauses_from n ≡ Err why → product_from clauses_from all met count clauses ≡ Err why
    turn_fails why from =
        ap (told (take count met) clauses) opened
        ∙ ap (λ (r : Result (List Clause) ProductLimit). told (take count met) clauses (visited clauses_from n r
        (λ cs. explored clauses_from (length all - (count + 1)) (drop (count + 1) met ++ fresh (unmet met all) cs) (remaining (unmet met all) cs))))
        from

  -- where all are taken
  pub all_taken : (met : List Node) (count : ℕ) (clauses : List Clause) → length met ≤ count
      → product_from clauses_from all met count clauses
      ≡ Ok (record { nodes = kept (is_listed met) all; clauses = clauses })
  all_taken met count clauses last =
      ap (λ (ns : List Node). told (take count met) clauses (explored clauses_from (length all - count) ns (unmet met all))) (drop_all count met last)
      ∙ ap (λ (ns : List Node). Ok (record {
        nodes = kept (is_listed (ns ++ [])) all;
        clauses = clauses ++ [];
      })) (take_all count met last)
      ∙ ap (λ (ns : List Node). Ok (record {
        nodes = kept (is_listed ns) all;
        clauses = clauses ++ [];
      })) (append-nil met)
      ∙ ap (λ (cs : List Clause). Ok (record {
        nodes = kept (is_listed met) all;
        clauses = cs;
      })) (append-nil clauses)

  -- the queue begins with the two entries
  pub begins_same :
      and_then (λ limit. limit) (explored clauses_from (length all) (entries ∷ []) (without entries all)) (λ visits. Ok (product_of_visits all visits))
      ≡ product_from clauses_from all (entries ∷ []) 0 []
  begins_same =
      let none_left : without entries all ≡ unmet (entries ∷ []) all =
      ap (without entries) (sym (kept_all all)) ∙ sym (unmet_with [] all entries) in
      let fuel : length all ≡ length all - 0 = omega arith in
      ap (λ (ns : List Node). told [] [] (explored clauses_from (length all) (entries ∷ []) ns)) none_left
      ∙ ap (λ (k : ℕ). told [] [] (explored clauses_from k (entries ∷ []) (unmet (entries ∷ []) all))) fuel

pub few_at_first : (all : List Node) → is_among entries all ≡ true → AreFew all (entries ∷ [])
few_at_first all within =
    let fits : length (unmet [] all) ≤ length all = length_kept (λ n. not false) all in
    few_with [] all entries within (omega (arith, fits))
