-- The labels of the values at a node are apart: no two are equal.
use Rattle.std.proofs.Common.{◌≡◌, ℕ, zero, suc, ◌+◌, ◌^◌, ◌<◌, ◌≤◌, Bool, true, false, eqb, ◌&&◌, ◌||◌, not, List, [], ◌∷◌, ◌++◌, length, map, refl, sym, ap, ◌∙◌, arith}
use Rattle.std.specs.Prelude.{codes, decimal, All, bytes_eq}
use Rattle.std.specs.List.{list_all}
use Rattle.std.proofs.lemmas.Bool.{eqb-true}
use Rattle.std.proofs.lemmas.List.{append_cancel_left}
use Rattle.std.proofs.lemmas.List.Elements.{All-head, All-tail}
use Rattle.std.proofs.lemmas.Slice.Eq.{bytes_eq-Decides}
use Rattle.c_ast.specs.declared.place.Place.{Place}
use Rattle.c_ast.specs.declared.place.Place.TheVariants as place
use Rattle.c_ast.specs.declared.place.Side.{Side}
use Rattle.c_ast.specs.declared.place.Side.TheVariants.{A, B}
use Rattle.c_ast.specs.declared.func.Var.{Var}
use Rattle.c_ast.specs.Step.{Scope, is_in, first_variables}
use Rattle.c_ast.specs.Scope.{with_variable, variables_from, variables_in}
use Rattle.c_ast.specs.Function.{Function, IsFunction}
use Rattle.c_ast.specs.Comparison.{Comparison, IsComparison}
use Rattle.horn_clauses.specs.declared.node.Node.{Node}
use Rattle.report.specs.Determined.{is_digit, is_name_byte, IsShort, HasPlainName, HasPlainNames}
use Rattle.report.specs.Families.{set_in_front, name_of, has_namesake, number_text, variable_text, side_word, label, labels_at, node_labels}
use Rattle.report.proofs.Reading.{Passes, Stops, Each, run_cut, differ}
use Rattle.report.proofs.Numbers.{number, decimal_digits, passes_on}
use Rattle.report.proofs.Sums.{is_label_byte, IsLabel, NoneIs, AreApart, AreLabels}

-- ---- names

both_true : (p q : Bool) → (p && q) ≡ true → (p ≡ true) × (q ≡ true)
both_true true q h = (refl, h)
both_true false q h = cc

name_passes : (name : List ℕ) → list_all is_name_byte name ≡ true → Passes is_name_byte name
name_passes [] h = tt
name_passes (b ∷ name) h = let o = both_true (is_name_byte b) (list_all is_name_byte name) h in (o.0, name_passes name o.1)

names_pass : (vars : List Var) → All HasPlainName vars → (x : ℕ) → Passes is_name_byte (name_of vars x)
names_pass [] h x = tt
names_pass (v ∷ vars) h zero = name_passes v.name (All-head HasPlainName v vars h)
names_pass (v ∷ vars) h (suc x) = names_pass vars (All-tail HasPlainName v vars h) x

or_false : (p q : Bool) → (p || q) ≡ false → (p ≡ false) × (q ≡ false)
or_false true q h = cc
or_false false q h = (refl, h)

found : (p q : Bool) → q ≡ true → (not p && q) ≡ false → p ≡ true
found true q h k = refl
found false true h k = cc
found false false h k = cc

-- the only variable of the name
only : (vars : List Var) (i x : ℕ) (name : List ℕ) → has_namesake x name i vars ≡ false → (j : ℕ) → j < length vars → name_of vars j ≡ name → i + j ≡ x
only [] i x name h j k e = absurd (omega (arith, k))
only (v ∷ vars) i x name h zero k e =
    let o = or_false (not (eqb i x) && bytes_eq v.name name) (has_namesake x name (suc i) vars) h in
    let s : bytes_eq v.name name ≡ true = (bytes_eq-Decides v.name name).1 e in
    let q = eqb-true i x (found (eqb i x) (bytes_eq v.name name) s o.0) in
    omega (arith, q)
only (v ∷ vars) i x name h (suc j) k e =
    let o = or_false (not (eqb i x) && bytes_eq v.name name) (has_namesake x name (suc i) vars) h in
    let r = only vars (suc i) x name o.1 j (omega (arith, k)) e in
    omega (arith, r)

number_stops : (b : Bool) (x : ℕ) → Stops is_name_byte (number_text b x)
number_stops true x = refl
number_stops false x = tt

number_same : (p q : Bool) (x y : ℕ) → IsShort x → IsShort y → number_text p x ≡ number_text q y → ((p ≡ false) × (q ≡ false) → x ≡ y) → x ≡ y
number_same true true x y a b e h =
    let f : decimal x ++ [] ≡ decimal y ++ [] = ap (λ z. z ++ []) (append_cancel_left (codes "#") (decimal x) (decimal y) e) in
    (number.read x y [] [] a b tt tt f).0
number_same true false x y a b e h = cc
number_same false true x y a b e h = cc
number_same false false x y a b e h = h (refl, refl)

-- the variables have plain names, and are few
record ArePlain (vars : List Var) : Type 0 where
  names : (x : ℕ) → Passes is_name_byte (name_of vars x)
  few : length vars < 10 ^ 64

variable_same : (vars : List Var) → ArePlain vars → (x y : ℕ) → x < length vars → y < length vars → variable_text vars x ≡ variable_text vars y → x ≡ y
variable_same vars h x y k l e =
    let few = h.few in
    let bx = has_namesake x (name_of vars x) 0 vars in
    let by = has_namesake y (name_of vars y) 0 vars in
    let o = run_cut is_name_byte (name_of vars x) (name_of vars y) (number_text bx x) (number_text by y) (h.names x) (h.names y) (number_stops bx x)
    (number_stops by y) e in
    number_same bx by x y (omega (arith, few, k)) (omega (arith, few, l)) o.1
    (λ p. let q = only vars 0 x (name_of vars x) p.0 y l (sym o.0) in omega (arith, q))

-- ---- the bytes of a label

name_label : (b : ℕ) → is_name_byte b ≡ true → is_label_byte b ≡ true
name_label b h = rw h refl

names_label : (s : List ℕ) → Passes is_name_byte s → Passes is_label_byte s
names_label [] h = tt
names_label (b ∷ s) h = (name_label b h.0, names_label s h.1)

digit_label : (b : ℕ) → is_digit b ≡ true → is_label_byte b ≡ true
digit_label b h = rw h refl

digits_label : (s : List ℕ) → Passes is_digit s → Passes is_label_byte s
digits_label [] h = tt
digits_label (b ∷ s) h = (digit_label b h.0, digits_label s h.1)

number_label : (b : Bool) (x : ℕ) → IsShort x → Passes is_label_byte (number_text b x)
number_label true x h = (refl, digits_label (decimal x) (decimal_digits x h).0)
number_label false x h = tt

-- a label is of side A or of side B
abbrev side_of : Bool → Side
side_of true = A
side_of false = B

abbrev sided : Bool → List ℕ → List ℕ
sided b s = side_word (side_of b) ++ (codes "." ++ s)

side_label : (b : Bool) (s : List ℕ) → Passes is_label_byte s → IsLabel (sided b s)
side_label true s h = ((refl, (refl, h)), refl)
side_label false s h = ((refl, (refl, h)), refl)

sided_same : (b : Bool) (s t : List ℕ) → sided b s ≡ sided b t → s ≡ t
sided_same b s t e =
    append_cancel_left (codes ".") s t (append_cancel_left (side_word (side_of b)) (codes "." ++ s) (codes "." ++ t) e)

-- ---- the variables at a place

abbrev IsNotIn : ℕ → List ℕ → Type 0
IsNotIn x [] = Unit {0}
IsNotIn x (y ∷ ys) = (x ≡ y → ⊥) × IsNotIn x ys

abbrev AreDistinct : List ℕ → Type 0
AreDistinct [] = Unit {0}
AreDistinct (x ∷ xs) = IsNotIn x xs × AreDistinct xs

known_from : (s : Scope) (x n m : ℕ) → x + n ≤ m → Each (λ y. y < m) (variables_from s x n)
known_from s x zero m h = tt
known_from s x (suc n) m h = on (is_in s x) (known_from s (suc x) n m (omega (arith, h)))
  where
    on : (b : Bool) → Each (λ y. y < m) (variables_from s (suc x) n) → Each (λ y. y < m) (with_variable b x (variables_from s (suc x) n))
    on true r = (omega (arith, h), r)
    on false r = r

not_in_from : (s : Scope) (x n y : ℕ) → y < x → IsNotIn y (variables_from s x n)
not_in_from s x zero y h = tt
not_in_from s x (suc n) y h = on (is_in s x) (not_in_from s (suc x) n y (omega (arith, h)))
  where
    on : (b : Bool) → IsNotIn y (variables_from s (suc x) n) → IsNotIn y (with_variable b x (variables_from s (suc x) n))
    on true r = ((λ e. omega (arith, h, e)), r)
    on false r = r

distinct_from : (s : Scope) (x n : ℕ) → AreDistinct (variables_from s x n)
distinct_from s x zero = tt
distinct_from s x (suc n) = on (is_in s x) (distinct_from s (suc x) n)
  where
    on : (b : Bool) → AreDistinct (variables_from s (suc x) n) → AreDistinct (with_variable b x (variables_from s (suc x) n))
    on true r = (not_in_from s (suc x) n x (omega arith), r)
    on false r = r

-- ---- the labels of one side

each_label : (b : Bool) (vars : List Var) → ArePlain vars → (xs : List ℕ) → Each (λ x. x < length vars) xs → Each IsLabel (map (label (side_of b) vars) xs)
each_label b vars h [] k = tt
each_label b vars h (x ∷ xs) k =
    let few = h.few in
    let first = k.0 in
    let name = name_of vars x in
    let again = has_namesake x name 0 vars in (
      side_label b (variable_text vars x)
          (passes_on is_label_byte name (number_text again x) (names_label name (h.names x)) (number_label again x (omega (arith, few, first)))),
      each_label b vars h xs k.1,
    )

none_label : (b : Bool) (vars : List Var) → ArePlain vars → (x : ℕ) → x < length vars → (xs : List ℕ) → Each (λ x. x < length vars) xs → IsNotIn x xs
    → NoneIs (label (side_of b) vars x) (map (label (side_of b) vars) xs)
none_label b vars h x l [] k d = tt
none_label b vars h x l (y ∷ xs) k d =
    ((λ e. d.0 (variable_same vars h x y l k.0 (sided_same b (variable_text vars x) (variable_text vars y) e))), none_label b vars h x l xs k.1 d.1)

apart_labels : (b : Bool) (vars : List Var) → ArePlain vars → (xs : List ℕ) → Each (λ x. x < length vars) xs → AreDistinct xs
    → AreApart (map (label (side_of b) vars) xs)
apart_labels b vars h [] k d = tt
apart_labels b vars h (x ∷ xs) k d = (none_label b vars h x k.0 xs k.1 d.0, apart_labels b vars h xs k.1 d.1)

-- the label begins with the side
abbrev IsOf : Bool → List ℕ → Type 0
IsOf b l = (s : List ℕ) × (l ≡ sided b s)

each_of : (b : Bool) (vars : List Var) (xs : List ℕ) → Each (IsOf b) (map (label (side_of b) vars) xs)
each_of b vars [] = tt
each_of b vars (x ∷ xs) = ((variable_text vars x, refl), each_of b vars xs)

record AreOfSide (b : Bool) (labels : List (List ℕ)) : Type 0 where
  each : Each IsLabel labels
  apart : AreApart labels
  own : Each (IsOf b) labels

of_scope : (b : Bool) (vars : List Var) (s : Scope) → ArePlain vars → AreOfSide b (map (label (side_of b) vars) (variables_in s (length vars)))
of_scope b vars s h =
    let known = known_from s 0 (length vars) (length vars) (omega arith) in
    let xs = variables_in s (length vars) in
    record {
      each = each_label b vars h xs known;
      apart = apart_labels b vars h xs known (distinct_from s 0 (length vars));
      own = each_of b vars xs;
    }

of_side : (b : Bool) (f : Function) → ArePlain f.vars → (p : Place) → AreOfSide b (labels_at (side_of b) f p)
of_side b f h place.Entry = of_scope b f.vars (set_in_front f place.Entry ++ first_variables f.params) h
of_side b f h (place.Mark mark) = of_scope b f.vars (set_in_front f (place.Mark mark) ++ first_variables f.params) h
of_side b f h place.Exit = record {
  each = (side_label b (codes "result") (refl, (refl, (refl, (refl, (refl, (refl, tt)))))), tt);
  apart = (tt, tt);
  own = ((codes "result", refl), tt);
}

-- ---- both sides together

sides_differ : (l k : List ℕ) → IsOf true l → IsOf false k → l ≡ k → ⊥
sides_differ l k p q e = differ (codes "A") (codes "B") (codes "." ++ p.0) (codes "." ++ q.0) refl (sym p.1 ∙ e ∙ q.1)

none_other : (l : List ℕ) (ks : List (List ℕ)) → IsOf true l → Each (IsOf false) ks → NoneIs l ks
none_other l [] p q = tt
none_other l (k ∷ ks) p q = (sides_differ l k p q.0, none_other l ks p q.1)

none_both : (l : List ℕ) (ls ks : List (List ℕ)) → NoneIs l ls → NoneIs l ks → NoneIs l (ls ++ ks)
none_both l [] ks a b = b
none_both l (m ∷ ls) ks a b = (a.0, none_both l ls ks a.1 b)

apart_both : (ls ks : List (List ℕ)) → AreApart ls → AreApart ks → Each (IsOf true) ls → Each (IsOf false) ks → AreApart (ls ++ ks)
apart_both [] ks a b p q = b
apart_both (l ∷ ls) ks a b p q = (none_both l ls ks a.0 (none_other l ks p.0 q), apart_both ls ks a.1 b p.1 q)

each_both : (ls ks : List (List ℕ)) → Each IsLabel ls → Each IsLabel ks → Each IsLabel (ls ++ ks)
each_both [] ks a b = b
each_both (l ∷ ls) ks a b = (a.0, each_both ls ks a.1 b)

plain : (f : Function) → IsFunction f → All HasPlainName f.vars → ArePlain f.vars
plain f is h = let few = is.few in record { names = names_pass f.vars h; few = omega (arith, few) }

-- The labels at each node are labels, and no two are equal.
pub labels_apart : (subject : Comparison) → IsComparison subject → HasPlainNames subject → (node : Node) → AreLabels (node_labels subject node)
labels_apart subject is h node =
    let first = labels_at A subject.first node.0 in
    let second = labels_at B subject.second node.1 in
    let a : AreOfSide true first = of_side true subject.first (plain subject.first is.first h.first) node.0 in
    let b : AreOfSide false second = of_side false subject.second (plain subject.second is.second h.second) node.1 in
    record { each = each_both first second a.each b.each; apart = apart_both first second a.apart b.apart a.own b.own }
