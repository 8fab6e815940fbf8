-- A clause holds where its three parts hold, and has their values.
use Rattle.std.proofs.Common.{◌≡◌, ℕ, zero, suc, ◌+◌, ◌≤◌, Bool, true, false, List, [], ◌∷◌, ◌++◌, length, map, take, drop, replicate, All, refl, sym, ap, subst, ◌∙◌, append_assoc, append-nil, length-append, inl, inr, cond, arith}
use Rattle.std.specs.Prelude.{ℤ, pos, ◌+ℤ◌, ◌*ℤ◌, nat_le, Result, Ok, Err}
use Rattle.std.proofs.lemmas.Int.{ints}
use Rattle.std.proofs.lemmas.List.{length-replicate, length-take-le, map-append}
use Rattle.std.proofs.lemmas.List.Elements.{All-append, All-weaker}
use Rattle.lin_terms.specs.declared.form.Form.{Form}
use Rattle.lin_terms.specs.declared.row.Row.{Row}
use Rattle.lin_terms.specs.Form.{value_at}
use Rattle.lin_terms.specs.Row.{Allows, Holds}
use Rattle.lin_terms.specs.Vectors.{dot}
use Rattle.lin_terms.proofs.Laws.{dot-append, dot-replicate}
use Rattle.horn_clauses.specs.declared.node.Node.{Node}
use Rattle.horn_clauses.specs.declared.clause.Clause.{Clause}
use Rattle.horn_clauses.specs.Clause.{LeadsWith, LeadsTo}
use Rattle.sym_paths.specs.declared.limit.PathLimit.{PathLimit}
use Rattle.sym_paths.specs.declared.limit.PathLimit.TheVariants as limit
use Rattle.sym_paths.specs.Walk.{Path, Walk, Arrives, stops, collect}
use Rattle.sym_paths.specs.Points.{EachArrives, SomeArrives}
use Rattle.sym_paths.specs.Nodes.{End}
use Rattle.sym_paths.specs.Cases.{fitted}
use Rattle.sym_paths.proofs.Laws.{each_append, some_left, some_right, each_collected, some_collected}
use Rattle.path_product.specs.Compose.{each}
use Rattle.path_product.specs.Clauses.{Spot, zeros, placed, placed_row, placed_form, Columns, unknowns_in, condition_spot, first_spot, second_spot, columns_of, joined_clause, coupled, coupled_walk, clause_walk, values_of_all, clauses_of}
use Rattle.path_product.proofs.Places.{IsIn, in_left, in_right, all_in, in_all, in_each, in_some, in_map, from_map}

-- ---- so many numbers

pub length_fitted : (n : ℕ) (numbers : List ℤ) → length (fitted n numbers) ≡ n
length_fitted n numbers =
    let long : length (numbers ++ replicate n (pos 0)) ≡ length numbers + n =
    length-append numbers (replicate n (pos 0)) ∙ ap (λ (k : ℕ). length numbers + k) (length-replicate n (pos 0)) in
    length-take-le n (numbers ++ replicate n (pos 0)) (omega (arith, long))

front_of : (numbers others : List ℤ) (n : ℕ) → length numbers ≡ n → take n (numbers ++ others) ≡ numbers
front_of [] others zero long = refl
front_of [] others (suc n) long = absurd (omega (arith, long))
front_of (x ∷ numbers) others zero long = absurd (omega (arith, long))
front_of (x ∷ numbers) others (suc n) long = ap (λ (z : List ℤ). x ∷ z) (front_of numbers others n (omega (arith, long)))

fitted_itself : (n : ℕ) (numbers : List ℤ) → length numbers ≡ n → fitted n numbers ≡ numbers
fitted_itself n numbers long = front_of numbers (replicate n (pos 0)) n long

no_numbers : (coefs : List ℤ) → dot coefs [] ≡ pos 0
no_numbers [] = refl
no_numbers (c ∷ coefs) = refl

dot_take : (n : ℕ) (coefs point : List ℤ) → length point ≤ n → dot (take n coefs) point ≡ dot coefs point
dot_take zero coefs [] few = sym (no_numbers coefs)
dot_take zero coefs (x ∷ point) few = absurd (omega arith)
dot_take (suc n) [] point few = refl
dot_take (suc n) (c ∷ coefs) [] few = refl
dot_take (suc n) (c ∷ coefs) (x ∷ point) few = ap (λ (z : ℤ). (c *ℤ x) +ℤ z) (dot_take n coefs point (omega arith))

dot_padded : (n : ℕ) (coefs point : List ℤ) → dot (coefs ++ replicate n (pos 0)) point ≡ dot coefs point
dot_padded n [] point = dot-replicate n point
dot_padded n (c ∷ coefs) [] = refl
dot_padded n (c ∷ coefs) (x ∷ point) = ap (λ (z : ℤ). (c *ℤ x) +ℤ z) (dot_padded n coefs point)

dot_fitted : (n : ℕ) (coefs point : List ℤ) → length point ≤ n → dot (fitted n coefs) point ≡ dot coefs point
dot_fitted n coefs point few = dot_take n (coefs ++ replicate n (pos 0)) point few ∙ dot_padded n coefs point

-- ---- equal values

map_same : {A B : Type 0} (f g : A → B) (xs : List A) → ((x : A) → IsIn x xs → f x ≡ g x) → map f xs ≡ map g xs
map_same f g [] same = refl
map_same f g (x ∷ xs) same =
    ap (λ z. z ∷ map f xs) (same x (inl refl)) ∙ ap (λ z. g x ∷ z) (map_same f g xs (λ y has. same y (inr has)))

-- ---- moved columns

none_before : (a : ℤ) → pos 0 +ℤ a ≡ a
none_before a = omega (arith, ints)

none_behind : (a : ℤ) → a +ℤ pos 0 ≡ a
none_behind a = omega (arith, ints)

past_zeros : (n : ℕ) (xs ys coefs : List ℤ) → length xs ≡ n → dot (zeros n ++ coefs) (xs ++ ys) ≡ dot coefs ys
past_zeros n xs ys coefs long =
    dot-append (zeros n) coefs xs ys (length-replicate n (pos 0) ∙ sym long) ∙ ap (λ (z : ℤ). z +ℤ dot coefs ys) (dot-replicate n xs)
    ∙ none_before (dot coefs ys)

past_fitted : (n : ℕ) (coefs others xs ys : List ℤ) → length xs ≡ n → dot (fitted n coefs ++ others) (xs ++ ys) ≡ dot coefs xs +ℤ dot others ys
past_fitted n coefs others xs ys long =
    dot-append (fitted n coefs) others xs ys (length_fitted n coefs ∙ sym long)
    ∙ ap (λ (z : ℤ). z +ℤ dot others ys) (dot_fitted n coefs xs (omega (arith, long)))

-- coefficients over two lists of numbers
over_two : (n : ℕ) (coefs xs us : List ℤ) → length xs ≡ n → dot coefs (xs ++ us) ≡ dot coefs xs +ℤ dot (drop n coefs) us
over_two zero coefs [] us long = sym (none_before (dot coefs us)) ∙ ap (λ (z : ℤ). z +ℤ dot coefs us) (sym (no_numbers coefs))
over_two zero coefs (x ∷ xs) us long = absurd (omega (arith, long))
over_two (suc n) coefs [] us long = absurd (omega (arith, long))
over_two (suc n) [] (x ∷ xs) us long = refl
over_two (suc n) (c ∷ coefs) (x ∷ xs) us long =
    ap (λ (z : ℤ). (c *ℤ x) +ℤ z) (over_two n coefs xs us (omega (arith, long))) ∙ omega (arith, ints)

-- In the point of all columns the part's own numbers stand at its spot.
pub record Fills (spot : Spot) (all variables unknowns : List ℤ) : Type 0 where
  pub front : List ℤ
  pub between : List ℤ
  pub back : List ℤ
  pub parts : all ≡ front ++ (variables ++ (between ++ (unknowns ++ back)))
  pub long_front : length front ≡ spot.before
  pub long_variables : length variables ≡ spot.variables
  pub long_between : length between ≡ spot.gap
  pub long_unknowns : length unknowns ≡ spot.unknowns

module _ (spot : Spot) (all xs us : List ℤ) (fills : Fills spot all xs us) where
  dot_placed : (coefs : List ℤ) → dot (placed spot coefs) all ≡ dot coefs (xs ++ us)
  dot_placed coefs =
      ap (dot (placed spot coefs)) fills.parts
      ∙ past_zeros spot.before fills.front (xs ++ (fills.between ++ (us ++ fills.back)))
      (fitted spot.variables coefs ++ (zeros spot.gap ++ (fitted spot.unknowns (drop spot.variables coefs) ++ zeros spot.behind))) fills.long_front
      ∙ past_fitted spot.variables coefs (zeros spot.gap ++ (fitted spot.unknowns (drop spot.variables coefs) ++ zeros spot.behind)) xs
      (fills.between ++ (us ++ fills.back)) fills.long_variables
      ∙ ap (λ (z : ℤ). dot coefs xs +ℤ z)
      (past_zeros spot.gap fills.between (us ++ fills.back) (fitted spot.unknowns (drop spot.variables coefs) ++ zeros spot.behind) fills.long_between
      ∙ past_fitted spot.unknowns (drop spot.variables coefs) (zeros spot.behind) us fills.back fills.long_unknowns
      ∙ ap (λ (z : ℤ). dot (drop spot.variables coefs) us +ℤ z) (dot-replicate spot.behind fills.back)
      ∙ none_behind (dot (drop spot.variables coefs) us))
      ∙ sym (over_two spot.variables coefs xs us fills.long_variables)

  value_placed : (form : Form) → value_at (placed_form spot form) all ≡ value_at form (xs ++ us)
  value_placed form = ap (λ (z : ℤ). z +ℤ form.constant) (dot_placed form.coefs)

  to_placed : (row : Row) → Holds (xs ++ us) row → Holds all (placed_row spot row)
  to_placed row holds = subst (λ (z : ℤ). Allows row.equality (z +ℤ row.constant)) (sym (dot_placed row.coefs)) holds

  of_placed : (row : Row) → Holds all (placed_row spot row) → Holds (xs ++ us) row
  of_placed row holds = subst (λ (z : ℤ). Allows row.equality (z +ℤ row.constant)) (dot_placed row.coefs) holds

  pub rows_to_placed : (rows : List Row) → All (Holds (xs ++ us)) rows → All (Holds all) (map (placed_row spot) rows)
  rows_to_placed rows hold =
      all_in (Holds all) (map (placed_row spot) rows) (λ row has. let found = from_map (placed_row spot) row rows has in
      subst (Holds all) (sym found.2) (to_placed found.0 (in_all (Holds (xs ++ us)) rows hold found.0 found.1)))

  pub rows_of_placed : (rows : List Row) → All (Holds all) (map (placed_row spot) rows) → All (Holds (xs ++ us)) rows
  rows_of_placed rows hold =
      all_in (Holds (xs ++ us)) rows (λ row has.
      of_placed row (in_all (Holds all) (map (placed_row spot) rows) hold (placed_row spot row) (in_map (placed_row spot) row rows has)))

  pub values_placed : (forms : List Form)
      → map (λ (form : Form). value_at form all) (map (placed_form spot) forms) ≡ map (λ (form : Form). value_at form (xs ++ us)) forms
  values_placed [] = refl
  values_placed (form ∷ forms) =
      ap (λ (z : ℤ). z ∷ map (λ (f : Form). value_at f all) (map (placed_form spot) forms)) (value_placed form)
      ∙ ap (λ (z : List ℤ). value_at form (xs ++ us) ∷ z) (values_placed forms)

-- ---- the length of all

-- How many columns a spot is among.
abbrev pub width_around : Spot → ℕ
width_around spot = spot.before + (spot.variables + (spot.gap + (spot.unknowns + spot.behind)))

pub length_placed : (spot : Spot) (coefs : List ℤ) → length (placed spot coefs) ≡ width_around spot
length_placed spot coefs =
    let a = length-append (zeros spot.before)
    (fitted spot.variables coefs ++ (zeros spot.gap ++ (fitted spot.unknowns (drop spot.variables coefs) ++ zeros spot.behind))) in
    let b = length-append (fitted spot.variables coefs) (zeros spot.gap ++ (fitted spot.unknowns (drop spot.variables coefs) ++ zeros spot.behind)) in
    let c = length-append (zeros spot.gap) (fitted spot.unknowns (drop spot.variables coefs) ++ zeros spot.behind) in
    let d = length-append (fitted spot.unknowns (drop spot.variables coefs)) (zeros spot.behind) in
    let p = length-replicate spot.before (pos 0) in
    let q = length_fitted spot.variables coefs in
    let r = length-replicate spot.gap (pos 0) in
    let s = length_fitted spot.unknowns (drop spot.variables coefs) in
    let t = length-replicate spot.behind (pos 0) in
    a ∙ omega (arith, b, c, d, p, q, r, s, t)

-- All columns.
abbrev pub all_columns : Columns → ℕ
all_columns c = (c.first + c.second) + unknowns_in c

-- It has a number for each of all columns.
abbrev pub IsOver : Columns → List ℤ → Type 0
IsOver c coefs = length coefs ≡ all_columns c

over_condition : (c : Columns) → width_around (condition_spot c) ≡ all_columns c
over_condition c = omega arith

over_first : (c : Columns) → width_around (first_spot c) ≡ all_columns c
over_first c = omega arith

over_second : (c : Columns) → width_around (second_spot c) ≡ all_columns c
over_second c = omega arith

module _ (c : Columns) (spot : Spot) (around : width_around spot ≡ all_columns c) where
  rows_are_over : (rows : List Row) → All (λ row. IsOver c row.coefs) (map (placed_row spot) rows)
  rows_are_over rows =
      all_in (λ row. IsOver c row.coefs) (map (placed_row spot) rows) (λ row has. let found = from_map (placed_row spot) row rows has in
      ap (λ (z : Row). length z.coefs) found.2 ∙ length_placed spot found.0.coefs ∙ around)

  forms_are_over : (forms : List Form) → All (λ form. IsOver c form.coefs) (map (placed_form spot) forms)
  forms_are_over forms =
      all_in (λ form. IsOver c form.coefs) (map (placed_form spot) forms) (λ form has. let found = from_map (placed_form spot) form forms has in
      ap (λ (z : Form). length z.coefs) found.2 ∙ length_placed spot found.0.coefs ∙ around)

pub rows_over : (from : Node) (c : Columns) (condition : List Row) (x y : Path End)
    → All (λ row. IsOver c row.coefs) (joined_clause from c condition x y).rows
rows_over from c condition x y =
    All-append (λ (row : Row). IsOver c row.coefs) (map (placed_row (condition_spot c)) condition)
    (map (placed_row (first_spot c)) x.state.rows ++ map (placed_row (second_spot c)) y.state.rows)
    (rows_are_over c (condition_spot c) (over_condition c) condition)
    (All-append (λ (row : Row). IsOver c row.coefs) (map (placed_row (first_spot c)) x.state.rows) (map (placed_row (second_spot c)) y.state.rows)
    (rows_are_over c (first_spot c) (over_first c) x.state.rows) (rows_are_over c (second_spot c) (over_second c) y.state.rows))

pub forms_over : (from : Node) (c : Columns) (condition : List Row) (x y : Path End)
    → All (λ form. IsOver c form.coefs) (joined_clause from c condition x y).after
forms_over from c condition x y =
    All-append (λ (form : Form). IsOver c form.coefs) (map (placed_form (first_spot c)) x.value.forms) (map (placed_form (second_spot c)) y.value.forms)
    (forms_are_over c (first_spot c) (over_first c) x.value.forms) (forms_are_over c (second_spot c) (over_second c) y.value.forms)

-- ---- the point of all columns

-- The variables of both sides, then the unknowns of the condition, of side A and of side B.
abbrev pub joint : List ℤ → List ℤ → List ℤ → List ℤ → List ℤ → List ℤ
joint d e p a b = (d ++ e) ++ (p ++ (a ++ b))

-- These are as many numbers as there are columns of each kind.
pub record AreAsMany (c : Columns) (d e p a b : List ℤ) : Type 0 where
  pub first : length d ≡ c.first
  pub second : length e ≡ c.second
  pub condition : length p ≡ c.condition_unknowns
  pub left : length a ≡ c.first_unknowns
  pub right : length b ≡ c.second_unknowns

-- What a clause shows of its three parts, at their own points.
pub record Shows (condition : List Row) (x y : Path End) (d e p a b after : List ℤ) : Type 0 where
  pub meets : All (Holds (d ++ p)) condition
  pub first : All (Holds (d ++ a)) x.state.rows
  pub second : All (Holds (e ++ b)) y.state.rows
  pub values : after ≡ map (λ (form : Form). value_at form (d ++ a)) x.value.forms ++ map (λ (form : Form). value_at form (e ++ b)) y.value.forms

module _ (c : Columns) (d e p a b : List ℤ) (many : AreAsMany c d e p a b) where
  pub fills_condition : Fills (condition_spot c) (joint d e p a b) d p
  fills_condition = record {
    front = [];
    between = e;
    back = a ++ b;
    parts = append_assoc d e (p ++ (a ++ b));
    long_front = refl;
    long_variables = many.first;
    long_between = many.second;
    long_unknowns = many.condition;
  }

  pub fills_first : Fills (first_spot c) (joint d e p a b) d a
  fills_first = record {
    front = [];
    between = e ++ p;
    back = b;
    parts = append_assoc d e (p ++ (a ++ b)) ∙ ap (λ (z : List ℤ). d ++ z) (sym (append_assoc e p (a ++ b)));
    long_front = refl;
    long_variables = many.first;
    long_between = length-append e p ∙ omega (arith, many.second, many.condition);
    long_unknowns = many.left;
  }

  pub fills_second : Fills (second_spot c) (joint d e p a b) e b
  fills_second = record {
    front = d;
    between = p ++ a;
    back = [];
    parts = append_assoc d e (p ++ (a ++ b)) ∙ ap (λ (z : List ℤ). d ++ (e ++ z)) (sym (append_assoc p a b))
        ∙ ap (λ (z : List ℤ). d ++ (e ++ ((p ++ a) ++ z))) (sym (append-nil b));
    long_front = many.first;
    long_variables = many.second;
    long_between = length-append p a ∙ omega (arith, many.condition, many.left);
    long_unknowns = many.right;
  }

  pub length_joint : length (joint d e p a b) ≡ all_columns c
  length_joint =
      let all = length-append (d ++ e) (p ++ (a ++ b)) in
      let variables = length-append d e in
      let unknowns = length-append p (a ++ b) in
      let sides = length-append a b in
      all ∙ omega (arith, variables, unknowns, sides, many.first, many.second, many.condition, many.left, many.right)

  -- ---- a clause at that point

  module _ (from : Node) (condition : List Row) (x y : Path End) where
    pub parts_lead : All (Holds (d ++ p)) condition → All (Holds (d ++ a)) x.state.rows → All (Holds (e ++ b)) y.state.rows
        → (left right : List ℤ) → map (λ (form : Form). value_at form (d ++ a)) x.value.forms ≡ left
        → map (λ (form : Form). value_at form (e ++ b)) y.value.forms ≡ right
        → LeadsWith (d ++ e) (left ++ right) (joined_clause from c condition x y) (p ++ (a ++ b))
    parts_lead meets first second left right first_values second_values = record {
      columns = (
        All-weaker (λ (row : Row). IsOver c row.coefs) (λ (row : Row). length row.coefs ≡ length (joint d e p a b)) (λ row is. is ∙ sym length_joint)
            (joined_clause from c condition x y).rows (rows_over from c condition x y),
        All-weaker (λ (form : Form). IsOver c form.coefs) (λ (form : Form). length form.coefs ≡ length (joint d e p a b))
            (λ form is. is ∙ sym length_joint) (joined_clause from c condition x y).after (forms_over from c condition x y),
      );
      holds = All-append (Holds (joint d e p a b)) (map (placed_row (condition_spot c)) condition)
          (map (placed_row (first_spot c)) x.state.rows ++ map (placed_row (second_spot c)) y.state.rows)
          (rows_to_placed (condition_spot c) (joint d e p a b) d p fills_condition condition meets)
          (All-append (Holds (joint d e p a b)) (map (placed_row (first_spot c)) x.state.rows) (map (placed_row (second_spot c)) y.state.rows)
          (rows_to_placed (first_spot c) (joint d e p a b) d a fills_first x.state.rows first)
          (rows_to_placed (second_spot c) (joint d e p a b) e b fills_second y.state.rows second));
      values = map-append (λ (form : Form). value_at form (joint d e p a b)) (map (placed_form (first_spot c)) x.value.forms)
          (map (placed_form (second_spot c)) y.value.forms)
          ∙ ap (λ (z : List ℤ). z ++ map (λ (form : Form). value_at form (joint d e p a b)) (map (placed_form (second_spot c)) y.value.forms))
          (values_placed (first_spot c) (joint d e p a b) d a fills_first x.value.forms ∙ first_values)
          ∙ ap (λ (z : List ℤ). left ++ z) (values_placed (second_spot c) (joint d e p a b) e b fills_second y.value.forms ∙ second_values);
    }

    pub parts_shown : (after : List ℤ) → All (Holds (joint d e p a b)) (joined_clause from c condition x y).rows
        → map (λ (form : Form). value_at form (joint d e p a b)) (joined_clause from c condition x y).after ≡ after
        → Shows condition x y d e p a b after
    parts_shown after hold values = record {
      meets = rows_of_placed (condition_spot c) (joint d e p a b) d p fills_condition condition
          (of_all (map (placed_row (condition_spot c)) condition) (λ row has. in_left row (map (placed_row (condition_spot c)) condition) sides has));
      first = rows_of_placed (first_spot c) (joint d e p a b) d a fills_first x.state.rows
          (of_all (map (placed_row (first_spot c)) x.state.rows) (λ row has. in_right row (map (placed_row (condition_spot c)) condition) sides
          (in_left row (map (placed_row (first_spot c)) x.state.rows) (map (placed_row (second_spot c)) y.state.rows) has)));
      second = rows_of_placed (second_spot c) (joint d e p a b) e b fills_second y.state.rows
          (of_all (map (placed_row (second_spot c)) y.state.rows) (λ row has. in_right row (map (placed_row (condition_spot c)) condition) sides
          (in_right row (map (placed_row (first_spot c)) x.state.rows) (map (placed_row (second_spot c)) y.state.rows) has)));
      values = sym values
          ∙ map-append (λ (form : Form). value_at form (joint d e p a b)) (map (placed_form (first_spot c)) x.value.forms)
          (map (placed_form (second_spot c)) y.value.forms)
          ∙ ap (λ (z : List ℤ). z ++ map (λ (form : Form). value_at form (joint d e p a b)) (map (placed_form (second_spot c)) y.value.forms))
          (values_placed (first_spot c) (joint d e p a b) d a fills_first x.value.forms)
          ∙ ap (λ (z : List ℤ). map (λ (form : Form). value_at form (d ++ a)) x.value.forms ++ z)
          (values_placed (second_spot c) (joint d e p a b) e b fills_second y.value.forms);
    }
      where
        sides : List Row
        sides = map (placed_row (first_spot c)) x.state.rows ++ map (placed_row (second_spot c)) y.state.rows

        of_all : (rows : List Row) → ((row : Row) → IsIn row rows → IsIn row (joined_clause from c condition x y).rows)
            → All (Holds (joint d e p a b)) rows
        of_all rows inside =
            all_in (Holds (joint d e p a b)) rows (λ row has.
            in_all (Holds (joint d e p a b)) (joined_clause from c condition x y).rows hold row (inside row has))

-- ---- unknowns in three parts

-- The numbers are as many for each of the three parts as it has unknowns.
pub record IsDivided (c : Columns) (d e unknowns : List ℤ) : Type 0 where
  pub p : List ℤ
  pub a : List ℤ
  pub b : List ℤ
  pub many : AreAsMany c d e p a b
  pub is : unknowns ≡ p ++ (a ++ b)

-- a list of so many and so many numbers
in_two : (n m : ℕ) (numbers : List ℤ) → length numbers ≡ n + m
    → (front : List ℤ) × (back : List ℤ) × (numbers ≡ front ++ back) × (length front ≡ n) × (length back ≡ m)
in_two zero m numbers long = ([], numbers, refl, refl, omega (arith, long))
in_two (suc n) m [] long = absurd (omega (arith, long))
in_two (suc n) m (x ∷ numbers) long =
    let parts = in_two n m numbers (omega (arith, long)) in
    (x ∷ parts.0, parts.1, ap (λ (z : List ℤ). x ∷ z) parts.2, ap suc parts.3, parts.4)

divided : (c : Columns) (d e unknowns : List ℤ) → length d ≡ c.first → length e ≡ c.second → length unknowns ≡ unknowns_in c
    → IsDivided c d e unknowns
divided c d e unknowns first second long =
    let one = in_two c.condition_unknowns (c.first_unknowns + c.second_unknowns) unknowns long in
    let two = in_two c.first_unknowns c.second_unknowns one.1 one.4 in
    record {
      p = one.0;
      a = two.0;
      b = two.1;
      many = record { first = first; second = second; condition = one.3; left = two.3; right = two.4 };
      is = one.2 ∙ ap (λ (z : List ℤ). one.0 ++ z) two.2;
    }

-- A clause that leads shows its parts, at points that have a number for each of its unknowns.
pub record IsShown (c : Columns) (condition : List Row) (x y : Path End) (d e after : List ℤ) : Type 0 where
  pub p : List ℤ
  pub a : List ℤ
  pub b : List ℤ
  pub many : AreAsMany c d e p a b
  pub shows : Shows condition x y d e p a b after

module _ (from : Node) (c : Columns) (condition : List Row) (x y : Path End) (d e : List ℤ) (first : length d ≡ c.first)
    (second : length e ≡ c.second) where
  -- where something is over all columns, there are as many unknowns
  long_unknowns : (coefs unknowns : List ℤ) → IsOver c coefs → length coefs ≡ length ((d ++ e) ++ unknowns) → length unknowns ≡ unknowns_in c
  long_unknowns coefs unknowns over is =
      let all = length-append (d ++ e) unknowns in
      let variables = length-append d e in
      omega (arith, all, variables, over, is, first, second)

  pub clause_shown : (after : List ℤ) → LeadsTo (d ++ e) after (joined_clause from c condition x y) → IsShown c condition x y d e after
  clause_shown after (unknowns, leads) = by (divided c d e (fitted (unknowns_in c) unknowns) first second (length_fitted (unknowns_in c) unknowns))
    where
      at : (coefs : List ℤ) → IsOver c coefs → length coefs ≡ length ((d ++ e) ++ unknowns) → unknowns ≡ fitted (unknowns_in c) unknowns
      at coefs over is = sym (fitted_itself (unknowns_in c) unknowns (long_unknowns coefs unknowns over is))

      hold : All (Holds ((d ++ e) ++ fitted (unknowns_in c) unknowns)) (joined_clause from c condition x y).rows
      hold = all_in (Holds ((d ++ e) ++ fitted (unknowns_in c) unknowns)) (joined_clause from c condition x y).rows (λ row has.
          subst (λ (z : List ℤ). Holds ((d ++ e) ++ z) row)
          (at row.coefs (in_all (λ (r : Row). IsOver c r.coefs) (joined_clause from c condition x y).rows (rows_over from c condition x y) row has)
          (in_all (λ (r : Row). length r.coefs ≡ length ((d ++ e) ++ unknowns)) (joined_clause from c condition x y).rows leads.columns.0 row has))
          (in_all (Holds ((d ++ e) ++ unknowns)) (joined_clause from c condition x y).rows leads.holds row has))

      values : map (λ (form : Form). value_at form ((d ++ e) ++ fitted (unknowns_in c) unknowns)) (joined_clause from c condition x y).after ≡ after
      values = map_same (λ (form : Form). value_at form ((d ++ e) ++ fitted (unknowns_in c) unknowns))
          (λ (form : Form). value_at form ((d ++ e) ++ unknowns)) (joined_clause from c condition x y).after
          (λ form has. ap (λ (z : List ℤ). value_at form ((d ++ e) ++ z))
          (sym (at form.coefs (in_all (λ (f : Form). IsOver c f.coefs) (joined_clause from c condition x y).after (forms_over from c condition x y) form has)
          (in_all (λ (f : Form). length f.coefs ≡ length ((d ++ e) ++ unknowns)) (joined_clause from c condition x y).after leads.columns.1 form has))))
          ∙ leads.values

      by : IsDivided c d e (fitted (unknowns_in c) unknowns) → IsShown c condition x y d e after
      by parts = record {
        p = parts.p;
        a = parts.a;
        b = parts.b;
        many = parts.many;
        shows = parts_shown c d e parts.p parts.a parts.b parts.many from condition x y after
            (subst (λ (z : List ℤ). All (Holds ((d ++ e) ++ z)) (joined_clause from c condition x y).rows) parts.is hold)
            (subst (λ (z : List ℤ). map (λ (form : Form). value_at form ((d ++ e) ++ z)) (joined_clause from c condition x y).after ≡ after) parts.is values);
      }

-- ---- the clauses of a node

module _ {A B : Type 0} (walk : A → Walk B) where
  each_all : (Q : Path B → Type 0) (xs : List A) → ((x : A) → IsIn x xs → EachArrives Q (walk x)) → EachArrives Q (each xs walk)
  each_all Q [] all = tt
  each_all Q (x ∷ xs) all = each_append Q (walk x) (each xs walk) (all x (inl refl)) (each_all Q xs (λ y has. all y (inr has)))

  each_some : (Q : Path B → Type 0) (xs : List A) (x : A) → IsIn x xs → SomeArrives Q (walk x) → SomeArrives Q (each xs walk)
  each_some Q [] x has some = absurd has
  each_some Q (y ∷ xs) x (inl same) some = some_left Q (walk y) (each xs walk) (subst (λ (z : A). SomeArrives Q (walk z)) same some)
  each_some Q (y ∷ xs) x (inr has) some = some_right Q (walk y) (each xs walk) (each_some Q xs x has some)

all_values : {A : Type 0} (r : Result (List (Path A)) PathLimit) (values : List A) → values_of_all r ≡ Ok values
    → (paths : List (Path A)) × (r ≡ Ok paths) × (values ≡ map (λ (path : Path A). path.value) paths)
all_values (Ok paths) values is = (paths, refl, cc)
all_values (Err limit) values is = cc

module _ (from : Node) (v w : ℕ) (conditions : List (List Row)) (xs ys : List (Path End)) where
  -- The clause is that of one case of each part, which have at most 16 unknowns in all.
  pub record IsCoupled (clause : Clause) : Type 0 where
    pub condition : List Row
    pub x : Path End
    pub y : Path End
    pub of_condition : IsIn condition conditions
    pub of_first : IsIn x xs
    pub of_second : IsIn y ys
    pub few : nat_le (unknowns_in (columns_of v w condition x y)) 16 ≡ true
    pub is : clause ≡ coupled from v w condition x y

  coupled_arrives : (condition : List Row) (x y : Path End) → IsIn condition conditions → IsIn x xs → IsIn y ys
      → EachArrives (λ path. IsCoupled path.value) (coupled_walk from v w condition x y)
  coupled_arrives condition x y of_condition of_first of_second =
      on (nat_le (unknowns_in (columns_of v w condition x y)) 16) refl
    where
      on : (few : Bool) → nat_le (unknowns_in (columns_of v w condition x y)) 16 ≡ few
          → EachArrives (λ path. IsCoupled path.value) (cond few
          (Arrives (record { state = record { rows = []; columns = 0 }; value = coupled from v w condition x y }) ∷ [])
          (stops limit.ManyUnknowns))
      on true few = (
        record {
          condition = condition;
          x = x;
          y = y;
          of_condition = of_condition;
          of_first = of_first;
          of_second = of_second;
          few = few;
          is = refl;
        },
        tt,
      )
      on false few = tt

  coupled_meets : (condition : List Row) (x y : Path End)
      → SomeArrives (λ path. coupled from v w condition x y ≡ path.value) (coupled_walk from v w condition x y)
  coupled_meets condition x y = on (nat_le (unknowns_in (columns_of v w condition x y)) 16)
    where
      on : (few : Bool) → SomeArrives (λ path. coupled from v w condition x y ≡ path.value) (cond few
          (Arrives (record { state = record { rows = []; columns = 0 }; value = coupled from v w condition x y }) ∷ [])
          (stops limit.ManyUnknowns))
      on true = inl refl
      on false = tt

  module _ (clauses : List Clause) (made : clauses_of from v w conditions xs ys ≡ Ok clauses) where
    -- each clause is one of three cases
    pub clause_coupled : (clause : Clause) → IsIn clause clauses → IsCoupled clause
    clause_coupled clause has =
        let paths = all_values (collect 1024 (clause_walk from v w conditions xs ys)) clauses made in
        let found = from_map (λ (path : Path Clause). path.value) clause paths.0 (subst (IsIn clause) paths.2 has) in
        subst IsCoupled (sym found.2)
        (in_each (λ (path : Path Clause). IsCoupled path.value) paths.0
        (each_collected (λ (path : Path Clause). IsCoupled path.value) 1024 (clause_walk from v w conditions xs ys) paths.0 paths.1
        (each_all (λ condition. each xs (λ x. each ys (λ y. coupled_walk from v w condition x y))) (λ (path : Path Clause). IsCoupled path.value) conditions
        (λ condition of_condition.
        each_all (λ x. each ys (λ y. coupled_walk from v w condition x y)) (λ (path : Path Clause). IsCoupled path.value) xs (λ x of_first.
        each_all (λ y. coupled_walk from v w condition x y) (λ (path : Path Clause). IsCoupled path.value) ys (λ y of_second.
        coupled_arrives condition x y of_condition of_first of_second)))))
        found.0 found.1)

    -- the clause of any three cases is one of them
    pub coupled_in : (condition : List Row) (x y : Path End) → IsIn condition conditions → IsIn x xs → IsIn y ys
        → IsIn (coupled from v w condition x y) clauses
    coupled_in condition x y of_condition of_first of_second =
        let paths = all_values (collect 1024 (clause_walk from v w conditions xs ys)) clauses made in
        let wanted : Path Clause → Type 0 = λ (path : Path Clause). coupled from v w condition x y ≡ path.value in
        let found = in_some wanted paths.0
        (some_collected wanted 1024 (clause_walk from v w conditions xs ys) paths.0 paths.1
        (each_some (λ c. each xs (λ x. each ys (λ y. coupled_walk from v w c x y))) wanted conditions condition of_condition
        (each_some (λ z. each ys (λ y. coupled_walk from v w condition z y)) wanted xs x of_first
        (each_some (λ z. coupled_walk from v w condition x z) wanted ys y of_second (coupled_meets condition x y))))) in
        subst (λ (z : Clause). IsIn z clauses) (sym found.2)
        (subst (IsIn found.0.value) (sym paths.2) (in_map (λ (path : Path Clause). path.value) found.0 paths.0 found.1))
