-- The forms of the start, one variable after the other.
use Rattle.std.proofs.Common.{◌≡◌, ℕ, suc, ◌+◌, ◌-◌, ◌<◌, ◌≤◌, Bool, true, false, ◌&&◌, ltb, List, [], ◌∷◌, ◌++◌, length, replicate, refl, sym, ap, ◌∙◌, append_assoc, true≢false, arith}
use Rattle.std.specs.Prelude.{pos}
use Rattle.std.proofs.lemmas.List.{length-replicate, length-set}
use Rattle.std.proofs.lemmas.Bool.Decides.{nat_tests}
use Rattle.c_ast.specs.Step.{is_in, spread_one, spread_from}
use Rattle.lin_terms.specs.declared.form.Form.{Form}
use Rattle.lin_terms.specs.Form.{constant_form, variable_form}
use Rattle.sym_paths.specs.Cases.{variables_from, start_forms}
use Rattle.sym_paths.specs.Arrivals.{HasRoom}
use Rattle.sym_paths.specs.Starts.{begun, met_after}

module _ (room : ℕ) (variables : List ℕ) where
  abbrev zero_form : Form
  zero_form = constant_form room (pos 0)

  -- what is still to come: n variables from x on, with so many behind
  abbrev pub to_come : ℕ → ℕ → ℕ → List Form
  to_come x n met = spread_from (constant_form room (pos 0)) variables x n (variables_from room met (length variables - met))

  by_scope : (is before : Bool) (x n met : ℕ) → is_in variables x ≡ is → ltb met (length variables) ≡ before → met ≤ length variables
      → to_come x (suc n) met ≡ begun room (is && before) met ∷ to_come (suc x) n (met_after (is && before) met)
  by_scope true true x n met is before within =
      let less : met < length variables = grind (arith, nat_tests) in
      let left : length variables - met ≡ suc (length variables - suc met) = omega (arith, less) in
      ap (λ (b : Bool). spread_one zero_form b (variables_from room met (length variables - met)) (spread_from zero_form variables (suc x) n)) is
      ∙ ap (λ (k : ℕ). spread_one zero_form true (variables_from room met k) (spread_from zero_form variables (suc x) n)) left
  by_scope true false x n met is before within =
      let more : length variables ≤ met = grind (arith, nat_tests) in
      let none : length variables - met ≡ 0 = omega (arith, more) in
      ap (λ (b : Bool). spread_one zero_form b (variables_from room met (length variables - met)) (spread_from zero_form variables (suc x) n)) is
      ∙ ap (λ (k : ℕ). spread_one zero_form true (variables_from room met k) (spread_from zero_form variables (suc x) n)) none
      ∙ ap (λ (k : ℕ). zero_form ∷ spread_from zero_form variables (suc x) n (variables_from room met k)) (sym none)
  by_scope false before x n met is before_is within =
      ap (λ (b : Bool). spread_one zero_form b (variables_from room met (length variables - met)) (spread_from zero_form variables (suc x) n)) is

  -- one variable more
  pub begun_next : (vars x met : ℕ) (forms : List Form) (is_next : Bool) → is_next ≡ (is_in variables x && ltb met (length variables))
      → met ≤ length variables → x < vars → forms ++ to_come x (vars - x) met ≡ start_forms room variables vars
      → (forms ++ begun room is_next met ∷ []) ++ to_come (x + 1) (vars - (x + 1)) (met_after is_next met) ≡ start_forms room variables vars
  begun_next vars x met forms is_next is within below all =
      let one : x + 1 ≡ suc x = omega arith in
      let left : vars - x ≡ suc (vars - suc x) = omega (arith, below) in
      let others = to_come (suc x) (vars - suc x) (met_after (is_in variables x && ltb met (length variables)) met) in
      rw (is, one) (
      append_one forms (begun room (is_in variables x && ltb met (length variables)) met) others
      ∙ ap (λ (t : List Form). forms ++ t) (sym (by_scope (is_in variables x) (ltb met (length variables)) x (vars - suc x) met refl refl within))
      ∙ ap (λ (k : ℕ). forms ++ to_come x k met) (sym left) ∙ all)
    where
      append_one : (xs : List Form) (y : Form) (ys : List Form) → (xs ++ y ∷ []) ++ ys ≡ xs ++ (y ∷ ys)
      append_one [] y ys = refl
      append_one (x ∷ xs) y ys = ap (λ (t : List Form). x ∷ t) (append_one xs y ys)

-- it has a coefficient for each column
pub begun_has_room : (room : ℕ) (is_next : Bool) (met : ℕ) → HasRoom room (begun room is_next met)
begun_has_room room true met = length-set (replicate room (pos 0)) met (pos 1) ∙ length-replicate room (pos 0)
begun_has_room room false met = length-replicate room (pos 0)

pub after_within : (variables : List ℕ) (x met : ℕ) (is_next : Bool) → is_next ≡ (is_in variables x && ltb met (length variables)) → met ≤ length variables
    → met_after is_next met ≤ length variables
after_within variables x met true is within = by (is_in variables x) is
  where
    by : (b : Bool) → true ≡ (b && ltb met (length variables)) → suc met ≤ length variables
    by true is = grind (arith, nat_tests)
    by false is = absurd (true≢false is)
after_within variables x met false is within = within

-- ---- the first variables alone

-- one variable more
pub variables_next : (room count x : ℕ) (forms : List Form) → x < count → forms ++ variables_from room x (count - x) ≡ variables_from room 0 count
    → (forms ++ variable_form room x ∷ []) ++ variables_from room (x + 1) (count - (x + 1)) ≡ variables_from room 0 count
variables_next room count x forms below all =
    let one : x + 1 ≡ suc x = omega arith in
    let left : count - x ≡ suc (count - suc x) = omega (arith, below) in
    rw one (
    append_assoc forms (variable_form room x ∷ []) (variables_from room (suc x) (count - suc x))
    ∙ ap (λ (k : ℕ). forms ++ variables_from room x k) (sym left) ∙ all)
