-- How many values are in scope, and how many an environment has.
use Rattle.std.proofs.Common.{◌≡◌, ℕ, zero, suc, ◌≤◌, Bool, true, false, List, [], ◌∷◌, map, length, Option, Some, None, ℤ, pos, ap, ◌∙◌, refl, arith, length-set}
use Rattle.c_ast.specs.Tree.{Nil, Set, If, Loop, Break, Continue, Return, Mark, Block}
use Rattle.c_ast.specs.Value.{eval}
use Rattle.c_ast.specs.Environments.{MapOfSpread, MapOfValues, SpreadHasLength, HasLength, StepKeepsLength}
use Rattle.c_ast.specs.Step.{Scope, is_in, Run, Test, Cond, Tail, Work, with_value, values_from, spread_one, spread_from, tested}

pub length-values_from : (scope : Scope) (i : ℕ) (a b : List ℤ) → length a ≡ length b
    → length (values_from scope i a) ≡ length (values_from scope i b)
length-values_from scope i [] [] long = refl
length-values_from scope i [] (w ∷ b) long = cc
length-values_from scope i (v ∷ a) [] long = cc
length-values_from scope i (v ∷ a) (w ∷ b) long = more (is_in scope i) (length-values_from scope (suc i) a b (omega arith))
  where
    more : (t : Bool) → length (values_from scope (suc i) a) ≡ length (values_from scope (suc i) b)
        → length (with_value t v (values_from scope (suc i) a)) ≡ length (with_value t w (values_from scope (suc i) b))
    more true e = ap suc e
    more false e = e

pub length-spread_from : {A : Type 0} (absent : A) (scope : Scope) (i n : ℕ) (values : List A)
    → length (spread_from absent scope i n values) ≡ n
length-spread_from absent scope i zero values = refl
length-spread_from {A = A} absent scope i (suc n) values = more (is_in scope i) values (length-spread_from absent scope (suc i) n)
  where
    more : (t : Bool) (values : List A) → ((left : List A) → length (spread_from absent scope (suc i) n left) ≡ n)
        → length (spread_one absent t values (spread_from absent scope (suc i) n)) ≡ suc n
    more true [] long = ap suc (long [])
    more true (v ∷ values) long = ap suc (long values)
    more false values long = ap suc (long values)

pub length-spread : SpreadHasLength
length-spread scope n values = length-spread_from (pos 0) scope 0 n values

pub values_from-few : (scope : Scope) (i : ℕ) (env : List ℤ) → length (values_from scope i env) ≤ length env
values_from-few scope i [] = omega arith
values_from-few scope i (v ∷ env) = more (is_in scope i) (values_from-few scope (suc i) env)
  where
    more : (t : Bool) → length (values_from scope (suc i) env) ≤ length env
        → length (with_value t v (values_from scope (suc i) env)) ≤ length (v ∷ env)
    more true few = omega arith
    more false few = omega arith

-- ---- a step keeps the number of values

length-tested : (n : ℕ) (own : Option ℕ) (work : Work) (env : List ℤ) → length env ≡ n → HasLength n (tested own work env)
length-tested n None work env long = long
length-tested n (Some mark) work env long = long

pub length-step : StepKeepsLength
length-step n [] env long = tt
length-step n (Run scope Nil ∷ work) env long = long
length-step n (Run scope (Set x e others) ∷ work) env long = length-set env x (eval e env) ∙ long
length-step n (Run scope (If e a b others) ∷ work) env long = long
length-step n (Run scope (Loop own e body tail first others) ∷ work) env long = long
length-step n (Run scope (Break others) ∷ work) env long = long
length-step n (Run scope (Continue others) ∷ work) env long = long
length-step n (Run scope (Return e others) ∷ work) env long = tt
length-step n (Run scope (Mark own others) ∷ work) env long = long
length-step n (Run scope (Block a others) ∷ work) env long = long
length-step n (Test scope loop ∷ work) env long = length-tested n loop.mark (Cond scope loop ∷ work) env long
length-step n (Cond scope loop ∷ work) env long = long
length-step n (Tail scope loop ∷ work) env long = long

-- ---- functions of values

map-spread_from : {A B : Type 0} (g : A → B) (absent : A) (scope : Scope) (i n : ℕ) (values : List A)
    → map g (spread_from absent scope i n values) ≡ spread_from (g absent) scope i n (map g values)
map-spread_from g absent scope i zero values = refl
map-spread_from {A = A} {B = B} g absent scope i (suc n) values = more (is_in scope i) values (map-spread_from g absent scope (suc i) n)
  where
    more : (t : Bool) (values : List A)
        → ((left : List A) → map g (spread_from absent scope (suc i) n left) ≡ spread_from (g absent) scope (suc i) n (map g left))
        → map g (spread_one absent t values (spread_from absent scope (suc i) n))
        ≡ spread_one (g absent) t (map g values) (spread_from (g absent) scope (suc i) n)
    more true [] others = ap (λ (l : List B). g absent ∷ l) (others [])
    more true (v ∷ values) others = ap (λ (l : List B). g v ∷ l) (others values)
    more false values others = ap (λ (l : List B). g absent ∷ l) (others values)

map-values_from : {A B : Type 0} (g : A → B) (scope : Scope) (i : ℕ) (env : List A)
    → map g (values_from scope i env) ≡ values_from scope i (map g env)
map-values_from g scope i [] = refl
map-values_from {A = A} {B = B} g scope i (v ∷ env) = more (is_in scope i) (map-values_from g scope (suc i) env)
  where
    more : (t : Bool) → map g (values_from scope (suc i) env) ≡ values_from scope (suc i) (map g env)
        → map g (with_value t v (values_from scope (suc i) env)) ≡ with_value t (g v) (values_from scope (suc i) (map g env))
    more true others = ap (λ (l : List B). g v ∷ l) others
    more false others = others

pub map_of_spread : {A B : Type 0} → MapOfSpread A B
map_of_spread g absent scope n values = map-spread_from g absent scope 0 n values

pub map_of_values : {A B : Type 0} → MapOfValues A B
map_of_values g scope env = map-values_from g scope 0 env
