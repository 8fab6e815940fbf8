-- Values below 2^100 in size stay so.
use Rattle.std.proofs.lemmas.List.Elements.{All-cons}
use Rattle.std.proofs.Common.{◌≡◌, ℕ, zero, suc, Bool, true, false, ◌&&◌, List, [], ◌∷◌, ℤ, pos, refl, arith}
use Rattle.std.specs.Prelude.{slice_set, slice_index_or}
use Rattle.c_ast.specs.Tree.{Expression, Num, Var, Un, Bin, Cond}
use Rattle.c_ast.specs.Value.{eval}
use Rattle.c_ast.specs.FitsRun.{FitsRun, parts_fit_run}
use Rattle.c_ast.specs.Step.{Scope, is_in, spread_one, spread_from}
use Rattle.flow_graph.specs.Run.{values_of}
use Rattle.graph_run.specs.Answers.{AllFitRun}

both : (a b : Bool) → (a && b) ≡ true → b ≡ true
both true b h = h
both false b h = cc

-- the whole is one of the parts
pub value_fits : (e : Expression) (env : List ℤ) → parts_fit_run e env ≡ true → FitsRun (eval e env)
value_fits (Num z) env h = h
value_fits (Var x) env h = h
value_fits (Un op e) env h = both (parts_fit_run e env) _ h
value_fits (Bin op e f) env h = both (parts_fit_run f env) _ (both (parts_fit_run e env) _ h)
value_fits (Cond c e f) env h = both (parts_fit_run f env) _ (both (parts_fit_run e env) _ (both (parts_fit_run c env) _ h))

zero_fits : FitsRun (pos 0)
zero_fits = refl

first_of : (x : ℤ) (xs : List ℤ) → AllFitRun (x ∷ xs) → FitsRun x
first_of x xs all = all 0 x (omega arith)

others_of : (x : ℤ) (xs : List ℤ) → AllFitRun (x ∷ xs) → AllFitRun xs
others_of x xs all = λ k d below. all (suc k) d (omega arith)

cons_fit : (x : ℤ) (xs : List ℤ) → FitsRun x → AllFitRun xs → AllFitRun (x ∷ xs)
cons_fit x xs first others = All-cons FitsRun x xs first others

none_fit : AllFitRun []
none_fit = λ k d below. absurd (omega arith)

pub set_fits : (env : List ℤ) (x : ℕ) (value : ℤ) → AllFitRun env → FitsRun value → AllFitRun (slice_set env x value)
set_fits [] x value all new = all
set_fits (v ∷ env) zero value all new = cons_fit value env new (others_of v env all)
set_fits (v ∷ env) (suc x) value all new =
    cons_fit v (slice_set env x value) (first_of v env all) (set_fits env x value (others_of v env all) new)

pub spread_fits : (s : Scope) (i n : ℕ) (values : List ℤ) → AllFitRun values → AllFitRun (spread_from (pos 0) s i n values)
spread_fits s i zero values all = none_fit
spread_fits s i (suc n) values all = on (is_in s i) values all (λ others. spread_fits s (suc i) n others)
  where
    on : (t : Bool) (values : List ℤ) → AllFitRun values
        → ((others : List ℤ) → AllFitRun others → AllFitRun (spread_from (pos 0) s (suc i) n others))
        → AllFitRun (spread_one (pos 0) t values (spread_from (pos 0) s (suc i) n))
    on true [] all more = cons_fit (pos 0) (spread_from (pos 0) s (suc i) n []) zero_fits (more [] none_fit)
    on true (v ∷ values) all more = cons_fit v (spread_from (pos 0) s (suc i) n values) (first_of v values all) (more values (others_of v values all))
    on false values all more = cons_fit (pos 0) (spread_from (pos 0) s (suc i) n values) zero_fits (more values all)

at_fits : (env : List ℤ) (x : ℕ) → AllFitRun env → FitsRun (slice_index_or env x (pos 0))
at_fits [] x all = zero_fits
at_fits (v ∷ env) zero all = first_of v env all
at_fits (v ∷ env) (suc x) all = at_fits env x (others_of v env all)

pub values_fit : (variables : List ℕ) (env : List ℤ) → AllFitRun env → AllFitRun (values_of variables env)
values_fit [] env all = none_fit
values_fit (x ∷ variables) env all =
    cons_fit (slice_index_or env x (pos 0)) (values_of variables env) (at_fits env x all) (values_fit variables env all)
