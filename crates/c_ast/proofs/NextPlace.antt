-- From every place the next one is met: a measure on the work falls at each step that passes no mark. What follows a mark
-- does not count, so a loop whose body begins with one costs no more than the way to it.
use Rattle.std.proofs.Common.{◌≡◌, ℕ, zero, suc, ◌+◌, ◌<◌, Bool, true, false, cond, inl, inr, List, [], ◌∷◌, Option, Some, None, ℤ, refl, ap, arith}
use Rattle.c_ast.specs.declared.place.Place.{Place}
use Rattle.c_ast.specs.declared.place.Place.TheVariants as place
use Rattle.c_ast.specs.Tree.{Expression, Statements, Nil, Set, If, Loop, Break, Continue, Return, Mark, Block, Program}
use Rattle.c_ast.specs.Value.{eval, is_nonzero}
use Rattle.c_ast.specs.Step.{Scope, LoopParts, Item, Run, Test, Cond, Tail, Work, scope_of, values_in, first_variables, Next, Goes, Passes, Ends, past_tail, to_tail, tested, entered, turned, step, spread, seen_next, seen}
use Rattle.c_ast.specs.Returns.{always}
use Rattle.c_ast.specs.Segment.{StandsIn, GoesOnFrom, at_mark, at_exit, met_within}
use Rattle.c_ast.specs.Formed.{BeginsWithMark, PassesMark, AreFormed, IsProgram}
use Rattle.c_ast.specs.Laws.{NextPlaceExists}

-- ---- each loop passes a mark at every turn

abbrev PassMarks : Statements → Type 0
PassMarks Nil = Unit {0}
PassMarks (Set x e others) = PassMarks others
PassMarks (If e a b others) = PassMarks a × PassMarks b × PassMarks others
PassMarks (Loop own e body tail first others) = PassesMark own body × PassMarks body × PassMarks tail × PassMarks others
PassMarks (Break others) = PassMarks others
PassMarks (Continue others) = PassMarks others
PassMarks (Return e others) = PassMarks others
PassMarks (Mark mark others) = PassMarks others
PassMarks (Block a others) = PassMarks a × PassMarks others

formed_pass : (stmts : Statements) (n : ℕ) (scope : Scope) (in_loop : Bool) → AreFormed n scope in_loop stmts → PassMarks stmts
formed_pass Nil n scope in_loop formed = tt
formed_pass (Set x e others) n scope in_loop formed = formed_pass others n (x ∷ scope) in_loop formed.2
formed_pass (If e a b others) n scope in_loop formed =
    (formed_pass a n scope in_loop formed.1, formed_pass b n scope in_loop formed.2, formed_pass others n scope in_loop formed.3)
formed_pass (Loop own e body tail first others) n scope in_loop formed =
    (formed.4, formed_pass body n scope true formed.1, formed_pass tail n scope in_loop formed.2, formed_pass others n scope in_loop formed.5)
formed_pass (Break others) n scope in_loop formed = formed_pass others n scope in_loop formed.1
formed_pass (Continue others) n scope in_loop formed = formed_pass others n scope in_loop formed.1
formed_pass (Return e others) n scope in_loop formed = formed_pass others n scope in_loop formed.1
formed_pass (Mark mark others) n scope in_loop formed = formed_pass others n scope in_loop formed
formed_pass (Block a others) n scope in_loop formed = (formed_pass a n scope in_loop formed.0, formed_pass others n scope in_loop formed.1)

-- the same of a loop, an item and a work
record LoopPasses (loop : LoopParts) : Type 0 where
  pub turn : PassesMark loop.mark loop.body
  pub body : PassMarks loop.body
  pub step : PassMarks loop.step

abbrev ItemPasses : Item → Type 0
ItemPasses (Run scope others) = PassMarks others
ItemPasses (Test scope loop) = LoopPasses loop
ItemPasses (Cond scope loop) = LoopPasses loop
ItemPasses (Tail scope loop) = LoopPasses loop

abbrev WorkPasses : Work → Type 0
WorkPasses [] = Unit {0}
WorkPasses (item ∷ work) = ItemPasses item × WorkPasses work

passes_past : (work : Work) → WorkPasses work → WorkPasses (past_tail work)
passes_past [] passes = tt
passes_past (Run scope others ∷ work) passes = passes_past work passes.1
passes_past (Test scope loop ∷ work) passes = passes_past work passes.1
passes_past (Cond scope loop ∷ work) passes = passes_past work passes.1
passes_past (Tail scope loop ∷ work) passes = passes.1

passes_to : (work : Work) → WorkPasses work → WorkPasses (to_tail work)
passes_to [] passes = tt
passes_to (Run scope others ∷ work) passes = passes_to work passes.1
passes_to (Test scope loop ∷ work) passes = passes_to work passes.1
passes_to (Cond scope loop ∷ work) passes = passes_to work passes.1
passes_to (Tail scope loop ∷ work) passes = passes

-- ---- the measure

-- the way from a loop's test to a mark or out of the loop: the body, where it begins with one, costs nothing behind it
abbrev test_cost : Option ℕ → ℕ → ℕ → ℕ
test_cost (Some mark) front after = 0
test_cost None front after = 2 + (front + after)

-- How many steps these statements may take before a mark or the end is met, where what follows takes `after`, and what a
-- `break` and a `continue` lead to takes `out` and `again`.
abbrev cost : Statements → ℕ → ℕ → ℕ → ℕ
cost Nil after out again = 1 + after
cost (Set x e others) after out again = 1 + cost others after out again
cost (If e a b others) after out again =
    let behind = cost others after out again in
    1 + (cost a behind out again + cost b behind out again)
cost (Loop own e body tail first others) after out again =
    let behind = cost others after out again in
    let test = test_cost own (cost body 0 0 0) behind in
    let behind_body = 1 + cost tail test out again in
    1 + (test + cost body behind_body behind behind_body)
cost (Break others) after out again = 1 + out
cost (Continue others) after out again = 1 + again
cost (Return e others) after out again = 0
cost (Mark mark others) after out again = 0
cost (Block a others) after out again = 1 + cost a (cost others after out again) out again

-- the costs of a work, and of what a `break` and a `continue` in front of it lead to
record Costs : Type 0 where
  pub on : ℕ
  pub out : ℕ
  pub again : ℕ

abbrev loop_test : LoopParts → ℕ → ℕ
loop_test loop after = test_cost loop.mark (cost loop.body 0 0 0) after

abbrev loop_tail : LoopParts → Costs → ℕ
loop_tail loop costs_behind = 1 + cost loop.step (loop_test loop costs_behind.on) costs_behind.out costs_behind.again

abbrev item_costs : Item → Costs → Costs
item_costs (Run scope others) behind = record { on = cost others behind.on behind.out behind.again; out = behind.out; again = behind.again }
item_costs (Test scope loop) behind = record { on = loop_test loop behind.on; out = behind.out; again = behind.again }
item_costs (Cond scope loop) behind =
    record { on = 1 + (cost loop.body (loop_tail loop behind) behind.on (loop_tail loop behind) + behind.on); out = behind.out; again = behind.again }
item_costs (Tail scope loop) behind = record { on = loop_tail loop behind; out = behind.on; again = loop_tail loop behind }

abbrev costs : Work → Costs
costs [] = record { on = 0; out = 0; again = 0 }
costs (item ∷ work) = item_costs item (costs work)

costs-past : (work : Work) → (costs (past_tail work)).on ≡ (costs work).out
costs-past [] = refl
costs-past (Run scope others ∷ work) = costs-past work
costs-past (Test scope loop ∷ work) = costs-past work
costs-past (Cond scope loop ∷ work) = costs-past work
costs-past (Tail scope loop ∷ work) = refl

costs-to : (work : Work) → (costs (to_tail work)).on ≡ (costs work).again
costs-to [] = refl
costs-to (Run scope others ∷ work) = costs-to work
costs-to (Test scope loop ∷ work) = costs-to work
costs-to (Cond scope loop ∷ work) = costs-to work
costs-to (Tail scope loop ∷ work) = refl

-- what begins with a mark costs the same, whatever follows
cost-front : (stmts : Statements) → BeginsWithMark stmts → (after out again after' out' again' : ℕ) → cost stmts after out again ≡ cost stmts after' out' again'
cost-front Nil begins after out again after' out' again' = absurd begins
cost-front (Set x e others) begins after out again after' out' again' = absurd begins
cost-front (If e a b others) begins after out again after' out' again' = absurd begins
cost-front (Loop own e body tail first others) begins after out again after' out' again' = absurd begins
cost-front (Break others) begins after out again after' out' again' = absurd begins
cost-front (Continue others) begins after out again after' out' again' = absurd begins
cost-front (Return e others) begins after out again after' out' again' = absurd begins
cost-front (Mark mark others) begins after out again after' out' again' = refl
cost-front (Block a others) begins after out again after' out' again' =
    ap (λ (n : ℕ). 1 + n) (cost-front a begins (cost others after out again) out again (cost others after' out' again') out' again')

-- ---- a step that passes no mark falls

-- the step goes on with less work, or meets a place
abbrev Falls : ℕ → Next → Type 0
Falls n (Goes work env) = ((costs work).on < n) × WorkPasses work
Falls n (Passes mark work env) = Unit {0}
Falls n (Ends value) = Unit {0}

falls_if : (holds : Bool) (scope : Scope) (e : Expression) (a b others : Statements) (work : Work) (env : List ℤ) → PassMarks a × PassMarks b
    × PassMarks others → WorkPasses work
    → Falls (costs (Run scope (If e a b others) ∷ work)).on (Goes (Run scope (cond holds a b) ∷ Run scope others ∷ work) env)
falls_if true scope e a b others work env passes behind = (omega arith, (passes.0, (passes.2, behind)))
falls_if false scope e a b others work env passes behind = (omega arith, (passes.1, (passes.2, behind)))

falls_enter : (first : Bool) (scope : Scope) (own : Option ℕ) (e : Expression) (body tail others : Statements) (work : Work) (env : List ℤ)
    → PassesMark own body × PassMarks body × PassMarks tail × PassMarks others → WorkPasses work
    → Falls (costs (Run scope (Loop own e body tail first others) ∷ work)).on
    (Goes (entered first scope (record { mark = own; cond = e; body = body; step = tail }) (Run scope others ∷ work)) env)
falls_enter true scope own e body tail others work env passes behind =
    (omega arith, (record { turn = passes.0; body = passes.1; step = passes.2 }, (passes.3, behind)))
falls_enter false scope own e body tail others work env passes behind =
    (omega arith, (passes.1, (record { turn = passes.0; body = passes.1; step = passes.2 }, (passes.3, behind))))

falls_test : (own : Option ℕ) (scope : Scope) (loop : LoopParts) (work : Work) (env : List ℤ) → loop.mark ≡ own → LoopPasses loop → WorkPasses work
    → Falls (costs (Test scope loop ∷ work)).on (tested own (Cond scope loop ∷ work) env)
falls_test (Some mark) scope loop work env is passes behind = tt
falls_test None scope loop work env is passes behind =
    let front : BeginsWithMark loop.body = rw is at passes.turn in
    let same : cost loop.body (loop_tail loop (costs work)) (costs work).on (loop_tail loop (costs work))
    ≡ cost loop.body 0 0 0 = cost-front loop.body front _ _ _ _ _ _ in
    let test : loop_test loop (costs work).on ≡ 2 + (cost loop.body 0 0 0 + (costs work).on) = rw is in
    (omega arith, (passes, behind))

falls_turn : (holds : Bool) (scope : Scope) (loop : LoopParts) (work : Work) (env : List ℤ) → LoopPasses loop → WorkPasses work
    → Falls (costs (Cond scope loop ∷ work)).on (Goes (turned holds scope loop work) env)
falls_turn true scope loop work env passes behind = (omega arith, (passes.body, (passes, behind)))
falls_turn false scope loop work env passes behind = (omega arith, behind)

falls : (work : Work) (env : List ℤ) → WorkPasses work → Falls (costs work).on (step work env)
falls [] env passes = tt
falls (Run scope Nil ∷ work) env passes = (omega arith, passes.1)
falls (Run scope (Set x e others) ∷ work) env passes = (omega arith, passes)
falls (Run scope (If e a b others) ∷ work) env passes = falls_if (is_nonzero (eval e env)) scope e a b others work env passes.0 passes.1
falls (Run scope (Loop own e body tail first others) ∷ work) env passes = falls_enter first scope own e body tail others work env passes.0 passes.1
falls (Run scope (Break others) ∷ work) env passes = (omega (arith, costs-past work), passes_past work passes.1)
falls (Run scope (Continue others) ∷ work) env passes = (omega (arith, costs-to work), passes_to work passes.1)
falls (Run scope (Return e others) ∷ work) env passes = tt
falls (Run scope (Mark mark others) ∷ work) env passes = tt
falls (Run scope (Block a others) ∷ work) env passes = (omega arith, (passes.0.0, (passes.0.1, passes.1)))
falls (Test scope loop ∷ work) env passes = falls_test loop.mark scope loop work env refl passes.0 passes.1
falls (Cond scope loop ∷ work) env passes = falls_turn (is_nonzero (eval loop.cond env)) scope loop work env passes.0 passes.1
falls (Tail scope loop ∷ work) env passes = (omega arith, (passes.0.step, (passes.0, passes.1)))

-- ---- the next place

record Meets (n : ℕ) (work : Work) (env : List ℤ) : Type 0 where
  pub l : Place
  pub e : List ℤ
  pub met : met_within n work env ≡ Some (l, e)

record MeetsNext (n : ℕ) (next : Next) : Type 0 where
  pub l : Place
  pub e : List ℤ
  pub met : seen_next always None at_mark at_exit (seen always None at_mark at_exit n) 0 next ≡ Some (l, e)

meets : (n : ℕ) (work : Work) (env : List ℤ) → (costs work).on < n → WorkPasses work → Meets n work env
meets zero work env below passes = absurd (omega arith)
meets (suc n) work env below passes = let met = on (step work env) (falls work env passes)
    (λ work env. meets n work env) in record { l = met.l; e = met.e; met = met.met }
  where
    on : (next : Next) → Falls (costs work).on next → ((after : Work) (env : List ℤ) → (costs after).on < n → WorkPasses after → Meets n after env)
        → MeetsNext n next
    on (Goes after env) falls_on later = let met = later after env (omega arith) falls_on.1 in record { l = met.l; e = met.e; met = met.met }
    on (Passes mark after env) falls_on later = record { l = place.Mark mark; e = values_in (scope_of after) env; met = refl }
    on (Ends value) falls_on later = record { l = place.Exit; e = value ∷ []; met = refl }

-- ---- the work after a mark

stands_passes : (stmts : Statements) (scope : Scope) (work : Work) (mark : ℕ) (after : Work) → PassMarks stmts → WorkPasses work
    → StandsIn scope stmts work mark after → WorkPasses after
stands_passes Nil scope work mark after passes behind stands = absurd stands
stands_passes (Set x e others) scope work mark after passes behind stands = stands_passes others (x ∷ scope) work mark after passes behind stands
stands_passes (If e a b others) scope work mark after passes behind (inl stands) = stands_passes a scope _ mark after passes.0 (passes.2, behind) stands
stands_passes (If e a b others) scope work mark after passes behind (inr (inl stands)) = stands_passes b scope _ mark after passes.1 (passes.2, behind) stands
stands_passes (If e a b others) scope work mark after passes behind (inr (inr stands)) = stands_passes others scope work mark after passes.2 behind stands
stands_passes (Loop own e body tail first others) scope work mark after passes behind (inl stands) =
    rw stands.1 (record { turn = passes.0; body = passes.1; step = passes.2 }, (passes.3, behind))
stands_passes (Loop own e body tail first others) scope work mark after passes behind (inr (inl stands)) =
    stands_passes body scope _ mark after passes.1 (record { turn = passes.0; body = passes.1; step = passes.2 }, (passes.3, behind)) stands
stands_passes (Loop own e body tail first others) scope work mark after passes behind (inr (inr (inl stands))) =
    stands_passes tail scope _ mark after passes.2 (record { turn = passes.0; body = passes.1; step = passes.2 }, (passes.3, behind)) stands
stands_passes (Loop own e body tail first others) scope work mark after passes behind (inr (inr (inr stands))) =
    stands_passes others scope work mark after passes.3 behind stands
stands_passes (Break others) scope work mark after passes behind stands = stands_passes others scope work mark after passes behind stands
stands_passes (Continue others) scope work mark after passes behind stands = stands_passes others scope work mark after passes behind stands
stands_passes (Return e others) scope work mark after passes behind stands = stands_passes others scope work mark after passes behind stands
stands_passes (Mark own others) scope work mark after passes behind (inl stands) = rw stands.1 (passes, behind)
stands_passes (Mark own others) scope work mark after passes behind (inr stands) = stands_passes others scope work mark after passes behind stands
stands_passes (Block a others) scope work mark after passes behind (inl stands) = stands_passes a scope _ mark after passes.0 (passes.1, behind) stands
stands_passes (Block a others) scope work mark after passes behind (inr stands) = stands_passes others scope work mark after passes.1 behind stands

from_passes : (f : Program) → IsProgram f → (l : Place) (work : Work) → GoesOnFrom f l work → WorkPasses work
from_passes f is place.Entry work from = rw from (formed_pass f.body f.vars (first_variables f.params) false is.formed, tt)
from_passes f is (place.Mark mark) work from =
    stands_passes f.body (first_variables f.params) [] mark work (formed_pass f.body f.vars (first_variables f.params) false is.formed) tt from
from_passes f is place.Exit work from = absurd from

pub next_place_exists : NextPlaceExists
next_place_exists f is l e work from =
    let found = meets (suc (costs work).on) work (spread (scope_of work) f.vars e) (omega arith) (from_passes f is l work from) in
    (found.l, found.e, record { work = work; from = from; steps = suc (costs work).on; met = found.met })
