-- Small histories: which are legal, and what is told of them.
use Rattle.std.proofs.Common.{◌≡◌, true, false, List, [], ◌∷◌, Some, None, ℤ, pos, refl}
use Rattle.c_ast.specs.declared.trace.Pair.{Pair}
use Rattle.c_ast.specs.declared.place.Side.TheVariants.{A}
use Rattle.c_ast.specs.Comparison.{Comparison}
use Rattle.graph_run.specs.declared.skip.Skip.TheVariants.{Wide}
use Rattle.trace_pair.specs.declared.skipped.Skipped.{Skipped}
use Rattle.pool_core.specs.declared.item.Item.{Item}
use Rattle.pool_core.specs.declared.item.Item.TheVariants as item
use Rattle.pool_core.specs.declared.verdict.Why.TheVariants.{NoCoupling}
use Rattle.pool_core.specs.declared.verdict.Verdict.TheVariants.{Different, Unknown}
use Rattle.pool_core.specs.History.{pairs_of, indexes_of, workers_of, verdict_of, has_later_pair, MayFollow, IsLegal}
use Rattle.pool_core.specs.Plays.{State, Skip, double_of}

-- A pair on which both functions return their input.
abbrev returning : ℤ → Pair
returning z = record {
  input = z ∷ [];
  first = record { events = []; result = z };
  second = record { events = []; result = z };
}

abbrev wide : Skipped
wide = record { side = A; why = Wide }

-- Worker 0 adds a pair, worker 1 skips a sample and adds a pair, and an alignment was tried.
abbrev some_items : List Item
some_items =
    item.Pair 0 3 (returning (pos 4)) ∷ item.Skipped 1 0 wide ∷ item.Pair 1 2 (returning (pos 7))
    ∷ item.Tried 0 2 1 NoCoupling ∷ []

abbrev closed_items : List Item
closed_items = item.Skipped 1 0 wide ∷ item.Posted 0 (Different 3 (pos 4 ∷ []) (pos 4) (pos 5)) ∷ []

pairs : pairs_of some_items ≡ returning (pos 4) ∷ returning (pos 7) ∷ []
pairs = refl

indexes : indexes_of some_items ≡ 3 ∷ 2 ∷ []
indexes = refl

workers : workers_of some_items ≡ 0 ∷ 1 ∷ []
workers = refl

no_verdict : verdict_of some_items ≡ None
no_verdict = refl

a_verdict : verdict_of closed_items ≡ Some (Different 3 (pos 4 ∷ []) (pos 4) (pos 5))
a_verdict = refl

-- The second pair is worker 1's, so it may not mine the first alone; worker 0 may.
later : has_later_pair 1 1 some_items ≡ true
later = refl

not_later : has_later_pair 0 1 some_items ≡ false
not_later = refl

module _ (subject : Comparison) where
  -- The empty history is legal.
  empty : IsLegal subject []
  empty = tt

  -- Nothing begins with a reason, follows a verdict, or says of a sample what was said.
  not_mined : MayFollow subject [] (item.Tried 0 0 1 NoCoupling) → ⊥
  not_mined may = let none : false ≡ true = may.1.mined in cc

  after_verdict : MayFollow subject closed_items (item.Skipped 1 1 wide) → ⊥
  after_verdict may = let none = may.0 in cc

  said_twice : MayFollow subject some_items (item.Skipped 0 3 wide) → ⊥
  said_twice may = let new : true ≡ false = may.1.0.new in cc

  -- A verdict that nothing is decided is never posted.
  not_posted : MayFollow subject [] (item.Posted 0 (Unknown [] [])) → ⊥
  not_posted may = may.1

  -- ---- what is answered

  abbrev some_state : State
  some_state = record { subject = subject; items = some_items }

  -- The sample with index 2 stands at position 2.
  at_two : double_of some_state (Skip 0 subject 2 wide) ≡ Some 2
  at_two = refl

  not_there : double_of some_state (Skip 0 subject 1 wide) ≡ None
  not_there = refl
