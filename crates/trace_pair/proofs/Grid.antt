-- The grid of inputs.
use Rattle.std.proofs.Common.{ℕ, zero, suc, ◌<◌, ◌≤◌, ◌^◌, ◌/◌, ◌%◌, Bool, true, false, cond, nat_lt, map, pos, arith}
use Rattle.std.specs.Prelude.{All, slice_index_or}
use Rattle.std.specs.List.{range_with_len}
use Rattle.std.proofs.lemmas.List.Elements.{All-map}
use Rattle.trace_pair.specs.Inputs.{grid, grid_value, IsNear}

pub power_is_small : (n : ℕ) → n ≤ 3 → 5 ^ n < 4294967296
power_is_small zero few = omega arith
power_is_small (suc zero) few = omega arith
power_is_small (suc (suc zero)) few = omega arith
power_is_small (suc (suc (suc zero))) few = omega arith
power_is_small (suc (suc (suc (suc n)))) few = absurd (omega arith)

pub power_is_positive : (n : ℕ) → n ≤ 3 → 0 < 5 ^ n
power_is_positive zero few = omega arith
power_is_positive (suc zero) few = omega arith
power_is_positive (suc (suc zero)) few = omega arith
power_is_positive (suc (suc (suc zero))) few = omega arith
power_is_positive (suc (suc (suc (suc n)))) few = absurd (omega arith)

entry_is_near : (number : ℕ) → IsNear (slice_index_or grid number (pos 0))
entry_is_near zero = omega arith
entry_is_near (suc zero) = omega arith
entry_is_near (suc (suc zero)) = omega arith
entry_is_near (suc (suc (suc zero))) = omega arith
entry_is_near (suc (suc (suc (suc zero)))) = omega arith
entry_is_near (suc (suc (suc (suc (suc number))))) = omega arith

value_is_near : (index parameter : ℕ) → IsNear (grid_value index parameter)
value_is_near index parameter = on (nat_lt parameter 3)
  where
    on : (first : Bool) → IsNear (cond first (slice_index_or grid (index / 5 ^ parameter % 5) (pos 0)) (pos 0))
    on true = entry_is_near (index / 5 ^ parameter % 5)
    on false = omega arith

pub grid_is_near : (index arity : ℕ) → All IsNear (map (grid_value index) (range_with_len 0 arity))
grid_is_near index arity = All-map IsNear (grid_value index) (range_with_len 0 arity) (λ k d below. value_is_near index _)
