-- How the first inequality with some coefficients is found: the rows in front are looked through, and those behind are
-- in a map.
use Rattle.std.specs.Prelude.{◌≡◌, ℕ, ℤ, Bool, ◌&&◌, not, nat_lt, if◌then◌else◌, List, drop, Option, Some, Vec}
use Rattle.std.specs.List.{position_from}
use Rattle.std.specs.Ordering.{int_eq}
use Rattle.std.specs.declared.alloc.Global.{Global}
use lib.Pointwise.{pointwise}
use Rattle.indexmap.specs.IndexMap.{IndexMap, get_by}
use Rattle.elimination.specs.Combination.{Combination}

-- so many rows are in front
abbrev pub scanned : ℕ
scanned = 32

-- Whether the row is an inequality with these coefficients.
abbrev pub has_coefs : List ℤ → Combination → Bool
has_coefs coefs row = not row.row.equality && pointwise int_eq row.row.coefs coefs

-- the place that the map has for these coefficients
abbrev pub place_of : {S : Type 0} → List ℤ → IndexMap (Vec ℤ Global) ℕ S → Option ℕ
place_of coefs places = get_by (λ key. pointwise int_eq coefs key.items) places

-- the place for some coefficients, where a map had `before` for them and those of a row are noted with the row's place
abbrev pub noted : List ℤ → ℕ → List ℤ → Option ℕ → Option ℕ
noted row at coefs before = if not (nat_lt at scanned) && pointwise int_eq coefs row then Some at else before

-- For all coefficients the map has the place of the first inequality behind those in front that has them.
abbrev pub TellsPlaces : {S : Type 0} → IndexMap (Vec ℤ Global) ℕ S → List Combination → Type 0
TellsPlaces places rows =
    (coefs : List ℤ) → place_of coefs places ≡ position_from (has_coefs coefs) scanned (drop scanned rows)
