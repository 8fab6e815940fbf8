-- The twelve alignments, one after another.
use Rattle.std.proofs.Common.{◌≡◌, ℕ, zero, suc, ◌-◌, List, [], ◌∷◌, map, refl, arith}
use Rattle.std.specs.Prelude.{Some, slice_get}
use Rattle.std.proofs.lemmas.Option.{slice_get-map}
use Rattle.c_ast.specs.Comparison.{Comparison}
use Rattle.alignment.specs.Number.{IsAlignment}
use Rattle.miners.specs.Gathered.{nothing_gathered}
use Rattle.pool_core.specs.declared.lives.Front.{Front}
use Rattle.pool_core.specs.Beside.{AreFronts}

-- Their numbers.
abbrev pub numbers : List ℕ
numbers = 1 ∷ 2 ∷ 3 ∷ 4 ∷ 5 ∷ 6 ∷ 7 ∷ 8 ∷ 9 ∷ 10 ∷ 11 ∷ 12 ∷ []

-- Each stands at its place.
stands_at : (alignment : ℕ) → IsAlignment alignment → slice_get numbers (alignment - 1) ≡ Some alignment
stands_at zero named = absurd (omega (arith, named.least))
stands_at (suc zero) named = refl
stands_at (suc (suc zero)) named = refl
stands_at (suc (suc (suc zero))) named = refl
stands_at (suc (suc (suc (suc zero)))) named = refl
stands_at (suc (suc (suc (suc (suc zero))))) named = refl
stands_at (suc (suc (suc (suc (suc (suc zero)))))) named = refl
stands_at (suc (suc (suc (suc (suc (suc (suc zero))))))) named = refl
stands_at (suc (suc (suc (suc (suc (suc (suc (suc zero)))))))) named = refl
stands_at (suc (suc (suc (suc (suc (suc (suc (suc (suc zero))))))))) named = refl
stands_at (suc (suc (suc (suc (suc (suc (suc (suc (suc (suc zero)))))))))) named = refl
stands_at (suc (suc (suc (suc (suc (suc (suc (suc (suc (suc (suc zero))))))))))) named = refl
stands_at (suc (suc (suc (suc (suc (suc (suc (suc (suc (suc (suc (suc zero)))))))))))) named = refl
stands_at (suc (suc (suc (suc (suc (suc (suc (suc (suc (suc (suc (suc (suc n))))))))))))) named = absurd (omega (arith, named.most))

-- Nothing is mined yet, of no pair.
abbrev pub first_front : Comparison → ℕ → Front
first_front subject alignment = record { live = nothing_gathered subject alignment; count = 0 }

-- That for each of the twelve is one for each alignment.
pub first_fronts : (subject : Comparison) → AreFronts subject [] (map (first_front subject) numbers)
first_fronts subject = λ alignment named.
    rw (slice_get-map (first_front subject) numbers (alignment - 1), stands_at alignment named)
    (record { within = omega arith; mined = refl })
