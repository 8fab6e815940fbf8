-- Later inputs: the words of a generator, one after another.
use Rattle.std.proofs.Common.{◌≡◌, ℕ, ℤ, zero, suc, ◌+◌, List, [], ◌∷◌, ◌++◌, map, length, refl, ap, append_assoc, add-one, arith}
use Rattle.std.specs.Prelude.{All}
use Rattle.std.proofs.lemmas.Int.{ints}
use Rattle.std.proofs.lemmas.List.Elements.{All-map}
use Rattle.rand_pcg.specs.Lcg.{Lcg}
use Rattle.rand_pcg.specs.Pcg.{pcg32}
use Rattle.trace_pair.specs.Inputs.{words, word_value, IsNear}

pub one_word_more : (n m : ℕ) (generator : Lcg) (before : List ℤ) → n ≡ m + 1
    → before ++ map word_value (words n generator) ≡ (before ++ word_value (pcg32 generator).0 ∷ []) ++ map word_value (words m (pcg32 generator).1)
one_word_more n m generator before is = rw (is, add-one, append_assoc) refl

pub length-words : (n : ℕ) (generator : Lcg) → length (words n generator) ≡ n
length-words zero generator = refl
length-words (suc n) generator = ap suc (length-words n (pcg32 generator).1)

value_is_near : (word : ℕ) → IsNear (word_value word)
value_is_near word = omega (arith, ints)

pub words_are_near : (n : ℕ) (generator : Lcg) → All IsNear (map word_value (words n generator))
words_are_near n generator = All-map IsNear word_value (words n generator) (λ k d below. value_is_near _)
