-- Texts that were written one behind another.
use Rattle.std.proofs.Common.{◌≡◌, ℕ, List, [], ◌++◌, append_assoc}
use Rattle.std.proofs.lemmas.List.{append-nil}

pub three_behind : (text a b c : List ℕ) → text ++ (a ++ (b ++ c)) ≡ text ++ a ++ b ++ c
three_behind text a b c = simp append_assoc

pub seven_behind : (text a b c d e f g : List ℕ)
    → text ++ a ++ b ++ c ++ d ++ e ++ f ++ g ≡ text ++ (a ++ (b ++ (c ++ (d ++ (e ++ (f ++ (g ++ [])))))))
seven_behind text a b c d e f g = simp (append_assoc, append-nil)
