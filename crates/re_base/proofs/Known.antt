-- What several writes append to known bytes, and what a read of known bytes up to a limit gives.
use Rattle.std.proofs.Common.{◌≡◌, ◌≤◌, ◌<◌, ◌+◌, ◌-◌, ℕ, List, [], ◌++◌, length, take, drop, Option, None, Some, IfSome, option_map, ap, subst, arith, length-drop, ◌∙◌}
use Rattle.std.proofs.lemmas.List.{take_all, length-take}
use Rattle.std.proofs.Math.Seq.{take-add}
use Rattle.std.specs.Io.KnownBytes.{Appends}
use Rattle.std.proofs.KnownBytes.{Appends-trans}
use Rattle.re_base.specs.Told.{IsWhole}

-- the bytes from a place to the end, as a slice of the text gives them
abbrev pub left_of : List ℕ → ℕ → List ℕ
left_of text done = take (length text - done) (drop done text)

-- such a slice begins as the text does from that place on
take-left_of : (text : List ℕ) (done n : ℕ) → done ≤ length text → take n (left_of text done) ≡ take n (drop done text)
take-left_of text done n within =
    ap (take n) (take_all (length text - done) (drop done text) (omega (arith, length-drop done text)))

-- a loop that puts what is left of a text again and again
pub Appends-more : (a b c : Option (List ℕ)) (text : List ℕ) (done n : ℕ) → done ≤ length text
    → Appends a b (take done text) → Appends b c (take n (left_of text done)) → Appends a c (take (done + n) text)
Appends-more a b c text done n within before now =
    let next = subst (Appends b c) (take-left_of text done n within) now in
    rw (take-add done n text) (Appends-trans a b c _ _ before next)

-- a read into an empty buffer that gave fewer bytes than it may gave all of them
pub IsWhole-take : (known : Option (List ℕ)) (limit : ℕ) (old new : List ℕ) → old ≡ []
    → IfSome (option_map (take limit) known) (λ given. new ≡ old ++ given) → length new < limit → IsWhole known new
IsWhole-take None limit old new empty given few = tt
IsWhole-take (Some text) limit old new empty given few =
    let all : new ≡ take limit text = given ∙ ap (λ (l : List ℕ). l ++ take limit text) empty in
    all ∙ take_all limit text (omega (arith, length-take limit text, ap length all))
