-- What may be told of a file's text and of a sink's bytes. Where it is not told, nothing is said.
use Rattle.std.specs.Prelude.{◌≡◌, ℕ, ◌<◌, List, ◌++◌, length, Option, IfSome}
use Rattle.std.specs.Io.KnownBytes.{Appends}

-- the most bytes that a file may hold
abbrev pub longest : ℕ
longest = 65536

-- These are all bytes of the told text.
abbrev pub IsWhole : Option (List ℕ) → List ℕ → Type 0
IsWhole told bytes = IfSome told (λ text. bytes ≡ text)

-- The told text is too long.
abbrev pub IsLong : Option (List ℕ) → Type 0
IsLong told = IfSome told (λ text. longest < length text)

-- A part of the text's front was appended.
abbrev pub AppendsPrefix : Option (List ℕ) → Option (List ℕ) → List ℕ → Type 0
AppendsPrefix old new text = (front rest : List ℕ) × (text ≡ front ++ rest) × Appends old new front
