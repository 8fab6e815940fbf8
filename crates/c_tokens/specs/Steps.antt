-- How the program's place moves on over bytes, and what one step of it answers. No contract of a public function cites
-- these: proofs show that they give what `Places` and `Tokens` say.
use Rattle.std.specs.Prelude.{◌≡◌, ◌⊎◌, ℕ, length, take, Option, Some, None, Result, Ok, Err, ◌+◌, true, ◌&&◌, if◌then◌else◌, List, [], ◌∷◌}
use Rattle.c_tokens.specs.declared.place.Place.{Place}
use Rattle.c_tokens.specs.declared.token.Token.{Token}
use Rattle.c_tokens.specs.declared.fault.TokenFault.{TokenFault}
use Rattle.c_tokens.specs.declared.fault.TokenFault.TheVariants as f
use Rattle.c_tokens.specs.declared.found.Found.{Found}
use Rattle.c_tokens.specs.declared.found.Found.TheVariants as t
use Rattle.c_tokens.specs.Gaps.{Stands}
use Rattle.c_tokens.specs.Scanned.{IsWithin}
use Rattle.c_tokens.specs.Bytes.{is_blank, is_newline}
use Rattle.c_tokens.specs.Places.{line_of, column_of, is_line_front}

-- the place behind one more byte
abbrev pub after_byte : Place → ℕ → Place
after_byte place byte =
    if is_newline byte then record { line = place.line + 1; column = 1; front = true }
    else record { line = place.line; column = place.column + 1; front = place.front && is_blank byte }

-- the place behind more bytes
abbrev pub after_bytes : Place → List ℕ → Place
after_bytes place [] = place
after_bytes place (byte ∷ bytes) = after_bytes (after_byte place byte) bytes

-- the place behind the bytes before it
abbrev pub place_behind : List ℕ → Place
place_behind before = record { line = line_of before; column = column_of before; front = is_line_front before }

-- what the program answers at a place, by what stands there
abbrev pub step_of : Place → List ℕ → Found → Result (Option Token × ℕ) TokenFault
step_of place text (t.Gap len) = Ok (None, len)
step_of place text (t.Token kind len) =
    Ok (Some (record { kind = kind; line = place.line; column = place.column }), len)
step_of place text t.NoToken = Err (f.NoToken place.line place.column)
step_of place text (t.Unsupported len) = Err (f.Unsupported (take len text) place.line place.column)
step_of place text t.LiteralRange = Err (f.LiteralRange place.line place.column)

-- The answer is that of what stands at the place.
pub record IsStepOf (place : Place) (text : List ℕ) (answer : Result (Option Token × ℕ) TokenFault) : Type 0 where
  pub found : Found
  pub stands : Stands place.front text found
  pub within : IsWithin found (length text)
  pub is : answer ≡ step_of place text found

-- The answer is that of what stands at the place, unless memory ran out.
abbrev pub IsStep : Place → List ℕ → Result (Option Token × ℕ) TokenFault → Type 0
IsStep place text answer = (answer ≡ Err f.Memory) ⊎ IsStepOf place text answer
