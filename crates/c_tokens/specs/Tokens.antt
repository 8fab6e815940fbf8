-- Which tokens a text has, and which place is its first faulty one (ISO C11, 6.4). A place is the number of bytes
-- before it.
use Rattle.std.specs.Prelude.{◌≡◌, ℕ, ◌+◌, ◌<◌, List, [], ◌∷◌, length, take, drop, Option, Some, None}
use Rattle.c_tokens.specs.declared.kind.Kind.{Kind}
use Rattle.c_tokens.specs.declared.token.Token.{Token}
use Rattle.c_tokens.specs.declared.fault.TokenFault.{TokenFault}
use Rattle.c_tokens.specs.declared.fault.TokenFault.TheVariants as f
use Rattle.c_tokens.specs.declared.found.Found.{Found}
use Rattle.c_tokens.specs.declared.found.Found.TheVariants as t
use Rattle.c_tokens.specs.Places.{line_of, column_of, is_line_front}
use Rattle.c_tokens.specs.Gaps.{Stands}

-- This stands at the place.
abbrev pub StandsAt : List ℕ → ℕ → Found → Type 0
StandsAt text place found = Stands (is_line_front (take place text)) (drop place text) found

-- the token of a kind at a place
abbrev pub token_at : List ℕ → ℕ → Kind → Token
token_at text place kind =
    record { kind = kind; line = line_of (take place text); column = column_of (take place text) }

-- the fault of what stands at a place, if it is one
abbrev pub fault_at : List ℕ → ℕ → Found → Option TokenFault
fault_at text place (t.Gap len) = None
fault_at text place (t.Token kind len) = None
fault_at text place t.NoToken = Some (f.NoToken (line_of (take place text)) (column_of (take place text)))
fault_at text place (t.Unsupported len) =
    Some (f.Unsupported (take len (drop place text)) (line_of (take place text)) (column_of (take place text)))
fault_at text place t.LiteralRange = Some (f.LiteralRange (line_of (take place text)) (column_of (take place text)))

-- From the place on, gaps and these tokens follow one another, up to the end of the text or to the fault.
pub data Follow (text : List ℕ) : ℕ → List Token → Option TokenFault → Type 0 where
  end : (place : ℕ) → place ≡ length text → Follow text place [] None
  gap : (place len : ℕ) (tokens : List Token) (end : Option TokenFault) → place < length text
      → StandsAt text place (t.Gap len) → Follow text (place + len) tokens end → Follow text place tokens end
  token : (place len : ℕ) (kind : Kind) (tokens : List Token) (end : Option TokenFault) → place < length text
      → StandsAt text place (t.Token kind len) → Follow text (place + len) tokens end
      → Follow text place (token_at text place kind ∷ tokens) end
  stop : (place : ℕ) (found : Found) (fault : TokenFault) → place < length text → StandsAt text place found
      → fault_at text place found ≡ Some fault → Follow text place [] (Some fault)

-- These are the tokens of the text.
abbrev pub AreTokens : List ℕ → List Token → Type 0
AreTokens text tokens = Follow text 0 tokens None

-- This is the first faulty place of the text: tokens and gaps alone stand before it.
abbrev pub IsFirstFault : List ℕ → TokenFault → Type 0
IsFirstFault text fault = (before : List Token) × Follow text 0 before (Some fault)

-- The fault is that of the first faulty place, unless memory ran out.
abbrev pub IsFault : List ℕ → TokenFault → Type 0
IsFault text f.Memory = Unit {0}
IsFault text fault = IsFirstFault text fault

-- Two answers for a text are one.
abbrev pub HasOneAnswer : Type 0
HasOneAnswer =
    (text : List ℕ) (xs ys : List Token) (one other : Option TokenFault) → Follow text 0 xs one → Follow text 0 ys other
    → (xs ≡ ys) × (one ≡ other)
