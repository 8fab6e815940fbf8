-- What stands at the front of tokens: a token, or a sign, which is a token of one spelling. Only proofs and the
-- contracts of private functions cite these.
use Rattle.std.specs.Prelude.{ℕ, zero, suc, Bool, false, ◌||◌, if◌then◌else◌, List, [], ◌∷◌, Option, Some, None}
use Rattle.c_tokens.specs.declared.kind.Kind.{Kind}
use Rattle.c_tokens.specs.declared.token.Token.{Token}
use Rattle.c_tokens.specs.declared.fixed.Fixed.{Fixed}
use Rattle.c_tokens.specs.Fixed.{is_kind_of}

-- the first token, and those behind it
abbrev pub first_of : List Token → Option (Token × List Token)
first_of [] = None
first_of (first ∷ others) = Some (first, others)

-- the room for what stands in a tree that has this much room
abbrev pub lowered : ℕ → Option ℕ
lowered zero = None
lowered (suc room) = Some room

-- the tokens behind the sign, where it stands first
abbrev pub behind_sign : Fixed → List Token → Option (List Token)
behind_sign sign [] = None
behind_sign sign (first ∷ others) = if is_kind_of sign first.kind then Some others else None

-- whether the sign stands first
abbrev pub begins : Fixed → List Token → Bool
begins sign [] = false
begins sign (first ∷ others) = is_kind_of sign first.kind

-- the tokens without a first one that is the sign
abbrev pub skipped : Fixed → List Token → List Token
skipped sign [] = []
skipped sign (first ∷ others) = if is_kind_of sign first.kind then others else first ∷ others

-- whether the kind is that of one of the two signs
abbrev pub is_either : Fixed → Fixed → Kind → Bool
is_either one other kind = is_kind_of one kind || is_kind_of other kind

-- the tokens behind one of the two signs, where one stands first
abbrev pub behind_either : Fixed → Fixed → List Token → Option (List Token)
behind_either one other [] = None
behind_either one other (first ∷ others) = if is_either one other first.kind then Some others else None
