-- A text has one list of tokens or one first faulty place, and its tokens are refused for one reason at most.
use Rattle.std.proofs.Common.{◌≡◌, ◌≢◌, ℕ, List, Some, None, refl, subst}
use Rattle.std.specs.Prelude.{Option}
use Rattle.c_tokens.specs.declared.token.Token.{Token}
use Rattle.c_tokens.specs.declared.fault.TokenFault.{TokenFault}
use Rattle.c_tokens.specs.declared.fault.TokenFault.TheVariants as tokens
use Rattle.c_tokens.specs.declared.found.Found.{Found}
use Rattle.c_tokens.specs.declared.found.Found.TheVariants as found
use Rattle.c_tokens.specs.Tokens as follow
use Rattle.c_tokens.specs.Tokens.{Follow, AreTokens, IsFirstFault, fault_at}
use Rattle.c_tokens.proofs.Laws.{answers-one}
use Rattle.c_reader.specs.Depth.{IsDeep}
use Rattle.c_reader.specs.declared.fault.ReadFault.{ReadFault}
use Rattle.c_reader.specs.declared.fault.ReadFault.TheVariants as read
use Rattle.c_source.specs.Unread.{IsReadFault, IsUnread}

-- ---- tokens

pub tokens_once : (text : List ℕ) (first second : List Token) → AreTokens text first → AreTokens text second → first ≡ second
tokens_once text first second one other = (answers-one text first second None None one other).0

-- A text with tokens has no faulty place.
pub not_both : (text : List ℕ) (faulty : TokenFault) (tokens : List Token) → IsFirstFault text faulty → AreTokens text tokens → ⊥
not_both text faulty tokens is are = let clash : Some faulty ≡ None = (answers-one text is.0 tokens (Some faulty) None is.1 are).1 in cc

pub first_fault_once : (text : List ℕ) (one other : TokenFault) → IsFirstFault text one → IsFirstFault text other → one ≡ other
first_fault_once text one other is also = let clash : Some one ≡ Some other = (answers-one text is.0 also.0 (Some one) (Some other) is.1 also.1).1 in cc

-- ---- a faulty place is no want of memory

fault_at-no_want : (text : List ℕ) (place : ℕ) (at : Found) → fault_at text place at ≢ Some tokens.Memory
fault_at-no_want text place (found.Gap len) is = cc
fault_at-no_want text place (found.Token kind len) is = cc
fault_at-no_want text place found.NoToken is = cc
fault_at-no_want text place (found.Unsupported len) is = cc
fault_at-no_want text place found.LiteralRange is = cc

follow-no_want : (text : List ℕ) (place : ℕ) (list : List Token) (ends : Option TokenFault) → Follow text place list ends → ends ≢ Some tokens.Memory
follow-no_want text place list ends (follow.end _ _) is = cc
follow-no_want text place list ends (follow.gap _ len _ _ _ _ others) is = follow-no_want text _ _ ends others is
follow-no_want text place list ends (follow.token _ len _ _ _ _ _ others) is = follow-no_want text _ _ ends others is
follow-no_want text place list ends (follow.stop _ at fault _ _ stands) is = fault_at-no_want text place at (cc)

pub first_fault-no_want : (text : List ℕ) (fault : TokenFault) → IsFirstFault text fault → fault ≢ tokens.Memory
first_fault-no_want text fault first is = follow-no_want text 0 first.0 (Some fault) first.1 (cc)

-- ---- refused tokens

read_fault_once : (HasNone : List Token → Type 0) (tokens : List Token) (one other : ReadFault) → IsReadFault HasNone tokens one
    → IsReadFault HasNone tokens other → one ≡ other
read_fault_once HasNone tokens read.Deep read.Deep is also = refl
read_fault_once HasNone tokens read.Deep read.Grammar is also = absurd (also.0 is)
read_fault_once HasNone tokens read.Grammar read.Deep is also = absurd (is.0 also)
read_fault_once HasNone tokens read.Grammar read.Grammar is also = refl
read_fault_once HasNone tokens read.Memory other is also = absurd is
read_fault_once HasNone tokens read.Deep read.Memory is also = absurd also
read_fault_once HasNone tokens read.Grammar read.Memory is also = absurd also

pub unread_once : (HasNone : List Token → Type 0) (text : List ℕ) (one other : ReadFault) → IsUnread HasNone text one → IsUnread HasNone text other
    → one ≡ other
unread_once HasNone text one other is also =
    let same = tokens_once text is.tokens also.tokens is.are also.are in
    read_fault_once HasNone also.tokens one other (subst (λ (tokens : List Token). IsReadFault HasNone tokens one) same is.reason) also.reason

pub unread-no_want : (HasNone : List Token → Type 0) (text : List ℕ) (fault : ReadFault) → IsUnread HasNone text fault → fault ≢ read.Memory
unread-no_want HasNone text read.Deep unread is = cc
unread-no_want HasNone text read.Grammar unread is = cc
unread-no_want HasNone text read.Memory unread is = absurd unread.reason

-- Tokens that nest no deeper, and that some tree has, are not refused.
pub not_unread : (HasNone : List Token → Type 0) (text : List ℕ) (tokens : List Token) (fault : ReadFault) → AreTokens text tokens → ¬ IsDeep tokens
    → ¬ HasNone tokens → IsUnread HasNone text fault → ⊥
not_unread HasNone text tokens fault are nested some unread =
    let same = tokens_once text unread.tokens tokens unread.are are in
    on fault (subst (λ (tokens : List Token). IsReadFault HasNone tokens fault) same unread.reason)
  where
    on : (fault : ReadFault) → IsReadFault HasNone tokens fault → ⊥
    on read.Deep reason = nested reason
    on read.Grammar reason = some reason.1
    on read.Memory reason = reason
