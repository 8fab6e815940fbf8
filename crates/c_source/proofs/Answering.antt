-- What reading a text answers: the one thing that it is read as, or the one reason for which it is refused.
use Rattle.std.proofs.Common.{◌≡◌, Result, Ok, Err, refl, ◌⊎◌, inl, inr}
use Rattle.std.specs.Prelude.{IfOk, IfErr, MatchResult}
use Rattle.c_source.specs.declared.fault.TextFault.{TextFault}
use Rattle.c_source.specs.declared.fault.TextFault.TheVariants as refusal

-- The fault is a refusal, or memory ran out.
abbrev pub OrMemory : (TextFault → Type 0) → TextFault → Type 0
OrMemory IsRefused refusal.Memory = Unit {0}
OrMemory IsRefused fault = IsRefused fault

-- The fault is this refusal, or memory ran out.
abbrev pub OnlyFault : TextFault → TextFault → Type 0
OnlyFault fault given = (given ≡ fault) ⊎ (given ≡ refusal.Memory)

-- What is read of one text: one thing at most, or else one refusal at most.
pub record IsDetermined (Made : Type 0) (IsMade : Made → Type 0) (IsRefused : TextFault → Type 0) : Type 0 where
  pub made_once : (one other : Made) → IsMade one → IsMade other → one ≡ other
  pub refused_once : (one other : TextFault) → IsRefused one → IsRefused other → one ≡ other
  pub not_both : (made : Made) (fault : TextFault) → IsMade made → ¬ IsRefused fault

only_given : (Made : Type 0) (IsMade : Made → Type 0) (IsRefused : TextFault → Type 0) → IsDetermined Made IsMade IsRefused → (fault given : TextFault)
    → OrMemory IsRefused given → IsRefused fault → OnlyFault fault given
only_given Made IsMade IsRefused one fault (refusal.Token inner) refused is = inl (one.refused_once (refusal.Token inner) fault refused is)
only_given Made IsMade IsRefused one fault (refusal.Reader inner) refused is = inl (one.refused_once (refusal.Reader inner) fault refused is)
only_given Made IsMade IsRefused one fault (refusal.Check inner) refused is = inl (one.refused_once (refusal.Check inner) fault refused is)
only_given Made IsMade IsRefused one fault refusal.Memory refused is = inr refl

-- A text that is refused gives its refusal.
pub only_refusal : (Made : Type 0) (IsMade : Made → Type 0) (IsRefused : TextFault → Type 0) → IsDetermined Made IsMade IsRefused
    → (result : Result Made TextFault) → IfOk result IsMade → IfErr result (OrMemory IsRefused) → (fault : TextFault) → IsRefused fault
    → MatchResult result (λ given. ⊥) (OnlyFault fault)
only_refusal Made IsMade IsRefused one (Ok given) read refused fault is = one.not_both given fault read is
only_refusal Made IsMade IsRefused one (Err given) read refused fault is = only_given Made IsMade IsRefused one fault given refused is

-- A text that is read as something gives it.
pub only_made : (Made : Type 0) (IsMade : Made → Type 0) (IsRefused : TextFault → Type 0) → IsDetermined Made IsMade IsRefused
    → (result : Result Made TextFault) → IfOk result IsMade → IfErr result (OrMemory IsRefused) → (made : Made) → IsMade made
    → MatchResult result (λ given. given ≡ made) (λ fault. fault ≡ refusal.Memory)
only_made Made IsMade IsRefused one (Ok given) read refused made is = one.made_once given made read is
only_made Made IsMade IsRefused one (Err (refusal.Token fault)) read refused made is = absurd (one.not_both made (refusal.Token fault) is refused)
only_made Made IsMade IsRefused one (Err (refusal.Reader fault)) read refused made is = absurd (one.not_both made (refusal.Reader fault) is refused)
only_made Made IsMade IsRefused one (Err (refusal.Check fault)) read refused made is = absurd (one.not_both made (refusal.Check fault) is refused)
only_made Made IsMade IsRefused one (Err refusal.Memory) read refused made is = refl
