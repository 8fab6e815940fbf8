-- A text has one answer at most.
use Rattle.std.proofs.Common.{◌≡◌, ℕ, ◌+◌, ◌<◌, List, [], ◌∷◌, Option, Some, None, length, Result, Ok, Err, refl, sym, ◌∙◌, ap, subst, arith, inl, inr, ◌⊎◌, ⊎_elim}
use Rattle.std.specs.Prelude.{IfOk, IfErr, MatchResult}
use Rattle.c_tokens.specs.declared.kind.Kind.{Kind}
use Rattle.c_tokens.specs.declared.token.Token.{Token}
use Rattle.c_tokens.specs.declared.fault.TokenFault.{TokenFault}
use Rattle.c_tokens.specs.declared.fault.TokenFault.TheVariants as f
use Rattle.c_tokens.specs.declared.found.Found.{Found}
use Rattle.c_tokens.specs.declared.found.Found.TheVariants as t
use Rattle.c_tokens.specs.Tokens.{StandsAt, token_at, fault_at, Follow, end, gap, token, stop, AreTokens, IsFirstFault, IsFault, HasOneAnswer}
use Rattle.c_tokens.proofs.GapLaws.{Stands-one}

same : (text : List ℕ) (place : ℕ) (one other : Found) → StandsAt text place one → StandsAt text place other → one ≡ other
same text place one other = Stands-one _ _ one other

-- no fault is a gap or a token
no_fault : (text : List ℕ) (place : ℕ) (found other : Found) (fault : TokenFault) → found ≡ other → fault_at text place other ≡ None
    → fault_at text place found ≡ Some fault → ⊥
no_fault text place found other fault e none some =
    let moved : fault_at text place found ≡ fault_at text place other = ap (fault_at text place) e in cc

at_end : (text : List ℕ) (place : ℕ) (tokens : List Token) (last : Option TokenFault) → place ≡ length text
    → Follow text place tokens last → (tokens ≡ []) × (last ≡ None)
at_end text place tokens last is (end _ _) = (refl, refl)
at_end text place tokens last is (gap _ len _ _ lt stands goes) = absurd (omega arith)
at_end text place tokens last is (token _ len kind _ _ lt stands goes) = absurd (omega arith)
at_end text place tokens last is (stop _ found fault lt stands e) = absurd (omega arith)

after_gap : (text : List ℕ) (place len : ℕ) (tokens : List Token) (last : Option TokenFault) → place < length text
    → StandsAt text place (t.Gap len) → Follow text place tokens last → Follow text (place + len) tokens last
after_gap text place len tokens last lt here (end _ e) = absurd (omega arith)
after_gap text place len tokens last lt here (gap _ n _ _ less stands goes) =
    let e = same text place (t.Gap n) (t.Gap len) stands here in
    let lens : n ≡ len = cc in
    subst (λ (m : ℕ). Follow text (place + m) tokens last) lens goes
after_gap text place len tokens last lt here (token _ n kind more _ less stands goes) =
    let e = same text place (t.Token kind n) (t.Gap len) stands here in absurd cc
after_gap text place len tokens last lt here (stop _ found fault less stands e) =
    absurd (no_fault text place found (t.Gap len) fault (same text place found (t.Gap len) stands here) refl e)

-- the same tokens behind this one
record Behind (text : List ℕ) (place len : ℕ) (kind : Kind) (tokens : List Token) (last : Option TokenFault) : Type 0 where
  more : List Token
  is : tokens ≡ token_at text place kind ∷ more
  goes : Follow text (place + len) more last

after_token : (text : List ℕ) (place len : ℕ) (kind : Kind) (tokens : List Token) (last : Option TokenFault) → place < length text
    → StandsAt text place (t.Token kind len) → Follow text place tokens last → Behind text place len kind tokens last
after_token text place len kind tokens last lt here (end _ e) = absurd (omega arith)
after_token text place len kind tokens last lt here (gap _ n _ _ less stands goes) =
    let e = same text place (t.Gap n) (t.Token kind len) stands here in absurd cc
after_token text place len kind tokens last lt here (token _ n other more _ less stands goes) =
    let e = same text place (t.Token other n) (t.Token kind len) stands here in
    let lens : n ≡ len = cc in
    let kinds : other ≡ kind = cc in
    record {
      more = more;
      is = ap (λ (k : Kind). token_at text place k ∷ more) kinds;
      goes = subst (λ (m : ℕ). Follow text (place + m) more last) lens goes;
    }
after_token text place len kind tokens last lt here (stop _ found fault less stands e) =
    absurd (no_fault text place found (t.Token kind len) fault (same text place found (t.Token kind len) stands here) refl e)

at_stop : (text : List ℕ) (place : ℕ) (found : Found) (fault : TokenFault) (tokens : List Token) (last : Option TokenFault)
    → place < length text → StandsAt text place found → fault_at text place found ≡ Some fault
    → Follow text place tokens last → (tokens ≡ []) × (last ≡ Some fault)
at_stop text place found fault tokens last lt here is (end _ e) = absurd (omega arith)
at_stop text place found fault tokens last lt here is (gap _ n _ _ less stands goes) =
    absurd (no_fault text place found (t.Gap n) fault (same text place found (t.Gap n) here stands) refl is)
at_stop text place found fault tokens last lt here is (token _ n kind more _ less stands goes) =
    absurd (no_fault text place found (t.Token kind n) fault (same text place found (t.Token kind n) here stands) refl is)
at_stop text place found fault tokens last lt here is (stop _ other also less stands e) =
    let moved = ap (fault_at text place) (same text place found other here stands) in (refl, cc)

-- what follows from a place on is one
pub Follow-one : (text : List ℕ) (place : ℕ) (xs ys : List Token) (one other : Option TokenFault) → Follow text place xs one
    → Follow text place ys other → (xs ≡ ys) × (one ≡ other)
Follow-one text place xs ys one other (end _ e) others =
    let h = at_end text place ys other e others in (sym h.0, sym h.1)
Follow-one text place xs ys one other (gap _ len _ _ lt stands goes) others =
    Follow-one text (place + len) xs ys one other goes (after_gap text place len ys other lt stands others)
Follow-one text place xs ys one other (token _ len kind more _ lt stands goes) others =
    let b = after_token text place len kind ys other lt stands others in
    let h = Follow-one text (place + len) more b.more one other goes b.goes in
    (ap (λ (l : List Token). token_at text place kind ∷ l) h.0 ∙ sym b.is, h.1)
Follow-one text place xs ys one other (stop _ found fault lt stands e) others =
    let h = at_stop text place found fault ys other lt stands e others in (sym h.0, sym h.1)

-- a text has one list of tokens or one first fault, and not both
pub answers-one : HasOneAnswer
answers-one text xs ys one other = Follow-one text 0 xs ys one other

some_none : (e : TokenFault) → Some e ≡ None → ⊥
some_none e is = cc

some_same : (e fault : TokenFault) → Some e ≡ Some fault → e ≡ fault
some_same e fault is = cc

-- a fault is of one text with its tokens, or of want of memory
fault_or_memory : (text : List ℕ) (fault : TokenFault) → IsFault text fault → IsFirstFault text fault ⊎ (fault ≡ f.Memory)
fault_or_memory text (f.NoToken line column) is = inl is
fault_or_memory text (f.Unsupported bytes line column) is = inl is
fault_or_memory text (f.LiteralRange line column) is = inl is
fault_or_memory text f.Memory is = inr refl

-- a text with tokens gives them
pub only-tokens : {V : Type 0} (items : V → List Token) (text : List ℕ) (result : Result V TokenFault)
    → IfOk result (λ v. AreTokens text (items v)) → IfErr result (IsFault text)
    → (tokens : List Token) → AreTokens text tokens
    → MatchResult result (λ v. items v ≡ tokens) (λ fault. fault ≡ f.Memory)
only-tokens items text (Ok v) found fault tokens are = (Follow-one text 0 (items v) tokens None None found are).0
only-tokens items text (Err e) found fault tokens are =
    ⊎_elim (λ (first : IsFirstFault text e). absurd (some_none e (Follow-one text 0 first.0 tokens (Some e) None first.1 are).1))
    (λ (memory : e ≡ f.Memory). memory) (fault_or_memory text e fault)

-- a text with a first fault gives it
pub only-fault : {V : Type 0} (items : V → List Token) (text : List ℕ) (result : Result V TokenFault)
    → IfOk result (λ v. AreTokens text (items v)) → IfErr result (IsFault text)
    → (fault : TokenFault) → IsFirstFault text fault
    → MatchResult result (λ v. ⊥) (λ given. (given ≡ fault) ⊎ (given ≡ f.Memory))
only-fault items text (Ok v) found is fault first =
    absurd (some_none fault (Follow-one text 0 first.0 (items v) (Some fault) None first.1 found).1)
only-fault items text (Err e) found is fault first =
    ⊎_elim (λ (here : IsFirstFault text e). inl (some_same e fault (Follow-one text 0 here.0 first.0 (Some e) (Some fault) here.1 first.1).1))
    (λ (memory : e ≡ f.Memory). inr memory) (fault_or_memory text e is)
