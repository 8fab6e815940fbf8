-- The tokens and gaps that follow one another in a text.
use Rattle.std.proofs.Common.{◌≡◌, ℕ, ◌+◌, ◌<◌, ◌≤◌, List, [], ◌++◌, Option, Some, None, Result, Ok, Err, length, take, drop, sym, ◌∙◌, ap, subst, append_assoc, ⊎_elim}
use Rattle.std.specs.Prelude.{option_to_list, IfErr}
use Rattle.std.proofs.Math.Seq.{take-add}
use Rattle.std.proofs.lemmas.List.{append-nil}
use Rattle.c_tokens.specs.declared.token.Token.{Token}
use Rattle.c_tokens.specs.declared.place.Place.{Place}
use Rattle.c_tokens.specs.declared.fault.TokenFault.{TokenFault}
use Rattle.c_tokens.specs.declared.fault.TokenFault.TheVariants as f
use Rattle.c_tokens.specs.declared.found.Found.{Found}
use Rattle.c_tokens.specs.declared.found.Found.TheVariants as t
use Rattle.c_tokens.specs.Scanned.{IsWithin}
use Rattle.c_tokens.specs.Steps.{after_bytes, place_behind, step_of, IsStepOf, IsStep}
use Rattle.c_tokens.specs.Tokens.{StandsAt, token_at, fault_at, Follow, end, gap, token, stop, IsFirstFault, IsFault}
use Rattle.c_tokens.proofs.Behind.{after_bytes-place_behind}

-- the place behind more bytes of the text
pub place_behind-moves : (text rest bytes : List ℕ) (at len : ℕ) (place next : Place) → rest ≡ drop at text → bytes ≡ take len rest
    → place ≡ place_behind (take at text) → next ≡ after_bytes place bytes → next ≡ place_behind (take (at + len) text)
place_behind-moves text rest bytes at len place next back front here is =
    is ∙ rw (front, back, here) (after_bytes-place_behind (take at text) (take len (drop at text)) ∙ ap place_behind (sym (take-add at len text)))

-- a step over a gap or a token
pub record Moves (text : List ℕ) (at : ℕ) (front : Option Token) (len : ℕ) : Type 0 where
  pub some : 0 < len
  pub within : len ≤ length (drop at text)
  pub follow : (more : List Token) (last : Option TokenFault) → Follow text (at + len) more last
      → Follow text at (option_to_list front ++ more) last

abbrev moved : Option Token → ℕ → Result (Option Token × ℕ) TokenFault
moved front len = Ok (front, len)

abbrev failed : TokenFault → Result (Option Token × ℕ) TokenFault
failed e = Err e

moves_of : (text : List ℕ) (at : ℕ) (front : Option Token) (len : ℕ) (found : Found) → at < length text
    → StandsAt text at found → IsWithin found (length (drop at text))
    → moved front len ≡ step_of (place_behind (take at text)) (drop at text) found → Moves text at front len
moves_of text at front len (t.Gap n) lt stands within is =
    let same : (front, len) ≡ (None, n) = cc in
    subst (λ (p : Option Token × ℕ). Moves text at p.0 p.1) (sym same) (record {
      some = within.0;
      within = within.1;
      follow = λ more last goes. gap at n more last lt stands goes;
    })
moves_of text at front len (t.Token kind n) lt stands within is =
    let same : (front, len) ≡ (Some (token_at text at kind), n) = cc in
    subst (λ (p : Option Token × ℕ). Moves text at p.0 p.1) (sym same) (record {
      some = within.0;
      within = within.1;
      follow = λ more last goes. token at n kind more last lt stands goes;
    })
moves_of text at front len t.NoToken lt stands within is = absurd cc
moves_of text at front len (t.Unsupported n) lt stands within is = absurd cc
moves_of text at front len t.LiteralRange lt stands within is = absurd cc

step_here : (text rest : List ℕ) (at : ℕ) (place : Place) (answer : Result (Option Token × ℕ) TokenFault) → rest ≡ drop at text
    → place ≡ place_behind (take at text) → IsStep place rest answer → IsStep (place_behind (take at text)) (drop at text) answer
step_here text rest at place answer back here step =
    subst (λ (p : Place). IsStep p (drop at text) answer) here (subst (λ (r : List ℕ). IsStep place r answer) back step)

-- what a step that did not fail went over
pub step-moves : (text rest : List ℕ) (at : ℕ) (place : Place) (front : Option Token) (len : ℕ) → rest ≡ drop at text
    → place ≡ place_behind (take at text) → at < length text → IsStep place rest (Ok (front, len)) → Moves text at front len
step-moves text rest at place front len back here lt step =
    ⊎_elim (λ (memory : moved front len ≡ failed f.Memory). absurd cc)
    (λ (of : IsStepOf (place_behind (take at text)) (drop at text) (Ok (front, len))). moves_of text at front len of.found lt of.stands of.within of.is)
    (step_here text rest at place (Ok (front, len)) back here step)

fault_of-step : (text : List ℕ) (at : ℕ) (e : TokenFault) (found : Found)
    → failed e ≡ step_of (place_behind (take at text)) (drop at text) found → fault_at text at found ≡ Some e
fault_of-step text at e (t.Gap n) is = absurd cc
fault_of-step text at e (t.Token kind n) is = absurd cc
fault_of-step text at e t.NoToken is = cc
fault_of-step text at e (t.Unsupported n) is = cc
fault_of-step text at e t.LiteralRange is = cc

fault_first : (text : List ℕ) (e : TokenFault) → IsFirstFault text e → IsFault text e
fault_first text (f.NoToken line column) first = first
fault_first text (f.Unsupported bytes line column) first = first
fault_first text (f.LiteralRange line column) first = first
fault_first text f.Memory first = tt

fault_memory : (text : List ℕ) (e : TokenFault) → e ≡ f.Memory → IsFault text e
fault_memory text e is = rw is tt

-- what a step that failed came to
pub step-fault : (text rest : List ℕ) (at : ℕ) (place : Place) (front : List Token) (e : TokenFault) → rest ≡ drop at text
    → place ≡ place_behind (take at text) → at < length text → IsStep place rest (Err e)
    → ((more : List Token) (last : Option TokenFault) → Follow text at more last → Follow text 0 (front ++ more) last)
    → IsFault text e
step-fault text rest at place front e back here lt step so_far =
    ⊎_elim (λ (memory : failed e ≡ failed f.Memory). fault_memory text e cc)
    (λ (of : IsStepOf (place_behind (take at text)) (drop at text) (Err e)).
    fault_first text e (front ++ [], so_far [] (Some e) (stop at of.found e lt of.stands (fault_of-step text at e of.found of.is))))
    (step_here text rest at place (Err e) back here step)

-- the fault that a `?` hands on
pub handed_on : {X : Type 0} (P : TokenFault → Type 0) (r : Result X TokenFault) (y e : TokenFault) → r ≡ Err y → y ≡ e → P e → IfErr r P
handed_on P r y e is same fact = rw (is, same) fact

-- the whole text, at its end
pub follow-end : (text : List ℕ) (at : ℕ) (front : List Token) → at ≡ length text
    → ((more : List Token) (last : Option TokenFault) → Follow text at more last → Follow text 0 (front ++ more) last)
    → Follow text 0 front None
follow-end text at front is so_far =
    subst (λ (ts : List Token). Follow text 0 ts None) (append-nil front) (so_far [] None (end at is))

-- one more step
pub follow-more : (text : List ℕ) (at len : ℕ) (old new : List Token) (front : Option Token) → new ≡ old ++ option_to_list front
    → Moves text at front len
    → ((more : List Token) (last : Option TokenFault) → Follow text at more last → Follow text 0 (old ++ more) last)
    → (more : List Token) (last : Option TokenFault) → Follow text (at + len) more last → Follow text 0 (new ++ more) last
follow-more text at len old new front pushed moves so_far more last goes =
    rw (pushed, append_assoc old (option_to_list front) more) (so_far (option_to_list front ++ more) last (moves.follow more last goes))
