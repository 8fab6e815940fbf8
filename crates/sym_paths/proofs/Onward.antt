-- Walks that go on from walks that go on.
use Rattle.std.proofs.Common.{◌≡◌, [], ◌∷◌, ◌++◌, refl, sym, ap, ◌∙◌, append_assoc, append-nil}
use Rattle.sym_paths.specs.Walk.{State, Arrives, Stops, Walk, gives, onward}

module _ {A B : Type 0} where
  pub onward_append : (v w : Walk A) (next : A → State → Walk B) → onward (v ++ w) next ≡ onward v next ++ onward w next
  onward_append [] w next = refl
  onward_append (Arrives p ∷ v) w next =
      ap (λ (t : Walk B). next p.value p.state ++ t) (onward_append v w next)
      ∙ sym (append_assoc (next p.value p.state) (onward v next) (onward w next))
  onward_append (Stops l ∷ v) w next = ap (λ (t : Walk B). Stops l ∷ t) (onward_append v w next)

  pub onward_one : (a : A) (s : State) (next : A → State → Walk B) → onward (gives a s) next ≡ next a s
  onward_one a s next = append-nil (next a s)

  pub onward_same : (w : Walk A) (next other : A → State → Walk B) → ((a : A) (s : State) → next a s ≡ other a s) → onward w next ≡ onward w other
  onward_same [] next other same = refl
  onward_same (Arrives p ∷ w) next other same =
      ap (λ (t : Walk B). t ++ onward w next) (same p.value p.state) ∙ ap (λ (t : Walk B). other p.value p.state ++ t) (onward_same w next other same)
  onward_same (Stops l ∷ w) next other same = ap (λ (t : Walk B). Stops l ∷ t) (onward_same w next other same)

pub onward_gives : {A : Type 0} (w : Walk A) → onward w gives ≡ w
onward_gives [] = refl
onward_gives {A} (Arrives p ∷ w) = ap (λ (t : Walk A). Arrives p ∷ t) (onward_gives w)
onward_gives {A} (Stops l ∷ w) = ap (λ (t : Walk A). Stops l ∷ t) (onward_gives w)

pub onward_assoc : {A B C : Type 0} (w : Walk A) (next : A → State → Walk B) (last : B → State → Walk C)
    → onward (onward w next) last ≡ onward w (λ a s. onward (next a s) last)
onward_assoc [] next last = refl
onward_assoc {A} {B} {C} (Arrives p ∷ w) next last =
    onward_append (next p.value p.state) (onward w next) last ∙ ap (λ (t : Walk C). onward (next p.value p.state) last ++ t) (onward_assoc w next last)
onward_assoc {A} {B} {C} (Stops l ∷ w) next last = ap (λ (t : Walk C). Stops l ∷ t) (onward_assoc w next last)
