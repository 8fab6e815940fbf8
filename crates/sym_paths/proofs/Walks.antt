-- How walks go on, split and are collected.
use Rattle.std.proofs.Common.{◌≡◌, ℕ, zero, suc, List, [], ◌∷◌, ◌++◌, refl, sym, ◌∙◌, subst, ap, inl, inr, append_assoc, append-nil}
use Rattle.std.specs.Prelude.{ℤ, ◌⊎◌, Result, Ok, Err}
use Rattle.sym_paths.specs.declared.limit.PathLimit.{PathLimit}
use Rattle.sym_paths.specs.Walk.{State, Path, Arrives, Stops, Walk, gives, stops, more, collect, onward}
use Rattle.sym_paths.specs.Points.{Extends, EachArrives, SomeArrives, EachOf, SomeOf, ReachedFrom, Splits}

module _ {A : Type 0} where
  pub each_append : (P : Path A → Type 0) (v w : Walk A) → EachArrives P v → EachArrives P w → EachArrives P (v ++ w)
  each_append P [] w h k = k
  each_append P (Arrives p ∷ v) w h k = (h.0, each_append P v w h.1 k)
  each_append P (Stops l ∷ v) w h k = each_append P v w h k

  pub some_left : (P : Path A → Type 0) (v w : Walk A) → SomeArrives P v → SomeArrives P (v ++ w)
  some_left P [] w h = absurd h
  some_left P (Arrives p ∷ v) w (inl h) = inl h
  some_left P (Arrives p ∷ v) w (inr h) = inr (some_left P v w h)
  some_left P (Stops l ∷ v) w h = tt

  pub some_right : (P : Path A → Type 0) (v w : Walk A) → SomeArrives P w → SomeArrives P (v ++ w)
  some_right P [] w h = h
  some_right P (Arrives p ∷ v) w h = inr (some_right P v w h)
  some_right P (Stops l ∷ v) w h = tt

  pub each_changed : (P Q : Path A → Type 0) (w : Walk A) → ((p : Path A) → P p → Q p) → EachArrives P w → EachArrives Q w
  each_changed P Q [] f h = tt
  each_changed P Q (Arrives p ∷ w) f h = (f p h.0, each_changed P Q w f h.1)
  each_changed P Q (Stops l ∷ w) f h = each_changed P Q w f h

  pub some_changed : (P Q : Path A → Type 0) (w : Walk A) → ((p : Path A) → P p → Q p) → SomeArrives P w → SomeArrives Q w
  some_changed P Q [] f h = h
  some_changed P Q (Arrives p ∷ w) f (inl h) = inl (f p h)
  some_changed P Q (Arrives p ∷ w) f (inr h) = inr (some_changed P Q w f h)
  some_changed P Q (Stops l ∷ w) f h = tt

module _ {A B : Type 0} (k : A → State → Walk B) where
  pub onward_each : (P : Path A → Type 0) (Q : Path B → Type 0) (w : Walk A) → ((p : Path A) → P p → EachArrives Q (k p.value p.state)) → EachArrives P w
      → EachArrives Q (onward w k)
  onward_each P Q [] f h = tt
  onward_each P Q (Arrives p ∷ w) f h = each_append Q (k p.value p.state) (onward w k) (f p h.0) (onward_each P Q w f h.1)
  onward_each P Q (Stops l ∷ w) f h = onward_each P Q w f h

  pub onward_some : (P : Path A → Type 0) (Q : Path B → Type 0) (w : Walk A) → ((p : Path A) → P p → SomeArrives Q (k p.value p.state)) → SomeArrives P w
      → SomeArrives Q (onward w k)
  onward_some P Q [] f h = absurd h
  onward_some P Q (Arrives p ∷ w) f (inl h) = some_left Q (k p.value p.state) (onward w k) (f p h)
  onward_some P Q (Arrives p ∷ w) f (inr h) = some_right Q (k p.value p.state) (onward w k) (onward_some P Q w f h)
  onward_some P Q (Stops l ∷ w) f h = tt

-- ---- longer points

pub extends_itself : (point : List ℤ) → Extends point point
extends_itself point = record { behind = []; is = sym (append-nil point) }

pub extends_on : (a b c : List ℤ) → Extends a b → Extends b c → Extends a c
extends_on a b c first second = record {
  behind = first.behind ++ second.behind;
  is = second.is ∙ ap (λ (t : List ℤ). t ++ second.behind) first.is ∙ append_assoc a first.behind second.behind;
}

-- ---- walks that split the points of a state

module _ {A : Type 0} where
  -- other properties, of which the first implies the old first, and the old second implies the second
  pub changed : (state : State) (P Q : List ℤ → Type 0) (G H : List ℤ → A → Type 0) (w : Walk A) → ((point : List ℤ) → Q point → P point)
      → ((value : A) (point longer : List ℤ) → Extends point longer → Q point → G longer value → H longer value) → Splits state P G w → Splits state Q H w
  changed state P Q G H w f g h = record {
    sound = each_changed _ _ w (λ path k point is.
        let r = k point is in (r.0, λ q. g path.value point point (extends_itself point) q (r.1 (f point q)))) h.sound;
    complete = λ point is q. some_changed (ReachedFrom point G) (ReachedFrom point H) w
        (λ path r. record { longer = r.longer; extends = r.extends; whole = r.whole; has = g path.value point r.longer r.extends q r.has })
        (h.complete point is (f point q));
  }

  pub gives_splits : (state : State) (P : List ℤ → Type 0) (G : List ℤ → A → Type 0) (value : A) → ((point : List ℤ) → P point → G point value)
      → Splits state P G (gives value state)
  gives_splits state P G value f = record {
    sound = (λ point is. (is, f point), tt);
    complete = λ point is q. inl (record { longer = point; extends = extends_itself point; whole = is; has = f point q });
  }

  pub stops_splits : (state : State) (P : List ℤ → Type 0) (G : List ℤ → A → Type 0) (limit : PathLimit) → Splits state P G (stops limit)
  stops_splits state P G limit = record { sound = tt; complete = λ point is q. tt }

-- the one law of composition
module _ {A B : Type 0} (H : List ℤ → B → Type 0) (next : A → State → Walk B) where
  pub onward_splits : (state : State) (P : List ℤ → Type 0) (G : List ℤ → A → Type 0) (w : Walk A) → Splits state P G w
      → ((value : A) (after : State) → Splits after (λ point. G point value) H (next value after)) → Splits state P H (onward w next)
  onward_splits state P G w h f = record {
    sound = onward_each next _ _ w
        (λ path i. each_changed _ _ (next path.value path.state)
        (λ q j point is. let u = j point is in let v = i point u.0 in (v.0, λ z. u.1 (v.1 z))) (f path.value path.state).sound) h.sound;
    complete = λ point is q. onward_some next (ReachedFrom point G) (ReachedFrom point H) w
        (λ path r. some_changed (ReachedFrom r.longer H) (ReachedFrom point H) (next path.value path.state)
        (λ t u. record { longer = u.longer; extends = extends_on point r.longer u.longer r.extends u.extends; whole = u.whole; has = u.has })
        ((f path.value path.state).complete r.longer r.whole r.has))
        (h.complete point is q);
  }

-- ---- from a walk to its cases
module _ {A : Type 0} where
  by_more : (p : Path A) (ps : List (Path A)) (r : Result (List (Path A)) _) → more p r ≡ Ok ps → (qs : List (Path A)) × (r ≡ Ok qs) × (ps ≡ p ∷ qs)
  by_more p ps (Ok qs) e = (qs, refl, cc)
  by_more p ps (Err l) e = cc

  pub each_collected : (P : Path A → Type 0) (n : ℕ) (w : Walk A) (ps : List (Path A)) → collect n w ≡ Ok ps → EachArrives P w → EachOf P ps
  each_collected P n [] [] e h = tt
  each_collected P n [] (q ∷ ps) e h = cc
  each_collected P n (Stops l ∷ w) ps e h = cc
  each_collected P zero (Arrives p ∷ w) ps e h = cc
  each_collected P (suc n) (Arrives p ∷ w) ps e h =
      let m = by_more p ps (collect n w) e in subst (EachOf P) (sym m.2) (h.0, each_collected P n w m.0 m.1 h.1)

  pub some_collected : (P : Path A → Type 0) (n : ℕ) (w : Walk A) (ps : List (Path A)) → collect n w ≡ Ok ps → SomeArrives P w → SomeOf P ps
  some_collected P n [] ps e h = absurd h
  some_collected P n (Stops l ∷ w) ps e h = cc
  some_collected P zero (Arrives p ∷ w) ps e h = cc
  some_collected P (suc n) (Arrives p ∷ w) ps e h =
      let m = by_more p ps (collect n w) e in subst (SomeOf P) (sym m.2) (go m.0 (some_collected P n w m.0 m.1) h)
    where
      go : (qs : List (Path A)) → (SomeArrives P w → SomeOf P qs) → P p ⊎ SomeArrives P w → P p ⊎ SomeOf P qs
      go qs f (inl h) = inl h
      go qs f (inr h) = inr (f h)

  pub both_of : (P Q : Path A → Type 0) (ps : List (Path A)) → EachOf P ps → SomeOf Q ps → SomeOf (λ p. P p × Q p) ps
  both_of P Q [] h k = k
  both_of P Q (p ∷ ps) h (inl k) = inl (h.0, k)
  both_of P Q (p ∷ ps) h (inr k) = inr (both_of P Q ps h.1 k)

  pub some_of_changed : (P Q : Path A → Type 0) (ps : List (Path A)) → ((p : Path A) → P p → Q p) → SomeOf P ps → SomeOf Q ps
  some_of_changed P Q [] f h = h
  some_of_changed P Q (p ∷ ps) f (inl h) = inl (f p h)
  some_of_changed P Q (p ∷ ps) f (inr h) = inr (some_of_changed P Q ps f h)

  pub picked : (P : Path A → Type 0) (ps : List (Path A)) → SomeOf P ps → (p : Path A) × P p
  picked P [] h = absurd h
  picked P (p ∷ ps) (inl h) = (p, h)
  picked P (p ∷ ps) (inr h) = picked P ps h
