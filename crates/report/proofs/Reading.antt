-- Texts that can be read back: what is printed, and what may stand behind it, determine what was printed.
use Rattle.std.proofs.Common.{◌≡◌, ℕ, Bool, true, false, eqb, ◌||◌, not, List, [], ◌∷◌, ◌++◌, refl, sym, ap, ◌∙◌, subst, arith}
use Rattle.std.specs.Prelude.{flat_map}
use Rattle.std.proofs.lemmas.List.{append_assoc, append_cancel_left}

-- where a text begins with what is printed of a fitting value and goes on with what may stand behind it, the text determines both
pub record IsReadable {A : Type 0} (Fits : A → Type 0) (print : A → List ℕ) (Behind : List ℕ → Type 0) : Type 0 where
  pub read : (x y : A) (s t : List ℕ) → Fits x → Fits y → Behind s → Behind t → print x ++ s ≡ print y ++ t → (x ≡ y) × (s ≡ t)

-- all bytes pass the test
abbrev pub Passes : (ℕ → Bool) → List ℕ → Type 0
Passes p [] = Unit {0}
Passes p (b ∷ s) = (p b ≡ true) × Passes p s

-- there is a first byte, and it passes
abbrev pub Begins : (ℕ → Bool) → List ℕ → Type 0
Begins p [] = ⊥
Begins p (b ∷ s) = p b ≡ true

-- there is no first byte that passes
abbrev pub Stops : (ℕ → Bool) → List ℕ → Type 0
Stops p [] = Unit {0}
Stops p (b ∷ s) = p b ≡ false

abbrev pub Anything : List ℕ → Type 0
Anything s = Unit {0}

abbrev pub Each : {A : Type 0} → (A → Type 0) → List A → Type 0
Each P [] = Unit {0}
Each P (x ∷ xs) = P x × Each P xs

-- what a list of printed values needs of them and of what stands behind the list
pub record Repeats {A : Type 0} (Fits : A → Type 0) (print : A → List ℕ) (Behind : List ℕ → Type 0) (Ends : List ℕ → Type 0) : Type 0 where
  pub ends : (s : List ℕ) → Ends s → Behind s
  pub goes : (x : A) (s : List ℕ) → Fits x → Behind (print x ++ s)
  pub apart : (x : A) (s t : List ℕ) → Fits x → Ends t → print x ++ s ≡ t → ⊥

pub true_false : (b : Bool) → b ≡ true → b ≡ false → ⊥
true_false true p q = cc
true_false false p q = cc

-- maximal runs of bytes that pass a test
pub run_cut : (p : ℕ → Bool) (x y s t : List ℕ) → Passes p x → Passes p y → Stops p s → Stops p t → x ++ s ≡ y ++ t → (x ≡ y) × (s ≡ t)
run_cut p [] [] s t a b c d e = (refl, e)
run_cut p [] (k ∷ y) s t a b c d e = let f : Stops p (k ∷ (y ++ t)) = subst (Stops p) e c in absurd (true_false (p k) b.0 f)
run_cut p (k ∷ x) [] s t a b c d e = let f : Stops p (k ∷ (x ++ s)) = subst (Stops p) (sym e) d in absurd (true_false (p k) a.0 f)
run_cut p (k ∷ x) (l ∷ y) s t a b c d e =
    let h : k ≡ l = cc in
    let g : x ++ s ≡ y ++ t = cc in
    let o = run_cut p x y s t a.1 b.1 c d g in
    (rw (h, o.0) refl, o.1)

-- the first bytes differ
pub clash : (p : ℕ → Bool) (x y : List ℕ) → Begins p x → Stops p y → x ≡ y → ⊥
clash p [] y a b e = a
clash p (k ∷ x) [] a b e = cc
clash p (k ∷ x) (l ∷ y) a b e = let h : k ≡ l = cc in true_false (p k) a (subst (λ c. p c ≡ false) (sym h) b)

pub begins_on : (p : ℕ → Bool) (x s : List ℕ) → Begins p x → Begins p (x ++ s)
begins_on p [] s a = absurd a
begins_on p (k ∷ x) s a = a

-- the text in front is the same
pub past : {A : Type 0} (F : A → Type 0) (f : A → List ℕ) (B : List ℕ → Type 0) (w : List ℕ) → IsReadable F f B → IsReadable F (λ x. w ++ f x) B
past F f B w h = record {
  read = λ x y s t a b c d e. h.read x y s t a b c d (append_cancel_left w (f x ++ s) (f y ++ t) (sym (append_assoc w (f x) s) ∙ e
      ∙ append_assoc w (f y) t));
}

-- a text that always stands behind
pub closed : {A : Type 0} (F : A → Type 0) (f : A → List ℕ) (B : List ℕ → Type 0) (w : List ℕ) → ((s : List ℕ) → B (w ++ s)) → IsReadable F f B →
    IsReadable F (λ x. f x ++ w) Anything
closed F f B w g h = record {
  read = λ x y s t a b c d e.
      let o = h.read x y (w ++ s) (w ++ t) a b (g s) (g t) (sym (append_assoc (f x) w s) ∙ e ∙ append_assoc (f y) w t) in
      (o.0, append_cancel_left w s t o.1);
}

-- less may stand behind
pub narrowed : {A : Type 0} (F : A → Type 0) (f : A → List ℕ) (B C : List ℕ → Type 0) → ((s : List ℕ) → C s → B s) → IsReadable F f B → IsReadable F f C
narrowed F f B C g h = record { read = λ x y s t a b c d e. h.read x y s t a b (g s c) (g t d) e }

-- fewer values fit
pub fewer : {A : Type 0} (F G : A → Type 0) (f : A → List ℕ) (B : List ℕ → Type 0) → ((x : A) → G x → F x) → IsReadable F f B → IsReadable G f B
fewer F G f B g h = record { read = λ x y s t a b c d e. h.read x y s t (g x a) (g y b) c d e }

-- one value, and then another whose text may depend on the first
pub behind : {A C : Type 0} (F : A → Type 0) (f : A → List ℕ) (B : List ℕ → Type 0) (G : A → C → Type 0) (g : A → C → List ℕ) (D : List ℕ → Type 0) →
    IsReadable F f B → ((x : A) → F x → IsReadable (G x) (g x) D) → ((x : A) (y : C) (s : List ℕ) → F x → G x y → D s → B (g x y ++ s)) → IsReadable {A = A
    × C} (λ p. F p.0 × G p.0 p.1) (λ p. f p.0 ++ g p.0 p.1) D
behind {A} {C} F f B G g D h k j = record { read = λ p q s t a b c d e. both p q s t a b c d e }
  where
    second : (x y : A) (u v : C) (s t : List ℕ) → x ≡ y → F x → G x u → G y v → D s → D t → g x u ++ s ≡ g y v ++ t → (u ≡ v) × (s ≡ t)
    second x y u v s t e fx gu gv ds dt w = (k x fx).read u v s t gu (subst (λ z. G z v) (sym e) gv) ds dt (w ∙ ap (λ z. g z v ++ t) (sym e))

    both : (p q : A × C) (s t : List ℕ) → F p.0 × G p.0 p.1 → F q.0 × G q.0 q.1 → D s → D t → (f p.0 ++ g p.0 p.1) ++ s ≡ (f q.0 ++ g q.0 q.1) ++ t → (p ≡
        q) × (s ≡ t)
    both p q s t a b c d e =
        let o = h.read p.0 q.0 (g p.0 p.1 ++ s) (g q.0 q.1 ++ t) a.0 b.0 (j p.0 p.1 s a.0 a.1 c) (j q.0 q.1 t b.0 b.1 d) (sym (append_assoc (f p.0) (g p.0
        p.1) s) ∙ e ∙ append_assoc (f q.0) (g q.0 q.1) t) in
        let r = second p.0 q.0 p.1 q.1 s t o.0 a.0 a.1 b.1 c d o.1 in
        (ap (λ x. (x, p.1)) o.0 ∙ ap (λ y. (q.0, y)) r.0, r.1)

-- the text of a part that determines the whole
pub through : {A C : Type 0} (F : C → Type 0) (f : C → List ℕ) (B : List ℕ → Type 0) (to : A → C) → ((x y : A) → to x ≡ to y → x ≡ y) → IsReadable F f B →
    IsReadable (λ x. F (to x)) (λ x. f (to x)) B
through F f B to g h = record { read = λ x y s t a b c d e. let o = h.read (to x) (to y) s t a b c d e in (g x y o.0, o.1) }

-- a list of values
many_read : {A : Type 0} (F : A → Type 0) (f : A → List ℕ) (B E : List ℕ → Type 0) → IsReadable F f B → Repeats F f B E → (xs ys : List A) (s t : List ℕ) →
    Each F xs → Each F ys → E s → E t → flat_map f xs ++ s ≡ flat_map f ys ++ t → (xs ≡ ys) × (s ≡ t)
many_read F f B E h r [] [] s t a b c d e = (refl, e)
many_read F f B E h r [] (y ∷ ys) s t a b c d e = absurd (r.apart y (flat_map f ys ++ t) s b.0 c (sym (append_assoc (f y) (flat_map f ys) t) ∙ sym e))
many_read F f B E h r (x ∷ xs) [] s t a b c d e = absurd (r.apart x (flat_map f xs ++ s) t a.0 d (sym (append_assoc (f x) (flat_map f xs) s) ∙ e))
many_read {A} F f B E h r (x ∷ xs) (y ∷ ys) s t a b c d e =
    let o = h.read x y (flat_map f xs ++ s) (flat_map f ys ++ t) a.0 b.0 (on xs s a.1 c) (on ys t b.1 d) (sym (append_assoc (f x) (flat_map f xs) s) ∙ e ∙
    append_assoc (f y) (flat_map f ys) t) in
    let p = many_read F f B E h r xs ys s t a.1 b.1 c d o.1 in
    (rw (o.0, p.0) refl, p.1)
  where
    on : (zs : List A) (u : List ℕ) → Each F zs → E u → B (flat_map f zs ++ u)
    on [] u a c = r.ends u c
    on (z ∷ zs) u a c = subst B (sym (append_assoc (f z) (flat_map f zs) u)) (r.goes z (flat_map f zs ++ u) a.0)

pub many : {A : Type 0} (F : A → Type 0) (f : A → List ℕ) (B E : List ℕ → Type 0) → IsReadable F f B → Repeats F f B E → IsReadable (Each F) (flat_map f) E
many F f B E h r = record { read = λ xs ys s t a b c d e. many_read F f B E h r xs ys s t a b c d e }

-- ---- fixed texts
-- at some place both have a byte, and these differ
abbrev pub unlike : List ℕ → List ℕ → Bool
unlike [] v = false
unlike (b ∷ w) [] = false
unlike (b ∷ w) (c ∷ v) = not (eqb b c) || unlike w v

same_eqb : (b c : ℕ) → b ≡ c → eqb b c ≡ true
same_eqb b c e = grind (arith, e)

pub differ : (w v s t : List ℕ) → unlike w v ≡ true → w ++ s ≡ v ++ t → ⊥
differ [] v s t h e = cc
differ (b ∷ w) [] s t h e = cc
differ (b ∷ w) (c ∷ v) s t h e =
    let q : eqb b c ≡ true = same_eqb b c (cc) in
    let r : w ++ s ≡ v ++ t = cc in
    differ w v s t (on (eqb b c) q h) r
  where
    on : (z : Bool) → z ≡ true → (not z || unlike w v) ≡ true → unlike w v ≡ true
    on true q k = k
    on false q k = cc

-- one of finitely many words, told apart by a function that finds each from its text
pub word : {A : Type 0} (p : ℕ → Bool) (w : A → List ℕ) (find : List ℕ → A) → ((x : A) → Passes p (w x)) → ((x : A) → find (w x) ≡ x) → IsReadable {A = A}
    (λ x. Unit {0}) w (Stops p)
word p w find h k = record { read = λ x y s t a b c d e. let o = run_cut p (w x) (w y) s t (h x) (h y) c d e in (sym (k x) ∙ ap find o.0 ∙ k y, o.1) }
