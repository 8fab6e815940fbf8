-- Things that are read one after the other by a loop.
use Rattle.std.proofs.Common.{◌≡◌, ℕ, zero, suc, ◌<◌, List, [], ◌∷◌, ◌++◌, length, Option, Some, None, refl, sym, ap, subst, ◌∙◌, append_assoc, arith}
use Rattle.std.proofs.lemmas.List.{append-nil}
use Rattle.c_tokens.specs.declared.token.Token.{Token}
use Rattle.c_tokens.specs.declared.fixed.Fixed.TheVariants as fixed
use Rattle.c_reader.specs.Declarations.{Statement}
use Rattle.c_reader.specs.ReadExpressions.{◌>>=◌}
use Rattle.c_reader.specs.Fronts.{behind_sign}
use Rattle.c_reader.specs.ReadDeclarations.{Reads, listed_by, listed_within, listed_at}
use Rattle.c_reader.specs.ReadStatements.{entry_at, entries_at, entries_by, entries_within}
use Rattle.c_reader.proofs.Reading.{step, IsSound, Front-shorter, SignFirst-short, behind_sign-found}

-- a list that is read, behind what was read before
abbrev pub prefixed : {X : Type 0} → List X → Reads (List X) → Reads (List X)
prefixed front reading = reading >>= λ x. Some (front ++ x.0, x.1)

pub prefixed-nothing : {X : Type 0} (reading : Reads (List X)) → prefixed [] reading ≡ reading
prefixed-nothing None = refl
prefixed-nothing (Some x) = refl

-- one more thing is read
prefixed-more : {X : Type 0} (made : List X) (x : X) (reading : Reads (List X))
    → prefixed made (reading >>= λ y. Some (x ∷ y.0, y.1)) ≡ prefixed (made ++ x ∷ []) reading
prefixed-more made x None = refl
prefixed-more made x (Some y) = ap (λ l. Some (l, y.1)) (sym (append_assoc made (x ∷ []) y.0))

none-step : {A B : Type 0} {m : Option A} (f : A → Option B) → m ≡ None → (m >>= f) ≡ None
none-step f found = ap (λ o. o >>= f) found

-- ---- things with a comma between two

-- Behind what is read so far comes the rest of all.
pub record ListedSoFar {X : Type 0} (item : List Token → Reads X) (made : List X) (others : List Token)
    (whole : Reads (List X)) : Type 0 where
  pub fuel : ℕ
  pub enough : length others < fuel
  pub same : prefixed made (listed_within item fuel others) ≡ whole

pub listed-start : {X : Type 0} (item : List Token → Reads X) (tokens : List Token)
    → ListedSoFar item [] tokens (listed_at item tokens)
unfolding listed_at
listed-start item tokens = record {
  fuel = suc (length tokens);
  enough = omega arith;
  same = prefixed-nothing (listed_within item (suc (length tokens)) tokens);
}

none-by : {X : Type 0} (item : List Token → Reads X) (made : List X) (others : List Token) (whole : Reads (List X)) (n : ℕ)
    → prefixed made (listed_within item n others) ≡ whole → item others ≡ None → whole ≡ None
none-by item made others whole zero same none = sym same
none-by item made others whole (suc n) same none =
    sym same ∙ ap (prefixed made) (none-step (λ x. listed_by x.0 x.1 (behind_sign fixed.Comma x.1)
    (listed_within item n)) none)

pub listed-none : {X : Type 0} (item : List Token → Reads X) (made : List X) (others : List Token) (whole : Reads (List X))
    → ListedSoFar item made others whole → item others ≡ None → whole ≡ None
listed-none item made others whole so_far none = none-by item made others whole so_far.fuel so_far.same none

last-by : {X : Type 0} (item : List Token → Reads X) (made : List X) (others after : List Token) (x : X)
    (whole : Reads (List X)) (n : ℕ) → length others < n → prefixed made (listed_within item n others) ≡ whole
    → item others ≡ Some (x, after) → behind_sign fixed.Comma after ≡ None → whole ≡ Some (made ++ x ∷ [], after)
last-by item made others after x whole zero enough same found none = absurd (omega arith)
last-by item made others after x whole (suc n) enough same found none =
    sym same ∙ ap (prefixed made)
    (step (λ y. listed_by y.0 y.1 (behind_sign fixed.Comma y.1) (listed_within item n)) (x, after) found
    (ap (λ behind. listed_by x after behind (listed_within item n)) none))

pub listed-last : {X : Type 0} (item : List Token → Reads X) (made new : List X) (others after : List Token) (x : X)
    (whole : Reads (List X)) → ListedSoFar item made others whole → item others ≡ Some (x, after)
    → behind_sign fixed.Comma after ≡ None → new ≡ made ++ x ∷ [] → whole ≡ Some (new, after)
listed-last item made new others after x whole so_far found none pushed =
    last-by item made others after x whole so_far.fuel so_far.enough so_far.same found none
    ∙ ap (λ l. Some (l, after)) (sym pushed)

more-by : {X : Type 0} (item : List Token → Reads X) (made : List X) (others after behind : List Token) (x : X)
    (whole : Reads (List X)) (n : ℕ) → length behind < length others → length others < n
    → prefixed made (listed_within item n others) ≡ whole → item others ≡ Some (x, after)
    → behind_sign fixed.Comma after ≡ Some behind → ListedSoFar item (made ++ x ∷ []) behind whole
more-by item made others after behind x whole zero shorter enough same found comma = absurd (omega arith)
more-by item made others after behind x whole (suc n) shorter enough same found comma = record {
  fuel = n;
  enough = omega arith;
  same = sym (prefixed-more made x (listed_within item n behind)) ∙ sym (ap (prefixed made)
      (step (λ y. listed_by y.0 y.1 (behind_sign fixed.Comma y.1) (listed_within item n)) (x, after) found
      (ap (λ next. listed_by x after next (listed_within item n)) comma))) ∙ same;
}

pub listed-shorter : {X : Type 0} (Spells : X → List Token → Type 0) (item : List Token → Reads X)
    (others after behind : List Token) (x : X) → IsSound Spells item → item others ≡ Some (x, after)
    → behind_sign fixed.Comma after ≡ Some behind → length behind < length others
listed-shorter Spells item others after behind x sound found comma =
    omega (
      arith,
      Front-shorter Spells others x after (sound others (x, after) found),
      SignFirst-short fixed.Comma after behind (behind_sign-found fixed.Comma after behind comma),
    )

pub listed-more : {X : Type 0} (Spells : X → List Token → Type 0) (item : List Token → Reads X) (made new : List X)
    (others after behind : List Token) (x : X) (whole : Reads (List X)) → IsSound Spells item
    → ListedSoFar item made others whole → item others ≡ Some (x, after) → behind_sign fixed.Comma after ≡ Some behind
    → new ≡ made ++ x ∷ [] → ListedSoFar item new behind whole
listed-more Spells item made new others after behind x whole sound so_far found comma pushed =
    subst (λ l. ListedSoFar item l behind whole) (sym pushed)
    (more-by item made others after behind x whole so_far.fuel (listed-shorter Spells item others after behind x
    sound found comma)
    so_far.enough so_far.same found comma)

-- ---- entries up to a brace

-- Behind what is read so far comes the rest of all.
pub record EntriesSoFar (item : List Token → Reads Statement) (made : List Statement) (others : List Token)
    (whole : Reads (List Statement)) : Type 0 where
  pub fuel : ℕ
  pub enough : length others < fuel
  pub same : prefixed made (entries_within item fuel others) ≡ whole

pub entries-start : (room : ℕ) (inside : List Token → Reads Statement) (tokens : List Token)
    → EntriesSoFar (entry_at room inside) [] tokens (entries_at room inside tokens)
unfolding entries_at
entries-start room inside tokens = record {
  fuel = suc (length tokens);
  enough = omega arith;
  same = prefixed-nothing (entries_within (entry_at room inside) (suc (length tokens)) tokens);
}

closed-by : (item : List Token → Reads Statement) (made : List Statement) (others after : List Token)
    (whole : Reads (List Statement)) (n : ℕ) → length others < n → prefixed made (entries_within item n others) ≡ whole
    → behind_sign fixed.CloseCurly others ≡ Some after → whole ≡ Some (made, after)
closed-by item made others after whole zero enough same closing = absurd (omega arith)
closed-by item made others after whole (suc n) enough same closing =
    sym same ∙ ap (λ behind. prefixed made (entries_by behind (item others >>= λ x. entries_within item n x.1 >>= λ
    y. Some (x.0 ∷ y.0, y.1)))) closing
    ∙ ap (λ l. Some (l, after)) (append-nil made)

pub entries-closed : (item : List Token → Reads Statement) (made : List Statement) (others after : List Token)
    (whole : Reads (List Statement)) → EntriesSoFar item made others whole
    → behind_sign fixed.CloseCurly others ≡ Some after → whole ≡ Some (made, after)
entries-closed item made others after whole so_far closing =
    closed-by item made others after whole so_far.fuel so_far.enough so_far.same closing

-- where no brace closes the block, an entry is read
pub on-by : (item : List Token → Reads Statement) (others : List Token) (n : ℕ) → behind_sign fixed.CloseCurly others ≡ None
    → entries_within item (suc n) others ≡ (item others >>= λ x. entries_within item n x.1 >>= λ y. Some (x.0 ∷ y.0, y.1))
on-by item others n none =
    ap (λ behind. entries_by behind (item others >>= λ x. entries_within item n x.1 >>= λ y. Some (x.0 ∷ y.0, y.1))) none

refused-by : (item : List Token → Reads Statement) (made : List Statement) (others : List Token)
    (whole : Reads (List Statement)) (n : ℕ) → prefixed made (entries_within item n others) ≡ whole
    → behind_sign fixed.CloseCurly others ≡ None → item others ≡ None → whole ≡ None
refused-by item made others whole zero same none refused = sym same
refused-by item made others whole (suc n) same none refused =
    sym same ∙ ap (prefixed made) (on-by item others n none
    ∙ none-step (λ x. entries_within item n x.1 >>= λ y. Some (x.0 ∷ y.0, y.1)) refused)

pub entries-refused : (item : List Token → Reads Statement) (made : List Statement) (others : List Token)
    (whole : Reads (List Statement)) → EntriesSoFar item made others whole
    → behind_sign fixed.CloseCurly others ≡ None → item others ≡ None → whole ≡ None
entries-refused item made others whole so_far none refused =
    refused-by item made others whole so_far.fuel so_far.same none refused

read-by : (item : List Token → Reads Statement) (made : List Statement) (others after : List Token) (s : Statement)
    (whole : Reads (List Statement)) (n : ℕ) → length after < length others → length others < n
    → prefixed made (entries_within item n others) ≡ whole → behind_sign fixed.CloseCurly others ≡ None
    → item others ≡ Some (s, after) → EntriesSoFar item (made ++ s ∷ []) after whole
read-by item made others after s whole zero shorter enough same none found = absurd (omega arith)
read-by item made others after s whole (suc n) shorter enough same none found = record {
  fuel = n;
  enough = omega arith;
  same = sym (prefixed-more made s (entries_within item n after)) ∙ sym (ap (prefixed made) (on-by item others n none
      ∙ step (λ x. entries_within item n x.1 >>= λ y. Some (x.0 ∷ y.0, y.1)) (s, after) found refl)) ∙ same;
}

pub entries-read : (item : List Token → Reads Statement) (made new : List Statement) (others after : List Token)
    (s : Statement) (whole : Reads (List Statement)) → length after < length others
    → EntriesSoFar item made others whole → behind_sign fixed.CloseCurly others ≡ None
    → item others ≡ Some (s, after) → new ≡ made ++ s ∷ [] → EntriesSoFar item new after whole
entries-read item made new others after s whole shorter so_far none found pushed =
    subst (λ l. EntriesSoFar item l after whole) (sym pushed)
    (read-by item made others after s whole so_far.fuel shorter so_far.enough so_far.same none found)
