-- Rows that join one after the other, and what ends them.
use Rattle.std.proofs.Common.{◌≡◌, ℕ, zero, suc, ◌<◌, ◌+◌, List, [], ◌∷◌, ◌++◌, refl, sym, ◌∙◌, ap, subst, append_assoc, append-nil, length, get_or}
use Rattle.std.proofs.Common.{take, drop, drop-cons, Option, Some, None, Result, Ok, Err}
use Rattle.std.specs.Iterator.{Yields}
use Rattle.std.proofs.lemmas.Iterator.{YieldsList}
use Rattle.std.proofs.lemmas.Iterator.Consumers.{YieldsList-turn, YieldsList-so_far, YieldsList-end}
use Rattle.std.proofs.lemmas.List.{take-append-drop, take_more, map-id}
use Rattle.elimination.specs.declared.answer.Limit.TheVariants.{WideRow, ManyRows, Memory}
use Rattle.elimination.specs.declared.answer.EarlyEnd.{EarlyEnd}
use Rattle.elimination.specs.declared.answer.EarlyEnd.TheVariants.{Contradiction, AtLimit}
use Rattle.elimination.specs.declared.joining.JoinedRows.{JoinedRows}
use Rattle.elimination.specs.Combination.{Combination}
use Rattle.elimination.specs.Joining.{joined, joined_each}
use Rattle.elimination.specs.Eliminated.{eliminate}
use Rattle.elimination.specs.Outcome.{EndsEarly, Joins}

-- what ended a list stays
pub ended_each : (cap : ℕ) (early : EarlyEnd) (later : List Combination) → joined_each cap (Err early) later ≡ Err early
ended_each cap early [] = refl
ended_each cap early (row ∷ later) = refl

pub joined_append : (cap : ℕ) (before : Result (List Combination) EarlyEnd) (xs ys : List Combination)
    → joined_each cap before (xs ++ ys) ≡ joined_each cap (joined_each cap before xs) ys
joined_append cap (Err early) [] ys = refl
joined_append cap (Err early) (x ∷ xs) ys = ended_each cap early ys ∙ refl
joined_append cap (Ok rows) [] ys = refl
joined_append cap (Ok rows) (x ∷ xs) ys = joined_append cap (joined cap rows x) xs ys

joined_none : (cap : ℕ) (before : Result (List Combination) EarlyEnd) → joined_each cap before [] ≡ before
joined_none cap (Err early) = refl
joined_none cap (Ok rows) = refl

-- one row alone
pub joined_one : (cap : ℕ) (rows : List Combination) (row : Combination) → joined_each cap (Ok rows) (row ∷ []) ≡ joined cap rows row
joined_one cap rows row = joined_none cap (joined cap rows row)

pub eliminate_ended : (cap left j : ℕ) (early : EarlyEnd) → eliminate cap left j (Err early) ≡ Err early
eliminate_ended cap zero j early = refl
eliminate_ended cap (suc left) j early = refl

-- where what comes first ends early, and what comes next leaves it so, all ends early
pub ends_first : (next : Result (List Combination) EarlyEnd → Result (List Combination) EarlyEnd) → ((early : EarlyEnd) → next (Err early) ≡ Err early)
    → (first target : Result (List Combination) EarlyEnd) (early : EarlyEnd) → next first ≡ target → EndsEarly first early → EndsEarly target early
ends_first next stays first target (Contradiction multipliers) e is = sym e ∙ ap next is ∙ stays (Contradiction multipliers)
ends_first next stays first target (AtLimit WideRow) e is = sym e ∙ ap next is ∙ stays (AtLimit WideRow)
ends_first next stays first target (AtLimit ManyRows) e is = sym e ∙ ap next is ∙ stays (AtLimit ManyRows)
ends_first next stays first target (AtLimit Memory) e is = tt

-- ---- the list as it stands

module _ (old mid : JoinedRows) (xs : List Combination) (so_far : Joins old xs mid (Ok tt)) where
  -- more rows behind those that have joined
  joined_behind : (ys : List Combination) → joined_each mid.cap (Ok mid.rows) ys ≡ joined_each old.cap (Ok old.rows) (xs ++ ys)
  joined_behind ys =
      ap (λ cap. joined_each cap (Ok mid.rows) ys) so_far.1
      ∙ ap (λ t. joined_each old.cap t ys) (sym so_far.0)
      ∙ sym (joined_append old.cap (Ok old.rows) xs ys)

  pub joins_more : (ys : List Combination) (new : JoinedRows) → Joins mid ys new (Ok tt) → Joins old (xs ++ ys) new (Ok tt)
  joins_more ys new more = (sym (joined_behind ys) ∙ more.0, more.1 ∙ so_far.1)

  -- where the rows that come next end the list early, later ones do not matter
  pub ends_then : (ys zs all : List Combination) (new : JoinedRows) (early : EarlyEnd) → all ≡ (xs ++ ys) ++ zs → Joins mid ys new (Err early)
      → Joins old all new (Err early)
  ends_then ys zs all new early is ends =
      ends_first (λ before. joined_each old.cap before zs) (λ e. ended_each old.cap e zs) (joined_each mid.cap (Ok mid.rows) ys)
      (joined_each old.cap (Ok old.rows) all) early
      (ap (λ t. joined_each old.cap t zs) (joined_behind ys) ∙ sym (joined_append old.cap (Ok old.rows) (xs ++ ys) zs)
      ∙ ap (λ t. joined_each old.cap (Ok old.rows) t) (sym is)) ends

  -- whatever comes of the rows that come next
  pub joins_on : (ys : List Combination) (new : JoinedRows) (result : Result (Unit {0}) EarlyEnd) → Joins mid ys new result → Joins old (xs ++ ys) new result
  joins_on ys new (Ok done) next = joins_more ys new next
  joins_on ys new (Err early) next = ends_then ys [] (xs ++ ys) new early (sym (append-nil (xs ++ ys))) next

-- nothing has joined yet
pub joins_nothing : (old : JoinedRows) → Joins old [] old (Ok tt)
joins_nothing old = (refl, refl)

-- ---- a walk over a list, each element of which gives some rows that join

module _ {X : Type 0} (given : List X → List Combination) (behind : (xs ys : List X) → given (xs ++ ys) ≡ given xs ++ given ys) where
  pub walk_more : (old mid new : JoinedRows) (xs : List X) (x : X) → Joins old (given xs) mid (Ok tt) → Joins mid (given (x ∷ [])) new (Ok tt)
      → Joins old (given (xs ++ x ∷ [])) new (Ok tt)
  walk_more old mid new xs x so_far more =
      subst (λ (rows : List Combination). Joins old rows new (Ok tt)) (sym (behind xs (x ∷ [])))
      (joins_more old mid (given xs) so_far (given (x ∷ [])) new more)

  pub walk_ends : (old mid new : JoinedRows) (xs zs all : List X) (x : X) (early : EarlyEnd) → all ≡ (xs ++ x ∷ []) ++ zs → Joins old (given xs) mid (Ok tt)
      → Joins mid (given (x ∷ [])) new (Err early) → Joins old (given all) new (Err early)
  walk_ends old mid new xs zs all x early is so_far ends =
      let rows = ap given is ∙ behind (xs ++ x ∷ []) zs ∙ ap (λ t. t ++ given zs) (behind xs (x ∷ [])) in
      ends_then old mid (given xs) so_far (given (x ∷ [])) (given zs) (given all) new early rows ends

-- the elements before a place, the element there, and those behind it
pub parts : {X : Type 0} (xs : List X) (i : ℕ) (x : X) → i < length xs → x ≡ get_or xs i x → xs ≡ (take i xs ++ x ∷ []) ++ drop (suc i) xs
parts xs i x inside is =
    sym (append_assoc (take i xs) (x ∷ []) (drop (suc i) xs)
    ∙ ap (λ t. take i xs ++ t) (ap (λ t. t ∷ drop (suc i) xs) is ∙ sym (drop-cons xs i x inside))
    ∙ take-append-drop i xs)

-- one more element of a slice
pub taken : {X : Type 0} (xs : List X) (i : ℕ) (x : X) → i < length xs → x ≡ get_or xs i x → take (i + 1) xs ≡ take i xs ++ x ∷ []
taken xs i x inside is = take_more xs i x inside ∙ ap (λ t. take i xs ++ t ∷ []) (sym is)

-- ---- a walk that takes the elements out of a vector

module _ {S A : Type 0} {steps : S → Option A → S → Type 0} {s : S} {all : List A} (road : YieldsList steps (λ y. y) s all) where
  -- the elements so far, the next, and those behind it
  pub yielded_parts : (xs : List A) (t : S) (so_far : Yields steps s xs t) (r : Option A) (u : S) (x : A) → r ≡ Some x → steps t r u
      → all ≡ (xs ++ x ∷ []) ++ drop (suc (length xs)) all
  yielded_parts xs t so_far r u x is step =
      let turn = YieldsList-turn road xs t so_far r u x is step in
      parts all (length xs) x turn.0 turn.1
      ∙ ap (λ front. (front ++ x ∷ []) ++ drop (suc (length xs)) all) (sym (YieldsList-so_far road xs t so_far) ∙ map-id xs)

  -- at the end all have come
  pub yielded_all : (xs : List A) (t : S) (so_far : Yields steps s xs t) (r : Option A) (u : S) → r ≡ None → steps t r u → xs ≡ all
  yielded_all xs t so_far r u is step = sym (map-id xs) ∙ (YieldsList-end road xs t so_far r u is step).0
