-- Steps of reading: what follows from one that found something, and what makes one find it.
use Rattle.std.proofs.Common.{◌≡◌, ℕ, zero, suc, ◌+◌, ◌≤◌, Bool, true, false, ◌||◌, List, [], ◌∷◌, ◌++◌, length, length-append, Option, Some, None, if◌then◌else◌, refl, sym, ap, ◌∙◌, append_assoc, inl, inr, ◌⊎◌, arith}
use Rattle.c_tokens.specs.declared.kind.Kind.{Kind}
use Rattle.c_tokens.specs.declared.token.Token.{Token}
use Rattle.c_tokens.specs.declared.fixed.Fixed.{Fixed}
use Rattle.c_reader.specs.ReadExpressions.{◌>>=◌}
use Rattle.c_reader.specs.ReadDeclarations.{Reads}
use Rattle.c_tokens.specs.Fixed.{kind_of, is_kind_of}
use Rattle.c_tokens.proofs.Laws.{kinds-one}
use Rattle.c_reader.specs.Fronts.{first_of, lowered, behind_sign, begins, is_either, behind_either}

-- a step that finds this goes on from it
pub step : {A B : Type 0} {m : Option A} (f : A → Option B) {r : Option B} (a : A) → m ≡ Some a → f a ≡ r → (m >>= f) ≡ r
step f a found goes_on = ap (λ o. o >>= f) found ∙ goes_on

-- what is found in two steps
pub stepped : {A B : Type 0} (m : Option A) (f : A → Option B) (b : B) → (m >>= f) ≡ Some b
    → (a : A) × (m ≡ Some a) × (f a ≡ Some b)
stepped None f b is = absurd cc
stepped (Some a) f b is = (a, refl, is)

-- ---- signs

-- The kind is that of the sign.
abbrev pub HasSign : Fixed → Kind → Type 0
HasSign s kind = kind ≡ kind_of s

pub HasSign-from_test : (s : Fixed) (kind : Kind) → is_kind_of s kind ≡ true → HasSign s kind
HasSign-from_test s kind is = (kinds-one s kind).0 is

pub test-from_HasSign : (s : Fixed) (kind : Kind) → HasSign s kind → is_kind_of s kind ≡ true
test-from_HasSign s kind is = (kinds-one s kind).1 is

-- the tokens behind a sign that stands first
pub behind_sign-here : (s : Fixed) (first : Token) (others : List Token) → HasSign s first.kind
    → behind_sign s (first ∷ others) ≡ Some others
behind_sign-here s first others is = rw (test-from_HasSign s first.kind is) refl

-- where another kind stands first
pub behind_sign-other : (s : Fixed) (first : Token) (others : List Token) → is_kind_of s first.kind ≡ false
    → behind_sign s (first ∷ others) ≡ None
behind_sign-other s first others is = rw is refl

-- the first token, where the sign stands first
pub record SignFirst (s : Fixed) (tokens others : List Token) : Type 0 where
  pub token : Token
  pub parts : tokens ≡ token ∷ others
  pub has : HasSign s token.kind

found-by : (s : Fixed) (first : Token) (after others : List Token) (test : Bool) → is_kind_of s first.kind ≡ test
    → behind_sign s (first ∷ after) ≡ Some others → SignFirst s (first ∷ after) others
found-by s first after others true is found =
    let has = HasSign-from_test s first.kind is in
    let same : after ≡ others = let here = behind_sign-here s first after has in cc in
    record { token = first; parts = ap (λ (l : List Token). first ∷ l) same; has = has }
found-by s first after others false is found = absurd (let none = behind_sign-other s first after is in cc)

pub behind_sign-found : (s : Fixed) (tokens others : List Token) → behind_sign s tokens ≡ Some others
    → SignFirst s tokens others
behind_sign-found s [] others found = absurd cc
behind_sign-found s (first ∷ after) others found = found-by s first after others (is_kind_of s first.kind) refl found

pub SignFirst-short : (s : Fixed) (tokens others : List Token) → SignFirst s tokens others
    → length tokens ≡ length others + 1
SignFirst-short s tokens others first = rw first.parts (omega arith)

-- ---- one of two signs

-- The kind is that of one of the two signs.
abbrev pub HasEither : Fixed → Fixed → Kind → Type 0
HasEither one other kind = HasSign one kind ⊎ HasSign other kind

either-by : (one other : Fixed) (kind : Kind) (first second : Bool) → is_kind_of one kind ≡ first
    → is_kind_of other kind ≡ second → (first || second) ≡ true → HasEither one other kind
either-by one other kind true second is is_other either = inl (HasSign-from_test one kind is)
either-by one other kind false true is is_other either = inr (HasSign-from_test other kind is_other)
either-by one other kind false false is is_other either = absurd cc

pub HasEither-from_test : (one other : Fixed) (kind : Kind) → is_either one other kind ≡ true → HasEither one other kind
HasEither-from_test one other kind is =
    either-by one other kind (is_kind_of one kind) (is_kind_of other kind) refl refl is

or_true : (b : Bool) → (b || true) ≡ true
or_true true = refl
or_true false = refl

pub test-from_HasEither : (one other : Fixed) (kind : Kind) → HasEither one other kind → is_either one other kind ≡ true
test-from_HasEither one other kind (inl is) = rw (test-from_HasSign one kind is) refl
test-from_HasEither one other kind (inr is) = rw (test-from_HasSign other kind is) (or_true (is_kind_of one kind))

-- the first token, where one of the signs stands first
pub record EitherFirst (one other : Fixed) (tokens others : List Token) : Type 0 where
  pub token : Token
  pub parts : tokens ≡ token ∷ others
  pub has : HasEither one other token.kind

either-found : (one other : Fixed) (first : Token) (after others : List Token) (test : Bool)
    → is_either one other first.kind ≡ test → (if test then Some after else None) ≡ Some others
    → EitherFirst one other (first ∷ after) others
either-found one other first after others true is found =
    let same : after ≡ others = cc in
    record {
      token = first;
      parts = ap (λ (l : List Token). first ∷ l) same;
      has = HasEither-from_test one other first.kind is;
    }
either-found one other first after others false is found = absurd cc

pub behind_either-found : (one other : Fixed) (tokens others : List Token) → behind_either one other tokens ≡ Some others
    → EitherFirst one other tokens others
behind_either-found one other [] others found = absurd cc
behind_either-found one other (first ∷ after) others found =
    either-found one other first after others (is_either one other first.kind) refl found

-- the tokens behind one of two signs that stands first
pub behind_either-here : (one other : Fixed) (first : Token) (others : List Token) → HasEither one other first.kind
    → behind_either one other (first ∷ others) ≡ Some others
behind_either-here one other first others is = rw (test-from_HasEither one other first.kind is) refl

-- ---- what stands at the front

-- The tokens begin with those that spell this, and these follow.
pub record Front {X : Type 0} (Spells : X → List Token → Type 0) (tokens : List Token) (x : X)
    (after : List Token) : Type 0 where
  pub front : List Token
  pub parts : tokens ≡ front ++ after
  pub spells : Spells x front

-- What the reader reads is spelled by the tokens up to those behind it.
abbrev pub IsSound : {X : Type 0} → (X → List Token → Type 0) → (List Token → Reads X) → Type 0
IsSound {X = X} Spells item = (tokens : List Token) (read : X × List Token) → item tokens ≡ Some read
    → Front Spells tokens read.0 read.1

pub Front-shorter : {X : Type 0} (Spells : X → List Token → Type 0) (tokens : List Token) (x : X) (after : List Token)
    → Front Spells tokens x after → length after ≤ length tokens
Front-shorter Spells tokens x after at = rw (at.parts, length-append at.front after) (omega arith)

pub given : {A : Type 0} {a b : A} → Some a ≡ Some b → a ≡ b
given is = cc

-- one more token in front
pub in_front : {X Y : Type 0} (Spells : X → List Token → Type 0) (Spelled : Y → List Token → Type 0) (x : X) (y : Y)
    (s : Fixed) (tokens others after : List Token) → SignFirst s tokens others → Front Spells others x after
    → ((token : Token) (us : List Token) → HasSign s token.kind → Spells x us → Spelled y (token ∷ us))
    → Front Spelled tokens y after
in_front Spells Spelled x y s tokens others after first at make = record {
  front = first.token ∷ at.front;
  parts = first.parts ∙ ap (λ (l : List Token). first.token ∷ l) at.parts;
  spells = make first.token at.front first.has at.spells;
}

-- ---- lists of tokens one after the other

pub cons_parts : (token : Token) (vs after tokens others : List Token) → tokens ≡ token ∷ others → others ≡ vs ++ after
    → tokens ≡ (token ∷ vs) ++ after
cons_parts token vs after tokens others is on = is ∙ ap (λ (l : List Token). token ∷ l) on

pub append_parts : (us vs after tokens others : List Token) → tokens ≡ us ++ others → others ≡ vs ++ after
    → tokens ≡ (us ++ vs) ++ after
append_parts us vs after tokens others is on =
    is ∙ ap (λ (l : List Token). us ++ l) on ∙ sym (append_assoc us vs after)

begins-by : (s : Fixed) (first : Token) (others : List Token) (test : Bool) → is_kind_of s first.kind ≡ test
    → behind_sign s (first ∷ others) ≡ None → is_kind_of s first.kind ≡ false
begins-by s first others true test is =
    absurd (let here = behind_sign-here s first others (HasSign-from_test s first.kind test) in cc)
begins-by s first others false test is = test

-- no sign stands first where no tokens are behind it
pub begins-none : (s : Fixed) (tokens : List Token) → behind_sign s tokens ≡ None → begins s tokens ≡ false
begins-none s [] is = refl
begins-none s (first ∷ others) is = begins-by s first others (is_kind_of s first.kind) refl is

-- a sign that stands first
pub begins-here : (s : Fixed) (tokens others : List Token) → SignFirst s tokens others → begins s tokens ≡ true
begins-here s tokens others at = ap (begins s) at.parts ∙ test-from_HasSign s at.token.kind at.has

-- ---- the first token, and the room below a tree

pub first_of-is : (tokens : List Token) (first : Token) (others : List Token) → first_of tokens ≡ Some (first, others)
    → tokens ≡ first ∷ others
first_of-is [] first others is = absurd cc
first_of-is (token ∷ more) first others is = ap (λ (x : Token × List Token). x.0 ∷ x.1) (given is)

pub first_of-none : (tokens : List Token) → first_of tokens ≡ None → tokens ≡ []
first_of-none [] none = refl
first_of-none (token ∷ more) none = absurd cc

pub lowered-is : (room inside : ℕ) → lowered room ≡ Some inside → room ≡ suc inside
lowered-is zero inside is = absurd cc
lowered-is (suc room) inside is = ap suc (given is)

pub lowered-none : (room : ℕ) → lowered room ≡ None → room ≡ 0
lowered-none zero none = refl
lowered-none (suc room) none = absurd cc
