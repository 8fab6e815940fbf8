-- What spells a declaration is read as it.
use Rattle.std.proofs.Common.{◌≡◌, ℕ, zero, suc, ◌<◌, ◌≤◌, false, List, [], ◌∷◌, ◌++◌, length, length-append, Option, Some, None, refl, ap, ◌∙◌, append_assoc, arith}
use Rattle.c_ast.specs.declared.func.Var.{Var}
use Rattle.c_ast.specs.RawTree as tree
use Rattle.c_ast.specs.RawTree.{RawExpression, RawDeclared}
use Rattle.c_tokens.specs.declared.kind.Kind.{Kind}
use Rattle.c_tokens.specs.declared.kind.Kind.TheVariants as k
use Rattle.c_tokens.specs.declared.token.Token.{Token}
use Rattle.c_tokens.specs.declared.fixed.Fixed.{Fixed}
use Rattle.c_tokens.specs.declared.fixed.Fixed.TheVariants as fixed
use Rattle.c_reader.specs.Expressions.{EndsExpression}
use Rattle.c_reader.specs.Declarations.{Statement, SpellsType, SpellsName, SpellsListed, SpellsOptional, SpellsInitialiser, SpellsDeclarator, SpellsDeclaration, SpellsParameter, SpellsParameters}
use Rattle.c_reader.specs.Depth.{optional_depth, declarators_depth, statements_depth}
use Rattle.c_tokens.specs.Fixed.{is_kind_of}
use Rattle.c_reader.specs.Fronts.{behind_sign, begins, skipped}
use Rattle.c_reader.specs.ReadDeclarations.{Reads, name_by, name_at, behind_type, shallow_at, declarator_at, declaration_at, parameter_at, parameters_by, parameters_at, optional, listed_by, listed_within, listed_at}
use Rattle.c_reader.proofs.Reading.{step, behind_sign-here, behind_sign-other, test-from_HasSign}
use Rattle.c_reader.proofs.DeclarationSoundness.{SpellsShallowDeclarator}
use Rattle.c_reader.proofs.Shallow.{shallow-complete}
use Rattle.c_reader.proofs.Firsts.{FirstIs, FirstIs-append, starts_name, name-first, name-no_int, name-no_long, listed-first, starts_type, type-first, type-no_bracket, type-no_void, begins-not, behind_sign-not, skipped-not, ends-at}

pub behind_sign-none : (s : Fixed) (tokens : List Token) → begins s tokens ≡ false → behind_sign s tokens ≡ None
behind_sign-none s [] is = refl
behind_sign-none s (first ∷ others) is = behind_sign-other s first others is

-- no token of this kind is that sign
pub kind-not : (s : Fixed) (first : Token) (kind : Kind) → first.kind ≡ kind → is_kind_of s kind ≡ false
    → is_kind_of s first.kind ≡ false
kind-not s first kind is other = ap (is_kind_of s) is ∙ other

pub type-complete : (us tokens : List Token) → SpellsType us → begins fixed.Int tokens ≡ false
    → begins fixed.Long tokens ≡ false → behind_type (us ++ tokens) ≡ Some tokens
unfolding behind_type
type-complete _ tokens (SpellsType.int one is) no_int no_long = rw (test-from_HasSign fixed.Int one.kind is) refl
type-complete _ tokens (SpellsType.long one is) no_int no_long =
    rw (
      kind-not fixed.Int one k.Long is refl,
      test-from_HasSign fixed.Long one.kind is,
      skipped-not fixed.Long tokens no_long,
      skipped-not fixed.Int tokens no_int,
    ) refl
type-complete _ tokens (SpellsType.long_int one two is_long is_int) no_int no_long =
    rw (
      kind-not fixed.Int one k.Long is_long refl,
      test-from_HasSign fixed.Long one.kind is_long,
      kind-not fixed.Long two k.Int is_int refl,
      test-from_HasSign fixed.Int two.kind is_int,
    ) refl
type-complete _ tokens (SpellsType.long_long one two is_long is_again) no_int no_long =
    rw (
      kind-not fixed.Int one k.Long is_long refl,
      test-from_HasSign fixed.Long one.kind is_long,
      test-from_HasSign fixed.Long two.kind is_again,
      skipped-not fixed.Int tokens no_int,
    ) refl
type-complete _ tokens (SpellsType.long_long_int one two three is_long is_again is_int) no_int no_long =
    rw (
      kind-not fixed.Int one k.Long is_long refl,
      test-from_HasSign fixed.Long one.kind is_long,
      test-from_HasSign fixed.Long two.kind is_again,
      test-from_HasSign fixed.Int three.kind is_int,
    ) refl

pub name-complete : (var : Var) (us after : List Token) → SpellsName var us → name_at (us ++ after) ≡ Some (var, after)
name-complete _ _ after (SpellsName.name name word is) = ap (λ kind. name_by kind word.line after) is

-- a type, and a name behind it
pub type-before-name : (us tokens : List Token) → SpellsType us → FirstIs starts_name tokens
    → behind_type (us ++ tokens) ≡ Some tokens
type-before-name us tokens type at =
    type-complete us tokens type (begins-not starts_name fixed.Int tokens name-no_int at)
    (begins-not starts_name fixed.Long tokens name-no_long at)

-- ---- initialisers, and lists

initialiser-complete : (room : ℕ) (value : Option RawExpression) (us after : List Token)
    → SpellsOptional SpellsInitialiser value us → optional_depth value ≤ room → begins fixed.Assign after ≡ false
    → EndsExpression after
    → optional (behind_sign fixed.Assign (us ++ after)) (us ++ after) (shallow_at room) ≡ Some (value, after)
initialiser-complete room _ _ after SpellsOptional.nothing low other ends =
    ap (λ behind. optional behind after (shallow_at room)) (behind_sign-none fixed.Assign after other)
initialiser-complete room _ _ after (SpellsOptional.something _ _ (SpellsInitialiser.initialiser e first us is spells)) low
    other ends =
    ap (λ behind. optional behind (first ∷ us ++ after) (shallow_at room)) (behind_sign-here fixed.Assign first
    (us ++ after) is)
    ∙ step (λ x. Some (Some x.0, x.1)) (e, after) (shallow-complete room e us after spells ends low) refl

-- Neither an initialiser nor an expression goes on here.
pub record EndsDeclarator (after : List Token) : Type 0 where
  pub no_sign : begins fixed.Assign after ≡ false
  pub ends : EndsExpression after

declarator-complete : (room : ℕ) (declared : RawDeclared) (us after : List Token) → SpellsDeclarator declared us
    → optional_depth declared.initialiser ≤ room → EndsDeclarator after
    → declarator_at room (us ++ after) ≡ Some (declared, after)
unfolding declarator_at
declarator-complete room _ _ after (SpellsDeclarator.declarator var value us vs spells_name spells) low ends =
    rw (append_assoc us vs after) (step _ (var, vs ++ after) (name-complete var us (vs ++ after) spells_name)
    (step _ (value, after) (initialiser-complete room value vs after spells low ends.no_sign ends.ends) refl))

-- What is spelled so, and what follows it so, is read so.
abbrev pub IsComplete : {X : Type 0} → (X → List Token → Type 0) → (List Token → Type 0) → (List Token → Reads X) → Type 0
IsComplete {X = X} Spells Ends item = (x : X) (us after : List Token) → Spells x us → Ends after
    → item (us ++ after) ≡ Some (x, after)

-- A comma may follow.
abbrev pub AllowsComma : (List Token → Type 0) → Type 0
AllowsComma Ends = (comma : Token) (others : List Token) → comma.kind ≡ k.Comma → Ends (comma ∷ others)

listed-within : {X : Type 0} (Spells : X → List Token → Type 0) (Ends : List Token → Type 0)
    (item : List Token → Reads X) (xs : List X) (us after : List Token) (n : ℕ) → SpellsListed Spells xs us
    → IsComplete Spells Ends item → AllowsComma Ends → Ends after → begins fixed.Comma after ≡ false → length us < n
    → listed_within item n (us ++ after) ≡ Some (xs, after)
listed-within Spells Ends item _ us after zero spells complete comma ends last enough = absurd (omega arith)
listed-within Spells Ends item _ _ after (suc n) (SpellsListed.last x us spells) complete comma ends last enough =
    step _ (x, after) (complete x us after spells ends)
    (ap (λ behind. listed_by x after behind (listed_within item n)) (behind_sign-none fixed.Comma after last))
listed-within Spells Ends item _ _ after (suc n) (SpellsListed.more x others first us vs is spells spells_others)
    complete comma
    ends last enough =
    rw (append_assoc us (first ∷ vs) after)
    (step _ (x, first ∷ vs ++ after) (complete x us (first ∷ vs ++ after) spells (comma first (vs ++ after) is))
    (ap (λ behind. listed_by x (first ∷ vs ++ after) behind (listed_within item n))
    (behind_sign-here fixed.Comma first (vs ++ after) is)
    ∙ step (λ y. Some (x ∷ y.0, y.1)) (others, after)
    (listed-within Spells Ends item others vs after n spells_others complete comma ends last
    (omega (arith, length-append us (first ∷ vs)))) refl))

pub listed-complete : {X : Type 0} (Spells : X → List Token → Type 0) (Ends : List Token → Type 0)
    (item : List Token → Reads X) (xs : List X) (us after : List Token) → SpellsListed Spells xs us
    → IsComplete Spells Ends item → AllowsComma Ends → Ends after → begins fixed.Comma after ≡ false
    → listed_at item (us ++ after) ≡ Some (xs, after)
unfolding listed_at
listed-complete Spells Ends item xs us after spells complete comma ends last =
    listed-within Spells Ends item xs us after (suc (length (us ++ after))) spells complete comma ends last
    (omega (arith, length-append us after))

-- ---- declarations

shallow-listed : (room : ℕ) (declarators : List RawDeclared) (us : List Token)
    → SpellsListed SpellsDeclarator declarators us → declarators_depth declarators ≤ room
    → SpellsListed (SpellsShallowDeclarator room) declarators us
shallow-listed room _ us (SpellsListed.last x vs spells) low = SpellsListed.last x vs (spells, omega (arith, low))
shallow-listed room _ us (SpellsListed.more x others comma vs ws is spells spells_others) low =
    SpellsListed.more x others comma vs ws is (spells, omega (arith, low))
    (shallow-listed room others ws spells_others (omega (arith, low)))

declarators-comma : AllowsComma EndsDeclarator
declarators-comma comma others is = record {
  no_sign = kind-not fixed.Assign comma k.Comma is refl;
  ends = ends-at k.Comma comma others is refl (λ asks. cc);
}

declarator-first : (declared : RawDeclared) (us : List Token) → SpellsDeclarator declared us → FirstIs starts_name us
declarator-first _ _ (SpellsDeclarator.declarator var value us vs spells_name spells) =
    FirstIs-append starts_name us vs (name-first var us spells_name)

pub declaration-complete : (s : Statement) (us : List Token) (semicolon : Token) (after : List Token) (room : ℕ)
    → SpellsDeclaration s us → semicolon.kind ≡ k.Semicolon → statements_depth (s tree.Nil) ≤ room
    → declaration_at room (us ++ semicolon ∷ after) ≡ Some (s, semicolon ∷ after)
unfolding declaration_at
declaration-complete _ _ semicolon after zero (SpellsDeclaration.declaration declarators us vs type spells) is low =
    absurd (omega (arith, low))
declaration-complete _ _ semicolon after (suc room) (SpellsDeclaration.declaration declarators us vs type spells) is low =
    rw (append_assoc us vs (semicolon ∷ after))
    (step _ (vs ++ semicolon ∷ after) (type-before-name us (vs ++ semicolon ∷ after) type
    (FirstIs-append starts_name vs (semicolon ∷ after)
    (listed-first starts_name SpellsDeclarator declarators vs declarator-first spells)))
    (step _ (declarators, semicolon ∷ after)
    (listed-complete (SpellsShallowDeclarator room) EndsDeclarator (declarator_at room) declarators vs (semicolon ∷ after)
    (shallow-listed room declarators vs spells (omega (arith, low)))
    (λ x ws others shallow ends. declarator-complete room x ws others shallow.0 shallow.1 ends) declarators-comma
    (record {
      no_sign = kind-not fixed.Assign semicolon k.Semicolon is refl;
      ends = ends-at k.Semicolon semicolon after is refl (λ asks. cc);
    }) (kind-not fixed.Comma semicolon k.Semicolon is refl)) refl))

-- ---- parameters

parameter-complete : (var : Var) (us after : List Token) → SpellsParameter var us
    → parameter_at (us ++ after) ≡ Some (var, after)
unfolding parameter_at
parameter-complete var _ after (SpellsParameter.parameter _ us vs type spells_name) =
    rw (append_assoc us vs after) (step name_at (vs ++ after)
    (type-before-name us (vs ++ after) type (FirstIs-append starts_name vs after (name-first var vs spells_name)))
    (name-complete var vs after spells_name))

parameter-first : (var : Var) (us : List Token) → SpellsParameter var us → FirstIs starts_type us
parameter-first var _ (SpellsParameter.parameter _ us vs type spells_name) = FirstIs-append starts_type us vs
    (type-first us type)

pub parameters-complete : (vars : List Var) (us : List Token) (closing : Token) (after : List Token)
    → SpellsParameters vars us → closing.kind ≡ k.CloseRound → parameters_at (us ++ closing ∷ after) ≡ Some (vars, after)
unfolding parameters_at
parameters-complete _ _ closing after SpellsParameters.nothing is =
    rw (kind-not fixed.Void closing k.CloseRound is refl, test-from_HasSign fixed.CloseRound closing.kind is) refl
parameters-complete _ _ closing after (SpellsParameters.void word void) is =
    rw (test-from_HasSign fixed.Void word.kind void, test-from_HasSign fixed.CloseRound closing.kind is) refl
parameters-complete vars us closing after (SpellsParameters.listed _ _ spells) is =
    let tokens = us ++ closing ∷ after in
    let first : FirstIs starts_type tokens = FirstIs-append starts_type us (closing ∷ after)
    (listed-first starts_type SpellsParameter vars us parameter-first spells) in
    let none : behind_sign fixed.CloseRound (skipped fixed.Void tokens) ≡ None =
    ap (behind_sign fixed.CloseRound) (skipped-not fixed.Void tokens (begins-not starts_type fixed.Void tokens
    type-no_void first))
    ∙ behind_sign-not starts_type fixed.CloseRound tokens type-no_bracket first in
    ap (λ behind. parameters_by behind tokens) none
    ∙ step _ (vars, closing ∷ after) (listed-complete SpellsParameter (λ l. Unit {0}) parameter_at vars us
    (closing ∷ after) spells
    (λ x ws others parameter ends. parameter-complete x ws others parameter) (λ comma others a. tt) tt
    (kind-not fixed.Comma closing k.CloseRound is refl))
    (step _ after (behind_sign-here fixed.CloseRound closing after is) refl)
