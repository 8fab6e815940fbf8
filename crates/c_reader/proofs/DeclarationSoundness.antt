-- What is read as a declaration is spelled so.
use Rattle.std.proofs.Common.{◌≡◌, ℕ, zero, suc, ◌≤◌, Bool, true, false, List, [], ◌∷◌, ◌++◌, length, Option, Some, None, refl, sym, ap, subst, ◌∙◌, append_assoc, inl, inr, ◌⊎◌, arith}
use Rattle.c_ast.specs.declared.func.Var.{Var}
use Rattle.c_ast.specs.RawTree as tree
use Rattle.c_ast.specs.RawTree.{RawExpression, RawDeclared}
use Rattle.c_tokens.specs.declared.kind.Kind.{Kind}
use Rattle.c_tokens.specs.declared.kind.Kind.TheVariants as k
use Rattle.c_tokens.specs.declared.token.Token.{Token}
use Rattle.c_tokens.specs.declared.fixed.Fixed.{Fixed}
use Rattle.c_tokens.specs.declared.fixed.Fixed.TheVariants as fixed
use Rattle.c_reader.specs.Expressions.{SpellsExpression, expression_depth}
use Rattle.c_reader.specs.Declarations as spelled
use Rattle.c_reader.specs.Declarations.{Statement, SpellsType, SpellsName, SpellsListed, SpellsOptional}
use Rattle.c_tokens.specs.Fixed.{is_kind_of}
use Rattle.c_reader.specs.Fronts.{behind_sign, begins, skipped}
use Rattle.c_reader.specs.ReadDeclarations.{Reads, name_by, name_at, behind_type, shallow_at, declarator_at, declaration_at, parameter_at, parameters_by, parameters_at, optional, unless, listed_by, listed_within, listed_at}
use Rattle.c_reader.proofs.Reading.{stepped, behind_sign-found, SignFirst, HasSign, HasSign-from_test, Front, IsSound, given, in_front, append_parts}
use Rattle.c_reader.proofs.Shallow.{shallow-sound}
use Rattle.c_reader.specs.Depth.{optional_depth, declarators_depth, statements_depth}

named : (first : Token) (others : List Token) (kind : Kind) (read : Var × List Token) → first.kind ≡ kind
    → name_by kind first.line others ≡ Some read → Front SpellsName (first ∷ others) read.0 read.1
named first others (k.Word name) read is found =
    subst (λ (r : Var × List Token). Front SpellsName (first ∷ others) r.0 r.1) (given found)
    (record { front = first ∷ []; parts = refl; spells = spelled.SpellsName.name name first is })
named first others _ read is found = absurd cc

pub name_at-sound : IsSound SpellsName name_at
name_at-sound [] read found = absurd cc
name_at-sound (first ∷ others) read found = named first others first.kind read refl found

-- ---- types

-- The tokens begin with a type, and these follow.
pub record TypeFirst (tokens after : List Token) : Type 0 where
  pub front : List Token
  pub parts : tokens ≡ front ++ after
  pub spells : SpellsType front

skip-by : (s : Fixed) (first : Token) (others : List Token) (test : Bool) → is_kind_of s first.kind ≡ test
    → SignFirst s (first ∷ others) (skipped s (first ∷ others)) ⊎ (skipped s (first ∷ others) ≡ first ∷ others)
skip-by s first others true is =
    inl (record { token = first; parts = ap (λ l. first ∷ l) (rw is refl); has = HasSign-from_test s first.kind is })
skip-by s first others false is = inr (rw is refl)

skip : (s : Fixed) (tokens : List Token) → SignFirst s tokens (skipped s tokens) ⊎ (skipped s tokens ≡ tokens)
skip s [] = inr refl
skip s (first ∷ others) = skip-by s first others (is_kind_of s first.kind) refl

int-skipped : (first second : Token) (tokens after : List Token) → first.kind ≡ k.Long → second.kind ≡ k.Long
    → SignFirst fixed.Int tokens after ⊎ (after ≡ tokens) → TypeFirst (first ∷ second ∷ tokens) after
int-skipped first second tokens after long again (inl third) = record {
  front = first ∷ second ∷ third.token ∷ [];
  parts = ap (λ (l : List Token). first ∷ second ∷ l) third.parts;
  spells = spelled.SpellsType.long_long_int first second third.token long again third.has;
}
int-skipped first second tokens after long again (inr same) = record {
  front = first ∷ second ∷ [];
  parts = ap (λ (l : List Token). first ∷ second ∷ l) (sym same);
  spells = spelled.SpellsType.long_long first second long again;
}

int-behind : (first : Token) (tokens after : List Token) → first.kind ≡ k.Long
    → SignFirst fixed.Int tokens after ⊎ (after ≡ tokens) → TypeFirst (first ∷ tokens) after
int-behind first tokens after long (inl second) = record {
  front = first ∷ second.token ∷ [];
  parts = ap (λ (l : List Token). first ∷ l) second.parts;
  spells = spelled.SpellsType.long_int first second.token long second.has;
}
int-behind first tokens after long (inr same) = record {
  front = first ∷ [];
  parts = ap (λ (l : List Token). first ∷ l) (sym same);
  spells = spelled.SpellsType.long first long;
}

long-behind : (first : Token) (tokens : List Token) → first.kind ≡ k.Long
    → SignFirst fixed.Long tokens (skipped fixed.Long tokens) ⊎ (skipped fixed.Long tokens ≡ tokens)
    → TypeFirst (first ∷ tokens) (skipped fixed.Int (skipped fixed.Long tokens))
long-behind first tokens long (inl second) =
    subst (λ (l : List Token). TypeFirst (first ∷ l) (skipped fixed.Int (skipped fixed.Long tokens))) (sym second.parts)
    (int-skipped first second.token (skipped fixed.Long tokens) (skipped fixed.Int (skipped fixed.Long tokens)) long
    second.has (skip fixed.Int (skipped fixed.Long tokens)))
long-behind first tokens long (inr same) =
    subst (λ (l : List Token). TypeFirst (first ∷ tokens) (skipped fixed.Int l)) (sym same)
    (int-behind first tokens (skipped fixed.Int tokens) long (skip fixed.Int tokens))

typed-by : (tokens after : List Token) (test : Bool) → begins fixed.Int tokens ≡ test → behind_type tokens ≡ Some after
    → TypeFirst tokens after
unfolding behind_type
typed-by tokens after true int found =
    let first = behind_sign-found fixed.Int tokens after (rw int at found) in
    record { front = first.token ∷ []; parts = first.parts; spells = spelled.SpellsType.int first.token first.has }
typed-by tokens after false int found =
    let long = stepped (behind_sign fixed.Long tokens) _ _ (rw int at found) in
    let first = behind_sign-found fixed.Long tokens long.0 long.1 in
    subst (λ (l : List Token). TypeFirst l after) (sym first.parts)
    (subst (λ (l : List Token). TypeFirst (first.token ∷ long.0) l) (given long.2)
    (long-behind first.token long.0 first.has (skip fixed.Long long.0)))

pub behind_type-sound : (tokens after : List Token) → behind_type tokens ≡ Some after → TypeFirst tokens after
behind_type-sound tokens after found = typed-by tokens after (begins fixed.Int tokens) refl found

-- ---- lists and parts that may be left out

optional-by : {X : Type 0} (Spells Whole : X → List Token → Type 0) (s : Fixed) (item : List Token → Reads X)
    (tokens : List Token) (behind : Option (List Token)) (read : Option X × List Token) → IsSound Spells item
    → ((x : X) (token : Token) (us : List Token) → HasSign s token.kind → Spells x us → Whole x (token ∷ us))
    → behind_sign s tokens ≡ behind → optional behind tokens item ≡ Some read
    → Front (SpellsOptional Whole) tokens read.0 read.1
optional-by Spells Whole s item tokens None read sound make is found =
    subst (λ r. Front (SpellsOptional Whole) tokens r.0 r.1) (given found)
    (record { front = []; parts = refl; spells = spelled.SpellsOptional.nothing })
optional-by Spells Whole s item tokens (Some others) read sound make is found =
    let x = stepped (item others) _ read found in
    let first = behind_sign-found s tokens others is in
    let at = sound others x.0 x.1 in
    subst (λ r. Front (SpellsOptional Whole) tokens r.0 r.1) (given x.2) (in_front Spells
    (SpellsOptional Whole) x.0.0 (Some x.0.0) s tokens others x.0.1 first at
    (λ token us has spells. spelled.SpellsOptional.something x.0.0 (token ∷ us) (make x.0.0 token us has spells)))

-- what stands behind a sign, if the sign stands there
pub optional-sound : {X : Type 0} (Spells Whole : X → List Token → Type 0) (s : Fixed) (item : List Token → Reads X)
    → IsSound Spells item
    → ((x : X) (token : Token) (us : List Token) → HasSign s token.kind → Spells x us → Whole x (token ∷ us))
    → IsSound (SpellsOptional Whole) (λ tokens. optional (behind_sign s tokens) tokens item)
optional-sound Spells Whole s item sound make tokens read found =
    optional-by Spells Whole s item tokens (behind_sign s tokens) read sound make refl found

unless-by : {X : Type 0} (Spells : X → List Token → Type 0) (item : List Token → Reads X) (tokens : List Token)
    (absent : Bool) (read : Option X × List Token) → IsSound Spells item → unless absent tokens item ≡ Some read
    → Front (SpellsOptional Spells) tokens read.0 read.1
unless-by Spells item tokens true read sound found =
    subst (λ r. Front (SpellsOptional Spells) tokens r.0 r.1) (given found)
    (record { front = []; parts = refl; spells = spelled.SpellsOptional.nothing })
unless-by Spells item tokens false read sound found =
    let x = stepped (item tokens) _ read found in
    let at = sound tokens x.0 x.1 in
    subst (λ r. Front (SpellsOptional Spells) tokens r.0 r.1) (given x.2)
    (record { front = at.front; parts = at.parts; spells = spelled.SpellsOptional.something x.0.0 at.front at.spells })

-- what stands first, unless a sign does
pub unless-sound : {X : Type 0} (Spells : X → List Token → Type 0) (s : Fixed) (item : List Token → Reads X)
    → IsSound Spells item → IsSound (SpellsOptional Spells) (λ tokens. unless (begins s tokens) tokens item)
unless-sound Spells s item sound tokens read found =
    unless-by Spells item tokens (begins s tokens) read sound found

listed-by : {X : Type 0} (Spells : X → List Token → Type 0) (tokens others : List Token) (x : X)
    (behind : Option (List Token)) (more : List Token → Reads (List X)) (read : List X × List Token)
    → Front Spells tokens x others → IsSound (SpellsListed Spells) more → behind_sign fixed.Comma others ≡ behind
    → listed_by x others behind more ≡ Some read → Front (SpellsListed Spells) tokens read.0 read.1
listed-by Spells tokens others x None more read at sound is found =
    subst (λ r. Front (SpellsListed Spells) tokens r.0 r.1) (given found)
    (record { front = at.front; parts = at.parts; spells = spelled.SpellsListed.last x at.front at.spells })
listed-by Spells tokens others x (Some behind_comma) more read at sound is found =
    let xs = stepped (more behind_comma) _ read found in
    let comma = behind_sign-found fixed.Comma others behind_comma is in
    let on = sound behind_comma xs.0 xs.1 in
    subst (λ r. Front (SpellsListed Spells) tokens r.0 r.1) (given xs.2)
    (record {
      front = at.front ++ comma.token ∷ on.front;
      parts = at.parts ∙ ap (λ l. at.front ++ l) (comma.parts ∙ ap (λ l. comma.token ∷ l) on.parts)
          ∙ sym (append_assoc at.front (comma.token ∷ on.front) xs.0.1);
      spells = spelled.SpellsListed.more x xs.0.0 comma.token at.front on.front comma.has at.spells on.spells;
    })

listed_within-sound : {X : Type 0} (Spells : X → List Token → Type 0) (item : List Token → Reads X) (n : ℕ)
    → IsSound Spells item → IsSound (SpellsListed Spells) (listed_within item n)
listed_within-sound Spells item zero sound tokens read found = absurd cc
listed_within-sound Spells item (suc n) sound tokens read found =
    let x = stepped (item tokens) _ read found in
    listed-by Spells tokens x.0.1 x.0.0 (behind_sign fixed.Comma x.0.1) (listed_within item n) read
    (sound tokens x.0 x.1) (listed_within-sound Spells item n sound) refl x.2

pub listed_at-sound : {X : Type 0} (Spells : X → List Token → Type 0) (item : List Token → Reads X)
    → IsSound Spells item → IsSound (SpellsListed Spells) (listed_at item)
unfolding listed_at
listed_at-sound Spells item sound tokens read found =
    listed_within-sound Spells item (suc (length tokens)) sound tokens read found

-- ---- declarations

-- The tokens spell the expression, and it is shallow.
abbrev pub SpellsShallow : ℕ → RawExpression → List Token → Type 0
SpellsShallow room e us = SpellsExpression e us × (expression_depth e ≤ room)

pub shallow_at-sound : (room : ℕ) → IsSound (SpellsShallow room) (shallow_at room)
shallow_at-sound room tokens read found =
    let value = shallow-sound room tokens read found in
    record { front = value.at.front; parts = value.at.parts; spells = (value.at.spells, value.within) }

-- The tokens spell the initialiser, and it is shallow.
abbrev SpellsShallowInitialiser : ℕ → RawExpression → List Token → Type 0
SpellsShallowInitialiser room e us = spelled.SpellsInitialiser e us × (expression_depth e ≤ room)

initialiser-split : (room : ℕ) (value : Option RawExpression) (us : List Token)
    → SpellsOptional (SpellsShallowInitialiser room) value us
    → SpellsOptional spelled.SpellsInitialiser value us × (optional_depth value ≤ room)
initialiser-split room value us spelled.SpellsOptional.nothing = (spelled.SpellsOptional.nothing, omega arith)
initialiser-split room value us (spelled.SpellsOptional.something x vs spells) =
    (spelled.SpellsOptional.something x vs spells.0, spells.1)

-- The tokens spell the declarator, and its initialiser is shallow.
abbrev pub SpellsShallowDeclarator : ℕ → RawDeclared → List Token → Type 0
SpellsShallowDeclarator room declared us =
    spelled.SpellsDeclarator declared us × (optional_depth declared.initialiser ≤ room)

pub declarator_at-sound : (room : ℕ) → IsSound (SpellsShallowDeclarator room) (declarator_at room)
unfolding declarator_at
declarator_at-sound room tokens read found =
    let x = stepped (name_at tokens) _ read found in
    let y = stepped (optional (behind_sign fixed.Assign x.0.1) x.0.1 (shallow_at room)) _ read x.2 in
    let name = name_at-sound tokens x.0 x.1 in
    let value = optional-sound (SpellsShallow room) (SpellsShallowInitialiser room) fixed.Assign (shallow_at room)
    (shallow_at-sound room)
    (λ e token us has spells. (spelled.SpellsInitialiser.initialiser e token us has spells.0, spells.1)) x.0.1 y.0 y.1 in
    let both = initialiser-split room y.0.0 value.front value.spells in
    subst (λ r. Front (SpellsShallowDeclarator room) tokens r.0 r.1) (given y.2) (record {
      front = name.front ++ value.front;
      parts = append_parts name.front value.front y.0.1 tokens x.0.1 name.parts value.parts;
      spells = (spelled.SpellsDeclarator.declarator x.0.0 y.0.0 name.front value.front name.spells both.0, both.1);
    })

declarators-split : (room : ℕ) (declarators : List RawDeclared) (us : List Token)
    → SpellsListed (SpellsShallowDeclarator room) declarators us
    → SpellsListed spelled.SpellsDeclarator declarators us × (declarators_depth declarators ≤ room)
declarators-split room _ us (spelled.SpellsListed.last x vs spells) =
    (spelled.SpellsListed.last x vs spells.0, omega (arith, spells.1))
declarators-split room _ us (spelled.SpellsListed.more x others comma vs ws is spells spells_others) =
    let both = declarators-split room others ws spells_others in
    (spelled.SpellsListed.more x others comma vs ws is spells.0 both.0, omega (arith, spells.1, both.1))

-- The tokens spell the statement, and its depth is at most this.
abbrev pub SpellsWithin : (Statement → List Token → Type 0) → ℕ → Statement → List Token → Type 0
SpellsWithin Spells room s us = Spells s us × (statements_depth (s tree.Nil) ≤ room)

pub declaration_at-sound : (room : ℕ) → IsSound (SpellsWithin spelled.SpellsDeclaration room) (declaration_at room)
unfolding declaration_at
declaration_at-sound zero tokens read found = absurd cc
declaration_at-sound (suc room) tokens read found =
    let others = stepped (behind_type tokens) _ read found in
    let x = stepped (listed_at (declarator_at room) others.0) _ read others.2 in
    let type = behind_type-sound tokens others.0 others.1 in
    let listed = listed_at-sound (SpellsShallowDeclarator room) (declarator_at room) (declarator_at-sound room)
    others.0 x.0 x.1 in
    let both = declarators-split room x.0.0 listed.front listed.spells in
    subst (λ r. Front (SpellsWithin spelled.SpellsDeclaration (suc room)) tokens r.0 r.1) (given x.2) (record {
      front = type.front ++ listed.front;
      parts = append_parts type.front listed.front x.0.1 tokens others.0 type.parts listed.parts;
      spells = (
        spelled.SpellsDeclaration.declaration x.0.0 type.front listed.front type.spells both.0,
        omega (arith, both.1),
      );
    })

-- ---- parameters

pub parameter_at-sound : IsSound spelled.SpellsParameter parameter_at
unfolding parameter_at
parameter_at-sound tokens read found =
    let others = stepped (behind_type tokens) _ read found in
    let type = behind_type-sound tokens others.0 others.1 in
    let name = name_at-sound others.0 read others.2 in
    record {
      front = type.front ++ name.front;
      parts = append_parts type.front name.front read.1 tokens others.0 type.parts name.parts;
      spells = spelled.SpellsParameter.parameter read.0 type.front name.front type.spells name.spells;
    }

-- The parameters and a closing parenthesis stand at the front, and these follow.
pub record ParametersFirst (tokens : List Token) (vars : List Var) (after : List Token) : Type 0 where
  pub front : List Token
  pub closing : Token
  pub parts : tokens ≡ front ++ closing ∷ after
  pub has : closing.kind ≡ k.CloseRound
  pub spells : spelled.SpellsParameters vars front

no-parameters : (tokens after : List Token) → SignFirst fixed.CloseRound (skipped fixed.Void tokens) after
    → SignFirst fixed.Void tokens (skipped fixed.Void tokens) ⊎ (skipped fixed.Void tokens ≡ tokens)
    → ParametersFirst tokens [] after
no-parameters tokens after closing (inl word) = record {
  front = word.token ∷ [];
  closing = closing.token;
  parts = word.parts ∙ ap (λ (l : List Token). word.token ∷ l) closing.parts;
  has = closing.has;
  spells = spelled.SpellsParameters.void word.token word.has;
}
no-parameters tokens after closing (inr same) = record {
  front = [];
  closing = closing.token;
  parts = sym same ∙ closing.parts;
  has = closing.has;
  spells = spelled.SpellsParameters.nothing;
}

parameters-by : (tokens : List Token) (behind : Option (List Token)) (read : List Var × List Token)
    → behind_sign fixed.CloseRound (skipped fixed.Void tokens) ≡ behind → parameters_by behind tokens ≡ Some read
    → ParametersFirst tokens read.0 read.1
parameters-by tokens None read is found =
    let x = stepped (listed_at parameter_at tokens) _ read found in
    let others = stepped (behind_sign fixed.CloseRound x.0.1) _ read x.2 in
    let closing = behind_sign-found fixed.CloseRound x.0.1 others.0 others.1 in
    let listed = listed_at-sound spelled.SpellsParameter parameter_at parameter_at-sound tokens x.0 x.1 in
    subst (λ r. ParametersFirst tokens r.0 r.1) (given others.2) (record {
      front = listed.front;
      closing = closing.token;
      parts = listed.parts ∙ ap (λ (l : List Token). listed.front ++ l) closing.parts;
      has = closing.has;
      spells = spelled.SpellsParameters.listed x.0.0 listed.front listed.spells;
    })
parameters-by tokens (Some others) read is found =
    subst (λ r. ParametersFirst tokens r.0 r.1) (given found)
    (no-parameters tokens others (behind_sign-found fixed.CloseRound (skipped fixed.Void tokens) others is)
    (skip fixed.Void tokens))

pub parameters_at-sound : (tokens : List Token) (read : List Var × List Token) → parameters_at tokens ≡ Some read
    → ParametersFirst tokens read.0 read.1
unfolding parameters_at
parameters_at-sound tokens read found =
    parameters-by tokens (behind_sign fixed.CloseRound (skipped fixed.Void tokens)) read refl found
