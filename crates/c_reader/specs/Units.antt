-- Which tokens spell a file of functions (ISO C11, 6.9), in this profile.
use Rattle.std.specs.Prelude.{◌≡◌, ◌⊎◌, List, [], ◌∷◌, ◌++◌, Option}
use Rattle.c_ast.specs.declared.func.Var.{Var}
use Rattle.c_ast.specs.RawTree.{RawFunction}
use Rattle.c_ast.specs.RawView.{raw_joined}
use Rattle.c_tokens.specs.declared.kind.Kind.TheVariants as k
use Rattle.c_tokens.specs.declared.token.Token.{Token}
use Rattle.c_reader.specs.Declarations.{Statement, SpellsOptional, SpellsType, SpellsName, SpellsParameters}
use Rattle.c_reader.specs.Statements.{SpellsEntries}

-- Each token is `extern` or `static` (6.7.1).
abbrev pub AreQualifiers : List Token → Type 0
AreQualifiers [] = Unit {0}
AreQualifiers (first ∷ others) = ((first.kind ≡ k.Extern) ⊎ (first.kind ≡ k.Static)) × AreQualifiers others

-- The tokens spell a function definition (6.9.1).
pub data SpellsFunction : RawFunction → List Token → Type 0 where
  function : (var : Var) (params : List Var) (entries : List Statement)
      (opening closing opening_curly closing_curly : Token) (qualifiers type name parameters inside : List Token)
      → opening.kind ≡ k.OpenRound → closing.kind ≡ k.CloseRound → opening_curly.kind ≡ k.OpenCurly
      → closing_curly.kind ≡ k.CloseCurly → AreQualifiers qualifiers → SpellsType type → SpellsName var name
      → SpellsParameters params parameters → SpellsEntries entries inside
      → SpellsFunction (record { name = var.name; line = var.line; params = params; body = raw_joined entries })
      (qualifiers ++ (type
      ++ (name ++ opening ∷ (parameters ++ closing ∷ opening_curly ∷ (inside ++ closing_curly ∷ [])))))

-- The tokens spell a declaration of `__mark`, whose parameter may have a name (6.7.6.3).
pub data SpellsMarkDeclaration : List Token → Type 0 where
  mark_declaration : (var : Option Var) (word opening closing semicolon : Token)
      (qualifiers type parameter_type name : List Token)
      → word.kind ≡ k.MarkWord → opening.kind ≡ k.OpenRound → closing.kind ≡ k.CloseRound
      → semicolon.kind ≡ k.Semicolon → AreQualifiers qualifiers → SpellsType type → SpellsType parameter_type
      → SpellsOptional SpellsName var name
      → SpellsMarkDeclaration
      (qualifiers ++ (type ++ word ∷ opening ∷ (parameter_type ++ (name ++ closing ∷ semicolon ∷ []))))

-- The tokens spell the functions of a file, in its order. A declaration of `__mark` leaves nothing in the tree.
pub data SpellsUnit : List Token → List RawFunction → Type 0 where
  none : SpellsUnit [] []
  function : (func : RawFunction) (others : List RawFunction) (item behind : List Token) → SpellsFunction func item
      → SpellsUnit behind others → SpellsUnit (item ++ behind) (func ∷ others)
  mark_declaration : (others : List RawFunction) (item behind : List Token) → SpellsMarkDeclaration item
      → SpellsUnit behind others → SpellsUnit (item ++ behind) others

-- Two files that one list of tokens spells are equal.
abbrev pub HasOneTree : Type 0
HasOneTree =
    (tokens : List Token) (first second : List RawFunction) → SpellsUnit tokens first → SpellsUnit tokens second
    → first ≡ second
