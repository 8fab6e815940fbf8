-- Which tokens spell a declaration (ISO C11, 6.7) and the parameters of a function (6.7.6.3), in this profile.
use Rattle.std.specs.Prelude.{◌≡◌, ℕ, List, [], ◌∷◌, ◌++◌, Option, Some, None}
use Rattle.c_ast.specs.declared.func.Var.{Var}
use Rattle.c_ast.specs.RawTree as tree
use Rattle.c_ast.specs.RawTree.{RawExpression, RawDeclared, RawStatements}
use Rattle.c_tokens.specs.declared.kind.Kind.TheVariants as k
use Rattle.c_tokens.specs.declared.token.Token.{Token}
use Rattle.c_reader.specs.Expressions.{SpellsExpression}

-- A statement or a declaration is seen as what it puts in front of the others of its list, since the trees of a list
-- are one tree. So `break;` on line 3 is the function `tree.Break 3`, and `{ break; continue; }` on that line holds the
-- statements `tree.Break 3 (tree.Continue 3 tree.Nil)`.
abbrev pub Statement : Type 0
Statement = RawStatements → RawStatements

-- The tokens spell these things one after the other, with a comma between two.
pub data SpellsListed {X : Type 0} (Spells : X → List Token → Type 0) : List X → List Token → Type 0 where
  last : (x : X) (tokens : List Token) → Spells x tokens → SpellsListed Spells (x ∷ []) tokens
  more : (x : X) (others : List X) (comma : Token) (before behind : List Token) → comma.kind ≡ k.Comma
      → Spells x before → SpellsListed Spells others behind
      → SpellsListed Spells (x ∷ others) (before ++ comma ∷ behind)

-- The tokens spell the thing, or there are none where it is left out.
pub data SpellsOptional {X : Type 0} (Spells : X → List Token → Type 0) : Option X → List Token → Type 0 where
  nothing : SpellsOptional Spells None []
  something : (x : X) (tokens : List Token) → Spells x tokens → SpellsOptional Spells (Some x) tokens

-- The tokens spell a type (6.7.2).
pub data SpellsType : List Token → Type 0 where
  int : (first : Token) → first.kind ≡ k.Int → SpellsType (first ∷ [])
  long : (first : Token) → first.kind ≡ k.Long → SpellsType (first ∷ [])
  long_int : (first second : Token) → first.kind ≡ k.Long → second.kind ≡ k.Int → SpellsType (first ∷ second ∷ [])
  long_long : (first second : Token) → first.kind ≡ k.Long → second.kind ≡ k.Long → SpellsType (first ∷ second ∷ [])
  long_long_int : (first second third : Token) → first.kind ≡ k.Long → second.kind ≡ k.Long → third.kind ≡ k.Int
      → SpellsType (first ∷ second ∷ third ∷ [])

-- The tokens spell a name, with its line (6.4.2).
pub data SpellsName : Var → List Token → Type 0 where
  name : (name : List ℕ) (word : Token) → word.kind ≡ k.Word name
      → SpellsName (record { name = name; line = word.line }) (word ∷ [])

-- `=` stands before an initialiser (6.7.9).
pub data SpellsInitialiser : RawExpression → List Token → Type 0 where
  initialiser : (e : RawExpression) (sign : Token) (value : List Token) → sign.kind ≡ k.Assign
      → SpellsExpression e value → SpellsInitialiser e (sign ∷ value)

-- The tokens spell a declarator (6.7.6): a name, and its initialiser, if it has one.
pub data SpellsDeclarator : RawDeclared → List Token → Type 0 where
  declarator : (var : Var) (value : Option RawExpression) (name behind : List Token) → SpellsName var name
      → SpellsOptional SpellsInitialiser value behind
      → SpellsDeclarator (record { var = var; initialiser = value }) (name ++ behind)

-- The tokens spell a declaration, without the `;` behind it (6.7).
pub data SpellsDeclaration : Statement → List Token → Type 0 where
  declaration : (declarators : List RawDeclared) (type behind : List Token) → SpellsType type
      → SpellsListed SpellsDeclarator declarators behind
      → SpellsDeclaration (tree.Declare declarators) (type ++ behind)

-- The tokens spell a parameter: a type and a name.
pub data SpellsParameter : Var → List Token → Type 0 where
  parameter : (var : Var) (type name : List Token) → SpellsType type → SpellsName var name
      → SpellsParameter var (type ++ name)

-- The tokens spell all parameters: none, `void`, or parameters with commas between them.
pub data SpellsParameters : List Var → List Token → Type 0 where
  nothing : SpellsParameters [] []
  void : (word : Token) → word.kind ≡ k.Void → SpellsParameters [] (word ∷ [])
  listed : (vars : List Var) (tokens : List Token) → SpellsListed SpellsParameter vars tokens
      → SpellsParameters vars tokens
