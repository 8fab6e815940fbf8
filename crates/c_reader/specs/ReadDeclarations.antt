-- Declarations and parameters at the front of tokens, by recursive descent. Only proofs and the contracts of private
-- functions cite these: `Declarations` says which tokens spell a declaration.
use Rattle.std.specs.Prelude.{ℕ, zero, suc, Bool, true, false, ◌||◌, nat_le, if◌then◌else◌, List, [], ◌∷◌, length, Option, Some, None}
use Rattle.c_ast.specs.declared.func.Var.{Var}
use Rattle.c_ast.specs.RawTree as tree
use Rattle.c_ast.specs.RawTree.{RawExpression, RawDeclared}
use Rattle.c_tokens.specs.declared.kind.Kind.{Kind}
use Rattle.c_tokens.specs.declared.kind.Kind.TheVariants as k
use Rattle.c_tokens.specs.declared.token.Token.{Token}
use Rattle.c_tokens.specs.declared.fixed.Fixed.TheVariants as fixed
use Rattle.c_reader.specs.Expressions.{expression_depth}
use Rattle.c_reader.specs.ReadExpressions.{◌>>=◌, expression_at}
use Rattle.c_reader.specs.Declarations.{Statement}
use Rattle.c_reader.specs.Fronts.{first_of, lowered, behind_sign, begins, skipped}

-- what is read as the first tokens, and the tokens behind it
abbrev pub Reads : Type 0 → Type 0
Reads X = Option (X × List Token)

-- the expression at the front, where its depth is at most `room`
unfoldable pub shallow_at : ℕ → List Token → Reads RawExpression
shallow_at room tokens = expression_at tokens >>= λ x. if nat_le (expression_depth x.0) room then Some x else None

-- what stands behind the sign, or nothing where the sign does not stand first
abbrev pub optional : {X : Type 0} → Option (List Token) → List Token → (List Token → Reads X) → Reads (Option X)
optional None tokens item = Some (None, tokens)
optional (Some others) tokens item = item others >>= λ x. Some (Some x.0, x.1)

-- what stands first, or nothing where the sign stands first
abbrev pub unless : {X : Type 0} → Bool → List Token → (List Token → Reads X) → Reads (Option X)
unless true tokens item = Some (None, tokens)
unless false tokens item = item tokens >>= λ x. Some (Some x.0, x.1)

-- the name of this kind of token, and the tokens behind it
abbrev pub name_by : Kind → ℕ → List Token → Reads Var
name_by (k.Word name) line others = Some (record { name = name; line = line }, others)
name_by _ line others = None

-- the name that stands first
abbrev pub name_at : List Token → Reads Var
name_at tokens = first_of tokens >>= λ x. name_by x.0.kind x.0.line x.1

-- whether a type stands first
abbrev pub begins_type : List Token → Bool
begins_type tokens = begins fixed.Int tokens || begins fixed.Long tokens

-- the tokens behind a type
unfoldable pub behind_type : List Token → Option (List Token)
behind_type tokens =
    if begins fixed.Int tokens then behind_sign fixed.Int tokens
    else (behind_sign fixed.Long tokens >>= λ others. Some (skipped fixed.Int (skipped fixed.Long others)))

-- a thing and those behind a comma, if one follows
abbrev pub listed_by : {X : Type 0} → X → List Token → Option (List Token) → (List Token → Reads (List X))
    → Reads (List X)
listed_by first tokens None others = Some (first ∷ [], tokens)
listed_by first tokens (Some behind_comma) others = others behind_comma >>= λ x. Some (first ∷ x.0, x.1)

-- Things with a comma between two. The count is greater than the number of the tokens wherever it is told.
abbrev pub listed_within : {X : Type 0} → (List Token → Reads X) → ℕ → List Token → Reads (List X)
listed_within item zero tokens = None
listed_within item (suc n) tokens =
    item tokens >>= λ x. listed_by x.0 x.1 (behind_sign fixed.Comma x.1) (listed_within item n)

-- things with a comma between two, as many as stand at the front
unfoldable pub listed_at : {X : Type 0} → (List Token → Reads X) → List Token → Reads (List X)
listed_at item tokens = listed_within item (suc (length tokens)) tokens

-- a declarator, where its initialiser has at most this depth
unfoldable pub declarator_at : ℕ → List Token → Reads RawDeclared
declarator_at room tokens =
    name_at tokens >>= λ x. optional (behind_sign fixed.Assign x.1) x.1 (shallow_at room) >>= λ y.
    Some (record { var = x.0; initialiser = y.0 }, y.1)

-- a declaration, where its depth is at most this
unfoldable pub declaration_at : ℕ → List Token → Reads Statement
declaration_at room tokens =
    lowered room >>= λ inside. behind_type tokens >>= λ others.
    listed_at (declarator_at inside) others >>= λ x. Some (tree.Declare x.0, x.1)

-- a parameter
unfoldable pub parameter_at : List Token → Reads Var
parameter_at tokens = behind_type tokens >>= name_at

-- the parameters by the tokens behind a `)`, if it stands first or behind `void`
abbrev pub parameters_by : Option (List Token) → List Token → Reads (List Var)
parameters_by (Some others) tokens = Some ([], others)
parameters_by None tokens =
    listed_at parameter_at tokens >>= λ x. behind_sign fixed.CloseRound x.1 >>= λ others. Some (x.0, others)

-- the parameters, and the tokens behind the `)` that ends them
unfoldable pub parameters_at : List Token → Reads (List Var)
parameters_at tokens = parameters_by (behind_sign fixed.CloseRound (skipped fixed.Void tokens)) tokens
