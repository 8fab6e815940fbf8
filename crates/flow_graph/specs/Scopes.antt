-- The variables in scope at each mark, as one walk over the statements notes them (ISO C11, 6.2.1).
use Rattle.std.specs.Prelude.{◌≡◌, ◌⊎◌, ℕ, if◌then◌else◌, nat_lt, ◌==◌, List, [], ◌∷◌, All, Option, Some, None}
use Rattle.std.specs.Ordering.{nat_cmp}
use Rattle.std.specs.BTreeMap.{insert_entry}
use Rattle.c_ast.specs.declared.place.Place.TheVariants as place
use Rattle.c_ast.specs.Tree as tree
use Rattle.c_ast.specs.Tree.{Statements, Program}
use Rattle.c_ast.specs.Scope.{IsPlace, AreInScope}

-- Marks by rising number, each with the variables in scope there.
abbrev pub Scopes : Type 0
Scopes = List (ℕ × List ℕ)

-- The variables by rising number, with one more or with one of themselves.
abbrev pub with_declared : ℕ → List ℕ → List ℕ
with_declared x [] = x ∷ []
with_declared x (first ∷ others) =
    if nat_lt first x then first ∷ with_declared x others
    else if first == x then first ∷ others else x ∷ first ∷ others

-- With the mark, where there is one.
abbrev pub with_own : Option ℕ → List ℕ → Scopes → Scopes
with_own None in_scope scopes = scopes
with_own (Some mark) in_scope scopes = insert_entry nat_cmp scopes mark in_scope

-- With the marks of the statements, which stand where these variables are in scope. A variable that is set is in scope
-- to the end of its list.
abbrev pub noted : Statements → List ℕ → Scopes → Scopes
noted tree.Nil in_scope scopes = scopes
noted (tree.Set x e others) in_scope scopes = noted others (with_declared x in_scope) scopes
noted (tree.If e a b others) in_scope scopes = noted others in_scope (noted b in_scope (noted a in_scope scopes))
noted (tree.Loop own e body step test_first others) in_scope scopes =
    noted others in_scope (noted step in_scope (noted body in_scope (with_own own in_scope scopes)))
noted (tree.Break others) in_scope scopes = noted others in_scope scopes
noted (tree.Continue others) in_scope scopes = noted others in_scope scopes
noted (tree.Return e others) in_scope scopes = noted others in_scope scopes
noted (tree.Mark mark others) in_scope scopes = noted others in_scope (with_own (Some mark) in_scope scopes)
noted (tree.Block a others) in_scope scopes = noted others in_scope (noted a in_scope scopes)

-- A statement takes the variables in scope and what is noted to what they are behind it.
pub record Notes (front : Statements → Statements) (before : List ℕ) (old : Scopes) (behind : List ℕ) (new : Scopes)
    : Type 0 where
  pub by : (others : Statements) → noted (front others) before old ≡ noted others behind new

-- The mark is noted.
abbrev pub HasScope : ℕ → Scopes → Type 0
HasScope mark [] = ⊥
HasScope mark (scope ∷ scopes) = (scope.0 ≡ mark) ⊎ HasScope mark scopes

-- The function's marks are noted and no others, each with the variables in scope there.
pub record AreScopes (f : Program) (scopes : Scopes) : Type 0 where
  pub each : (mark : ℕ) → IsPlace f (place.Mark mark) → HasScope mark scopes
  pub only : All (λ scope. IsPlace f (place.Mark scope.0) × AreInScope f (place.Mark scope.0) scope.1) scopes
