-- What tokens spell has the shape that the grammar promises: no constant is negative, and the parts of a `for` head are
-- of their kinds.
use Rattle.std.proofs.Common.{◌≡◌, ℕ, suc, List, [], Option, Some, All, subst, arith}
use Rattle.std.proofs.lemmas.Int.{ints}
use Rattle.std.proofs.lemmas.List.Elements.{All-cons}
use Rattle.c_ast.specs.RawTree as tree
use Rattle.c_ast.specs.RawTree.{RawExpression, RawCondition, RawDeclared, RawStatements, RawFunction}
use Rattle.c_ast.specs.RawView.{raw_joined, raw_optional}
use Rattle.c_ast.specs.RawShape.{HasNaturalConstants, IsShapedDeclarator, IsForStep, IsForStart, IsShapedCondition, AreShaped, IsShaped}
use Rattle.c_tokens.specs.declared.token.Token.{Token}
use Rattle.c_reader.specs.Expressions as expr
use Rattle.c_reader.specs.Expressions.{SpellsAt}
use Rattle.c_reader.specs.Declarations as decl
use Rattle.c_reader.specs.Declarations.{Statement, SpellsListed, SpellsOptional, SpellsInitialiser, SpellsDeclarator, SpellsDeclaration}
use Rattle.c_reader.specs.Statements as stmt
use Rattle.c_reader.specs.Statements.{SpellsSimple, SpellsCondition, SpellsStart, SpellsStatement, SpellsEntries}
use Rattle.c_reader.specs.Units as unit
use Rattle.c_reader.specs.Units.{SpellsFunction, SpellsUnit}

-- ---- expressions

pub natural : (level : ℕ) (e : RawExpression) (us : List Token) → SpellsAt level e us → HasNaturalConstants e
natural level e us (expr.named name token is) = tt
natural level e us (expr.constant value token is below) = omega (arith, ints)
natural level e us (expr.bracketed opening closing _ inner opens closes spells) = natural 0 e inner spells
natural level e us (expr.signed op sign operand vs is spells) = natural 7 operand vs spells
natural level e us (expr.joined _ op sign left right vs ws is first second) = (natural level left vs first, natural (suc level) right ws second)
natural level e us (expr.chosen question colon cond left right vs ws xs asks parts test first second) =
    (natural 1 cond vs test, natural 0 left ws first, natural 0 right xs second)
natural level e us (expr.alone _ _ _ below spells) = natural (suc level) e us spells

-- ---- declarations

shaped_initialiser : (value : Option RawExpression) (us : List Token) → SpellsOptional SpellsInitialiser value us
    → (e : RawExpression) → value ≡ Some e → HasNaturalConstants e
shaped_initialiser value us decl.nothing e is = cc
shaped_initialiser value us (decl.something _ _ (decl.initialiser inner sign vs is_kind_of spells)) e is =
    let same : inner ≡ e = cc in subst HasNaturalConstants same (natural 0 inner vs spells)

shaped_declarator : (declared : RawDeclared) (us : List Token) → SpellsDeclarator declared us → IsShapedDeclarator declared
shaped_declarator declared us (decl.declarator var value vs ws named initialiser) = shaped_initialiser value ws initialiser

shaped_declarators : (declarators : List RawDeclared) (us : List Token) → SpellsListed SpellsDeclarator declarators us
    → All IsShapedDeclarator declarators
shaped_declarators declarators us (decl.last declared _ spells) =
    All-cons IsShapedDeclarator declared [] (shaped_declarator declared us spells) (λ i default below. absurd (omega arith))
shaped_declarators declarators us (decl.more declared others comma vs ws is first spells) =
    All-cons IsShapedDeclarator declared others (shaped_declarator declared vs first) (shaped_declarators others ws spells)

-- What is put in front of shaped statements leaves them shaped.
abbrev KeepsShape : Statement → Type 0
KeepsShape front = (others : RawStatements) → AreShaped others → AreShaped (front others)

shaped_declaration : (front : Statement) (us : List Token) → SpellsDeclaration front us → KeepsShape front
shaped_declaration front us (decl.declaration declarators vs ws type spells) others shaped = (shaped_declarators declarators ws spells, shaped)

-- ---- parts of statements

shaped_simple : (front : Statement) (us : List Token) → SpellsSimple front us → KeepsShape front
shaped_simple front us (stmt.assignment name e word sign vs is_word is_kind_of spells) others shaped = (natural 0 e vs spells, shaped)
shaped_simple front us (stmt.update name op e word sign vs is_word is_kind_of spells) others shaped = ((tt, natural 0 e vs spells), shaped)
shaped_simple front us (stmt.step_behind name op word sign is_word is_kind_of) others shaped = ((tt, omega (arith, ints)), shaped)
shaped_simple front us (stmt.step_before name op word sign is_word is_kind_of) others shaped = ((tt, omega (arith, ints)), shaped)

simple_step : (front : Statement) (us : List Token) → SpellsSimple front us → IsForStep (front tree.Nil)
simple_step front us (stmt.assignment name e word sign vs is_word is_kind_of spells) = tt
simple_step front us (stmt.update name op e word sign vs is_word is_kind_of spells) = tt
simple_step front us (stmt.step_behind name op word sign is_word is_kind_of) = tt
simple_step front us (stmt.step_before name op word sign is_word is_kind_of) = tt

simple_start : (front : Statement) (us : List Token) → SpellsSimple front us → IsForStart (front tree.Nil)
simple_start front us (stmt.assignment name e word sign vs is_word is_kind_of spells) = tt
simple_start front us (stmt.update name op e word sign vs is_word is_kind_of spells) = tt
simple_start front us (stmt.step_behind name op word sign is_word is_kind_of) = tt
simple_start front us (stmt.step_before name op word sign is_word is_kind_of) = tt

shaped_condition : (cond : RawCondition) (us : List Token) → SpellsCondition cond us → HasNaturalConstants cond.cond
shaped_condition cond us (stmt.unmarked e _ spells) = natural 0 e us spells
shaped_condition cond us (stmt.marked number e sign vs ws marks is_kind_of spells) = natural 0 e ws spells

optional_condition : (cond : Option RawCondition) (us : List Token) → SpellsOptional SpellsCondition cond us → IsShapedCondition cond
optional_condition cond us decl.nothing = tt
optional_condition cond us (decl.something some _ spells) = shaped_condition some us spells

-- a part of a `for` head: what it is, and its shape
abbrev IsStart : RawStatements → Type 0
IsStart stmts = IsForStart stmts × AreShaped stmts

abbrev IsStep : RawStatements → Type 0
IsStep stmts = IsForStep stmts × AreShaped stmts

shaped_start : (front : Statement) (us : List Token) → SpellsStart front us → IsStart (front tree.Nil)
shaped_start front us (stmt.simple _ _ spells) = (simple_start front us spells, shaped_simple front us spells tree.Nil tt)
shaped_start front us (stmt.declaration _ _ (decl.declaration declarators vs ws type spells)) = (tt, (shaped_declarators declarators ws spells, tt))

optional_start : (start : Option Statement) (us : List Token) → SpellsOptional SpellsStart start us → IsStart (raw_optional start)
optional_start start us decl.nothing = (tt, tt)
optional_start start us (decl.something front _ spells) = shaped_start front us spells

optional_step : (step : Option Statement) (us : List Token) → SpellsOptional SpellsSimple step us → IsStep (raw_optional step)
optional_step step us decl.nothing = (tt, tt)
optional_step step us (decl.something front _ spells) = (simple_step front us spells, shaped_simple front us spells tree.Nil tt)

-- ---- statements

mutual
  shaped_statement : (front : Statement) (us : List Token) → SpellsStatement front us → KeepsShape front
  shaped_statement front us (stmt.block entries opening closing vs opens closes spells) others shaped = (shaped_entries entries vs spells, shaped)
  shaped_statement front us (stmt.empty semicolon is) others shaped = shaped
  shaped_statement front us (stmt.simple _ semicolon vs is spells) others shaped = shaped_simple front vs spells others shaped
  shaped_statement front us (stmt.if_alone cond first word opening closing vs ws is opens closes test body) others shaped =
      (natural 0 cond vs test, shaped_statement first ws body tree.Nil tt, shaped)
  shaped_statement front us (stmt.if_else cond first second word opening closing other vs ws xs is opens closes is_other test body ends behind) others shaped =
      (natural 0 cond vs test, shaped_statement first ws body tree.Nil tt, shaped_statement second xs behind tree.Nil tt, shaped)
  shaped_statement front us (stmt.while cond body word opening closing vs ws is opens closes test spells) others shaped =
      (shaped_condition cond vs test, shaped_statement body ws spells tree.Nil tt, shaped)
  shaped_statement front us (stmt.do_while body cond first word opening closing semicolon vs ws is_first is opens closes ends spells test) others shaped =
      (shaped_statement body vs spells tree.Nil tt, shaped_condition cond ws test, shaped)
  shaped_statement front us
      (stmt.for start cond step body word opening first second closing vs ws xs ys is opens is_first is_second closes starts test steps spells) others shaped =
      let at_start = optional_start start vs starts in
      let at_step = optional_step step xs steps in
      (at_start.0, at_start.1, optional_condition cond ws test, at_step.0, at_step.1, shaped_statement body ys spells tree.Nil tt, shaped)
  shaped_statement front us (stmt.break word semicolon is ends) others shaped = shaped
  shaped_statement front us (stmt.continue word semicolon is ends) others shaped = shaped
  shaped_statement front us (stmt.return e word semicolon vs is ends spells) others shaped = (natural 0 e vs spells, shaped)
  shaped_statement front us (stmt.mark number semicolon vs is spells) others shaped = shaped

  shaped_entries : (entries : List Statement) (us : List Token) → SpellsEntries entries us → AreShaped (raw_joined entries)
  shaped_entries entries us stmt.none = tt
  shaped_entries entries us (stmt.declaration front others semicolon vs ws is first spells) =
      shaped_declaration front vs first (raw_joined others) (shaped_entries others ws spells)
  shaped_entries entries us (stmt.statement front others vs ws first spells) =
      shaped_statement front vs first (raw_joined others) (shaped_entries others ws spells)

shaped_function : (func : RawFunction) (us : List Token) → SpellsFunction func us → IsShaped func
shaped_function func us (unit.function var params entries opening closing opening_curly closing_curly qualifiers vs ws xs ys opens closes opens_block
    closes_block are type named parameters body) =
    shaped_entries entries ys body

pub shaped_unit : (tokens : List Token) (funcs : List RawFunction) → SpellsUnit tokens funcs → All IsShaped funcs
shaped_unit tokens funcs unit.none = λ i default below. absurd (omega arith)
shaped_unit tokens funcs (unit.function func others vs ws first spells) =
    All-cons IsShaped func others (shaped_function func vs first) (shaped_unit ws others spells)
shaped_unit tokens funcs (unit.mark_declaration _ vs ws declares spells) = shaped_unit ws funcs spells
