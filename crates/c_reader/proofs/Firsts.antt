-- The first token of what is spelled.
use Rattle.std.proofs.Common.{◌≡◌, ℕ, ◌<◌, Bool, true, false, List, [], ◌∷◌, ◌++◌, length, Some, None, refl, sym, ap, ◌∙◌, arith}
use Rattle.c_ast.specs.declared.func.Var.{Var}
use Rattle.c_ast.specs.declared.expr.BinOp.{BinOp}
use Rattle.c_ast.specs.declared.expr.UnOp.{UnOp}
use Rattle.c_ast.specs.RawTree.{RawExpression}
use Rattle.c_tokens.specs.declared.kind.Kind.{Kind}
use Rattle.c_tokens.specs.declared.kind.Kind.TheVariants as k
use Rattle.c_tokens.specs.declared.token.Token.{Token}
use Rattle.c_tokens.specs.declared.fixed.Fixed.{Fixed}
use Rattle.c_tokens.specs.declared.fixed.Fixed.TheVariants as fixed
use Rattle.c_reader.specs.Expressions.{SpellsAt, SpellsExpression, EndsExpression, operator_of, unary_of}
use Rattle.c_reader.specs.Declarations.{Statement, SpellsType, SpellsName, SpellsListed}
use Rattle.c_reader.specs.Statements.{SpellsStatement, SpellsSimple, SpellsMark, step_of}
use Rattle.c_tokens.specs.Fixed.{is_kind_of}
use Rattle.c_reader.specs.Fronts.{behind_sign, begins, skipped, is_either}
use Rattle.c_reader.proofs.Reading.{behind_sign-other}

-- The first token passes the test.
pub record FirstIs (test : Kind → Bool) (tokens : List Token) : Type 0 where
  pub first : Token
  pub others : List Token
  pub parts : tokens ≡ first ∷ others
  pub is : test first.kind ≡ true

pub first_is : (test : Kind → Bool) (first : Token) (others : List Token) (kind : Kind) → first.kind ≡ kind
    → test kind ≡ true → FirstIs test (first ∷ others)
first_is test first others kind is passes = record { first = first; others = others; parts = refl; is = ap test is ∙ passes }

pub FirstIs-append : (test : Kind → Bool) (us vs : List Token) → FirstIs test us → FirstIs test (us ++ vs)
FirstIs-append test us vs at = record {
  first = at.first;
  others = at.others ++ vs;
  parts = ap (λ (l : List Token). l ++ vs) at.parts;
  is = at.is;
}

-- A sign that no kind of the test is does not stand first.
pub begins-not : (test : Kind → Bool) (s : Fixed) (tokens : List Token)
    → ((kind : Kind) → test kind ≡ true → is_kind_of s kind ≡ false) → FirstIs test tokens → begins s tokens ≡ false
begins-not test s tokens apart at = ap (begins s) at.parts ∙ apart at.first.kind at.is

pub behind_sign-not : (test : Kind → Bool) (s : Fixed) (tokens : List Token)
    → ((kind : Kind) → test kind ≡ true → is_kind_of s kind ≡ false) → FirstIs test tokens → behind_sign s tokens ≡ None
behind_sign-not test s tokens apart at =
    ap (behind_sign s) at.parts ∙ behind_sign-other s at.first at.others (apart at.first.kind at.is)

pub skipped-not : (s : Fixed) (tokens : List Token) → begins s tokens ≡ false → skipped s tokens ≡ tokens
skipped-not s [] is = refl
skipped-not s (first ∷ others) is = rw is refl

-- ---- types and names

unfoldable pub starts_type : Kind → Bool
starts_type k.Int = true
starts_type k.Long = true
starts_type _ = false

pub type-first : (us : List Token) → SpellsType us → FirstIs starts_type us
unfolding starts_type
type-first _ (SpellsType.int first is) = first_is starts_type first [] k.Int is refl
type-first _ (SpellsType.long first is) = first_is starts_type first [] k.Long is refl
type-first _ (SpellsType.long_int first second is_long is_int) = first_is starts_type first (second ∷ []) k.Long is_long refl
type-first _ (SpellsType.long_long first second is_long is_again) = first_is starts_type first
    (second ∷ []) k.Long is_long refl
type-first _ (SpellsType.long_long_int first second third is_long is_again is_int) =
    first_is starts_type first (second ∷ third ∷ []) k.Long is_long refl

pub type-no_bracket : (kind : Kind) → starts_type kind ≡ true → is_kind_of fixed.CloseRound kind ≡ false
unfolding starts_type
type-no_bracket k.CloseRound is = absurd cc
type-no_bracket _ is = refl

pub type-no_void : (kind : Kind) → starts_type kind ≡ true → is_kind_of fixed.Void kind ≡ false
unfolding starts_type
type-no_void k.Void is = absurd cc
type-no_void _ is = refl

unfoldable pub starts_name : Kind → Bool
starts_name (k.Word name) = true
starts_name _ = false

pub name-first : (var : Var) (us : List Token) → SpellsName var us → FirstIs starts_name us
unfolding starts_name
name-first _ _ (SpellsName.name name word is) = first_is starts_name word [] (k.Word name) is refl

pub name-no_int : (kind : Kind) → starts_name kind ≡ true → is_kind_of fixed.Int kind ≡ false
unfolding starts_name
name-no_int k.Int is = absurd cc
name-no_int _ is = refl

pub name-no_long : (kind : Kind) → starts_name kind ≡ true → is_kind_of fixed.Long kind ≡ false
unfolding starts_name
name-no_long k.Long is = absurd cc
name-no_long _ is = refl

pub listed-first : {X : Type 0} (test : Kind → Bool) (Spells : X → List Token → Type 0) (xs : List X) (us : List Token)
    → ((x : X) (vs : List Token) → Spells x vs → FirstIs test vs) → SpellsListed Spells xs us → FirstIs test us
listed-first test Spells _ us first (SpellsListed.last x vs spells) = first x vs spells
listed-first test Spells _ us first (SpellsListed.more x others comma vs ws is spells spells_others) =
    FirstIs-append test vs (comma ∷ ws) (first x vs spells)

pub type-no_else : (kind : Kind) → starts_type kind ≡ true → is_kind_of fixed.Else kind ≡ false
unfolding starts_type
type-no_else k.Else is = absurd cc
type-no_else _ is = refl

pub type-no_brace : (kind : Kind) → starts_type kind ≡ true → is_kind_of fixed.CloseCurly kind ≡ false
unfolding starts_type
type-no_brace k.CloseCurly is = absurd cc
type-no_brace _ is = refl

pub type-no_semicolon : (kind : Kind) → starts_type kind ≡ true → is_kind_of fixed.Semicolon kind ≡ false
unfolding starts_type
type-no_semicolon k.Semicolon is = absurd cc
type-no_semicolon _ is = refl

pub name-no_mark : (kind : Kind) → starts_name kind ≡ true → is_kind_of fixed.MarkWord kind ≡ false
unfolding starts_name
name-no_mark k.MarkWord is = absurd cc
name-no_mark _ is = refl

pub name-no_bracket : (kind : Kind) → starts_name kind ≡ true → is_kind_of fixed.CloseRound kind ≡ false
unfolding starts_name
name-no_bracket k.CloseRound is = absurd cc
name-no_bracket _ is = refl

pub type-no_qualifier : (kind : Kind) → starts_type kind ≡ true → is_either fixed.Extern fixed.Static kind ≡ false
unfolding starts_type
type-no_qualifier k.Extern is = absurd cc
type-no_qualifier k.Static is = absurd cc
type-no_qualifier _ is = refl

-- ---- expressions

unfoldable pub starts_expression : Kind → Bool
starts_expression (k.Word name) = true
starts_expression (k.Constant value) = true
starts_expression k.OpenRound = true
starts_expression k.Plus = true
starts_expression k.Minus = true
starts_expression k.Bang = true
starts_expression _ = false

unary-first : (kind : Kind) (op : UnOp) → unary_of kind ≡ Some op → starts_expression kind ≡ true
unfolding starts_expression
unary-first k.Plus op is = refl
unary-first k.Minus op is = refl
unary-first k.Bang op is = refl
unary-first _ op is = absurd cc

expression_at-first : (level : ℕ) (e : RawExpression) (us : List Token) → SpellsAt level e us → FirstIs starts_expression us
unfolding starts_expression
expression_at-first _ _ _ (SpellsAt.named name token is) = first_is starts_expression token [] (k.Word name) is refl
expression_at-first _ _ _ (SpellsAt.constant value token is low) =
    first_is starts_expression token [] (k.Constant value) is refl
expression_at-first _ _ _ (SpellsAt.bracketed opening closing e us a b spells) =
    first_is starts_expression opening (us ++ closing ∷ []) k.OpenRound a refl
expression_at-first _ _ _ (SpellsAt.signed op token e us is spells) = record {
  first = token;
  others = us;
  parts = refl;
  is = unary-first token.kind op is;
}
expression_at-first _ _ _ (SpellsAt.joined level op token e f us vs is left right) =
    FirstIs-append starts_expression us (token ∷ vs) (expression_at-first level e us left)
expression_at-first _ _ _ (SpellsAt.chosen question colon cond e f us vs ws a b c x y) =
    FirstIs-append starts_expression us (question ∷ vs ++ colon ∷ ws) (expression_at-first 1 cond us c)
expression_at-first _ _ _ (SpellsAt.alone level e us low spells) = expression_at-first _ e us spells

pub expression-first : (e : RawExpression) (us : List Token) → SpellsExpression e us → FirstIs starts_expression us
expression-first e us spells = expression_at-first 0 e us spells

pub expression-no_semicolon : (kind : Kind) → starts_expression kind ≡ true → is_kind_of fixed.Semicolon kind ≡ false
unfolding starts_expression
expression-no_semicolon k.Semicolon is = absurd cc
expression-no_semicolon _ is = refl

pub expression-no_mark : (kind : Kind) → starts_expression kind ≡ true → is_kind_of fixed.MarkWord kind ≡ false
unfolding starts_expression
expression-no_mark k.MarkWord is = absurd cc
expression-no_mark _ is = refl

-- A token of a kind that is no operator ends an expression.
pub ends-at : (kind : Kind) (first : Token) (others : List Token) → first.kind ≡ kind → operator_of kind ≡ None
    → (kind ≡ k.Question → ⊥) → EndsExpression (first ∷ others)
ends-at kind first others is none other = (ap operator_of is ∙ none, λ asks. other (sym is ∙ asks))

-- ---- statements

unfoldable pub starts_statement : Kind → Bool
starts_statement (k.Word name) = true
starts_statement k.PlusPlus = true
starts_statement k.MinusMinus = true
starts_statement k.OpenCurly = true
starts_statement k.Semicolon = true
starts_statement k.If = true
starts_statement k.While = true
starts_statement k.Do = true
starts_statement k.For = true
starts_statement k.Break = true
starts_statement k.Continue = true
starts_statement k.Return = true
starts_statement k.MarkWord = true
starts_statement _ = false

-- what begins an assignment
unfoldable pub starts_simple : Kind → Bool
starts_simple (k.Word name) = true
starts_simple k.PlusPlus = true
starts_simple k.MinusMinus = true
starts_simple _ = false

step-first : (kind : Kind) (op : BinOp) → step_of kind ≡ Some op → starts_simple kind ≡ true
unfolding starts_simple
step-first k.PlusPlus op is = refl
step-first k.MinusMinus op is = refl
step-first _ op is = absurd cc

pub simple-first : (s : Statement) (us : List Token) → SpellsSimple s us → FirstIs starts_simple us
unfolding starts_simple
simple-first _ _ (SpellsSimple.assignment name e word sign us named is spells) =
    first_is starts_simple word (sign ∷ us) (k.Word name) named refl
simple-first _ _ (SpellsSimple.update name op e word sign us named is spells) =
    first_is starts_simple word (sign ∷ us) (k.Word name) named refl
simple-first _ _ (SpellsSimple.step_behind name op word sign named is) =
    first_is starts_simple word (sign ∷ []) (k.Word name) named refl
simple-first _ _ (SpellsSimple.step_before name op word sign named is) = record {
  first = sign;
  others = word ∷ [];
  parts = refl;
  is = step-first sign.kind op is;
}

pub simple-no_int : (kind : Kind) → starts_simple kind ≡ true → is_kind_of fixed.Int kind ≡ false
unfolding starts_simple
simple-no_int k.Int is = absurd cc
simple-no_int _ is = refl

pub simple-no_long : (kind : Kind) → starts_simple kind ≡ true → is_kind_of fixed.Long kind ≡ false
unfolding starts_simple
simple-no_long k.Long is = absurd cc
simple-no_long _ is = refl

pub simple-no_semicolon : (kind : Kind) → starts_simple kind ≡ true → is_kind_of fixed.Semicolon kind ≡ false
unfolding starts_simple
simple-no_semicolon k.Semicolon is = absurd cc
simple-no_semicolon _ is = refl

pub simple-no_bracket : (kind : Kind) → starts_simple kind ≡ true → is_kind_of fixed.CloseRound kind ≡ false
unfolding starts_simple
simple-no_bracket k.CloseRound is = absurd cc
simple-no_bracket _ is = refl

simple-starts : (kind : Kind) → starts_simple kind ≡ true → starts_statement kind ≡ true
unfolding starts_simple starts_statement
simple-starts (k.Word name) is = refl
simple-starts k.PlusPlus is = refl
simple-starts k.MinusMinus is = refl
simple-starts _ is = absurd cc

pub mark-first : (number : ℕ) (us : List Token) → SpellsMark number us → FirstIs starts_statement us
unfolding starts_statement
mark-first _ _ (SpellsMark.mark number word opening constant closing is_mark opens is_constant closes) =
    first_is starts_statement word (opening ∷ constant ∷ closing ∷ []) k.MarkWord is_mark refl

pub statement-first : (s : Statement) (us : List Token) → SpellsStatement s us → FirstIs starts_statement us
unfolding starts_statement
statement-first _ _ (SpellsStatement.block entries opening closing us is closes spells) =
    first_is starts_statement opening (us ++ closing ∷ []) k.OpenCurly is refl
statement-first _ _ (SpellsStatement.empty semicolon is) = first_is starts_statement semicolon [] k.Semicolon is refl
statement-first s _ (SpellsStatement.simple _ semicolon us ends spells) =
    let at = simple-first s us spells in
    FirstIs-append starts_statement us (semicolon ∷ [])
    (record { first = at.first; others = at.others; parts = at.parts; is = simple-starts at.first.kind at.is })
statement-first _ _ (SpellsStatement.if_alone cond first word opening closing us vs is opens closes spells_cond
    spells_first) =
    first_is starts_statement word (opening ∷ (us ++ closing ∷ vs)) k.If is refl
statement-first _ _ (SpellsStatement.if_else cond first second word opening closing other us vs ws is opens closes
    is_else spells_cond spells_first shut spells_second) =
    first_is starts_statement word (opening ∷ (us ++ closing ∷ (vs ++ other ∷ ws))) k.If is refl
statement-first _ _ (SpellsStatement.while cond body word opening closing us vs is opens closes spells_cond spells_body) =
    first_is starts_statement word (opening ∷ (us ++ closing ∷ vs)) k.While is refl
statement-first _ _ (SpellsStatement.do_while body cond first word opening closing semicolon us vs is is_while opens
    closes ends spells_body spells_cond) =
    first_is starts_statement first (us ++ word ∷ opening ∷ (vs ++ closing ∷ semicolon ∷ [])) k.Do is refl
statement-first _ _ (SpellsStatement.for start cond step body word opening first second closing us vs ws xs is opens
    ends_first ends_second closes spells_start spells_cond spells_step spells_body) =
    first_is starts_statement word (opening ∷ (us ++ first ∷ (vs ++ second ∷ (ws ++ closing ∷ xs)))) k.For is refl
statement-first _ _ (SpellsStatement.break word semicolon is ends) =
    first_is starts_statement word (semicolon ∷ []) k.Break is refl
statement-first _ _ (SpellsStatement.continue word semicolon is ends) =
    first_is starts_statement word (semicolon ∷ []) k.Continue is refl
statement-first _ _ (SpellsStatement.return e word semicolon us is ends spells) =
    first_is starts_statement word (us ++ semicolon ∷ []) k.Return is refl
statement-first _ _ (SpellsStatement.mark number semicolon us ends spells) =
    FirstIs-append starts_statement us (semicolon ∷ []) (mark-first number us spells)

pub statement-no_else : (kind : Kind) → starts_statement kind ≡ true → is_kind_of fixed.Else kind ≡ false
unfolding starts_statement
statement-no_else k.Else is = absurd cc
statement-no_else _ is = refl

pub statement-no_brace : (kind : Kind) → starts_statement kind ≡ true → is_kind_of fixed.CloseCurly kind ≡ false
unfolding starts_statement
statement-no_brace k.CloseCurly is = absurd cc
statement-no_brace _ is = refl

pub statement-no_int : (kind : Kind) → starts_statement kind ≡ true → is_kind_of fixed.Int kind ≡ false
unfolding starts_statement
statement-no_int k.Int is = absurd cc
statement-no_int _ is = refl

pub statement-no_long : (kind : Kind) → starts_statement kind ≡ true → is_kind_of fixed.Long kind ≡ false
unfolding starts_statement
statement-no_long k.Long is = absurd cc
statement-no_long _ is = refl

-- what is spelled by a first token has one
pub FirstIs-some : (test : Kind → Bool) (us : List Token) → FirstIs test us → 0 < length us
FirstIs-some test us at = rw at.parts (omega arith)
