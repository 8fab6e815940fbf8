-- What spells a file is read as it, where its depth leaves room.
use Rattle.std.proofs.Common.{◌≡◌, ℕ, zero, suc, ◌<◌, ◌≤◌, max, false, List, [], ◌∷◌, ◌++◌, length, length-append, Option, Some, None, refl, sym, ap, ◌∙◌, append_assoc, inl, inr, ◌⊎◌, arith}
use Rattle.std.specs.Prelude.{option_to_list, IsErrOf, Result, Err}
use Rattle.std.proofs.lemmas.Bool.{cases_lt}
use Rattle.c_reader.specs.declared.fault.ReadFault.{ReadFault}
use Rattle.c_reader.specs.declared.fault.ReadFault.TheVariants.{Grammar}
use Rattle.c_reader.specs.Faults.{Refuses}
use Rattle.c_ast.specs.declared.func.Var.{Var}
use Rattle.c_ast.specs.RawTree.{RawFunction}
use Rattle.c_ast.specs.RawView.{raw_joined}
use Rattle.c_tokens.specs.declared.kind.Kind.TheVariants as k
use Rattle.c_tokens.specs.declared.token.Token.{Token}
use Rattle.c_tokens.specs.declared.fixed.Fixed.TheVariants as fixed
use Rattle.c_reader.specs.ReadExpressions.{◌>>=◌}
use Rattle.c_reader.specs.Declarations.{SpellsOptional, SpellsType, SpellsName}
use Rattle.c_reader.specs.Units.{AreQualifiers, SpellsFunction, SpellsMarkDeclaration, SpellsUnit}
use Rattle.c_reader.specs.Depth.{statements_depth, unit_depth}
use Rattle.c_reader.specs.Fronts.{begins, is_either}
use Rattle.c_reader.specs.ReadDeclarations.{name_at, behind_type}
use Rattle.c_reader.specs.ReadStatements.{entries_at}
use Rattle.c_reader.specs.ReadUnits.{unqualified, mark_declaration_at, function_at, item_by, item_at, items_within, unit_at}
use Rattle.c_reader.proofs.Refusals.{grammar-by}
use Rattle.c_reader.proofs.Reading.{step, behind_sign-here, test-from_HasEither}
use Rattle.c_reader.proofs.Firsts.{FirstIs, FirstIs-append, FirstIs-some, begins-not, behind_sign-not, starts_type, type-first, type-no_qualifier, starts_name, name-first, name-no_mark, name-no_int, name-no_long, name-no_bracket}
use Rattle.c_reader.proofs.DeclarationCompleteness.{kind-not, name-complete, type-complete, parameters-complete}
use Rattle.c_reader.proofs.StatementCompleteness.{unless-complete, entries-complete}

unqualified-here : (first : Token) (others : List Token) → (first.kind ≡ k.Extern) ⊎ (first.kind ≡ k.Static)
    → unqualified (first ∷ others) ≡ unqualified others
unqualified-here first others is = rw (test-from_HasEither fixed.Extern fixed.Static first.kind is) refl

unqualified-other : (first : Token) (others : List Token) → is_either fixed.Extern fixed.Static first.kind ≡ false
    → unqualified (first ∷ others) ≡ first ∷ others
unqualified-other first others is = rw is refl

-- no qualifier stands where a type does
unqualified-none : (tokens : List Token) → FirstIs starts_type tokens → unqualified tokens ≡ tokens
unqualified-none tokens at =
    ap unqualified at.parts ∙ unqualified-other at.first at.others (type-no_qualifier at.first.kind at.is) ∙ sym at.parts

unqualified-complete : (qualifiers tokens : List Token) → AreQualifiers qualifiers → FirstIs starts_type tokens
    → unqualified (qualifiers ++ tokens) ≡ tokens
unqualified-complete [] tokens are other = unqualified-none tokens other
unqualified-complete (first ∷ others) tokens are other =
    unqualified-here first (others ++ tokens) are.0 ∙ unqualified-complete others tokens are.1 other

-- qualifiers and a type stand before the rest of an item
typed-complete : (qualifiers us tokens : List Token) → AreQualifiers qualifiers → SpellsType us
    → begins fixed.Int tokens ≡ false → begins fixed.Long tokens ≡ false
    → behind_type (unqualified (qualifiers ++ (us ++ tokens))) ≡ Some tokens
typed-complete qualifiers us tokens are type no_int no_long =
    ap behind_type (unqualified-complete qualifiers (us ++ tokens) are
    (FirstIs-append starts_type us tokens (type-first us type)))
    ∙ type-complete us tokens type no_int no_long

function-complete : (room : ℕ) (func : RawFunction) (us after : List Token) → SpellsFunction func us
    → statements_depth func.body ≤ room → item_at room (us ++ after) ≡ Some (Some func, after)
unfolding item_at function_at entries_at
function-complete room _ _ after
    (SpellsFunction.function var params entries opening closing curly last qualifiers us vs ws xs opens closes
    opens_block closes_block are type spells_name
    spells_params spells_entries) low =
    let block : List Token = xs ++ last ∷ after in
    let head : List Token = ws ++ closing ∷ curly ∷ block in
    let tokens : List Token = vs ++ opening ∷ head in
    let named : FirstIs starts_name tokens = FirstIs-append starts_name vs (opening ∷ head) (name-first var vs spells_name) in
    let whole : List Token = us ++ (vs ++ opening ∷ (ws ++ closing ∷ curly ∷ (xs ++ last ∷ []))) in
    let parts : (qualifiers ++ whole) ++ after ≡ qualifiers ++ (us ++ tokens) =
    append_assoc qualifiers whole after ∙ ap (λ (l : List Token). qualifiers ++ l)
    (append_assoc us (vs ++ opening ∷ (ws ++ closing ∷ curly ∷ (xs ++ last ∷ []))) after
    ∙ ap (λ (l : List Token). us ++ l) (append_assoc vs (opening ∷ (ws ++ closing ∷ curly ∷ (xs ++ last ∷ []))) after
    ∙ ap (λ (l : List Token). vs ++ opening ∷ l) (append_assoc ws (closing ∷ curly ∷ (xs ++ last ∷ [])) after
    ∙ ap (λ (l : List Token). ws ++ closing ∷ curly ∷ l) (append_assoc xs (last ∷ []) after)))) in
    ap (item_at room) parts
    ∙ step _ tokens (typed-complete qualifiers us tokens are type (begins-not starts_name fixed.Int tokens name-no_int named)
    (begins-not starts_name fixed.Long tokens name-no_long named))
    (ap (λ behind. item_by room behind tokens) (behind_sign-not starts_name fixed.MarkWord tokens name-no_mark named)
    ∙ step _ (record { name = var.name; line = var.line; params = params; body = raw_joined entries }, after)
    (step _ (var, opening ∷ head) (name-complete var vs (opening ∷ head) spells_name)
    (step _ head (behind_sign-here fixed.OpenRound opening head opens)
    (step _ (params, curly ∷ block) (parameters-complete params ws closing (curly ∷ block) spells_params closes)
    (step _ block (behind_sign-here fixed.OpenCurly curly block opens_block)
    (step _ (entries, after) (entries-complete entries xs spells_entries room (suc (length block)) last after low
    (omega (arith, length-append xs (last ∷ after))) closes_block) refl))))) refl)

name-or-bracket : (var : Option Var) (us : List Token) (closing : Token) (after : List Token)
    → SpellsOptional SpellsName var us
    → closing.kind ≡ k.CloseRound
    → (begins fixed.Int (us ++ closing ∷ after) ≡ false) × (begins fixed.Long (us ++ closing ∷ after) ≡ false)
name-or-bracket _ _ closing after SpellsOptional.nothing is =
    (kind-not fixed.Int closing k.CloseRound is refl, kind-not fixed.Long closing k.CloseRound is refl)
name-or-bracket _ _ closing after (SpellsOptional.something var us spells) is =
    let named : FirstIs starts_name (us ++ closing ∷ after) = FirstIs-append starts_name us (closing ∷ after)
    (name-first var us spells) in (
      begins-not starts_name fixed.Int (us ++ closing ∷ after) name-no_int named,
      begins-not starts_name fixed.Long (us ++ closing ∷ after) name-no_long named,
    )

mark-declaration-complete : (room : ℕ) (us after : List Token) → SpellsMarkDeclaration us
    → item_at room (us ++ after) ≡ Some (None, after)
unfolding item_at mark_declaration_at
mark-declaration-complete room _ after
    (SpellsMarkDeclaration.mark_declaration var word opening closing semicolon qualifiers us vs ws is_mark opens
    closes ends are type inner
    spells) =
    let last : List Token = closing ∷ semicolon ∷ after in
    let head : List Token = vs ++ (ws ++ last) in
    let tokens : List Token = word ∷ opening ∷ head in
    let whole : List Token = us ++ word ∷ opening ∷ (vs ++ (ws ++ closing ∷ semicolon ∷ [])) in
    let parts : (qualifiers ++ whole) ++ after ≡ qualifiers ++ (us ++ tokens) =
    append_assoc qualifiers whole after ∙ ap (λ (l : List Token). qualifiers ++ l)
    (append_assoc us (word ∷ opening ∷ (vs ++ (ws ++ closing ∷ semicolon ∷ []))) after
    ∙ ap (λ (l : List Token). us ++ word ∷ opening ∷ l) (append_assoc vs (ws ++ closing ∷ semicolon ∷ []) after
    ∙ ap (λ (l : List Token). vs ++ l) (append_assoc ws (closing ∷ semicolon ∷ []) after))) in
    let either = name-or-bracket var ws closing (semicolon ∷ after) spells closes in
    ap (item_at room) parts
    ∙ step _ tokens (typed-complete qualifiers us tokens are type (kind-not fixed.Int word k.MarkWord is_mark refl)
    (kind-not fixed.Long word k.MarkWord is_mark refl))
    (ap (λ behind. item_by room behind tokens) (behind_sign-here fixed.MarkWord word (opening ∷ head) is_mark)
    ∙ step _ after
    (step _ head (behind_sign-here fixed.OpenRound opening head opens)
    (step _ (ws ++ last) (type-complete vs (ws ++ last) inner either.0 either.1)
    (step _ (var, last) (unless-complete SpellsName name_at fixed.CloseRound var ws closing (semicolon ∷ after) spells closes
    (λ y zs name. (
      begins-not starts_name fixed.CloseRound (zs ++ last) name-no_bracket
          (FirstIs-append starts_name zs last (name-first y zs name)),
      name-complete y zs last name,
    )))
    (step _ (semicolon ∷ after) (behind_sign-here fixed.CloseRound closing (semicolon ∷ after) closes)
    (behind_sign-here fixed.Semicolon semicolon after ends))))) refl)

-- ---- all items

first-item : (room n : ℕ) (tokens : List Token) → 0 < length tokens
    → items_within room (suc n) tokens ≡ (item_at room tokens >>= λ x. items_within room n x.1 >>= λ funcs.
    Some (option_to_list x.0 ++ funcs))
first-item room n [] some = absurd (omega (arith, some))
first-item room n (first ∷ others) some = refl

item-more : (room n : ℕ) (item : Option RawFunction) (funcs : List RawFunction) (us vs : List Token) → 0 < length us
    → item_at room (us ++ vs) ≡ Some (item, vs) → items_within room n vs ≡ Some funcs
    → items_within room (suc n) (us ++ vs) ≡ Some (option_to_list item ++ funcs)
item-more room n item funcs us vs some read others =
    first-item room n (us ++ vs) (omega (arith, some, length-append us vs))
    ∙ step _ (item, vs) read (step _ funcs others refl)

function-some : (func : RawFunction) (us : List Token) → SpellsFunction func us → 0 < length us
function-some _ _ (SpellsFunction.function var params entries opening closing curly last qualifiers us vs ws xs opens
    closes opens_block closes_block are type
    spells_name spells_params spells_entries) =
    let rest_of : List Token = vs ++ opening ∷ (ws ++ closing ∷ curly ∷ (xs ++ last ∷ [])) in
    omega (
      arith,
      length-append qualifiers (us ++ rest_of),
      length-append us rest_of,
      FirstIs-some starts_type us (type-first us type),
    )

mark_declaration-some : (us : List Token) → SpellsMarkDeclaration us → 0 < length us
mark_declaration-some _ (SpellsMarkDeclaration.mark_declaration var word opening closing semicolon qualifiers us vs
    ws is_mark opens closes ends
    are type inner spells) =
    let rest_of : List Token = word ∷ opening ∷ (vs ++ (ws ++ closing ∷ semicolon ∷ [])) in
    omega (
      arith,
      length-append qualifiers (us ++ rest_of),
      length-append us rest_of,
      FirstIs-some starts_type us (type-first us type),
    )

items-complete : (room n : ℕ) (tokens : List Token) (funcs : List RawFunction) → SpellsUnit tokens funcs
    → unit_depth funcs ≤ suc room → length tokens < n → items_within room n tokens ≡ Some funcs
items-complete room zero tokens funcs spells low enough = absurd (omega (arith, enough))
items-complete room (suc n) _ _ SpellsUnit.none low enough = refl
items-complete room (suc n) _ _ (SpellsUnit.function func others us vs spells more_items) low enough =
    let some = function-some func us spells in
    item-more room n (Some func) others us vs some (function-complete room func us vs spells (omega (arith, low)))
    (items-complete room n vs others more_items (omega (arith, low)) (omega (arith, enough, some, length-append us vs)))
items-complete room (suc n) _ funcs (SpellsUnit.mark_declaration _ us vs spells more_items) low enough =
    let some = mark_declaration-some us spells in
    item-more room n None funcs us vs some (mark-declaration-complete room us vs spells)
    (items-complete room n vs funcs more_items low (omega (arith, enough, some, length-append us vs)))

-- What spells a file is read as it, where its depth leaves room.
pub unit-complete : (room : ℕ) (tokens : List Token) (funcs : List RawFunction) → SpellsUnit tokens funcs
    → unit_depth funcs ≤ suc room → unit_at room tokens ≡ Some funcs
unfolding unit_at
unit-complete room tokens funcs spells low = items-complete room (suc (length tokens)) tokens funcs spells low (omega arith)

-- Two files that one list of tokens spells are equal.
pub unit-one : (tokens : List Token) (first second : List RawFunction) → SpellsUnit tokens first → SpellsUnit tokens second
    → first ≡ second
unit-one tokens first second spells others =
    let room = max (unit_depth first) (unit_depth second) in
    let read : Some first ≡ Some second = sym (unit-complete room tokens first spells (omega arith))
    ∙ unit-complete room tokens second others (omega arith) in
    cc

too_deep : (room : ℕ) (tokens : List Token) (funcs : List RawFunction) → unit_at room tokens ≡ None
    → SpellsUnit tokens funcs → suc room < unit_depth funcs
too_deep room tokens funcs none spells = elim (cases_lt (suc room) (unit_depth funcs)) [
  | inl deep ↦ deep
  | inr low ↦ absurd (let read : None ≡ Some funcs = sym none ∙ unit-complete room tokens funcs spells low in cc)
]

-- Where a reading of all tokens is refused as `Grammar`, what they spell is too deep.
pub refused-deep : {X : Type 0} (room : ℕ) (tokens : List Token) (funcs : List RawFunction) (fault : ReadFault)
    (answer : Result X ReadFault) (given : ReadFault) → answer ≡ Err given → given ≡ fault → IsErrOf answer Grammar
    → Refuses (unit_at room tokens ≡ None) fault → SpellsUnit tokens funcs → suc room < unit_depth funcs
refused-deep room tokens funcs fault answer given is same is_grammar refused spells =
    let grammar : fault ≡ Grammar = cc in
    too_deep room tokens funcs (grammar-by fault (unit_at room tokens ≡ None) grammar refused) spells
