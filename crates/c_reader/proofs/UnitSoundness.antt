-- What is read as a file is spelled so, and is no deeper than its room.
use Rattle.std.proofs.Common.{◌≡◌, ℕ, zero, suc, ◌<◌, ◌≤◌, Bool, true, false, List, [], ◌∷◌, ◌++◌, length, length-append, Option, Some, None, refl, sym, ap, subst, ◌∙◌, arith}
use Rattle.std.specs.Prelude.{option_to_list}
use Rattle.c_ast.specs.RawTree.{RawFunction}
use Rattle.c_tokens.specs.declared.kind.Kind.TheVariants as k
use Rattle.c_tokens.specs.declared.token.Token.{Token}
use Rattle.c_tokens.specs.declared.fixed.Fixed.TheVariants as fixed
use Rattle.c_reader.specs.Declarations.{SpellsType, SpellsName}
use Rattle.c_reader.specs.Units.{AreQualifiers, SpellsFunction, SpellsMarkDeclaration, SpellsUnit}
use Rattle.c_reader.specs.Depth.{statements_depth, unit_depth}
use Rattle.c_reader.specs.Fronts.{behind_sign, begins, is_either}
use Rattle.c_reader.specs.ReadDeclarations.{unless, name_at, behind_type, parameters_at}
use Rattle.c_reader.specs.ReadStatements.{entries_at, statement_at}
use Rattle.c_reader.specs.ReadUnits.{unqualified, mark_declaration_at, function_at, item_by, item_at, items_within, unit_at}
use Rattle.c_reader.proofs.Reading.{stepped, behind_sign-found, HasEither-from_test, given, append_parts, cons_parts}
use Rattle.c_reader.proofs.Firsts.{FirstIs-some, starts_type, type-first}
use Rattle.c_reader.proofs.DeclarationSoundness.{name_at-sound, behind_type-sound, TypeFirst, unless-sound, parameters_at-sound}
use Rattle.c_reader.proofs.BlockSoundness.{entries_at-sound}
use Rattle.c_reader.proofs.StatementSoundness.{statement_at-sound}

-- Qualifiers stand first, and then the tokens without them.
record QualifiersFirst (tokens : List Token) : Type 0 where
  pub front : List Token
  pub parts : tokens ≡ front ++ unqualified tokens
  pub are : AreQualifiers front

unqualified-by : (first : Token) (others : List Token) (test : Bool) → is_either fixed.Extern fixed.Static first.kind ≡ test
    → QualifiersFirst others → QualifiersFirst (first ∷ others)
unqualified-by first others true is at = record {
  front = first ∷ at.front;
  parts = ap (λ (l : List Token). first ∷ l) at.parts ∙ ap (λ (l : List Token). first ∷ at.front ++ l) (rw is refl);
  are = (HasEither-from_test fixed.Extern fixed.Static first.kind is, at.are);
}
unqualified-by first others false is at = record { front = []; parts = rw is refl; are = tt }

unqualified-sound : (tokens : List Token) → QualifiersFirst tokens
unqualified-sound [] = record { front = []; parts = refl; are = tt }
unqualified-sound (first ∷ others) =
    unqualified-by first others (is_either fixed.Extern fixed.Static first.kind) refl (unqualified-sound others)

-- The rest of a declaration of `__mark` stands behind its word, and these tokens follow.
record MarkDeclarationFirst (word : Token) (tokens after : List Token) : Type 0 where
  pub front : List Token
  pub parts : tokens ≡ front ++ after
  pub spells : (qualifiers us : List Token) → AreQualifiers qualifiers → SpellsType us
      → SpellsMarkDeclaration (qualifiers ++ (us ++ word ∷ front))

mark_declaration_at-sound : (word : Token) (tokens after : List Token) → word.kind ≡ k.MarkWord
    → mark_declaration_at tokens ≡ Some after → MarkDeclarationFirst word tokens after
unfolding mark_declaration_at
mark_declaration_at-sound word tokens after is found =
    let head = stepped (behind_sign fixed.OpenRound tokens) _ after found in
    let others = stepped (behind_type head.0) _ after head.2 in
    let x = stepped (unless (begins fixed.CloseRound others.0) others.0 name_at) _ after others.2 in
    let last = stepped (behind_sign fixed.CloseRound x.0.1) _ after x.2 in
    let opening = behind_sign-found fixed.OpenRound tokens head.0 head.1 in
    let type = behind_type-sound head.0 others.0 others.1 in
    let name = unless-sound SpellsName fixed.CloseRound name_at name_at-sound others.0 x.0 x.1 in
    let closing = behind_sign-found fixed.CloseRound x.0.1 last.0 last.1 in
    let semicolon = behind_sign-found fixed.Semicolon last.0 after last.2 in
    let tail : List Token = closing.token ∷ semicolon.token ∷ [] in
    record {
      front = opening.token ∷ (type.front ++ (name.front ++ tail));
      parts = cons_parts opening.token (type.front ++ (name.front ++ tail)) after tokens head.0 opening.parts
          (append_parts type.front (name.front ++ tail) after head.0 others.0 type.parts
          (append_parts name.front tail after others.0 x.0.1 name.parts
          (cons_parts closing.token (semicolon.token ∷ []) after x.0.1 last.0 closing.parts semicolon.parts)));
      spells = λ qualifiers us are types. SpellsMarkDeclaration.mark_declaration x.0.0 word opening.token closing.token
          semicolon.token qualifiers us type.front name.front is opening.has closing.has semicolon.has are types
          type.spells name.spells;
    }

-- The rest of a function stands here, from its name on, these tokens follow, and it is no deeper than this.
record FunctionFirst (room : ℕ) (tokens : List Token) (func : RawFunction) (after : List Token) : Type 0 where
  pub front : List Token
  pub parts : tokens ≡ front ++ after
  pub spells : (qualifiers us : List Token) → AreQualifiers qualifiers → SpellsType us
      → SpellsFunction func (qualifiers ++ (us ++ front))
  pub within : statements_depth func.body ≤ room

function_at-sound : (room : ℕ) (tokens : List Token) (read : RawFunction × List Token)
    → function_at room tokens ≡ Some read → FunctionFirst room tokens read.0 read.1
unfolding function_at
function_at-sound room tokens read found =
    let x = stepped (name_at tokens) _ read found in
    let head = stepped (behind_sign fixed.OpenRound x.0.1) _ read x.2 in
    let params = stepped (parameters_at head.0) _ read head.2 in
    let block = stepped (behind_sign fixed.OpenCurly params.0.1) _ read params.2 in
    let body = stepped (entries_at room (statement_at room) block.0) _ read block.2 in
    let name = name_at-sound tokens x.0 x.1 in
    let opening = behind_sign-found fixed.OpenRound x.0.1 head.0 head.1 in
    let ps = parameters_at-sound head.0 params.0 params.1 in
    let curly = behind_sign-found fixed.OpenCurly params.0.1 block.0 block.1 in
    let entries = entries_at-sound room (statement_at room) block.0 body.0 (statement_at-sound room) body.1 in
    let tail : List Token = entries.front ++ entries.closing ∷ [] in
    subst (λ r. FunctionFirst room tokens r.0 r.1) (given body.2) (record {
      front = name.front ++ opening.token ∷ (ps.front ++ ps.closing ∷ curly.token ∷ tail);
      parts = append_parts name.front (opening.token ∷ (ps.front ++ ps.closing ∷ curly.token ∷ tail)) body.0.1 tokens
          x.0.1 name.parts
          (cons_parts opening.token (ps.front ++ ps.closing ∷ curly.token ∷ tail) body.0.1 x.0.1 head.0 opening.parts
          (append_parts ps.front (ps.closing ∷ curly.token ∷ tail) body.0.1 head.0 (ps.closing ∷ params.0.1) ps.parts
          (cons_parts ps.closing (curly.token ∷ tail) body.0.1 (ps.closing ∷ params.0.1) params.0.1 refl
          (cons_parts curly.token tail body.0.1 params.0.1 block.0 curly.parts entries.parts))));
      spells = λ qualifiers us are type. SpellsFunction.function x.0.0 params.0.0 body.0.0 opening.token ps.closing
          curly.token
          entries.closing qualifiers us name.front ps.front entries.front opening.has ps.has curly.has entries.has are
          type name.spells ps.spells entries.spells;
      within = entries.within;
    })

-- ---- items

-- An item stands first, these tokens follow, and it is no deeper than this.
record ItemFirst (room : ℕ) (tokens : List Token) (item : Option RawFunction) (after : List Token) : Type 0 where
  pub front : List Token
  pub parts : tokens ≡ front ++ after
  pub spells : (vs : List Token) (funcs : List RawFunction) → SpellsUnit vs funcs
      → SpellsUnit (front ++ vs) (option_to_list item ++ funcs)
  pub some : 0 < length front
  pub within : unit_depth (option_to_list item) ≤ suc room

typed-some : (qualifiers us vs : List Token) → SpellsType us → 0 < length (qualifiers ++ (us ++ vs))
typed-some qualifiers us vs type =
    omega (
      arith,
      length-append qualifiers (us ++ vs),
      length-append us vs,
      FirstIs-some starts_type us (type-first us type),
    )

item-by : (room : ℕ) (tokens others : List Token) (behind : Option (List Token)) (read : Option RawFunction × List Token)
    → QualifiersFirst tokens → TypeFirst (unqualified tokens) others → behind_sign fixed.MarkWord others ≡ behind
    → item_by room behind others ≡ Some read → ItemFirst room tokens read.0 read.1
item-by room tokens others None read qualifiers type is found =
    let x = stepped (function_at room others) _ read found in
    let func = function_at-sound room others x.0 x.1 in
    subst (λ r. ItemFirst room tokens r.0 r.1) (given x.2) (record {
      front = qualifiers.front ++ (type.front ++ func.front);
      parts = append_parts qualifiers.front (type.front ++ func.front) x.0.1 tokens (unqualified tokens) qualifiers.parts
          (append_parts type.front func.front x.0.1 (unqualified tokens) others type.parts func.parts);
      spells = λ vs funcs unit. SpellsUnit.function x.0.0 funcs (qualifiers.front ++ (type.front ++ func.front)) vs
          (func.spells qualifiers.front type.front qualifiers.are type.spells) unit;
      some = typed-some qualifiers.front type.front func.front type.spells;
      within = omega (arith, func.within);
    })
item-by room tokens others (Some behind_word) read qualifiers type is found =
    let after = stepped (mark_declaration_at behind_word) _ read found in
    let word = behind_sign-found fixed.MarkWord others behind_word is in
    let mark = mark_declaration_at-sound word.token behind_word after.0 word.has after.1 in
    subst (λ r. ItemFirst room tokens r.0 r.1) (given after.2) (record {
      front = qualifiers.front ++ (type.front ++ word.token ∷ mark.front);
      parts = append_parts qualifiers.front (type.front ++ word.token ∷ mark.front) after.0 tokens
          (unqualified tokens) qualifiers.parts
          (append_parts type.front (word.token ∷ mark.front) after.0 (unqualified tokens) others type.parts
          (cons_parts word.token mark.front after.0 others behind_word word.parts mark.parts));
      spells = λ vs funcs unit. SpellsUnit.mark_declaration funcs (qualifiers.front ++
          (type.front ++ word.token ∷ mark.front)) vs
          (mark.spells qualifiers.front type.front qualifiers.are type.spells) unit;
      some = typed-some qualifiers.front type.front (word.token ∷ mark.front) type.spells;
      within = omega arith;
    })

item_at-sound : (room : ℕ) (tokens : List Token) (read : Option RawFunction × List Token)
    → item_at room tokens ≡ Some read → ItemFirst room tokens read.0 read.1
unfolding item_at
item_at-sound room tokens read found =
    let others = stepped (behind_type (unqualified tokens)) _ read found in
    item-by room tokens others.0 (behind_sign fixed.MarkWord others.0) read (unqualified-sound tokens)
    (behind_type-sound (unqualified tokens) others.0 others.1) refl others.2

depth-joined : (item : Option RawFunction) (funcs : List RawFunction) (room : ℕ) → unit_depth (option_to_list item) ≤ room
    → unit_depth funcs ≤ room → unit_depth (option_to_list item ++ funcs) ≤ room
depth-joined None funcs room low others = others
depth-joined (Some func) funcs room low others = omega (arith, low, others)

items-sound : (room n : ℕ) (tokens : List Token) (funcs : List RawFunction) → items_within room n tokens ≡ Some funcs
    → SpellsUnit tokens funcs × (unit_depth funcs ≤ suc room)
items-sound room zero tokens funcs found = absurd cc
items-sound room (suc n) [] funcs found =
    subst (λ (l : List RawFunction). SpellsUnit [] l × (unit_depth l ≤ suc room)) (given found) (SpellsUnit.none, omega arith)
items-sound room (suc n) (first ∷ others) funcs found =
    let x = stepped (item_at room (first ∷ others)) _ funcs found in
    let more = stepped (items_within room n x.0.1) _ funcs x.2 in
    let item = item_at-sound room (first ∷ others) x.0 x.1 in
    let unit = items-sound room n x.0.1 more.0 more.1 in
    subst (λ (l : List RawFunction). SpellsUnit (first ∷ others) l × (unit_depth l ≤ suc room)) (given more.2) (
      subst (λ (l : List Token). SpellsUnit l (option_to_list x.0.0 ++ more.0)) (sym item.parts)
          (item.spells x.0.1 more.0 unit.0),
      depth-joined x.0.0 more.0 (suc room) item.within unit.1,
    )

-- What is read from all tokens is spelled by them, and is no deeper than its room and its blocks.
pub unit_at-sound : (room : ℕ) (tokens : List Token) (funcs : List RawFunction) → unit_at room tokens ≡ Some funcs
    → SpellsUnit tokens funcs × (unit_depth funcs ≤ suc room)
unfolding unit_at
unit_at-sound room tokens funcs found = items-sound room (suc (length tokens)) tokens funcs found

-- an item takes tokens
pub item_at-shorter : (room : ℕ) (tokens : List Token) (read : Option RawFunction × List Token)
    → item_at room tokens ≡ Some read → length read.1 < length tokens
item_at-shorter room tokens read found =
    let item = item_at-sound room tokens read found in
    rw item.parts (omega (arith, item.some, length-append item.front read.1))
