-- What is read as a statement is spelled so, and is no deeper than its room: the statements that hold others.
use Rattle.std.proofs.Common.{◌≡◌, ℕ, zero, suc, ◌<◌, ◌≤◌, Bool, true, false, if◌then◌else◌, List, [], ◌∷◌, ◌++◌, length, length-append, Option, Some, None, refl, sym, ap, subst, ◌∙◌, append_assoc, arith}
use Rattle.c_ast.specs.RawTree as tree
use Rattle.c_ast.specs.RawTree.{RawExpression, RawCondition}
use Rattle.c_ast.specs.RawView.{raw_joined, raw_one, raw_optional, raw_branches}
use Rattle.c_tokens.specs.declared.kind.Kind.TheVariants as k
use Rattle.c_tokens.specs.declared.token.Token.{Token}
use Rattle.c_tokens.specs.declared.fixed.Fixed.TheVariants as fixed
use Rattle.c_reader.specs.ReadExpressions.{◌>>=◌}
use Rattle.c_reader.specs.Declarations.{Statement, SpellsOptional}
use Rattle.c_reader.specs.Statements.{SpellsStatement, SpellsEntries, SpellsSimple, SpellsStart, SpellsCondition, ends_open}
use Rattle.c_reader.specs.Depth.{condition_depth, statements_depth}
use Rattle.c_reader.specs.Fronts.{behind_sign, begins}
use Rattle.c_reader.specs.ReadDeclarations.{Reads, shallow_at, begins_type, declaration_at, optional, unless}
use Rattle.c_reader.specs.ReadStatements.{simple_at, condition_at, start_at, if_at, while_at, do_at, head_at, for_at, ended, entry_at, entries_by, entries_within, entries_at}
use Rattle.c_reader.proofs.Reading.{stepped, behind_sign-found, begins-here, begins-none, SignFirst, given, append_parts, cons_parts}
use Rattle.c_reader.proofs.Shallow.{shallow-sound, ShallowAt}
use Rattle.c_reader.proofs.Firsts.{FirstIs-some, starts_statement, statement-first}
use Rattle.c_reader.proofs.Levels.{PutsInFront, declaration-level, statement-level}
use Rattle.c_reader.proofs.DeclarationSoundness.{SpellsWithin, declaration_at-sound, unless-sound}
use Rattle.c_reader.proofs.SimpleSoundness.{SpellsShallowCondition, simple_at-sound, condition_at-sound, start_at-sound}

-- The statement stands at the front, these tokens follow, and it is no deeper than this. Where it ends in an `if` without
-- an `else`, none follows.
pub record StatementFirst (room : ℕ) (tokens : List Token) (s : Statement) (after : List Token) : Type 0 where
  pub front : List Token
  pub parts : tokens ≡ front ++ after
  pub spells : SpellsStatement s front
  pub within : statements_depth (s tree.Nil) ≤ room
  pub closed : ends_open (s tree.Nil) ≡ true → begins fixed.Else after ≡ false

-- What the reader of statements reads stands there so.
abbrev pub AreStatements : ℕ → (List Token → Reads Statement) → Type 0
AreStatements room item = (tokens : List Token) (read : Statement × List Token) → item tokens ≡ Some read
    → StatementFirst room tokens read.0 read.1

-- ---- loops

pub while_at-sound : (room : ℕ) (inside : List Token → Reads Statement) (word : Token) (tokens : List Token)
    (read : Statement × List Token) → AreStatements room inside → word.kind ≡ k.While
    → while_at room inside tokens ≡ Some read → StatementFirst (suc room) (word ∷ tokens) read.0 read.1
unfolding while_at
while_at-sound room inside word tokens read sound is found =
    let head = stepped (behind_sign fixed.OpenRound tokens) _ read found in
    let cond = stepped (condition_at room head.0) _ read head.2 in
    let last = stepped (behind_sign fixed.CloseRound cond.0.1) _ read cond.2 in
    let body = stepped (inside last.0) _ read last.2 in
    let opening = behind_sign-found fixed.OpenRound tokens head.0 head.1 in
    let cond_first = condition_at-sound room head.0 cond.0 cond.1 in
    let closing = behind_sign-found fixed.CloseRound cond.0.1 last.0 last.1 in
    let body_first = sound last.0 body.0 body.1 in
    subst (λ r. StatementFirst (suc room) (word ∷ tokens) r.0 r.1) {x = (
      tree.While cond.0.0
          (raw_one body.0.0),
      body.0.1,
    )} (given body.2) (record {
      front = word ∷ opening.token ∷ (cond_first.front ++ closing.token ∷ body_first.front);
      parts = cons_parts word (opening.token ∷ (cond_first.front ++ closing.token ∷ body_first.front)) body.0.1
          (word ∷ tokens) tokens refl
          (cons_parts opening.token (cond_first.front ++ closing.token ∷ body_first.front) body.0.1 tokens head.0
          opening.parts
          (append_parts cond_first.front (closing.token ∷ body_first.front) body.0.1 head.0 cond.0.1 cond_first.parts
          (cons_parts closing.token body_first.front body.0.1 cond.0.1 last.0 closing.parts body_first.parts)));
      spells = SpellsStatement.while cond.0.0 body.0.0 word opening.token closing.token cond_first.front
          body_first.front is opening.has
          closing.has cond_first.spells.0 body_first.spells;
      within = omega (arith, cond_first.spells.1, body_first.within);
      closed = body_first.closed;
    })

-- what a `;` ends
pub ended-found : {X : Type 0} (x : X) (tokens : List Token) (read : X × List Token) → ended x tokens ≡ Some read
    → SignFirst fixed.Semicolon tokens read.1 × (x ≡ read.0)
ended-found x tokens read found =
    let after = stepped (behind_sign fixed.Semicolon tokens) _ read found in
    let same = given after.2 in (
      subst (λ r. SignFirst fixed.Semicolon tokens r.1) same (behind_sign-found fixed.Semicolon tokens after.0 after.1),
      ap (λ r. r.0) same,
    )

pub do_at-sound : (room : ℕ) (inside : List Token → Reads Statement) (word : Token) (tokens : List Token)
    (read : Statement × List Token) → AreStatements room inside → word.kind ≡ k.Do
    → do_at room inside tokens ≡ Some read → StatementFirst (suc room) (word ∷ tokens) read.0 read.1
unfolding do_at
do_at-sound room inside word tokens read sound is found =
    let body = stepped (inside tokens) _ read found in
    let behind_word = stepped (behind_sign fixed.While body.0.1) _ read body.2 in
    let head = stepped (behind_sign fixed.OpenRound behind_word.0) _ read behind_word.2 in
    let cond = stepped (condition_at room head.0) _ read head.2 in
    let last = stepped (behind_sign fixed.CloseRound cond.0.1) _ read cond.2 in
    let after = stepped (behind_sign fixed.Semicolon last.0) _ read last.2 in
    let body_first = sound tokens body.0 body.1 in
    let while_word = behind_sign-found fixed.While body.0.1 behind_word.0 behind_word.1 in
    let opening = behind_sign-found fixed.OpenRound behind_word.0 head.0 head.1 in
    let cond_first = condition_at-sound room head.0 cond.0 cond.1 in
    let closing = behind_sign-found fixed.CloseRound cond.0.1 last.0 last.1 in
    let semicolon = behind_sign-found fixed.Semicolon last.0 after.0 after.1 in
    let tail : List Token = closing.token ∷ semicolon.token ∷ [] in
    subst (λ r. StatementFirst (suc room) (word ∷ tokens) r.0 r.1) {x = (
      tree.Do
          (raw_one body.0.0) cond.0.0,
      after.0,
    )} (given after.2) (record {
      front = word ∷ (body_first.front ++ while_word.token ∷ opening.token ∷ (cond_first.front ++ tail));
      parts = cons_parts word (body_first.front ++ while_word.token ∷ opening.token ∷
          (cond_first.front ++ tail)) after.0 (word ∷ tokens) tokens refl
          (append_parts body_first.front (while_word.token ∷ opening.token ∷
          (cond_first.front ++ tail)) after.0 tokens body.0.1 body_first.parts
          (cons_parts while_word.token (opening.token ∷ (cond_first.front ++ tail)) after.0 body.0.1 behind_word.0
          while_word.parts
          (cons_parts opening.token (cond_first.front ++ tail) after.0 behind_word.0 head.0 opening.parts
          (append_parts cond_first.front tail after.0 head.0 cond.0.1 cond_first.parts
          (cons_parts closing.token (semicolon.token ∷ []) after.0 cond.0.1 last.0 closing.parts semicolon.parts)))));
      spells = SpellsStatement.do_while body.0.0 cond.0.0 word while_word.token opening.token closing.token semicolon.token
          body_first.front cond_first.front is while_word.has opening.has closing.has semicolon.has body_first.spells
          cond_first.spells.0;
      within = omega (arith, body_first.within, cond_first.spells.1);
      closed = λ is_open. absurd cc;
    })

-- ---- branches

closed-by : (s : Statement) (rest others : List Token) (test : Bool) → ends_open (s tree.Nil) ≡ test
    → (ends_open (s tree.Nil) ≡ true → begins fixed.Else rest ≡ false) → SignFirst fixed.Else rest others
    → ends_open (s tree.Nil) ≡ false
closed-by s rest others true is closed other =
    absurd (let has : true ≡ false = sym (begins-here fixed.Else rest others other) ∙ closed is in cc)
closed-by s rest others false is closed other = is

branches-by : (room : ℕ) (inside : List Token → Reads Statement) (word : Token) (tokens head middle last rest : List Token)
    (cond : RawExpression) (s : Statement) (behind : Option (List Token)) (read : Statement × List Token)
    → AreStatements room inside → word.kind ≡ k.If → SignFirst fixed.OpenRound tokens head → ShallowAt room head cond middle
    → SignFirst fixed.CloseRound middle last → StatementFirst room last s rest → behind_sign fixed.Else rest ≡ behind
    → (optional behind rest inside >>= λ second. Some (raw_branches cond (raw_one s) second.0, second.1)) ≡ Some read
    → StatementFirst (suc room) (word ∷ tokens) read.0 read.1
branches-by room inside word tokens head middle last rest cond s None read sound is opening cond_first closing first
    other found =
    subst (λ r. StatementFirst (suc room) (word ∷ tokens) r.0 r.1) (given found) (record {
      front = word ∷ opening.token ∷ (cond_first.at.front ++ closing.token ∷ first.front);
      parts = cons_parts word (opening.token ∷ (cond_first.at.front ++ closing.token ∷ first.front)) rest
          (word ∷ tokens) tokens refl
          (cons_parts opening.token (cond_first.at.front ++ closing.token ∷ first.front) rest tokens head opening.parts
          (append_parts cond_first.at.front (closing.token ∷ first.front) rest head middle cond_first.at.parts
          (cons_parts closing.token first.front rest middle last closing.parts first.parts)));
      spells = SpellsStatement.if_alone cond s word opening.token closing.token cond_first.at.front first.front is opening.has
          closing.has cond_first.at.spells first.spells;
      within = omega (arith, cond_first.within, first.within);
      closed = λ is_open. begins-none fixed.Else rest other;
    })
branches-by room inside word tokens head middle last rest cond s (Some others) read sound is opening cond_first
    closing first other found =
    let outer = stepped (optional (Some others) rest inside) _ read found in
    let second = stepped (inside others) _ outer.0 outer.1 in
    let same : (tree.IfElse cond (raw_one s) (raw_one second.0.0), second.0.1) ≡ read =
    ap (λ (r : Option Statement × List Token). (raw_branches cond (raw_one s) r.0, r.1)) (given second.2) ∙ given outer.2 in
    let else_word = behind_sign-found fixed.Else rest others other in
    let second_first = sound others second.0 second.1 in
    let back : List Token = first.front ++ else_word.token ∷ second_first.front in
    subst (λ r. StatementFirst (suc room) (word ∷ tokens) r.0 r.1) same (record {
      front = word ∷ opening.token ∷ (cond_first.at.front ++ closing.token ∷ back);
      parts = cons_parts word (opening.token ∷ (cond_first.at.front ++ closing.token ∷ back)) second.0.1
          (word ∷ tokens) tokens refl
          (cons_parts opening.token (cond_first.at.front ++ closing.token ∷ back) second.0.1 tokens head opening.parts
          (append_parts cond_first.at.front (closing.token ∷ back) second.0.1 head middle cond_first.at.parts
          (cons_parts closing.token back second.0.1 middle last closing.parts
          (append_parts first.front (else_word.token ∷ second_first.front) second.0.1 last rest first.parts
          (cons_parts else_word.token second_first.front second.0.1 rest others else_word.parts second_first.parts)))));
      spells = SpellsStatement.if_else cond s second.0.0 word opening.token closing.token else_word.token cond_first.at.front
          first.front second_first.front is opening.has closing.has else_word.has cond_first.at.spells first.spells
          (closed-by s rest others (ends_open (s tree.Nil)) refl first.closed else_word) second_first.spells;
      within = omega (arith, cond_first.within, first.within, second_first.within);
      closed = second_first.closed;
    })

pub if_at-sound : (room : ℕ) (inside : List Token → Reads Statement) (word : Token) (tokens : List Token)
    (read : Statement × List Token) → AreStatements room inside → word.kind ≡ k.If
    → if_at room inside tokens ≡ Some read → StatementFirst (suc room) (word ∷ tokens) read.0 read.1
unfolding if_at
if_at-sound room inside word tokens read sound is found =
    let head = stepped (behind_sign fixed.OpenRound tokens) _ read found in
    let cond = stepped (shallow_at room head.0) _ read head.2 in
    let last = stepped (behind_sign fixed.CloseRound cond.0.1) _ read cond.2 in
    let first = stepped (inside last.0) _ read last.2 in
    branches-by room inside word tokens head.0 cond.0.1 last.0 first.0.1 cond.0.0 first.0.0
    (behind_sign fixed.Else first.0.1) read sound is (behind_sign-found fixed.OpenRound tokens head.0 head.1)
    (shallow-sound room head.0 cond.0 cond.1) (behind_sign-found fixed.CloseRound cond.0.1 last.0 last.1)
    (sound last.0 first.0 first.1) refl first.2

-- ---- `for`

condition-split : (room : ℕ) (cond : Option RawCondition) (us : List Token)
    → SpellsOptional (SpellsShallowCondition room) cond us
    → SpellsOptional SpellsCondition cond us × (condition_depth cond ≤ room)
condition-split room cond us SpellsOptional.nothing = (SpellsOptional.nothing, omega arith)
condition-split room cond us (SpellsOptional.something x vs spells) = (SpellsOptional.something x vs spells.0, spells.1)

statement-split : (Spells : Statement → List Token → Type 0) (room : ℕ) (s : Option Statement) (us : List Token)
    → SpellsOptional (SpellsWithin Spells room) s us
    → SpellsOptional Spells s us × (statements_depth (raw_optional s) ≤ room)
statement-split Spells room s us SpellsOptional.nothing = (SpellsOptional.nothing, omega arith)
statement-split Spells room s us (SpellsOptional.something x vs spells) =
    (SpellsOptional.something x vs spells.0, spells.1)

-- The parts of the head of a `for` stand at the front, and these tokens follow its closing parenthesis.
record HeadFirst (room : ℕ) (tokens : List Token) (start : Option Statement) (cond : Option RawCondition)
    (step : Option Statement) (after : List Token) : Type 0 where
  pub opening : Token
  pub first : Token
  pub second : Token
  pub closing : Token
  pub us : List Token
  pub vs : List Token
  pub ws : List Token
  pub parts : (xs behind : List Token) → after ≡ xs ++ behind
      → tokens ≡ (opening ∷ (us ++ first ∷ (vs ++ second ∷ (ws ++ closing ∷ xs)))) ++ behind
  pub opening_is : opening.kind ≡ k.OpenRound
  pub first_is : first.kind ≡ k.Semicolon
  pub second_is : second.kind ≡ k.Semicolon
  pub closing_is : closing.kind ≡ k.CloseRound
  pub spells_start : SpellsOptional SpellsStart start us × (statements_depth (raw_optional start) ≤ room)
  pub spells_cond : SpellsOptional SpellsCondition cond vs × (condition_depth cond ≤ room)
  pub spells_step : SpellsOptional SpellsSimple step ws × (statements_depth (raw_optional step) ≤ room)

head_at-sound : (room : ℕ) (tokens : List Token)
    (read : (Option Statement × Option RawCondition × Option Statement) × List Token)
    → head_at room tokens ≡ Some read → HeadFirst room tokens read.0.0 read.0.1 read.0.2 read.1
unfolding head_at
head_at-sound room tokens read found =
    let head = stepped (behind_sign fixed.OpenRound tokens) _ read found in
    let start = stepped (unless (begins fixed.Semicolon head.0) head.0 (start_at room)) _ read head.2 in
    let middle = stepped (behind_sign fixed.Semicolon start.0.1) _ read start.2 in
    let cond = stepped (unless (begins fixed.Semicolon middle.0) middle.0 (condition_at room)) _ read middle.2 in
    let last = stepped (behind_sign fixed.Semicolon cond.0.1) _ read cond.2 in
    let step = stepped (unless (begins fixed.CloseRound last.0) last.0 (simple_at room)) _ read last.2 in
    let body = stepped (behind_sign fixed.CloseRound step.0.1) _ read step.2 in
    let opening = behind_sign-found fixed.OpenRound tokens head.0 head.1 in
    let start_first = unless-sound (SpellsWithin SpellsStart room) fixed.Semicolon (start_at room)
    (start_at-sound room) head.0 start.0 start.1 in
    let first = behind_sign-found fixed.Semicolon start.0.1 middle.0 middle.1 in
    let cond_first = unless-sound (SpellsShallowCondition room) fixed.Semicolon (condition_at room)
    (condition_at-sound room) middle.0 cond.0 cond.1 in
    let second = behind_sign-found fixed.Semicolon cond.0.1 last.0 last.1 in
    let step_first = unless-sound (SpellsWithin SpellsSimple room) fixed.CloseRound (simple_at room)
    (simple_at-sound room) last.0 step.0 step.1 in
    let closing = behind_sign-found fixed.CloseRound step.0.1 body.0 body.1 in
    subst (λ r. HeadFirst room tokens r.0.0 r.0.1 r.0.2 r.1) {x = ((start.0.0, cond.0.0, step.0.0), body.0)}
    (given body.2) (record {
      opening = opening.token;
      first = first.token;
      second = second.token;
      closing = closing.token;
      us = start_first.front;
      vs = cond_first.front;
      ws = step_first.front;
      parts = λ xs behind is.
          cons_parts opening.token (start_first.front ++ first.token ∷ (cond_first.front ++ second.token ∷
          (step_first.front ++ closing.token ∷ xs))) behind tokens head.0 opening.parts
          (append_parts start_first.front (first.token ∷ (cond_first.front ++ second.token ∷
          (step_first.front ++ closing.token ∷ xs))) behind head.0 start.0.1 start_first.parts
          (cons_parts first.token (cond_first.front ++ second.token ∷ (step_first.front ++ closing.token ∷ xs))
          behind start.0.1 middle.0 first.parts
          (append_parts cond_first.front (second.token ∷ (step_first.front ++ closing.token ∷ xs)) behind middle.0
          cond.0.1 cond_first.parts
          (cons_parts second.token (step_first.front ++ closing.token ∷ xs) behind cond.0.1 last.0 second.parts
          (append_parts step_first.front (closing.token ∷ xs) behind last.0 step.0.1 step_first.parts
          (cons_parts closing.token xs behind step.0.1 body.0 closing.parts is))))));
      opening_is = opening.has;
      first_is = first.has;
      second_is = second.has;
      closing_is = closing.has;
      spells_start = statement-split SpellsStart room start.0.0 start_first.front start_first.spells;
      spells_cond = condition-split room cond.0.0 cond_first.front cond_first.spells;
      spells_step = statement-split SpellsSimple room step.0.0 step_first.front step_first.spells;
    })

pub for_at-sound : (room : ℕ) (inside : List Token → Reads Statement) (word : Token) (tokens : List Token)
    (read : Statement × List Token) → AreStatements room inside → word.kind ≡ k.For
    → for_at room inside tokens ≡ Some read → StatementFirst (suc room) (word ∷ tokens) read.0 read.1
unfolding for_at
for_at-sound room inside word tokens read sound is found =
    let head = stepped (head_at room tokens) _ read found in
    let body = stepped (inside head.0.1) _ read head.2 in
    let head_first = head_at-sound room tokens head.0 head.1 in
    let body_first = sound head.0.1 body.0 body.1 in
    let whole : List Token = head_first.opening ∷ (head_first.us ++ head_first.first ∷
    (head_first.vs ++ head_first.second ∷ (head_first.ws ++ head_first.closing ∷ body_first.front))) in
    subst (λ r. StatementFirst (suc room) (word ∷ tokens) r.0 r.1) {x = (
      tree.For
          (raw_optional head.0.0.0) head.0.0.1 (raw_optional head.0.0.2) (raw_one body.0.0),
      body.0.1,
    )} (given body.2)
    (record {
      front = word ∷ whole;
      parts = cons_parts word whole body.0.1 (word ∷ tokens) tokens refl
          (head_first.parts body_first.front body.0.1 body_first.parts);
      spells = SpellsStatement.for head.0.0.0 head.0.0.1 head.0.0.2 body.0.0 word head_first.opening head_first.first
          head_first.second head_first.closing
          head_first.us head_first.vs head_first.ws body_first.front is head_first.opening_is head_first.first_is
          head_first.second_is head_first.closing_is head_first.spells_start.0 head_first.spells_cond.0
          head_first.spells_step.0 body_first.spells;
      within = omega (
        arith,
        head_first.spells_start.1,
        head_first.spells_cond.1,
        head_first.spells_step.1,
        body_first.within,
      );
      closed = body_first.closed;
    })

-- ---- blocks

-- An entry stands at the front, these tokens follow, and it is no deeper than this.
pub record EntryFirst (room : ℕ) (tokens : List Token) (s : Statement) (after : List Token) : Type 0 where
  pub front : List Token
  pub parts : tokens ≡ front ++ after
  pub spells : (others : List Statement) (vs : List Token) → SpellsEntries others vs
      → SpellsEntries (s ∷ others) (front ++ vs)
  pub level : PutsInFront s
  pub some : 0 < length front
  pub within : statements_depth (s tree.Nil) ≤ room

entry-by : (room : ℕ) (inside : List Token → Reads Statement) (tokens : List Token) (test : Bool)
    (read : Statement × List Token) → AreStatements room inside
    → (if test then (declaration_at room tokens >>= λ x. ended x.0 x.1) else inside tokens) ≡ Some read
    → EntryFirst room tokens read.0 read.1
entry-by room inside tokens true read sound found =
    let x = stepped (declaration_at room tokens) _ read found in
    let at = declaration_at-sound room tokens x.0 x.1 in
    let semicolon = ended-found x.0.0 x.0.1 read x.2 in
    subst (λ (s : Statement). EntryFirst room tokens s read.1) semicolon.1 (record {
      front = at.front ++ semicolon.0.token ∷ [];
      parts = append_parts at.front (semicolon.0.token ∷ []) read.1 tokens x.0.1 at.parts semicolon.0.parts;
      spells = λ others vs entries.
          subst (SpellsEntries (x.0.0 ∷ others)) (sym (append_assoc at.front (semicolon.0.token ∷ []) vs))
          (SpellsEntries.declaration x.0.0 others semicolon.0.token at.front vs semicolon.0.has at.spells.0 entries);
      level = declaration-level x.0.0 at.front at.spells.0;
      some = omega (arith, length-append at.front (semicolon.0.token ∷ []));
      within = at.spells.1;
    })
entry-by room inside tokens false read sound found =
    let at = sound tokens read found in
    record {
      front = at.front;
      parts = at.parts;
      spells = λ others vs entries. SpellsEntries.statement read.0 others at.front vs at.spells entries;
      level = statement-level read.0 at.front at.spells;
      some = FirstIs-some starts_statement at.front (statement-first read.0 at.front at.spells);
      within = at.within;
    }

pub entry_at-sound : (room : ℕ) (inside : List Token → Reads Statement) (tokens : List Token)
    (read : Statement × List Token) → AreStatements room inside → entry_at room inside tokens ≡ Some read
    → EntryFirst room tokens read.0 read.1
unfolding entry_at
entry_at-sound room inside tokens read sound found = entry-by room inside tokens (begins_type tokens) read sound found

pub entry-shorter : (room : ℕ) (inside : List Token → Reads Statement) (tokens : List Token)
    (read : Statement × List Token) → AreStatements room inside → entry_at room inside tokens ≡ Some read
    → length read.1 < length tokens
entry-shorter room inside tokens read sound found =
    let at = entry_at-sound room inside tokens read sound found in
    rw at.parts (omega (arith, at.some, length-append at.front read.1))

-- The entries and a closing brace stand at the front, these tokens follow, and none is deeper than this.
pub record EntriesFirst (room : ℕ) (tokens : List Token) (entries : List Statement) (after : List Token) : Type 0 where
  pub front : List Token
  pub closing : Token
  pub parts : tokens ≡ (front ++ closing ∷ []) ++ after
  pub has : closing.kind ≡ k.CloseCurly
  pub spells : SpellsEntries entries front
  pub within : statements_depth (raw_joined entries) ≤ room

entries-more : (room : ℕ) (tokens others after : List Token) (s : Statement) (entries : List Statement)
    → EntryFirst room tokens s others → EntriesFirst room others entries after → EntriesFirst room tokens (s ∷ entries) after
entries-more room tokens others after s entries first more = record {
  front = first.front ++ more.front;
  closing = more.closing;
  parts = append_parts first.front (more.front ++ more.closing ∷ []) after tokens others first.parts more.parts ∙ ap
      (λ (l : List Token). l ++ after) (sym (append_assoc first.front more.front (more.closing ∷ [])));
  has = more.has;
  spells = first.spells entries more.front more.spells;
  within = omega (arith, first.level (raw_joined entries), first.within, more.within);
}

entries_within-sound : (room : ℕ) (inside : List Token → Reads Statement) (n : ℕ) (tokens : List Token)
    (read : List Statement × List Token) → AreStatements room inside
    → entries_within (entry_at room inside) n tokens ≡ Some read → EntriesFirst room tokens read.0 read.1
entries_within-sound room inside zero tokens read sound found = absurd cc
entries_within-sound room inside (suc n) tokens read sound found =
    go (behind_sign fixed.CloseCurly tokens) refl found (λ others r is. entries_within-sound room inside n others r sound is)
  where
    go : (behind : Option (List Token)) → behind_sign fixed.CloseCurly tokens ≡ behind
        → entries_by behind (entry_at room inside tokens >>= λ x. entries_within (entry_at room inside) n x.1 >>= λ y.
        Some (x.0 ∷ y.0, y.1)) ≡ Some read
        → ((others : List Token) (r : List Statement × List Token) → entries_within
        (entry_at room inside) n others ≡ Some r → EntriesFirst room others r.0 r.1)
        → EntriesFirst room tokens read.0 read.1
    go (Some others) is same more =
        let closing = behind_sign-found fixed.CloseCurly tokens others is in
        subst (λ r. EntriesFirst room tokens r.0 r.1) (given same) (record {
          front = [];
          closing = closing.token;
          parts = closing.parts;
          has = closing.has;
          spells = SpellsEntries.none;
          within = omega arith;
        })
    go None is same more =
        let x = stepped (entry_at room inside tokens) _ read same in
        let y = stepped (entries_within (entry_at room inside) n x.0.1) _ read x.2 in
        subst (λ r. EntriesFirst room tokens r.0 r.1) (given y.2) (entries-more room tokens x.0.1 y.0.1 x.0.0 y.0.0
        (entry_at-sound room inside tokens x.0 sound x.1) (more x.0.1 y.0 y.1))

pub entries_at-sound : (room : ℕ) (inside : List Token → Reads Statement) (tokens : List Token)
    (read : List Statement × List Token) → AreStatements room inside → entries_at room inside tokens ≡ Some read
    → EntriesFirst room tokens read.0 read.1
unfolding entries_at
entries_at-sound room inside tokens read sound found =
    entries_within-sound room inside (suc (length tokens)) tokens read sound found
