-- What spells a statement is read as it, where its depth leaves room.
use Rattle.std.proofs.Common.{◌≡◌, ℕ, zero, suc, ◌<◌, ◌≤◌, Bool, true, false, ◌||◌, if◌then◌else◌, List, [], ◌∷◌, ◌++◌, length, length-append, Option, Some, None, refl, sym, ap, subst, ◌∙◌, append_assoc, arith}
use Rattle.c_ast.specs.RawTree as tree
use Rattle.c_ast.specs.RawTree.{RawExpression, RawCondition}
use Rattle.c_ast.specs.RawView.{raw_joined, raw_one, raw_optional}
use Rattle.c_tokens.specs.declared.kind.Kind.{Kind}
use Rattle.c_tokens.specs.declared.kind.Kind.TheVariants as k
use Rattle.c_tokens.specs.declared.token.Token.{Token}
use Rattle.c_tokens.specs.declared.fixed.Fixed.{Fixed}
use Rattle.c_tokens.specs.declared.fixed.Fixed.TheVariants as fixed
use Rattle.c_reader.specs.Expressions.{SpellsExpression, expression_depth}
use Rattle.c_reader.specs.ReadExpressions.{◌>>=◌}
use Rattle.c_reader.specs.Declarations.{Statement, SpellsOptional, SpellsDeclaration}
use Rattle.c_reader.specs.Statements.{SpellsStatement, SpellsEntries, SpellsSimple, SpellsMark, SpellsCondition, SpellsStart, ends_open}
use Rattle.c_reader.specs.Depth.{condition_depth, statements_depth}
use Rattle.c_tokens.specs.Fixed.{is_kind_of}
use Rattle.c_reader.specs.Fronts.{begins}
use Rattle.c_reader.specs.ReadDeclarations.{Reads, begins_type, declaration_at, optional, unless}
use Rattle.c_reader.specs.ReadStatements.{simple_at, condition_at, start_at, if_at, while_at, do_at, head_at, for_at, ended, entry_at, entries_within, entries_by, entries_at, block_at, statement_by, statement_at}
use Rattle.c_reader.proofs.Reading.{step, behind_sign-here, test-from_HasSign, HasSign}
use Rattle.c_reader.proofs.Shallow.{shallow-complete}
use Rattle.c_reader.proofs.Levels.{declaration-level, statement-level}
use Rattle.c_reader.proofs.DeclarationSoundness.{SpellsWithin}
use Rattle.c_reader.proofs.SimpleSoundness.{SpellsShallowCondition}
use Rattle.c_reader.proofs.Firsts.{FirstIs, FirstIs-append, FirstIs-some, begins-not, behind_sign-not, ends-at, starts_type, type-first, type-no_else, type-no_brace, type-no_semicolon, starts_expression, expression-first, expression-no_semicolon, starts_simple, simple-first, simple-no_int, simple-no_long, simple-no_semicolon, simple-no_bracket, starts_statement, statement-first, statement-no_else, statement-no_brace, statement-no_int, statement-no_long}
use Rattle.c_reader.proofs.DeclarationCompleteness.{kind-not, behind_sign-none, declaration-complete}
use Rattle.c_reader.proofs.SimpleCompleteness.{simple-complete, mark-complete, condition-complete}
use Rattle.c_reader.proofs.ListLoops.{on-by}

pub ended-here : {X : Type 0} (x : X) (semicolon : Token) (after : List Token) → semicolon.kind ≡ k.Semicolon
    → ended x (semicolon ∷ after) ≡ Some (x, after)
ended-here x semicolon after is = step _ after (behind_sign-here fixed.Semicolon semicolon after is) refl

-- ---- parts of the head of a `for`

type-begins : (kind : Kind) → starts_type kind ≡ true → (is_kind_of fixed.Int kind || is_kind_of fixed.Long kind) ≡ true
unfolding starts_type
type-begins k.Int is = refl
type-begins k.Long is = refl
type-begins _ is = absurd cc

begins_type-here : (tokens : List Token) → FirstIs starts_type tokens → begins_type tokens ≡ true
begins_type-here tokens at = ap begins_type at.parts ∙ type-begins at.first.kind at.is

begins_type-not : (tokens : List Token) → begins fixed.Int tokens ≡ false → begins fixed.Long tokens ≡ false
    → begins_type tokens ≡ false
begins_type-not tokens no_int no_long = rw (no_int, no_long) refl

declaration-first : (s : Statement) (us : List Token) → SpellsDeclaration s us → FirstIs starts_type us
declaration-first _ _ (SpellsDeclaration.declaration declarators us vs type spells) =
    FirstIs-append starts_type us vs (type-first us type)

start-complete : (s : Statement) (us : List Token) (semicolon : Token) (after : List Token) (room : ℕ) → SpellsStart s us
    → semicolon.kind ≡ k.Semicolon → statements_depth (s tree.Nil) ≤ room
    → start_at room (us ++ semicolon ∷ after) ≡ Some (s, semicolon ∷ after)
unfolding start_at
start-complete s us semicolon after room (SpellsStart.simple _ _ spells) is low =
    let tokens = us ++ semicolon ∷ after in
    let first : FirstIs starts_simple tokens = FirstIs-append starts_simple us (semicolon ∷ after)
    (simple-first s us spells) in
    let other : begins_type tokens ≡ false = begins_type-not tokens (begins-not starts_simple fixed.Int tokens
    simple-no_int first)
    (begins-not starts_simple fixed.Long tokens simple-no_long first) in
    ap (λ (b : Bool). if b then declaration_at room tokens else simple_at room tokens) other
    ∙ simple-complete s us (semicolon ∷ after) room spells low (ends-at k.Semicolon semicolon after is refl (λ asks. cc))
start-complete s us semicolon after room (SpellsStart.declaration _ _ spells) is low =
    let tokens = us ++ semicolon ∷ after in
    let here : begins_type tokens ≡ true = begins_type-here tokens
    (FirstIs-append starts_type us (semicolon ∷ after) (declaration-first s us spells)) in
    ap (λ (b : Bool). if b then declaration_at room tokens else simple_at room tokens) here
    ∙ declaration-complete s us semicolon after room spells is low

pub unless-complete : {X : Type 0} (Spells : X → List Token → Type 0) (item : List Token → Reads X) (s : Fixed) (x : Option X)
    (us : List Token) (closing : Token) (after : List Token) → SpellsOptional Spells x us → HasSign s closing.kind
    → ((y : X) (vs : List Token) → Spells y vs → (begins s (vs ++ closing ∷ after) ≡ false)
    × (item (vs ++ closing ∷ after) ≡ Some (y, closing ∷ after)))
    → unless (begins s (us ++ closing ∷ after)) (us ++ closing ∷ after) item ≡ Some (x, closing ∷ after)
unless-complete Spells item s _ _ closing after SpellsOptional.nothing is reads =
    ap (λ (b : Bool). unless b (closing ∷ after) item) (test-from_HasSign s closing.kind is)
unless-complete Spells item s _ _ closing after (SpellsOptional.something y vs spells) is reads =
    let both = reads y vs spells in
    ap (λ (b : Bool). unless b (vs ++ closing ∷ after) item) both.0 ∙ step _ (y, closing ∷ after) both.1 refl

within-optional : (Spells : Statement → List Token → Type 0) (room : ℕ) (s : Option Statement) (us : List Token)
    → SpellsOptional Spells s us → statements_depth (raw_optional s) ≤ room → SpellsOptional (SpellsWithin Spells room) s us
within-optional Spells room _ _ SpellsOptional.nothing low = SpellsOptional.nothing
within-optional Spells room _ _ (SpellsOptional.something s us spells) low = SpellsOptional.something s us (spells, low)

shallow-optional : (room : ℕ) (cond : Option RawCondition) (us : List Token) → SpellsOptional SpellsCondition cond us
    → condition_depth cond ≤ room → SpellsOptional (SpellsShallowCondition room) cond us
shallow-optional room _ _ SpellsOptional.nothing low = SpellsOptional.nothing
shallow-optional room _ _ (SpellsOptional.something cond us spells) low = SpellsOptional.something cond us (spells, low)

condition-no_semicolon : (cond : RawCondition) (us vs : List Token) → SpellsCondition cond us
    → begins fixed.Semicolon (us ++ vs) ≡ false
condition-no_semicolon _ us vs (SpellsCondition.unmarked e _ spells) =
    begins-not starts_expression fixed.Semicolon (us ++ vs) expression-no_semicolon
    (FirstIs-append starts_expression us vs (expression-first e us spells))
condition-no_semicolon _ _ vs
    (SpellsCondition.marked _ e joint _ ws (SpellsMark.mark number word opening constant closing is_mark opens
    is_constant closes) is spells) =
    kind-not fixed.Semicolon word k.MarkWord is_mark refl

start-first : (s : Statement) (us vs : List Token) → SpellsStart s us → begins fixed.Semicolon (us ++ vs) ≡ false
start-first s us vs (SpellsStart.simple _ _ spells) =
    begins-not starts_simple fixed.Semicolon (us ++ vs) simple-no_semicolon
    (FirstIs-append starts_simple us vs (simple-first s us spells))
start-first s us vs (SpellsStart.declaration _ _ spells) =
    begins-not starts_type fixed.Semicolon (us ++ vs) type-no_semicolon
    (FirstIs-append starts_type us vs (declaration-first s us spells))

head-complete : (room : ℕ) (start : Option Statement) (cond : Option RawCondition) (each : Option Statement)
    (opening first second closing : Token) (us vs ws after : List Token) → opening.kind ≡ k.OpenRound
    → first.kind ≡ k.Semicolon → second.kind ≡ k.Semicolon → closing.kind ≡ k.CloseRound
    → SpellsOptional (SpellsWithin SpellsStart room) start us → SpellsOptional (SpellsShallowCondition room) cond vs
    → SpellsOptional (SpellsWithin SpellsSimple room) each ws
    → head_at room (opening ∷ (us ++ first ∷ (vs ++ second ∷ (ws ++ closing ∷ after)))) ≡ Some ((start, cond, each), after)
unfolding head_at
head-complete room start cond each opening first second closing us vs ws after opens ends_first ends_second closes
    spells_start spells_cond spells_each =
    let last : List Token = ws ++ closing ∷ after in
    let middle : List Token = vs ++ second ∷ last in
    step _ (us ++ first ∷ middle) (behind_sign-here fixed.OpenRound opening (us ++ first ∷ middle) opens)
    (step _ (start, first ∷ middle) (unless-complete (SpellsWithin SpellsStart room)
    (start_at room) fixed.Semicolon start us first middle spells_start ends_first
    (λ s xs spells. (
      start-first s xs (first ∷ middle) spells.0,
      start-complete s xs first middle room spells.0
          ends_first spells.1,
    )))
    (step _ middle (behind_sign-here fixed.Semicolon first middle ends_first)
    (step _ (cond, second ∷ last) (unless-complete (SpellsShallowCondition room)
    (condition_at room) fixed.Semicolon cond vs second last spells_cond ends_second
    (λ x xs spells. (
      condition-no_semicolon x xs (second ∷ last) spells.0,
      condition-complete room x xs (second ∷ last) spells.0 spells.1
          (ends-at k.Semicolon second last ends_second refl (λ asks. cc)),
    )))
    (step _ last (behind_sign-here fixed.Semicolon second last ends_second)
    (step _ (each, closing ∷ after) (unless-complete (SpellsWithin SpellsSimple room)
    (simple_at room) fixed.CloseRound each ws closing after spells_each closes
    (λ s xs spells. (
      begins-not starts_simple fixed.CloseRound (xs ++ closing ∷ after) simple-no_bracket
          (FirstIs-append starts_simple xs (closing ∷ after) (simple-first s xs spells.0)),
      simple-complete s xs (closing ∷ after) room spells.0 spells.1
          (ends-at k.CloseRound closing after closes refl (λ asks. cc)),
    )))
    (step _ after (behind_sign-here fixed.CloseRound closing after closes) refl))))))

-- ---- statements by their first words

for-complete : (room : ℕ) (start : Option Statement) (cond : Option RawCondition) (each : Option Statement) (body : Statement)
    (word opening first second closing : Token) (us vs ws xs after : List Token) → word.kind ≡ k.For
    → opening.kind ≡ k.OpenRound → first.kind ≡ k.Semicolon → second.kind ≡ k.Semicolon → closing.kind ≡ k.CloseRound
    → SpellsOptional (SpellsWithin SpellsStart room) start us → SpellsOptional (SpellsShallowCondition room) cond vs
    → SpellsOptional (SpellsWithin SpellsSimple room) each ws → statement_at room (xs ++ after) ≡ Some (body, after)
    → statement_at (suc room) ((word ∷ opening ∷ (us ++ first ∷ (vs ++ second ∷ (ws ++ closing ∷ xs)))) ++ after)
    ≡ Some (tree.For (raw_optional start) cond (raw_optional each) (raw_one body), after)
unfolding statement_at for_at
for-complete room start cond each body word opening first second closing us vs ws xs after is opens ends_first
    ends_second closes spells_start spells_cond
    spells_each inner =
    let last : List Token = ws ++ closing ∷ (xs ++ after) in
    let middle : List Token = vs ++ second ∷ last in
    let tokens : List Token = opening ∷ (us ++ first ∷ middle) in
    let parts : (us ++ first ∷ (vs ++ second ∷ (ws ++ closing ∷ xs))) ++ after ≡ us ++ first ∷ middle =
    append_assoc us (first ∷ (vs ++ second ∷ (ws ++ closing ∷ xs))) after
    ∙ ap (λ (l : List Token). us ++ first ∷ l) (append_assoc vs (second ∷ (ws ++ closing ∷ xs)) after
    ∙ ap (λ (l : List Token). vs ++ second ∷ l) (append_assoc ws (closing ∷ xs) after)) in
    ap (λ (l : List Token). statement_at (suc room) (word ∷ opening ∷ l)) parts
    ∙ ap (λ kind. statement_by room (statement_at room) kind word tokens) is
    ∙ step _ ((start, cond, each), xs ++ after) (head-complete room start cond each opening first second closing us
    vs ws (xs ++ after) opens ends_first ends_second closes
    spells_start spells_cond spells_each)
    (step _ (body, after) inner refl)

while-complete : (room : ℕ) (cond : RawCondition) (body : Statement) (word opening closing : Token) (us vs after : List Token)
    → word.kind ≡ k.While → opening.kind ≡ k.OpenRound → closing.kind ≡ k.CloseRound → SpellsCondition cond us
    → expression_depth cond.cond ≤ room → statement_at room (vs ++ after) ≡ Some (body, after)
    → statement_at (suc room) ((word ∷ opening ∷ (us ++ closing ∷ vs)) ++ after) ≡ Some (
      tree.While cond
          (raw_one body),
      after,
    )
unfolding statement_at while_at
while-complete room cond body word opening closing us vs after is opens closes spells low inner =
    let tokens : List Token = us ++ closing ∷ (vs ++ after) in
    ap (λ (l : List Token). statement_at (suc room) (word ∷ opening ∷ l)) (append_assoc us (closing ∷ vs) after)
    ∙ ap (λ kind. statement_by room (statement_at room) kind word (opening ∷ tokens)) is
    ∙ step _ tokens (behind_sign-here fixed.OpenRound opening tokens opens)
    (step _ (cond, closing ∷ (vs ++ after)) (condition-complete room cond us (closing ∷ (vs ++ after)) spells low
    (ends-at k.CloseRound closing (vs ++ after) closes refl (λ asks. cc)))
    (step _ (vs ++ after) (behind_sign-here fixed.CloseRound closing (vs ++ after) closes)
    (step _ (body, after) inner refl)))

do-complete : (room : ℕ) (body : Statement) (cond : RawCondition) (first word opening closing semicolon : Token)
    (us vs after : List Token) → first.kind ≡ k.Do → word.kind ≡ k.While → opening.kind ≡ k.OpenRound
    → closing.kind ≡ k.CloseRound → semicolon.kind ≡ k.Semicolon → SpellsCondition cond vs
    → expression_depth cond.cond ≤ room
    → ((others : List Token) → statement_at room (us ++ word ∷ others) ≡ Some (body, word ∷ others))
    → statement_at (suc room) ((first ∷ (us ++ word ∷ opening ∷ (vs ++ closing ∷ semicolon ∷ []))) ++ after)
    ≡ Some (tree.Do (raw_one body) cond, after)
unfolding statement_at do_at
do-complete room body cond first word opening closing semicolon us vs after is is_while opens closes ends spells low inner =
    let last : List Token = closing ∷ semicolon ∷ after in
    let parts : (us ++ word ∷ opening ∷ (vs ++ closing ∷ semicolon ∷ [])) ++ after ≡ us ++ word ∷ opening ∷ (vs ++ last) =
    append_assoc us (word ∷ opening ∷ (vs ++ closing ∷ semicolon ∷ [])) after
    ∙ ap (λ (l : List Token). us ++ word ∷ opening ∷ l) (append_assoc vs (closing ∷ semicolon ∷ []) after) in
    ap (λ (l : List Token). statement_at (suc room) (first ∷ l)) parts
    ∙ ap (λ kind. statement_by room (statement_at room) kind first (us ++ word ∷ opening ∷ (vs ++ last))) is
    ∙ step _ (body, word ∷ opening ∷ (vs ++ last)) (inner (opening ∷ (vs ++ last)))
    (step _ (opening ∷ (vs ++ last)) (behind_sign-here fixed.While word (opening ∷ (vs ++ last)) is_while)
    (step _ (vs ++ last) (behind_sign-here fixed.OpenRound opening (vs ++ last) opens)
    (step _ (cond, last) (condition-complete room cond vs last spells low
    (ends-at k.CloseRound closing (semicolon ∷ after) closes refl (λ asks. cc)))
    (step _ (semicolon ∷ after) (behind_sign-here fixed.CloseRound closing (semicolon ∷ after) closes)
    (step _ after (behind_sign-here fixed.Semicolon semicolon after ends) refl)))))

if-complete : (room : ℕ) (cond : RawExpression) (s : Statement) (word opening closing : Token) (us vs after : List Token)
    → word.kind ≡ k.If → opening.kind ≡ k.OpenRound → closing.kind ≡ k.CloseRound → SpellsExpression cond us
    → expression_depth cond ≤ room → statement_at room (vs ++ after) ≡ Some (s, after)
    → begins fixed.Else after ≡ false
    → statement_at (suc room) ((word ∷ opening ∷ (us ++ closing ∷ vs)) ++ after) ≡ Some (tree.If cond (raw_one s), after)
unfolding statement_at if_at
if-complete room cond s word opening closing us vs after is opens closes spells low inner none =
    let tokens : List Token = us ++ closing ∷ (vs ++ after) in
    ap (λ (l : List Token). statement_at (suc room) (word ∷ opening ∷ l)) (append_assoc us (closing ∷ vs) after)
    ∙ ap (λ kind. statement_by room (statement_at room) kind word (opening ∷ tokens)) is
    ∙ step _ tokens (behind_sign-here fixed.OpenRound opening tokens opens)
    (step _ (cond, closing ∷ (vs ++ after)) (shallow-complete room cond us (closing ∷ (vs ++ after)) spells
    (ends-at k.CloseRound closing (vs ++ after) closes refl (λ asks. cc)) low)
    (step _ (vs ++ after) (behind_sign-here fixed.CloseRound closing (vs ++ after) closes)
    (step _ (s, after) inner
    (step _ (None, after) (ap (λ behind. optional behind after (statement_at room))
    (behind_sign-none fixed.Else after none)) refl))))

if_else-complete : (room : ℕ) (cond : RawExpression) (s t : Statement) (word opening closing other : Token)
    (us vs ws after : List Token) → word.kind ≡ k.If → opening.kind ≡ k.OpenRound → closing.kind ≡ k.CloseRound
    → other.kind ≡ k.Else → SpellsExpression cond us → expression_depth cond ≤ room
    → statement_at room (vs ++ other ∷ (ws ++ after)) ≡ Some (s, other ∷ (ws ++ after))
    → statement_at room (ws ++ after) ≡ Some (t, after)
    → statement_at (suc room) ((word ∷ opening ∷ (us ++ closing ∷ (vs ++ other ∷ ws))) ++ after)
    ≡ Some (tree.IfElse cond (raw_one s) (raw_one t), after)
unfolding statement_at if_at
if_else-complete room cond s t word opening closing other us vs ws after is opens closes is_else spells low inner second =
    let rest_of : List Token = ws ++ after in
    let back : List Token = vs ++ other ∷ rest_of in
    let tokens : List Token = us ++ closing ∷ back in
    let parts : (us ++ closing ∷ (vs ++ other ∷ ws)) ++ after ≡ tokens = append_assoc us (closing ∷ (vs ++ other ∷ ws)) after
    ∙ ap (λ (l : List Token). us ++ closing ∷ l) (append_assoc vs (other ∷ ws) after) in
    ap (λ (l : List Token). statement_at (suc room) (word ∷ opening ∷ l)) parts
    ∙ ap (λ kind. statement_by room (statement_at room) kind word (opening ∷ tokens)) is
    ∙ step _ tokens (behind_sign-here fixed.OpenRound opening tokens opens)
    (step _ (cond, closing ∷ back) (shallow-complete room cond us (closing ∷ back) spells
    (ends-at k.CloseRound closing back closes refl (λ asks. cc)) low)
    (step _ back (behind_sign-here fixed.CloseRound closing back closes)
    (step _ (s, other ∷ rest_of) inner
    (step _ (Some t, after) (ap (λ behind. optional behind (other ∷ rest_of) (statement_at room))
    (behind_sign-here fixed.Else other rest_of is_else)
    ∙ step _ (t, after) second refl) refl))))

-- where an assignment begins, one is read
simply-by : (room : ℕ) (inside : List Token → Reads Statement) (kind : Kind) (first : Token) (others : List Token)
    → starts_simple kind ≡ true
    → statement_by room inside kind first others ≡ (simple_at (suc room) (first ∷ others) >>= λ x. ended x.0 x.1)
unfolding starts_simple
simply-by room inside (k.Word name) first others is = refl
simply-by room inside k.PlusPlus first others is = refl
simply-by room inside k.MinusMinus first others is = refl
simply-by room inside _ first others is = absurd cc

simply-read : (room : ℕ) (tokens : List Token) → FirstIs starts_simple tokens
    → statement_at (suc room) tokens ≡ (simple_at (suc room) tokens >>= λ x. ended x.0 x.1)
unfolding statement_at
simply-read room tokens at =
    subst (λ (l : List Token). statement_at (suc room) l ≡ (simple_at (suc room) l >>= λ x. ended x.0 x.1)) (sym at.parts)
    (simply-by room (statement_at room) at.first.kind at.first at.others at.is)

simple-read : (room : ℕ) (s : Statement) (semicolon : Token) (us after : List Token) → semicolon.kind ≡ k.Semicolon
    → SpellsSimple s us → statements_depth (s tree.Nil) ≤ suc room
    → statement_at (suc room) ((us ++ semicolon ∷ []) ++ after) ≡ Some (s, after)
simple-read room s semicolon us after is spells low =
    let tokens : List Token = us ++ semicolon ∷ after in
    ap (statement_at (suc room)) (append_assoc us (semicolon ∷ []) after)
    ∙ simply-read room tokens (FirstIs-append starts_simple us (semicolon ∷ after) (simple-first s us spells))
    ∙ step _ (s, semicolon ∷ after) (simple-complete s us (semicolon ∷ after) (suc room) spells low
    (ends-at k.Semicolon semicolon after is refl (λ asks. cc)))
    (ended-here s semicolon after is)

-- ---- all statements

closed_for : (kind : Bool) → kind ≡ false → kind ≡ true → ⊥
closed_for kind shut is_open = cc

entries-no_else : (entries : List Statement) (us : List Token) (closing : Token) (after : List Token)
    → SpellsEntries entries us → closing.kind ≡ k.CloseCurly → begins fixed.Else (us ++ closing ∷ after) ≡ false
entries-no_else _ _ closing after SpellsEntries.none is = kind-not fixed.Else closing k.CloseCurly is refl
entries-no_else _ _ closing after (SpellsEntries.declaration s others semicolon us vs ends spells more_entries) is =
    begins-not starts_type fixed.Else ((us ++ semicolon ∷ vs) ++ closing ∷ after) type-no_else
    (FirstIs-append starts_type (us ++ semicolon ∷ vs) (closing ∷ after)
    (FirstIs-append starts_type us (semicolon ∷ vs) (declaration-first s us spells)))
entries-no_else _ _ closing after (SpellsEntries.statement s others us vs spells more_entries) is =
    begins-not starts_statement fixed.Else ((us ++ vs) ++ closing ∷ after) statement-no_else
    (FirstIs-append starts_statement (us ++ vs) (closing ∷ after)
    (FirstIs-append starts_statement us vs (statement-first s us spells)))

positive : (s : Statement) (us : List Token) → SpellsStatement s us → 1 ≤ statements_depth (s tree.Nil)
positive _ _ (SpellsStatement.block entries opening closing us is closes spells) = omega arith
positive _ _ (SpellsStatement.empty semicolon is) = omega arith
positive _ _ (SpellsStatement.simple _ semicolon _ ends (SpellsSimple.assignment name e word sign us named is
    spells)) = omega arith
positive _ _ (SpellsStatement.simple _ semicolon _ ends (SpellsSimple.update name op e word sign us named is spells))
    = omega arith
positive _ _ (SpellsStatement.simple _ semicolon _ ends (SpellsSimple.step_behind name op word sign named is)) = omega arith
positive _ _ (SpellsStatement.simple _ semicolon _ ends (SpellsSimple.step_before name op word sign named is)) = omega arith
positive _ _ (SpellsStatement.if_alone cond first word opening closing us vs is opens closes spells_cond
    spells_first) = omega arith
positive _ _ (SpellsStatement.if_else cond first second word opening closing other us vs ws is opens closes is_else
    spells_cond spells_first shut spells_second) = omega arith
positive _ _ (SpellsStatement.while cond body word opening closing us vs is opens closes spells_cond spells_body) =
    omega arith
positive _ _ (SpellsStatement.do_while body cond first word opening closing semicolon us vs is is_while opens closes
    ends spells_body spells_cond) = omega arith
positive _ _ (SpellsStatement.for start cond step body word opening first second closing us vs ws xs is opens
    ends_first ends_second closes spells_start spells_cond spells_step spells_body) = omega arith
positive _ _ (SpellsStatement.break word semicolon is ends) = omega arith
positive _ _ (SpellsStatement.continue word semicolon is ends) = omega arith
positive _ _ (SpellsStatement.return e word semicolon us is ends spells) = omega arith
positive _ _ (SpellsStatement.mark number semicolon us ends spells) = omega arith

-- the first entry of a block is a declaration,
declaration-entry : (room n : ℕ) (s : Statement) (others : List Statement) (semicolon closing : Token)
    (us vs after : List Token) → semicolon.kind ≡ k.Semicolon → SpellsDeclaration s us
    → statements_depth (s tree.Nil) ≤ room
    → entries_within (entry_at room (statement_at room)) n (vs ++ closing ∷ after) ≡ Some (others, after)
    → entries_within (entry_at room (statement_at room)) (suc n) ((us ++ semicolon ∷ vs) ++ closing ∷ after)
    ≡ Some (s ∷ others, after)
unfolding entry_at
declaration-entry room n s others semicolon closing us vs after is spells low more_entries =
    let behind_it : List Token = vs ++ closing ∷ after in
    let tokens : List Token = us ++ semicolon ∷ behind_it in
    let first : FirstIs starts_type tokens = FirstIs-append starts_type us (semicolon ∷ behind_it)
    (declaration-first s us spells) in
    ap (entries_within (entry_at room (statement_at room)) (suc n)) (append_assoc us (semicolon ∷ vs) (closing ∷ after))
    ∙ on-by (entry_at room (statement_at room)) tokens n (behind_sign-not starts_type fixed.CloseCurly tokens
    type-no_brace first)
    ∙ step _ (s, behind_it)
    (ap (λ (b : Bool). if b then (declaration_at room tokens >>= λ x. ended x.0 x.1) else statement_at room tokens)
    (begins_type-here tokens first)
    ∙ step _ (s, semicolon ∷ behind_it) (declaration-complete s us semicolon behind_it room spells is low)
    (ended-here s semicolon behind_it is))
    (step _ (others, after) more_entries refl)

-- or a statement
statement-entry : (room n : ℕ) (s : Statement) (others : List Statement) (closing : Token) (us vs after : List Token)
    → SpellsStatement s us → statement_at room (us ++ (vs ++ closing ∷ after)) ≡ Some (s, vs ++ closing ∷ after)
    → entries_within (entry_at room (statement_at room)) n (vs ++ closing ∷ after) ≡ Some (others, after)
    → entries_within (entry_at room (statement_at room)) (suc n) ((us ++ vs) ++ closing ∷ after) ≡ Some (s ∷ others, after)
unfolding entry_at
statement-entry room n s others closing us vs after spells read more_entries =
    let behind_it : List Token = vs ++ closing ∷ after in
    let tokens : List Token = us ++ behind_it in
    let first : FirstIs starts_statement tokens = FirstIs-append starts_statement us behind_it
    (statement-first s us spells) in
    ap (entries_within (entry_at room (statement_at room)) (suc n)) (append_assoc us vs (closing ∷ after))
    ∙ on-by (entry_at room (statement_at room)) tokens n
    (behind_sign-not starts_statement fixed.CloseCurly tokens statement-no_brace first)
    ∙ step _ (s, behind_it)
    (ap (λ (b : Bool). if b then (declaration_at room tokens >>= λ x. ended x.0 x.1) else statement_at room tokens)
    (begins_type-not tokens (begins-not starts_statement fixed.Int tokens statement-no_int first)
    (begins-not starts_statement fixed.Long tokens statement-no_long first)) ∙ read)
    (step _ (others, after) more_entries refl)

block-complete : (room : ℕ) (entries : List Statement) (opening closing : Token) (us after : List Token)
    → opening.kind ≡ k.OpenCurly
    → entries_within (entry_at room (statement_at room)) (suc (length (us ++ closing ∷ after))) (us ++ closing ∷ after)
    ≡ Some (entries, after)
    → statement_at (suc room) ((opening ∷ (us ++ closing ∷ [])) ++ after) ≡ Some (tree.Block (raw_joined entries), after)
unfolding statement_at entries_at block_at
block-complete room entries opening closing us after is read =
    ap (λ (l : List Token). statement_at (suc room) (opening ∷ l)) (append_assoc us (closing ∷ []) after)
    ∙ ap (λ kind. statement_by room (statement_at room) kind opening (us ++ closing ∷ after)) is
    ∙ step _ (entries, after) read refl

short-complete : (room : ℕ) (kind : Kind) (s : Statement) (word : Token) (others after : List Token) → word.kind ≡ kind
    → statement_by room (statement_at room) kind word others ≡ Some (s, after)
    → statement_at (suc room) (word ∷ others) ≡ Some (s, after)
unfolding statement_at
short-complete room kind s word others after is read = ap (λ k. statement_by room (statement_at room) k word others) is ∙ read

return-complete : (room : ℕ) (e : RawExpression) (word semicolon : Token) (us after : List Token) → word.kind ≡ k.Return
    → semicolon.kind ≡ k.Semicolon → SpellsExpression e us → expression_depth e ≤ room
    → statement_at (suc room) ((word ∷ (us ++ semicolon ∷ [])) ++ after) ≡ Some (tree.Return e, after)
return-complete room e word semicolon us after is ends spells low =
    ap (λ (l : List Token). statement_at (suc room) (word ∷ l)) (append_assoc us (semicolon ∷ []) after)
    ∙ short-complete room k.Return (tree.Return e) word (us ++ semicolon ∷ after) after is
    (step _ (e, semicolon ∷ after) (shallow-complete room e us (semicolon ∷ after) spells
    (ends-at k.Semicolon semicolon after ends refl (λ asks. cc)) low) (ended-here (tree.Return e) semicolon after ends))

mark-read : (room number : ℕ) (semicolon : Token) (us after : List Token) → semicolon.kind ≡ k.Semicolon
    → SpellsMark number us → statement_at (suc room) ((us ++ semicolon ∷ []) ++ after) ≡ Some (tree.Mark number, after)
mark-read room _ semicolon _ after is (SpellsMark.mark number word opening constant closing is_mark opens is_constant
    closes) =
    short-complete room k.MarkWord (tree.Mark number) word (opening ∷ constant ∷ closing ∷ semicolon ∷ after) after is_mark
    (step _ (number, semicolon ∷ after) (mark-complete number opening constant closing
    (semicolon ∷ after) opens is_constant closes)
    (ended-here (tree.Mark number) semicolon after is))

mutual
  -- What spells a statement is read as it, where its depth leaves room and no `else` behind it belongs to it.
  pub statement-complete : (s : Statement) (us : List Token) → SpellsStatement s us → (room : ℕ) (after : List Token)
      → statements_depth (s tree.Nil) ≤ room → (ends_open (s tree.Nil) ≡ true → begins fixed.Else after ≡ false)
      → statement_at room (us ++ after) ≡ Some (s, after)
  statement-complete s us spells zero after low follows = absurd (omega (arith, low, positive s us spells))
  statement-complete _ _ (SpellsStatement.block entries opening closing us is closes spells) (suc room) after low follows =
      block-complete room entries opening closing us after is
      (entries-complete entries us spells room (suc (length (us ++ closing ∷ after))) closing after (omega (arith, low))
      (omega (arith, length-append us (closing ∷ after))) closes)
  statement-complete _ _ (SpellsStatement.empty semicolon is) (suc room) after low follows =
      short-complete room k.Semicolon tree.Empty semicolon after after is refl
  statement-complete s _ (SpellsStatement.simple _ semicolon us ends spells) (suc room) after low follows =
      simple-read room s semicolon us after ends spells low
  statement-complete _ _ (SpellsStatement.if_alone cond first word opening closing us vs is opens closes spells_cond
      spells_first) (suc room) after low
      follows =
      if-complete room cond first word opening closing us vs after is opens closes spells_cond (omega (arith, low))
      (statement-complete first vs spells_first room after (omega (arith, low)) (λ is_open. follows refl)) (follows refl)
  statement-complete _ _ (SpellsStatement.if_else cond first second word opening closing other us vs ws is opens
      closes is_else spells_cond spells_first shut spells_second)
      (suc room) after low follows =
      if_else-complete room cond first second word opening closing other us vs ws after is opens closes is_else
      spells_cond (omega (arith, low))
      (statement-complete first vs spells_first room (other ∷ (ws ++ after)) (omega (arith, low)) (λ is_open. absurd
      (closed_for (ends_open (raw_one first)) shut is_open)))
      (statement-complete second ws spells_second room after (omega (arith, low)) follows)
  statement-complete _ _ (SpellsStatement.while cond body word opening closing us vs is opens closes spells_cond
      spells_body) (suc room) after low follows =
      while-complete room cond body word opening closing us vs after is opens closes spells_cond (omega (arith, low))
      (statement-complete body vs spells_body room after (omega (arith, low)) follows)
  statement-complete _ _ (SpellsStatement.do_while body cond first word opening closing semicolon us vs is is_while
      opens closes ends spells_body spells_cond)
      (suc room) after low follows =
      do-complete room body cond first word opening closing semicolon us vs after is is_while opens closes ends
      spells_cond (omega (arith, low))
      (λ others. statement-complete body us spells_body room (word ∷ others) (omega (arith, low))
      (λ is_open. kind-not fixed.Else word k.While is_while refl))
  statement-complete _ _ (SpellsStatement.for start cond step body word opening first second closing us vs ws xs is
      opens ends_first ends_second closes spells_start spells_cond spells_step spells_body)
      (suc room) after low follows =
      for-complete room start cond step body word opening first second closing us vs ws xs after is opens ends_first
      ends_second closes
      (within-optional SpellsStart room start us spells_start (omega (arith, low)))
      (shallow-optional room cond vs spells_cond (omega (arith, low)))
      (within-optional SpellsSimple room step ws spells_step (omega (arith, low)))
      (statement-complete body xs spells_body room after (omega (arith, low)) follows)
  statement-complete _ _ (SpellsStatement.break word semicolon is ends) (suc room) after low follows =
      short-complete room k.Break (tree.Break word.line) word (semicolon ∷ after) after is
      (ended-here (tree.Break word.line) semicolon after ends)
  statement-complete _ _ (SpellsStatement.continue word semicolon is ends) (suc room) after low follows =
      short-complete room k.Continue (tree.Continue word.line) word (semicolon ∷ after) after is
      (ended-here (tree.Continue word.line) semicolon after ends)
  statement-complete _ _ (SpellsStatement.return e word semicolon us is ends spells) (suc room) after low follows =
      return-complete room e word semicolon us after is ends spells (omega (arith, low))
  statement-complete _ _ (SpellsStatement.mark number semicolon us ends spells) (suc room) after low follows =
      mark-read room number semicolon us after ends spells

  -- What spells entries is read as them, up to a brace.
  pub entries-complete : (entries : List Statement) (us : List Token) → SpellsEntries entries us → (room n : ℕ)
      (closing : Token) (after : List Token) → statements_depth (raw_joined entries) ≤ room → length us < n
      → closing.kind ≡ k.CloseCurly
      → entries_within (entry_at room (statement_at room)) n (us ++ closing ∷ after) ≡ Some (entries, after)
  entries-complete entries us spells room zero closing after low enough is = absurd (omega (arith, enough))
  entries-complete _ _ SpellsEntries.none room (suc n) closing after low enough is =
      ap (λ behind. entries_by behind (entry_at room (statement_at room) (closing ∷ after) >>= λ x.
      entries_within (entry_at room (statement_at room)) n x.1 >>= λ y. Some (x.0 ∷ y.0, y.1)))
      (behind_sign-here fixed.CloseCurly closing after is)
  entries-complete _ _ (SpellsEntries.declaration s others semicolon us vs ends spells more_entries) room
      (suc n) closing after
      low enough is =
      let level = declaration-level s us spells (raw_joined others) in
      declaration-entry room n s others semicolon closing us vs after ends spells (omega (arith, low, level))
      (entries-complete others vs more_entries room n closing after (omega (arith, low, level))
      (omega (arith, enough, length-append us (semicolon ∷ vs))) is)
  entries-complete _ _ (SpellsEntries.statement s others us vs spells more_entries) room (suc n) closing after low enough is =
      let level = statement-level s us spells (raw_joined others) in
      let some = FirstIs-some starts_statement us (statement-first s us spells) in
      statement-entry room n s others closing us vs after spells
      (statement-complete s us spells room (vs ++ closing ∷ after) (omega (arith, low, level))
      (λ is_open. entries-no_else others vs closing after more_entries is))
      (entries-complete others vs more_entries room n closing after (omega (arith, low, level))
      (omega (arith, enough, some, length-append us vs)) is)
