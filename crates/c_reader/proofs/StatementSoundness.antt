-- What is read as a statement is spelled so, and is no deeper than its room: all statements.
use Rattle.std.proofs.Common.{◌≡◌, ℕ, zero, suc, false, List, [], ◌∷◌, ◌++◌, Some, refl, subst, arith}
use Rattle.c_ast.specs.RawTree as tree
use Rattle.c_tokens.specs.declared.kind.Kind.{Kind}
use Rattle.c_tokens.specs.declared.kind.Kind.TheVariants as k
use Rattle.c_tokens.specs.declared.token.Token.{Token}
use Rattle.c_reader.specs.ReadExpressions.{◌>>=◌}
use Rattle.c_reader.specs.Declarations.{Statement}
use Rattle.c_reader.specs.Statements.{SpellsStatement, SpellsSimple, ends_open}
use Rattle.c_reader.specs.ReadDeclarations.{Reads, shallow_at}
use Rattle.c_reader.specs.ReadStatements.{simple_at, mark_at, ended, entries_at, block_at, statement_by, statement_at}
use Rattle.c_reader.proofs.Reading.{stepped, given, append_parts, cons_parts}
use Rattle.c_reader.proofs.Shallow.{shallow-sound}
use Rattle.c_reader.proofs.SimpleSoundness.{simple_at-sound, mark_at-sound}
use Rattle.c_reader.proofs.BlockSoundness.{StatementFirst, AreStatements, ended-found, entries_at-sound, if_at-sound, while_at-sound, do_at-sound, for_at-sound}

-- an assignment is no `if`
simple-closed : (s : Statement) (us : List Token) → SpellsSimple s us → ends_open (s tree.Nil) ≡ false
simple-closed _ _ (SpellsSimple.assignment name e word sign us named is spells) = refl
simple-closed _ _ (SpellsSimple.update name op e word sign us named is spells) = refl
simple-closed _ _ (SpellsSimple.step_behind name op word sign named is) = refl
simple-closed _ _ (SpellsSimple.step_before name op word sign named is) = refl

simply : (room : ℕ) (first : Token) (others : List Token) (read : Statement × List Token)
    → (simple_at (suc room) (first ∷ others) >>= λ x. ended x.0 x.1) ≡ Some read
    → StatementFirst (suc room) (first ∷ others) read.0 read.1
simply room first others read found =
    let x = stepped (simple_at (suc room) (first ∷ others)) _ read found in
    let semicolon = ended-found x.0.0 x.0.1 read x.2 in
    let at = simple_at-sound (suc room) (first ∷ others) x.0 x.1 in
    subst (λ (s : Statement). StatementFirst (suc room) (first ∷ others) s read.1) semicolon.1 (record {
      front = at.front ++ semicolon.0.token ∷ [];
      parts = append_parts at.front (semicolon.0.token ∷ []) read.1 (first ∷ others) x.0.1 at.parts semicolon.0.parts;
      spells = SpellsStatement.simple x.0.0 semicolon.0.token at.front semicolon.0.has at.spells.0;
      within = at.spells.1;
      closed = λ is_open. absurd (let shut = simple-closed x.0.0 at.front at.spells.0 in cc);
    })

statement-by : (room : ℕ) (inside : List Token → Reads Statement) (first : Token) (others : List Token) (kind : Kind)
    (read : Statement × List Token) → AreStatements room inside → first.kind ≡ kind
    → statement_by room inside kind first others ≡ Some read
    → StatementFirst (suc room) (first ∷ others) read.0 read.1
unfolding block_at
statement-by room inside first others k.OpenCurly read sound is found =
    let x = stepped (entries_at room inside others) _ read found in
    let at = entries_at-sound room inside others x.0 sound x.1 in
    subst (λ r. StatementFirst (suc room) (first ∷ others) r.0 r.1) (given x.2) (record {
      front = first ∷ (at.front ++ at.closing ∷ []);
      parts = cons_parts first (at.front ++ at.closing ∷ []) x.0.1 (first ∷ others) others refl at.parts;
      spells = SpellsStatement.block x.0.0 first at.closing at.front is at.has at.spells;
      within = omega (arith, at.within);
      closed = λ is_open. absurd cc;
    })
statement-by room inside first others k.Semicolon read sound is found =
    subst (λ r. StatementFirst (suc room) (first ∷ others) r.0 r.1) (given found) (record {
      front = first ∷ [];
      parts = refl;
      spells = SpellsStatement.empty first is;
      within = omega arith;
      closed = λ is_open. absurd cc;
    })
statement-by room inside first others k.If read sound is found = if_at-sound room inside first others read sound is found
statement-by room inside first others k.While read sound is found =
    while_at-sound room inside first others read sound is found
statement-by room inside first others k.Do read sound is found = do_at-sound room inside first others read sound is found
statement-by room inside first others k.For read sound is found = for_at-sound room inside first others read sound is found
statement-by room inside first others k.Break read sound is found =
    let semicolon = ended-found (tree.Break first.line) others read found in
    subst (λ (s : Statement). StatementFirst (suc room) (first ∷ others) s read.1) semicolon.1 (record {
      front = first ∷ semicolon.0.token ∷ [];
      parts = cons_parts first (semicolon.0.token ∷ []) read.1 (first ∷ others) others refl semicolon.0.parts;
      spells = SpellsStatement.break first semicolon.0.token is semicolon.0.has;
      within = omega arith;
      closed = λ is_open. absurd cc;
    })
statement-by room inside first others k.Continue read sound is found =
    let semicolon = ended-found (tree.Continue first.line) others read found in
    subst (λ (s : Statement). StatementFirst (suc room) (first ∷ others) s read.1) semicolon.1 (record {
      front = first ∷ semicolon.0.token ∷ [];
      parts = cons_parts first (semicolon.0.token ∷ []) read.1 (first ∷ others) others refl semicolon.0.parts;
      spells = SpellsStatement.continue first semicolon.0.token is semicolon.0.has;
      within = omega arith;
      closed = λ is_open. absurd cc;
    })
statement-by room inside first others k.Return read sound is found =
    let x = stepped (shallow_at room others) _ read found in
    let value = shallow-sound room others x.0 x.1 in
    let semicolon = ended-found (tree.Return x.0.0) x.0.1 read x.2 in
    subst (λ (s : Statement). StatementFirst (suc room) (first ∷ others) s read.1) semicolon.1 (record {
      front = first ∷ (value.at.front ++ semicolon.0.token ∷ []);
      parts = cons_parts first (value.at.front ++ semicolon.0.token ∷ []) read.1 (first ∷ others) others refl
          (append_parts value.at.front (semicolon.0.token ∷ []) read.1 others x.0.1 value.at.parts semicolon.0.parts);
      spells = SpellsStatement.return x.0.0 first semicolon.0.token value.at.front is semicolon.0.has value.at.spells;
      within = omega (arith, value.within);
      closed = λ is_open. absurd cc;
    })
statement-by room inside first others k.MarkWord read sound is found =
    let x = stepped (mark_at others) _ read found in
    let at = mark_at-sound first others x.0 is x.1 in
    let semicolon = ended-found (tree.Mark x.0.0) x.0.1 read x.2 in
    subst (λ (s : Statement). StatementFirst (suc room) (first ∷ others) s read.1) semicolon.1 (record {
      front = at.front ++ semicolon.0.token ∷ [];
      parts = append_parts at.front (semicolon.0.token ∷ []) read.1 (first ∷ others) x.0.1 at.parts semicolon.0.parts;
      spells = SpellsStatement.mark x.0.0 semicolon.0.token at.front semicolon.0.has at.spells;
      within = omega arith;
      closed = λ is_open. absurd cc;
    })
statement-by room inside first others _ read sound is found = simply room first others read found

-- What is read as a statement stands there so, and is no deeper than its room.
pub statement_at-sound : (room : ℕ) → AreStatements room (statement_at room)
unfolding statement_at
statement_at-sound zero tokens read found = absurd cc
statement_at-sound (suc room) [] read found = absurd cc
statement_at-sound (suc room) (first ∷ others) read found =
    statement-by room (statement_at room) first others first.kind read (statement_at-sound room) refl found
