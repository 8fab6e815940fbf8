-- The depth of a list is that of its first statement or of the others.
use Rattle.std.proofs.Common.{◌≡◌, max, List, arith}
use Rattle.c_ast.specs.RawTree as tree
use Rattle.c_ast.specs.RawTree.{RawStatements}
use Rattle.c_tokens.specs.declared.token.Token.{Token}
use Rattle.c_reader.specs.Declarations.{Statement, SpellsDeclaration}
use Rattle.c_reader.specs.Statements.{SpellsStatement, SpellsSimple}
use Rattle.c_reader.specs.Depth.{statements_depth}

abbrev pub PutsInFront : Statement → Type 0
PutsInFront s = (others : RawStatements) → statements_depth (s others) ≡ max (statements_depth (s tree.Nil))
    (statements_depth others)

pub simple-level : (s : Statement) (us : List Token) → SpellsSimple s us → PutsInFront s
simple-level _ _ (SpellsSimple.assignment name e word sign us named is spells) others = omega arith
simple-level _ _ (SpellsSimple.update name op e word sign us named is spells) others = omega arith
simple-level _ _ (SpellsSimple.step_behind name op word sign named is) others = omega arith
simple-level _ _ (SpellsSimple.step_before name op word sign named is) others = omega arith

pub declaration-level : (s : Statement) (us : List Token) → SpellsDeclaration s us → PutsInFront s
declaration-level _ _ (SpellsDeclaration.declaration declarators us vs type listed) others = omega arith

pub statement-level : (s : Statement) (us : List Token) → SpellsStatement s us → PutsInFront s
statement-level _ _ (SpellsStatement.block entries opening closing us is closes spells) others = omega arith
statement-level _ _ (SpellsStatement.empty semicolon is) others = omega arith
statement-level s _ (SpellsStatement.simple _ semicolon us ends spells) others = simple-level s us spells others
statement-level _ _ (SpellsStatement.if_alone cond first word opening closing us vs is opens closes spells_cond
    spells_first) others = omega arith
statement-level _ _ (SpellsStatement.if_else cond first second word opening closing other us vs ws is opens closes
    is_else spells_cond spells_first shut spells_second) others = omega arith
statement-level _ _ (SpellsStatement.while cond body word opening closing us vs is opens closes spells_cond
    spells_body) others = omega arith
statement-level _ _ (SpellsStatement.do_while body cond first word opening closing semicolon us vs is is_while opens
    closes ends spells_body spells_cond) others = omega arith
statement-level _ _ (SpellsStatement.for start cond step body word opening first second closing us vs ws xs is opens
    ends_first ends_second closes spells_start spells_cond spells_step spells_body) others = omega arith
statement-level _ _ (SpellsStatement.break word semicolon is ends) others = omega arith
statement-level _ _ (SpellsStatement.continue word semicolon is ends) others = omega arith
statement-level _ _ (SpellsStatement.return e word semicolon us is ends spells) others = omega arith
statement-level _ _ (SpellsStatement.mark number semicolon us ends spells) others = omega arith
