-- The fault that is met is the first one, and what is made without one is what the statements stand for.
use Rattle.std.proofs.Common.{◌≡◌, ℕ, suc, ◌+◌, Bool, true, false, List, [], ◌∷◌, ◌++◌, length, Option, Some, None, Result, Ok, Err, refl, sym, ap, ◌∙◌, subst, append_assoc, append-nil, length-append, arith}
use Rattle.c_ast.specs.declared.func.Var.{Var}
use Rattle.c_ast.specs.RawTree as raw
use Rattle.c_ast.specs.RawTree.{RawExpression, RawCondition, RawDeclared, RawStatements}
use Rattle.c_ast.specs.RawShape.{AreShaped}
use Rattle.c_ast.specs.Tree as tree
use Rattle.c_ast.specs.Tree.{Expression, Statements}
use Rattle.c_check.specs.declared.fault.CheckFault.{CheckFault}
use Rattle.c_check.specs.declared.resolver.Resolver.{Resolver}
use Rattle.c_check.specs.Contents.{declared_in, loops_in}
use Rattle.c_check.specs.Resolves.{Bindings, binding, ResolvesExpression, ResolvesCondition, stands, Counts, one_variable_more, one_loop_more, behind, loop_mark, named_mark, followed_by, with_declared, scope_in_for, Resolves, none, declared, declares, initialises, assigns, branches, chooses, while_loop, do_loop, for_loop, breaks, continues, returns, marks, block, empty}
use Rattle.c_check.specs.Occurrences.{Names, Occurrence, Use, Declaration, Jump, Marked, in_expression, in_initialiser, in_condition, in_condition_option, with_names, names_in_for, in_declarators, occurrences}
use Rattle.c_check.specs.Faults.{fault_of}
use Rattle.c_check.specs.Table.{Table, scope_of, names_of, block_names, around}
use Rattle.c_check.specs.Resolving.{unless_fault, scope_at, counts_at, entered, left, with_loop, with_variable, declared_at, marked_at, variable_in, expression_in, initial_value, MadeCondition, condition_at, condition_option_at, Made, made, with_front, closed, begun, declarators_at, statements_at}
use Rattle.c_check.proofs.ForParts.{ForStart, no_start, declares_start, assigns_start, for_start}
use Rattle.c_check.proofs.Meeting.{and_then, Meets, Passes, passes_nothing, passes_then, meets_behind, meets_then, meets_one, Stands, variable_meets, Means, expression_meets, Begun, Begins, initial_meets, Grows, grows_nothing, grows_then, counts_behind, Marks, mark_meets, Tests, counts_still, condition_option_meets}

-- what statements say where they stand
abbrev pub said : Table → Bool → RawStatements → List Occurrence
said table in_loop stmts = occurrences (names_of (scope_of table)) (block_names table) in_loop stmts

-- what statements stand for
pub record Makes (table : Table) (old : Resolver) (in_loop : Bool) (stmts : RawStatements) (found : Made) : Type 0 where
  pub resolves : Resolves (scope_of table) (counts_at old) stmts found.stmts
  pub passes : Passes old.marks (said table in_loop stmts) found.at.marks
  pub grows : Grows old found.at (declared_in stmts) (loops_in stmts)
  pub outer : found.at.table.outer ≡ table.outer

-- what a block stands for where these variables are in scope
pub record MakesBlock (scope : Bindings) (old : Resolver) (in_loop : Bool) (stmts : RawStatements) (found : Made) : Type 0 where
  pub resolves : Resolves scope (counts_at old) stmts found.stmts
  pub passes : Passes old.marks (occurrences (names_of scope) [] in_loop stmts) found.at.marks
  pub grows : Grows old found.at (declared_in stmts) (loops_in stmts)
  pub table : found.at.table ≡ old.table

meets_closed : (old : Resolver) (in_loop : Bool) (stmts : RawStatements) (answer : Result Made CheckFault)
    → Meets (Makes (entered old).table (entered old) in_loop stmts) old.marks (occurrences (names_of (scope_at old)) [] in_loop stmts) answer
    → Meets (MakesBlock (scope_at old) old in_loop stmts) old.marks (occurrences (names_of (scope_at old)) [] in_loop stmts) (closed answer)
meets_closed old in_loop stmts (Ok inner) makes = record {
  resolves = makes.resolves;
  passes = makes.passes;
  grows = record { vars = makes.grows.vars; loops = makes.grows.loops };
  table = ap around makes.outer;
}
meets_closed old in_loop stmts (Err first) makes = makes

meets_front : (means meaning : Made → Type 0) (marks : List ℕ) (here : List Occurrence) (front : Statements → Statements) (answer : Result Made CheckFault)
    → Meets means marks here answer
    → ((found : Made) → means found → meaning (made found.at (front found.stmts))) → Meets meaning marks here (with_front front answer)
meets_front means meaning known here front (Ok found) meets next = next found meets
meets_front means meaning known here front (Err first) meets next = meets

-- ---- parts of statements, and then the rest

with_expression : {B : Type 0} (meaning : B → Type 0) (scope : Bindings) (known : List ℕ) (expr : RawExpression) (rest : List Occurrence) (next : Expression
    → Result B CheckFault)
    → ((value : Expression) → Means scope known expr value → Meets meaning known rest (next value))
    → Meets meaning known (in_expression (names_of scope) expr ++ rest) (and_then (expression_in scope expr) next)
with_expression meaning scope known expr rest next meets =
    meets_then (Means scope known expr) meaning known (in_expression (names_of scope) expr) rest (expression_in scope expr) next
    (expression_meets scope known expr)
    (λ value means. meets_behind meaning known known (in_expression (names_of scope) expr) rest (next value) means.passes (meets value means))

with_block : {B : Type 0} (meaning : B → Type 0) (scope : Bindings) (at : Resolver) (in_loop : Bool) (part : RawStatements) (rest : List Occurrence)
    (next : Made → Result B CheckFault) → scope_at at ≡ scope
    → Meets (Makes (entered at).table (entered at) in_loop part) at.marks (occurrences (names_of (scope_at at)) [] in_loop part)
    (statements_at (entered at) in_loop part)
    → ((found : Made) → MakesBlock scope at in_loop part found → Meets meaning found.at.marks rest (next found))
    → Meets meaning at.marks (occurrences (names_of scope) [] in_loop part ++ rest) (and_then (closed (statements_at (entered at) in_loop part)) next)
with_block meaning scope at in_loop part rest next same inner meets =
    meets_then (MakesBlock scope at in_loop part) meaning at.marks (occurrences (names_of scope) [] in_loop part) rest
    (closed (statements_at (entered at) in_loop part)) next
    (subst (λ (bindings : Bindings). Meets (MakesBlock bindings at in_loop part) at.marks (occurrences (names_of bindings) [] in_loop part)
    (closed (statements_at (entered at) in_loop part))) same (meets_closed at in_loop part (statements_at (entered at) in_loop part) inner))
    (λ found makes. meets_behind meaning at.marks found.at.marks (occurrences (names_of scope) [] in_loop part) rest (next found) makes.passes
    (meets found makes))

-- what a condition stands for where these variables are in scope
record TestsIn (scope : Bindings) (at : Resolver) (test : Option RawCondition) (found : MadeCondition) : Type 0 where
  pub resolves : ResolvesCondition scope test found.cond
  pub passes : Passes at.marks (in_condition_option (names_of scope) test) found.at.marks
  pub table : found.at.table ≡ at.table
  pub grows : Grows at found.at [] 0

tests_in : (at : Resolver) (test : Option RawCondition) (answer : Result MadeCondition CheckFault)
    → Meets (Tests at test) at.marks (in_condition_option (names_of (scope_at at)) test) answer
    → Meets (TestsIn (scope_at at) at test) at.marks (in_condition_option (names_of (scope_at at)) test) answer
tests_in at test (Ok found) tests = record { resolves = tests.resolves; passes = tests.passes; table = tests.table; grows = tests.grows }
tests_in at test (Err first) tests = tests

with_test : {B : Type 0} (meaning : B → Type 0) (scope : Bindings) (at : Resolver) (test : Option RawCondition) (rest : List Occurrence)
    (next : MadeCondition → Result B CheckFault) → scope_at at ≡ scope
    → ((found : MadeCondition) → TestsIn scope at test found → Meets meaning found.at.marks rest (next found))
    → Meets meaning at.marks (in_condition_option (names_of scope) test ++ rest) (and_then (condition_option_at at test) next)
with_test meaning scope at test rest next same meets =
    meets_then (TestsIn scope at test) meaning at.marks (in_condition_option (names_of scope) test) rest (condition_option_at at test) next
    (subst (λ (bindings : Bindings). Meets (TestsIn bindings at test) at.marks (in_condition_option (names_of bindings) test) (condition_option_at at test))
    same (tests_in at test (condition_option_at at test) (condition_option_meets at test)))
    (λ found tests. meets_behind meaning at.marks found.at.marks (in_condition_option (names_of scope) test) rest (next found) tests.passes (meets found tests))

-- the rest of a list, at a place with this table
with_others : (meaning : Made → Type 0) (table : Table) (at : Resolver) (in_loop : Bool) (others : RawStatements) (front : Statements → Statements)
    → at.table ≡ table
    → Meets (Makes at.table at in_loop others) at.marks (said at.table in_loop others) (statements_at at in_loop others)
    → ((found : Made) → Makes table at in_loop others found → meaning (made found.at (front found.stmts)))
    → Meets meaning at.marks (said table in_loop others) (with_front front (statements_at at in_loop others))
with_others meaning table at in_loop others front same meets next =
    meets_front (Makes table at in_loop others) meaning at.marks (said table in_loop others) front (statements_at at in_loop others)
    (subst (λ (some_table : Table). Meets (Makes some_table at in_loop others) at.marks (said some_table in_loop others) (statements_at at in_loop others))
    same meets) next

counted : (scope : Bindings) (old before : Counts) (stmts : RawStatements) (found : Statements) → old ≡ before → Resolves scope old stmts found
    → Resolves scope before stmts found
counted scope old before stmts found same resolves = subst (λ (counts_ : Counts). Resolves scope counts_ stmts found) same resolves

-- ---- declarations

begun_resolves : (scope : Bindings) (before : Counts) (var : Var) (initialiser : Option RawExpression) (value : Option Expression)
    (declarators : List RawDeclared) (others : RawStatements) (made : Statements)
    → Begun (binding var before.vars ∷ scope) initialiser value
    → Resolves (binding var before.vars ∷ scope) (one_variable_more before) (raw.Declare declarators others) made
    → Resolves scope before (raw.Declare (record { var = var; initialiser = initialiser } ∷ declarators) others) (begun before.vars value made)
begun_resolves scope before var None None declarators others made begins resolves = declares scope before var declarators others made resolves
begun_resolves scope before var None (Some value) declarators others made begins resolves = absurd begins
begun_resolves scope before var (Some expr) None declarators others made begins resolves = absurd begins
begun_resolves scope before var (Some expr) (Some value) declarators others made begins resolves =
    initialises scope before var expr declarators others value made begins resolves

pub declared_meets : (at : Resolver) (var : Var)
    → Meets (λ (place : Resolver). (place ≡ with_variable at var) × Passes at.marks (Declaration (block_names at.table) var.name var.line ∷ []) at.marks)
    at.marks
    (Declaration (block_names at.table) var.name var.line ∷ []) (declared_at at var)
declared_meets at var =
    meets_one (λ (place : Resolver). (place ≡ with_variable at var) × Passes at.marks (Declaration (block_names at.table) var.name var.line ∷ []) at.marks)
    at.marks
    (Declaration (block_names at.table) var.name var.line) (fault_of at.marks (Declaration (block_names at.table) var.name var.line))
    (with_variable at var) refl (λ passes. (refl, passes))

counts_more : (at : Resolver) (var : Var) → counts_at (with_variable at var) ≡ one_variable_more (counts_at at)
counts_more at var = ap (λ (n : ℕ). record { vars = n; loops = at.loops }) (length-append at.vars (var ∷ []) ∙ omega arith)

declares_meets : (in_loop : Bool) (others : RawStatements)
    → ((at : Resolver) → Meets (Makes at.table at in_loop others) at.marks (said at.table in_loop others) (statements_at at in_loop others))
    → (declarators : List RawDeclared) (at : Resolver)
    → Meets (Makes at.table at in_loop (raw.Declare declarators others)) at.marks (said at.table in_loop (raw.Declare declarators others))
    (statements_at at in_loop (raw.Declare declarators others))
declares_meets in_loop others meets [] at = empty_declares (statements_at at in_loop others) (meets at)
  where
    empty_declares : (answer : Result Made CheckFault) → Meets (Makes at.table at in_loop others) at.marks (said at.table in_loop others) answer
        → Meets (Makes at.table at in_loop (raw.Declare [] others)) at.marks (said at.table in_loop (raw.Declare [] others)) answer
    empty_declares (Ok found) makes = record {
      resolves = declared (scope_at at) (counts_at at) others found.stmts makes.resolves;
      passes = makes.passes;
      grows = makes.grows;
      outer = makes.outer;
    }
    empty_declares (Err first) fails = fails
declares_meets in_loop others meets (first ∷ declarators) at =
    let names = names_of (scope_at at) in
    let block = block_names at.table in
    let next = with_variable at first.var in
    let whole = Makes at.table at in_loop (raw.Declare (first ∷ declarators) others) in
    let rest = in_initialiser (first.var.name ∷ names) first.initialiser ++ said next.table in_loop (raw.Declare declarators others) in
    let shape : (Declaration block first.var.name first.var.line ∷ []) ++ rest ≡ said at.table in_loop (raw.Declare (first ∷ declarators) others) =
    ap (λ (list : List Occurrence). Declaration block first.var.name first.var.line ∷ list)
    (sym (append_assoc (in_initialiser (first.var.name ∷ names) first.initialiser)
    (in_declarators (first.var.name ∷ names) (first.var.name ∷ block) declarators)
    (occurrences (with_names declarators (first.var.name ∷ names)) (with_names declarators (first.var.name ∷ block)) in_loop others))) in
    subst (λ (here : List Occurrence). Meets whole at.marks here (statements_at at in_loop (raw.Declare (first ∷ declarators) others))) shape
    (meets_then (λ (place : Resolver). (place ≡ with_variable at first.var) × Passes at.marks (Declaration block first.var.name first.var.line ∷ [])
    at.marks) whole at.marks (Declaration block first.var.name first.var.line ∷ []) rest
    (declared_at at first.var)
    (λ (place : Resolver). and_then (initial_value (scope_at place) first.initialiser)
    (λ (value : Option Expression). with_front (begun (length at.vars) value)
    (declarators_at place declarators (λ (place : Resolver). statements_at place in_loop others))))
    (declared_meets at first.var)
    (λ place facts. subst (λ (here : Resolver). Meets whole at.marks ((Declaration block first.var.name first.var.line ∷ []) ++ rest)
    (and_then (initial_value (scope_at here) first.initialiser) (λ (value : Option Expression). with_front (begun (length at.vars) value)
    (declarators_at here declarators (λ (place : Resolver). statements_at place in_loop others))))) (sym facts.0)
    (meets_behind whole at.marks at.marks (Declaration block first.var.name first.var.line ∷ []) rest
    (and_then (initial_value (scope_at next) first.initialiser) (λ (value : Option Expression). with_front (begun (length at.vars) value)
    (declarators_at next declarators (λ (place : Resolver). statements_at place in_loop others)))) facts.1
    (meets_then (Begins (scope_at next) at.marks first.initialiser) whole at.marks (in_initialiser (first.var.name ∷ names) first.initialiser)
    (said next.table in_loop (raw.Declare declarators others)) (initial_value (scope_at next) first.initialiser)
    (λ (value : Option Expression). with_front (begun (length at.vars) value)
    (declarators_at next declarators (λ (place : Resolver). statements_at place in_loop others))) (initial_meets (scope_at next) at.marks first.initialiser)
    (λ value begins. meets_behind whole at.marks at.marks (in_initialiser (first.var.name ∷ names) first.initialiser)
    (said next.table in_loop (raw.Declare declarators others))
    (with_front (begun (length at.vars) value) (statements_at next in_loop (raw.Declare declarators others))) begins.passes
    (meets_front (Makes next.table next in_loop (raw.Declare declarators others)) whole at.marks (said next.table in_loop (raw.Declare declarators others))
    (begun (length at.vars) value) (statements_at next in_loop (raw.Declare declarators others))
    (declares_meets in_loop others meets declarators next)
    (λ found makes. record {
      resolves = begun_resolves (scope_at at) (counts_at at) first.var first.initialiser value declarators others found.stmts begins.begun
          (subst (λ (before : Counts). Resolves (scope_at next) before (raw.Declare declarators others) found.stmts) (counts_more at first.var) makes.resolves);
      passes = subst (λ (here : List Occurrence). Passes at.marks here found.at.marks) shape
          (passes_then at.marks at.marks found.at.marks (Declaration block first.var.name first.var.line ∷ []) rest facts.1
          (passes_then at.marks at.marks found.at.marks (in_initialiser (first.var.name ∷ names) first.initialiser)
          (said next.table in_loop (raw.Declare declarators others)) begins.passes makes.passes));
      grows = record {
        vars = makes.grows.vars ∙ append_assoc at.vars (first.var ∷ []) (declared_in (raw.Declare declarators others));
        loops =
            makes.grows.loops;
      };
      outer = makes.outer;
    })))))))

no_loops : (old new : Resolver) (added : List Var) (n : ℕ) → Grows old new added (0 + n) → Grows old new added n
no_loops old new added n grows = record { vars = grows.vars; loops = omega (arith, grows.loops) }

more_loops : (old new : Resolver) (added : List Var) (n : ℕ) → Grows old new added (1 + n) → Grows old new added (suc n)
more_loops old new added n grows = record { vars = grows.vars; loops = omega (arith, grows.loops) }

-- ---- one occurrence, and then the rest of a list

jumps : (at : Resolver) (in_loop : Bool) (line : ℕ)
    → Meets (λ (place : Resolver). (place ≡ at) × Passes at.marks (Jump in_loop line ∷ []) at.marks) at.marks (Jump in_loop line ∷ [])
    (unless_fault (fault_of at.marks (Jump in_loop line)) at)
jumps at in_loop line =
    meets_one (λ (place : Resolver). (place ≡ at) × Passes at.marks (Jump in_loop line ∷ []) at.marks) at.marks (Jump in_loop line)
    (fault_of at.marks (Jump in_loop line)) at refl (λ passes. (refl, passes))

jump_meets : (at : Resolver) (in_loop : Bool) (line : ℕ) (stmts others : RawStatements) (front : Statements → Statements)
    → Meets (Makes at.table at in_loop others) at.marks (said at.table in_loop others) (statements_at at in_loop others)
    → ((found : Made) → Makes at.table at in_loop others found → Passes at.marks (Jump in_loop line ∷ said at.table in_loop others) found.at.marks
    → Makes at.table at in_loop stmts (made found.at (front found.stmts)))
    → Meets (Makes at.table at in_loop stmts) at.marks (Jump in_loop line ∷ said at.table in_loop others)
    (and_then (unless_fault (fault_of at.marks (Jump in_loop line)) at) (λ (place : Resolver). with_front front (statements_at place in_loop others)))
jump_meets at in_loop line stmts others front meets next =
    meets_then (λ (place : Resolver). (place ≡ at) × Passes at.marks (Jump in_loop line ∷ []) at.marks) (Makes at.table at in_loop stmts) at.marks
    (Jump in_loop line ∷ []) (said at.table in_loop others)
    (unless_fault (fault_of at.marks (Jump in_loop line)) at) (λ (place : Resolver). with_front front (statements_at place in_loop others))
    (jumps at in_loop line)
    (λ place facts. subst (λ (place : Resolver). Meets (Makes at.table at in_loop stmts) at.marks (Jump in_loop line ∷ said at.table in_loop others)
    (with_front front (statements_at place in_loop others))) (sym facts.0)
    (meets_behind (Makes at.table at in_loop stmts) at.marks at.marks (Jump in_loop line ∷ []) (said at.table in_loop others)
    (with_front front (statements_at at in_loop others)) facts.1
    (with_others (Makes at.table at in_loop stmts) at.table at in_loop others front refl meets
    (λ found makes. next found makes (passes_then at.marks at.marks found.at.marks (Jump in_loop line ∷ [])
    (said at.table in_loop others) facts.1 makes.passes)))))

-- ---- the first part of a `for` head

-- what a value means, where there is no fault
abbrev Holds : {A : Type 0} → (A → Type 0) → Result A CheckFault → Type 0
Holds says (Ok value) = says value
Holds says (Err first) = Unit {0}

holds_then : {A B : Type 0} (says : B → Type 0) (answer : Result A CheckFault) (next : A → Result B CheckFault) → ((value : A) → Holds says (next value))
    → Holds says (and_then answer next)
holds_then says (Ok value) next holds = holds value
holds_then says (Err first) next holds = tt

holds_unless : {A B : Type 0} (says : B → Type 0) (found : Option CheckFault) (value : A) (next : A → Result B CheckFault) → Holds says (next value)
    → Holds says (and_then (unless_fault found value) next)
holds_unless says None value next holds = holds
holds_unless says (Some first) value next holds = tt

-- the scope behind is this one
abbrev HasScope : Bindings → Made → Type 0
HasScope scope found = scope_at found.at ≡ scope

holds_front : (scope : Bindings) (front : Statements → Statements) (answer : Result Made CheckFault) → Holds (HasScope scope) answer
    → Holds (HasScope scope) (with_front front answer)
holds_front scope front (Ok found) holds = holds
holds_front scope front (Err first) holds = tt

scope_of_declarators : (declarators : List RawDeclared) (at : Resolver)
    → Holds (HasScope (with_declared declarators (length at.vars) (scope_at at)))
    (declarators_at at declarators (λ (place : Resolver). Ok (made place tree.Nil)))
scope_of_declarators [] at = refl
scope_of_declarators (first ∷ declarators) at =
    let next = with_variable at first.var in
    let scope = with_declared (first ∷ declarators) (length at.vars) (scope_at at) in
    let same : with_declared declarators (length next.vars) (scope_at next) ≡ scope =
    ap (λ (n : ℕ). with_declared declarators n (scope_at next)) (length-append at.vars (first.var ∷ []) ∙ omega arith) in
    holds_unless (HasScope scope) (fault_of at.marks (Declaration (block_names at.table) first.var.name first.var.line)) next
    (λ (here : Resolver). and_then (initial_value (scope_at here) first.initialiser)
    (λ (value : Option Expression). with_front (begun (length at.vars) value)
    (declarators_at here declarators (λ (place : Resolver). Ok (made place tree.Nil)))))
    (holds_then (HasScope scope) (initial_value (scope_at next) first.initialiser) (λ (value : Option Expression). with_front (begun (length at.vars) value)
    (declarators_at next declarators (λ (place : Resolver). Ok (made place tree.Nil))))
    (λ value. holds_front scope (begun (length at.vars) value) (declarators_at next declarators (λ (place : Resolver). Ok (made place tree.Nil)))
    (subst (λ (bindings : Bindings). Holds (HasScope bindings) (declarators_at next declarators (λ (place : Resolver). Ok (made place tree.Nil)))) same
    (scope_of_declarators declarators next))))

scope_behind : (at : Resolver) (in_loop : Bool) (start : RawStatements) → ForStart start
    → Holds (HasScope (scope_in_for start (length at.vars) (scope_at at))) (statements_at at in_loop start)
scope_behind at in_loop _ no_start = refl
scope_behind at in_loop _ (declares_start declarators) = scope_of_declarators declarators at
scope_behind at in_loop _ (assigns_start name line expr) =
    holds_then (HasScope (scope_at at)) (variable_in (scope_at at) name line)
    (λ (number : ℕ). and_then (expression_in (scope_at at) expr) (λ (value : Expression). with_front (tree.Set number value) (Ok (made at tree.Nil))))
    (λ number. holds_then (HasScope (scope_at at)) (expression_in (scope_at at) expr)
    (λ (value : Expression). with_front (tree.Set number value) (Ok (made at tree.Nil))) (λ value. refl))

names_declared : (declarators : List RawDeclared) (number : ℕ) (scope : Bindings)
    → names_of (with_declared declarators number scope) ≡ with_names declarators (names_of scope)
names_declared [] number scope = refl
names_declared (first ∷ declarators) number scope = names_declared declarators (suc number) (binding first.var number ∷ scope)

names_behind : (start : RawStatements) (number : ℕ) (scope : Bindings) → ForStart start
    → names_of (scope_in_for start number scope) ≡ names_in_for start (names_of scope)
names_behind _ number scope no_start = refl
names_behind _ number scope (declares_start declarators) = names_declared declarators number scope
names_behind _ number scope (assigns_start name line expr) = refl

meets_and : {A : Type 0} (means says : A → Type 0) (known : List ℕ) (here : List Occurrence) (answer : Result A CheckFault) → Meets means known here answer
    → Holds says answer → Meets (λ (value : A). means value × says value) known here answer
meets_and means says known here (Ok value) meets holds = (meets, holds)
meets_and means says known here (Err first) meets holds = meets

-- ---- loops

one_loop : (at : Resolver) → Grows at (with_loop at) [] 1
one_loop at = record { vars = sym (append-nil at.vars); loops = omega arith }

pub counts_as : (at : Resolver) (before : Counts) → length at.vars ≡ before.vars → at.loops ≡ before.loops → counts_at at ≡ before
counts_as at before vars loops = ap (λ (k : ℕ). counts_of k at.loops) vars ∙ ap (λ (k : ℕ). counts_of before.vars k) loops
  where
    counts_of : ℕ → ℕ → Counts
    counts_of vars loops = record { vars = vars; loops = loops }

counts_loop : (old new : Resolver) → Grows old new [] 1 → counts_at new ≡ one_loop_more (counts_at old)
counts_loop old new grows = counts_as new (one_loop_more (counts_at old)) (ap length grows.vars ∙ ap length (append-nil old.vars)) (omega (arith, grows.loops))

length-vars : (old between new : Resolver) (part : RawStatements) → Grows old between (declared_in part) (loops_in part) → Grows between new [] 0
    → length new.vars ≡ length old.vars + length (declared_in part)
length-vars old between new part first second = ap length second.vars ∙ ap length (append-nil between.vars) ∙ ap length first.vars
    ∙ length-append old.vars (declared_in part)

loops-more : (old between new : Resolver) (part : RawStatements) → Grows old between (declared_in part) (loops_in part) → Grows between new [] 0
    → new.loops ≡ old.loops + loops_in part
loops-more old between new part first second = omega (arith, first.loops, second.loops)

tested : (scope : Bindings) (test : RawCondition) (cond : Expression) → ResolvesCondition scope (Some test) cond → ResolvesExpression scope test.cond cond
tested scope test cond (stands _ _ resolves) = resolves

-- ---- statements

pub statements_meet : (at : Resolver) (in_loop : Bool) (stmts : RawStatements) → AreShaped stmts
    → Meets (Makes at.table at in_loop stmts) at.marks (said at.table in_loop stmts) (statements_at at in_loop stmts)
statements_meet at in_loop raw.Nil shaped = record {
  resolves = none (scope_at at) (counts_at at);
  passes = passes_nothing at.marks;
  grows =
      grows_nothing at at refl refl;
  outer = refl;
}
statements_meet at in_loop (raw.Declare declarators others) shaped =
    declares_meets in_loop others (λ place. statements_meet place in_loop others shaped.1) declarators at
statements_meet at in_loop (raw.Assign name line expr others) shaped =
    let scope = scope_at at in
    let named = Use (names_of scope) name line ∷ [] in
    let uses = in_expression (names_of scope) expr in
    let rest = said at.table in_loop others in
    let whole = Makes at.table at in_loop (raw.Assign name line expr others) in
    meets_then (Stands scope at.marks name line) whole at.marks named (uses ++ rest) (variable_in scope name line)
    (λ (number : ℕ). and_then (expression_in scope expr) (λ (value : Expression). with_front (tree.Set number value) (statements_at at in_loop others)))
    (variable_meets scope at.marks name line)
    (λ number stands. meets_behind whole at.marks at.marks named (uses ++ rest)
    (and_then (expression_in scope expr) (λ (value : Expression). with_front (tree.Set number value) (statements_at at in_loop others))) stands.passes
    (with_expression whole scope at.marks expr rest (λ (value : Expression). with_front (tree.Set number value) (statements_at at in_loop others))
    (λ value means. with_others whole at.table at in_loop others (tree.Set number value) refl (statements_meet at in_loop others shaped.1)
    (λ found makes. record {
      resolves = assigns scope (counts_at at) name line number expr others value found.stmts stands.is means.resolves makes.resolves;
      passes = passes_then at.marks at.marks found.at.marks named (uses ++ rest) stands.passes
          (passes_then at.marks at.marks found.at.marks uses rest means.passes makes.passes);
      grows = makes.grows;
      outer = makes.outer;
    }))))
statements_meet at in_loop (raw.If test branch others) shaped =
    let scope = scope_at at in
    let uses = in_expression (names_of scope) test in
    let inner = occurrences (names_of scope) [] in_loop branch in
    let rest = said at.table in_loop others in
    let whole = Makes at.table at in_loop (raw.If test branch others) in
    with_expression whole scope at.marks test (inner ++ rest) (λ (cond : Expression). and_then (closed (statements_at (entered at) in_loop branch))
    (λ (first : Made). with_front (tree.If cond first.stmts tree.Nil) (statements_at first.at in_loop others)))
    (λ cond means. with_block whole scope at in_loop branch rest
    (λ (first : Made). with_front (tree.If cond first.stmts tree.Nil) (statements_at first.at in_loop others)) refl
    (statements_meet (entered at) in_loop branch shaped.1)
    (λ first block. with_others whole at.table first.at in_loop others (tree.If cond first.stmts tree.Nil) block.table
    (statements_meet first.at in_loop others shaped.2)
    (λ found makes. record {
      resolves = branches scope (counts_at at) test branch others cond first.stmts found.stmts means.resolves block.resolves
          (counted scope (counts_at first.at) (behind branch (counts_at at)) others found.stmts (counts_behind at first.at branch block.grows) makes.resolves);
      passes = passes_then at.marks at.marks found.at.marks uses (inner ++ rest) means.passes
          (passes_then at.marks first.at.marks found.at.marks inner rest block.passes makes.passes);
      grows = grows_then at first.at found.at (declared_in branch) (declared_in others) (loops_in branch) (loops_in others) block.grows makes.grows;
      outer = makes.outer;
    })))
statements_meet at in_loop (raw.IfElse test branch alternative others) shaped =
    let scope = scope_at at in
    let uses = in_expression (names_of scope) test in
    let one = occurrences (names_of scope) [] in_loop branch in
    let two = occurrences (names_of scope) [] in_loop alternative in
    let rest = said at.table in_loop others in
    let whole = Makes at.table at in_loop (raw.IfElse test branch alternative others) in
    with_expression whole scope at.marks test (one ++ (two ++ rest))
    (λ (cond : Expression). and_then (closed (statements_at (entered at) in_loop branch))
    (λ (first : Made). and_then (closed (statements_at (entered first.at) in_loop alternative))
    (λ (second : Made). with_front (tree.If cond first.stmts second.stmts) (statements_at second.at in_loop others))))
    (λ cond means. with_block whole scope at in_loop branch (two ++ rest)
    (λ (first : Made). and_then (closed (statements_at (entered first.at) in_loop alternative))
    (λ (second : Made). with_front (tree.If cond first.stmts second.stmts) (statements_at second.at in_loop others))) refl
    (statements_meet (entered at) in_loop branch shaped.1)
    (λ first block. with_block whole scope first.at in_loop alternative rest (λ (second : Made). with_front (tree.If cond first.stmts second.stmts)
    (statements_at second.at in_loop others)) (ap scope_of block.table)
    (statements_meet (entered first.at) in_loop alternative shaped.2)
    (λ second other. with_others whole at.table second.at in_loop others (tree.If cond first.stmts second.stmts) (other.table
    ∙ block.table) (statements_meet second.at in_loop others shaped.3)
    (λ found makes.
    let between = counts_behind at first.at branch block.grows in
    record {
      resolves = chooses scope (counts_at at) test branch alternative others cond first.stmts second.stmts found.stmts means.resolves block.resolves
          (counted scope (counts_at first.at) (behind branch (counts_at at)) alternative second.stmts between other.resolves)
          (counted scope (counts_at second.at) (behind alternative (behind branch (counts_at at))) others found.stmts
          (counts_behind first.at second.at alternative other.grows ∙ ap (behind alternative) between) makes.resolves);
      passes = passes_then at.marks at.marks found.at.marks uses (one ++ (two ++ rest)) means.passes
          (passes_then at.marks first.at.marks found.at.marks one (two ++ rest) block.passes
          (passes_then first.at.marks second.at.marks found.at.marks two rest other.passes makes.passes));
      grows = grows_then at first.at found.at (declared_in branch) (declared_in alternative ++ declared_in others) (loops_in branch)
          (loops_in alternative + loops_in others) block.grows
          (grows_then first.at second.at found.at (declared_in alternative) (declared_in others) (loops_in alternative)
          (loops_in others) other.grows makes.grows);
      outer = makes.outer;
    }))))
statements_meet at in_loop (raw.While test turn others) shaped =
    let scope = scope_at at in
    let begun_at = with_loop at in
    let uses = in_condition (names_of scope) test in
    let inner = occurrences (names_of scope) [] true turn in
    let rest = said at.table in_loop others in
    let whole = Makes at.table at in_loop (raw.While test turn others) in
    let front : MadeCondition → Made → Statements
    → Statements = λ cond body. tree.Loop (loop_mark test.mark turn at.loops) cond.cond body.stmts tree.Nil true in
    with_test whole scope begun_at (Some test) (inner ++ rest)
    (λ (cond : MadeCondition). and_then (closed (statements_at (entered cond.at) true turn))
    (λ (body : Made). with_front (front cond body) (statements_at body.at in_loop others))) refl
    (λ cond tests. with_block whole scope cond.at true turn rest (λ (body : Made). with_front (front cond body) (statements_at body.at in_loop others))
    (ap scope_of tests.table) (statements_meet (entered cond.at) true turn shaped.1)
    (λ body in_body. with_others whole at.table body.at in_loop others (front cond body) (in_body.table
    ∙ tests.table) (statements_meet body.at in_loop others shaped.2)
    (λ found makes.
    let one = one_loop at in
    let ready = grows_then at begun_at cond.at [] [] 1 0 one tests.grows in
    let counts : counts_at cond.at ≡ one_loop_more (counts_at at) = counts_loop at cond.at ready in
    record {
      resolves = while_loop scope (counts_at at) test turn others cond.cond body.stmts found.stmts (tested scope test cond.cond tests.resolves)
          (counted scope (counts_at cond.at) (one_loop_more (counts_at at)) turn body.stmts counts in_body.resolves)
          (counted scope (counts_at body.at) (behind turn (one_loop_more (counts_at at))) others found.stmts
          (counts_behind cond.at body.at turn in_body.grows ∙ ap (behind turn) counts) makes.resolves);
      passes = passes_then at.marks cond.at.marks found.at.marks uses (inner ++ rest) tests.passes
          (passes_then cond.at.marks body.at.marks found.at.marks inner rest in_body.passes makes.passes);
      grows = more_loops at found.at (declared_in turn ++ declared_in others) (loops_in turn + loops_in others)
          (grows_then at cond.at found.at [] (declared_in turn ++ declared_in others) 1 (loops_in turn + loops_in others) ready
          (grows_then cond.at body.at found.at (declared_in turn) (declared_in others) (loops_in turn) (loops_in others) in_body.grows makes.grows));
      outer = makes.outer;
    })))
statements_meet at in_loop (raw.Do turn test others) shaped =
    let scope = scope_at at in
    let begun_at = with_loop at in
    let uses = in_condition (names_of scope) test in
    let inner = occurrences (names_of scope) [] true turn in
    let rest = said at.table in_loop others in
    let whole = Makes at.table at in_loop (raw.Do turn test others) in
    let front : Made → MadeCondition → Statements
    → Statements = λ body cond. tree.Loop (loop_mark test.mark turn at.loops) cond.cond body.stmts tree.Nil false in
    with_block whole scope begun_at true turn (uses ++ rest)
    (λ (body : Made). and_then (condition_at body.at test) (λ (cond : MadeCondition). with_front (front body cond) (statements_at cond.at in_loop others)))
    refl (statements_meet (entered begun_at) true turn shaped.0)
    (λ body in_body. with_test whole scope body.at (Some test) rest
    (λ (cond : MadeCondition). with_front (front body cond) (statements_at cond.at in_loop others)) (ap scope_of in_body.table)
    (λ cond tests. with_others whole at.table cond.at in_loop others (front body cond) (tests.table
    ∙ in_body.table) (statements_meet cond.at in_loop others shaped.2)
    (λ found makes.
    let one = one_loop at in
    let counts : counts_at begun_at ≡ one_loop_more (counts_at at) = refl in
    let through = grows_then begun_at body.at cond.at (declared_in turn) [] (loops_in turn) 0 in_body.grows tests.grows in
    let last : counts_at cond.at ≡ behind turn (one_loop_more (counts_at at)) =
    counts_as cond.at (behind turn (counts_at begun_at)) (length-vars begun_at body.at cond.at turn in_body.grows tests.grows)
    (loops-more begun_at body.at cond.at turn in_body.grows tests.grows) in
    record {
      resolves = do_loop scope (counts_at at) turn test others cond.cond body.stmts found.stmts in_body.resolves (tested scope test cond.cond tests.resolves)
          (counted scope (counts_at cond.at) (behind turn (one_loop_more (counts_at at))) others found.stmts last makes.resolves);
      passes = passes_then at.marks body.at.marks found.at.marks inner (uses ++ rest) in_body.passes
          (passes_then body.at.marks cond.at.marks found.at.marks uses rest tests.passes makes.passes);
      grows = more_loops at found.at (declared_in turn ++ declared_in others) (loops_in turn + loops_in others)
          (grows_then at begun_at found.at [] (declared_in turn ++ declared_in others) 1 (loops_in turn + loops_in others) one
          (grows_then begun_at body.at found.at (declared_in turn) (declared_in others) (loops_in turn) (loops_in others) in_body.grows
          (no_loops body.at found.at (declared_in others) (loops_in others)
          (grows_then body.at cond.at found.at [] (declared_in others) 0 (loops_in others) tests.grows makes.grows))));
      outer = makes.outer;
    })))
statements_meet at in_loop (raw.For start test step turn others) shaped =
    let scope = scope_at at in
    let inside = entered (with_loop at) in
    let view = for_start start shaped.0 in
    let inner = scope_in_for start (length at.vars) scope in
    let starts = occurrences (names_of scope) [] in_loop start in
    let behind_start : Names → List Occurrence = λ names.
    in_condition_option names test ++ (occurrences names [] in_loop step ++ (occurrences names [] true turn ++ said at.table in_loop others)) in
    let uses = in_condition_option (names_of inner) test in
    let steps = occurrences (names_of inner) [] in_loop step in
    let turns = occurrences (names_of inner) [] true turn in
    let rest = said at.table in_loop others in
    let whole = Makes at.table at in_loop (raw.For start test step turn others) in
    let shape : starts ++ behind_start (names_of inner) ≡ said at.table in_loop (raw.For start test step turn others) =
    ap (λ (names : Names). starts ++ behind_start names) (names_behind start (length at.vars) scope view) in
    let front : Made → MadeCondition → Made → Made → Statements → Statements = λ first cond next body.
    tree.Block (followed_by first.stmts (tree.Loop (loop_mark (named_mark test) turn at.loops) cond.cond body.stmts next.stmts true tree.Nil)) in
    subst (λ (here : List Occurrence). Meets whole at.marks here (statements_at at in_loop (raw.For start test step turn others))) shape
    (meets_then (λ (first : Made). Makes inside.table inside in_loop start first × HasScope inner first) whole at.marks starts
    (behind_start (names_of inner)) (statements_at inside in_loop start)
    (λ (first : Made). and_then (condition_option_at first.at test) (λ (cond : MadeCondition). and_then (closed (statements_at (entered cond.at) in_loop step))
    (λ (next : Made). and_then (closed (statements_at (entered next.at) true turn))
    (λ (body : Made). with_front (front first cond next body) (statements_at (left body.at) in_loop others)))))
    (meets_and (Makes inside.table inside in_loop start) (HasScope inner) at.marks starts (statements_at inside in_loop start)
    (statements_meet inside in_loop start shaped.1) (scope_behind inside in_loop start view))
    (λ first began. meets_behind whole at.marks first.at.marks starts (behind_start (names_of inner))
    (and_then (condition_option_at first.at test) (λ (cond : MadeCondition). and_then (closed (statements_at (entered cond.at) in_loop step))
    (λ (next : Made). and_then (closed (statements_at (entered next.at) true turn))
    (λ (body : Made). with_front (front first cond next body) (statements_at (left body.at) in_loop others))))) began.0.passes
    (with_test whole inner first.at test (steps ++ (turns ++ rest))
    (λ (cond : MadeCondition). and_then (closed (statements_at (entered cond.at) in_loop step))
    (λ (next : Made). and_then (closed (statements_at (entered next.at) true turn))
    (λ (body : Made). with_front (front first cond next body) (statements_at (left body.at) in_loop others)))) began.1
    (λ cond tests. with_block whole inner cond.at in_loop step (turns ++ rest)
    (λ (next : Made). and_then (closed (statements_at (entered next.at) true turn))
    (λ (body : Made). with_front (front first cond next body) (statements_at (left body.at) in_loop others)))
    (ap scope_of tests.table ∙ began.1) (statements_meet (entered cond.at) in_loop step shaped.4)
    (λ next in_step. with_block whole inner next.at true turn rest
    (λ (body : Made). with_front (front first cond next body) (statements_at (left body.at) in_loop others))
    (ap scope_of in_step.table ∙ (ap scope_of tests.table ∙ began.1)) (statements_meet (entered next.at) true turn shaped.5)
    (λ body in_body. with_others whole at.table (left body.at) in_loop others (front first cond next body)
    (ap (λ (some_table : Table). around some_table.outer) (in_body.table ∙ (in_step.table ∙ tests.table))
    ∙ ap around began.0.outer) (statements_meet (left body.at) in_loop others shaped.6)
    (λ found makes.
    let ready : counts_at cond.at ≡ behind start (one_loop_more (counts_at at)) =
    counts_as cond.at (behind start (counts_at inside)) (length-vars inside first.at cond.at start began.0.grows tests.grows)
    (loops-more inside first.at cond.at start began.0.grows tests.grows) in
    let stepped : counts_at next.at ≡ behind step (behind start (one_loop_more (counts_at at))) = counts_behind cond.at next.at step in_step.grows
    ∙ ap (behind step) ready in
    let turned : counts_at body.at ≡ behind turn (behind step (behind start (one_loop_more (counts_at at)))) =
    counts_behind next.at body.at turn in_body.grows ∙ ap (behind turn) stepped in
    let rest_grows : Grows body.at found.at (declared_in others) (loops_in others) = record { vars = makes.grows.vars; loops = makes.grows.loops } in
    let opened : Grows (with_loop at) first.at (declared_in start) (loops_in start) = record { vars = began.0.grows.vars; loops = began.0.grows.loops } in
    record {
      resolves = for_loop scope (counts_at at) start test step turn others cond.cond first.stmts next.stmts body.stmts found.stmts began.0.resolves
          tests.resolves
          (counted inner (counts_at cond.at) (behind start (one_loop_more (counts_at at))) step next.stmts ready in_step.resolves)
          (counted inner (counts_at next.at) (behind step (behind start (one_loop_more (counts_at at)))) turn body.stmts stepped in_body.resolves)
          (counted scope (counts_at body.at) (behind turn (behind step (behind start (one_loop_more (counts_at at))))) others found.stmts turned
          makes.resolves);
      passes = subst (λ (here : List Occurrence). Passes at.marks here found.at.marks) shape
          (passes_then at.marks first.at.marks found.at.marks starts (behind_start (names_of inner)) began.0.passes
          (passes_then first.at.marks cond.at.marks found.at.marks uses (steps ++ (turns ++ rest)) tests.passes
          (passes_then cond.at.marks next.at.marks found.at.marks steps (turns ++ rest) in_step.passes
          (passes_then next.at.marks body.at.marks found.at.marks turns rest in_body.passes makes.passes))));
      grows = more_loops at found.at (declared_in start ++ (declared_in step ++ (declared_in turn ++ declared_in others)))
          (loops_in start + (loops_in step + (loops_in turn + loops_in others)))
          (grows_then at (with_loop at) found.at [] (declared_in start ++ (declared_in step ++ (declared_in turn ++ declared_in others))) 1
          (loops_in start + (loops_in step + (loops_in turn + loops_in others))) (one_loop at)
          (grows_then (with_loop at) first.at found.at (declared_in start) (declared_in step ++ (declared_in turn ++ declared_in others)) (loops_in start)
          (loops_in step + (loops_in turn + loops_in others)) opened
          (no_loops first.at found.at (declared_in step ++ (declared_in turn ++ declared_in others)) (loops_in step + (loops_in turn + loops_in others))
          (grows_then first.at cond.at found.at [] (declared_in step ++ (declared_in turn ++ declared_in others)) 0
          (loops_in step + (loops_in turn + loops_in others)) tests.grows
          (grows_then cond.at next.at found.at (declared_in step) (declared_in turn ++ declared_in others) (loops_in step)
          (loops_in turn + loops_in others) in_step.grows
          (grows_then next.at body.at found.at (declared_in turn) (declared_in others) (loops_in turn) (loops_in others) in_body.grows rest_grows))))));
      outer = makes.outer;
    })))))))
statements_meet at in_loop (raw.Break line others) shaped =
    jump_meets at in_loop line (raw.Break line others) others tree.Break (statements_meet at in_loop others shaped)
    (λ found makes passes. record {
      resolves = breaks (scope_at at) (counts_at at) line others found.stmts makes.resolves;
      passes = passes;
      grows =
          makes.grows;
      outer = makes.outer;
    })
statements_meet at in_loop (raw.Continue line others) shaped =
    jump_meets at in_loop line (raw.Continue line others) others tree.Continue (statements_meet at in_loop others shaped)
    (λ found makes passes. record {
      resolves = continues (scope_at at) (counts_at at) line others found.stmts makes.resolves;
      passes = passes;
      grows =
          makes.grows;
      outer = makes.outer;
    })
statements_meet at in_loop (raw.Return expr others) shaped =
    let scope = scope_at at in
    let rest = said at.table in_loop others in
    let whole = Makes at.table at in_loop (raw.Return expr others) in
    with_expression whole scope at.marks expr rest (λ (value : Expression). with_front (tree.Return value) (statements_at at in_loop others))
    (λ value means. with_others whole at.table at in_loop others (tree.Return value) refl (statements_meet at in_loop others shaped.1)
    (λ found makes. record {
      resolves = returns scope (counts_at at) expr others value found.stmts means.resolves makes.resolves;
      passes = passes_then at.marks at.marks found.at.marks (in_expression (names_of scope) expr) rest means.passes makes.passes;
      grows = makes.grows;
      outer = makes.outer;
    }))
statements_meet at in_loop (raw.Mark mark others) shaped =
    let rest = said at.table in_loop others in
    let whole = Makes at.table at in_loop (raw.Mark mark others) in
    meets_then (Marks at (Some mark)) whole at.marks (Marked mark ∷ []) rest (marked_at at mark)
    (λ (place : Resolver). with_front (tree.Mark mark) (statements_at place in_loop others)) (mark_meets at mark)
    (λ place named. meets_behind whole at.marks place.marks (Marked mark ∷ []) rest (with_front (tree.Mark mark) (statements_at place in_loop others))
    named.passes
    (with_others whole at.table place in_loop others (tree.Mark mark) named.table (statements_meet place in_loop others shaped)
    (λ found makes.
    let still = grows_nothing at place named.vars named.loops in
    record {
      resolves = marks (scope_at at) (counts_at at) mark others found.stmts (counted (scope_at at) (counts_at place) (counts_at at) others found.stmts
          (counts_still at place named.vars named.loops) makes.resolves);
      passes = passes_then at.marks place.marks found.at.marks (Marked mark ∷ []) rest named.passes makes.passes;
      grows = no_loops at found.at (declared_in others) (loops_in others)
          (grows_then at place found.at [] (declared_in others) 0 (loops_in others) still makes.grows);
      outer = makes.outer;
    })))
statements_meet at in_loop (raw.Block items others) shaped =
    let scope = scope_at at in
    let inner = occurrences (names_of scope) [] in_loop items in
    let rest = said at.table in_loop others in
    let whole = Makes at.table at in_loop (raw.Block items others) in
    with_block whole scope at in_loop items rest (λ (first : Made). with_front (tree.Block first.stmts) (statements_at first.at in_loop others)) refl
    (statements_meet (entered at) in_loop items shaped.0)
    (λ first in_block. with_others whole at.table first.at in_loop others (tree.Block first.stmts) in_block.table
    (statements_meet first.at in_loop others shaped.1)
    (λ found makes. record {
      resolves = block scope (counts_at at) items others first.stmts found.stmts in_block.resolves
          (counted scope (counts_at first.at) (behind items (counts_at at)) others found.stmts (counts_behind at first.at items in_block.grows) makes.resolves);
      passes = passes_then at.marks first.at.marks found.at.marks inner rest in_block.passes makes.passes;
      grows = grows_then at first.at found.at (declared_in items) (declared_in others) (loops_in items) (loops_in others) in_block.grows makes.grows;
      outer = makes.outer;
    }))
statements_meet at in_loop (raw.Empty others) shaped = empty_meets (statements_at at in_loop others) (statements_meet at in_loop others shaped)
  where
    empty_meets : (answer : Result Made CheckFault) → Meets (Makes at.table at in_loop others) at.marks (said at.table in_loop others) answer
        → Meets (Makes at.table at in_loop (raw.Empty others)) at.marks (said at.table in_loop others) answer
    empty_meets (Ok found) makes = record {
      resolves = empty (scope_at at) (counts_at at) others found.stmts makes.resolves;
      passes = makes.passes;
      grows =
          makes.grows;
      outer = makes.outer;
    }
    empty_meets (Err first) fails = fails
