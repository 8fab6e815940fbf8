-- The fault that is met is the first one, and what is made without one is what the expressions stand for.
use Rattle.std.proofs.Common.{◌≡◌, ℕ, ◌+◌, Bool, true, false, cond, ◌||◌, List, [], ◌∷◌, ◌++◌, length, Option, Some, None, Result, Ok, Err, refl, sym, ap, ◌∙◌, subst, append_assoc, append-nil, length-append, arith}
use Rattle.std.specs.Prelude.{option_map, find, bytes_eq, if◌then◌else◌}
use Rattle.c_ast.specs.declared.expr.BinOp.{BinOp}
use Rattle.std.specs.Option.{option_or}
use Rattle.c_ast.specs.declared.func.Var.{Var}
use Rattle.c_ast.specs.RawTree as raw
use Rattle.c_ast.specs.RawTree.{RawExpression, RawCondition, RawStatements}
use Rattle.c_ast.specs.Tree as tree
use Rattle.c_ast.specs.Tree.{Expression}
use Rattle.c_check.specs.declared.fault.CheckFault.{CheckFault}
use Rattle.c_check.specs.declared.fault.CheckFault.TheVariants as fault
use Rattle.c_check.specs.declared.resolver.Resolver.{Resolver}
use Rattle.c_check.specs.Contents.{declared_in, loops_in}
use Rattle.c_check.specs.declared.divisor.Divisor.{Divisor}
use Rattle.c_check.specs.Divisors.{divides, divisor_of}
use Rattle.c_check.proofs.Dividing.{in_divisor}
use Rattle.c_check.specs.Resolves.{Binding, Bindings, number_of, ResolvesExpression, constant, variable, unary, binary, division, conditional, ResolvesCondition, left_out, stands, Counts, behind}
use Rattle.c_check.specs.Occurrences.{Occurrence, Use, Division, Marked, in_operator, in_expression, in_initialiser, marked_option, in_condition, in_condition_option}
use Rattle.c_check.specs.Faults.{holds_name, fault_of, with_mark, first_fault}
use Rattle.c_check.specs.Table.{Table, scope_of, names_of}
use Rattle.c_check.specs.Resolving.{◌>>=◌, divided_or, unless_fault, scope_at, counts_at, with_named, marked_at, marked_option_at, found_or, variable_in, expression_in, MadeCondition, with_condition, condition_at, condition_option_at, initial_value}

-- ---- steps, one after the other

-- a step, and how it goes on
abbrev pub and_then : {A B : Type 0} → Result A CheckFault → (A → Result B CheckFault) → Result B CheckFault
and_then step go_on = step >>= go_on

-- What is known of a step: what its value means, or that its fault is the first of these occurrences and those behind.
abbrev pub Meets : {A : Type 0} → (A → Type 0) → List ℕ → List Occurrence → Result A CheckFault → Type 0
Meets means marks here (Ok value) = means value
Meets means marks here (Err first) = (later : List Occurrence) → first_fault marks (here ++ later) ≡ Some first

-- Nothing here is a fault, and the marks behind it are these.
pub record Passes (marks : List ℕ) (here : List Occurrence) (after : List ℕ) : Type 0 where
  pub by : (later : List Occurrence) → first_fault marks (here ++ later) ≡ first_fault after later

pub passes_nothing : (marks : List ℕ) → Passes marks [] marks
passes_nothing marks = record { by = λ later. refl }

pub passes_then : (marks between after : List ℕ) (here rest : List Occurrence) → Passes marks here between → Passes between rest after
    → Passes marks (here ++ rest) after
passes_then marks between after here rest first second = record {
  by = λ later. ap (first_fault marks) (append_assoc here rest later) ∙ first.by (rest ++ later) ∙ second.by later;
}

-- a step behind what passes
pub meets_behind : {A : Type 0} (means : A → Type 0) (marks after : List ℕ) (here rest : List Occurrence) (answer : Result A CheckFault)
    → Passes marks here after → Meets means after rest answer
    → Meets means marks (here ++ rest) answer
meets_behind means marks after here rest (Ok value) passes meets = meets
meets_behind means marks after here rest (Err first) passes meets =
    λ later. ap (first_fault marks) (append_assoc here rest later) ∙ passes.by (rest ++ later) ∙ meets later

-- a step, and then another
pub meets_then : {A B : Type 0} (means : A → Type 0) (meaning : B → Type 0) (marks : List ℕ) (here rest : List Occurrence) (answer : Result A CheckFault)
    (others : A → Result B CheckFault)
    → Meets means marks here answer → ((value : A) → means value → Meets meaning marks (here ++ rest) (others value))
    → Meets meaning marks (here ++ rest) (and_then answer others)
meets_then means meaning marks here rest (Ok value) others meets next = next value meets
meets_then means meaning marks here rest (Err first) others meets next = λ later. ap (first_fault marks) (append_assoc here rest later) ∙ meets (rest ++ later)

-- one occurrence
pub meets_one : {A : Type 0} (meaning : A → Type 0) (marks : List ℕ) (occurrence : Occurrence) (found : Option CheckFault) (value : A)
    → fault_of marks occurrence ≡ found
    → (Passes marks (occurrence ∷ []) (with_mark marks occurrence) → meaning value) → Meets meaning marks (occurrence ∷ []) (unless_fault found value)
meets_one meaning marks occurrence None value is means =
    means (record { by = λ later. ap (λ (found : Option CheckFault). option_or found (first_fault (with_mark marks occurrence) later)) is })
meets_one meaning marks occurrence (Some first) value is means =
    λ later. ap (λ (found : Option CheckFault). option_or found (first_fault (with_mark marks occurrence) later)) is

-- ---- names

abbrev is_found : {A : Type 0} → Option A → Bool
is_found None = false
is_found (Some x) = true

finds : (holds : Bool) (first : Binding) (found : Option Binding) (held : Bool) → is_found found ≡ held
    → is_found (cond holds (Some first) found) ≡ (holds || held)
finds true first found held is = refl
finds false first found held is = is

holds_found : (scope : Bindings) (name : List ℕ) → is_found (find (λ (other : Binding). bytes_eq name other.name) scope) ≡ holds_name (names_of scope) name
holds_found [] name = refl
holds_found (first ∷ scope) name = finds (bytes_eq name first.name) first (find (λ (other : Binding). bytes_eq name other.name) scope)
    (holds_name (names_of scope) name) (holds_found scope name)

mapped_found : {A B : Type 0} (function : A → B) (found : Option A) → is_found (option_map function found) ≡ is_found found
mapped_found function None = refl
mapped_found function (Some x) = refl

-- a name has a number where it is in scope
holds_number : (scope : Bindings) (name : List ℕ) → is_found (number_of scope name) ≡ holds_name (names_of scope) name
holds_number scope name = mapped_found (λ (found_binding : Binding). found_binding.number) (find (λ (other : Binding). bytes_eq name other.name) scope)
    ∙ holds_found scope name

use_none : (scope : Bindings) (name : List ℕ) (line : ℕ) (marks : List ℕ) → number_of scope name ≡ None
    → fault_of marks (Use (names_of scope) name line) ≡ Some (fault.Undeclared name line)
use_none scope name line marks is = rw (← holds_number scope name, is) refl

use_some : (scope : Bindings) (name : List ℕ) (line number : ℕ) (marks : List ℕ) → number_of scope name ≡ Some number
    → fault_of marks (Use (names_of scope) name line) ≡ None
use_some scope name line number marks is = rw (← holds_number scope name, is) refl

-- what a name stands for
pub record Stands (scope : Bindings) (marks : List ℕ) (name : List ℕ) (line number : ℕ) : Type 0 where
  pub is : number_of scope name ≡ Some number
  pub passes : Passes marks (Use (names_of scope) name line ∷ []) marks

found_meets : (scope : Bindings) (marks : List ℕ) (name : List ℕ) (line : ℕ) (found : Option ℕ) → number_of scope name ≡ found
    → Meets (Stands scope marks name line) marks (Use (names_of scope) name line ∷ []) (found_or name line found)
found_meets scope marks name line None is = λ later. ap (λ (found : Option CheckFault). option_or found (first_fault marks later))
    (use_none scope name line marks is)
found_meets scope marks name line (Some number) is =
    meets_one (λ (n : ℕ). Stands scope marks name line n) marks (Use (names_of scope) name line) None number (use_some scope name line number marks is)
    (λ passes. record { is = is; passes = passes })

pub variable_meets : (scope : Bindings) (marks : List ℕ) (name : List ℕ) (line : ℕ)
    → Meets (Stands scope marks name line) marks (Use (names_of scope) name line ∷ []) (variable_in scope name line)
variable_meets scope marks name line = found_meets scope marks name line (number_of scope name) refl

-- ---- expressions

-- what an expression stands for
pub record Means (scope : Bindings) (marks : List ℕ) (expr : RawExpression) (made : Expression) : Type 0 where
  pub resolves : ResolvesExpression scope expr made
  pub passes : Passes marks (in_expression (names_of scope) expr) marks

-- an operator behind its left operand, which divides or not
operator_meets : (scope : Bindings) (marks : List ℕ) (op : BinOp) (line : ℕ) (left right : RawExpression) (first : Expression) → Means scope marks left first
    → Meets (Means scope marks right) marks (in_expression (names_of scope) right) (expression_in scope right)
    → (holds : Bool) → divides op ≡ holds
    → Meets (Means scope marks (raw.Bin op line left right)) marks ((if holds then Division (divisor_of right) line ∷ [] else []) ++ in_expression
    (names_of scope) right)
    (if holds then divided_or op line first (divisor_of right) else and_then (expression_in scope right)
    (λ (second : Expression). Ok (tree.Bin op first second)))
operator_meets scope marks op line left right first one two true is = by (divisor_of right) refl
  where
    by : (found : Option Divisor) → divisor_of right ≡ found
        → Meets (Means scope marks (raw.Bin op line left right)) marks ((Division found line ∷ []) ++ in_expression (names_of scope) right)
        (divided_or op line first found)
    by None none = λ later. refl
    by (Some divisor) found =
        let nothing : in_expression (names_of scope) right ≡ [] = in_divisor (names_of scope) right divisor found in
        let alone : Passes marks (Division (Some divisor) line ∷ []) marks = record { by = λ later. refl } in
        let said : Passes marks (Division (divisor_of right) line ∷ in_expression (names_of scope) right) marks =
        subst (λ (some_divisor : Option Divisor). Passes marks (Division some_divisor line ∷ in_expression (names_of scope) right) marks) (sym found)
        (subst (λ (list : List Occurrence). Passes marks (Division (Some divisor) line ∷ list) marks) (sym nothing) alone) in
        record {
          resolves = division op line left right first divisor is one.resolves found;
          passes = passes_then marks marks marks (in_expression (names_of scope) left) (in_operator op line right ++ in_expression (names_of scope) right)
              one.passes
              (subst (λ (some_bool : Bool). Passes marks ((if some_bool then Division (divisor_of right) line ∷ [] else []) ++ in_expression
              (names_of scope) right) marks) (sym is) said);
        }
operator_meets scope marks op line left right first one two false is =
    let names = names_of scope in
    let whole = Means scope marks (raw.Bin op line left right) in
    subst (λ (here : List Occurrence). Meets whole marks here
    (and_then (expression_in scope right) (λ (second : Expression). Ok (tree.Bin op first second)))) (append-nil (in_expression names right))
    (meets_then (Means scope marks right) whole marks (in_expression names right) [] (expression_in scope right)
    (λ (second : Expression). Ok (tree.Bin op first second)) two
    (λ second means. record {
      resolves = binary op line left right first second is one.resolves means.resolves;
      passes = passes_then marks marks marks (in_expression names left) (in_operator op line right ++ in_expression names right) one.passes
          (subst (λ (some_bool : Bool). Passes marks ((if some_bool then Division (divisor_of right) line ∷ [] else []) ++ in_expression names right) marks)
          (sym is) means.passes);
    }))

pub expression_meets : (scope : Bindings) (marks : List ℕ) (expr : RawExpression)
    → Meets (Means scope marks expr) marks (in_expression (names_of scope) expr) (expression_in scope expr)
expression_meets scope marks (raw.Num z) = record { resolves = constant z; passes = passes_nothing marks }
expression_meets scope marks (raw.Named name line) =
    meets_then (Stands scope marks name line) (Means scope marks (raw.Named name line)) marks (Use (names_of scope) name line ∷ []) []
    (variable_in scope name line)
    (λ (number : ℕ). Ok (tree.Var number)) (variable_meets scope marks name line)
    (λ number stands. record { resolves = variable name line number stands.is; passes = stands.passes })
expression_meets scope marks (raw.Un op expr) =
    subst (λ (here : List Occurrence). Meets (Means scope marks (raw.Un op expr)) marks here (expression_in scope (raw.Un op expr)))
    (append-nil (in_expression (names_of scope) expr))
    (meets_then (Means scope marks expr) (Means scope marks (raw.Un op expr)) marks (in_expression (names_of scope) expr) [] (expression_in scope expr)
    (λ (made : Expression). Ok (tree.Un op made)) (expression_meets scope marks expr)
    (λ made means. record { resolves = unary op expr made means.resolves; passes = means.passes }))
expression_meets scope marks (raw.Bin op line left right) =
    let names = names_of scope in
    let whole = Means scope marks (raw.Bin op line left right) in
    let rest = in_operator op line right ++ in_expression names right in
    let go_on : Expression → Result Expression CheckFault = λ first. if divides op then divided_or op line first (divisor_of right)
    else and_then (expression_in scope right) (λ (second : Expression). Ok (tree.Bin op first second)) in
    meets_then (Means scope marks left) whole marks (in_expression names left) rest (expression_in scope left) go_on (expression_meets scope marks left)
    (λ first one. meets_behind whole marks marks (in_expression names left) rest (go_on first) one.passes
    (operator_meets scope marks op line left right first one (expression_meets scope marks right) (divides op) refl))
expression_meets scope marks (raw.Cond test left right) =
    let names = names_of scope in
    let whole = Means scope marks (raw.Cond test left right) in
    meets_then (Means scope marks test) whole marks (in_expression names test) (in_expression names left ++ in_expression names right)
    (expression_in scope test)
    (λ (cond : Expression). and_then (expression_in scope left)
    (λ (first : Expression). and_then (expression_in scope right) (λ (second : Expression). Ok (tree.Cond cond first second))))
    (expression_meets scope marks test)
    (λ cond zero. meets_behind whole marks marks (in_expression names test) (in_expression names left ++ in_expression names right)
    (and_then (expression_in scope left)
    (λ (first : Expression). and_then (expression_in scope right) (λ (second : Expression). Ok (tree.Cond cond first second)))) zero.passes
    (meets_then (Means scope marks left) whole marks (in_expression names left) (in_expression names right) (expression_in scope left)
    (λ (first : Expression). and_then (expression_in scope right) (λ (second : Expression). Ok (tree.Cond cond first second)))
    (expression_meets scope marks left)
    (λ first one. meets_behind whole marks marks (in_expression names left) (in_expression names right)
    (and_then (expression_in scope right) (λ (second : Expression). Ok (tree.Cond cond first second))) one.passes
    (subst (λ (here : List Occurrence). Meets whole marks here
    (and_then (expression_in scope right) (λ (second : Expression). Ok (tree.Cond cond first second)))) (append-nil (in_expression names right))
    (meets_then (Means scope marks right) whole marks (in_expression names right) [] (expression_in scope right)
    (λ (second : Expression). Ok (tree.Cond cond first second)) (expression_meets scope marks right)
    (λ second two. record {
      resolves = conditional test left right cond first second zero.resolves one.resolves two.resolves;
      passes = passes_then marks marks marks (in_expression names test) (in_expression names left ++ in_expression names right) zero.passes
          (passes_then marks marks marks (in_expression names left) (in_expression names right) one.passes two.passes);
    }))))))

-- the initial value of a variable
abbrev pub Begun : Bindings → Option RawExpression → Option Expression → Type 0
Begun scope None None = Unit {0}
Begun scope None (Some value) = ⊥
Begun scope (Some expr) None = ⊥
Begun scope (Some expr) (Some value) = ResolvesExpression scope expr value

pub record Begins (scope : Bindings) (marks : List ℕ) (initialiser : Option RawExpression) (made : Option Expression) : Type 0 where
  pub begun : Begun scope initialiser made
  pub passes : Passes marks (in_initialiser (names_of scope) initialiser) marks

pub initial_meets : (scope : Bindings) (marks : List ℕ) (initialiser : Option RawExpression)
    → Meets (Begins scope marks initialiser) marks (in_initialiser (names_of scope) initialiser) (initial_value scope initialiser)
initial_meets scope marks None = record { begun = tt; passes = passes_nothing marks }
initial_meets scope marks (Some expr) =
    subst (λ (here : List Occurrence). Meets (Begins scope marks (Some expr)) marks here (initial_value scope (Some expr)))
    (append-nil (in_expression (names_of scope) expr))
    (meets_then (Means scope marks expr) (Begins scope marks (Some expr)) marks (in_expression (names_of scope) expr) [] (expression_in scope expr)
    (λ (value : Expression). Ok (Some value)) (expression_meets scope marks expr)
    (λ value means. record { begun = means.resolves; passes = means.passes }))

-- ---- what changes

-- So many variables and loops are added.
pub record Grows (old new : Resolver) (added : List Var) (more : ℕ) : Type 0 where
  pub vars : new.vars ≡ old.vars ++ added
  pub loops : new.loops ≡ old.loops + more

pub grows_nothing : (old new : Resolver) → new.vars ≡ old.vars → new.loops ≡ old.loops → Grows old new [] 0
grows_nothing old new vars loops = record { vars = vars ∙ sym (append-nil old.vars); loops = omega (arith, loops) }

pub grows_then : (old between new : Resolver) (added added_then : List Var) (m n : ℕ) → Grows old between added m → Grows between new added_then n
    → Grows old new (added ++ added_then) (m + n)
grows_then old between new added added_then m n first second = record {
  vars = second.vars ∙ ap (λ (some_vars : List Var). some_vars ++ added_then) first.vars ∙ append_assoc old.vars added added_then;
  loops = omega (arith, first.loops, second.loops);
}

abbrev counts : ℕ → ℕ → Counts
counts vars loops = record { vars = vars; loops = loops }

counts_same : (a b c d : ℕ) → a ≡ b → c ≡ d → counts a c ≡ counts b d
counts_same a b c d vars loops = ap (λ (n : ℕ). counts n c) vars ∙ ap (λ (n : ℕ). counts b n) loops

pub counts_behind : (old new : Resolver) (stmts : RawStatements) → Grows old new (declared_in stmts) (loops_in stmts)
    → counts_at new ≡ behind stmts (counts_at old)
counts_behind old new stmts grows =
    counts_same (length new.vars) (length old.vars + length (declared_in stmts)) new.loops (old.loops + loops_in stmts)
    (ap length grows.vars ∙ length-append old.vars (declared_in stmts)) grows.loops

pub counts_still : (old new : Resolver) → new.vars ≡ old.vars → new.loops ≡ old.loops → counts_at new ≡ counts_at old
counts_still old new vars loops = counts_same (length new.vars) (length old.vars) new.loops old.loops (ap length vars) loops

-- ---- conditions

-- a mark that is named
pub record Marks (old : Resolver) (mark : Option ℕ) (new : Resolver) : Type 0 where
  pub passes : Passes old.marks (marked_option mark) new.marks
  pub table : new.table ≡ old.table
  pub vars : new.vars ≡ old.vars
  pub loops : new.loops ≡ old.loops

pub mark_meets : (at : Resolver) (mark : ℕ) → Meets (Marks at (Some mark)) at.marks (Marked mark ∷ []) (marked_at at mark)
mark_meets at mark =
    meets_one (Marks at (Some mark)) at.marks (Marked mark) (fault_of at.marks (Marked mark)) (with_named at mark) refl
    (λ passes. record { passes = passes; table = refl; vars = refl; loops = refl })

pub mark_option_meets : (at : Resolver) (mark : Option ℕ) → Meets (Marks at mark) at.marks (marked_option mark) (marked_option_at at mark)
mark_option_meets at None = record { passes = passes_nothing at.marks; table = refl; vars = refl; loops = refl }
mark_option_meets at (Some mark) = mark_meets at mark

-- what a condition stands for
pub record Tests (old : Resolver) (test : Option RawCondition) (found : MadeCondition) : Type 0 where
  pub resolves : ResolvesCondition (scope_at old) test found.cond
  pub passes : Passes old.marks (in_condition_option (names_of (scope_at old)) test) found.at.marks
  pub table : found.at.table ≡ old.table
  pub grows : Grows old found.at [] 0

pub condition_meets : (at : Resolver) (test : RawCondition)
    → Meets (Tests at (Some test)) at.marks (in_condition (names_of (scope_at at)) test) (condition_at at test)
condition_meets at test =
    let names = names_of (scope_at at) in
    meets_then (Marks at test.mark) (Tests at (Some test)) at.marks (marked_option test.mark) (in_expression names test.cond) (marked_option_at at test.mark)
    (λ (marked : Resolver). and_then (expression_in (scope_at marked) test.cond) (λ (cond : Expression). Ok (with_condition marked cond)))
    (mark_option_meets at test.mark)
    (λ marked marks. meets_behind (Tests at (Some test)) at.marks marked.marks (marked_option test.mark) (in_expression names test.cond)
    (and_then (expression_in (scope_at marked) test.cond) (λ (cond : Expression). Ok (with_condition marked cond))) marks.passes
    (subst (λ (some_table : Table). Meets (Tests at (Some test)) marked.marks (in_expression names test.cond)
    (and_then (expression_in (scope_of some_table) test.cond) (λ (cond : Expression). Ok (with_condition marked cond)))) (sym marks.table)
    (subst (λ (here : List Occurrence). Meets (Tests at (Some test)) marked.marks here
    (and_then (expression_in (scope_at at) test.cond) (λ (cond : Expression). Ok (with_condition marked cond)))) (append-nil (in_expression names test.cond))
    (meets_then (Means (scope_at at) marked.marks test.cond) (Tests at (Some test)) marked.marks (in_expression names test.cond) []
    (expression_in (scope_at at) test.cond) (λ (cond : Expression). Ok (with_condition marked cond))
    (expression_meets (scope_at at) marked.marks test.cond)
    (λ cond means. record {
      resolves = stands test cond means.resolves;
      passes = passes_then at.marks marked.marks marked.marks (marked_option test.mark) (in_expression names test.cond) marks.passes means.passes;
      table = marks.table;
      grows = grows_nothing at marked marks.vars marks.loops;
    })))))

pub condition_option_meets : (at : Resolver) (test : Option RawCondition)
    → Meets (Tests at test) at.marks (in_condition_option (names_of (scope_at at)) test) (condition_option_at at test)
condition_option_meets at None = record { resolves = left_out; passes = passes_nothing at.marks; table = refl; grows = grows_nothing at at refl refl }
condition_option_meets at (Some test) = condition_meets at test
