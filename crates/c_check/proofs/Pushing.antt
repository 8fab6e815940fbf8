-- Statements of the program that are pushed one after the other.
use Rattle.std.proofs.Common.{◌≡◌, ℕ, List, [], ◌∷◌, ◌++◌, length, Option, Some, None, Result, Ok, Err, refl, sym, ap, ◌∙◌, pos}
use Rattle.std.specs.Prelude.{option_map}
use Rattle.c_ast.specs.declared.expr.Expr.{Expr, Num, fold_out-Expr, map-Expr}
use Rattle.c_ast.specs.declared.expr.Expr.TheOpen.{Expr-F}
use Rattle.c_ast.specs.declared.expr.Expr.TheVariants.{outs-Num}
use Rattle.c_ast.specs.declared.stmt.Stmt.{Stmt, Set}
use Rattle.c_ast.specs.RawTree.{RawDeclared}
use Rattle.c_ast.specs.Tree as tree
use Rattle.c_ast.specs.Tree.{Expression, Statements}
use Rattle.c_ast.specs.View.{expression_level, expression_of, put_in_front, statements_of}
use Rattle.c_ast.proofs.Laws.{fronts}
use Rattle.c_check.specs.declared.fault.CheckFault.{CheckFault}
use Rattle.c_check.specs.declared.resolver.Resolver.{Resolver}
use Rattle.c_check.proofs.Meeting.{and_then}
use Rattle.c_check.specs.Resolving.{scope_at, declared_at, initial_value, Made, made, with_front, begun, declarators_at, joined_to, Declares}

pub joined_to-push : (before : List Stmt) (stmt : Stmt) (others : Statements)
    → joined_to (before ++ stmt ∷ []) others ≡ joined_to before (put_in_front stmt others)
joined_to-push [] stmt others = refl
joined_to-push (first ∷ before) stmt others = ap (put_in_front first) (joined_to-push before stmt others)

pub joined_to-Nil : (stmts : List Stmt) → joined_to stmts tree.Nil ≡ statements_of stmts
joined_to-Nil [] = refl
joined_to-Nil (first ∷ stmts) = ap (put_in_front first) (joined_to-Nil stmts)

-- what is put in front, and then behind others
pub with_front-joined : (before now : List Stmt) (front : Statements → Statements) (others : Result Made CheckFault)
    → ((stmts : Statements) → joined_to now stmts ≡ joined_to before (front stmts))
    → with_front (joined_to before) (with_front front others) ≡ with_front (joined_to now) others
with_front-joined before now front (Ok others) is = ap (λ (stmts : Statements). Ok (made others.at stmts)) (sym (is others.stmts))
with_front-joined before now front (Err first) is = refl

-- ---- declarators

expression_of-zero : expression_of (Num (pos 0)) ≡ tree.Num (pos 0)
expression_of-zero =
    fold_out-Expr Expression expression_level (Num (pos 0))
    ∙ ap (λ (shape : Expr-F Expr). expression_level (map-Expr Expr Expression expression_of shape)) (outs-Num (pos 0))

begins_none : (before : List Stmt) (number : ℕ) (stmts : Statements)
    → joined_to (before ++ Set number (Num (pos 0)) ∷ []) stmts ≡ joined_to before (begun number None stmts)
begins_none before number stmts =
    joined_to-push before (Set number (Num (pos 0))) stmts
    ∙ ap (joined_to before) (fronts.set number (Num (pos 0)) stmts ∙ ap (λ (value : Expression). tree.Set number value stmts) expression_of-zero)

begins_some : (before : List Stmt) (number : ℕ) (value : Expr) (stmts : Statements)
    → joined_to ((before ++ Set number (Num (pos 0)) ∷ []) ++ Set number value ∷ []) stmts ≡ joined_to before (begun number (Some (expression_of value)) stmts)
begins_some before number value stmts =
    joined_to-push (before ++ Set number (Num (pos 0)) ∷ []) (Set number value) stmts
    ∙ ap (joined_to (before ++ Set number (Num (pos 0)) ∷ [])) (fronts.set number value stmts)
    ∙ begins_none before number (tree.Set number (expression_of value) stmts)

declares_by : (at behind : Resolver) (declared : RawDeclared) (number : ℕ) (value : Option Expression) (before now : List Stmt)
    → declared_at at declared.var ≡ Ok behind → number ≡ length at.vars → initial_value (scope_at behind) declared.initialiser ≡ Ok value
    → ((stmts : Statements) → joined_to now stmts ≡ joined_to before (begun number value stmts)) → Declares declared at behind before now
declares_by at behind declared number value before now declares is begins joins = record {
  by = λ declarators others.
      ap (λ (answer : Result Resolver CheckFault). with_front (joined_to before)
      (and_then answer (λ (place : Resolver). and_then (initial_value (scope_at place) declared.initialiser)
      (λ (value : Option Expression). with_front (begun (length at.vars) value) (declarators_at place declarators others))))) declares
      ∙ ap (λ (answer : Result (Option Expression) CheckFault). with_front (joined_to before)
      (and_then answer (λ (value : Option Expression). with_front (begun (length at.vars) value)
      (declarators_at behind declarators others)))) begins
      ∙ ap (λ (n : ℕ). with_front (joined_to before) (with_front (begun n value) (declarators_at behind declarators others))) (sym is)
      ∙ with_front-joined before now (begun number value) (declarators_at behind declarators others) joins;
}

pub declares_plainly : (at behind : Resolver) (declared : RawDeclared) (number : ℕ) (value : Option Expr) (before now : List Stmt)
    → declared_at at declared.var ≡ Ok behind → number ≡ length at.vars
    → initial_value (scope_at behind) declared.initialiser ≡ Ok (option_map expression_of value)
    → value ≡ None → now ≡ before ++ Set number (Num (pos 0)) ∷ [] → Declares declared at behind before now
declares_plainly at behind declared number value before now declares is begins plainly pushed =
    declares_by at behind declared number None before now declares is (rw plainly at begins) (λ stmts. rw pushed (begins_none before number stmts))

pub declares_begun : (at behind : Resolver) (declared : RawDeclared) (number : ℕ) (value : Option Expr) (first : Expr) (before between now : List Stmt)
    → declared_at at declared.var ≡ Ok behind → number ≡ length at.vars
    → initial_value (scope_at behind) declared.initialiser ≡ Ok (option_map expression_of value)
    → value ≡ Some first → between ≡ before ++ Set number (Num (pos 0)) ∷ [] → now ≡ between ++ Set number first ∷ [] → Declares declared at behind before now
declares_begun at behind declared number value first before between now declares is begins some zeroed pushed =
    declares_by at behind declared number (Some (expression_of first)) before now declares is (rw some at begins)
    (λ stmts. rw (pushed, zeroed) (begins_some before number first stmts))
