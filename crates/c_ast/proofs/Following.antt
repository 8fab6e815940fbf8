-- The work right after a mark, found by a walk over the tree; where marks stand once it is the only one, so segments are
-- determined.
use Rattle.std.proofs.Common.{◌≡◌, ℕ, ◌≤◌, Bool, true, false, eqb, inl, inr, List, [], ◌∷◌, Option, Some, None, ℤ, refl, sym, ap, ◌∙◌, subst, arith}
use Rattle.std.proofs.lemmas.Bool.{eq-eqb}
use Rattle.c_ast.specs.declared.place.Place.{Place}
use Rattle.c_ast.specs.declared.place.Place.TheVariants as place
use Rattle.c_ast.specs.Tree.{Statements, Nil, Set, If, Loop, Break, Continue, Return, Mark, Block, Program}
use Rattle.c_ast.specs.Step.{Scope, LoopParts, Run, Test, Cond, Tail, Work, scope_of, first_variables, spread}
use Rattle.c_ast.specs.Returns.{always}
use Rattle.c_ast.specs.Segment.{StandsIn, Follows, at_mark, at_exit, met_within}
use Rattle.c_ast.specs.Formed.{is_mark, one_if, marks, IsProgram}
use Rattle.c_ast.specs.Laws.{WorkIsDetermined, NextPlaceIsDetermined}
use Rattle.c_ast.proofs.Runs.{KeepsAgreement, seen_agree}

-- ---- the walk

abbrev pub or_else : Option Work → Option Work → Option Work
or_else None other = other
or_else (Some work) other = Some work

abbrev pub work_if : Bool → Work → Option Work
work_if true work = Some work
work_if false work = None

-- the first work that stands right after the mark
abbrev pub work_after : Scope → Statements → Work → ℕ → Option Work
work_after scope Nil work mark = None
work_after scope (Set x e others) work mark = work_after (x ∷ scope) others work mark
work_after scope (If e a b others) work mark = or_else (work_after scope a (Run scope others ∷ work) mark)
    (or_else (work_after scope b (Run scope others ∷ work) mark) (work_after scope others work mark))
work_after scope (Loop own e body tail first others) work mark =
    let loop : LoopParts = record { mark = own; cond = e; body = body; step = tail } in
    or_else (work_if (is_mark own mark) (Cond scope loop ∷ Run scope others ∷ work))
    (or_else (work_after scope body (Tail scope loop ∷ Run scope others ∷ work) mark)
    (or_else (work_after scope tail (Test scope loop ∷ Run scope others ∷ work) mark) (work_after scope others work mark)))
work_after scope (Break others) work mark = work_after scope others work mark
work_after scope (Continue others) work mark = work_after scope others work mark
work_after scope (Return e others) work mark = work_after scope others work mark
work_after scope (Mark own others) work mark = or_else (work_if (eqb own mark) (Run scope others ∷ work)) (work_after scope others work mark)
work_after scope (Block a others) work mark = or_else (work_after scope a (Run scope others ∷ work) mark) (work_after scope others work mark)

-- ---- parts of an `or_else`

or_none : (a b : Option Work) → a ≡ None → b ≡ None → or_else a b ≡ None
or_none a b left right = rw (left, right)

or_left : (a b : Option Work) (found : Work) → a ≡ Some found → or_else a b ≡ Some found
or_left a b found left = rw left

or_right : (a b : Option Work) (found : Work) → a ≡ None → b ≡ Some found → or_else a b ≡ Some found
or_right a b found left right = rw (left, right)

-- ---- counts

some_count : (stmts : Statements) (scope : Scope) (work : Work) (mark : ℕ) (after : Work) → StandsIn scope stmts work mark after → 1 ≤ marks mark stmts
some_count Nil scope work mark after stands = absurd stands
some_count (Set x e others) scope work mark after stands = some_count others (x ∷ scope) work mark after stands
some_count (If e a b others) scope work mark after (inl stands) = omega (arith, some_count a scope (Run scope others ∷ work) mark after stands)
some_count (If e a b others) scope work mark after (inr (inl stands)) = omega (arith, some_count b scope (Run scope others ∷ work) mark after stands)
some_count (If e a b others) scope work mark after (inr (inr stands)) = omega (arith, some_count others scope work mark after stands)
some_count (Loop own e body tail first others) scope work mark after (inl stands) = let counted : one_if (is_mark own mark)
    ≡ 1 = rw (stands.0, eq-eqb mark mark refl) in omega arith
some_count (Loop own e body tail first others) scope work mark after (inr (inl stands)) = omega (arith, some_count body scope _ mark after stands)
some_count (Loop own e body tail first others) scope work mark after (inr (inr (inl stands))) = omega (arith, some_count tail scope _ mark after stands)
some_count (Loop own e body tail first others) scope work mark after (inr (inr (inr stands))) = omega (arith, some_count others scope work mark after stands)
some_count (Break others) scope work mark after stands = some_count others scope work mark after stands
some_count (Continue others) scope work mark after stands = some_count others scope work mark after stands
some_count (Return e others) scope work mark after stands = some_count others scope work mark after stands
some_count (Mark own others) scope work mark after (inl stands) = let counted : one_if (eqb own mark) ≡ 1 = rw (eq-eqb own mark stands.0) in omega arith
some_count (Mark own others) scope work mark after (inr stands) = omega (arith, some_count others scope work mark after stands)
some_count (Block a others) scope work mark after (inl stands) = omega (arith, some_count a scope (Run scope others ∷ work) mark after stands)
some_count (Block a others) scope work mark after (inr stands) = omega (arith, some_count others scope work mark after stands)

if_none : (holds : Bool) (work : Work) → one_if holds ≡ 0 → work_if holds work ≡ None
if_none true work counted = cc
if_none false work counted = refl

none_found : (stmts : Statements) (scope : Scope) (work : Work) (mark : ℕ) → marks mark stmts ≡ 0 → work_after scope stmts work mark ≡ None
none_found Nil scope work mark none = refl
none_found (Set x e others) scope work mark none = none_found others (x ∷ scope) work mark none
none_found (If e a b others) scope work mark none =
    or_none _ _ (none_found a scope _ mark (omega arith))
    (or_none _ _ (none_found b scope _ mark (omega arith)) (none_found others scope work mark (omega arith)))
none_found (Loop own e body tail first others) scope work mark none =
    or_none _ _ (if_none (is_mark own mark) _ (omega arith))
    (or_none _ _ (none_found body scope _ mark (omega arith))
    (or_none _ _ (none_found tail scope _ mark (omega arith)) (none_found others scope work mark (omega arith))))
none_found (Break others) scope work mark none = none_found others scope work mark none
none_found (Continue others) scope work mark none = none_found others scope work mark none
none_found (Return e others) scope work mark none = none_found others scope work mark none
none_found (Mark own others) scope work mark none = or_none _ _ (if_none (eqb own mark) _ (omega arith)) (none_found others scope work mark (omega arith))
none_found (Block a others) scope work mark none = or_none _ _ (none_found a scope _ mark (omega arith)) (none_found others scope work mark (omega arith))

-- ---- what stands there once is found

if_some : (holds : Bool) (work after : Work) → holds ≡ true → after ≡ work → work_if holds work ≡ Some after
if_some holds work after is same = rw (is, same)

pub stands_once : (stmts : Statements) (scope : Scope) (work : Work) (mark : ℕ) (after : Work) → marks mark stmts ≤ 1 → StandsIn scope stmts work mark after
    → work_after scope stmts work mark ≡ Some after
stands_once Nil scope work mark after few stands = absurd stands
stands_once (Set x e others) scope work mark after few stands = stands_once others (x ∷ scope) work mark after few stands
stands_once (If e a b others) scope work mark after few (inl stands) = or_left _ _ after (stands_once a scope _ mark after (omega arith) stands)
stands_once (If e a b others) scope work mark after few (inr (inl stands)) =
    let counted = some_count b scope _ mark after stands in
    or_right _ _ after (none_found a scope _ mark (omega arith)) (or_left _ _ after (stands_once b scope _ mark after (omega arith) stands))
stands_once (If e a b others) scope work mark after few (inr (inr stands)) =
    let counted = some_count others scope work mark after stands in
    or_right _ _ after (none_found a scope _ mark (omega arith))
    (or_right _ _ after (none_found b scope _ mark (omega arith)) (stands_once others scope work mark after (omega arith) stands))
stands_once (Loop own e body tail first others) scope work mark after few (inl stands) =
    let is : is_mark own mark ≡ true = rw (stands.0) (eq-eqb mark mark refl) in
    or_left _ _ after (if_some (is_mark own mark) _ after is stands.1)
stands_once (Loop own e body tail first others) scope work mark after few (inr (inl stands)) =
    let counted = some_count body scope _ mark after stands in
    or_right _ _ after (if_none (is_mark own mark) _ (omega arith)) (or_left _ _ after (stands_once body scope _ mark after (omega arith) stands))
stands_once (Loop own e body tail first others) scope work mark after few (inr (inr (inl stands))) =
    let counted = some_count tail scope _ mark after stands in
    or_right _ _ after (if_none (is_mark own mark) _ (omega arith))
    (or_right _ _ after (none_found body scope _ mark (omega arith)) (or_left _ _ after (stands_once tail scope _ mark after (omega arith) stands)))
stands_once (Loop own e body tail first others) scope work mark after few (inr (inr (inr stands))) =
    let counted = some_count others scope work mark after stands in
    or_right _ _ after (if_none (is_mark own mark) _ (omega arith))
    (or_right _ _ after (none_found body scope _ mark (omega arith))
    (or_right _ _ after (none_found tail scope _ mark (omega arith)) (stands_once others scope work mark after (omega arith) stands)))
stands_once (Break others) scope work mark after few stands = stands_once others scope work mark after few stands
stands_once (Continue others) scope work mark after few stands = stands_once others scope work mark after few stands
stands_once (Return e others) scope work mark after few stands = stands_once others scope work mark after few stands
stands_once (Mark own others) scope work mark after few (inl stands) = or_left _ _ after (if_some (eqb own mark) _ after (eq-eqb own mark stands.0) stands.1)
stands_once (Mark own others) scope work mark after few (inr stands) =
    let counted = some_count others scope work mark after stands in
    or_right _ _ after (if_none (eqb own mark) _ (omega arith)) (stands_once others scope work mark after (omega arith) stands)
stands_once (Block a others) scope work mark after few (inl stands) = or_left _ _ after (stands_once a scope _ mark after (omega arith) stands)
stands_once (Block a others) scope work mark after few (inr stands) =
    let counted = some_count others scope work mark after stands in
    or_right _ _ after (none_found a scope _ mark (omega arith)) (stands_once others scope work mark after (omega arith) stands)

-- ---- segments are determined

pub follows_once : (f : Program) → IsProgram f → (mark : ℕ) (first second : Work) → Follows f mark first → Follows f mark second → first ≡ second
follows_once f is mark first second one other =
    let found = stands_once f.body (first_variables f.params) [] mark first (is.marked_once mark) one in
    let again = stands_once f.body (first_variables f.params) [] mark second (is.marked_once mark) other in
    cc

pub work_once : WorkIsDetermined
work_once f is place.Entry first second one other = one ∙ sym other
work_once f is (place.Mark mark) first second one other = follows_once f is mark first second one other
work_once f is place.Exit first second one other = absurd one

at_mark-agrees : KeepsAgreement (Place × List ℤ) at_mark
at_mark-agrees = record { by = λ marks mark values a b same. record { by = λ first second one other. cc } }

pub next_place_once : NextPlaceIsDetermined
next_place_once f is l e a b c d one other =
    let work = work_once f is l one.work other.work one.from other.from in
    let met = subst (λ (z : Work). met_within one.steps z (spread (scope_of z) f.vars e) ≡ Some (a, c)) work one.met in
    let same : ◌≡◌ {A = Place × List ℤ} (a, c)
    (b, d) = (seen_agree (Place
    × List ℤ) always None at_mark at_exit at_mark-agrees one.steps other.steps 0 other.work (spread (scope_of other.work) f.vars e)).by (a, c)
    (b, d) met other.met in
    (ap (λ (z : Place × List ℤ). z.0) same, ap (λ (z : Place × List ℤ). z.1) same)
