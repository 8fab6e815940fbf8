use Rattle.std.proofs.Common.{rules, to_z-of_z, FitsSigned, refl, ap, sym, subst, ◌∙◌, [], ◌∷◌}
use Rattle.std.specs.Prelude.{ℤ, pos, ◌≤ℤ◌}
use Rattle.std.specs.Int.{w64}
use Rattle.c_ast.specs.View.{expression_of}
use Rattle.sym_paths.specs.Machine.{Value, Binary, Quotient, Rest, AndThen, OrElse}
use Rattle.sym_paths.specs.Arrivals.{pending_of}
use Rattle.sym_paths.proofs.Advancing.{task_then, right_is, other_operator, is_at_least_one}
use Rattle.sym_paths.proofs.tasks.with_right.Goals as goal

pub returns-in_ok-made-in-Div-clause-case : goal.returns-in_ok-made-in-Div-clause-case
returns-in_ok-made-in-Div-clause-case c room graph left =
    let fits : FitsSigned w64 c.divisor_of.result = search rules in
    right_is room graph (pending_of c.args.pending) (pending_of c.in_ok-made-in-Div.made) c.args.op left (expression_of c.args.right.now)
    (Quotient c.divisor_of.result ∷ []) (simp to_z-of_z at (c.in_ok-made-in-Div.ensures.case room graph))
    (rw c.in-Div.is (ap (λ (d : ℤ). Value left ∷ Quotient d ∷ []) c.divisor_of.ensures))

pub returns-in_ok-made-in-Div-clause-sound : goal.returns-in_ok-made-in-Div-clause-sound
returns-in_ok-made-in-Div-clause-sound c room graph under can has =
    let fits : FitsSigned w64 c.divisor_of.result = search rules in
    c.in_ok-made-in-Div.ensures.sound room graph under
    (subst (λ (d : ℤ). pos 1 ≤ℤ d) (sym (to_z-of_z fits ∙ c.divisor_of.ensures)) (is_at_least_one (expression_of c.args.right.now) (rw c.in-Div.is at has)))

pub returns-in_ok-made-in-Rem-clause-case : goal.returns-in_ok-made-in-Rem-clause-case
returns-in_ok-made-in-Rem-clause-case c room graph left =
    let fits : FitsSigned w64 c.divisor_of-in-Rem.result = search rules in
    right_is room graph (pending_of c.args.pending) (pending_of c.in_ok-made-in-Rem.made) c.args.op left (expression_of c.args.right.now)
    (Rest c.divisor_of-in-Rem.result ∷ []) (simp to_z-of_z at (c.in_ok-made-in-Rem.ensures.case room graph))
    (rw c.in-Rem.is (ap (λ (d : ℤ). Value left ∷ Rest d ∷ []) c.divisor_of-in-Rem.ensures))

pub returns-in_ok-made-in-Rem-clause-sound : goal.returns-in_ok-made-in-Rem-clause-sound
returns-in_ok-made-in-Rem-clause-sound c room graph under can has =
    let fits : FitsSigned w64 c.divisor_of-in-Rem.result = search rules in
    c.in_ok-made-in-Rem.ensures.sound room graph under
    (subst (λ (d : ℤ). pos 1 ≤ℤ d) (sym (to_z-of_z fits ∙ c.divisor_of-in-Rem.ensures))
    (is_at_least_one (expression_of c.args.right.now) (rw c.in-Rem.is at has)))

pub returns-in_ok-made-in-And-clause-case : goal.returns-in_ok-made-in-And-clause-case
returns-in_ok-made-in-And-clause-case c room graph left =
    right_is room graph (pending_of c.args.pending) (pending_of c.in_ok-made-in-And.made) c.args.op left (expression_of c.args.right.now)
    (AndThen (expression_of c.args.right.now) ∷ []) (c.in_ok-made-in-And.ensures.case room graph) (rw c.in-And.is refl)

pub returns-in_ok-made-in-And-clause-sound : goal.returns-in_ok-made-in-And-clause-sound
returns-in_ok-made-in-And-clause-sound c room graph under can has =
    c.in_ok-made-in-And.ensures.sound room graph under can

pub returns-in_ok-made-in-Or-clause-case : goal.returns-in_ok-made-in-Or-clause-case
returns-in_ok-made-in-Or-clause-case c room graph left =
    right_is room graph (pending_of c.args.pending) (pending_of c.in_ok-made-in-Or.made) c.args.op left (expression_of c.args.right.now)
    (OrElse (expression_of c.args.right.now) ∷ []) (c.in_ok-made-in-Or.ensures.case room graph) (rw c.in-Or.is refl)

pub returns-in_ok-made-in-Or-clause-sound : goal.returns-in_ok-made-in-Or-clause-sound
returns-in_ok-made-in-Or-clause-sound c room graph under can has =
    c.in_ok-made-in-Or.ensures.sound room graph under can

pub returns-in_ok-made-in_default : goal.returns-in_ok-made-in_default
returns-in_ok-made-in_default c =
    record {
      case = λ room graph left. right_is room graph (pending_of c.args.pending) (pending_of c.in_ok-made-in_default.made) c.args.op left
          (expression_of c.args.right.now)
          (Value (expression_of c.args.right.now) ∷ Binary c.args.op ∷ [])
          (task_then room graph (pending_of c.args.pending) (pending_of c.in_ok-behind-in_default.behind) (pending_of c.in_ok-made-in_default.made)
          (Value (expression_of c.args.right.now))
          (Binary c.args.op ∷ []) (pending_of c.args.pending).stack (c.in_ok-behind-in_default.ensures.case room graph)
          (c.in_ok-made-in_default.ensures.case room graph))
          (other_operator c.args.op left (expression_of c.args.right.now) c.in_default.not-Div c.in_default.not-Rem c.in_default.not-And c.in_default.not-Or);
      sound = λ room graph under can has.
          c.in_ok-made-in_default.ensures.sound room graph (c.in_ok-behind-in_default.ensures.sound room graph under tt) can;
    }
