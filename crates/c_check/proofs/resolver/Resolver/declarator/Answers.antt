-- The variable becomes 0, and then its initial value.
use Rattle.std.proofs.Common.{◌∙◌}
use Rattle.c_ast.specs.RawView.{raw_declared_of}
use Rattle.c_check.proofs.Pushing.{declares_plainly, declares_begun}
use Rattle.c_check.proofs.resolver.Resolver.declarator.Goals as goal
use Rattle.c_check.proofs.resolver.Resolver.declarator.Goals.{in-Some+in_ok-put-2, in_default}

pub returns : goal.returns
returns c =
    elim c.match-value-3.branch [
      | in-Some+in_ok-put-2 w ↦
          declares_begun c.args.self.now c.declare.new.self (raw_declared_of c.args.declarator.now) c.in_ok-number.number c.in_ok-value.value
          w.in-Some.value c.args.made.now c.put.new.made c.match-value-3.made
          c.in_ok-number.ensures.0 c.in_ok-number.ensures.1 c.in_ok-value.ensures w.in-Some.is c.in_ok-put.ensures.put (w.made-is ∙ w.in_ok-put-2.ensures.put)
      | in_default w ↦
          declares_plainly c.args.self.now c.declare.new.self (raw_declared_of c.args.declarator.now) c.in_ok-number.number c.in_ok-value.value
          c.args.made.now c.match-value-3.made
          c.in_ok-number.ensures.0 c.in_ok-number.ensures.1 c.in_ok-value.ensures w.in_default.is (w.made-is ∙ c.in_ok-put.ensures.put)
    ]
