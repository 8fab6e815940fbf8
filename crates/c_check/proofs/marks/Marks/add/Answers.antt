-- The set holds the marks that were named.
use Rattle.std.proofs.Common.{◌≡◌, ◌∷◌, [], ◌++◌, ℕ, true, false, nat_eq, List, reverse, sym, ap, ◌∙◌, refl}
use Rattle.std.specs.List.{list_any}
use Rattle.std.specs.Prelude.{if◌then◌else◌}
use Rattle.c_check.specs.Faults.{holds_mark}
use Rattle.c_check.proofs.Marking.{holds_turned, turned-push, is_twice, is_new, not-false, not-true}
use Rattle.c_check.proofs.marks.Marks.add.Goals as goal

pub returns-then-not-branch : goal.returns-then-not-branch
returns-then-not-branch c =
    let keys = c.self.inside.0.keys in
    let held : list_any (nat_eq c.args.mark) keys ≡ true = not-false (sym c.in_ok-insert.ensures.added ∙ c.if-not-branch.true) in
    let holds : holds_mark c.args.self.now c.args.mark ≡ true = ap (λ (list : List ℕ). holds_mark list c.args.mark) (sym c.self.view_is)
    ∙ holds_turned keys c.args.mark ∙ held in
    λ _. is_twice c.args.self.now c.args.mark c.if-mark.false holds

pub returns : goal.returns
returns c =
    let keys = c.self.inside.0.keys in
    let held : list_any (nat_eq c.args.mark) keys ≡ false = not-true (sym c.in_ok-insert.ensures.added ∙ c.if-not-branch.false) in
    let holds : holds_mark c.args.self.now c.args.mark ≡ false = ap (λ (list : List ℕ). holds_mark list c.args.mark) (sym c.self.view_is)
    ∙ holds_turned keys c.args.mark ∙ held in
    let pushed : c.insert.new.self.keys ≡ keys ++ c.args.mark ∷ [] = c.in_ok-insert.ensures.keys
    ∙ ap (λ b. if b then keys else keys ++ c.args.mark ∷ []) held in (
      is_new c.args.self.now c.args.mark c.if-mark.false holds,
      ap reverse pushed ∙ turned-push keys c.args.mark
          ∙ ap (λ (list : List ℕ). c.args.mark ∷ list) c.self.view_is,
      refl,
    )
