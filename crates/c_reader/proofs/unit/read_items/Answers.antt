use Rattle.std.proofs.Common.{◌≡◌, map, ap, ◌∙◌, ◌++◌, [], List, length, arith}
use Rattle.std.proofs.lemmas.Bool.Decides.{nat_tests}
use Rattle.std.specs.Prelude.{option_map, option_to_list}
use Rattle.std.proofs.lemmas.List.{map-append}
use Rattle.c_ast.specs.RawTree.{RawFunction}
use Rattle.c_ast.specs.RawView.{raw_function_of}
use Rattle.c_reader.specs.ReadUnits.{unit_at}
use Rattle.c_reader.proofs.UnitSoundness.{item_at-shorter}
use Rattle.c_reader.proofs.UnitLoop.{items-start, items-read, map-option}
use Rattle.c_reader.proofs.unit.read_items.Goals as goal

pub loop-others-init : goal.loop-others-init
loop-others-init c = rw c.new-funcs.ensures (items-start c.args.room c.args.tokens.now)

pub loop-others-smaller : goal.loop-others-smaller
loop-others-smaller c = item_at-shorter c.args.room _ _ c.in_ok-func.ensures

pub loop-others-preserved : goal.loop-others-preserved
loop-others-preserved c =
    let made = c.loop-others.funcs in
    let func = c.in_ok-func.func in
    let test = c.loop-others-test.true in
    let some : c.loop-others.others.now ≡ [] → ⊥ =
    λ none. let empty : length c.loop-others.others.now ≡ 0 = ap length none in absurd (grind (arith, nat_tests)) in
    items-read c.args.room (map raw_function_of made) (map raw_function_of c.push_some.new.funcs)
    (option_map raw_function_of func) c.loop-others.others.now c.in_ok-func.after.now
    (unit_at c.args.room c.args.tokens.now) some c.loop-others.invariant c.in_ok-func.ensures
    (ap (map raw_function_of) c.in_ok-push_some.ensures ∙ map-append raw_function_of made (option_to_list func)
    ∙ ap (λ (l : List RawFunction). map raw_function_of made ++ l) (map-option raw_function_of func))
