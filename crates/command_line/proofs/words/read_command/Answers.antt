use Rattle.std.proofs.Common.{◌≡◌, ◌∙◌, ◌+◌, sym, ap, Some, arith, rules, map, string_bytes, drop}
use Rattle.std.specs.Prelude.{option_and_then}
use Rattle.command_line.specs.Read.{read, step}
use Rattle.command_line.proofs.Whole.{next_word, no_word, unsaid, reads_command, refused_word}
use Rattle.command_line.proofs.words.read_command.Goals as goal

pub returns-in_err-reading-clause-refused : goal.returns-in_err-reading-clause-refused
returns-in_err-reading-clause-refused c =
    let more = next_word c.args.words.now c.loop-word.word-index c.word-item.result c.loop-word.reading (omega arith) c.word-item.is in
    let h = c.in_err-reading.ensures.refused in
    let refused = refused_word (map string_bytes c.args.words.now) (map string_bytes (drop (c.loop-word.word-index + 1) c.args.words.now))
    c.as_str.result.now c.loop-word.reading c.in_err-reading.field-0.0
    (ap (λ w. option_and_then (read (map string_bytes (drop (c.loop-word.word-index + 1) c.args.words.now)))
    (step w c.loop-word.reading)) c.as_str.ensures.value
    ∙ sym more ∙ c.loop-word.invariant) h in
    search rules

pub loop-word-preserved : goal.loop-word-preserved
loop-word-preserved c =
    let more = next_word c.args.words.now c.loop-word.word-index c.word-item.result c.loop-word.reading (omega arith) c.word-item.is in
    let steps : step (string_bytes c.word-item.result) c.loop-word.reading ≡ Some c.in_ok-reading.reading =
    ap (λ w. step w c.loop-word.reading) (sym c.as_str.ensures.value) ∙ c.in_ok-reading.ensures.ok in
    sym (more ∙ ap (option_and_then (read (map string_bytes (drop (c.loop-word.word-index + 1) c.args.words.now)))) steps) ∙ c.loop-word.invariant

pub returns-in-Some-clause-command : goal.returns-in-Some-clause-command
returns-in-Some-clause-command c =
    let none = no_word c.args.words.now c.loop-word.word-index c.loop-word.reading (omega arith) in
    reads_command (map string_bytes c.args.words.now) c.loop-word.reading c.in-Some.command (sym c.loop-word.invariant ∙ none) c.in-Some.ensures.some

pub returns-in-None-clause-refused : goal.returns-in-None-clause-refused
returns-in-None-clause-refused c =
    let none = no_word c.args.words.now c.loop-word.word-index c.loop-word.reading (omega arith) in
    unsaid (map string_bytes c.args.words.now) c.loop-word.reading (sym c.loop-word.invariant ∙ none) c.in-None.ensures.none
