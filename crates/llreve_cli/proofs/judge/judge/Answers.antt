use Rattle.std.proofs.Common.{arith}
use Rattle.std.proofs.lemmas.Result.{err_from_is_err_and}
use Rattle.llreve_cli.specs.Call.{call}
use Rattle.llreve_cli.specs.Leads.{AreFunctions, compared}
use Rattle.llreve_cli.proofs.Judging.{no_words, no_first, no_second, no_first_text, no_second_text, no_subject}
use Rattle.llreve_cli.proofs.Judging.{read_files}
use Rattle.llreve_cli.proofs.judge.judge.Goals as goal

pub returns-in_err-command : goal.returns-in_err-command
returns-in_err-command g c =
    let p = err_from_is_err_and c.from_residual.result c.from_residual.ensures.1 in
    let asked = call g.F.Files c.args.words.now c.args.files.now c.args.files.now in
    rw (p.1, p.2) (no_words asked c.in_err-command.field-0.0 c.in_err-command.ensures.refused)

pub returns-in_err-first_text : goal.returns-in_err-first_text
returns-in_err-first_text g c =
    let p = err_from_is_err_and c.from_residual-in_err-first_text.result c.from_residual-in_err-first_text.ensures.1 in
    let asked = call g.F.Files c.args.words.now c.args.files.now c.read_file.new.files in
    rw (p.1, p.2) (no_first asked asked.faults_after c.in_ok-command.command c.in_err-first_text.field-0.0
    c.in_ok-command.ensures.command (omega arith) c.in_err-first_text.ensures.refused)

pub returns-in_err-second_text : goal.returns-in_err-second_text
returns-in_err-second_text g c =
    let p = err_from_is_err_and c.from_residual-in_err-second_text.result c.from_residual-in_err-second_text.ensures.1 in
    let asked = call g.F.Files c.args.words.now c.args.files.now c.read_file-2.new.files in
    let command = c.in_ok-command.command in
    rw (p.1, p.2) (no_second asked (g.F.Files.text c.read_file.new.files) (g.F.Files.faults c.read_file.new.files) command
    c.in_ok-first_text.first_text.items c.in_err-second_text.field-0.0 c.in_ok-command.ensures.command
    c.in_ok-first_text.ensures.read (c.read_file.ensures.told command.second) (c.read_file.ensures.later command.second)
    c.in_err-second_text.ensures.refused)

pub returns-in_err-first : goal.returns-in_err-first
returns-in_err-first g c =
    let p = err_from_is_err_and c.from_residual-in_err-first.result c.from_residual-in_err-first.ensures.1 in
    let asked = call g.F.Files c.args.words.now c.args.files.now c.read_file-2.new.files in
    let command = c.in_ok-command.command in
    let files = read_files asked (g.F.Files.text c.read_file.new.files) command c.in_ok-first_text.first_text.items
    c.in_ok-second_text.second_text.items c.in_ok-command.ensures.command c.in_ok-first_text.ensures.read
    (c.read_file.ensures.told command.second) c.in_ok-second_text.ensures.read in
    rw (p.1, p.2) (no_first_text asked files c.in_err-first.field-0.0
    (rw c.deref.ensures.value at c.in_err-first.ensures.refused))

pub returns-in_err-second : goal.returns-in_err-second
returns-in_err-second g c =
    let p = err_from_is_err_and c.from_residual-in_err-second.result c.from_residual-in_err-second.ensures.1 in
    let asked = call g.F.Files c.args.words.now c.args.files.now c.read_file-2.new.files in
    let command = c.in_ok-command.command in
    let files = read_files asked (g.F.Files.text c.read_file.new.files) command c.in_ok-first_text.first_text.items
    c.in_ok-second_text.second_text.items c.in_ok-command.ensures.command c.in_ok-first_text.ensures.read
    (c.read_file.ensures.told command.second) c.in_ok-second_text.ensures.read in
    rw (p.1, p.2) (no_second_text asked files c.in_ok-first.first c.in_err-second.field-0.0
    (rw c.deref.ensures.value at c.in_ok-first.ensures.read) (rw c.deref-2.ensures.value at c.in_err-second.ensures.refused))

pub returns-in_err-subject : goal.returns-in_err-subject
returns-in_err-subject g c =
    let p = err_from_is_err_and c.from_residual-in_err-subject.result c.from_residual-in_err-subject.ensures.1 in
    let asked = call g.F.Files c.args.words.now c.args.files.now c.read_file-2.new.files in
    let command = c.in_ok-command.command in
    let functions : AreFunctions asked = record {
      files = read_files asked (g.F.Files.text c.read_file.new.files) command c.in_ok-first_text.first_text.items
          c.in_ok-second_text.second_text.items c.in_ok-command.ensures.command c.in_ok-first_text.ensures.read
          (c.read_file.ensures.told command.second) c.in_ok-second_text.ensures.read;
      first = c.in_ok-first.first;
      second = c.in_ok-second.second;
      first_parsed = rw c.deref.ensures.value at c.in_ok-first.ensures.read;
      second_parsed = rw c.deref-2.ensures.value at c.in_ok-second.ensures.read;
    } in
    rw (p.1, p.2) (no_subject asked functions c.in_err-subject.field-0.0 c.in_err-subject.ensures.refused)

pub returns : goal.returns
returns g c =
    let asked = call g.F.Files c.args.words.now c.args.files.now c.read_file-2.new.files in
    let command = c.in_ok-command.command in
    let functions : AreFunctions asked = record {
      files = read_files asked (g.F.Files.text c.read_file.new.files) command c.in_ok-first_text.first_text.items
          c.in_ok-second_text.second_text.items c.in_ok-command.ensures.command c.in_ok-first_text.ensures.read
          (c.read_file.ensures.told command.second) c.in_ok-second_text.ensures.read;
      first = c.in_ok-first.first;
      second = c.in_ok-second.second;
      first_parsed = rw c.deref.ensures.value at c.in_ok-first.ensures.read;
      second_parsed = rw c.deref-2.ensures.value at c.in_ok-second.ensures.read;
    } in
    let subject = c.in_ok-subject.ensures.subject in
    compared (record {
      functions = functions;
      arity = subject.arity;
      condition = subject.condition;
      given = subject.given;
    }) c.in_ok-compare.field-0 (rw subject.same at c.in_ok-compare.ensures)

pub returns-in_err-compare : goal.returns-in_err-compare
returns-in_err-compare g c =
    let p = err_from_is_err_and c.from_residual-in_err-compare.result c.from_residual-in_err-compare.ensures.1 in
    rw (p.1, p.2) tt
