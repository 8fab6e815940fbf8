-- A run without a trace is the sample's skip: the condition let the input through before it.
use Rattle.std.proofs.Common.{rules}
use Rattle.c_ast.specs.Function.{program_of}
use Rattle.trace_pair.specs.Pairs.{input_at, FirstReturns}
use Rattle.trace_pair.proofs.Asking.{Asked, first_tells, second_tells}
use Rattle.trace_pair.proofs.pairs.pair_on.Goals as goal

pub returns-in_err-first-clause-answer : goal.returns-in_err-first-clause-answer
returns-in_err-first-clause-answer c =
    let ran = c.in_err-first.ensures (program_of c.args.subject.now.first) c.requires.graphs.first in
    let h : Asked c.args.subject.now c.args.index c.marks-marks.result c.as_slice.result.now c.as_slice-2.result.now = record {
      marks_are = search rules;
      asked_is = search rules;
      input_is = search rules;
      admitted = c.in_ok-admit.ensures;
    } in
    let told = first_tells _ _ _ _ _ h c.in_err-first.field-0.0 ran in
    search (rules, told.0)

pub returns-in_err-first-clause-cause : goal.returns-in_err-first-clause-cause
returns-in_err-first-clause-cause c =
    let ran = c.in_err-first.ensures (program_of c.args.subject.now.first) c.requires.graphs.first in
    let h : Asked c.args.subject.now c.args.index c.marks-marks.result c.as_slice.result.now c.as_slice-2.result.now = record {
      marks_are = search rules;
      asked_is = search rules;
      input_is = search rules;
      admitted = c.in_ok-admit.ensures;
    } in
    let told = first_tells _ _ _ _ _ h c.in_err-first.field-0.0 ran in
    search (rules, told.1)

pub returns-in_err-second-clause-answer : goal.returns-in_err-second-clause-answer
returns-in_err-second-clause-answer c =
    let first = c.in_ok-first.ensures (program_of c.args.subject.now.first) c.requires.graphs.first in
    let ran = c.in_err-second.ensures (program_of c.args.subject.now.second) c.requires.graphs.second in
    let h : Asked c.args.subject.now c.args.index c.marks-marks.result c.as_slice.result.now c.as_slice-3.result.now = record {
      marks_are = search rules;
      asked_is = search rules;
      input_is = search rules;
      admitted = c.in_ok-admit.ensures;
    } in
    let returns : FirstReturns c.args.subject.now (input_at c.args.subject.now c.args.index) =
    record { trace = c.in_ok-first.first; returns = search (rules, first) } in
    let told = second_tells _ _ _ _ _ h returns c.in_err-second.field-0.0 ran in
    search (rules, told.0)

pub returns-in_err-second-clause-cause : goal.returns-in_err-second-clause-cause
returns-in_err-second-clause-cause c =
    let first = c.in_ok-first.ensures (program_of c.args.subject.now.first) c.requires.graphs.first in
    let ran = c.in_err-second.ensures (program_of c.args.subject.now.second) c.requires.graphs.second in
    let h : Asked c.args.subject.now c.args.index c.marks-marks.result c.as_slice.result.now c.as_slice-3.result.now = record {
      marks_are = search rules;
      asked_is = search rules;
      input_is = search rules;
      admitted = c.in_ok-admit.ensures;
    } in
    let returns : FirstReturns c.args.subject.now (input_at c.args.subject.now c.args.index) =
    record { trace = c.in_ok-first.first; returns = search (rules, first) } in
    let told = second_tells _ _ _ _ _ h returns c.in_err-second.field-0.0 ran in
    search (rules, told.1)
