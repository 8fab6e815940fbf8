-- From what the parts tell to what the words and the files lead to.
use Rattle.std.proofs.Common.{◌≡◌, ℕ, ◌≤◌, List, Option, Some, None, Err, refl, sym, subst, arith}
use Rattle.c_ast.specs.Function.{Function}
use Rattle.c_ast.specs.declared.subject.Arity.{Arity}
use Rattle.re_base.specs.Causes.{Rose}
use Rattle.re_base.specs.Told.{IsLong}
use Rattle.command_line.specs.declared.words.Command.{Command}
use Rattle.command_line.specs.CommandLine.{IsCommand}
use Rattle.report.specs.declared.fault.Fault.{Fault}
use Rattle.report.specs.declared.fault.Fault.TheVariants as fault
use Rattle.c_source.specs.Reads.{Reads}
use Rattle.llreve_cli.specs.declared.judge.NoVerdict.{NoVerdict}
use Rattle.llreve_cli.specs.declared.judge.NoVerdict.TheVariants as no_verdict
use Rattle.llreve_cli.specs.NoVerdict.{IfRefused}
use Rattle.llreve_cli.specs.Outcome.{Refused}
use Rattle.llreve_cli.specs.Call.{Call}
use Rattle.llreve_cli.specs.Leads.{IsRead, AreRead, AreFunctions, IsUnread, RefusesRead, RefusesText, RefusesGiven, Leads}
use Rattle.llreve_cli.specs.Leads.{no_command, first_unread, second_unread, first_refused, second_refused, other_arity, condition_refused}
use Rattle.llreve_cli.specs.Judged.{RefusesWords, RefusesSubject, Judges}

-- What each fault of one kind is of another kind too holds where something is refused.
pub IfRefused-weaker : (P Q : Fault → Type 0) (why : NoVerdict) → ((f : Fault) → P f → Q f) → IfRefused P why
    → IfRefused Q why
IfRefused-weaker P Q no_verdict.Memory weaker is = tt
IfRefused-weaker P Q (no_verdict.Refused f) weaker is = weaker f is

-- What is wrong with the condition's text keeps the subject from being made.
pub no_condition : (f g : Function) (given_text : Option (List ℕ)) (why : NoVerdict) → f.params ≡ g.params
    → IfRefused (RefusesGiven f given_text) why → IfRefused (RefusesSubject f g given_text) why
no_condition f g given_text why same is =
    IfRefused-weaker (RefusesGiven f given_text) (RefusesSubject f g given_text) why weaker is
  where
    no_arity : (given_text : Option (List ℕ)) (arity : Arity) → ¬ RefusesGiven f given_text (fault.Arity arity)
    no_arity None arity refuses = refuses
    no_arity (Some given_text) arity refuses = refuses

    weaker : (w : Fault) → RefusesGiven f given_text w → RefusesSubject f g given_text w
    weaker fault.Usage refuses = (same, refuses)
    weaker (fault.Read named) refuses = (same, refuses)
    weaker (fault.TooLong named) refuses = (same, refuses)
    weaker (fault.Token named inner) refuses = (same, refuses)
    weaker (fault.Reader named inner) refuses = (same, refuses)
    weaker (fault.Check named inner) refuses = (same, refuses)
    weaker (fault.Arity arity) refuses = absurd (no_arity given_text arity refuses)

-- A file that was read later in the call was not read in the call.
reads_later : (text told : List ℕ → Option (List ℕ)) (before begun ended after : List ℕ → ℕ) (name : List ℕ)
    (f : Fault) → told name ≡ text name → before name ≤ begun name → ended name ≤ after name
    → RefusesRead told begun ended name f → RefusesRead text before after name f
reads_later text told before begun ended after name fault.Usage same early late refuses = refuses
reads_later text told before begun ended after name (fault.Read named) same early late refuses =
    let rose : Rose (before name) (after name) = omega (arith, refuses.1) in (refuses.0, rose)
reads_later text told before begun ended after name (fault.TooLong named) same early late refuses =
    (refuses.0, subst IsLong same refuses.1)
reads_later text told before begun ended after name (fault.Token named inner) same early late refuses = refuses
reads_later text told before begun ended after name (fault.Reader named inner) same early late refuses = refuses
reads_later text told before begun ended after name (fault.Check named inner) same early late refuses = refuses
reads_later text told before begun ended after name (fault.Arity arity) same early late refuses = refuses

module _ (call : Call) where
  -- Both files were read; `told` are the texts after the first read.
  abbrev pub read_files : (told : List ℕ → Option (List ℕ)) (command : Command) (first second : List ℕ)
      → IsCommand call.words command → IsRead (call.text command.first) first
      → told command.second ≡ call.text command.second → IsRead (told command.second) second → AreRead call
  read_files told command first second commands first_read same second_read = record {
    command = command;
    commands = commands;
    first_text = first;
    second_text = second;
    first_read = first_read;
    second_read = subst (λ (o : Option (List ℕ)). IsRead o second) same second_read;
  }

  -- A fault that the call leads to is what it is judged by.
  judged_by : (P : Fault → Type 0) (why : NoVerdict) → ((f : Fault) → P f → Leads call (Refused f)) → IfRefused P why
      → Judges call (Err why)
  judged_by P no_verdict.Memory leads is = tt
  judged_by P (no_verdict.Refused f) leads is = leads f is

  words_refused : (f : Fault) → RefusesWords call.words f → Leads call (Refused f)
  words_refused fault.Usage refuses = no_command refuses
  words_refused (fault.Read named) refuses = absurd refuses
  words_refused (fault.TooLong named) refuses = absurd refuses
  words_refused (fault.Token named inner) refuses = absurd refuses
  words_refused (fault.Reader named inner) refuses = absurd refuses
  words_refused (fault.Check named inner) refuses = absurd refuses
  words_refused (fault.Arity arity) refuses = absurd refuses

  -- The words were refused.
  pub no_words : (why : NoVerdict) → IfRefused (RefusesWords call.words) why → Judges call (Err why)
  no_words why is = judged_by (RefusesWords call.words) why words_refused is

  -- The first file was not read; `mid` are the counts after that read.
  pub no_first : (mid : List ℕ → ℕ) (command : Command) (why : NoVerdict) → IsCommand call.words command
      → mid command.first ≤ call.faults_after command.first
      → IfRefused (RefusesRead call.text call.faults_before mid command.first) why → Judges call (Err why)
  no_first mid command why commands later is =
      judged_by (RefusesRead call.text call.faults_before mid command.first) why
      (λ f refuses. first_unread command f commands (unread f refuses)) is
    where
      unread : (f : Fault) → RefusesRead call.text call.faults_before mid command.first f
          → IsUnread call command.first f
      unread f refuses = reads_later call.text call.text call.faults_before call.faults_before mid call.faults_after
          command.first f refl (omega arith) later refuses

  -- The second file was not read; `told` are the texts and `mid` the counts after the first read.
  pub no_second : (told : List ℕ → Option (List ℕ)) (mid : List ℕ → ℕ) (command : Command) (bytes : List ℕ)
      (why : NoVerdict) → IsCommand call.words command → IsRead (call.text command.first) bytes
      → told command.second ≡ call.text command.second → call.faults_before command.second ≤ mid command.second
      → IfRefused (RefusesRead told mid call.faults_after command.second) why → Judges call (Err why)
  no_second told mid command bytes why commands read same earlier is =
      judged_by (RefusesRead told mid call.faults_after command.second) why
      (λ f refuses. second_unread command bytes f commands read (unread f refuses)) is
    where
      unread : (f : Fault) → RefusesRead told mid call.faults_after command.second f → IsUnread call command.second f
      unread f refuses = reads_later call.text told call.faults_before mid call.faults_after call.faults_after
          command.second f same earlier (omega arith) refuses

  -- The first text is no function.
  pub no_first_text : (files : AreRead call) (why : NoVerdict)
      → IfRefused (RefusesText files.command.first files.first_text) why → Judges call (Err why)
  no_first_text files why is =
      judged_by (RefusesText files.command.first files.first_text) why (λ f refuses. first_refused files f refuses) is

  -- The second text is no function.
  pub no_second_text : (files : AreRead call) (first : Function) (why : NoVerdict) → Reads files.first_text first
      → IfRefused (RefusesText files.command.second files.second_text) why → Judges call (Err why)
  no_second_text files first why reads is =
      judged_by (RefusesText files.command.second files.second_text) why
      (λ f refuses. second_refused files first f reads refuses) is

  given_refused : (functions : AreFunctions call) (f : Fault)
      → RefusesSubject functions.first functions.second functions.files.command.condition f → Leads call (Refused f)
  given_refused functions fault.Usage refuses = condition_refused functions fault.Usage refuses.0 refuses.1
  given_refused functions (fault.Read named) refuses = condition_refused functions (fault.Read named) refuses.0 refuses.1
  given_refused functions (fault.TooLong named) refuses = condition_refused functions (fault.TooLong named) refuses.0 refuses.1
  given_refused functions (fault.Token named inner) refuses = condition_refused functions (fault.Token named inner) refuses.0 refuses.1
  given_refused functions (fault.Reader named inner) refuses = condition_refused functions (fault.Reader named inner) refuses.0 refuses.1
  given_refused functions (fault.Check named inner) refuses = condition_refused functions (fault.Check named inner) refuses.0 refuses.1
  given_refused functions (fault.Arity arity) refuses =
      subst (λ (told : Arity). Leads call (Refused (fault.Arity told))) (sym refuses.0) (other_arity functions refuses.1)

  -- The functions and the condition are no subject.
  pub no_subject : (functions : AreFunctions call) (why : NoVerdict)
      → IfRefused (RefusesSubject functions.first functions.second functions.files.command.condition) why
      → Judges call (Err why)
  no_subject functions why is =
      judged_by (RefusesSubject functions.first functions.second functions.files.command.condition) why
      (given_refused functions) is
