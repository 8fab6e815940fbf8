-- What words and told texts lead to is alike.
use Rattle.std.proofs.Common.{◌≡◌, ◌≢◌, ℕ, ◌<◌, ◌≤◌, Bool, List, length, Option, Some, None, refl, sym, ap, ◌∙◌, subst, arith}
use Rattle.std.specs.Prelude.{codes}
use Rattle.re_base.specs.Told.{IsLong, longest}
use Rattle.c_ast.specs.declared.expr.Expr.{Expr}
use Rattle.c_ast.specs.Function.{Function}
use Rattle.c_ast.specs.Comparison.{Comparison, comparison}
use Rattle.command_line.specs.declared.words.Command.{Command}
use Rattle.command_line.specs.CommandLine.{IsCommand}
use Rattle.command_line.specs.Refused.{AreNoCommandLine}
use Rattle.command_line.proofs.Laws.{one_command}
use Rattle.report.specs.declared.fault.Fault.{Fault}
use Rattle.report.specs.declared.fault.Fault.TheVariants as fault
use Rattle.llreve_cli.specs.Outcome as outcome
use Rattle.llreve_cli.specs.Outcome.{Outcome}
use Rattle.llreve_cli.specs.Call.{Call}
use Rattle.c_source.specs.declared.fault.TextFault.{TextFault}
use Rattle.c_source.specs.declared.fault.TextFault.TheVariants as refusal
use Rattle.c_source.specs.Reads.{Reads, IsRefusal}
use Rattle.c_source.specs.ReadsCondition.{IsConditionRefusal}
use Rattle.c_source.proofs.Laws.{one_reading, one_refusal, read_is_not_refused, one_condition, one_condition_refusal, read_condition_is_not_refused}
use Rattle.llreve_cli.specs.declared.judge.Finding.{Finding}
use Rattle.llreve_cli.specs.Written.{fault_status, status_of}
use Rattle.llreve_cli.specs.Leads.{IsRead, AreFunctions, AreComparable, IsGivenCondition, IsFindingOn, subject_of, IsUnread, RefusesBy}
use Rattle.llreve_cli.specs.Leads.{RefusesText, RefusesGiven, arities, Leads, no_command, first_unread, second_unread}
use Rattle.llreve_cli.specs.Leads.{first_refused, second_refused, other_arity, condition_refused, compared}
use Rattle.llreve_cli.specs.Answers.{AreTold, AreAlike, HasOneOutcome}
use Rattle.pool_core.proofs.Laws.{are_of_one_kind}

-- ---- a text is refused for one reason at most

-- A refusal stands for one fault under a name.
refused_once : (name : List ℕ) (IsRefused : TextFault → Type 0) → ((s t : TextFault) → IsRefused s → IsRefused t → s ≡ t) → (one other : Fault)
    → RefusesBy name IsRefused one → RefusesBy name IsRefused other → one ≡ other
refused_once name IsRefused once (fault.Token a one) (fault.Token b other) is also =
    let same = once (refusal.Token one) (refusal.Token other) is.1 also.1 in
    let inner : one ≡ other = cc in rw (is.0, also.0, inner) refl
refused_once name IsRefused once (fault.Token a one) (fault.Reader b other) is also =
    absurd (let clash = once (refusal.Token one) (refusal.Reader other) is.1 also.1 in cc)
refused_once name IsRefused once (fault.Token a one) (fault.Check b other) is also =
    absurd (let clash = once (refusal.Token one) (refusal.Check other) is.1 also.1 in cc)
refused_once name IsRefused once (fault.Reader a one) (fault.Token b other) is also =
    absurd (let clash = once (refusal.Reader one) (refusal.Token other) is.1 also.1 in cc)
refused_once name IsRefused once (fault.Reader a one) (fault.Reader b other) is also =
    let same = once (refusal.Reader one) (refusal.Reader other) is.1 also.1 in
    let inner : one ≡ other = cc in rw (is.0, also.0, inner) refl
refused_once name IsRefused once (fault.Reader a one) (fault.Check b other) is also =
    absurd (let clash = once (refusal.Reader one) (refusal.Check other) is.1 also.1 in cc)
refused_once name IsRefused once (fault.Check a one) (fault.Token b other) is also =
    absurd (let clash = once (refusal.Check one) (refusal.Token other) is.1 also.1 in cc)
refused_once name IsRefused once (fault.Check a one) (fault.Reader b other) is also =
    absurd (let clash = once (refusal.Check one) (refusal.Reader other) is.1 also.1 in cc)
refused_once name IsRefused once (fault.Check a one) (fault.Check b other) is also =
    let same = once (refusal.Check one) (refusal.Check other) is.1 also.1 in
    let inner : one ≡ other = cc in rw (is.0, also.0, inner) refl
refused_once name IsRefused once (fault.Token a one) fault.Usage is also = absurd also
refused_once name IsRefused once (fault.Token a one) (fault.Read b) is also = absurd also
refused_once name IsRefused once (fault.Token a one) (fault.TooLong b) is also = absurd also
refused_once name IsRefused once (fault.Token a one) (fault.Arity b) is also = absurd also
refused_once name IsRefused once (fault.Reader a one) fault.Usage is also = absurd also
refused_once name IsRefused once (fault.Reader a one) (fault.Read b) is also = absurd also
refused_once name IsRefused once (fault.Reader a one) (fault.TooLong b) is also = absurd also
refused_once name IsRefused once (fault.Reader a one) (fault.Arity b) is also = absurd also
refused_once name IsRefused once (fault.Check a one) fault.Usage is also = absurd also
refused_once name IsRefused once (fault.Check a one) (fault.Read b) is also = absurd also
refused_once name IsRefused once (fault.Check a one) (fault.TooLong b) is also = absurd also
refused_once name IsRefused once (fault.Check a one) (fault.Arity b) is also = absurd also
refused_once name IsRefused once fault.Usage other is also = absurd is
refused_once name IsRefused once (fault.Read a) other is also = absurd is
refused_once name IsRefused once (fault.TooLong a) other is also = absurd is
refused_once name IsRefused once (fault.Arity a) other is also = absurd is

-- Where nothing is refused, no fault says so.
none_refused : (name : List ℕ) (IsRefused : TextFault → Type 0) → ((t : TextFault) → ¬ IsRefused t) → (f : Fault) → ¬ RefusesBy name IsRefused f
none_refused name IsRefused none fault.Usage refuses = refuses
none_refused name IsRefused none (fault.Read a) refuses = refuses
none_refused name IsRefused none (fault.TooLong a) refuses = refuses
none_refused name IsRefused none (fault.Token a inner) refuses = none (refusal.Token inner) refuses.1
none_refused name IsRefused none (fault.Reader a inner) refuses = none (refusal.Reader inner) refuses.1
none_refused name IsRefused none (fault.Check a inner) refuses = none (refusal.Check inner) refuses.1
none_refused name IsRefused none (fault.Arity a) refuses = refuses

text_once : (name text : List ℕ) (one other : Fault) → RefusesText name text one → RefusesText name text other → one ≡ other
text_once name text one other is also = refused_once name (IsRefusal text) (one_refusal text) one other is also

-- A text that is read as a function is not refused.
reads_or_refused : (name text : List ℕ) (made : Function) (f : Fault) → Reads text made → RefusesText name text f → ⊥
reads_or_refused name text made f reads refuses =
    none_refused name (IsRefusal text) (λ why. read_is_not_refused text made why reads) f refuses

-- ---- the condition's text

given_refused_once : (func : Function) (given_text : Option (List ℕ)) (one other : Fault) → RefusesGiven func given_text one
    → RefusesGiven func given_text other → one ≡ other
given_refused_once func None one other is also = absurd is
given_refused_once func (Some given_text) one other is also =
    refused_once (codes "--pre") (IsConditionRefusal func given_text) (one_condition_refusal func given_text) one other is also

given_once : (func : Function) (given_text : Option (List ℕ)) (one other : Option Expr) → IsGivenCondition func given_text one
    → IsGivenCondition func given_text other → one ≡ other
given_once func None None None is also = refl
given_once func None None (Some other) is also = absurd also
given_once func None (Some one) other is also = absurd is
given_once func (Some given_text) None other is also = absurd is
given_once func (Some given_text) (Some one) None is also = absurd also
given_once func (Some given_text) (Some one) (Some other) is also =
    ap (λ (made : Expr). Some made) (one_condition func given_text one other is also)

given_or_refused : (func : Function) (given_text : Option (List ℕ)) (made : Option Expr) (f : Fault) → IsGivenCondition func given_text made
    → RefusesGiven func given_text f → ⊥
given_or_refused func None made f is refuses = refuses
given_or_refused func (Some given_text) None f is refuses = is
given_or_refused func (Some given_text) (Some made) f is refuses =
    none_refused (codes "--pre") (IsConditionRefusal func given_text) (λ why. read_condition_is_not_refused func given_text made why is) f refuses

-- ---- from the told texts on

-- Two functions that two texts of at most the length that may be are read as.
record ReadBoth (a b : List ℕ) (first second : Function) : Type 0 where
  short_first : length a ≤ longest
  short_second : length b ≤ longest
  first_reads : Reads a first
  second_reads : Reads b second

-- The functions of two texts are the same ones.
both_once : (a b : List ℕ) (f g f' g' : Function) → ReadBoth a b f g → ReadBoth a b f' g' → (f ≡ f') × (g ≡ g')
both_once a b f g f' g' is also = (one_reading a f f' is.first_reads also.first_reads, one_reading b g g' is.second_reads also.second_reads)

-- What a command and two told texts lead to.
data Judged (command : Command) (a b : List ℕ) : Outcome → Type 0 where
  first_long : longest < length a → Judged command a b (outcome.Refused (fault.TooLong command.first))
  second_long : length a ≤ longest → longest < length b → Judged command a b (outcome.Refused (fault.TooLong command.second))
  first_bad : (f : Fault) → length a ≤ longest → length b ≤ longest → RefusesText command.first a f → Judged command a b (outcome.Refused f)
  second_bad : (first : Function) (f : Fault) → length a ≤ longest → length b ≤ longest → Reads a first → RefusesText command.second b f
      → Judged command a b (outcome.Refused f)
  uneven : (first second : Function) → ReadBoth a b first second → first.params ≢ second.params
      → Judged command a b (outcome.Refused (fault.Arity (arities first second)))
  pre_bad : (first second : Function) (f : Fault) → ReadBoth a b first second → first.params ≡ second.params
      → RefusesGiven first command.condition f → Judged command a b (outcome.Refused f)
  even : (first second : Function) (condition : Option Expr) (found : Finding) → ReadBoth a b first second → first.params ≡ second.params
      → IsGivenCondition first command.condition condition
      → IsFindingOn (comparison first second command.settings condition) command.history found → Judged command a b (outcome.Found found)

-- the numbers of parameters are equal of both functions, or differ of both
still_equal : (f g f' g' : Function) → (f ≡ f') × (g ≡ g') → f.params ≡ g.params → f'.params ≡ g'.params
still_equal f g f' g' same is =
    sym (ap (λ (f : Function). f.params) same.0) ∙ is ∙ ap (λ (f : Function). f.params) same.1

-- the condition of one and the same function
same_given : (command : Command) (a b : List ℕ) (f g f' g' : Function) (one other : Option Expr) → ReadBoth a b f g → ReadBoth a b f' g'
    → IsGivenCondition f command.condition one → IsGivenCondition f' command.condition other → one ≡ other
same_given command a b f g f' g' one other reads also is is' =
    given_once f' command.condition one other
    (subst (λ (f : Function). IsGivenCondition f command.condition one) (both_once a b f g f' g' reads also).0 is) is'

given_clash : (command : Command) (a b : List ℕ) (f g f' g' : Function) (made : Option Expr) (why : Fault) → ReadBoth a b f g → ReadBoth a b f' g'
    → IsGivenCondition f command.condition made → RefusesGiven f' command.condition why → ⊥
given_clash command a b f g f' g' made why reads also is refuses =
    given_or_refused f' command.condition made why
    (subst (λ (f : Function). IsGivenCondition f command.condition made) (both_once a b f g f' g' reads also).0 is) refuses

-- Two findings on one comparison are alike.
alike_on : (subject : Comparison) (with_history : Bool) (one other : Finding) → IsFindingOn subject with_history one
    → IsFindingOn subject with_history other → AreAlike (outcome.Found one) (outcome.Found other)
alike_on subject with_history one other is also = (
  is.own ∙ sym also.own,
  are_of_one_kind subject one.solved.verdict other.solved.verdict is.formed is.solved.solved.justified also.solved.solved.justified,
)

judged_once : (command : Command) (a b : List ℕ) (one other : Outcome) → Judged command a b one → Judged command a b other → AreAlike one other
judged_once command a b one other (first_long over) (first_long over') =
    refl
judged_once command a b one other (first_long over) (second_long short' over') =
    absurd (omega (arith, over, short'))
judged_once command a b one other (first_long over) (first_bad f' short_a' short_b' is') =
    absurd (omega (arith, over, short_a'))
judged_once command a b one other (first_long over) (second_bad first' f' short_a' short_b' reads' is') =
    absurd (omega (arith, over, short_a'))
judged_once command a b one other (first_long over) (uneven first' second' both' differ') =
    absurd (omega (arith, over, both'.short_first))
judged_once command a b one other (first_long over) (pre_bad first' second' f' both' same' is') =
    absurd (omega (arith, over, both'.short_first))
judged_once command a b one other (first_long over) (even first' second' condition' e' both' same' given' compares') =
    absurd (omega (arith, over, both'.short_first))
judged_once command a b one other (second_long short over) (first_long over') =
    absurd (omega (arith, over', short))
judged_once command a b one other (second_long short over) (second_long short' over') =
    refl
judged_once command a b one other (second_long short over) (first_bad f' short_a' short_b' is') =
    absurd (omega (arith, over, short_b'))
judged_once command a b one other (second_long short over) (second_bad first' f' short_a' short_b' reads' is') =
    absurd (omega (arith, over, short_b'))
judged_once command a b one other (second_long short over) (uneven first' second' both' differ') =
    absurd (omega (arith, over, both'.short_second))
judged_once command a b one other (second_long short over) (pre_bad first' second' f' both' same' is') =
    absurd (omega (arith, over, both'.short_second))
judged_once command a b one other (second_long short over) (even first' second' condition' e' both' same' given' compares') =
    absurd (omega (arith, over, both'.short_second))
judged_once command a b one other (first_bad f short_a short_b is) (first_long over') =
    absurd (omega (arith, over', short_a))
judged_once command a b one other (first_bad f short_a short_b is) (second_long short' over') =
    absurd (omega (arith, over', short_b))
judged_once command a b one other (first_bad f short_a short_b is) (first_bad f' short_a' short_b' is') =
    text_once command.first a f f' is is'
judged_once command a b one other (first_bad f short_a short_b is) (second_bad first' f' short_a' short_b' reads' is') =
    absurd (reads_or_refused command.first a first' f reads' is)
judged_once command a b one other (first_bad f short_a short_b is) (uneven first' second' both' differ') =
    absurd (reads_or_refused command.first a first' f both'.first_reads is)
judged_once command a b one other (first_bad f short_a short_b is) (pre_bad first' second' f' both' same' is') =
    absurd (reads_or_refused command.first a first' f both'.first_reads is)
judged_once command a b one other (first_bad f short_a short_b is) (even first' second' condition' e' both' same' given' compares') =
    absurd (reads_or_refused command.first a first' f both'.first_reads is)
judged_once command a b one other (second_bad first f short_a short_b reads is) (first_long over') =
    absurd (omega (arith, over', short_a))
judged_once command a b one other (second_bad first f short_a short_b reads is) (second_long short' over') =
    absurd (omega (arith, over', short_b))
judged_once command a b one other (second_bad first f short_a short_b reads is) (first_bad f' short_a' short_b' is') =
    absurd (reads_or_refused command.first a first f' reads is')
judged_once command a b one other (second_bad first f short_a short_b reads is) (second_bad first' f' short_a' short_b' reads' is') =
    text_once command.second b f f' is is'
judged_once command a b one other (second_bad first f short_a short_b reads is) (uneven first' second' both' differ') =
    absurd (reads_or_refused command.second b second' f both'.second_reads is)
judged_once command a b one other (second_bad first f short_a short_b reads is) (pre_bad first' second' f' both' same' is') =
    absurd (reads_or_refused command.second b second' f both'.second_reads is)
judged_once command a b one other (second_bad first f short_a short_b reads is) (even first' second' condition' e' both' same' given' compares') =
    absurd (reads_or_refused command.second b second' f both'.second_reads is)
judged_once command a b one other (uneven first second both differ) (first_long over') =
    absurd (omega (arith, over', both.short_first))
judged_once command a b one other (uneven first second both differ) (second_long short' over') =
    absurd (omega (arith, over', both.short_second))
judged_once command a b one other (uneven first second both differ) (first_bad f' short_a' short_b' is') =
    absurd (reads_or_refused command.first a first f' both.first_reads is')
judged_once command a b one other (uneven first second both differ) (second_bad first' f' short_a' short_b' reads' is') =
    absurd (reads_or_refused command.second b second f' both.second_reads is')
judged_once command a b one other (uneven first second both differ) (uneven first' second' both' differ') =
    let same = both_once a b first second first' second' both both' in rw (same.0, same.1) refl
judged_once command a b one other (uneven first second both differ) (pre_bad first' second' f' both' same' is') =
    absurd (differ (still_equal first' second' first second (both_once a b first' second' first second both' both) same'))
judged_once command a b one other (uneven first second both differ) (even first' second' condition' e' both' same' given' compares') =
    absurd (differ (still_equal first' second' first second (both_once a b first' second' first second both' both) same'))
judged_once command a b one other (pre_bad first second f both same is) (first_long over') =
    absurd (omega (arith, over', both.short_first))
judged_once command a b one other (pre_bad first second f both same is) (second_long short' over') =
    absurd (omega (arith, over', both.short_second))
judged_once command a b one other (pre_bad first second f both same is) (first_bad f' short_a' short_b' is') =
    absurd (reads_or_refused command.first a first f' both.first_reads is')
judged_once command a b one other (pre_bad first second f both same is) (second_bad first' f' short_a' short_b' reads' is') =
    absurd (reads_or_refused command.second b second f' both.second_reads is')
judged_once command a b one other (pre_bad first second f both same is) (uneven first' second' both' differ') =
    absurd (differ' (still_equal first second first' second' (both_once a b first second first' second' both both') same))
judged_once command a b one other (pre_bad first second f both same is) (pre_bad first' second' f' both' same' is') =
    given_refused_once first' command.condition f f'
    (subst (λ (first : Function). RefusesGiven first command.condition f) (both_once a b first second first' second' both both').0 is) is'
judged_once command a b one other (pre_bad first second f both same is) (even first' second' condition' e' both' same' given' compares') =
    absurd (given_clash command a b first' second' first second condition' f both' both given' is)
judged_once command a b one other (even first second condition e both same given compares) (first_long over') =
    absurd (omega (arith, over', both.short_first))
judged_once command a b one other (even first second condition e both same given compares) (second_long short' over') =
    absurd (omega (arith, over', both.short_second))
judged_once command a b one other (even first second condition e both same given compares) (first_bad f' short_a' short_b' is') =
    absurd (reads_or_refused command.first a first f' both.first_reads is')
judged_once command a b one other (even first second condition e both same given compares) (second_bad first' f' short_a' short_b' reads' is') =
    absurd (reads_or_refused command.second b second f' both.second_reads is')
judged_once command a b one other (even first second condition e both same given compares) (uneven first' second' both' differ') =
    absurd (differ' (still_equal first second first' second' (both_once a b first second first' second' both both') same))
judged_once command a b one other (even first second condition e both same given compares) (pre_bad first' second' f' both' same' is') =
    absurd (given_clash command a b first second first' second' condition f' both both' given is')
judged_once command a b one other (even first second condition e both same given compares) (even first' second' condition' e' both' same' given' compares') =
    let functions = both_once a b first second first' second' both both' in
    let conditions = same_given command a b first second first' second' condition condition' both both' given given' in
    alike_on (comparison first' second' command.settings condition') command.history e e'
    (subst (λ (s : Comparison). IsFindingOn s command.history e) (rw (functions.0, functions.1, conditions) refl) compares) compares'

-- The outcome is a finding on the comparison.
abbrev pub IsFoundOn : Comparison → Bool → Outcome → Type 0
IsFoundOn subject with_history (outcome.Refused f) = ⊥
IsFoundOn subject with_history (outcome.Found finding) = IsFindingOn subject with_history finding

-- Functions that can be compared lead to a finding on them.
found_judged : (command : Command) (a b : List ℕ) (f g : Function) (made : Option Expr) (o : Outcome) → ReadBoth a b f g
    → f.params ≡ g.params → IsGivenCondition f command.condition made → Judged command a b o
    → IsFoundOn (comparison f g command.settings made) command.history o
found_judged command a b f g made o read equal is_made (first_long over) =
    absurd (omega (arith, over, read.short_first))
found_judged command a b f g made o read equal is_made (second_long _ over) =
    absurd (omega (arith, over, read.short_second))
found_judged command a b f g made o read equal is_made (first_bad why _ _ is) =
    absurd (reads_or_refused command.first a f why read.first_reads is)
found_judged command a b f g made o read equal is_made (second_bad _ why _ _ _ is) =
    absurd (reads_or_refused command.second b g why read.second_reads is)
found_judged command a b f g made o read equal is_made (uneven first second both differ) =
    absurd (differ (still_equal f g first second (both_once a b f g first second read both) equal))
found_judged command a b f g made o read equal is_made (pre_bad first second why both _ is) =
    absurd (given_clash command a b f g first second made why read both is_made is)
found_judged command a b f g made o read equal is_made (even first second condition finding both _ given is) =
    let functions = both_once a b first second f g both read in
    let conditions = same_given command a b first second f g condition made both read given is_made in
    subst (λ (s : Comparison). IsFindingOn s command.history finding) (rw (functions.0, functions.1, conditions) refl) is

-- ---- from the words on

module _ (call : Call) (told : AreTold call) where
  -- the told texts of a command's files
  abbrev a_of : (command : Command) → IsCommand call.words command → List ℕ
  a_of command commands = (told.first command commands).0

  abbrev b_of : (command : Command) → IsCommand call.words command → List ℕ
  b_of command commands = (told.second command commands).0

  -- Bytes that were read are the told text, which is not too long.
  read_told : (name bytes wanted : List ℕ) → call.text name ≡ Some wanted → IsRead (call.text name) bytes → (bytes ≡ wanted) × (length wanted ≤ longest)
  read_told name bytes wanted is read =
      let known : IsRead (Some wanted) bytes = subst (λ (o : Option (List ℕ)). IsRead o bytes) is read in
      let same : bytes ≡ wanted = known.whole in (same, subst (λ (list : List ℕ). length list ≤ longest) same known.short)

  -- The outcome is the one that these words lead to without a command, or with this one.
  data Settled : Outcome → Type 0 where
    nothing : AreNoCommandLine call.words → Settled (outcome.Refused fault.Usage)
    judged : (command : Command) (a b : List ℕ) (o : Outcome) → IsCommand call.words command → call.text command.first ≡ Some a
        → call.text command.second ≡ Some b → Judged command a b o → Settled o

  settled_by : (command : Command) (commands : IsCommand call.words command) (o : Outcome) → Judged command (a_of command commands) (b_of command commands) o
      → Settled o
  settled_by command commands o is = judged command (a_of command commands)
      (b_of command commands) o commands (told.first command commands).1 (told.second command commands).1 is

  unread_first : (command : Command) (commands : IsCommand call.words command) (f : Fault) → fault_status f ≢ 4
      → IsUnread call command.first f → Judged command (a_of command commands) (b_of command commands) (outcome.Refused f)
  unread_first command commands (fault.Read named) read refuses = absurd (read refl)
  unread_first command commands (fault.TooLong named) read refuses =
      let over : longest < length (a_of command commands) = subst IsLong (told.first command commands).1 refuses.1 in
      subst (λ (name : List ℕ). Judged command (a_of command commands) (b_of command commands) (outcome.Refused (fault.TooLong name))) (sym refuses.0)
      (first_long over)
  unread_first command commands fault.Usage read refuses = absurd refuses
  unread_first command commands (fault.Token named inner) read refuses = absurd refuses
  unread_first command commands (fault.Reader named inner) read refuses = absurd refuses
  unread_first command commands (fault.Check named inner) read refuses = absurd refuses
  unread_first command commands (fault.Arity arity) read refuses = absurd refuses

  unread_second : (command : Command) (commands : IsCommand call.words command) (f : Fault) → fault_status f ≢ 4
      → length (a_of command commands) ≤ longest → IsUnread call command.second f
      → Judged command (a_of command commands) (b_of command commands) (outcome.Refused f)
  unread_second command commands (fault.Read named) read short refuses = absurd (read refl)
  unread_second command commands (fault.TooLong named) read short refuses =
      let over : longest < length (b_of command commands) = subst IsLong (told.second command commands).1 refuses.1 in
      subst (λ (name : List ℕ). Judged command (a_of command commands) (b_of command commands) (outcome.Refused (fault.TooLong name))) (sym refuses.0)
      (second_long short over)
  unread_second command commands fault.Usage read short refuses = absurd refuses
  unread_second command commands (fault.Token named inner) read short refuses = absurd refuses
  unread_second command commands (fault.Reader named inner) read short refuses = absurd refuses
  unread_second command commands (fault.Check named inner) read short refuses = absurd refuses
  unread_second command commands (fault.Arity arity) read short refuses = absurd refuses

  -- Both functions are those of the told texts.
  read_both : (functions : AreFunctions call)
      → ReadBoth (a_of functions.files.command functions.files.commands)
      (b_of functions.files.command functions.files.commands) functions.first functions.second
  read_both functions =
      let files = functions.files in
      let first = read_told files.command.first files.first_text _ (told.first files.command files.commands).1 files.first_read in
      let second = read_told files.command.second files.second_text _ (told.second files.command files.commands).1 files.second_read in
      record {
        short_first = first.1;
        short_second = second.1;
        first_reads = subst (λ (list : List ℕ). Reads list functions.first) first.0 functions.first_parsed;
        second_reads = subst (λ (list : List ℕ). Reads list functions.second) second.0 functions.second_parsed;
      }

  -- The outcome is no failed read.
  settled : (o : Outcome) → status_of o ≢ 4 → Leads call o → Settled o
  settled o is_read (no_command none) = nothing none
  settled o is_read (first_unread command f commands refuses) = settled_by command commands _ (unread_first command commands f is_read refuses)
  settled o is_read (second_unread command bytes f commands read refuses) =
      settled_by command commands _ (unread_second command commands f is_read (read_told command.first bytes _ (told.first command commands).1 read).1 refuses)
  settled o is_read (first_refused files f refuses) =
      let first = read_told files.command.first files.first_text _ (told.first files.command files.commands).1 files.first_read in
      let second = read_told files.command.second files.second_text _ (told.second files.command files.commands).1 files.second_read in
      settled_by files.command files.commands _
      (first_bad f first.1 second.1 (subst (λ (list : List ℕ). RefusesText files.command.first list f) first.0 refuses))
  settled o is_read (second_refused files made f reads refuses) =
      let first = read_told files.command.first files.first_text _ (told.first files.command files.commands).1 files.first_read in
      let second = read_told files.command.second files.second_text _ (told.second files.command files.commands).1 files.second_read in
      settled_by files.command files.commands _ (second_bad made f first.1 second.1 (subst (λ (list : List ℕ). Reads list made) first.0 reads)
      (subst (λ (list : List ℕ). RefusesText files.command.second list f) second.0 refuses))
  settled o is_read (other_arity functions differ) =
      settled_by functions.files.command functions.files.commands _ (uneven functions.first functions.second (read_both functions) differ)
  settled o is_read (condition_refused functions f same refuses) =
      settled_by functions.files.command functions.files.commands _ (pre_bad functions.first functions.second f (read_both functions) same refuses)
  settled o is_read (compared comparable e is) =
      let functions = comparable.functions in
      settled_by functions.files.command functions.files.commands _
      (even functions.first functions.second comparable.condition e (read_both functions) comparable.arity comparable.given is)

  settled_once : (one other : Outcome) → Settled one → Settled other → AreAlike one other
  settled_once one other (nothing _) (nothing _) = refl
  settled_once one other (nothing without) (judged command _ _ _ commands _ _ _) = absurd (without command commands)
  settled_once one other (judged command _ _ _ commands _ _ _) (nothing without) = absurd (without command commands)
  settled_once one other (judged command a b _ commands first second is) (judged command' a' b' _ commands' first' second' also) =
      let same = one_command call.words command command' commands commands' in
      let firsts : a ≡ a' = let wrapped : Some a ≡ Some a' = sym first ∙ ap (λ (c : Command). call.text c.first) same ∙ first' in cc in
      let seconds : b ≡ b' = let wrapped : Some b ≡ Some b' = sym second ∙ ap (λ (c : Command). call.text c.second) same ∙ second' in cc in
      judged_once command' a' b' one other
      (subst (λ (list : List ℕ). Judged command' a' list one) seconds (subst (λ (list : List ℕ). Judged command' list b one) firsts
      (subst (λ (c : Command). Judged c a b one) same is))) also

  found_settled : (comparable : AreComparable call) (o : Outcome) → Settled o
      → IsFoundOn (subject_of comparable) comparable.functions.files.command.history o
  found_settled comparable o (nothing without) = absurd (without comparable.functions.files.command comparable.functions.files.commands)
  found_settled comparable o (judged command a b _ commands is_first is_second is) =
      let functions = comparable.functions in
      let files = functions.files in
      let same : files.command ≡ command = one_command call.words files.command command files.commands commands in
      let first = read_told files.command.first files.first_text a (ap (λ (c : Command). call.text c.first) same ∙ is_first) files.first_read in
      let second = read_told files.command.second files.second_text b (ap (λ (c : Command). call.text c.second) same ∙ is_second) files.second_read in
      let both : ReadBoth a b functions.first functions.second = record {
        short_first = first.1;
        short_second = second.1;
        first_reads = subst (λ (list : List ℕ). Reads list functions.first) first.0 functions.first_parsed;
        second_reads = subst (λ (list : List ℕ). Reads list functions.second) second.0 functions.second_parsed;
      } in
      found_judged files.command a b functions.first functions.second comparable.condition o both comparable.arity comparable.given
      (subst (λ (c : Command). Judged c a b o) (sym same) is)

-- What a call leads to whose texts are told is alike, apart from a failed read.
pub outcome_once : HasOneOutcome
outcome_once call one other told is also is_read is_read' =
    settled_once call told one other (settled call told one is_read is) (settled call told other is_read' also)

-- Functions that can be compared lead to a finding on them, unless a read failed.
pub found_once : (call : Call) (o : Outcome) → AreTold call → (comparable : AreComparable call) → Leads call o → status_of o ≢ 4
    → IsFoundOn (subject_of comparable) comparable.functions.files.command.history o
found_once call o told comparable is is_read = found_settled call told comparable o (settled call told o is_read is)
