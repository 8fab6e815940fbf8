-- What the statuses tell.
use Rattle.std.proofs.Common.{◌≡◌, ◌≢◌, ℕ, ◌<◌, ◌≤◌, [], List, Option, Some, None, Result, Ok, Err, IfOk, IfErr}
use Rattle.std.proofs.Common.{Bool, refl, sym, ap, ◌∙◌, subst, arith, ◌⊎◌, inl, inr, append-nil}
use Rattle.std.specs.Io.KnownBytes.{Appends, Keeps}
use Rattle.std.specs.Prelude.{codes}
use Rattle.re_base.specs.Causes.{Rose}
use Rattle.c_ast.specs.Comparison.{Comparison, condition_of}
use Rattle.c_ast.specs.Returns.{NeverDiffer}
use Rattle.relation.proofs.Laws.{coupled_never_differ}
use Rattle.pool_core.specs.declared.verdict.Verdict.{Verdict}
use Rattle.pool_core.specs.declared.verdict.Verdict.TheVariants as verdict
use Rattle.pool_core.specs.declared.verdict.SampleWhy.{SampleWhy}
use Rattle.pool_core.specs.declared.verdict.Why.{Why}
use Rattle.pool_core.specs.Justified.{ShowsEquivalence, ShowsDifference, IsJustified}
use Rattle.pool_core.specs.Kinds.{kind_of, IsEquivalent, IsDifferent, NamesLimitAt}
use Rattle.pool_core.proofs.Laws.{differences_are_found, couplings_are_found}
use Rattle.workers.specs.Solved.{IsFirstVerdict}
use Rattle.report.specs.Fits.{FitsSubject}
use Rattle.report.proofs.Laws.{justified_verdicts_fit, legal_histories_are_kept}
use Rattle.trace_pair.proofs.Laws.{pair_has_traces}
use Rattle.report.specs.declared.fault.Fault.{Fault}
use Rattle.report.specs.declared.fault.Fault.TheVariants as fault
use Rattle.report.specs.Faults.{IsKept, fault_text}
use Rattle.c_ast.specs.Function.{Function, program_of}
use Rattle.c_source.specs.declared.fault.TextFault.{TextFault}
use Rattle.c_source.specs.declared.fault.TextFault.TheVariants as refusal
use Rattle.c_source.specs.TextFaults.{IsNoWant}
use Rattle.c_source.specs.Reads.{IsRefusal}
use Rattle.c_source.specs.ReadsCondition.{IsConditionRefusal}
use Rattle.c_source.proofs.Laws.{refusal_is_no_want, condition_refusal_is_no_want}
use Rattle.llreve_cli.specs.declared.judge.Finding.{Finding}
use Rattle.llreve_cli.specs.declared.judge.NoVerdict.{NoVerdict}
use Rattle.llreve_cli.specs.declared.judge.NoVerdict.TheVariants as no_verdict
use Rattle.llreve_cli.specs.Outcome as outcome
use Rattle.llreve_cli.specs.Outcome.{Outcome}
use Rattle.llreve_cli.specs.Call.{Call}
use Rattle.llreve_cli.specs.Change.{Change, Gets, GetsNothing, Fails}
use Rattle.llreve_cli.specs.Leads.{AreComparable, subject_of, IsFindingOn, IsFindingOf, RefusesRead, RefusesBy, RefusesGiven, Leads}
use Rattle.llreve_cli.specs.Leads.{no_command, first_unread, second_unread, first_refused, second_refused}
use Rattle.llreve_cli.specs.Leads.{other_arity, condition_refused, compared}
use Rattle.llreve_cli.specs.NoVerdict.{IfRefused}
use Rattle.llreve_cli.proofs.OneOutcome.{outcome_once, found_once}
use Rattle.llreve_cli.specs.Judged.{Judges}
use Rattle.llreve_cli.specs.Written.{fault_status, verdict_status, status_of}
use Rattle.llreve_cli.specs.Tells.{CanBeTold, IsTold, IsCut, Tells, TellsJudged}
use Rattle.llreve_cli.specs.Answers.{AreCompared, text_of, AreEquivalent, AreDifferent, AreUnknown, AreRefused, AreUnread, AreTold, SampleDiffers, HasCoupling, HidesCoupling}

-- ---- nothing that is told is want of memory

unread_kept : (text : List ℕ → Option (List ℕ)) (before after : List ℕ → ℕ) (name : List ℕ) (f : Fault) → RefusesRead text before after name f → IsKept f
unread_kept text before after name fault.Usage refuses = tt
unread_kept text before after name (fault.Read named) refuses = tt
unread_kept text before after name (fault.TooLong named) refuses = tt
unread_kept text before after name (fault.Token named inner) refuses = absurd refuses
unread_kept text before after name (fault.Reader named inner) refuses = absurd refuses
unread_kept text before after name (fault.Check named inner) refuses = absurd refuses
unread_kept text before after name (fault.Arity arity) refuses = tt

refused_kept : (name : List ℕ) (IsRefused : TextFault → Type 0) → ((t : TextFault) → IsRefused t → IsNoWant t) → (f : Fault)
    → RefusesBy name IsRefused f → IsKept f
refused_kept name IsRefused no_want fault.Usage refuses = tt
refused_kept name IsRefused no_want (fault.Read named) refuses = tt
refused_kept name IsRefused no_want (fault.TooLong named) refuses = tt
refused_kept name IsRefused no_want (fault.Token named inner) refuses = no_want (refusal.Token inner) refuses.1
refused_kept name IsRefused no_want (fault.Reader named inner) refuses = no_want (refusal.Reader inner) refuses.1
refused_kept name IsRefused no_want (fault.Check named inner) refuses = no_want (refusal.Check inner) refuses.1
refused_kept name IsRefused no_want (fault.Arity arity) refuses = tt

given_kept : (func : Function) (given_text : Option (List ℕ)) (f : Fault) → RefusesGiven func given_text f → IsKept f
given_kept func None f refuses = absurd refuses
given_kept func (Some given_text) f refuses =
    refused_kept (codes "--pre") (IsConditionRefusal func given_text) (condition_refusal_is_no_want func given_text) f refuses

-- A finding can be told.
finding_kept : (subject : Comparison) (with_history : Bool) (finding : Finding) → IsFindingOn subject with_history finding → CanBeTold finding
finding_kept subject with_history finding is = record {
  fits = subst (λ (s : Comparison). FitsSubject s finding.solved.verdict) (sym is.own)
      (justified_verdicts_fit subject finding.solved.verdict is.formed is.solved.solved.justified);
  kept = legal_histories_are_kept subject finding.solved.history is.solved.solved.legal;
}

-- Nothing that the outcome holds is want of memory.
abbrev Kept : Outcome → Type 0
Kept (outcome.Found finding) = CanBeTold finding
Kept (outcome.Refused f) = IsKept f

leads_kept : (call : Call) (o : Outcome) → Leads call o → Kept o
leads_kept call o (no_command _) = tt
leads_kept call o (first_unread command f commands refuses) =
    unread_kept call.text call.faults_before call.faults_after command.first f refuses
leads_kept call o (second_unread command bytes f commands read refuses) =
    unread_kept call.text call.faults_before call.faults_after command.second f refuses
leads_kept call o (first_refused files f refuses) =
    refused_kept files.command.first (IsRefusal files.first_text) (refusal_is_no_want files.first_text) f refuses
leads_kept call o (second_refused files first f reads refuses) =
    refused_kept files.command.second (IsRefusal files.second_text) (refusal_is_no_want files.second_text) f refuses
leads_kept call o (other_arity _ _) = tt
leads_kept call o (condition_refused functions f _ refuses) =
    given_kept functions.first functions.files.command.condition f refuses
leads_kept call o (compared comparable finding is) = finding_kept (subject_of comparable) comparable.functions.files.command.history finding is

-- A finding that was judged can be told.
pub verdict_kept : (call : Call) (judged : Result Finding NoVerdict) → Judges call judged → IfOk judged CanBeTold
verdict_kept call (Ok finding) leads = leads_kept call (outcome.Found finding) leads
verdict_kept call (Err why) leads = tt

-- Nor does a refusal.
pub refusal_kept : (call : Call) (judged : Result Finding NoVerdict) → Judges call judged
    → IfErr judged (IfRefused IsKept)
refusal_kept call (Ok finding) leads = tt
refusal_kept call (Err (no_verdict.Refused f)) leads = leads_kept call (outcome.Refused f) leads
refusal_kept call (Err no_verdict.Memory) leads = tt

-- ---- what a verdict says

-- Where nothing is appended, what was written is kept.
nothing_appended : (old new : Option (List ℕ)) → Appends old new [] → Keeps old new
nothing_appended None new same = tt
nothing_appended (Some bytes) None same = absurd same
nothing_appended (Some bytes) (Some written) same = same ∙ append-nil bytes

-- A fault has a status of its own.
refused-status : (f : Fault) → 3 ≤ fault_status f
refused-status fault.Usage = omega arith
refused-status (fault.Read name) = omega arith
refused-status (fault.TooLong name) = omega arith
refused-status (fault.Token name inner) = omega arith
refused-status (fault.Reader name inner) = omega arith
refused-status (fault.Check name inner) = omega arith
refused-status (fault.Arity arity) = omega arith

refused-below : (f : Fault) → fault_status f < 5
refused-below fault.Usage = omega arith
refused-below (fault.Read name) = omega arith
refused-below (fault.TooLong name) = omega arith
refused-below (fault.Token name inner) = omega arith
refused-below (fault.Reader name inner) = omega arith
refused-below (fault.Check name inner) = omega arith
refused-below (fault.Arity arity) = omega arith

-- A verdict has a status below 3.
verdict-status : (v : Verdict) → verdict_status v < 3
verdict-status (verdict.Equivalent coupled indexes) = omega arith
verdict-status (verdict.Different index input first second) = omega arith
verdict-status (verdict.Unknown samples alignments) = omega arith

-- An outcome has a status below 5.
outcome-status : (o : Outcome) → status_of o < 5
outcome-status (outcome.Found finding) = let low = verdict-status finding.solved.verdict in omega (arith, low)
outcome-status (outcome.Refused f) = refused-below f

-- No text is refused by a failed read.
no_failed_read : (name : List ℕ) (IsRefused : TextFault → Type 0) (f : Fault) (failed : List ℕ) → f ≡ fault.Read failed → ¬ RefusesBy name IsRefused f
no_failed_read name IsRefused fault.Usage failed same refuses = refuses
no_failed_read name IsRefused (fault.Read named) failed same refuses = refuses
no_failed_read name IsRefused (fault.TooLong named) failed same refuses = refuses
no_failed_read name IsRefused (fault.Token named inner) failed same refuses = cc
no_failed_read name IsRefused (fault.Reader named inner) failed same refuses = cc
no_failed_read name IsRefused (fault.Check named inner) failed same refuses = cc
no_failed_read name IsRefused (fault.Arity arity) failed same refuses = refuses

no_failed_condition : (func : Function) (given_text : Option (List ℕ)) (f : Fault) (failed : List ℕ) → f ≡ fault.Read failed
    → ¬ RefusesGiven func given_text f
no_failed_condition func None f failed same refuses = refuses
no_failed_condition func (Some given_text) f failed same refuses =
    no_failed_read (codes "--pre") (IsConditionRefusal func given_text) f failed same refuses

read_rose : (text : List ℕ → Option (List ℕ)) (before after : List ℕ → ℕ) (name : List ℕ) (f : Fault) (failed : List ℕ)
    → f ≡ fault.Read failed → RefusesRead text before after name f → Rose (before failed) (after failed)
read_rose text before after name (fault.Read named) failed same refuses =
    let is : failed ≡ named = cc in
    subst (λ (n : List ℕ). Rose (before n) (after n)) (sym (is ∙ refuses.0)) refuses.1
read_rose text before after name (fault.TooLong named) failed same refuses = absurd cc
read_rose text before after name fault.Usage failed same refuses = absurd refuses
read_rose text before after name (fault.Token named inner) failed same refuses = absurd refuses
read_rose text before after name (fault.Reader named inner) failed same refuses = absurd refuses
read_rose text before after name (fault.Check named inner) failed same refuses = absurd refuses
read_rose text before after name (fault.Arity arity) failed same refuses = absurd refuses

module _ (call : Call) where
  -- A file that was not read is one whose count of faults rose.
  leads-failed : (o : Outcome) (name : List ℕ) → Leads call o → o ≡ outcome.Refused (fault.Read name)
      → Rose (call.faults_before name) (call.faults_after name)
  leads-failed o name (no_command _) same = absurd cc
  leads-failed o name (first_unread command f _ refuses) same =
      read_rose call.text call.faults_before call.faults_after command.first f name (cc) refuses
  leads-failed o name (second_unread command _ f _ _ refuses) same =
      read_rose call.text call.faults_before call.faults_after command.second f name (cc) refuses
  leads-failed o name (first_refused files f refuses) same =
      absurd (no_failed_read files.command.first (IsRefusal files.first_text) f name (cc) refuses)
  leads-failed o name (second_refused files _ f _ refuses) same =
      absurd (no_failed_read files.command.second (IsRefusal files.second_text) f name (cc) refuses)
  leads-failed o name (other_arity _ _) same = absurd cc
  leads-failed o name (condition_refused functions f _ refuses) same =
      absurd (no_failed_condition functions.first functions.files.command.condition f name (cc) refuses)
  leads-failed o name (compared _ _ _) same = absurd cc

  leads-found : (o : Outcome) → Leads call o → (finding : Finding) → o ≡ outcome.Found finding
      → (comparable : AreComparable call) × IsFindingOf call comparable finding
  leads-found o (no_command _) finding same = absurd cc
  leads-found o (first_unread _ _ _ _) finding same = absurd cc
  leads-found o (second_unread _ _ _ _ _ _) finding same = absurd cc
  leads-found o (first_refused _ _ _) finding same = absurd cc
  leads-found o (second_refused _ _ _ _ _) finding same = absurd cc
  leads-found o (other_arity _ _) finding same = absurd cc
  leads-found o (condition_refused _ _ _ _) finding same = absurd cc
  leads-found o (compared comparable told is) finding same =
      let equal : told ≡ finding = cc in
      (comparable, subst (λ (told : Finding). IsFindingOf call comparable told) equal is)

-- What is told of the call: its outcome, or nothing where memory ran out.
pub record Answered (call : Call) (out err : Change) (status : ℕ) : Type 0 where
  pub told : status ≢ 6 → (o : Outcome) × Leads call o × Tells o out err status
  pub memory : status ≡ 6 → GetsNothing out × GetsNothing err

-- The answer of the judgement is what the call leads to, so what is told of it is told of the call.
pub answered : {call : Call} {out err : Change} {status : ℕ} (judged : Result Finding NoVerdict) → Judges call judged
    → TellsJudged judged out err status → Answered call out err status
answered (Ok finding) leads tells = record { told = λ no. (outcome.Found finding, leads, tells); memory = tells.memory }
answered (Err (no_verdict.Refused f)) leads tells =
    record { told = λ no. (outcome.Refused f, leads, tells); memory = tells.memory }
answered (Err no_verdict.Memory) leads tells =
    record { told = λ no. absurd (no tells.0); memory = λ ran_out. (tells.1, tells.2) }

-- A verdict with status 2 is that nothing is known.
unknown_parts : (v : Verdict) → verdict_status v ≡ 2
    → (samples : List SampleWhy) × (alignments : List Why) × (v ≡ verdict.Unknown samples alignments)
unknown_parts (verdict.Equivalent coupled indexes) same = absurd (omega (arith, same))
unknown_parts (verdict.Different index input first second) same = absurd (omega (arith, same))
unknown_parts (verdict.Unknown samples alignments) same = (samples, alignments, refl)

abbrev unknown_of : {call : Call} (found : AreCompared call) → verdict_status found.finding.solved.verdict ≡ 2 → AreUnknown call
unknown_of found same =
    let parts = unknown_parts found.finding.solved.verdict same in
    record {
      compared = found;
      samples = parts.0;
      alignments = parts.1;
      verdict = parts.2;
      nothing = subst (IsJustified (subject_of found.comparable)) parts.2 found.is.solved.solved.justified;
    }

module _ {call : Call} {out err : Change} {status : ℕ} (answer : Answered call out err status) where
  -- the outcome that the call leads to, told whole
  abbrev pub Told : Type 0
  Told = (o : Outcome) × Leads call o × IsTold o out err status

  -- A status below 5 tells an outcome.
  pub outcome_told : status < 5 → Told
  outcome_told low =
      let told = answer.told (λ e. omega (arith, e)) in
      (told.0, told.1, told.2.whole (λ e. omega (arith, e)) (λ e. omega (arith, e)))

  -- No status is greater than 6.
  pub status_within : status ≤ 6
  status_within = omega (arith, not_over)
    where
      not_over : ¬ (6 < status)
      not_over high =
          let told = answer.told (λ e. omega (arith, e, high)) in
          let whole = told.2.whole (λ e. omega (arith, e, high)) (λ e. omega (arith, e, high)) in
          let low = outcome-status told.0 in omega (arith, whole.0, low, high)

  -- the finding that is told
  abbrev pub ToldFinding : Type 0
  ToldFinding = (compared : AreCompared call) × (verdict_status compared.finding.solved.verdict ≡ status) × Gets out (text_of compared)

  -- A status below 3 tells a finding.
  pub finding_told : status < 3 → ToldFinding
  finding_told low = on (outcome_told (omega (arith, low)))
    where
      on : Told → ToldFinding
      on (outcome.Found finding, leads, told) =
          let found = leads-found call (outcome.Found finding) leads finding refl in
          (record { comparable = found.0; finding = finding; is = found.1 }, sym told.0, told.1)
      on (outcome.Refused f, leads, told) = absurd (let high = refused-status f in omega (arith, told.0, high, low))

  -- ---- what a verdict says

  pub equivalent_told : status ≡ 0 → (e : AreEquivalent call) × Gets out (text_of e.compared)
  equivalent_told is = on (finding_told (omega (arith, is)))
    where
      on : ToldFinding → (e : AreEquivalent call) × Gets out (text_of e.compared)
      on (made, same, told) = by made.finding.solved.verdict refl
        where
          by : (v : Verdict) → made.finding.solved.verdict ≡ v → (e : AreEquivalent call) × Gets out (text_of e.compared)
          by (verdict.Equivalent coupled indexes) found =
              let solved = made.is.solved in
              let subject = subject_of made.comparable in
              let shows : ShowsEquivalence subject coupled indexes = subst (IsJustified subject) found solved.solved.justified in (
                record {
                  compared = made;
                  coupled = coupled;
                  indexes = indexes;
                  verdict = found;
                  shows = shows;
                  least = subst (IsFirstVerdict subject made.finding.solved.history) found solved.first;
                  never_differ = subst (λ (s : Comparison). NeverDiffer (program_of s.first) (program_of s.second) (condition_of s)) shows.own
                      (coupled_never_differ coupled shows.couples);
                },
                told,
              )
          by (verdict.Different index input first second) found = absurd (omega (arith, ap verdict_status found, same, is))
          by (verdict.Unknown samples alignments) found = absurd (omega (arith, ap verdict_status found, same, is))

  pub different_told : status ≡ 1 → (d : AreDifferent call) × Gets out (text_of d.compared)
  different_told is = on (finding_told (omega (arith, is)))
    where
      on : ToldFinding → (d : AreDifferent call) × Gets out (text_of d.compared)
      on (made, same, told) = by made.finding.solved.verdict refl
        where
          by : (v : Verdict) → made.finding.solved.verdict ≡ v → (d : AreDifferent call) × Gets out (text_of d.compared)
          by (verdict.Equivalent coupled indexes) found = absurd (omega (arith, ap verdict_status found, same, is))
          by (verdict.Different index input first second) found =
              let solved = made.is.solved in
              let subject = subject_of made.comparable in
              let shows : ShowsDifference subject index input first second = subst (IsJustified subject) found solved.solved.justified in
              let traces = pair_has_traces subject index shows.pair shows.is_pair in
              let inputs : shows.pair.input ≡ input = shows.is_pair.input ∙ sym shows.input_is in (
                record {
                  compared = made;
                  index = index;
                  input = input;
                  first = first;
                  second = second;
                  verdict = found;
                  shows = shows;
                  least = subst (IsFirstVerdict subject made.finding.solved.history) found solved.first;
                  met = rw inputs at traces.met;
                  first_returns = rw (inputs, shows.first_is) at traces.first.returns;
                  second_returns = rw (inputs, shows.second_is) at traces.second.returns;
                },
                told,
              )
          by (verdict.Unknown samples alignments) found = absurd (omega (arith, ap verdict_status found, same, is))

  pub unknown_told : status ≡ 2 → (u : AreUnknown call) × Gets out (text_of u.compared)
  unknown_told is = let told = finding_told (omega (arith, is)) in (unknown_of told.0 (told.1 ∙ is), told.2)

  -- ---- what a refusal says

  -- the refusal that is told
  abbrev ToldRefusal : Fault → Type 0
  ToldRefusal f = Leads call (outcome.Refused f) × GetsNothing out × Gets err (fault_text f)

  -- A status of 3 or 4 tells a refusal.
  refusal_told : 3 ≤ status → status ≤ 4 → (f : Fault) × (fault_status f ≡ status) × ToldRefusal f
  refusal_told low high = on (outcome_told (omega (arith, high)))
    where
      on : Told → (f : Fault) × (fault_status f ≡ status) × ToldRefusal f
      on (outcome.Found finding, leads, told) =
          absurd (let below = verdict-status finding.solved.verdict in omega (arith, told.0, below, low))
      on (outcome.Refused f, leads, told) =
          (f, sym told.0, (leads, nothing_appended out.before out.after told.1, told.2))

  pub refused_told : status ≡ 3 → (r : AreRefused call) × GetsNothing out × Gets err (fault_text r.fault)
  refused_told is =
      let told = refusal_told (omega (arith, is)) (omega (arith, is)) in (
        record { fault = told.0; leads = told.2.0; no_read = λ four. omega (arith, four, told.1, is) },
        told.2.1,
        told.2.2,
      )

  pub unread_told : status ≡ 4 → (u : AreUnread call) × GetsNothing out × Gets err (fault_text (fault.Read u.name))
  unread_told is =
      let told = refusal_told (omega (arith, is)) (omega (arith, is)) in on told.0 (told.1 ∙ is) told.2
    where
      on : (f : Fault) → fault_status f ≡ 4 → ToldRefusal f
          → (u : AreUnread call) × GetsNothing out × Gets err (fault_text (fault.Read u.name))
      on (fault.Read name) same told = (
        record {
          name = name;
          failed = leads-failed call (outcome.Refused (fault.Read name)) name told.0 refl;
          leads = told.0;
        },
        told.1,
        told.2,
      )
      on fault.Usage same told = absurd (omega (arith, same))
      on (fault.TooLong name) same told = absurd (omega (arith, same))
      on (fault.Token name inner) same told = absurd (omega (arith, same))
      on (fault.Reader name inner) same told = absurd (omega (arith, same))
      on (fault.Check name inner) same told = absurd (omega (arith, same))
      on (fault.Arity arity) same told = absurd (omega (arith, same))

  -- ---- what a failed write says

  -- One of the two sinks counted a fault.
  pub write_failed : status ≡ 5 → Fails out ⊎ Fails err
  write_failed is =
      let told = answer.told (λ e. omega (arith, e, is)) in on told.0 (told.2.cut is)
    where
      on : (o : Outcome) → IsCut o out err → Fails out ⊎ Fails err
      on (outcome.Found finding) cut = inl cut.0
      on (outcome.Refused f) cut = inr cut.0

  -- ---- completeness

  pub exact_told : AreTold call → (why : Fault) → Leads call (outcome.Refused why) → status_of (outcome.Refused why) ≢ 4 → status < 4
      → IsTold (outcome.Refused why) out err status
  exact_told texts why leads no_read low = on (outcome_told (omega (arith, low)))
    where
      on : Told → IsTold (outcome.Refused why) out err status
      on (outcome.Found finding, found, told) = absurd (outcome_once call (outcome.Found finding) (outcome.Refused why) texts found leads
          (λ four. let below = verdict-status finding.solved.verdict in omega (arith, four, below)) no_read)
      on (outcome.Refused f, found, told) =
          let same = outcome_once call (outcome.Refused f) (outcome.Refused why) texts found leads (λ four. omega (arith, four, told.0, low)) no_read in
          subst (λ (f : Fault). IsTold (outcome.Refused f) out err status) same told

  -- The outcome of functions that can be compared is a finding on them.
  found_told : AreTold call → (comparable : AreComparable call) → status < 4
      → (finding : Finding) × IsFindingOf call comparable finding × IsTold (outcome.Found finding) out err status
  found_told texts comparable low = on (outcome_told (omega (arith, low)))
    where
      on : Told → (finding : Finding) × IsFindingOf call comparable finding × IsTold (outcome.Found finding) out err status
      on (outcome.Found finding, leads, told) = (
        finding,
        found_once call (outcome.Found finding) texts comparable leads
            (λ four. let below = verdict-status finding.solved.verdict in omega (arith, four, below)),
        told,
      )
      on (outcome.Refused f, leads, told) =
          absurd (found_once call (outcome.Refused f) texts comparable leads (λ four. omega (arith, four, told.0, low)))

  pub compared_told : AreTold call → AreComparable call → status ≢ 3
  compared_told texts comparable three =
      let found = found_told texts comparable (omega (arith, three)) in
      let below = verdict-status found.0.solved.verdict in omega (arith, three, below, found.2.0)

  kind_status : (v : Verdict) → kind_of v ≡ IsDifferent → verdict_status v ≡ 1
  kind_status (verdict.Equivalent coupled indexes) kind = absurd cc
  kind_status (verdict.Different index input first second) kind = refl
  kind_status (verdict.Unknown samples alignments) kind = absurd cc

  equivalent_status : (v : Verdict) → kind_of v ≡ IsEquivalent → verdict_status v ≡ 0
  equivalent_status (verdict.Equivalent coupled indexes) kind = refl
  equivalent_status (verdict.Different index input first second) kind = absurd cc
  equivalent_status (verdict.Unknown samples alignments) kind = absurd cc

  limit_status : (alignment : ℕ) (v : Verdict) → NamesLimitAt alignment v → verdict_status v ≡ 2
  limit_status alignment (verdict.Equivalent coupled indexes) named = absurd named
  limit_status alignment (verdict.Different index input first second) named = absurd named
  limit_status alignment (verdict.Unknown samples alignments) named = refl

  pub apart_told : AreTold call → SampleDiffers call → status < 4 → status ≡ 1
  apart_told texts differs low =
      let found = found_told texts differs.comparable low in
      let subject = subject_of differs.comparable in
      let kind = (differences_are_found subject found.0.solved.verdict found.1.formed found.1.solved.solved.justified).1 differs.difference in
      found.2.0 ∙ kind_status found.0.solved.verdict kind

  -- What is told where candidates of all pairs couple the functions.
  coupled_by : (has : HasCoupling call) (finding : Finding) → IsFindingOf call has.comparable finding → IsTold (outcome.Found finding) out err status
      → (kind_of finding.solved.verdict ≡ IsEquivalent) ⊎ NamesLimitAt has.alignment finding.solved.verdict
      → (status ≡ 0) ⊎ ((status ≡ 2) × (hides : HidesCoupling has) × Gets out (text_of hides.unknown.compared))
  coupled_by has finding is told (inl kind) = inl (told.0 ∙ equivalent_status finding.solved.verdict kind)
  coupled_by has finding is told (inr limited) =
      let two = limit_status has.alignment finding.solved.verdict limited in
      let made : AreCompared call = record { comparable = has.comparable; finding = finding; is = is } in
      inr (told.0 ∙ two, record { unknown = unknown_of made two; limited = limited }, told.1)

  pub coupled_told : AreTold call → (has : HasCoupling call) → status < 4
      → (status ≡ 0) ⊎ ((status ≡ 2) × (hides : HidesCoupling has) × Gets out (text_of hides.unknown.compared))
  coupled_told texts has low =
      let found = found_told texts has.comparable low in
      coupled_by has found.0 found.1 found.2
      (couplings_are_found (subject_of has.comparable) found.0.solved.verdict has.alignment found.1.formed found.1.solved.solved.justified has.named has.linear)
