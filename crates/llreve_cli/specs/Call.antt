-- A call of the command, as contracts see it.
use Rattle.std.specs.Prelude.{ℕ, List, map, string_bytes, Option}
use Rattle.std.specs.declared.string.String.{String}
use Rattle.re_base.specs.declared.files.Files.{Ghosts}

-- The words, the texts that the files tell, and how often reads of each name had failed before the call and after it.
pub record Call : Type 0 where
  pub words : List (List ℕ)
  pub text : List ℕ → Option (List ℕ)
  pub faults_before : List ℕ → ℕ
  pub faults_after : List ℕ → ℕ

-- The call with these words in which the files became `after`. Their texts are those that they told before it.
abbrev pub call : {F A : Type 0} → Ghosts F → List (String A) → (before after : F) → Call
call of words before after = record {
  words = map string_bytes words;
  text = of.text before;
  faults_before = of.faults before;
  faults_after = of.faults after;
}
