-- What a read of files in memory answers, and what it changes.
use Rattle.std.specs.Prelude.{◌≡◌, ℕ, List, [], ◌∷◌, map, length, nat_le, Option, Some, None, Result, Ok, Err, if◌then◌else◌, string_bytes, bytes_eq, String}
use Rattle.std.specs.Global.{Vec, Global}
use Rattle.re_base.specs.declared.files.FileFault.{FileFault}
use Rattle.re_base.specs.declared.files.FileFault.TheVariants.{Failed, TooLong, Memory}
use Rattle.re_base.specs.Counts.{Counts, no_calls, is_next_failing}
use Rattle.re_base.specs.Causes.{raised}
use Rattle.re_base.specs.Told.{longest}
use Rattle.re_base.specs.FileFaults.{faults_after}

-- each name with its text, and the counts of the reads
pub record FilesInMemory : Type 0 where
  pub texts : List (List ℕ × List ℕ)
  pub counts : Counts

-- the names and texts as bytes
abbrev pub texts_of : List (String Global × Vec ℕ) → List (List ℕ × List ℕ)
texts_of files = map (λ file. (string_bytes file.0, file.1.items)) files

-- before the first read
abbrev pub no_reads : List (List ℕ × List ℕ) → List ℕ → FilesInMemory
no_reads texts failing = record { texts = texts; counts = no_calls failing }

-- the text of the first file of this name
abbrev pub text_of : List (List ℕ × List ℕ) → List ℕ → Option (List ℕ)
text_of [] name = None
text_of (file ∷ files) name = if bytes_eq file.0 name then Some file.1 else text_of files name

-- a text that is not too long, or why there is none
abbrev pub short_text : Option (List ℕ) → Result (List ℕ) FileFault
short_text None = Err Failed
short_text (Some text) = if nat_le (length text) longest then Ok text else Err TooLong

-- what the next read of this name answers while there is memory
abbrev pub answer_of : FilesInMemory → List ℕ → Result (List ℕ) FileFault
answer_of files name =
    if is_next_failing files.counts then Err Failed else short_text (text_of files.texts name)

-- The result is this answer, or says that there is no memory for its text.
abbrev pub Answers : Result (List ℕ) FileFault → Result (Vec ℕ) FileFault → Type 0
Answers (Ok text) (Ok bytes) = bytes.items ≡ text
Answers (Ok text) (Err fault) = fault ≡ Memory
Answers (Err fault) result = result ≡ Err fault

-- the files after a read with this result: one read more, and one fault more where it failed
abbrev pub after_read : FilesInMemory → Result (Vec ℕ) FileFault → FilesInMemory
after_read files result =
    let counts = files.counts in
    let faults = faults_after counts.faults result in
    record files { counts = record counts { calls = raised counts.calls; faults = faults } }
