-- Words of private clauses. No public contract cites it.
use Rattle.std.specs.Prelude.{◌≡◌, Result, Ok, Err, ⊤}
use Rattle.clap.specs.declared.error.kind.ErrorKind.{ErrorKind}
use Rattle.clap.specs.declared.error.kind.ErrorKind.TheVariants.{OutOfMemory as WantOfMemory}
use Rattle.osm_words.specs.declared.fault.WordsFault.{WordsFault}
use Rattle.osm_words.specs.declared.fault.WordsFault.TheVariants.{Refused}
use Rattle.osm_words.specs.declared.fault.WordsError.{WordsError}
use Rattle.osm_words.specs.declared.fault.WordsError.TheVariants.{BadWords, OutOfMemory}

-- what was read, where `seen` says what settings of the code are
abbrev pub seen_by : {S C : Type 0} → (C → S) → Result C WordsFault → Result S WordsFault
seen_by seen (Ok settings) = Ok (seen settings)
seen_by seen (Err fault) = Err fault

-- the answer is what was asked of a command, and want of memory is free
abbrev pub AnswersBy : {S C : Type 0} → (C → S) → Result S WordsFault → Result C WordsError → Type 0
AnswersBy seen asked (Ok settings) = asked ≡ Ok (seen settings)
AnswersBy seen asked (Err (BadWords cause)) = asked ≡ Err cause
AnswersBy seen asked (Err OutOfMemory) = ⊤

-- the kind refuses the words, or it is want of memory
abbrev pub IsRefusal : ErrorKind → WordsError → Type 0
IsRefusal kind (BadWords cause) = (cause ≡ Refused kind) × ¬ (kind ≡ WantOfMemory)
IsRefusal kind OutOfMemory = kind ≡ WantOfMemory
