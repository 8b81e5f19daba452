-- The first bad line of an input that comes in pieces.
use Rattle.std.specs.Prelude.{◌≡◌, ◌≤◌, ◌<◌, ◌+◌, ℕ, true, List, ◌∷◌, ◌++◌, length, Err}
use Rattle.std.specs.List.{slice_split, before_first}
use Rattle.osm_elements.specs.declared.object.Object.{Object}
use Rattle.opl_reader.specs.declared.fault.LineFault.{LineFault}
use Rattle.opl_reader.specs.declared.feed.FeedError.TheVariants.{Line, TooLong}
use Rattle.opl_reader.specs.LineReading.{reading}
use Rattle.opl_reader.specs.Lines.{is_newline, whole_lines, lines_of, unfinished_of}
use Rattle.opl_reader.specs.Reader.{Reader}
use Rattle.opl_reader.specs.Feeding.{feeding, finishing, has_newline}
use Rattle.opl_reader.specs.Chunking.{AreReadable, HandsOut}

-- The lines before are readable, and this one has the fault.
pub record IsFirstFault (longest : ℕ) (lines : List (List ℕ)) (number : ℕ) (fault : LineFault) : Type 0 where
  pub before : List (List ℕ)
  pub line : List ℕ
  pub after : List (List ℕ)
  pub parted : lines ≡ before ++ line ∷ after
  pub counted : number ≡ length before + 1
  pub readable : AreReadable longest before
  pub short : length line ≤ longest
  pub bad : reading line ≡ Err fault

-- A fault that feed reports is that of the first bad line of the bytes with the piece, and the piece has the newline that ended it.
abbrev pub FirstFaultIsReported : Type 0
FirstFaultIsReported = (longest : ℕ) (bytes : List ℕ) (handed : List Object) (r : Reader) (piece : List ℕ) (number : ℕ) (fault : LineFault) → HandsOut longest bytes handed r →
    feeding r piece ≡ Err (Line number fault) → IsFirstFault longest (whole_lines (bytes ++ piece)) number fault × (has_newline piece ≡ true) × (number ≡ length (whole_lines bytes) + 1)

-- A fault that finish reports is that of the first bad line of all.
abbrev pub LastFaultIsReported : Type 0
LastFaultIsReported = (longest : ℕ) (bytes : List ℕ) (handed : List Object) (r : Reader) (number : ℕ) (fault : LineFault) → HandsOut longest bytes handed r →
    finishing r ≡ Err (Line number fault) → IsFirstFault longest (lines_of bytes) number fault

-- The lines before are readable, and what is there of this one is too long.
pub record IsFirstTooLong (longest : ℕ) (parts : List (List ℕ)) (number : ℕ) : Type 0 where
  pub before : List (List ℕ)
  pub part : List ℕ
  pub after : List (List ℕ)
  pub parted : parts ≡ before ++ part ∷ after
  pub counted : number ≡ length before + 1
  pub readable : AreReadable longest before
  pub long : longest < length part

-- A line that feed reports as too long is the first bad one of the bytes with the piece, whether ended or not, and the piece made it too long.
abbrev pub FirstTooLongIsReported : Type 0
FirstTooLongIsReported = (longest : ℕ) (bytes : List ℕ) (handed : List Object) (r : Reader) (piece : List ℕ) (number : ℕ) → HandsOut longest bytes handed r →
    feeding r piece ≡ Err (TooLong number) → IsFirstTooLong longest (slice_split is_newline (bytes ++ piece)) number
    × (length (unfinished_of bytes) ≤ longest) × (longest < length (unfinished_of bytes ++ before_first is_newline piece))
