-- The last line of a report: how the run ended.
use Rattle.std.specs.Prelude.{ℕ, ℤ, List, [], ◌++◌, codes, decimal, encode_utf8}
use Rattle.std.specs.Fmt.{signed_decimal}
use Rattle.opl_reader.specs.declared.fault.LineFault.{LineFault}
use Rattle.osm_elements.specs.declared.object.ObjectKind.{ObjectKind}
use Rattle.osm_elements.specs.declared.object.ObjectKind.TheVariants.{Node, Way, Relation}
use Rattle.opl_reader.specs.Fault.{fault_text}
use Rattle.osm_words.specs.declared.fault.WordsFault.{WordsFault}
use Rattle.osm_words.specs.declared.fault.WordsFault.TheVariants.{NoCommand, UnknownCommand, Refused, OutOfRange}
use Rattle.osm_input.specs.declared.fault.InputFault.{InputFault}
use Rattle.osm_input.specs.declared.fault.InputFault.TheVariants.{Line, TooLong, Duplicate}
use Rattle.osm_job.specs.declared.ended.Ended.{Ended}
use Rattle.osm_job.specs.declared.ended.Ended.TheVariants.{Done, Warnings, Errors, BadWords, BadInput, Stopped, TooMuchInput, TooManyPieces, Refuted, BadPoint, OpenFault, ReadFault, WriteFault, OutOfMemory}

abbrev pub words_line : WordsFault → List ℕ
words_line NoCommand = codes "osmpoly: no command\n"
words_line UnknownCommand = codes "osmpoly: unknown command\n"
words_line (Refused kind) = codes "osmpoly: words refused\n"
words_line (OutOfRange option) = codes "osmpoly: value out of range: " ++ encode_utf8 option ++ codes "\n"

abbrev pub kind_word : ObjectKind → List ℕ
kind_word Node = codes "node"
kind_word Way = codes "way"
kind_word Relation = codes "relation"

-- the beginning of a line about a line of an input
abbrev pub line_begun : ℕ → List ℕ
line_begun line = codes "osmpoly: line " ++ decimal line ++ codes ": "

-- the last line about a line without a reading
abbrev pub bad_line : ℕ → LineFault → List ℕ
bad_line line fault =
    line_begun line ++ fault_text fault.kind ++ codes " at byte " ++ decimal fault.place ++ codes "\n"

-- the last line about a line that tells an object again
abbrev pub again_line : ℕ → ObjectKind → ℤ → List ℕ
again_line line kind id =
    line_begun line ++ kind_word kind ++ codes " " ++ signed_decimal id ++ codes " again\n"

abbrev pub fault_line : ℕ → InputFault → List ℕ
fault_line line (Line fault) = bad_line line fault
fault_line line TooLong = line_begun line ++ codes "too long\n"
fault_line line (Duplicate kind id) = again_line line kind id

abbrev pub last_line : Ended → List ℕ
last_line Done = []
last_line Warnings = []
last_line Errors = []
last_line (BadWords cause) = words_line cause
last_line (BadInput line fault) = fault_line line fault
last_line (Stopped candidate) =
    codes "osmpoly: stopped at " ++ kind_word candidate.kind ++ codes " " ++ signed_decimal candidate.id ++ codes "\n"
last_line (TooMuchInput limit) = codes "osmpoly: too much input\n"
last_line (TooManyPieces most) = codes "osmpoly: too many pieces\n"
last_line (Refuted line) = codes "osmpoly: line " ++ decimal line ++ codes " is not right\n"
last_line (BadPoint line) = line_begun line ++ codes "bad point\n"
last_line OpenFault = codes "osmpoly: open fault\n"
last_line ReadFault = codes "osmpoly: read fault\n"
last_line WriteFault = codes "osmpoly: write fault\n"
last_line OutOfMemory = codes "osmpoly: out of memory\n"
