-- What a call answers, by the reader before it.
use Rattle.std.specs.Prelude.{◌≡◌, ◌≢◌, ℕ, ◌+◌, Bool, true, ◌==◌, nat_lt, List, [], ◌++◌, length, Option, None, Result, Ok, Err, if◌then◌else◌}
use Rattle.std.specs.List.{position_or_len, before_first}
use Rattle.osm_elements.specs.declared.object.Object.{Object}
use Rattle.opl_reader.specs.declared.fault.LineFault.{LineFault}
use Rattle.opl_reader.specs.LineReading.{reading}
use Rattle.opl_reader.specs.declared.feed.Fed.{Fed}
use Rattle.opl_reader.specs.declared.feed.FeedError.{FeedError}
use Rattle.opl_reader.specs.declared.feed.FeedError.TheVariants.{Line, TooLong, Ended, OutOfMemory}
use Rattle.opl_reader.specs.Lines.{is_newline}
use Rattle.opl_reader.specs.Reader.{Reader}

-- ---- feed

-- the unfinished line, with what the piece adds to it
abbrev pub begun : Reader → List ℕ → List ℕ
begun r piece = r.unfinished ++ before_first is_newline piece

-- the piece has a newline
abbrev pub has_newline : List ℕ → Bool
has_newline piece = nat_lt (position_or_len is_newline piece) (length piece)

abbrev pub fed : ℕ → Option Object → Fed
fed used object = record { used = used; object = object }

-- The line that ends here is read: the reader begins the next one, or its fault is the answer.
abbrev pub with_line : Reader → ℕ → Result (Option Object) LineFault → Result (Fed × Reader) FeedError
with_line r used (Ok object) = Ok (fed used object, record r { unfinished = []; line = r.line + 1; fed = r.fed + used })
with_line r used (Err fault) = Err (Line (r.line + 1) fault)

-- What feeding a piece to a reader gives, and the reader after it.
unfoldable pub feeding : Reader → List ℕ → Result (Fed × Reader) FeedError
feeding r piece =
    if r.has_ended then Err Ended
    else (if nat_lt r.longest (length (begun r piece)) then Err (TooLong (r.line + 1))
    else (if has_newline piece then with_line r (position_or_len is_newline piece + 1) (reading (begun r piece))
    else Ok (fed (length piece) None, record r { unfinished = begun r piece; fed = r.fed + length piece })))

-- ---- finish

-- the last line is read
abbrev pub with_last_line : Reader → Result (Option Object) LineFault → Result (Option Object × Reader) FeedError
with_last_line r (Ok object) = Ok (object, record r { unfinished = []; line = r.line + 1; has_ended = true })
with_last_line r (Err fault) = Err (Line (r.line + 1) fault)

-- What finishing gives: bytes that are left are the last line.
unfoldable pub finishing : Reader → Result (Option Object × Reader) FeedError
finishing r =
    if r.has_ended then Err Ended
    else (if length r.unfinished == 0 then Ok (None, record r { has_ended = true }) else with_last_line r (reading r.unfinished))

-- ---- answers

-- A call gave this answer and left this reader. Running out of memory may replace any answer but Ended.
-- After any refusal the reader has ended.
abbrev pub Answers : {A : Type 0} → Result A FeedError → Reader → Result (A × Reader) FeedError → Type 0
Answers (Ok x) now answer = answer ≡ Ok (x, now)
Answers (Err (Line line fault)) now answer = (answer ≡ Err (Line line fault)) × (now.has_ended ≡ true)
Answers (Err (TooLong line)) now answer = (answer ≡ Err (TooLong line)) × (now.has_ended ≡ true)
Answers (Err Ended) now answer = (answer ≡ Err Ended) × (now.has_ended ≡ true)
Answers (Err OutOfMemory) now answer = (answer ≢ Err Ended) × (now.has_ended ≡ true)

-- After a refusal the reader has ended, and its counts stay.
abbrev pub HasEnded : Reader → Reader → Type 0
HasEnded before now = (now.has_ended ≡ true) × (now.line ≡ before.line) × (now.fed ≡ before.fed) × (now.longest ≡ before.longest)
