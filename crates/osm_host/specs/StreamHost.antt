-- What a host over an opener and standard streams is, and what its parts hold.
use Rattle.std.specs.Prelude.{◌≡◌, ℕ, List, [], ◌∷◌, None, Option, Bool, false, true, codes, if◌then◌else◌}
use Rattle.std.specs.Str.{bytes_eq}
use Rattle.osm_host.specs.Outside.{Opened, Outside, appended}
use Rattle.osm_host.specs.Streams.{left_in, held_by, is_sink, is_source, is_standard_source, is_opened_source, is_standard_sink}
use Rattle.osm_host.specs.declared.stream_host.StreamHost.{StreamHost}

-- all contents are unknown, and only its counts are known
abbrev pub stream_outside : {D R W I O E : Type 0} → StreamHost D R W I O E → Outside
stream_outside host = record {
  named = λ _. None;
  left = None;
  out = None;
  report = None;
  opens = None;
  open_faults = host.faults.opens;
  read_faults = host.faults.reads;
  write_faults = host.faults.writes;
  read_failed = host.read_failed;
  at_end = host.at_end;
  bytes_read = host.bytes_read;
}

-- nothing is open, and nothing has failed
abbrev pub fresh_outside : Outside
fresh_outside = record {
  named = λ _. None;
  left = None;
  out = None;
  report = None;
  opens = None;
  open_faults = 0;
  read_faults = 0;
  write_faults = 0;
  read_failed = false;
  at_end = false;
  bytes_read = 0;
}

-- ---- what its parts hold, if it is known

-- the opens that the opener was asked for
abbrev pub files_asked : {D R W I O E : Type 0} → (D → Option (List Opened)) → StreamHost D R W I O E → Option (List Opened)
files_asked asked host = asked host.opener

-- the opener is asked for an open, unless it is that of a standard stream, `-`
abbrev pub asked_behind : Option (List Opened) → List ℕ → Opened → Option (List Opened)
asked_behind asked name opened = if bytes_eq name (codes "-") then asked else appended asked (opened ∷ [])

-- it reads standard input, or an opened file
abbrev pub reads_standard : {D R W I O E : Type 0} → StreamHost D R W I O E → Bool
reads_standard host = is_standard_source host.source

abbrev pub reads_file : {D R W I O E : Type 0} → StreamHost D R W I O E → Bool
reads_file host = is_opened_source host.source

-- it writes to standard output, and to no opened file
abbrev pub writes_standard : {D R W I O E : Type 0} → StreamHost D R W I O E → Bool
writes_standard host = is_standard_sink host.sink

-- what is left of the input
abbrev pub input_left : {D R W I O E : Type 0} → (I → Option (List ℕ)) → (R → Option (List ℕ)) → StreamHost D R W I O E → Option (List ℕ)
input_left standard opened host = left_in standard opened host.input host.source

-- what the output holds
abbrev pub output_held : {D R W I O E : Type 0} → (O → Option (List ℕ)) → (W → Option (List ℕ)) → StreamHost D R W I O E → Option (List ℕ)
output_held standard opened host = held_by standard opened host.output host.sink

-- what the report holds
abbrev pub report_held : {D R W I O E : Type 0} → (E → Option (List ℕ)) → StreamHost D R W I O E → Option (List ℕ)
report_held held host = held host.report

-- it reads standard input, or the file that was opened under this name, from its beginning
abbrev pub reads_from : {D R W I O E : Type 0} → (R → List ℕ → Bool) → List ℕ → StreamHost D R W I O E → Bool
reads_from opened name host = is_source (λ file. opened file name) host.source

-- it writes to standard output, or to the file that was opened under this name, to which nothing was written
abbrev pub writes_to : {D R W I O E : Type 0} → (W → List ℕ → Bool → Bool) → List ℕ → Bool → StreamHost D R W I O E → Bool
writes_to opened name overwrite host = is_sink (λ file. opened file name overwrite) host.sink

-- ---- what a call leaves as it was

-- Its parts are these. No input is open, and what is written goes to standard output.
pub record HasParts {D R W I O E : Type 0} (d : D) (i : I) (o : O) (e : E) (host : StreamHost D R W I O E) : Type 0 where
  pub opener : host.opener ≡ d
  pub input : host.input ≡ i
  pub output : host.output ≡ o
  pub report : host.report ≡ e
  pub no_standard : reads_standard host ≡ false
  pub no_file : reads_file host ≡ false
  pub sink : writes_standard host ≡ true

-- nothing is read or written, and the output is the same
pub record OnlySourceOpens {D R W I O E : Type 0} (old new : StreamHost D R W I O E) : Type 0 where
  pub input : new.input ≡ old.input
  pub output : new.output ≡ old.output
  pub report : new.report ≡ old.report
  pub sink : new.sink ≡ old.sink

-- nothing is opened or written, and nothing is taken from what isn't the input
pub record OnlySourceIsRead {D R W I O E : Type 0} (old new : StreamHost D R W I O E) : Type 0 where
  pub opener : new.opener ≡ old.opener
  pub input : reads_standard old ≡ false → new.input ≡ old.input
  pub source : reads_standard old ≡ true → new.source ≡ old.source
  pub output : new.output ≡ old.output
  pub report : new.report ≡ old.report
  pub sink : new.sink ≡ old.sink

-- nothing is read, nothing is written to standard output or to the report, and the input is the same
pub record OnlySinkOpens {D R W I O E : Type 0} (old new : StreamHost D R W I O E) : Type 0 where
  pub input : new.input ≡ old.input
  pub source : new.source ≡ old.source
  pub output : new.output ≡ old.output
  pub report : new.report ≡ old.report

-- nothing is opened or read, and nothing is written to what isn't the output
pub record OnlySinkIsWritten {D R W I O E : Type 0} (old new : StreamHost D R W I O E) : Type 0 where
  pub opener : new.opener ≡ old.opener
  pub input : new.input ≡ old.input
  pub source : new.source ≡ old.source
  pub output : writes_standard old ≡ false → new.output ≡ old.output
  pub sink : writes_standard old ≡ true → new.sink ≡ old.sink
  pub report : new.report ≡ old.report

-- nothing is opened or read, and nothing but the report is written
pub record OnlyReportIsWritten {D R W I O E : Type 0} (old new : StreamHost D R W I O E) : Type 0 where
  pub opener : new.opener ≡ old.opener
  pub input : new.input ≡ old.input
  pub source : new.source ≡ old.source
  pub output : new.output ≡ old.output
  pub sink : new.sink ≡ old.sink

-- it reads from what it read before, or writes to what it wrote to
abbrev pub KeepsSource : {D R W I O E : Type 0} → StreamHost D R W I O E → StreamHost D R W I O E → Type 0
KeepsSource old new = new.source ≡ old.source

abbrev pub KeepsSink : {D R W I O E : Type 0} → StreamHost D R W I O E → StreamHost D R W I O E → Type 0
KeepsSink old new = new.sink ≡ old.sink
