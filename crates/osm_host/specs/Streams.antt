-- What the source of an input has left, and what the sink of an output holds.
use Rattle.std.specs.Prelude.{ℕ, Bool, true, false, List, [], Option, Some}
use Rattle.osm_host.specs.declared.stream_host.Sink.{Sink}
use Rattle.osm_host.specs.declared.stream_host.Sink.TheVariants as sink
use Rattle.osm_host.specs.declared.stream_host.Source.{Source}
use Rattle.osm_host.specs.declared.stream_host.Source.TheVariants as source

-- what is left of the input: of standard input, or of the opened file
abbrev pub left_in : {R I : Type 0} → (I → Option (List ℕ)) → (R → Option (List ℕ)) → I → Source R → Option (List ℕ)
left_in standard opened input source.Nothing = Some []
left_in standard opened input source.Standard = standard input
left_in standard opened input (source.Opened file) = opened file

-- what the output holds: standard output, or the opened file
abbrev pub held_by : {W O : Type 0} → (O → Option (List ℕ)) → (W → Option (List ℕ)) → O → Sink W → Option (List ℕ)
held_by standard opened output sink.Standard = standard output
held_by standard opened output (sink.Opened file) = opened file

-- it is standard input, or a file of which this is true
abbrev pub is_source : {R : Type 0} → (R → Bool) → Source R → Bool
is_source opened source.Nothing = false
is_source opened source.Standard = true
is_source opened (source.Opened file) = opened file

-- it is standard output, or a file of which this is true
abbrev pub is_sink : {W : Type 0} → (W → Bool) → Sink W → Bool
is_sink opened sink.Standard = true
is_sink opened (sink.Opened file) = opened file

-- the input is standard input
abbrev pub is_standard_source : {R : Type 0} → Source R → Bool
is_standard_source source.Nothing = false
is_standard_source source.Standard = true
is_standard_source (source.Opened file) = false

-- the input is an opened file
abbrev pub is_opened_source : {R : Type 0} → Source R → Bool
is_opened_source source.Nothing = false
is_opened_source source.Standard = false
is_opened_source (source.Opened file) = true

-- the output is standard output, and no opened file
abbrev pub is_standard_sink : {W : Type 0} → Sink W → Bool
is_standard_sink sink.Standard = true
is_standard_sink (sink.Opened file) = false
