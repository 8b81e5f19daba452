-- The text around features, by the format of the output: GeoJSON (RFC 7946), GeoJSON text sequences (RFC 8142), text.
use Rattle.std.specs.Prelude.{Bool, List, [], codes, false, suc, true, zero, ℕ, ◌++◌, ◌∷◌}
use Rattle.osm_words.specs.Job.{ExportSettings}
use Rattle.osm_words.specs.declared.settings.Format.{Format}
use Rattle.osm_words.specs.declared.settings.Format.TheVariants.{GeoJson, GeoJsonSeq, Text}

-- the text at the start of an output
abbrev pub header : Format → List ℕ
header GeoJson = codes "{\"type\":\"FeatureCollection\",\"features\":["
header GeoJsonSeq = []
header Text = []

-- the text at its end
abbrev pub footer : Format → List ℕ
footer GeoJson = codes "\n]}\n"
footer GeoJsonSeq = []
footer Text = []

-- the record separator of text sequences, unless it is to be left out
abbrev pub record_separator : Bool → List ℕ
record_separator true = []
record_separator false = 30 ∷ []

-- the text before a feature that follows `earlier` features
abbrev pub before_feature : Format → Bool → ℕ → List ℕ
before_feature GeoJson omit_rs zero = codes "\n"
before_feature GeoJson omit_rs (suc earlier) = codes ",\n"
before_feature GeoJsonSeq omit_rs earlier = record_separator omit_rs
before_feature Text omit_rs earlier = []

-- the text after a feature; a line of text ends by itself
abbrev pub after_feature : Format → List ℕ
after_feature GeoJson = []
after_feature GeoJsonSeq = codes "\n"
after_feature Text = []

abbrev pub framed : ExportSettings → ℕ → List ℕ → List ℕ
framed settings earlier feature = before_feature settings.format settings.omit_rs earlier ++ feature ++ after_feature settings.format
