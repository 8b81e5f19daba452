-- What the words of a run ask for.
use Rattle.std.specs.Prelude.{ℕ, Bool, List, Option}
use Rattle.osm_words.specs.declared.settings.Format.{Format}
use Rattle.osm_words.specs.declared.settings.OutputPolygons.{OutputPolygons}
use Rattle.osm_objects.specs.declared.area.UniqueId.{UniqueId}

-- of `export`
pub record ExportSettings : Type 0 where
  -- the name of the input
  pub file : List ℕ
  pub format : Format
  -- the name of the output
  pub output : List ℕ
  pub overwrite : Bool
  pub keep_untagged : Bool
  -- None where areas get no ids
  pub ids : Option UniqueId
  pub omit_rs : Bool
  pub show_errors : Bool
  pub stop_on_error : Bool
  -- None where no such list is given
  pub area_keys : Option (List (List ℕ))
  pub linear_keys : Option (List (List ℕ))

-- of `coastline`
pub record CoastlineSettings : Type 0 where
  -- the name of the input
  pub file : List ℕ
  -- the name of the output
  pub output : List ℕ
  pub overwrite : Bool
  -- in units of 1e-7 degree: a gap is closed where it is shorter
  pub close_distance : ℕ
  -- a piece with more points is cut again; 0 cuts none
  pub max_points : ℕ
  -- in units of 1e-7 degree: how far each half reaches beyond a cut
  pub bbox_overlap : ℕ
  pub polygons : OutputPolygons
  -- rings are cut short where they cross themselves, and long rings are kept before the short ones that cross them
  pub cut_crossings : Bool

-- of `coast-filter`
pub record FilterSettings : Type 0 where
  -- the name of the input
  pub file : List ℕ
  -- the name of the output
  pub output : List ℕ
  pub overwrite : Bool

-- of `certify`
pub record CertifySettings : Type 0 where
  -- the name of the input
  pub file : List ℕ
  -- the name of the text that is certified
  pub text : List ℕ
  pub keep_untagged : Bool
  -- None where areas get no ids
  pub ids : Option UniqueId
  -- None where no such list is given
  pub area_keys : Option (List (List ℕ))
  pub linear_keys : Option (List (List ℕ))

-- of `locate`
pub record LocateSettings : Type 0 where
  -- the name of the input
  pub file : List ℕ
  -- the name of the points
  pub points : List ℕ
  -- the name of the output
  pub output : List ℕ
  pub overwrite : Bool
  pub keep_untagged : Bool
  -- None where no such list is given
  pub area_keys : Option (List (List ℕ))
  pub linear_keys : Option (List (List ℕ))

pub data Job : Type 0 where
  export : ExportSettings → Job
  coastline : CoastlineSettings → Job
  -- of a square of so many cells a side
  sample : ℕ → Job
  filter : FilterSettings → Job
  certify : CertifySettings → Job
  locate : LocateSettings → Job
