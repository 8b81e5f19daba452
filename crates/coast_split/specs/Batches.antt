-- A list that is cut, in batches of its edges. No public contract cites them.
use Rattle.std.specs.Prelude.{All, Bool, List, drop, false, length, take, true, ◌++◌, ◌-◌, ◌<◌, ◌≡◌, ◌≤◌}
use Rattle.std.specs.List.{flat_map}
use Rattle.plane.specs.Sign.{Plus}
use Rattle.osm_geom.specs.declared.cut.Cut.{Cut}
use Rattle.osm_geom.specs.declared.cut.Side.{Side}
use Rattle.osm_geom.specs.declared.edge.Edge.{Edge}
use Rattle.osm_geom.specs.declared.point.Point.{Point}
use Rattle.osm_geom.specs.Cut.{side_of}
use Rattle.coast_split.specs.declared.batches.Batch.{Batch}
use Rattle.coast_split.specs.declared.batches.Batches.{Batches}
use Rattle.coast_split.specs.declared.batches.Source.{Source}
use Rattle.coast_split.specs.declared.batches.Source.TheVariants.{Lent, Own}
use Rattle.coast_split.specs.declared.envelope.Placing.{Placing}
use Rattle.coast_split.specs.declared.envelope.Placing.TheVariants.{Across, Beyond, Kept}
use Rattle.coast_split.specs.Envelope.{envelope_of}
use Rattle.coast_split.specs.Half.{ArePortions, has_portion}
use Rattle.coast_split.specs.Walk.{ends_on}

-- the edges of a batch, of which some are lent from the whole list
abbrev pub source_edges : List Edge → Source → List Edge
source_edges whole (Lent from end) = take (end - from) (drop from whole)
source_edges whole (Own edges) = edges

abbrev pub batch_edges : List Edge → Batch → List Edge
batch_edges whole b = source_edges whole b.source

-- what is lent is in the whole list
abbrev pub IsLent : List Edge → Source → Type 0
IsLent whole (Lent from end) = (from ≤ end) × (end ≤ length whole)
IsLent whole (Own edges) = Unit {0}

pub record IsBatch (whole : List Edge) (b : Batch) : Type 0 where
  pub inside : IsLent whole b.source
  pub some : 0 < length (batch_edges whole b)
  pub envelope : b.envelope ≡ envelope_of (batch_edges whole b)

-- the edges of all batches, in order
abbrev pub edges_of_batches : List Edge → List Batch → List Edge
edges_of_batches whole bs = flat_map (batch_edges whole) bs

abbrev pub batched_edges : List Edge → Batches → List Edge
batched_edges whole list = edges_of_batches whole list.batches.items

pub record AreBatches (whole : List Edge) (list : Batches) : Type 0 where
  pub each : All (IsBatch whole) list.batches.items
  pub count : list.edge_count ≡ length (batched_edges whole list)
  pub envelope : list.envelope ≡ envelope_of (batched_edges whole list)

-- edges came behind those of a list in batches
pub record AddsEdges (whole : List Edge) (old new : Batches) (added : List Edge) : Type 0 where
  pub batches : AreBatches whole new
  pub edges : batched_edges whole new ≡ batched_edges whole old ++ added

-- both ends are strictly on the side
abbrev pub KeepsBothEnds : Cut → Side → Edge → Type 0
KeepsBothEnds cut side e = (side_of cut side e.from ≡ Plus) × (side_of cut side e.to ≡ Plus)

-- how edges lie to a cut line, by two tests
abbrev pub placing_by : Bool → Bool → Placing
placing_by true beyond = Kept
placing_by false true = Beyond
placing_by false false = Across

-- edges lie so to a cut line
abbrev pub AreAt : Cut → Side → Placing → List Edge → Type 0
AreAt cut side Kept es = All (KeepsBothEnds cut side) es
AreAt cut side Beyond es = All (λ (e : Edge). has_portion cut side e ≡ false) es
AreAt cut side Across es = Unit {0}

-- portions of edges came behind those of a list in batches, and their ends on the line behind other ends
pub record AddsPortions (whole : List Edge) (cut : Cut) (side : Side) (es : List Edge) (old new : Batches) (before after : List Point) : Type 0 where
  pub portions : List Edge
  pub are_portions : ArePortions cut side es portions
  pub added : AddsEdges whole old new portions
  pub ends : after ≡ before ++ ends_on cut portions
