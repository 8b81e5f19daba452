-- Rings of edges.
use Rattle.std.specs.Prelude.{AllPairs, List, length, slice_index_or, ℕ, ◌+◌, ◌-◌, ◌<◌, ◌≡◌, ◌≢◌, ◌≤◌}
use Rattle.osm_geom.specs.declared.edge.Edge.{Edge}

-- at least three edges, each beginning where the one before it ends and the first where the last ends; no point is left twice
pub record IsRing (es : List Edge) : Type 0 where
  pub long : 3 ≤ length es
  pub chained : (k : ℕ) (d : Edge) → k + 1 < length es → (slice_index_or es k d).to ≡ (slice_index_or es (k + 1) d).from
  pub closed : (d : Edge) → (slice_index_or es (length es - 1) d).to ≡ (slice_index_or es 0 d).from
  pub simple : AllPairs (λ e f. e.from ≢ f.from) es
