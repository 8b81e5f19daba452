-- Sided leaves have their polygons, and lines of a report their text.
use Rattle.std.proofs.Common.{All, List, [], ap, inl, inr, map, refl, subst, sym, ℕ, ◌++◌, ◌∷◌}
use Rattle.std.proofs.lemmas.List.Elements.{All-append, All-cons, All-head, All-nil, All-tail}
use Rattle.coast_split.specs.HalfLaws.{LeavesAreSided}
use Rattle.coast_split.specs.LeavesLeft.{AreLeft}
use Rattle.coast_split.specs.SplitTree.{AreLeaves, leaf_of, leaves_of}
use Rattle.coast_split.specs.declared.leaves.Leaf.{Leaf}
use Rattle.lists.specs.Member.{In}
use Rattle.osm_geom.specs.declared.edge.Edge.{Edge}
use Rattle.osm_geom.specs.InPlane.Sided.{IsSided}
use Rattle.osm_nest.specs.Laws.{NestingExists, RingsMayBeNested}
use Rattle.osm_rings.specs.Laws.{RingListOfEdgesExists}
use Rattle.osm_text.specs.Coast.{CoastLineExists, HasItsKind}
use Rattle.job_coastline.specs.PieceLaws.{EdgesMakePolygons, HaveSidedEdges, LeftAreSided, ReportExists, TilesExist}
use Rattle.job_coastline.specs.Pieces.{IsTile, Tile}

-- ---- leaves

abbrev HasSidedEdges : Leaf → Type 0
HasSidedEdges leaf = IsSided leaf.edges

each_sided : (m : ℕ) (parts : List (List Edge)) → ((part : List Edge) → In part parts → IsSided part) → HaveSidedEdges (map (leaf_of m) parts)
each_sided m [] all = All-nil HasSidedEdges
each_sided m (part ∷ parts) all =
    All-cons HasSidedEdges (leaf_of m part) (map (leaf_of m) parts) (all part (inl refl)) (each_sided m parts (λ other member. all other (inr member)))

module _ (sided : LeavesAreSided) (m o : ℕ) where
  one_sided : (es : List Edge) → IsSided es → (ls : List Leaf) → AreLeaves m o es ls → HaveSidedEdges ls
  one_sided es is ls are =
      subst HaveSidedEdges (sym are.leaves) (each_sided m (leaves_of es are.tree) (λ part member. sided m o es are.tree are.is_tree is part member))

  lists_sided : (lists : List (List Edge)) → All IsSided lists → (ls : List Leaf) → AreLeft m o lists ls → HaveSidedEdges ls
  lists_sided [] all ls none = subst HaveSidedEdges (sym none) (All-nil HasSidedEdges)
  lists_sided (es ∷ lists) all ls are =
      subst HaveSidedEdges (sym are.4)
      (All-append HasSidedEdges are.0 are.1 (one_sided es (All-head IsSided es lists all) are.0 are.2) (lists_sided lists (All-tail IsSided es lists all) are.1 are.3))

pub left_are_sided : LeavesAreSided → LeftAreSided
left_are_sided sided m o lists all ls are = lists_sided sided m o lists all ls are

-- ---- their polygons

module _ (some_rings : RingListOfEdgesExists) (fit : RingsMayBeNested) (some_nesting : NestingExists) where
  pub polygons_there : EdgesMakePolygons
  polygons_there edges sided =
      let rings = some_rings edges sided in
      let nested = some_nesting rings.0 (fit edges rings.0 sided rings.1) in
      (nested.0, record { rings = rings.0; cut = rings.1; nested = nested.1 })

  pub tiles_there : TilesExist
  tiles_there [] sided = ([], record { of_leaves = refl; made = All-nil IsTile })
  tiles_there (leaf ∷ leaves) sided =
      let polygons = polygons_there leaf.edges (All-head HasSidedEdges leaf leaves sided) in
      let rest = tiles_there leaves (All-tail HasSidedEdges leaf leaves sided) in
      let first : Tile = record { leaf = leaf; polygons = polygons.0 } in
      (first ∷ rest.0, record { of_leaves = ap (λ (ls : List Leaf). leaf ∷ ls) rest.1.of_leaves; made = All-cons IsTile first rest.0 polygons.1 rest.1.made })

-- ---- the report

pub report_there : CoastLineExists → ReportExists
report_there one [] kinds = ([], refl)
report_there one (line ∷ lines) kinds =
    let first = one line (All-head HasItsKind line lines kinds) in
    let rest = report_there one lines (All-tail HasItsKind line lines kinds) in
    (first.0 ++ rest.0, (first.0, rest.0, first.1, rest.1, refl))
