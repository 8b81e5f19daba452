-- What counting shows about a list of segments. A strictly rising list is determined by how often each item occurs in it.
use Rattle.std.specs.Prelude.{◌≡◌, ◌%◌, List, [], ◌∷◌, min}
use Rattle.std.specs.List.{flat_map}
use Rattle.osm_lattice.specs.declared.loc.Loc.{Loc}
use Rattle.osm_lattice.specs.declared.seg.Seg.{Seg}
use Rattle.osm_lattice.specs.Loc.{loc_cmp}
use Rattle.osm_lattice.specs.Seg.{seg_cmp}
use Rattle.lists.specs.Rising.{IsRising, count_of}

-- the segments that occur an odd number of times in a list
pub record AreSurvivors (segs survivors : List Seg) : Type 0 where
  pub odd : (s : Seg) → count_of seg_cmp s survivors ≡ count_of seg_cmp s segs % 2
  pub rising : IsRising seg_cmp survivors

-- the segments of a list, each once
pub record AreDistinct (segs distinct : List Seg) : Type 0 where
  pub once : (s : Seg) → count_of seg_cmp s distinct ≡ min 1 (count_of seg_cmp s segs)
  pub rising : IsRising seg_cmp distinct

-- both ends of each segment
abbrev pub ends_of : List Seg → List Loc
ends_of segs = flat_map (λ s. s.a ∷ (s.b ∷ [])) segs

-- the locations at which an odd number of segments end
pub record AreOddNodes (segs : List Seg) (nodes : List Loc) : Type 0 where
  pub odd : (p : Loc) → count_of loc_cmp p nodes ≡ count_of loc_cmp p (ends_of segs) % 2
  pub rising : IsRising loc_cmp nodes

-- an even number of segments end at each location
abbrev pub HasEvenNodes : List Seg → Type 0
HasEvenNodes segs = AreOddNodes segs []
