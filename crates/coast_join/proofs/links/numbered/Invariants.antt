use Rattle.std.proofs.Common.{◌≡◌, take, vec_len, unwrap_or}
use Rattle.std.specs.BTreeMap.{get}
use Rattle.osm_lattice.specs.declared.loc.Loc.{Loc}
use Rattle.osm_lattice.specs.Loc.{loc_cmp}
use Rattle.lists.specs.Rising.{count_of}
use Rattle.coast_join.specs.Links.{AreNumbered}
use Rattle.coast_join.proofs.links.numbered.Given as goal

abbrev pub invariant-loop-loc : goal.invariant-loop-loc
invariant-loop-loc l = record {
  counted : (p : Loc) → unwrap_or (get loc_cmp l.stood p) 0 ≡ count_of loc_cmp p (take l.loc-index l.locs);
  sized : vec_len l.numbered ≡ l.loc-index;
  numbered : AreNumbered (take l.loc-index l.locs) l.numbered.items;
}
