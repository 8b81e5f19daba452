-- One more entry.
use Rattle.std.proofs.Common.{ap, arith, get_or, length, refl, rules, w32, ◌<◌, ◌∙◌}
use Rattle.std.proofs.lemmas.Int.{to_z-of_z}
use Rattle.std.proofs.lemmas.List.{get_or_default}
use Rattle.osm_lattice.specs.declared.loc.Loc.{Loc}
use Rattle.area_locate.proofs.EntryLists.{one_entry_more}
use Rattle.area_locate.proofs.stretch.entries_of.Goals as goal

pub loop-place-preserved : goal.loop-place-preserved
loop-place-preserved c =
    let points = c.args.points.now in let place = c.loop-place.place in let p = c.index-points-place.result in
    let l : place < length points = omega arith in
    one_entry_more points c.args.first c.loop-place.entries.items c.push.new.self.items place _ c.in_ok-push.ensures.items (record {
      inside = l;
      x = λ d. to_z-of_z w32 (get_or points place p).x (search rules) ∙ ap (λ (q : Loc). q.x) (get_or_default points place p d l);
    }) refl c.loop-place.invariant
