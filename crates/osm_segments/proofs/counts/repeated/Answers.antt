-- The tallies of at least two.
use Rattle.std.proofs.Common.{◌≡◌, ap, ◌∙◌, map, sym, subst, All}
use Rattle.std.proofs.lemmas.Result.{IfOk-weaker}
use Rattle.std.proofs.lemmas.List.Elements.{All-map}
use Rattle.osm_lattice.specs.Seg.{seg_cmp}
use Rattle.lists.specs.Rising.{IsRising, count_of}
use Rattle.osm_segments.specs.declared.counts.Repeat.{Repeat}
use Rattle.osm_segments.specs.Repeats.{repeat_of, segs_of}
use Rattle.osm_segments.proofs.CountLemmas.{segs_of-map}
use Rattle.osm_segments.proofs.counts.repeated.Goals as goal

pub returns : goal.returns
returns c = IfOk-weaker c.repeats_of.result _ _ (λ v e.
    let segs = c.args.segs.now in
    let tallies = c.in_ok-tallies.tallies.items in
    let made : v.items ≡ map repeat_of tallies = e ∙ ap (map repeat_of) c.deref.ensures.value in
    let same : segs_of v.items ≡ map (λ t. t.item) tallies = ap segs_of made ∙ segs_of-map tallies in
    let P : Repeat → Type 0 = λ r. r.times ≡ count_of seg_cmp r.seg segs in
    record {
      twice = λ s. ap (count_of seg_cmp s) same ∙ c.in_ok-tallies.ensures.repeated s;
      times = subst (All P) (sym made) (All-map P repeat_of tallies c.in_ok-tallies.ensures.times);
      rising = subst (IsRising seg_cmp) (sym same) c.in_ok-tallies.ensures.rising;
    }) c.repeats_of.ensures
