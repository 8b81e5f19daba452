use Rattle.std.proofs.Common.{◌∙◌, ◌++◌, ◌∷◌, [], List, sym, ap}
use Rattle.osm_elements.specs.declared.object.Tag.{Tag}
use Rattle.opl_reader.specs.ItemReading.{tag_at}
use Rattle.opl_reader.specs.Steps.{kept_with}
use Rattle.opl_reader.proofs.ItemLemmas.{begins-all, goes_on}
use Rattle.opl_reader.proofs.TagLemmas.{push-kept, no-keys, kept_from}
use Rattle.opl_reader.proofs.items.read_tags.Goals as goal

pub loop-left-init : goal.loop-left-init
loop-left-init c = (
  [],
  c.new-tags.ensures,
  begins-all tag_at c.args.place c.args.text.now c.all_items-left.result c.all_items-left.ensures.value c.all_items-left.ensures.utf8,
  rw c.new-tags.ensures (no-keys c.new-later_keys.result c.new-later_keys.ensures.empty),
)

pub loop-left-preserved : goal.loop-left-preserved
loop-left-preserved c =
    let front = c.loop-left.invariant.0 in
    let kept = kept_from (tag_at c.loop-left.at c.next_item.result.0.now) c.loop-left.tags c.add_tag.new.tags c.in_ok-add_tag.ensures.tags in (
      front ++ kept.0 ∷ [],
      sym kept.2 ∙ ap (λ (tags : List Tag). kept_with tags kept.0) c.loop-left.invariant.1 ∙ push-kept front kept.0,
      goes_on tag_at front c.loop-left.at c.in-Some.rest c.next_item.result.0.now c.next_item.result.1 kept.0 c.args.place c.args.text.now c.next_item.ensures.parts c.next_item.ensures.len c.next_item.ensures.utf8 kept.1 (rw c.in-Some.is at c.loop-left.invariant.2),
      c.in_ok-add_tag.ensures.keys,
    )
