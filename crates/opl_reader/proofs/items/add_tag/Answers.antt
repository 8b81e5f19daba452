use Rattle.std.proofs.Common.{◌∙◌, List, Ok, sym, ap}
use Rattle.osm_elements.specs.declared.object.Tag.{Tag}
use Rattle.opl_reader.proofs.TagLemmas.{plain_kept}
use Rattle.opl_reader.proofs.items.add_tag.Goals as goal

pub returns-then-is_plain-2-clause-tags : goal.returns-then-is_plain-2-clause-tags
returns-then-is_plain-2-clause-tags c =
    let key = c.is_plain.ensures c.if-is_plain.true in
    let value = c.is_plain-then-is_plain.ensures c.if-is_plain-2.true in
    plain_kept c.args.tags.now c.args.place c.args.item.now c.in-Some.key.now c.in-Some.value.now c.in-Some.ensures.halves key value ∙ ap (λ (tags : List Tag). Ok tags) (sym c.in_ok-keep.ensures.kept)
