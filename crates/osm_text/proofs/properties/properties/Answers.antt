use Rattle.std.proofs.Common.{◌≡◌, ◌∙◌, ap, sym, rules, [], fold}
use Rattle.std.proofs.lemmas.Result.{IfOk-weaker}
use Rattle.serde_json.specs.Data.{object}
use Rattle.serde_json.specs.Written.{compact_text, has_float}
use Rattle.serde_json.proofs.Views.{view-Object}
use Rattle.osm_elements.specs.Seen.{tag_seen}
use Rattle.osm_text.specs.Members.{tag_members}
use Rattle.osm_text.specs.Properties.{by_key, with_tag}
use Rattle.osm_text.proofs.PropertyLemmas.{no_float, text_is}
use Rattle.osm_text.proofs.properties.properties.Goals as goal

pub loop-tag-init : goal.loop-tag-init
loop-tag-init c = ([], (search rules), ap (fold with_tag []) c.iter-rest.ensures)

pub loop-tag-preserved : goal.loop-tag-preserved
loop-tag-preserved c =
    let i = c.loop-tag.invariant in
    (with_tag i.0 (tag_seen c.in-Some.tag), c.in_ok-put.ensures i.0 i.1, sym (ap (fold with_tag i.0) c.in-Some.ensures.tag) ∙ i.2)

pub returns : goal.returns
returns c =
    let i = c.loop-tag.invariant in
    let all : i.0 ≡ by_key c.args.tags.now = sym (ap (fold with_tag i.0) c.in_default.ensures.tag) ∙ i.2 in
    let seen = view-Object c.loop-tag.object ∙ ap object (i.1 ∙ ap tag_members all) in
    IfOk-weaker c.to_string.result _ _ (λ s h. h (ap has_float seen ∙ no_float (by_key c.args.tags.now)) ∙ ap compact_text seen ∙ text_is c.args.tags.now) c.to_string.ensures.text
