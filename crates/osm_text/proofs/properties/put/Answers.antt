use Rattle.std.proofs.Common.{◌∙◌, sym, ap, string_bytes}
use Rattle.osm_text.proofs.PropertyLemmas.{is_there, members-there, members-insert, view-String}
use Rattle.serde_json.specs.Data.{string}
use Rattle.osm_elements.specs.Seen.{tag_seen}
use Rattle.osm_text.proofs.properties.put.Goals as goal

pub returns-then-contains_key : goal.returns-then-contains_key
returns-then-contains_key c = λ tags same.
    let key = c.in_ok-key.ensures.ok in
    let found = sym (is_there (string_bytes c.in_ok-key.key) c.args.object.now.entries tags same) ∙ sym c.contains_key.ensures ∙ c.if-contains_key.true in
    same ∙ sym (members-there (tag_seen c.args.tag.now) tags (rw key at found))

pub returns : goal.returns
returns c = λ tags same.
    let key = c.in_ok-key.ensures.ok in
    let found = sym (is_there (string_bytes c.in_ok-key.key) c.args.object.now.entries tags same) ∙ sym c.contains_key.ensures ∙ c.if-contains_key.false in
    rw c.in_ok-insert.ensures.entries (members-insert c.args.object.now.entries c.in_ok-key.key _ (tag_seen c.args.tag.now) tags same key (view-String c.in_ok-value.value ∙ ap string c.in_ok-value.ensures.ok) (rw key at found))
