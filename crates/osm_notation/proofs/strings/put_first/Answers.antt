use Rattle.std.proofs.Common.{◌∙◌, ◌++◌, List, ℕ, sym, ap}
use Rattle.std.specs.Prelude.{encode_utf8}
use Rattle.osm_notation.proofs.StringLemmas.{escape-put}
use Rattle.osm_notation.proofs.strings.put_first.Goals as goal

pub returns-clause-text : goal.returns-clause-text
returns-clause-text c =
    escape-put c.args.bytes.now.items c.put_escape.new.bytes.items c.args.text.now c.as_str.result.now c.in-Some.c c.utf8.text
    (sym c.chars-chars.ensures.rest ∙ c.in-Some.ensures.steps.0 ∙ ap (λ (xs : List ℕ). encode_utf8 c.in-Some.c ++ xs) (sym c.as_str.ensures)) c.requires c.in_ok-put_escape.ensures.text
