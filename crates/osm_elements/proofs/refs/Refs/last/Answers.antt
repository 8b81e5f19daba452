use Rattle.std.proofs.Common.{◌∙◌, List, ℕ, Some, sym, ap}
use Rattle.osm_elements.specs.Held.{refs_behind, last_behind, after_ref}
use Rattle.osm_elements.proofs.HeldLemmas.{last_of_all}
use Rattle.osm_elements.proofs.refs.Refs.last.Goals as goal

pub returns : goal.returns
returns c =
    let first = c.in_ok-first.first in
    c.last_behind.ensures
    ∙ ap (λ (bytes : List ℕ). last_behind (Some first) (refs_behind (Some first) bytes)) (c.after_ref.ensures ∙ ap (λ (bytes : List ℕ). after_ref bytes) c.as_slice.ensures)
    ∙ last_of_all c.self.inside.bytes c.args.self.now first c.self.view_is (sym c.in_ok-first.ensures)
