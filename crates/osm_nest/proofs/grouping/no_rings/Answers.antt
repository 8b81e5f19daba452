-- One empty list more.
use Rattle.std.proofs.Common.{All, List, [], ap, length, subst, sym, ◌+◌, ◌∙◌, ◌≡◌, ℕ}
use Rattle.std.proofs.lemmas.List.{length_push}
use Rattle.std.proofs.lemmas.List.Elements.{All-push}
use Rattle.osm_geom.specs.declared.edge.Edge.{Edge}
use Rattle.osm_nest.proofs.grouping.no_rings.Goals as goal

pub loop-preserved : goal.loop-preserved
loop-preserved c =
    let more = c.in_ok-push.ensures.items in
    let under = c.loop.under.items in
    let empty = λ (rings : List (List Edge)). rings ≡ [] in
    record {
      sized = ap length more ∙ (length_push under c.new.result ∙ ap (λ (n : ℕ). n + 1) c.loop.invariant.sized);
      empty = subst (All empty) (sym more) (All-push empty under c.new.result c.loop.invariant.empty c.new.ensures);
    }
