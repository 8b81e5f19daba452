-- The earlier features, and then the last one.
use Rattle.std.proofs.Common.{◌∙◌, List, ap, ap₂, map, subst, sym, ◌++◌, ℕ, drop, take}
use Rattle.std.proofs.lemmas.List.{map-append, take-append-drop}
use Rattle.osm_host.specs.declared.host.Failed.{Failed}
use Rattle.osm_job.proofs.Writes.{then_more}
use Rattle.osm_job.specs.Sent.{Sent, to_output}
use Rattle.osm_job.specs.Writes.{Wrote}
use Rattle.job_export.proofs.writing.write_features.Goals as goal

pub returns : goal.returns
returns g c =
    let all = c.args.waiting.now in
    let earlier = c.split_at.result.0.now in
    let last = c.split_at.result.1.now in
    let before = g.H.Host.seen c.args.host.now in
    let now = g.H.Host.seen c.write_out-3.new.host in
    subst (λ (xs : List Sent). Wrote {T = Unit {0}} {E = Failed} xs before now c.write_out-3.result)
    (sym (map-append to_output earlier last) ∙ ap (map to_output) (ap₂ (λ (xs ys : List ℕ). xs ++ ys) c.split_at.ensures.front c.split_at.ensures.back ∙ take-append-drop c.args.begin all))
    (then_more (map to_output earlier) (map to_output last) before (g.H.Host.seen c.write_out-2.new.host) now c.in_default.field-0 c.write_out-3.result c.in_default.ensures c.write_out-3.ensures)
