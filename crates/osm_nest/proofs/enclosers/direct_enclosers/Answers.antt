-- One more ring, up to all.
use Rattle.std.proofs.Common.{List, None, Option, arith, length, refl, subst, sym, ℕ, ◌<◌, ◌∙◌, ◌≡◌}
use Rattle.osm_nest.specs.Enclosers.{IsDirectEncloser}
use Rattle.osm_nest.proofs.Filled.{IsFilled, filled-step}
use Rattle.osm_nest.proofs.enclosers.direct_enclosers.Goals as goal

pub loop-place-preserved : goal.loop-place-preserved
loop-place-preserved c =
    filled-step (IsDirectEncloser c.args.rings.now) None c.loop-place.place c.loop-place.enclosers.items c.push.new.self.items c.direct_encloser.result c.in_ok-push.ensures.items c.direct_encloser.ensures c.loop-place.invariant

pub loop-place-init : goal.loop-place-init
loop-place-init c = subst (λ (xs : List (Option ℕ)). IsFilled (IsDirectEncloser c.args.rings.now) None 0 xs) (sym c.in_ok-enclosers.ensures.items) (refl, λ place h. absurd (omega arith))

pub returns : goal.returns
returns c =
    let are = c.loop-place.invariant in
    let whole : c.loop-place.place ≡ length c.args.rings.now = omega arith in
    record { sized = are.0 ∙ whole; right = λ place h. are.1 place (subst (λ (n : ℕ). place < n) (sym whole) h) }
