-- What is reached from both sides of the step.
use Rattle.std.proofs.Common.{length, ap, ◌||◌, ◌≡◌, ◌∙◌, Bool, true, false}
use Rattle.coast_sides.specs.ShortcutSteps.{is_on_stretch, is_reached}
use Rattle.coast_sides.proofs.ReachedLocations.{found_from}
use Rattle.coast_sides.proofs.stretches.reach_from.Goals as goal

joined : (a b c d e f : Bool) → e ≡ (a || b) → f ≡ (e || c) → (b || c) ≡ d → f ≡ (a || d)
joined true b c d e f p q r = q ∙ ap (λ x. x || c) p
joined false b c d e f p q r = q ∙ (ap (λ x. x || c) p ∙ r)

pub returns : goal.returns
returns c = λ k h.
    let n = length c.args.reach.now in
    let far = c.farthest_ahead-far.result in
    let behind = c.farthest_behind-behind.result in
    let from = c.place_before-from.result in
    let second = c.raise-2.ensures k ∙ ap (λ m. is_reached c.raise.new.reach k || is_on_stretch m from behind k) c.raise.auto.reach in
    joined (is_reached c.args.reach.now k) (is_on_stretch n c.args.at far k) (is_on_stretch n from behind k) _ (is_reached c.raise.new.reach k) (is_reached c.raise-2.new.reach k) (c.raise.ensures k) second
    (found_from n c.args.at k far behind from c.args.others.now c.requires.at h c.requires.inside c.farthest_ahead-far.ensures c.farthest_behind-behind.ensures c.place_before-from.ensures.value)
