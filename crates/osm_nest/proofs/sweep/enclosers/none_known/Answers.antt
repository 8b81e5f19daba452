-- Each is None.
use Rattle.std.proofs.Common.{None, Some, arith, length, sym, ◌∙◌, ◌≡◌, ℕ}
use Rattle.osm_nest.proofs.sweep.enclosers.none_known.Goals as goal

pub returns : goal.returns
returns c =
    let all : length c.loop.known.items ≡ length c.args.rings.now = (let s = c.loop.invariant.0 in let e = c.loop.auto.counter-end in let f = c.loop-test.false in omega (arith, s, e, f)) in
    record { sized = all; right = λ place encloser h e. absurd (nothing encloser (sym (c.loop.invariant.1 place None (omega (arith, all, h))) ∙ e)) }
  where
    nothing : (encloser : ℕ) → None ≡ Some encloser → ⊥
    nothing encloser e = cc
