use Rattle.std.proofs.Common.{◌≡◌, refl, ap, ◌∙◌, rules, pos}
use Rattle.std.specs.Ordering.{nat_cmp, int_cmp, ordering_then}
use Rattle.osm_geom.specs.declared.turning.Turn.{Turn}
use Rattle.osm_geom.specs.declared.turning.Turn.TheVariants.{Right, Back, Left, Ahead}
use Rattle.osm_geom.specs.Dir.{turn_of, rank_of, cross}
use Rattle.osm_geom.specs.contracts.turning.TurnOrd.TheImpl.{cmp-value}
use Rattle.osm_geom.proofs.turning.clockwise.Goals as goal

cmp_is : (t u : Turn) → cmp-value.it t u ≡ nat_cmp (rank_of t) (rank_of u)
cmp_is Right Right = refl
cmp_is Right Back = refl
cmp_is Right Left = refl
cmp_is Right Ahead = refl
cmp_is Back Right = refl
cmp_is Back Back = refl
cmp_is Back Left = refl
cmp_is Back Ahead = refl
cmp_is Left Right = refl
cmp_is Left Back = refl
cmp_is Left Left = refl
cmp_is Left Ahead = refl
cmp_is Ahead Right = refl
cmp_is Ahead Back = refl
cmp_is Ahead Left = refl
cmp_is Ahead Ahead = refl

pub returns : goal.returns
returns c =
    let by_turn : c.cmp.result ≡ nat_cmp (rank_of (turn_of c.args.from c.args.d)) (rank_of (turn_of c.args.from c.args.e)) = rw (← c.turn_between.ensures, ← c.turn_between-2.ensures) (c.cmp.ensures ∙ cmp_is c.turn_between.result c.turn_between-2.result) in
    let by_cross : c.cmp-2.result ≡ int_cmp (cross c.args.d c.args.e) (pos 0) = search rules in
    c.then.ensures ∙ (ap (λ o. ordering_then o c.cmp-2.result) by_turn ∙ ap (ordering_then _) by_cross)
