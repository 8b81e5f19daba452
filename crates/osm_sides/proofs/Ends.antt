-- The list of segments by their upper ends.
use Rattle.std.proofs.Common.{List, [], arith, eq-or-lt_of_le, filter, get_or, not, subst, suc, sym, ap, false, true, ℤ, ⊎_elim, ◌-ℤ◌, ◌<◌, ◌∷◌, ◌≡◌, inl, inr}
use lib.Signed.{lt_z}
use Rattle.std.specs.List.{AllPairs, Contains}
use Rattle.std.proofs.lemmas.Int.{ints}
use Rattle.std.proofs.lemmas.List.Kept.{AllPairs-filter}
use Rattle.std.proofs.lemmas.List.Sorted.{Contains-permutation}
use Rattle.plane.specs.Sign.{Minus, Null, Plus, Sign, is_minus, sign, then_sign}
use Rattle.plane.proofs.SignKit.{Says, says}
use Rattle.lists.specs.Member.{In}
use Rattle.lists.proofs.ListsKit.{at-in, into-filter}
use Rattle.osm_lattice.specs.declared.seg.Seg.{Seg}
use Rattle.osm_segments.specs.Sweep.{AreByEnds}
use Rattle.osm_sides.specs.SideTests.{level}
use Rattle.osm_sides.specs.Sweep.{AreEnds}

to-contains : {X : Type 0} (xs : List X) (x : X) → In x xs → Contains xs x
to-contains [] x i = absurd i
to-contains (y ∷ ys) x (inl e) = (0, omega arith, sym e)
to-contains (y ∷ ys) x (inr i) = let r = to-contains ys x i in (suc r.0, (let s = r.1 in omega arith), r.2)

from-contains : {X : Type 0} (xs : List X) (x : X) → Contains xs x → In x xs
from-contains xs x (m, inside, at) = subst (λ y. In y xs) at (at-in xs m x inside)

-- a point that isn't before another isn't below it
not-below : (a b : ℤ) (s t : Sign) → Says s (b -ℤ a) → not (is_minus (then_sign s t)) ≡ true → lt_z b a ≡ false
not-below a b Plus t says h = grind (arith, ints)
not-below a b Null t says h = grind (arith, ints)
not-below a b Minus t says h = absurd (cc h)

not-below-itself : (a : ℤ) → lt_z a a ≡ false
not-below-itself a = grind (arith, ints)

-- those of the segments by their upper ends that aren't horizontal
pub are_ends : (segs ends kept : List Seg) → kept ≡ filter (λ t. not (level t)) ends → AreByEnds segs ends → AreEnds segs kept
are_ends segs ends kept filtered sorted = record {
  whole = λ t i slopes. subst (In t) (sym filtered) (into-filter (λ t. not (level t)) ends t (from-contains ends t (Contains-permutation segs ends t sorted.moved (to-contains segs t i))) (ap not slopes));
  rise = λ i j d h l. ⊎_elim
      (λ (here : i ≡ j). subst (λ k. Rise (get_or kept i d) (get_or kept k d)) here (not-below-itself (get_or kept i d).b.y))
      (λ (before : i < j). left i j d before l)
      (eq-or-lt_of_le h);
}
  where
    Rise : Seg → Seg → Type 0
    Rise s t = lt_z t.b.y s.b.y ≡ false

    left : AllPairs Rise kept
    left = subst (AllPairs Rise) (sym filtered) (AllPairs-filter Rise (λ t. not (level t)) ends (λ i j d h l.
        let p = (get_or ends i d).b in let q = (get_or ends j d).b in
        not-below p.y q.y (sign (q.y -ℤ p.y)) (sign (q.x -ℤ p.x)) (says (q.y -ℤ p.y)) (sorted.rise i j d (omega arith) l)))
