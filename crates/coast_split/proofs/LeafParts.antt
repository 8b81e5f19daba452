-- With overlap 0 the leaves of a list part it: at a point off the list and the cuts their parities add up to that of the list.
use Rattle.std.proofs.Common.{List, [], ap, arith, pos, refl, suc, sym, zero, ℕ, ℤ, ◌%◌, ◌*ℤ◌, ◌+ℤ◌, ◌-ℤ◌, ◌+◌, ◌∙◌, ◌<◌, ◌≡◌}
use Rattle.std.specs.List.{sum_by}
use Rattle.std.proofs.lemmas.List.Sums.{sum_by-append, sum_by-cons}
use Rattle.plane.specs.Sign.{Minus, Null, Plus, Sign, negated, sign}
use Rattle.plane.specs.Vector.{Vector}
use Rattle.plane_lists.specs.Halves.Line.{scaled_line, side}
use Rattle.osm_geom.specs.declared.cut.Axis.{Axis}
use Rattle.osm_geom.specs.declared.cut.Axis.TheVariants.{X, Y}
use Rattle.osm_geom.specs.declared.cut.Cut.{Cut}
use Rattle.osm_geom.specs.declared.cut.Side.TheVariants.{Low, High}
use Rattle.osm_geom.specs.declared.edge.Edge.{Edge}
use Rattle.osm_geom.specs.InPlane.Sided.{IsSided, count_at, signed_count_at}
use Rattle.coast_split.specs.Half.{line_by, line_of}
use Rattle.coast_split.specs.SplitTree.{IsOffCuts, IsOffList, IsTree, Tree, high_cut, leaves_of, low_cut, middle_of}
use Rattle.coast_split.specs.SplitTree.Tree.{Fork, Whole}
use Rattle.plane.proofs.SignKit.{lift, same, ◌⊞◌, ◌⊟◌, ◌⊠◌, sign-reversed}
use Rattle.coast_split.proofs.CutLines.{high-x, high-y, low-x, low-y}
use Rattle.coast_split.proofs.LeafCover.{HalfAt, covers-once, either-half, half-at, once-covers, zero-one}
use Rattle.coast_split.proofs.SidedHalves.{half-sided}

-- ---- without an overlap a point in the low half is beyond the line of the high one
beyond-by : (q c x : ℤ) → sign (q *ℤ (c +ℤ pos 0) -ℤ x) ≡ Plus → sign (x -ℤ q *ℤ (c -ℤ pos 0)) ≡ Minus
beyond-by q c x h =
    let q' = lift q in let x' = lift x in let c' = lift c in let o' = lift (pos 0) in
    sign-reversed (q *ℤ (c +ℤ pos 0) -ℤ x) (x -ℤ q *ℤ (c -ℤ pos 0)) (same ((q' ⊠ (c' ⊞ o') ⊟ x') ⊞ (x' ⊟ q' ⊠ (c' ⊟ o'))) o' (omega arith)) ∙ ap negated h

beyond-axis : (axis : Axis) (q c : ℤ) (p : Vector) → side (scaled_line q (line_by axis Low (record { axis = axis; at = c +ℤ pos 0 }))) p ≡ Plus → side (scaled_line q (line_by axis High (record { axis = axis; at = c -ℤ pos 0 }))) p ≡ Minus
beyond-axis X q c p h = ap sign (high-x q (c -ℤ pos 0) p.x p.y) ∙ beyond-by q c p.x (sym (ap sign (low-x q (c +ℤ pos 0) p.x p.y)) ∙ h)
beyond-axis Y q c p h = ap sign (high-y q (c -ℤ pos 0) p.x p.y) ∙ beyond-by q c p.y (sym (ap sign (low-y q (c +ℤ pos 0) p.x p.y)) ∙ h)

beyond-half : (x : Cut) (q : ℤ) (p : Vector) → side (scaled_line q (line_of (low_cut x 0) Low)) p ≡ Plus → side (scaled_line q (line_of (high_cut x 0) High)) p ≡ Minus
beyond-half x q p h = beyond-axis x.axis q x.at p h

-- ---- parities
same-by : (r s : ℕ) → r < 2 → s < 2 → (r ≡ 1 → s ≡ 1) → (s ≡ 1 → r ≡ 1) → r ≡ s
same-by zero zero h k f g = refl
same-by zero (suc zero) h k f g = g refl
same-by zero (suc (suc s)) h k f g = absurd (omega arith)
same-by (suc zero) zero h k f g = sym (f refl)
same-by (suc zero) (suc zero) h k f g = refl
same-by (suc zero) (suc (suc s)) h k f g = absurd (omega arith)
same-by (suc (suc r)) s h k f g = absurd (omega arith)

pub same-parity : (n k : ℕ) → (n % 2 ≡ 1 → k % 2 ≡ 1) → (k % 2 ≡ 1 → n % 2 ≡ 1) → n % 2 ≡ k % 2
same-parity n k f g = same-by (n % 2) (k % 2) (omega arith) (omega arith) f g

none-by : (r : ℕ) → r < 2 → (r ≡ 1 → ⊥) → r ≡ 0
none-by zero h f = refl
none-by (suc zero) h f = absurd (f refl)
none-by (suc (suc r)) h f = absurd (omega arith)

no-parity : (n : ℕ) → (n % 2 ≡ 1 → ⊥) → n % 2 ≡ 0
no-parity n f = none-by (n % 2) (omega arith) f

module _ (q : ℤ) (hq : sign q ≡ Plus) (p : Vector) where
  abbrev parity : List Edge → ℕ
  parity es = count_at q p es % 2

  kept : (es hs : List Edge) → IsSided es → IsOffList q p es → IsSided hs → IsOffList q p hs → signed_count_at q p hs ≡ signed_count_at q p es → parity hs ≡ parity es
  kept es hs sd off sh offh e =
      same-parity (count_at q p hs) (count_at q p es)
      (λ h. once-covers q hq p es sd off (sym e ∙ covers-once q hq p hs sh offh h)) (λ h. once-covers q hq p hs sh offh (e ∙ covers-once q hq p es sd off h))

  empty : (hs : List Edge) → IsSided hs → IsOffList q p hs → signed_count_at q p hs ≡ pos 0 → parity hs ≡ 0
  empty hs sh offh e = no-parity (count_at q p hs) (λ h. zero-one (signed_count_at q p hs) e (covers-once q hq p hs sh offh h))

  both : (es low high : List Edge) (a b : Sign) → (a ≡ Null → ⊥) → (a ≡ Plus → b ≡ Minus) → (a ≡ Minus → b ≡ Plus) → HalfAt q p es low a → HalfAt q p es high b →
      IsSided es → IsOffList q p es → IsSided low → IsSided high → parity low + parity high ≡ parity es
  both es low high Plus b n f g x y sd off sl sh =
      let k = kept es low sd off sl x.off (x.inside refl) in let z = empty high sh y.off (y.outside (f refl)) in omega arith
  both es low high Minus b n f g x y sd off sl sh =
      let k = kept es high sd off sh y.off (y.inside (g refl)) in let z = empty low sl x.off (x.outside refl) in omega arith
  both es low high Null b n f g x y sd off sl sh = absurd (n refl)

  pub leaf-parts : (m : ℕ) (es : List Edge) (t : Tree) → IsTree m 0 es t → IsSided es → IsOffList q p es → IsOffCuts 0 q p es t → sum_by parity (leaves_of es t) ≡ parity es
  leaf-parts m es Whole h sd off cuts = let a = sum_by-cons parity es [] in omega arith
  leaf-parts m es (Fork low high s t) h sd off cuts =
      let x = middle_of es in
      let a = half-at (low_cut x 0) Low es low h.1 sd q hq p off cuts.0 in
      let b = half-at (high_cut x 0) High es high h.2 sd q hq p off cuts.1 in
      let sl = half-sided (low_cut x 0) Low es low h.1 sd in let sh = half-sided (high_cut x 0) High es high h.2 sd in
      let l = leaf-parts m low s h.3 sl a.off cuts.2 in let r = leaf-parts m high t h.4 sh b.off cuts.3 in
      let z = sum_by-append parity (leaves_of low s) (leaves_of high t) in
      let w = both es low high (side (scaled_line q (line_of (low_cut x 0) Low)) p) (side (scaled_line q (line_of (high_cut x 0) High)) p) cuts.0 (λ e. beyond-half x q p e) (λ e. either-half x 0 q p hq e) a b sd off sl sh in
      omega arith
