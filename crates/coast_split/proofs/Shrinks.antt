-- A half lies in the envelope of its list and on its side of the line, so a split list has smaller halves.
use Rattle.std.proofs.Common.{Bool, List, [], ap, arith, false, inl, inr, not, pos, refl, subst, sym, true, ℕ, ℤ, ◌*ℤ◌, ◌-ℤ◌, ◌*◌, ◌||◌, ◌∙◌, ◌∷◌, ◌≡◌, ◌≤◌, ◌≤ℤ◌, ◌⊎◌}
use Prim.Native.Nat.{◌∣◌}
use Rattle.std.proofs.lemmas.Int.{ints}
use Rattle.std.proofs.Math.Nat.{dvd-mul_left, dvd-mul_right_of_dvd, dvd-mul_right}
use Rattle.plane.specs.Sign.{Minus, Null, Plus, Sign, is_minus, is_plus, sign}
use Rattle.plane.specs.Vector.{Vector, cross, from_to}
use Rattle.lists.specs.Member.{In}
use Rattle.plane_lists.specs.Lists.Parity.{is_even}
use Rattle.osm_geom.specs.declared.cut.Axis.{Axis}
use Rattle.osm_geom.specs.declared.cut.Axis.TheVariants.{X, Y}
use Rattle.osm_geom.specs.declared.cut.Cut.{Cut}
use Rattle.osm_geom.specs.declared.cut.Side.{Side}
use Rattle.osm_geom.specs.declared.edge.Edge.{Edge}
use Rattle.osm_geom.specs.declared.point.Point.{Point}
use Rattle.osm_geom.specs.Carrier.{is_on}
use Rattle.osm_geom.specs.Cut.{cut_order, side_of}
use Rattle.osm_geom.specs.Point.{den_of}
use Rattle.osm_geom.specs.InPlane.Multiple.{point_times}
use Rattle.coast_split.specs.Half.{AreLinks, AreLinksFrom, ArePortions, IsHalf, IsPortionEnd, NextLink, NextPortion, ends_up_to, has_portion, lower_of}
use Rattle.plane.proofs.SignKit.{lift, same, ◌⊟◌, ◌⊠◌, agree, says-at, sum-not-plus, sum-not-minus}
use Rattle.lists.proofs.ListsKit.{in-either}
use Rattle.plane_lists.proofs.HalvingKit.{IsMean, mean-cross, meeting-is-mean, meeting-is-mean-back}
use Rattle.osm_geom.proofs.EdgesKit.{den-some, product-some}
use Rattle.osm_geom.proofs.GeometryKit.{order_at}
use Rattle.coast_split.proofs.CutLines.{side-times, x-before, y-before}
use Rattle.coast_split.proofs.Envelopes.{AllIn, IsIn}
use Rattle.coast_split.proofs.InPlane.{cut-side-null, edge-line-null, line_times, side-null-by}

-- ---- a mean is between, on each axis
x-is : (c : ℤ) (v : Vector) → cross (record { x = pos 0; y = pos 1 }) (from_to (record { x = c; y = pos 0 }) v) ≡ c -ℤ v.x
x-is c v = let c' = lift c in let x' = lift v.x in let y' = lift v.y in let o = lift (pos 0) in let i = lift (pos 1) in same (o ⊠ (y' ⊟ o) ⊟ i ⊠ (x' ⊟ c')) (c' ⊟ x') (omega arith)

y-is : (c : ℤ) (v : Vector) → cross (record { x = pos 0 -ℤ pos 1; y = pos 0 }) (from_to (record { x = pos 0; y = c }) v) ≡ c -ℤ v.y
y-is c v = let c' = lift c in let x' = lift v.x in let y' = lift v.y in let o = lift (pos 0) in let i = lift (pos 1) in same ((o ⊟ i) ⊠ (y' ⊟ c') ⊟ o ⊠ (x' ⊟ o)) (c' ⊟ y') (omega arith)

mean-x : (a b z : Vector) (c : ℤ) → IsMean a b z → agree (sign (c -ℤ a.x)) (sign (c -ℤ b.x)) (sign (c -ℤ z.x)) ≡ true
mean-x a b z c i = rw (← x-is c a, ← x-is c b, ← x-is c z) (mean-cross a b z i (record { x = pos 0; y = pos 1 }) (record { x = c; y = pos 0 }))

mean-y : (a b z : Vector) (c : ℤ) → IsMean a b z → agree (sign (c -ℤ a.y)) (sign (c -ℤ b.y)) (sign (c -ℤ z.y)) ≡ true
mean-y a b z c i = rw (← y-is c a, ← y-is c b, ← y-is c z) (mean-cross a b z i (record { x = pos 0 -ℤ pos 1; y = pos 0 }) (record { x = pos 0; y = c }))

-- where an edge crosses the line
module _ (cut : Cut) (s : Side) (e : Edge) (z : Point) (oz : cut_order cut z ≡ Null) (hz : is_on e.carrier z ≡ true) where
  abbrev k : ℕ
  k = (den_of e.from * den_of e.to) * den_of z

  some : 1 ≤ k
  some = product-some (den_of e.from * den_of e.to) (den_of z) (product-some (den_of e.from) (den_of e.to) (den-some e.from) (den-some e.to)) (den-some z)

  a-in : den_of e.from ∣ k
  a-in = dvd-mul_right_of_dvd (den_of e.from) (dvd-mul_right (den_of e.from) (den_of e.to)) (den_of z)

  b-in : den_of e.to ∣ k
  b-in = dvd-mul_right_of_dvd (den_of e.to) (dvd-mul_left (den_of e.to) (den_of e.from)) (den_of z)

  z-in : den_of z ∣ k
  z-in = dvd-mul_left (den_of z) (den_of e.from * den_of e.to)

  order-by : (axis : Axis) (c : ℤ) → IsMean (point_times k e.from) (point_times k e.to) (point_times k z) → agree (order_at axis c e.from) (order_at axis c e.to) (order_at axis c z) ≡ true
  order-by X c i = rw (← x-before k some e.from a-in c, ← x-before k some e.to b-in c, ← x-before k some z z-in c) (mean-x (point_times k e.from) (point_times k e.to) (point_times k z) (pos k *ℤ c) i)
  order-by Y c i = rw (← y-before k some e.from a-in c, ← y-before k some e.to b-in c, ← y-before k some z z-in c) (mean-y (point_times k e.from) (point_times k e.to) (point_times k z) (pos k *ℤ c) i)

  pub between-off : side_of cut s e.from ≡ Plus → side_of cut s e.to ≡ Minus → (axis : Axis) (c : ℤ) → agree (order_at axis c e.from) (order_at axis c e.to) (order_at axis c z) ≡ true
  between-off ha hb axis c =
      let l = line_times cut s k in
      order-by axis c (meeting-is-mean l.along (point_times k e.from) (point_times k e.to) (point_times k z) l.level (side-times k some e.from a-in cut s ∙ ha) (side-times k some e.to b-in cut s ∙ hb) (cut-side-null cut s k some z z-in oz) (edge-line-null e k some a-in b-in z z-in hz))

  pub between-onto : side_of cut s e.from ≡ Minus → side_of cut s e.to ≡ Plus → (axis : Axis) (c : ℤ) → agree (order_at axis c e.from) (order_at axis c e.to) (order_at axis c z) ≡ true
  between-onto ha hb axis c =
      let l = line_times cut s k in
      order-by axis c (meeting-is-mean-back l.along (point_times k e.from) (point_times k e.to) (point_times k z) l.level (side-times k some e.from a-in cut s ∙ ha) (side-times k some e.to b-in cut s ∙ hb) (cut-side-null cut s k some z z-in oz) (edge-line-null e k some a-in b-in z z-in hz))

-- ---- the range of a point, by signs
least-by : (x y : ℤ) (s : Sign) → sign (x -ℤ y) ≡ s → x ≤ℤ y → not (is_plus s) ≡ true
least-by x y Plus e h = let k = says-at Plus (x -ℤ y) e in absurd (omega (arith, ints))
least-by x y Null e h = refl
least-by x y Minus e h = refl

pub least-back : (x y : ℤ) (s : Sign) → sign (x -ℤ y) ≡ s → not (is_plus s) ≡ true → x ≤ℤ y
least-back x y Plus e h = absurd (cc h)
least-back x y Null e h = let k = says-at Null (x -ℤ y) e in omega (arith, ints)
least-back x y Minus e h = let k = says-at Minus (x -ℤ y) e in omega (arith, ints)

most-by : (x y : ℤ) (s : Sign) → sign (x -ℤ y) ≡ s → y ≤ℤ x → not (is_minus s) ≡ true
most-by x y Minus e h = let k = says-at Minus (x -ℤ y) e in absurd (omega (arith, ints))
most-by x y Null e h = refl
most-by x y Plus e h = refl

pub most-back : (x y : ℤ) (s : Sign) → sign (x -ℤ y) ≡ s → not (is_minus s) ≡ true → y ≤ℤ x
most-back x y Minus e h = absurd (cc h)
most-back x y Null e h = let k = says-at Null (x -ℤ y) e in omega (arith, ints)
most-back x y Plus e h = let k = says-at Plus (x -ℤ y) e in omega (arith, ints)

in-between : (axis : Axis) (a b : ℤ) (p q z : Point) → ((c : ℤ) → agree (order_at axis c p) (order_at axis c q) (order_at axis c z) ≡ true) → IsIn axis a b p → IsIn axis a b q → IsIn axis a b z
in-between axis a b p q z g h k = record {
  least = least-back _ _ (order_at axis a z) refl (sum-not-plus _ _ _ (g a) (least-by _ _ (order_at axis a p) refl h.least) (least-by _ _ (order_at axis a q) refl k.least));
  most = most-back _ _ (order_at axis b z) refl (sum-not-minus _ _ _ (g b) (most-by _ _ (order_at axis b p) refl h.most) (most-by _ _ (order_at axis b q) refl k.most));
}

-- ---- points of a half
module _ (cut : Cut) (s : Side) (axis : Axis) (a b : ℤ) where
  abbrev pub Holds : Point → Type 0
  Holds p = IsIn axis a b p × (not (is_minus (side_of cut s p)) ≡ true)

  null-kept : (p : Point) → cut_order cut p ≡ Null → not (is_minus (side_of cut s p)) ≡ true
  null-kept p h = ap (λ o. not (is_minus o)) (side-null-by s (cut_order cut p) h)

  same-holds : (v w : Point) (o : Sign) → w ≡ v → side_of cut s v ≡ o → not (is_minus o) ≡ true → IsIn axis a b v → Holds w
  same-holds v w o e h n i = subst Holds (sym e) (i, ap (λ o. not (is_minus o)) h ∙ n)

  part-holds : (e : Edge) (z x : Point) (o r : Sign) → side_of cut s e.from ≡ o → side_of cut s e.to ≡ r → (is_plus o || is_plus r) ≡ true → IsIn axis a b e.from → IsIn axis a b e.to →
      IsPortionEnd cut e.carrier e.from z o → IsPortionEnd cut e.carrier e.to x r → Holds z × Holds x
  part-holds e z x Plus Minus ho hr h i j p q = (same-holds e.from z Plus p ho refl i, (in-between axis a b e.from e.to x (between-off cut s e x q.0 q.1 ho hr axis) i j, null-kept x q.0))
  part-holds e z x Minus Plus ho hr h i j p q = ((in-between axis a b e.from e.to z (between-onto cut s e z p.0 p.1 ho hr axis) i j, null-kept z p.0), same-holds e.to x Plus q hr refl j)
  part-holds e z x Plus Plus ho hr h i j p q = (same-holds e.from z Plus p ho refl i, same-holds e.to x Plus q hr refl j)
  part-holds e z x Plus Null ho hr h i j p q = (same-holds e.from z Plus p ho refl i, same-holds e.to x Null q hr refl j)
  part-holds e z x Null Plus ho hr h i j p q = (same-holds e.from z Null p ho refl i, same-holds e.to x Plus q hr refl j)
  part-holds e z x Null Null ho hr h i j p q = absurd (cc h)
  part-holds e z x Null Minus ho hr h i j p q = absurd (cc h)
  part-holds e z x Minus Null ho hr h i j p q = absurd (cc h)
  part-holds e z x Minus Minus ho hr h i j p q = absurd (cc h)

  abbrev pub Both : Edge → Type 0
  Both t = Holds t.from × Holds t.to

  parts-step : (e : Edge) (es : List Edge) (c : Bool) → has_portion cut s e ≡ c → IsIn axis a b e.from × IsIn axis a b e.to → (ts : List Edge) → ((us : List Edge) → ArePortions cut s es us → (t : Edge) → In t us → Both t) → NextPortion cut s e c (ArePortions cut s es) ts → (t : Edge) → In t ts → Both t
  parts-step e es false h i ts f n t j = f ts n t j
  parts-step e es true h i [] f n t j = absurd j
  parts-step e es true h i (u ∷ us) f n t (inl k) =
      subst Both (sym k) (part-holds e u.from u.to (side_of cut s e.from) (side_of cut s e.to) refl refl h i.0 i.1 n.0.from n.0.to)
  parts-step e es true h i (u ∷ us) f n t (inr j) = f us n.1 t j

  parts-hold : (es ts : List Edge) → AllIn axis a b es → ArePortions cut s es ts → (t : Edge) → In t ts → Both t
  parts-hold [] ts h p t i = absurd (subst (In t) p i)
  parts-hold (e ∷ es) ts h p t i = parts-step e es (has_portion cut s e) refl (h e (inl refl)) ts (λ us q. parts-hold es us (λ d j. h d (inr j)) q) p t i

  links-step : (zs : List Point) (z w : Point) (c : Bool) (P : List Edge → Type 0) (ls : List Edge) → Holds z → Holds w → ((us : List Edge) → P us → (t : Edge) → In t us → Both t) → NextLink cut z w c P ls → (t : Edge) → In t ls → Both t
  links-step zs z w true P ls hz hw f n t i = f ls n t i
  links-step zs z w false P [] hz hw f n t i = absurd i
  links-step zs z w false P (e ∷ ls) hz hw f n t (inl k) = subst Both (sym k) (subst Holds (sym n.0.from) hz, subst Holds (sym n.0.to) hw)
  links-step zs z w false P (e ∷ ls) hz hw f n t (inr i) = f ls n.1 t i

  links-from-hold : (ts : List Edge) (z : Point) (zs : List Point) (ls : List Edge) → ((v : Point) → In v (z ∷ zs) → Holds v) → AreLinksFrom cut s ts z zs ls → (t : Edge) → In t ls → Both t
  links-from-hold ts z [] ls h n t i = absurd (subst (In t) n i)
  links-from-hold ts z (w ∷ zs) ls h n t i =
      links-step zs z w (is_even (ends_up_to cut ts (lower_of cut s z w))) (AreLinksFrom cut s ts w zs) ls (h z (inl refl)) (h w (inr (inl refl))) (λ us u. links-from-hold ts w zs us (λ v j. h v (inr j)) u) n t i

  links-hold : (ts : List Edge) (zs : List Point) (ls : List Edge) → ((v : Point) → In v zs → Holds v) → AreLinks cut s ts zs ls → (t : Edge) → In t ls → Both t
  links-hold ts [] ls h n t i = absurd (subst (In t) n i)
  links-hold ts (z ∷ zs) ls h n t i = links-from-hold ts z zs ls h n t i

  end-holds : (t : Edge) (v : Point) → Both t → (v ≡ t.from) ⊎ (v ≡ t.to) → Holds v
  end-holds t v h (inl e) = subst Holds (sym e) h.0
  end-holds t v h (inr e) = subst Holds (sym e) h.1

  either-holds : (ts ls : List Edge) (t : Edge) → ((t : Edge) → In t ts → Both t) → ((t : Edge) → In t ls → Both t) → (In t ts) ⊎ (In t ls) → Both t
  either-holds ts ls t f g (inl i) = f t i
  either-holds ts ls t f g (inr i) = g t i

  pub half-holds : (es hs : List Edge) → AllIn axis a b es → IsHalf cut s es hs → (t : Edge) → In t hs → Both t
  half-holds es hs h i t j =
      let p = parts-hold es i.parts h i.are_parts in
      let l = links-hold i.parts i.meetings i.links (λ v k. let r = i.are_meetings.ends v k in end-holds r.0 v (p r.0 r.1) r.2) i.are_links in
      either-holds i.parts i.links t p l (in-either i.parts i.links t (subst (In t) i.whole j))
