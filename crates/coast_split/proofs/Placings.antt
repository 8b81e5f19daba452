-- How edges lie to a cut line, by their envelope; and what is left of them.
use Rattle.std.proofs.Common.{All, Bool, List, [], ap, arith, cond, false, not, pos, refl, subst, true, ℤ, ◌*ℤ◌, ◌-ℤ◌, ◌∙◌, ◌∷◌, ◌≡◌, ◌≤ℤ◌, ◌<ℤ◌, ◌||◌, ◌++◌, sym}
use Rattle.std.proofs.lemmas.Bool.{or_from}
use Rattle.std.proofs.lemmas.Int.{ints}
use Rattle.std.proofs.lemmas.List.Elements.{All-head, All-tail}
use Rattle.lists.specs.Member.{In}
use Rattle.plane.specs.Sign.{Minus, Null, Plus, Sign, is_minus, is_null, is_plus, negated, sign}
use Rattle.osm_geom.specs.declared.cut.Axis.{Axis}
use Rattle.osm_geom.specs.declared.cut.Axis.TheVariants.{X, Y}
use Rattle.osm_geom.specs.declared.cut.Cut.{Cut}
use Rattle.osm_geom.specs.declared.cut.Side.{Side}
use Rattle.osm_geom.specs.declared.cut.Side.TheVariants.{Low, High}
use Rattle.osm_geom.specs.declared.edge.Edge.{Edge}
use Rattle.osm_geom.specs.declared.point.Point.{Point}
use Rattle.osm_geom.specs.Coordinate.{AtLeast, AtMost}
use Rattle.osm_geom.specs.Point.{Fraction}
use Rattle.osm_geom.specs.Cut.{coordinate_of, cut_order, side_by, side_of}
use Rattle.coast_split.specs.Batches.{AreAt, KeepsBothEnds, placing_by}
use Rattle.coast_split.specs.declared.envelope.Envelope.{Envelope}
use Rattle.coast_split.specs.Envelope.{envelope_of, high_in, low_in}
use Rattle.coast_split.specs.Half.{ArePortions, IsPortionEnd, has_portion}
use Rattle.coast_split.specs.SplitTree.{high_of, low_of}
use Rattle.coast_split.specs.Walk.{end_on, ends_on}
use Rattle.lists.proofs.ListsKit.{all-in, least_trans}
use Rattle.osm_geom.proofs.GeometryKit.{at_least_less, at_most_more}
use Rattle.plane.proofs.SignKit.{says-at}
use Rattle.coast_split.proofs.Envelopes.{IsIn, den-of, in-envelope}
use Rattle.coast_split.proofs.HalvesExist.{minus-of}
use Rattle.coast_split.proofs.Lists.{next-known}
use Rattle.coast_split.proofs.Shrinks.{most-back}
use Rattle.coast_split.proofs.Sizes.{cancel, high-least, low-most}

-- ---- a point, by two numbers that it is between
module _ (cut : Cut) (p : Point) where
  abbrev f : Fraction
  f = coordinate_of cut.axis p

  before-by : (b : ℤ) → AtMost f b → b <ℤ cut.at → (s : Sign) → cut_order cut p ≡ s → cut_order cut p ≡ Plus
  before-by b most h Plus e = e
  before-by b most h s e =
      let least = high-least cut.axis cut.at p (ap (λ z. not (is_minus (negated z))) e ∙ refl) in
      let k = cancel cut.at b f.den (den-of cut.axis p) (least_trans (cut.at *ℤ pos f.den) f.num (b *ℤ pos f.den) least most) in absurd (omega (arith, ints))

  before-line : (b : ℤ) → AtMost f b → b <ℤ cut.at → cut_order cut p ≡ Plus
  before-line b most h = before-by b most h (cut_order cut p) refl

  behind-by : (a : ℤ) → AtLeast a f → cut.at <ℤ a → (s : Sign) → cut_order cut p ≡ s → cut_order cut p ≡ Minus
  behind-by a least h Minus e = e
  behind-by a least h s e =
      let most = low-most cut.axis cut.at p (ap (λ z. not (is_minus z)) e ∙ refl) in
      let k = cancel a cut.at f.den (den-of cut.axis p) (least_trans (a *ℤ pos f.den) f.num (cut.at *ℤ pos f.den) least most) in absurd (omega (arith, ints))

  behind-line : (a : ℤ) → AtLeast a f → cut.at <ℤ a → cut_order cut p ≡ Minus
  behind-line a least h = behind-by a least h (cut_order cut p) refl

  not-before : (a : ℤ) → AtLeast a (coordinate_of cut.axis p) → cut.at ≤ℤ a → cut_order cut p ≡ Plus → ⊥
  not-before a least h k =
      let m = at_least_less cut.at a (coordinate_of cut.axis p) h least in
      let n = says-at Plus (cut.at *ℤ pos (coordinate_of cut.axis p).den -ℤ (coordinate_of cut.axis p).num) k in omega (arith, ints)

  not-behind : (b : ℤ) → AtMost (coordinate_of cut.axis p) b → b ≤ℤ cut.at → cut_order cut p ≡ Minus → ⊥
  not-behind b most h k =
      let m = at_most_more b cut.at (coordinate_of cut.axis p) h most in
      let n = says-at Minus (cut.at *ℤ pos (coordinate_of cut.axis p).den -ℤ (coordinate_of cut.axis p).num) k in omega (arith, ints)

-- ---- a side that isn't Plus
not-plus-by : (s : Sign) → (s ≡ Plus → ⊥) → is_plus s ≡ false
not-plus-by Plus h = absurd (h refl)
not-plus-by Null h = refl
not-plus-by Minus h = refl

less-at : (a b : ℤ) (s : Sign) → sign (a -ℤ b) ≡ s → is_minus s ≡ true → a <ℤ b
less-at a b Minus h k = let m = says-at Minus (a -ℤ b) h in omega (arith, ints)
less-at a b Null h k = absurd (cc k)
less-at a b Plus h k = absurd (cc k)

-- ---- a list, by its envelope
module _ (cut : Cut) (es : List Edge) where
  abbrev inside : (e : Edge) → In e es → IsIn cut.axis (low_of cut.axis es) (high_of cut.axis es) e.from × IsIn cut.axis (low_of cut.axis es) (high_of cut.axis es) e.to
  inside e i = in-envelope cut.axis es e i

  low-kept : high_of cut.axis es <ℤ cut.at → All (KeepsBothEnds cut Low) es
  low-kept h = all-in (KeepsBothEnds cut Low) es (λ e i. let b = inside e i in (before-line cut e.from (high_of cut.axis es) b.0.most h, before-line cut e.to (high_of cut.axis es) b.1.most h))

  high-kept : cut.at <ℤ low_of cut.axis es → All (KeepsBothEnds cut High) es
  high-kept h = all-in (KeepsBothEnds cut High) es (λ e i. let b = inside e i in
      (ap negated (behind-line cut e.from (low_of cut.axis es) b.0.least h), ap negated (behind-line cut e.to (low_of cut.axis es) b.1.least h)))

  low-beyond : cut.at ≤ℤ low_of cut.axis es → All (λ (e : Edge). has_portion cut Low e ≡ false) es
  low-beyond h = all-in (λ (e : Edge). has_portion cut Low e ≡ false) es (λ e i. let b = inside e i in
      or_from _ _ (not-plus-by _ (not-before cut e.from (low_of cut.axis es) b.0.least h)) (not-plus-by _ (not-before cut e.to (low_of cut.axis es) b.1.least h)))

  high-beyond : high_of cut.axis es ≤ℤ cut.at → All (λ (e : Edge). has_portion cut High e ≡ false) es
  high-beyond h = all-in (λ (e : Edge). has_portion cut High e ≡ false) es (λ e i. let b = inside e i in
      or_from _ _ (not-plus-by _ (λ k. not-behind cut e.from (high_of cut.axis es) b.0.most h (minus-of _ k)))
      (not-plus-by _ (λ k. not-behind cut e.to (high_of cut.axis es) b.1.most h (minus-of _ k))))

  -- ---- by the tests
  less-by : (a b : ℤ) → is_minus (sign (a -ℤ b)) ≡ true → a <ℤ b
  less-by a b h = less-at a b (sign (a -ℤ b)) refl h

  not-less-by : (a b : ℤ) → is_minus (sign (a -ℤ b)) ≡ false → b ≤ℤ a
  not-less-by a b h = most-back a b (sign (a -ℤ b)) refl (ap not h)

  placed-low : (k b : Bool) → is_minus (sign (high_of cut.axis es -ℤ cut.at)) ≡ k → is_minus (sign (low_of cut.axis es -ℤ cut.at)) ≡ b → AreAt cut Low (placing_by k (not b)) es
  placed-low true b h g = low-kept (less-by (high_of cut.axis es) cut.at h)
  placed-low false true h g = tt
  placed-low false false h g = low-beyond (not-less-by (low_of cut.axis es) cut.at g)

  placed-high : (k b : Bool) → is_minus (sign (cut.at -ℤ low_of cut.axis es)) ≡ k → is_minus (sign (cut.at -ℤ high_of cut.axis es)) ≡ b → AreAt cut High (placing_by k (not b)) es
  placed-high true b h g = high-kept (less-by cut.at (low_of cut.axis es) h)
  placed-high false true h g = tt
  placed-high false false h g = high-beyond (not-less-by cut.at (high_of cut.axis es) g)

  -- ---- by the numbers of an envelope
  low-is : (axis : Axis) (v : Envelope) → v ≡ envelope_of es → low_in axis v ≡ low_of axis es
  low-is X v e = ap (low_in X) e
  low-is Y v e = ap (low_in Y) e

  high-is : (axis : Axis) (v : Envelope) → v ≡ envelope_of es → high_in axis v ≡ high_of axis es
  high-is X v e = ap (high_in X) e
  high-is Y v e = ap (high_in Y) e

  module _ (v : Envelope) (low high at : ℤ) (k b : Bool) (e : v ≡ envelope_of es) (l : low ≡ low_in cut.axis v) (h : high ≡ high_in cut.axis v) (a : at ≡ cut.at) where
    l' : low ≡ low_of cut.axis es
    l' = l ∙ low-is cut.axis v e

    h' : high ≡ high_of cut.axis es
    h' = h ∙ high-is cut.axis v e

    pub placed-low-by : k ≡ is_minus (sign (high -ℤ at)) → b ≡ is_minus (sign (low -ℤ at)) → AreAt cut Low (placing_by k (not b)) es
    placed-low-by p q = placed-low k b (sym (p ∙ ap (λ z. is_minus (sign (z -ℤ at))) h' ∙ ap (λ z. is_minus (sign (high_of cut.axis es -ℤ z))) a)) (sym (q ∙ ap (λ z. is_minus (sign (z -ℤ at))) l' ∙ ap (λ z. is_minus (sign (low_of cut.axis es -ℤ z))) a))

    pub placed-high-by : k ≡ is_minus (sign (at -ℤ low)) → b ≡ is_minus (sign (at -ℤ high)) → AreAt cut High (placing_by k (not b)) es
    placed-high-by p q = placed-high k b (sym (p ∙ ap (λ z. is_minus (sign (at -ℤ z))) l' ∙ ap (λ z. is_minus (sign (z -ℤ low_of cut.axis es))) a)) (sym (q ∙ ap (λ z. is_minus (sign (at -ℤ z))) h' ∙ ap (λ z. is_minus (sign (z -ℤ high_of cut.axis es))) a))

-- ---- what is left of the edges
module _ (cut : Cut) (s : Side) where
  side-null : (b : Side) (z : Sign) → side_by b z ≡ Plus → is_null z ≡ false
  side-null Low Plus h = refl
  side-null Low Null h = absurd (cc h)
  side-null Low Minus h = refl
  side-null High Plus h = refl
  side-null High Null h = absurd (cc h)
  side-null High Minus h = refl

  no-end : (p : Point) → side_of cut s p ≡ Plus → end_on cut p ≡ []
  no-end p h = ap (λ b. cond b (p ∷ []) []) (side-null s (cut_order cut p) h)

  kept-end : (e : Edge) (p : Point) → side_of cut s p ≡ Plus → IsPortionEnd cut e.carrier p p (side_of cut s p)
  kept-end e p h = subst (λ k. IsPortionEnd cut e.carrier p p k) (sym h) refl

  pub kept-portions : (es : List Edge) → All (KeepsBothEnds cut s) es → ArePortions cut s es es
  kept-portions [] h = refl
  kept-portions (e ∷ es) h =
      let k = All-head (KeepsBothEnds cut s) e es h in
      next-known cut s e true (ArePortions cut s es) (e ∷ es) (ap (λ x. is_plus x || is_plus (side_of cut s e.to)) k.0)
      (record { carrier = refl; from = kept-end e e.from k.0; to = kept-end e e.to k.1 }, kept-portions es (All-tail (KeepsBothEnds cut s) e es h))

  pub kept-ends : (es : List Edge) → All (KeepsBothEnds cut s) es → ends_on cut es ≡ []
  kept-ends [] h = refl
  kept-ends (e ∷ es) h =
      let k = All-head (KeepsBothEnds cut s) e es h in
      ap (λ l. l ++ (end_on cut e.to ++ ends_on cut es)) (no-end e.from k.0) ∙ ap (λ l. l ++ ends_on cut es) (no-end e.to k.1) ∙ kept-ends es (All-tail (KeepsBothEnds cut s) e es h)

  pub beyond-portions : (es : List Edge) → All (λ (e : Edge). has_portion cut s e ≡ false) es → ArePortions cut s es []
  beyond-portions [] h = refl
  beyond-portions (e ∷ es) h =
      next-known cut s e false (ArePortions cut s es) [] (All-head (λ (d : Edge). has_portion cut s d ≡ false) e es h) (beyond-portions es (All-tail (λ (d : Edge). has_portion cut s d ≡ false) e es h))
