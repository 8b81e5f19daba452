-- The halves of a list that is split are smaller.
use Rattle.std.proofs.Common.{List, [], ap, arith, inl, negsuc, not, pos, refl, true, ℕ, ℤ, ◌*ℤ◌, ◌+ℤ◌, ◌-ℤ◌, ◌*◌, ◌∙◌, ◌∷◌, ◌≡◌, ◌≤◌, ◌≤ℤ◌, ◌<ℤ◌, unsigned_abs}
use Rattle.std.specs.Int.{int_div_euclid}
use Rattle.std.proofs.lemmas.Int.{ints}
use Rattle.plane.specs.Sign.{Minus, Null, Plus, Sign, is_minus, is_plus, negated, sign}
use Rattle.osm_geom.specs.declared.cut.Axis.{Axis}
use Rattle.osm_geom.specs.declared.cut.Axis.TheVariants.{X, Y}
use Rattle.osm_geom.specs.declared.cut.Cut.{Cut}
use Rattle.osm_geom.specs.declared.cut.Side.{Side}
use Rattle.osm_geom.specs.declared.cut.Side.TheVariants.{Low, High}
use Rattle.osm_geom.specs.declared.edge.Edge.{Edge}
use Rattle.osm_geom.specs.declared.point.Point.{Point}
use Rattle.osm_geom.specs.Coordinate.{AtLeast, AtMost}
use Rattle.osm_geom.specs.Cut.{coordinate_of}
use Rattle.osm_geom.specs.Point.{IsInWorld, x_of, y_of}
use Rattle.osm_lattice.proofs.LatticeKit.{signed}
use Rattle.coast_split.specs.Half.{IsHalf}
use Rattle.coast_split.specs.SplitTree.{high_cut, high_of, is_split, longer_of, low_cut, low_of, middle_of, size_of, width_of}
use Rattle.std.proofs.lemmas.Bool.{and_parts}
use Rattle.plane.proofs.SignKit.{lift, same, ◌⊟◌, ◌⊠◌, plus-times, says-at, sign-pos}
use Rattle.osm_geom.proofs.GeometryKit.{order_at}
use Rattle.coast_split.proofs.Envelopes.{IsIn, den-of, envelope-in, in-envelope}
use Rattle.coast_split.proofs.Shrinks.{half-holds, least-back, most-back}
use Rattle.lists.proofs.ListsKit.{least_trans}

difference : (a b k : ℤ) → b *ℤ k -ℤ a *ℤ k ≡ k *ℤ (b -ℤ a)
difference a b k = let a' = lift a in let b' = lift b in let k' = lift k in same (b' ⊠ k' ⊟ a' ⊠ k') (k' ⊠ (b' ⊟ a')) (omega arith)

cancel-by : (a b : ℤ) (k : ℕ) → 1 ≤ k → (a *ℤ pos k) ≤ℤ (b *ℤ pos k) → (s : Sign) → sign (b -ℤ a) ≡ s → a ≤ℤ b
cancel-by a b k h g Minus e =
    let m : sign (b *ℤ pos k -ℤ a *ℤ pos k) ≡ Minus = ap sign (difference a b (pos k)) ∙ plus-times (pos k) (b -ℤ a) (sign-pos k h) ∙ e in
    let n = says-at Minus (b *ℤ pos k -ℤ a *ℤ pos k) m in absurd (omega (arith, ints))
cancel-by a b k h g Null e = let n = says-at Null (b -ℤ a) e in omega (arith, ints)
cancel-by a b k h g Plus e = let n = says-at Plus (b -ℤ a) e in omega (arith, ints)

pub cancel : (a b : ℤ) (k : ℕ) → 1 ≤ k → (a *ℤ pos k) ≤ℤ (b *ℤ pos k) → a ≤ℤ b
cancel a b k h g = cancel-by a b k h g (sign (b -ℤ a)) refl

pub width-some : (axis : Axis) (es : List Edge) → low_of axis es ≤ℤ high_of axis es
width-some axis [] = omega (arith, ints)
width-some axis (e ∷ es) =
    let i = (in-envelope axis (e ∷ es) e (inl refl)).0 in let f = coordinate_of axis e.from in
    cancel (low_of axis (e ∷ es)) (high_of axis (e ∷ es)) f.den (den-of axis e.from) (least_trans (low_of axis (e ∷ es) *ℤ pos f.den) f.num (high_of axis (e ∷ es) *ℤ pos f.den) i.least i.most)

-- ---- a half is no wider on any axis, and narrower on that of the cut
pub no-wider : (cut : Cut) (s : Side) (es hs : List Edge) → IsHalf cut s es hs → (axis : Axis) → width_of axis hs ≤ℤ width_of axis es
no-wider cut s es [] h axis = let w = width-some axis es in omega (arith, ints)
no-wider cut s es (e ∷ hs) h axis =
    let b = half-holds cut s axis (low_of axis es) (high_of axis es) es (e ∷ hs) (in-envelope axis es) h in
    let g = envelope-in axis (low_of axis es) (high_of axis es) e hs (λ d i. ((b d i).0.0, (b d i).1.0)) in omega (arith, ints)

pub low-most : (axis : Axis) (at : ℤ) (p : Point) → not (is_minus (order_at axis at p)) ≡ true → AtMost (coordinate_of axis p) at
low-most axis at p h = most-back _ _ (order_at axis at p) refl h

kept-plus : (o : Sign) → not (is_minus (negated o)) ≡ true → not (is_plus o) ≡ true
kept-plus Plus h = absurd (cc h)
kept-plus Null h = refl
kept-plus Minus h = refl

pub high-least : (axis : Axis) (at : ℤ) (p : Point) → not (is_minus (negated (order_at axis at p))) ≡ true → AtLeast at (coordinate_of axis p)
high-least axis at p h = least-back _ _ (order_at axis at p) refl (kept-plus (order_at axis at p) h)

pub low-narrow : (axis : Axis) (at : ℤ) (es : List Edge) (e : Edge) (hs : List Edge) → IsHalf (record { axis = axis; at = at }) Low es (e ∷ hs) → (low_of axis es ≤ℤ low_of axis (e ∷ hs)) × (high_of axis (e ∷ hs) ≤ℤ at)
low-narrow axis at es e hs h =
    let b = half-holds (record { axis = axis; at = at }) Low axis (low_of axis es) (high_of axis es) es (e ∷ hs) (in-envelope axis es) h in
    envelope-in axis (low_of axis es) at e hs (λ d i. let g = b d i in
    (record { least = g.0.0.least; most = low-most axis at d.from g.0.1 }, record { least = g.1.0.least; most = low-most axis at d.to g.1.1 }))

pub high-narrow : (axis : Axis) (at : ℤ) (es : List Edge) (e : Edge) (hs : List Edge) → IsHalf (record { axis = axis; at = at }) High es (e ∷ hs) → (at ≤ℤ low_of axis (e ∷ hs)) × (high_of axis (e ∷ hs) ≤ℤ high_of axis es)
high-narrow axis at es e hs h =
    let b = half-holds (record { axis = axis; at = at }) High axis (low_of axis es) (high_of axis es) es (e ∷ hs) (in-envelope axis es) h in
    envelope-in axis at (high_of axis es) e hs (λ d i. let g = b d i in
    (record { least = high-least axis at d.from g.0.1; most = g.0.0.most }, record { least = high-least axis at d.to g.1.1; most = g.1.0.most }))

-- ---- the numbers
pub middle-below : (z : ℤ) → (int_div_euclid z (pos 2) *ℤ pos 2) ≤ℤ z
middle-below (pos a) = omega (arith, ints)
middle-below (negsuc a) = omega (arith, ints)

pub middle-above : (z : ℤ) → z <ℤ (int_div_euclid z (pos 2) *ℤ pos 2 +ℤ pos 2)
middle-above (pos a) = omega (arith, ints)
middle-above (negsuc a) = omega (arith, ints)

wide-of : (w : ℤ) (k : ℕ) → not (is_minus (sign (w -ℤ pos k))) ≡ true → pos k ≤ℤ w
wide-of w k h = most-back w (pos k) (sign (w -ℤ pos k)) refl h

pub wide : (m o : ℕ) (es : List Edge) → is_split m o es ≡ true → (pos (8 * o) ≤ℤ width_of (longer_of es) es) × (pos 4 ≤ℤ width_of (longer_of es) es)
wide m o es h =
    let w = width_of (longer_of es) es in
    let a = and_parts _ _ h in let b = and_parts _ _ a.1 in
    (wide-of w (8 * o) b.0, wide-of w 4 b.1)

low-number : (lo hi c l h : ℤ) (o : ℕ) → (c *ℤ pos 2) ≤ℤ (lo +ℤ hi) → pos (8 * o) ≤ℤ (hi -ℤ lo) → pos 4 ≤ℤ (hi -ℤ lo) → lo ≤ℤ l → h ≤ℤ (c +ℤ pos o) → (h -ℤ l) <ℤ (hi -ℤ lo)
low-number lo hi c l h o f a b g k = omega (arith, ints)

high-number : (lo hi c l h : ℤ) (o : ℕ) → (lo +ℤ hi) <ℤ (c *ℤ pos 2 +ℤ pos 2) → pos (8 * o) ≤ℤ (hi -ℤ lo) → pos 4 ≤ℤ (hi -ℤ lo) → (c -ℤ pos o) ≤ℤ l → h ≤ℤ hi → (h -ℤ l) <ℤ (hi -ℤ lo)
high-number lo hi c l h o f a b g k = omega (arith, ints)

module _ (m o : ℕ) (es : List Edge) (split : is_split m o es ≡ true) where
  abbrev A : Axis
  A = longer_of es

  abbrev lo : ℤ
  lo = low_of A es

  abbrev hi : ℤ
  hi = high_of A es

  low-less : (hs : List Edge) → IsHalf (low_cut (middle_of es) o) Low es hs → width_of A hs <ℤ width_of A es
  low-less [] h = let w = wide m o es split in let b = w.1 in omega (arith, ints)
  low-less (e ∷ hs) h =
      let w = wide m o es split in let n = low-narrow A ((middle_of es).at +ℤ pos o) es e hs h in
      low-number lo hi (middle_of es).at (low_of A (e ∷ hs)) (high_of A (e ∷ hs)) o (middle-below (lo +ℤ hi)) w.0 w.1 n.0 n.1

  high-less : (hs : List Edge) → IsHalf (high_cut (middle_of es) o) High es hs → width_of A hs <ℤ width_of A es
  high-less [] h = let w = wide m o es split in let b = w.1 in omega (arith, ints)
  high-less (e ∷ hs) h =
      let w = wide m o es split in let n = high-narrow A ((middle_of es).at -ℤ pos o) es e hs h in
      high-number lo hi (middle_of es).at (low_of A (e ∷ hs)) (high_of A (e ∷ hs)) o (middle-above (lo +ℤ hi)) w.0 w.1 n.0 n.1

  sum-by : (hs : List Edge) (axis : Axis) → width_of axis hs <ℤ width_of axis es → ((b : Axis) → width_of b hs ≤ℤ width_of b es) → size_of hs <ℤ size_of es
  sum-by hs X h g = let y = g Y in omega (arith, ints)
  sum-by hs Y h g = let x = g X in omega (arith, ints)

  pub low-shrinks : (hs : List Edge) → IsHalf (low_cut (middle_of es) o) Low es hs → size_of hs <ℤ size_of es
  low-shrinks hs h = sum-by hs A (low-less hs h) (no-wider (low_cut (middle_of es) o) Low es hs h)

  pub high-shrinks : (hs : List Edge) → IsHalf (high_cut (middle_of es) o) High es hs → size_of hs <ℤ size_of es
  high-shrinks hs h = sum-by hs A (high-less hs h) (no-wider (high_cut (middle_of es) o) High es hs h)

-- ---- the envelope is in the world
turned-by : (d : ℕ) → (pos 0 -ℤ pos 1_800_000_000) *ℤ pos d ≡ pos 0 -ℤ pos (1_800_000_000 * d)
turned-by d = let k = lift (pos d) in let m = lift (pos 1_800_000_000) in same ((lift (pos 0) ⊟ m) ⊠ k) (lift (pos 0) ⊟ m ⊠ k) (omega arith)

world-by : (n : ℤ) (d : ℕ) → unsigned_abs n ≤ 1_800_000_000 * d → (((pos 0 -ℤ pos 1_800_000_000) *ℤ pos d) ≤ℤ n) × (n ≤ℤ (pos 1_800_000_000 *ℤ pos d))
world-by n d h = let t = turned-by d in (omega (arith, signed), omega (arith, signed))

world-in : (axis : Axis) (p : Point) → IsInWorld p → IsIn axis (pos 0 -ℤ pos 1_800_000_000) (pos 1_800_000_000) p
world-in X p h = let w = world-by (x_of p).num (x_of p).den h.0 in record { least = w.0; most = w.1 }
world-in Y p h = let w = world-by (y_of p).num (y_of p).den (omega (arith, h.1)) in record { least = w.0; most = w.1 }

small : (l h : ℤ) → (pos 0 -ℤ pos 1_800_000_000) ≤ℤ l → l ≤ℤ h → h ≤ℤ pos 1_800_000_000 → (unsigned_abs l ≤ 1_800_000_000) × (unsigned_abs h ≤ 1_800_000_000)
small l h a b c = (omega (arith, signed), omega (arith, signed))

pub envelope_small : (axis : Axis) (es : List Edge) → (unsigned_abs (low_of axis es) ≤ 1_800_000_000) × (unsigned_abs (high_of axis es) ≤ 1_800_000_000)
envelope_small axis [] = (omega arith, omega arith)
envelope_small axis (e ∷ es) =
    let g = envelope-in axis (pos 0 -ℤ pos 1_800_000_000) (pos 1_800_000_000) e es (λ d i. (world-in axis d.from d.from_in, world-in axis d.to d.to_in)) in
    small (low_of axis (e ∷ es)) (high_of axis (e ∷ es)) g.0 (width-some axis (e ∷ es)) g.1
