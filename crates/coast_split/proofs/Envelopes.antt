-- The envelope of a list: its points lie in it, and where all points lie between two numbers so does the envelope.
use Rattle.std.proofs.Common.{Bool, List, [], arith, cond, false, inl, inr, refl, subst, sym, true, ℤ, ◌-ℤ◌, ◌∷◌, ◌≡◌, ◌≤◌, ◌≤ℤ◌}
use Rattle.std.proofs.lemmas.Int.{ints}
use Rattle.plane.specs.Sign.{Minus, Null, Plus, Sign, is_minus, sign}
use Rattle.lists.specs.Member.{In}
use Rattle.osm_geom.specs.declared.cut.Axis.{Axis}
use Rattle.osm_geom.specs.declared.cut.Axis.TheVariants.{X, Y}
use Rattle.osm_geom.specs.declared.edge.Edge.{Edge}
use Rattle.osm_geom.specs.declared.point.Point.{Point}
use Rattle.osm_geom.specs.Cut.{coordinate_of}
use Rattle.osm_geom.specs.Coordinate.{AtLeast, AtMost, ceiling_of, floor_of}
use Rattle.coast_split.specs.SplitTree.{greater, high_from, high_of, lesser, low_from, low_of}
use Rattle.plane.proofs.SignKit.{says-at}
use Rattle.osm_geom.proofs.GeometryKit.{at_least_less, at_most_more, ceiling-from, ceiling-is, floor-from, floor-is, x_den-some, y_den-some}
use Rattle.lists.proofs.ListsKit.{least_trans}

-- ---- the lesser and the greater of two
lesser-by : (a b : ℤ) (s : Sign) → sign (a -ℤ b) ≡ s → ((cond (is_minus s) a b) ≤ℤ a) × ((cond (is_minus s) a b) ≤ℤ b)
lesser-by a b Minus h = let k = says-at Minus (a -ℤ b) h in (omega (arith, ints), omega (arith, ints))
lesser-by a b Null h = let k = says-at Null (a -ℤ b) h in (omega (arith, ints), omega (arith, ints))
lesser-by a b Plus h = let k = says-at Plus (a -ℤ b) h in (omega (arith, ints), omega (arith, ints))

pub lesser-is : (a b : ℤ) → (lesser a b ≤ℤ a) × (lesser a b ≤ℤ b)
lesser-is a b = lesser-by a b (sign (a -ℤ b)) refl

greater-by : (a b : ℤ) (s : Sign) → sign (a -ℤ b) ≡ s → (a ≤ℤ (cond (is_minus s) b a)) × (b ≤ℤ (cond (is_minus s) b a))
greater-by a b Minus h = let k = says-at Minus (a -ℤ b) h in (omega (arith, ints), omega (arith, ints))
greater-by a b Null h = let k = says-at Null (a -ℤ b) h in (omega (arith, ints), omega (arith, ints))
greater-by a b Plus h = let k = says-at Plus (a -ℤ b) h in (omega (arith, ints), omega (arith, ints))

pub greater-is : (a b : ℤ) → (a ≤ℤ greater a b) × (b ≤ℤ greater a b)
greater-is a b = greater-by a b (sign (a -ℤ b)) refl

lesser-from-by : (c a b : ℤ) (s : Bool) → c ≤ℤ a → c ≤ℤ b → c ≤ℤ cond s a b
lesser-from-by c a b true h k = h
lesser-from-by c a b false h k = k

pub lesser-from : (c a b : ℤ) → c ≤ℤ a → c ≤ℤ b → c ≤ℤ lesser a b
lesser-from c a b h k = lesser-from-by c a b (is_minus (sign (a -ℤ b))) h k

greater-from-by : (c a b : ℤ) (s : Bool) → a ≤ℤ c → b ≤ℤ c → cond s b a ≤ℤ c
greater-from-by c a b true h k = k
greater-from-by c a b false h k = h

pub greater-from : (c a b : ℤ) → a ≤ℤ c → b ≤ℤ c → greater a b ≤ℤ c
greater-from c a b h k = greater-from-by c a b (is_minus (sign (a -ℤ b))) h k

-- ---- the ends of edges
pub den-of : (axis : Axis) (p : Point) → 1 ≤ (coordinate_of axis p).den
den-of X p = x_den-some p
den-of Y p = y_den-some p

-- a point is between two numbers on an axis
pub record IsIn (axis : Axis) (a b : ℤ) (p : Point) : Type 0 where
  pub least : AtLeast a (coordinate_of axis p)
  pub most : AtMost (coordinate_of axis p) b

abbrev pub AllIn : Axis → ℤ → ℤ → List Edge → Type 0
AllIn axis a b es = (e : Edge) → In e es → IsIn axis a b e.from × IsIn axis a b e.to

module _ (axis : Axis) where
  low-least : (a : ℤ) (es : List Edge) → low_from axis a es ≤ℤ a
  low-least a [] = omega (arith, ints)
  low-least a (e ∷ es) =
      let x = floor_of (coordinate_of axis e.from) in let y = floor_of (coordinate_of axis e.to) in
      least_trans (low_from axis (lesser (lesser a x) y) es) (lesser (lesser a x) y) a (low-least (lesser (lesser a x) y) es)
      (least_trans (lesser (lesser a x) y) (lesser a x) a (lesser-is (lesser a x) y).0 (lesser-is a x).0)

  low-each : (a : ℤ) (es : List Edge) (e : Edge) → In e es → (low_from axis a es ≤ℤ floor_of (coordinate_of axis e.from)) × (low_from axis a es ≤ℤ floor_of (coordinate_of axis e.to))
  low-each a [] e i = absurd i
  low-each a (d ∷ es) e (inl h) =
      let x = floor_of (coordinate_of axis d.from) in let y = floor_of (coordinate_of axis d.to) in
      let l = low_from axis (lesser (lesser a x) y) es in
      let m = low-least (lesser (lesser a x) y) es in
      subst (λ (c : Edge). (l ≤ℤ floor_of (coordinate_of axis c.from)) × (l ≤ℤ floor_of (coordinate_of axis c.to))) (sym h) (
        least_trans l (lesser (lesser a x) y) x m (least_trans (lesser (lesser a x) y) (lesser a x) x (lesser-is (lesser a x) y).0 (lesser-is a x).1),
        least_trans l (lesser (lesser a x) y) y m (lesser-is (lesser a x) y).1,
      )
  low-each a (d ∷ es) e (inr i) = low-each (lesser (lesser a (floor_of (coordinate_of axis d.from))) (floor_of (coordinate_of axis d.to))) es e i

  high-most : (a : ℤ) (es : List Edge) → a ≤ℤ high_from axis a es
  high-most a [] = omega (arith, ints)
  high-most a (e ∷ es) =
      let x = ceiling_of (coordinate_of axis e.from) in let y = ceiling_of (coordinate_of axis e.to) in
      least_trans a (greater (greater a x) y) (high_from axis (greater (greater a x) y) es)
      (least_trans a (greater a x) (greater (greater a x) y) (greater-is a x).0 (greater-is (greater a x) y).0)
      (high-most (greater (greater a x) y) es)

  high-each : (a : ℤ) (es : List Edge) (e : Edge) → In e es → (ceiling_of (coordinate_of axis e.from) ≤ℤ high_from axis a es) × (ceiling_of (coordinate_of axis e.to) ≤ℤ high_from axis a es)
  high-each a [] e i = absurd i
  high-each a (d ∷ es) e (inl h) =
      let x = ceiling_of (coordinate_of axis d.from) in let y = ceiling_of (coordinate_of axis d.to) in
      let l = high_from axis (greater (greater a x) y) es in
      let m = high-most (greater (greater a x) y) es in
      subst (λ (c : Edge). (ceiling_of (coordinate_of axis c.from) ≤ℤ l) × (ceiling_of (coordinate_of axis c.to) ≤ℤ l)) (sym h) (
        least_trans x (greater (greater a x) y) l (least_trans x (greater a x) (greater (greater a x) y) (greater-is a x).1 (greater-is (greater a x) y).0) m,
        least_trans y (greater (greater a x) y) l (greater-is (greater a x) y).1 m,
      )
  high-each a (d ∷ es) e (inr i) = high-each (greater (greater a (ceiling_of (coordinate_of axis d.from))) (ceiling_of (coordinate_of axis d.to))) es e i

  -- a list lies in its envelope
  in-envelope-by : (e0 : Edge) (es : List Edge) (p : Point) → low_of axis (e0 ∷ es) ≤ℤ floor_of (coordinate_of axis p) → ceiling_of (coordinate_of axis p) ≤ℤ high_of axis (e0 ∷ es) → IsIn axis (low_of axis (e0 ∷ es)) (high_of axis (e0 ∷ es)) p
  in-envelope-by e0 es p h k = record {
    least = at_least_less (low_of axis (e0 ∷ es)) (floor_of (coordinate_of axis p)) (coordinate_of axis p) h (floor-is (coordinate_of axis p) (den-of axis p));
    most = at_most_more (ceiling_of (coordinate_of axis p)) (high_of axis (e0 ∷ es)) (coordinate_of axis p) k (ceiling-is (coordinate_of axis p) (den-of axis p));
  }

  pub in-envelope : (es : List Edge) → AllIn axis (low_of axis es) (high_of axis es) es
  in-envelope [] e i = absurd i
  in-envelope (e0 ∷ es) e i =
      let l = low-each (floor_of (coordinate_of axis e0.from)) (e0 ∷ es) e i in let h = high-each (ceiling_of (coordinate_of axis e0.from)) (e0 ∷ es) e i in
      (in-envelope-by e0 es e.from l.0 h.0, in-envelope-by e0 es e.to l.1 h.1)

  -- where all points lie between two numbers, so does the envelope
  low-bound : (c a : ℤ) (es : List Edge) → c ≤ℤ a → ((e : Edge) → In e es → AtLeast c (coordinate_of axis e.from) × AtLeast c (coordinate_of axis e.to)) → c ≤ℤ low_from axis a es
  low-bound c a [] h k = h
  low-bound c a (e ∷ es) h k =
      let x = coordinate_of axis e.from in let y = coordinate_of axis e.to in let g = k e (inl refl) in
      low-bound c (lesser (lesser a (floor_of x)) (floor_of y)) es
      (lesser-from c (lesser a (floor_of x)) (floor_of y) (lesser-from c a (floor_of x) h (floor-from c x (den-of axis e.from) g.0)) (floor-from c y (den-of axis e.to) g.1))
      (λ d i. k d (inr i))

  high-bound : (c a : ℤ) (es : List Edge) → a ≤ℤ c → ((e : Edge) → In e es → AtMost (coordinate_of axis e.from) c × AtMost (coordinate_of axis e.to) c) → high_from axis a es ≤ℤ c
  high-bound c a [] h k = h
  high-bound c a (e ∷ es) h k =
      let x = coordinate_of axis e.from in let y = coordinate_of axis e.to in let g = k e (inl refl) in
      high-bound c (greater (greater a (ceiling_of x)) (ceiling_of y)) es
      (greater-from c (greater a (ceiling_of x)) (ceiling_of y) (greater-from c a (ceiling_of x) h (ceiling-from c x (den-of axis e.from) g.0)) (ceiling-from c y (den-of axis e.to) g.1))
      (λ d i. k d (inr i))

  pub envelope-in : (a b : ℤ) (e : Edge) (es : List Edge) → AllIn axis a b (e ∷ es) → (a ≤ℤ low_of axis (e ∷ es)) × (high_of axis (e ∷ es) ≤ℤ b)
  envelope-in a b e es h =
      let g = h e (inl refl) in (
        low-bound a (floor_of (coordinate_of axis e.from)) (e ∷ es) (floor-from a (coordinate_of axis e.from) (den-of axis e.from) g.0.least) (λ d i. ((h d i).0.least, (h d i).1.least)),
        high-bound b (ceiling_of (coordinate_of axis e.from)) (e ∷ es) (ceiling-from b (coordinate_of axis e.from) (den-of axis e.from) g.0.most) (λ d i. ((h d i).0.most, (h d i).1.most)),
      )
