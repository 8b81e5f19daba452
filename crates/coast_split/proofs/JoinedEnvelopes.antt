-- The envelope of two lists, one after the other, is the least that holds both of theirs.
use Rattle.std.proofs.Common.{List, [], ap, arith, length, refl, sym, ℤ, ◌++◌, ◌<◌, ◌∙◌, ◌∷◌, ◌≡◌}
use Rattle.std.proofs.lemmas.Int.{ints}
use Rattle.osm_geom.specs.declared.cut.Axis.{Axis}
use Rattle.osm_geom.specs.declared.cut.Axis.TheVariants.{X, Y}
use Rattle.osm_geom.specs.declared.edge.Edge.{Edge}
use Rattle.osm_geom.specs.declared.point.Point.{Point}
use Rattle.osm_geom.specs.Coordinate.{ceiling_of, floor_of}
use Rattle.osm_geom.specs.Cut.{coordinate_of}
use Rattle.coast_split.specs.declared.envelope.Envelope.{Envelope}
use Rattle.coast_split.specs.Envelope.{envelope_of, joined_envelope}
use Rattle.coast_split.specs.SplitTree.{greater, high_from, high_of, lesser, low_from, low_of}
use Rattle.lists.proofs.ListsKit.{least_trans, same_from_least}
use Rattle.coast_split.proofs.Envelopes.{greater-from, greater-is, lesser-from, lesser-is}

lesser-three : (a b c : ℤ) → lesser (lesser a b) c ≡ lesser a (lesser b c)
lesser-three a b c =
    let l = lesser-is (lesser a b) c in let m = lesser-is a b in let r = lesser-is a (lesser b c) in let n = lesser-is b c in
    same_from_least (lesser (lesser a b) c) (lesser a (lesser b c))
    (lesser-from (lesser (lesser a b) c) a (lesser b c) (least_trans _ _ _ l.0 m.0) (lesser-from (lesser (lesser a b) c) b c (least_trans _ _ _ l.0 m.1) l.1))
    (lesser-from (lesser a (lesser b c)) (lesser a b) c (lesser-from (lesser a (lesser b c)) a b r.0 (least_trans _ _ _ r.1 n.0)) (least_trans _ _ _ r.1 n.1))

lesser-same : (a : ℤ) → lesser a a ≡ a
lesser-same a = same_from_least (lesser a a) a (lesser-is a a).0 (lesser-from a a a (omega (arith, ints)) (omega (arith, ints)))

greater-three : (a b c : ℤ) → greater (greater a b) c ≡ greater a (greater b c)
greater-three a b c =
    let l = greater-is (greater a b) c in let m = greater-is a b in let r = greater-is a (greater b c) in let n = greater-is b c in
    same_from_least (greater (greater a b) c) (greater a (greater b c))
    (greater-from (greater a (greater b c)) (greater a b) c (greater-from (greater a (greater b c)) a b r.0 (least_trans _ _ _ n.0 r.1)) (least_trans _ _ _ n.1 r.1))
    (greater-from (greater (greater a b) c) a (greater b c) (least_trans _ _ _ m.0 l.0) (greater-from (greater (greater a b) c) b c (least_trans _ _ _ m.1 l.0) l.1))

greater-same : (a : ℤ) → greater a a ≡ a
greater-same a = same_from_least (greater a a) a (greater-from a a a (omega (arith, ints)) (omega (arith, ints))) (greater-is a a).0

-- ---- the ends of edges, one after the other
module _ (op : ℤ → ℤ → ℤ) (three : (a b c : ℤ) → op (op a b) c ≡ op a (op b c)) (same : (a : ℤ) → op a a ≡ a) (f : Point → ℤ) where
  abbrev gathered : ℤ → List Edge → ℤ
  gathered a [] = a
  gathered a (e ∷ es) = gathered (op (op a (f e.from)) (f e.to)) es

  first-out : (a b : ℤ) (es : List Edge) → gathered (op a b) es ≡ op a (gathered b es)
  first-out a b [] = refl
  first-out a b (e ∷ es) =
      ap (λ z. gathered z es) (ap (λ z. op z (f e.to)) (three a b (f e.from)) ∙ three a (op b (f e.from)) (f e.to)) ∙ first-out a (op (op b (f e.from)) (f e.to)) es

  behind : (a : ℤ) (xs ys : List Edge) → gathered a (xs ++ ys) ≡ gathered (gathered a xs) ys
  behind a [] ys = refl
  behind a (e ∷ xs) ys = behind (op (op a (f e.from)) (f e.to)) xs ys

  from-first : (a : ℤ) (e : Edge) (es : List Edge) → gathered a (e ∷ es) ≡ op a (gathered (f e.from) (e ∷ es))
  from-first a e es =
      ap (λ z. gathered z es) (three a (f e.from) (f e.to) ∙ ap (λ z. op a (op z (f e.to))) (sym (same (f e.from)))) ∙ first-out a (op (op (f e.from) (f e.from)) (f e.to)) es

  both-gathered : (d : Edge) (xs : List Edge) (e : Edge) (ys : List Edge) → gathered (f d.from) ((d ∷ xs) ++ (e ∷ ys)) ≡ op (gathered (f d.from) (d ∷ xs)) (gathered (f e.from) (e ∷ ys))
  both-gathered d xs e ys = behind (f d.from) (d ∷ xs) (e ∷ ys) ∙ from-first (gathered (f d.from) (d ∷ xs)) e ys

-- ---- an axis
module _ (axis : Axis) where
  abbrev floor_at : Point → ℤ
  floor_at p = floor_of (coordinate_of axis p)

  abbrev ceiling_at : Point → ℤ
  ceiling_at p = ceiling_of (coordinate_of axis p)

  low-gathered : (a : ℤ) (es : List Edge) → low_from axis a es ≡ gathered lesser lesser-three lesser-same floor_at a es
  low-gathered a [] = refl
  low-gathered a (e ∷ es) = low-gathered (lesser (lesser a (floor_at e.from)) (floor_at e.to)) es

  high-gathered : (a : ℤ) (es : List Edge) → high_from axis a es ≡ gathered greater greater-three greater-same ceiling_at a es
  high-gathered a [] = refl
  high-gathered a (e ∷ es) = high-gathered (greater (greater a (ceiling_at e.from)) (ceiling_at e.to)) es

  low-both : (d : Edge) (xs : List Edge) (e : Edge) (ys : List Edge) → low_of axis ((d ∷ xs) ++ (e ∷ ys)) ≡ lesser (low_of axis (d ∷ xs)) (low_of axis (e ∷ ys))
  low-both d xs e ys =
      low-gathered (floor_at d.from) ((d ∷ xs) ++ (e ∷ ys)) ∙ both-gathered lesser lesser-three lesser-same floor_at d xs e ys
      ∙ ap (λ z. lesser z (gathered lesser lesser-three lesser-same floor_at (floor_at e.from) (e ∷ ys))) (sym (low-gathered (floor_at d.from) (d ∷ xs)))
      ∙ ap (lesser (low_of axis (d ∷ xs))) (sym (low-gathered (floor_at e.from) (e ∷ ys)))

  high-both : (d : Edge) (xs : List Edge) (e : Edge) (ys : List Edge) → high_of axis ((d ∷ xs) ++ (e ∷ ys)) ≡ greater (high_of axis (d ∷ xs)) (high_of axis (e ∷ ys))
  high-both d xs e ys =
      high-gathered (ceiling_at d.from) ((d ∷ xs) ++ (e ∷ ys)) ∙ both-gathered greater greater-three greater-same ceiling_at d xs e ys
      ∙ ap (λ z. greater z (gathered greater greater-three greater-same ceiling_at (ceiling_at e.from) (e ∷ ys))) (sym (high-gathered (ceiling_at d.from) (d ∷ xs)))
      ∙ ap (greater (high_of axis (d ∷ xs))) (sym (high-gathered (ceiling_at e.from) (e ∷ ys)))

abbrev of-four : ℤ → ℤ → ℤ → ℤ → Envelope
of-four a b c d = record { low_x = a; high_x = b; low_y = c; high_y = d }

same-four : (a b c d a' b' c' d' : ℤ) → a ≡ a' → b ≡ b' → c ≡ c' → d ≡ d' → of-four a b c d ≡ of-four a' b' c' d'
same-four a b c d a' b' c' d' p q r s = ap (λ z. of-four z b c d) p ∙ ap (λ z. of-four a' z c d) q ∙ ap (λ z. of-four a' b' z d) r ∙ ap (of-four a' b' c') s

pub joined-is : (xs ys : List Edge) → 0 < length xs → 0 < length ys → joined_envelope (envelope_of xs) (envelope_of ys) ≡ envelope_of (xs ++ ys)
joined-is [] ys h k = absurd (omega (arith, h))
joined-is (d ∷ xs) [] h k = absurd (omega (arith, k))
joined-is (d ∷ xs) (e ∷ ys) h k = same-four _ _ _ _ _ _ _ _ (sym (low-both X d xs e ys)) (sym (high-both X d xs e ys)) (sym (low-both Y d xs e ys)) (sym (high-both Y d xs e ys))
