-- Edges that keep clear of a segment, as its inner points and its ends see them.
use Rattle.std.proofs.Common.{Bool, eqb, eqb-true, false, refl, subst, sym, true, ℕ, ◌||◌, ◌∙◌, ◌≡◌}
use lib.IntN.{pos}
use Rattle.plane.specs.Edge.{Edge, ends_at}
use Rattle.plane.specs.FreeSegment.{IsBetween, Misses, misses_by}
use Rattle.plane.specs.RayCrossing.{IsOff, IsOffEdge, down_by, down_crossing, off_by, up_by, up_crossing}
use Rattle.plane.specs.Sign.{Null, Plus, Sign, negated, sign}
use Rattle.plane.specs.Vector.{Vector, cross, dot, from_to, same_point}
use Rattle.plane.proofs.Points.{same_point-true}
use Rattle.plane.proofs.Products.{cross-chain, cross-from-here, cross-here, dot-reversed, frame-agree, frame-dot-agree, side-moves, side-reversed}
use Rattle.plane.proofs.Signs.{agree, agree-sum, all, all-out, all2, all2-out, all4, all4-out, imp, imp-out, times}
use Rattle.plane.proofs.Views.{View, view_at}

-- ---- the signs: the sides of the ends (a, b) and their difference (d), the sides of s, t and p (cs, ct, cp), where the ends are along the line seen from s (us, vs), t (ut, vt) and p (xu, xv), and dot of the ends seen from p (sp)
abbrev off_4 : Sign → Sign → Sign → Sign → Sign → Sign → Bool
off_4 a b cp xu xv sp =
    imp (agree (times Plus cp) (times xv a) (times xu b)) λ _.
    imp (agree (times xu xv) (times a b) (times Plus sp)) λ _.
    off_by cp sp

abbrev off_3 : Sign → Sign → Sign → Sign → Sign → Sign → Sign → Sign → Sign → Sign → Sign → Bool
off_3 a b cs ct cp us vs ut vt xu xv =
    imp (agree Plus xu us) λ _.
    imp (agree Plus xv vs) λ _.
    imp (agree Plus ut xu) λ _.
    imp (agree Plus vt xv) λ _.
    all (off_4 a b cp xu xv)

abbrev off_2 : Sign → Sign → Sign → Sign → Sign → Sign → Sign → Sign → Sign → Bool
off_2 a b cs ct cp us vs ut vt =
    imp (misses_by a b cs ct us vs ut vt) λ _. all2 (off_3 a b cs ct cp us vs ut vt)

abbrev off_1 : Sign → Sign → Sign → Sign → Sign → Sign → Bool
off_1 a b cs ct d cp =
    imp (agree a d b) λ _.
    imp (agree ct d cs) λ _.
    imp (agree (times Plus cs) (times Plus ct) (times Plus cp)) λ _.
    all4 (off_2 a b cs ct cp)

abbrev off_0 : Sign → Sign → Sign → Sign → Bool
off_0 a b cs ct = all2 (off_1 a b cs ct)

off_computes : all4 off_0 ≡ true
off_computes = refl

off_signs : (a b cs ct d cp us vs ut vt xu xv sp : Sign) →
    agree a d b ≡ true → agree ct d cs ≡ true → agree (times Plus cs) (times Plus ct) (times Plus cp) ≡ true →
    misses_by a b cs ct us vs ut vt ≡ true →
    agree Plus xu us ≡ true → agree Plus xv vs ≡ true → agree Plus ut xu ≡ true → agree Plus vt xv ≡ true →
    agree (times Plus cp) (times xv a) (times xu b) ≡ true → agree (times xu xv) (times a b) (times Plus sp) ≡ true →
    off_by cp sp ≡ true
off_signs a b cs ct d cp us vs ut vt xu xv sp h1 h2 h3 h4 h5 h6 h7 h8 h9 h10 =
    let g1 = all2-out (off_1 a b cs ct) (all4-out off_0 off_computes a b cs ct) d cp in
    let g2 = all4-out (off_2 a b cs ct cp) (imp-out _ _ (imp-out _ _ (imp-out _ _ g1 h1) h2) h3) us vs ut vt in
    let g3 = all2-out (off_3 a b cs ct cp us vs ut vt) (imp-out _ _ g2 h4) xu xv in
    let g4 = all-out (off_4 a b cp xu xv) (imp-out _ _ (imp-out _ _ (imp-out _ _ (imp-out _ _ g3 h5) h6) h7) h8) sp in
    imp-out _ _ (imp-out _ _ g4 h9) h10

-- the side of an inner point, from those of s and t, if these are not opposite
abbrev mean : Sign → Sign → Sign
mean Null t = t
mean s t = s

abbrev crossings_2 : (Sign → Sign → Sign → ℕ) → Sign → Sign → Sign → Sign → Sign → Sign → Sign → Sign → Sign → Bool
crossings_2 g a b cs ct us vs ut vt cp =
    imp (agree (times Plus cs) (times Plus ct) (times Plus cp)) λ _. eqb (g a b cp) (g a b (mean cs ct))

abbrev crossings_1 : (Sign → Sign → Sign → ℕ) → Sign → Sign → Sign → Sign → Sign → Sign → Sign → Sign → Bool
crossings_1 g a b cs ct us vs ut vt =
    imp (misses_by a b cs ct us vs ut vt) λ _. all (crossings_2 g a b cs ct us vs ut vt)

abbrev pub crossings_0 : (Sign → Sign → Sign → ℕ) → Sign → Sign → Sign → Sign → Bool
crossings_0 g a b cs ct = all4 (crossings_1 g a b cs ct)

pub up_compute : all4 (crossings_0 up_by) ≡ true
up_compute = refl

pub down_compute : all4 (crossings_0 down_by) ≡ true
down_compute = refl

crossings_signs : (g : Sign → Sign → Sign → ℕ) → all4 (crossings_0 g) ≡ true → (a b cs ct cp us vs ut vt : Sign) →
    misses_by a b cs ct us vs ut vt ≡ true → agree (times Plus cs) (times Plus ct) (times Plus cp) ≡ true → g a b cp ≡ g a b (mean cs ct)
crossings_signs g computes a b cs ct cp us vs ut vt h k =
    let g1 = all4-out (crossings_1 g a b cs ct) (all4-out (crossings_0 g) computes a b cs ct) us vs ut vt in
    eqb-true _ _ (imp-out _ _ (all-out (crossings_2 g a b cs ct us vs ut vt) (imp-out _ _ g1 h) cp) k)

-- ---- an edge from u to v, seen so
module _ (s t : Vector) (r : Vector → Vector) (i : View s t r) (u v : Vector) where
  abbrev ray : Vector
  ray = from_to s t

  pub off_when_missed : Misses s t (record { from = u; to = v }) → IsOff (r u) (r v)
  off_when_missed missed =
      let f = frame-agree ray (r u) (r v) i.direction in
      let g = frame-dot-agree ray (r u) (r v) i.direction in
      off_signs (sign (cross ray (from_to s u))) (sign (cross ray (from_to s v))) (sign (cross (from_to s u) (from_to s v))) (sign (cross (from_to t u) (from_to t v)))
      (sign (cross ray (from_to u v))) (sign (cross (r u) (r v)))
      (sign (dot ray (from_to s u))) (sign (dot ray (from_to s v))) (sign (dot ray (from_to t u))) (sign (dot ray (from_to t v)))
      (sign (dot ray (r u))) (sign (dot ray (r v))) (sign (dot (r u) (r v)))
      (agree-sum (cross ray (from_to s u)) (cross ray (from_to u v)) (cross ray (from_to s v)) (cross-chain ray s u v))
      (agree-sum (cross (from_to t u) (from_to t v)) (cross ray (from_to u v)) (cross (from_to s u) (from_to s v)) (side-moves s t u v))
      (i.mixed u v) missed (i.past_s u) (i.past_s v) (i.before_t u) (i.before_t v)
      (rw (i.side u, i.side v) at f) (rw (i.side u, i.side v) at g)

  pub crossings-by : (g : Sign → Sign → Sign → ℕ) → all4 (crossings_0 g) ≡ true → Misses s t (record { from = u; to = v }) →
      g (sign (cross ray (r u))) (sign (cross ray (r v))) (sign (cross (r u) (r v)))
      ≡ g (sign (cross ray (from_to s u))) (sign (cross ray (from_to s v))) (mean (sign (cross (from_to s u) (from_to s v))) (sign (cross (from_to t u) (from_to t v))))
  crossings-by g computes missed =
      rw (i.side u, i.side v)
      (crossings_signs g computes (sign (cross ray (from_to s u))) (sign (cross ray (from_to s v))) (sign (cross (from_to s u) (from_to s v))) (sign (cross (from_to t u) (from_to t v))) (sign (cross (r u) (r v)))
      (sign (dot ray (from_to s u))) (sign (dot ray (from_to s v))) (sign (dot ray (from_to t u))) (sign (dot ray (from_to t v))) missed (i.mixed u v))

abbrev pub crossings_seen : (Sign → Sign → Sign → ℕ) → Vector → (Vector → Vector) → Edge → ℕ
crossings_seen g d r e = g (sign (cross d (r e.from))) (sign (cross d (r e.to))) (sign (cross (r e.from) (r e.to)))

-- ---- an edge that does not end at s
abbrev pub past_2 : (Sign → Sign → Sign → ℕ) → Sign → Sign → Sign → Sign → Sign → Sign → Sign → Sign → Sign → Sign → Bool
past_2 g a b cs ct us vs ut vt ss cp =
    imp (agree (times us vs) (times a b) (times Plus ss)) λ _.
    imp (off_by cs ss) λ _.
    imp (agree (times Plus cs) (times Plus ct) (times Plus cp)) λ _.
    eqb (g a b cp) (g a b cs)

abbrev pub past_1 : (Sign → Sign → Sign → ℕ) → Sign → Sign → Sign → Sign → Sign → Sign → Sign → Sign → Bool
past_1 g a b cs ct us vs ut vt =
    imp (misses_by a b cs ct us vs ut vt) λ _.
    imp (agree (times Plus cs) (times vs a) (times us b)) λ _.
    all2 (past_2 g a b cs ct us vs ut vt)

abbrev pub past_0 : (Sign → Sign → Sign → ℕ) → Sign → Sign → Sign → Sign → Bool
past_0 g a b cs ct = all4 (past_1 g a b cs ct)

past_signs : (g : Sign → Sign → Sign → ℕ) → all4 (past_0 g) ≡ true → (a b cs ct us vs ut vt ss cp : Sign) →
    misses_by a b cs ct us vs ut vt ≡ true → agree (times Plus cs) (times vs a) (times us b) ≡ true →
    agree (times us vs) (times a b) (times Plus ss) ≡ true → off_by cs ss ≡ true → agree (times Plus cs) (times Plus ct) (times Plus cp) ≡ true →
    g a b cp ≡ g a b cs
past_signs g computes a b cs ct us vs ut vt ss cp h1 h2 h3 h4 h5 =
    let g1 = all4-out (past_1 g a b cs ct) (all4-out (past_0 g) computes a b cs ct) us vs ut vt in
    let g2 = all2-out (past_2 g a b cs ct us vs ut vt) (imp-out _ _ (imp-out _ _ g1 h1) h2) ss cp in
    eqb-true _ _ (imp-out _ _ (imp-out _ _ (imp-out _ _ g2 h3) h4) h5)

-- ---- an edge that ends at s: the side of that end and the side of s are none
abbrev pub at_2 : (Sign → Sign → Sign → ℕ) → Sign → Sign → Sign → Sign → Bool
at_2 g a b ct d =
    imp (agree a d b) λ _.
    imp (agree ct d Null) λ _.
    all λ cp. imp (agree Null (times Plus ct) (times Plus cp)) λ _. eqb (g a b cp) 0

abbrev pub at_from_2 : (Sign → Sign → Sign → ℕ) → Sign → Sign → Sign → Sign → Bool
at_from_2 g a b ct d = at_2 g Null b ct d

abbrev pub at_to_2 : (Sign → Sign → Sign → ℕ) → Sign → Sign → Sign → Sign → Bool
at_to_2 g a b ct d = at_2 g a Null ct d

at_signs : (g : Sign → Sign → Sign → ℕ) → (a b ct d cp : Sign) → at_2 g a b ct d ≡ true →
    agree a d b ≡ true → agree ct d Null ≡ true → agree Null (times Plus ct) (times Plus cp) ≡ true → g a b cp ≡ 0
at_signs g a b ct d cp h h1 h2 h3 =
    let g1 = all-out (λ cp. imp (agree Null (times Plus ct) (times Plus cp)) λ _. eqb (g a b cp) 0) (imp-out _ _ (imp-out _ _ h h1) h2) cp in
    eqb-true _ _ (imp-out _ _ g1 h3)

module _ (s t : Vector) (r : Vector → Vector) (i : View s t r) (u v : Vector) where
  abbrev joining : Vector
  joining = from_to s t

  pub past_edge : (g : Sign → Sign → Sign → ℕ) → all4 (past_0 g) ≡ true → Misses s t (record { from = u; to = v }) → IsOff (from_to s u) (from_to s v) →
      g (sign (cross joining (r u))) (sign (cross joining (r v))) (sign (cross (r u) (r v)))
      ≡ g (sign (cross joining (from_to s u))) (sign (cross joining (from_to s v))) (sign (cross (from_to s u) (from_to s v)))
  past_edge g computes missed off =
      rw (i.side u, i.side v)
      (past_signs g computes (sign (cross joining (from_to s u))) (sign (cross joining (from_to s v))) (sign (cross (from_to s u) (from_to s v))) (sign (cross (from_to t u) (from_to t v)))
      (sign (dot joining (from_to s u))) (sign (dot joining (from_to s v))) (sign (dot joining (from_to t u))) (sign (dot joining (from_to t v)))
      (sign (dot (from_to s u) (from_to s v))) (sign (cross (r u) (r v)))
      missed (frame-agree joining (from_to s u) (from_to s v) i.direction) (frame-dot-agree joining (from_to s u) (from_to s v) i.direction) off (i.mixed u v))

  -- what holds where the edge begins or ends at s
  at_edge : (g : Sign → Sign → Sign → ℕ) → cross (from_to s u) (from_to s v) ≡ pos 0 →
      at_2 g (sign (cross joining (from_to s u))) (sign (cross joining (from_to s v))) (sign (cross (from_to t u) (from_to t v))) (sign (cross joining (from_to u v))) ≡ true →
      g (sign (cross joining (r u))) (sign (cross joining (r v))) (sign (cross (r u) (r v))) ≡ 0
  at_edge g z h =
      let m = i.mixed u v in
      let k = agree-sum (cross (from_to t u) (from_to t v)) (cross joining (from_to u v)) (cross (from_to s u) (from_to s v)) (side-moves s t u v) in
      rw (i.side u, i.side v)
      (at_signs g (sign (cross joining (from_to s u))) (sign (cross joining (from_to s v))) (sign (cross (from_to t u) (from_to t v))) (sign (cross joining (from_to u v))) (sign (cross (r u) (r v)))
      h (agree-sum (cross joining (from_to s u)) (cross joining (from_to u v)) (cross joining (from_to s v)) (cross-chain joining s u v)) (rw z at k) (rw z at m))

pub record Sound (g : Sign → Sign → Sign → ℕ) : Type 0 where
  pub past : all4 (past_0 g) ≡ true
  pub from : all4 (at_from_2 g) ≡ true
  pub to : all4 (at_to_2 g) ≡ true

pub up_sound : Sound up_by
up_sound = record { past = refl; from = refl; to = refl }

pub down_sound : Sound down_by
down_sound = record { past = refl; from = refl; to = refl }

from_here : (g : Sign → Sign → Sign → ℕ) → Sound g → (s t : Vector) (r : Vector → Vector) (v : Vector) → View s t r → crossings_seen g (from_to s t) r (record { from = s; to = v }) ≡ 0
from_here g k s t r v i =
    at_edge s t r i s v g (cross-from-here s (from_to s v))
    (rw (cross-here (from_to s t) s) (all4-out (at_from_2 g) k.from Null (sign (cross (from_to s t) (from_to s v))) (sign (cross (from_to t s) (from_to t v))) (sign (cross (from_to s t) (from_to s v)))))

to_here : (g : Sign → Sign → Sign → ℕ) → Sound g → (s t : Vector) (r : Vector → Vector) (u : Vector) → View s t r → crossings_seen g (from_to s t) r (record { from = u; to = s }) ≡ 0
to_here g k s t r u i =
    at_edge s t r i u s g (cross-here (from_to s u) s)
    (rw (cross-here (from_to s t) s) (all4-out (at_to_2 g) k.to (sign (cross (from_to s t) (from_to s u))) Null (sign (cross (from_to t u) (from_to t s))) (sign (cross (from_to s t) (from_to u s)))))

pub none_here : (g : Sign → Sign → Sign → ℕ) → Sound g → (s t : Vector) (r : Vector → Vector) (e : Edge) → View s t r → (b b' : Bool) → same_point s e.from ≡ b → same_point s e.to ≡ b' → (b || b') ≡ true →
    crossings_seen g (from_to s t) r e ≡ 0
none_here g k s t r e i true b' h h' c = subst (λ (w : Vector). crossings_seen g (from_to s t) r (record { from = w; to = e.to }) ≡ 0) (same_point-true s e.from h) (from_here g k s t r e.to i)
none_here g k s t r e i false true h h' c = subst (λ (w : Vector). crossings_seen g (from_to s t) r (record { from = e.from; to = w }) ≡ 0) (same_point-true s e.to h') (to_here g k s t r e.from i)
none_here g k s t r e i false false h h' c = absurd (cc c)

abbrev reversed_1 : Sign → Sign → Sign → Sign → Sign → Sign → Sign → Sign → Bool
reversed_1 a b cs ct us vs ut vt = imp (misses_by a b cs ct us vs ut vt) λ _. misses_by (negated a) (negated b) ct cs (negated ut) (negated vt) (negated us) (negated vs)

reversed_computes : all4 (λ a b cs ct. all4 (reversed_1 a b cs ct)) ≡ true
reversed_computes = refl

pub misses_reversed : (s t : Vector) (e : Edge) → Misses s t e → Misses t s e
misses_reversed s t e m =
    let u = e.from in let v = e.to in
    let c = all4-out (reversed_1 (sign (cross (from_to s t) (from_to s u))) (sign (cross (from_to s t) (from_to s v))) (sign (cross (from_to s u) (from_to s v))) (sign (cross (from_to t u) (from_to t v))))
    (all4-out (λ a b cs ct. all4 (reversed_1 a b cs ct)) reversed_computes (sign (cross (from_to s t) (from_to s u))) (sign (cross (from_to s t) (from_to s v))) (sign (cross (from_to s u) (from_to s v))) (sign (cross (from_to t u) (from_to t v))))
    (sign (dot (from_to s t) (from_to s u))) (sign (dot (from_to s t) (from_to s v))) (sign (dot (from_to s t) (from_to t u))) (sign (dot (from_to s t) (from_to t v))) in
    rw (side-reversed s t u, side-reversed s t v, dot-reversed s t t u, dot-reversed s t t v, dot-reversed s t s u, dot-reversed s t s v)
    (imp-out _ _ c m)

-- ---- the laws for one edge
pub inner_point_off : (s t p : Vector) (e : Edge) → IsBetween s t p → Misses s t e → IsOffEdge p e
inner_point_off s t p e i m = off_when_missed s t (from_to p) (view_at s t p i) e.from e.to m

pub inner_points_alike : (s t p q : Vector) (e : Edge) → IsBetween s t p → IsBetween s t q → Misses s t e →
    (up_crossing (from_to s t) (from_to p e.from) (from_to p e.to) ≡ up_crossing (from_to s t) (from_to q e.from) (from_to q e.to))
    × (down_crossing (from_to s t) (from_to p e.from) (from_to p e.to) ≡ down_crossing (from_to s t) (from_to q e.from) (from_to q e.to))
inner_points_alike s t p q e i j m =
    let v = view_at s t p i in let w = view_at s t q j in (
      crossings-by s t (from_to p) v e.from e.to up_by up_compute m ∙ sym (crossings-by s t (from_to q) w e.from e.to up_by up_compute m),
      crossings-by s t (from_to p) v e.from e.to down_by down_compute m ∙ sym (crossings-by s t (from_to q) w e.from e.to down_by down_compute m),
    )

pub end_alike : (s t p : Vector) (e : Edge) → IsBetween s t p → Misses s t e → IsOffEdge s e →
    (up_crossing (from_to s t) (from_to p e.from) (from_to p e.to) ≡ up_crossing (from_to s t) (from_to s e.from) (from_to s e.to))
    × (down_crossing (from_to s t) (from_to p e.from) (from_to p e.to) ≡ down_crossing (from_to s t) (from_to s e.from) (from_to s e.to))
end_alike s t p e i m o =
    let v = view_at s t p i in
    (past_edge s t (from_to p) v e.from e.to up_by up_sound.past m o, past_edge s t (from_to p) v e.from e.to down_by down_sound.past m o)

pub end_edge_none : (s t p : Vector) (e : Edge) → IsBetween s t p → Misses s t e → ends_at s e ≡ true →
    (up_crossing (from_to s t) (from_to p e.from) (from_to p e.to) ≡ 0) × (down_crossing (from_to s t) (from_to p e.from) (from_to p e.to) ≡ 0)
end_edge_none s t p e i m h =
    let v = view_at s t p i in
    (none_here up_by up_sound s t (from_to p) e v (same_point s e.from) (same_point s e.to) refl refl h, none_here down_by down_sound s t (from_to p) e v (same_point s e.from) (same_point s e.to) refl refl h)
