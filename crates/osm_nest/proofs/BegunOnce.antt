-- A ring begun at its least node is one list.
use Rattle.std.proofs.Common.{List, [], ap, inl, inr, refl, subst, sym, ℕ, ◌++◌, ◌∙◌, ◌∷◌, ◌≡◌, ◌≢◌, false}
use Rattle.std.specs.Ordering.{ordering_reverse}
use Rattle.std.specs.declared.cmp.Ordering.{Ordering}
use Rattle.std.specs.declared.cmp.Ordering.TheVariants.{Equal, Greater, Less}
use Rattle.plane_lists.proofs.OneRingListKit.{Turned, pairs-turned, turned-through}
use Rattle.plane.specs.Edge as plane
use Rattle.plane.specs.Vector.{same_point}
use Rattle.std.proofs.lemmas.Bool.{false_from_ne_true}
use Rattle.plane.proofs.PlaneKit.{same_point-refl, same_point-true}
use Rattle.lists.specs.Member.{EachPair, In}
use Rattle.plane_lists.specs.Lists.Ring as winding
use Rattle.lists.proofs.ListsKit.{in-all, in-at, in-right}
use Rattle.osm_geom.specs.declared.edge.Edge.{Edge}
use Rattle.osm_geom.specs.declared.point.Point.{Point}
use Rattle.osm_geom.specs.Point.{point_cmp}
use Rattle.osm_geom.proofs.GeometryKit.{point_same, point_total}
use Rattle.osm_nest.specs.Nested.{IsFromLeast}
use Rattle.lists.specs.Rotated.{IsRotated}
use Rattle.osm_rings.specs.Turned.{BeginsLeast}
use Rattle.plane_lists.proofs.NestingKit.{pairs-unmap, append-nil}
use Rattle.osm_geom.specs.InPlane.Multiple.{edge_times, edges_times, point_times}

-- no edge leaves a lesser point than the first
least-first : (e : Edge) (es : List Edge) → BeginsLeast (e ∷ es) → (f : Edge) → In f (e ∷ es) → point_cmp f.from e.from ≢ Less
least-first e es h f i l = let p = in-at f (e ∷ es) i in h p.0 f p.1 (ap (λ (x : Edge). point_cmp x.from e.from) (p.2 f) ∙ l)

both-least : (p q : Point) → (o : Ordering) → point_cmp p q ≡ o → point_cmp p q ≢ Less → point_cmp q p ≢ Less → p ≡ q
both-least p q Less h m n = absurd (m h)
both-least p q Equal h m n = point_same p q h
both-least p q Greater h m n = absurd (n (point_total.antisymm q p ∙ ap ordering_reverse h))

-- leaves no point twice, in the plane multiplied by k
abbrev pub LeavesOnce : ℕ → List Edge → Type 0
LeavesOnce k es = EachPair (λ (e f : Edge). same_point (point_times k e.from) (point_times k f.from) ≡ false) es

pub leaves-once : (k : ℕ) (es : List Edge) → winding.IsRing (edges_times k es) → LeavesOnce k es
leaves-once k es r = pairs-unmap (edge_times k) (λ (e f : plane.Edge). same_point e.from f.from ≡ false) es r.once

same-by : (k : ℕ) (x y a b : List Edge) → x ≡ a ++ b → y ≡ b ++ a → BeginsLeast x → BeginsLeast y → LeavesOnce k x → x ≡ y
same-by k x y [] b h j l m o = h ∙ sym (append-nil b) ∙ sym j
same-by k x y (e ∷ a) [] h j l m o = h ∙ append-nil (e ∷ a) ∙ sym j
same-by k x y (e ∷ a) (f ∷ b) h j l m o =
    let l' : BeginsLeast (e ∷ (a ++ (f ∷ b))) = subst BeginsLeast h l in
    let m' : BeginsLeast (f ∷ (b ++ (e ∷ a))) = subst BeginsLeast j m in
    let o' : LeavesOnce k (e ∷ (a ++ (f ∷ b))) = subst (LeavesOnce k) h o in
    let fi : In f (a ++ (f ∷ b)) = in-right a (f ∷ b) f (inl refl) in
    let ei : In e (b ++ (e ∷ a)) = in-right b (e ∷ a) e (inl refl) in
    let q = both-least e.from f.from (point_cmp e.from f.from) refl (least-first f (b ++ (e ∷ a)) m' e (inr ei)) (least-first e (a ++ (f ∷ b)) l' f (inr fi)) in
    let n = in-all (λ (f : Edge). same_point (point_times k e.from) (point_times k f.from) ≡ false) (a ++ (f ∷ b)) f o'.0 fi in
    absurd (cc (sym n ∙ ap (λ p. same_point (point_times k e.from) (point_times k p)) (sym q) ∙ same_point-refl (point_times k e.from)))

pub turned-trans : (p m q : List Edge) → Turned p m → Turned m q → Turned p q
turned-trans p m q s t = turned-through p q s.0 s.1 t.1 t.0 s.2 t.3 (sym s.3 ∙ t.2)

pub turned-of : (p q : List Edge) → IsRotated p q → Turned p q
turned-of p q t = (t.front, t.back, t.old, t.new)

pub turned-sym : (p q : List Edge) → IsRotated p q → Turned q p
turned-sym p q t = (t.back, t.front, t.new, t.old)

once-turned : (k : ℕ) (p q : List Edge) → IsRotated p q → LeavesOnce k p → LeavesOnce k q
once-turned k p q t o =
    subst (LeavesOnce k) (sym t.new) (pairs-turned (λ (e f : Edge). same_point (point_times k e.from) (point_times k f.from) ≡ false)
    (λ e f n. false_from_ne_true (same_point (point_times k f.from) (point_times k e.from)) (λ h. cc (sym (ap (λ w. same_point w (point_times k f.from)) (sym (same_point-true (point_times k f.from) (point_times k e.from) h)) ∙ same_point-refl (point_times k f.from)) ∙ n)))
    t.front t.back (subst (LeavesOnce k) t.old o))

-- one ring, begun at its least node in two ways
pub begun-one : (k : ℕ) (r q x y : List Edge) → IsRotated r q → IsFromLeast r x → IsFromLeast q y → LeavesOnce k r → x ≡ y
begun-one k r q x y t b c o =
    let u = turned-trans x r y (turned-sym r x b.turned) (turned-trans r q y (turned-of r q t) (turned-of q y c.turned)) in
    same-by k x y u.0 u.1 u.2 u.3 b.least c.least (once-turned k r x b.turned o)
