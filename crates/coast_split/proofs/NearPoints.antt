-- Close to a point off a list, the list covers what it covers at the point.
use Rattle.std.proofs.Common.{All, List, [], ap, arith, inl, inr, pos, refl, subst, sym, ℤ, ◌*ℤ◌, ◌+ℤ◌, ◌+◌, ◌∙◌, ◌∷◌, ◌≡◌, ◌⊎◌}
use Rattle.lists.specs.Member.{In}
use Rattle.plane_lists.specs.Paths.Line.{IsFreeStep}
use Rattle.plane_lists.specs.Paths.Near.{near}
use Rattle.plane.specs.Edge as plane
use Rattle.plane.specs.RayCrossing.{IsOffEdge}
use Rattle.plane.specs.Scale.{scaled_point}
use Rattle.plane.specs.Sign.{Plus, sign}
use Rattle.plane.specs.Vector.{Vector, east}
use Rattle.plane_lists.specs.Lists.EdgeList.{winding_number}
use Rattle.plane_lists.specs.Lists.ScaledEdges.{scaled_edges}
use Rattle.osm_geom.specs.declared.edge.Edge.{Edge}
use Rattle.osm_geom.specs.InPlane.Multiple.{product_of_denominators, whole_edges}
use Rattle.osm_geom.specs.InPlane.Sided.{IsSided, signed_count_at}
use Rattle.coast_split.specs.SplitTree.{Covers, IsOffList}
use Rattle.lists.proofs.ListsKit.{in-all}
use Rattle.plane.proofs.PlaneKit.{same_vector}
use Rattle.plane.proofs.SignKit.{lift, plus-times, same, ◌⊞◌, ◌⊠◌}
use Rattle.plane_lists.proofs.WindingKit.{balanced-scaled, edges-twice, winding-scaled}
use Rattle.plane_lists.proofs.PathsKit.{Later, apart-near, free-back, free-off, later-free, later-then, off-apart, step-winds}
use Rattle.coast_split.proofs.LeafCover.{covers-once, once-covers}

-- ---- points near a point
abbrev zero : Vector
zero = record { x = pos 0; y = pos 0 }

near-zero : (k : ℤ) (r : Vector) → near k r zero ≡ scaled_point k r
near-zero k r =
    same_vector (k *ℤ r.x +ℤ pos 0) (k *ℤ r.y +ℤ pos 0) (k *ℤ r.x) (k *ℤ r.y)
    (same (lift k ⊠ lift r.x ⊞ lift (pos 0)) (lift k ⊠ lift r.x) (omega arith)) (same (lift k ⊠ lift r.y ⊞ lift (pos 0)) (lift k ⊠ lift r.y) (omega arith))

part-times : (c k x d : ℤ) → k *ℤ (c *ℤ x) +ℤ c *ℤ d ≡ c *ℤ (k *ℤ x +ℤ d)
part-times c k x d = same (lift k ⊠ (lift c ⊠ lift x) ⊞ lift c ⊠ lift d) (lift c ⊠ (lift k ⊠ lift x ⊞ lift d)) (omega arith)

-- all multiplied by c
pub near-times : (c k : ℤ) (p u : Vector) → near k (scaled_point c p) (scaled_point c u) ≡ scaled_point c (near k p u)
near-times c k p u =
    same_vector (k *ℤ (c *ℤ p.x) +ℤ c *ℤ u.x) (k *ℤ (c *ℤ p.y) +ℤ c *ℤ u.y) (c *ℤ (k *ℤ p.x +ℤ u.x)) (c *ℤ (k *ℤ p.y +ℤ u.y)) (part-times c k p.x u.x) (part-times c k p.y u.y)

-- ---- what holds of all items of a list from some number on
one-of : {X : Type 0} (P : X → ℤ → Type 0) (x y : X) (xs : List X) (k : ℤ) → P x k → (In y xs → P y k) → (y ≡ x) ⊎ (In y xs) → P y k
one-of P x y xs k h g (inl e) = subst (λ z. P z k) (sym e) h
one-of P x y xs k h g (inr i) = g i

pub later-each : {X : Type 0} (P : X → ℤ → Type 0) (xs : List X) → ((x : X) → In x xs → Later (P x)) → Later (λ k. (x : X) → In x xs → P x k)
later-each P [] h = (0, λ k l x i. absurd i)
later-each P (x ∷ xs) h =
    let a = h x (inl refl) in let b = later-each P xs (λ y i. h y (inr i)) in
    (a.0 + b.0, λ k l y i. one-of P x y xs (pos k) (a.1 k (omega arith)) (b.1 k (omega arith) y) i)

-- ---- a list near a point
module _ (q : ℤ) (p u : Vector) (k : ℤ) (es : List Edge) where
  abbrev c : ℤ
  c = pos (product_of_denominators es)

  abbrev pub L : List plane.Edge
  L = scaled_edges q (whole_edges es)

  -- the point near p, in the plane that the list is whole in
  abbrev pub V : Vector
  V = near k (scaled_point c p) (scaled_point c u)

  point : V ≡ scaled_point c (near k p u)
  point = near-times c k p u

  list : scaled_edges k L ≡ scaled_edges (k *ℤ q) (whole_edges es)
  list = edges-twice k q (whole_edges es)

  pub off-near : All (IsOffEdge V) (scaled_edges k L) → IsOffList (k *ℤ q) (near k p u) es
  off-near off = subst (λ v. All (IsOffEdge v) (scaled_edges (k *ℤ q) (whole_edges es))) point (subst (λ l. All (IsOffEdge V) l) list off)

  pub count-near : signed_count_at (k *ℤ q) (near k p u) es ≡ winding_number east V (scaled_edges k L)
  count-near = ap (λ v. winding_number east v (scaled_edges (k *ℤ q) (whole_edges es))) (sym point) ∙ ap (winding_number east V) (sym list)

-- the point near p is off the list, and the list goes round it as it does round p
pub record IsAlike (q : ℤ) (p u : Vector) (es : List Edge) (k : ℤ) : Type 0 where
  pub off : IsOffList (k *ℤ q) (near k p u) es
  pub count : signed_count_at (k *ℤ q) (near k p u) es ≡ signed_count_at q p es

module _ (q : ℤ) (hq : sign q ≡ Plus) (p u : Vector) (es : List Edge) (sd : IsSided es) (off : IsOffList q p es) where
  abbrev P : Vector
  P = scaled_point (pos (product_of_denominators es)) p

  abbrev M : ℤ → List plane.Edge
  M k = scaled_edges k (L q p u k es)

  abbrev Free : ℤ → Type 0
  Free k = IsFreeStep (M k) (near k P zero) (near k P (scaled_point (pos (product_of_denominators es)) u))

  free : Later Free
  free =
      let L = scaled_edges q (whole_edges es) in
      later-free P zero P (scaled_point (pos (product_of_denominators es)) u) L (λ e i. apart-near P P e (off-apart P e (in-all (IsOffEdge P) L e off i)) zero (scaled_point (pos (product_of_denominators es)) u))

  alike-at : (k : ℤ) → sign k ≡ Plus → Free k → IsAlike q p u es k
  alike-at k hk f =
      let L = scaled_edges q (whole_edges es) in let V = near k P (scaled_point (pos (product_of_denominators es)) u) in
      record {
        off = off-near q p u k es (free-off (M k) V (near k P zero) (free-back (M k) (near k P zero) V f));
        count = count-near q p u k es
            ∙ sym (step-winds (M k) (balanced-scaled k hk L (balanced-scaled q hq (whole_edges es) sd.balanced)) (near k P zero) V f)
            ∙ ap (λ v. winding_number east v (M k)) (near-zero k P) ∙ winding-scaled k hk east P L;
      }

  pub alike-later : Later (IsAlike q p u es)
  alike-later = later-then Free (IsAlike q p u es) alike-at free

  -- so it covers the one where it covers the other
  module _ (k : ℤ) (hk : sign k ≡ Plus) (a : IsAlike q p u es k) where
    pub covers-near : Covers q p es → Covers (k *ℤ q) (near k p u) es
    covers-near h = once-covers (k *ℤ q) (plus-times k q hk ∙ hq) (near k p u) es sd a.off (a.count ∙ covers-once q hq p es sd off h)

    pub covers-here : Covers (k *ℤ q) (near k p u) es → Covers q p es
    covers-here h = once-covers q hq p es sd off (sym a.count ∙ covers-once (k *ℤ q) (plus-times k q hk ∙ hq) (near k p u) es sd a.off h)
