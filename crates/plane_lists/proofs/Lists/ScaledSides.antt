-- A list multiplied by a positive number is sided exactly where the list is, and has the same counts.
use Rattle.std.proofs.Common.{All, List, [], ap, map, pos, refl, subst, sym, ℕ, ℤ, ◌*ℤ◌, ◌-ℤ◌, ◌+◌, ◌∙◌, ◌∷◌, ◌≡◌, ◌⊎◌}
use Rattle.plane.specs.Conflict.{IsClearOf}
use Rattle.plane.specs.Edge.{Edge, IsRisingEdge, segment_of}
use Rattle.plane.specs.Order.{order}
use Rattle.plane.specs.RayCrossing.{IsOffEdge, off_by}
use Rattle.plane.specs.Scale.{scaled_edge, scaled_point}
use Rattle.plane.specs.Sign.{Plus, is_plus, sign}
use Rattle.plane.specs.Vector.{Vector, cross, dot, east, from_to, one_at}
use Rattle.plane_lists.specs.Lists.ConflictFree.{IsConflictFree}
use Rattle.plane_lists.specs.Lists.EdgeList.{IsBalanced, crossing_count, down_count, up_count, winding_number}
use Rattle.lists.specs.Member.{EachPair}
use Rattle.plane_lists.specs.Lists.Ring.{segments_of}
use Rattle.plane_lists.specs.Lists.ScaledEdges.{scaled_edges}
use Rattle.plane_lists.specs.Lists.Sided.{IsSided}
use Rattle.plane.proofs.PlaneKit.{same_edge_by, down_seen, up_seen, conflicts-scaled, cross-scaled, crossing-scaled, from_to-scaled, order-scaled, point-scaled, dot-both, point-turned, point-twice}
use Rattle.plane.proofs.SignKit.{plus-times}
use Rattle.plane.specs.Bit.{bit}
use Rattle.plane_lists.proofs.Lists.ConflictFree.{rising_in}
use Rattle.lists.proofs.ListsKit.{all-in, in-all, in-map, in-map-out, map-map, map-same, total, total-+, total-is, total-map, total-same}
use Rattle.plane_lists.proofs.Lists.ScaledLists.{direct-by, plain_scaled}
use Rattle.plane_lists.proofs.Lists.Sums.{same-total}

pub balanced-total : (f : Vector → ℕ) (es : List Edge) → IsBalanced es → total (λ (e : Edge). f e.from) es ≡ total (λ (e : Edge). f e.to) es
balanced-total f es b =
    sym (total-map f (λ (e : Edge). e.from) es)
    ∙ same-total f (map (λ (e : Edge). e.from) es) (map (λ (e : Edge). e.to) es)
    (λ v. total-map (one_at v) (λ (e : Edge). e.from) es ∙ total-is (λ (e : Edge). one_at v e.from) es ∙ b v ∙ sym (total-is (λ (e : Edge). one_at v e.to) es) ∙ sym (total-map (one_at v) (λ (e : Edge). e.to) es))
    ∙ total-map f (λ (e : Edge). e.to) es

pub edges-twice : (q k : ℤ) (es : List Edge) → scaled_edges q (scaled_edges k es) ≡ scaled_edges (q *ℤ k) es
edges-twice q k es =
    map-map (scaled_edge q) (scaled_edge k) es
    ∙ map-same (λ e. scaled_edge q (scaled_edge k e)) (scaled_edge (q *ℤ k)) es (λ e.
    same_edge_by (scaled_point q (scaled_point k e.from)) (scaled_point q (scaled_point k e.to)) (scaled_point (q *ℤ k) e.from) (scaled_point (q *ℤ k) e.to) (point-twice q k e.from) (point-twice q k e.to))

pub edges-turned : (q k : ℤ) (es : List Edge) → scaled_edges q (scaled_edges k es) ≡ scaled_edges k (scaled_edges q es)
edges-turned q k es =
    map-map (scaled_edge q) (scaled_edge k) es
    ∙ map-same (λ e. scaled_edge q (scaled_edge k e)) (λ e. scaled_edge k (scaled_edge q e)) es (λ e.
    same_edge_by (scaled_point q (scaled_point k e.from)) (scaled_point q (scaled_point k e.to)) (scaled_point k (scaled_point q e.from)) (scaled_point k (scaled_point q e.to)) (point-turned q k e.from) (point-turned q k e.to))
    ∙ sym (map-map (scaled_edge k) (scaled_edge q) es)

-- the ray is crossed either way
pub counted-both-ways : (d p : Vector) (es : List Edge) → crossing_count d p es ≡ up_count d p es + down_count d p es
counted-both-ways d p es =
    sym (total-is (λ e. up_seen d (from_to p) e + down_seen d (from_to p) e) es) ∙ total-+ (up_seen d (from_to p)) (down_seen d (from_to p)) es
    ∙ ap (λ n. n + total (down_seen d (from_to p)) es) (total-is (up_seen d (from_to p)) es) ∙ ap (λ n. up_count d p es + n) (total-is (down_seen d (from_to p)) es)

module _ (k : ℤ) (hk : sign k ≡ Plus) where
  pub segment-scaled : (e : Edge) → segment_of (scaled_edge k e) ≡ scaled_edge k (segment_of e)
  segment-scaled e = direct-by k hk (is_plus (order (scaled_point k e.from) (scaled_point k e.to))) (is_plus (order e.from e.to)) e (ap is_plus (order-scaled k hk e.from e.to))

  pub segments-scaled : (es : List Edge) → segments_of (scaled_edges k es) ≡ scaled_edges k (segments_of es)
  segments-scaled es = map-map segment_of (scaled_edge k) es ∙ map-same (λ e. segment_of (scaled_edge k e)) (λ e. scaled_edge k (segment_of e)) es segment-scaled ∙ sym (map-map (scaled_edge k) segment_of es)

  -- ---- conflicts
  pairs-back : (es : List Edge) → EachPair IsClearOf (scaled_edges k es) → EachPair IsClearOf es
  pairs-back [] h = tt
  pairs-back (x ∷ xs) h =
      (all-in (IsClearOf x) xs (λ s i. sym (conflicts-scaled k hk x s) ∙ in-all (IsClearOf (scaled_edge k x)) (scaled_edges k xs) (scaled_edge k s) h.0 (in-map (scaled_edge k) xs s i)), pairs-back xs h.1)

  plain-back : (es : List Edge) → IsConflictFree (scaled_edges k es) → IsConflictFree es
  plain-back es p = record {
    rising = all-in IsRisingEdge es (λ s i. sym (order-scaled k hk s.from s.to) ∙ rising_in (scaled_edges k es) (scaled_edge k s) p (in-map (scaled_edge k) es s i));
    clear = pairs-back es p.clear;
  }

  -- ---- ends
  pub balanced-scaled : (es : List Edge) → IsBalanced es → IsBalanced (scaled_edges k es)
  balanced-scaled es b v =
      sym (total-is (λ (e : Edge). one_at v e.from) (scaled_edges k es)) ∙ total-map (λ (e : Edge). one_at v e.from) (scaled_edge k) es
      ∙ balanced-total (λ (w : Vector). one_at v (scaled_point k w)) es b
      ∙ sym (total-map (λ (e : Edge). one_at v e.to) (scaled_edge k) es) ∙ total-is (λ (e : Edge). one_at v e.to) (scaled_edges k es)

  seen-back : (f : Edge → Vector) → ((e : Edge) → f (scaled_edge k e) ≡ scaled_point k (f e)) → (v : Vector) (es : List Edge) → total (λ (e : Edge). one_at (scaled_point k v) (f e)) (scaled_edges k es) ≡ total (λ (e : Edge). one_at v (f e)) es
  seen-back f h v es =
      total-map (λ (e : Edge). one_at (scaled_point k v) (f e)) (scaled_edge k) es
      ∙ total-same (λ (e : Edge). one_at (scaled_point k v) (f (scaled_edge k e))) (λ (e : Edge). one_at v (f e)) es (λ e i. ap (one_at (scaled_point k v)) (h e) ∙ ap bit (point-scaled k hk v (f e)))

  balanced-back : (es : List Edge) → IsBalanced (scaled_edges k es) → IsBalanced es
  balanced-back es b v =
      let w = scaled_point k v in
      sym (total-is (λ (e : Edge). one_at v e.from) es) ∙ sym (seen-back (λ (e : Edge). e.from) (λ e. refl) v es) ∙ total-is (λ (e : Edge). one_at w e.from) (scaled_edges k es)
      ∙ b w
      ∙ sym (total-is (λ (e : Edge). one_at w e.to) (scaled_edges k es)) ∙ seen-back (λ (e : Edge). e.to) (λ e. refl) v es ∙ total-is (λ (e : Edge). one_at v e.to) es

  -- ---- points off the list, and counts there
  dot-scaled : (p q r : Vector) → sign (dot (from_to (scaled_point k p) (scaled_point k q)) (from_to (scaled_point k p) (scaled_point k r))) ≡ sign (dot (from_to p q) (from_to p r))
  dot-scaled p q r =
      ap (λ v. sign (dot v (from_to (scaled_point k p) (scaled_point k r)))) (from_to-scaled k hk p q) ∙ ap (λ v. sign (dot (scaled_point k (from_to p q)) v)) (from_to-scaled k hk p r)
      ∙ dot-both k hk (from_to p q) (from_to p r)

  pub off-scaled : (p : Vector) (e : Edge) → IsOffEdge p e → IsOffEdge (scaled_point k p) (scaled_edge k e)
  off-scaled p e h =
      ap (λ s. off_by s (sign (dot (from_to (scaled_point k p) (scaled_point k e.from)) (from_to (scaled_point k p) (scaled_point k e.to))))) (cross-scaled k hk p e.from p e.to)
      ∙ ap (λ s. off_by (sign (cross (from_to p e.from) (from_to p e.to))) s) (dot-scaled p e.from e.to) ∙ h

  pub all-off-scaled : (p : Vector) (es : List Edge) → All (IsOffEdge p) es → All (IsOffEdge (scaled_point k p)) (scaled_edges k es)
  all-off-scaled p es h =
      all-in (IsOffEdge (scaled_point k p)) (scaled_edges k es) (λ s i.
      let r = in-map-out (scaled_edge k) es s i in subst (λ w. IsOffEdge (scaled_point k p) w) (sym r.2) (off-scaled p r.0 (in-all (IsOffEdge p) es r.0 h r.1)))

  off-back : (p : Vector) (e : Edge) → IsOffEdge (scaled_point k p) (scaled_edge k e) → IsOffEdge p e
  off-back p e h =
      sym (ap (λ s. off_by s (sign (dot (from_to (scaled_point k p) (scaled_point k e.from)) (from_to (scaled_point k p) (scaled_point k e.to))))) (cross-scaled k hk p e.from p e.to)
      ∙ ap (λ s. off_by (sign (cross (from_to p e.from) (from_to p e.to))) s) (dot-scaled p e.from e.to)) ∙ h

  pub all-off-back : (p : Vector) (es : List Edge) → All (IsOffEdge (scaled_point k p)) (scaled_edges k es) → All (IsOffEdge p) es
  all-off-back p es h = all-in (IsOffEdge p) es (λ e i. off-back p e (in-all (IsOffEdge (scaled_point k p)) (scaled_edges k es) (scaled_edge k e) h (in-map (scaled_edge k) es e i)))

  up-scaled : (d p : Vector) (e : Edge) → up_seen d (from_to (scaled_point k p)) (scaled_edge k e) ≡ up_seen d (from_to p) e
  up-scaled d p e =
      ap (λ v. up_seen d (λ w. w) (record { from = v; to = from_to (scaled_point k p) (scaled_point k e.to) })) (from_to-scaled k hk p e.from)
      ∙ ap (λ v. up_seen d (λ w. w) (record { from = scaled_point k (from_to p e.from); to = v })) (from_to-scaled k hk p e.to)
      ∙ (crossing-scaled k hk d (from_to p e.from) (from_to p e.to)).0

  down-scaled : (d p : Vector) (e : Edge) → down_seen d (from_to (scaled_point k p)) (scaled_edge k e) ≡ down_seen d (from_to p) e
  down-scaled d p e =
      ap (λ v. down_seen d (λ w. w) (record { from = v; to = from_to (scaled_point k p) (scaled_point k e.to) })) (from_to-scaled k hk p e.from)
      ∙ ap (λ v. down_seen d (λ w. w) (record { from = scaled_point k (from_to p e.from); to = v })) (from_to-scaled k hk p e.to)
      ∙ (crossing-scaled k hk d (from_to p e.from) (from_to p e.to)).1

  up_count-scaled : (d p : Vector) (es : List Edge) → up_count d (scaled_point k p) (scaled_edges k es) ≡ up_count d p es
  up_count-scaled d p es =
      sym (total-is (up_seen d (from_to (scaled_point k p))) (scaled_edges k es)) ∙ total-map (up_seen d (from_to (scaled_point k p))) (scaled_edge k) es
      ∙ total-same (λ e. up_seen d (from_to (scaled_point k p)) (scaled_edge k e)) (up_seen d (from_to p)) es (λ e i. up-scaled d p e) ∙ total-is (up_seen d (from_to p)) es

  down_count-scaled : (d p : Vector) (es : List Edge) → down_count d (scaled_point k p) (scaled_edges k es) ≡ down_count d p es
  down_count-scaled d p es =
      sym (total-is (down_seen d (from_to (scaled_point k p))) (scaled_edges k es)) ∙ total-map (down_seen d (from_to (scaled_point k p))) (scaled_edge k) es
      ∙ total-same (λ e. down_seen d (from_to (scaled_point k p)) (scaled_edge k e)) (down_seen d (from_to p)) es (λ e i. down-scaled d p e) ∙ total-is (down_seen d (from_to p)) es

  pub winding-scaled : (d p : Vector) (es : List Edge) → winding_number d (scaled_point k p) (scaled_edges k es) ≡ winding_number d p es
  winding-scaled d p es = ap (λ n. pos n -ℤ pos (down_count d (scaled_point k p) (scaled_edges k es))) (up_count-scaled d p es) ∙ ap (λ n. pos (up_count d p es) -ℤ pos n) (down_count-scaled d p es)

  pub count-scaled : (d p : Vector) (es : List Edge) → crossing_count d (scaled_point k p) (scaled_edges k es) ≡ crossing_count d p es
  count-scaled d p es =
      counted-both-ways d (scaled_point k p) (scaled_edges k es) ∙ ap (λ n. n + down_count d (scaled_point k p) (scaled_edges k es)) (up_count-scaled d p es) ∙ ap (λ n. up_count d p es + n) (down_count-scaled d p es)
      ∙ sym (counted-both-ways d p es)

  -- ---- sided lists
  abbrev WindsOnce : Vector → List Edge → Type 0
  WindsOnce p es = (winding_number east p es ≡ pos 0) ⊎ (winding_number east p es ≡ pos 1)

  pub sided-scaled : (es : List Edge) → IsSided es → IsSided (scaled_edges k es)
  sided-scaled es sd = record {
    plain = subst IsConflictFree (sym (segments-scaled es)) (plain_scaled k hk (segments_of es) sd.plain);
    balanced = balanced-scaled es sd.balanced;
    counted = λ q hq p off.
        let e = edges-twice q k es in
        subst (λ l. WindsOnce p l) (sym e) (sd.counted (q *ℤ k) (plus-times q k hq ∙ hk) p (subst (λ l. All (IsOffEdge p) l) e off));
  }

  pub sided-back : (es : List Edge) → IsSided (scaled_edges k es) → IsSided es
  sided-back es sd = record {
    plain = plain-back (segments_of es) (subst IsConflictFree (segments-scaled es) sd.plain);
    balanced = balanced-back es sd.balanced;
    counted = λ q hq p off.
        let w = scaled_point k p in let e = edges-turned q k es in
        let there : WindsOnce w (scaled_edges k (scaled_edges q es)) = subst (λ l. WindsOnce w l) e (sd.counted q hq w (subst (λ l. All (IsOffEdge w) l) (sym e) (all-off-scaled p (scaled_edges q es) off))) in
        subst (λ z. (z ≡ pos 0) ⊎ (z ≡ pos 1)) (winding-scaled east p (scaled_edges q es)) there;
  }
