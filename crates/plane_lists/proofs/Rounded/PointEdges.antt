-- Edges that are a point count nothing.
use Rattle.std.proofs.Common.{Bool, List, [], ap, arith, cond, false, not, refl, sym, true, ℕ, ◌+◌, ◌∙◌, ◌∷◌, ◌≡◌}
use borrow.Author.Differences.{ints}
use lib.IntN.{ℤ}
use Rattle.plane.specs.Edge.{Edge}
use Rattle.plane.specs.RayCrossing.{down_by, down_crossing, up_by, up_crossing}
use Rattle.plane.specs.Scale.{scaled_edge, scaled_point}
use Rattle.plane.specs.Sign.{Minus, Null, Plus, Sign, sign}
use Rattle.plane.specs.Vector.{Vector, cross, from_to, one_at, same_point}
use Rattle.plane_lists.specs.Lists.ScaledEdges.{scaled_edges}
use Rattle.plane_lists.specs.Lists.EdgeList.{IsBalanced, crossing_count, winding_number}
use Rattle.lists.proofs.ListsKit.{both_conds, total, total-+, total-filter, total-is, total-same}
use Rattle.plane.proofs.PlaneKit.{down_seen, point-scaled, same_point-true, up_seen}
use Rattle.plane_lists.proofs.WindingKit.{count-is}
use Rattle.plane_lists.specs.Rounded.Steps.{is_step, steps}

up-same : (s c : Sign) → up_by s s c ≡ 0
up-same Minus c = refl
up-same Null c = refl
up-same Plus c = refl

down-same : (s c : Sign) → down_by s s c ≡ 0
down-same Minus c = refl
down-same Null c = refl
down-same Plus c = refl

up-point : (d p : Vector) (e : Edge) → e.from ≡ e.to → up_seen d (from_to p) e ≡ 0
up-point d p e h =
    ap (λ (v : Vector). up_crossing d (from_to p e.from) (from_to p v)) (sym h)
    ∙ up-same (sign (cross d (from_to p e.from))) (sign (cross (from_to p e.from) (from_to p e.from)))

down-point : (d p : Vector) (e : Edge) → e.from ≡ e.to → down_seen d (from_to p) e ≡ 0
down-point d p e h =
    ap (λ (v : Vector). down_crossing d (from_to p e.from) (from_to p v)) (sym h)
    ∙ down-same (sign (cross d (from_to p e.from))) (sign (cross (from_to p e.from) (from_to p e.from)))

kept-by : (b : Bool) (n : ℕ) → (b ≡ true → n ≡ 0) → cond (not b) n 0 ≡ n
kept-by true n h = sym (h refl)
kept-by false n h = refl

kept : (f : Edge → ℕ) → ((e : Edge) → e.from ≡ e.to → f e ≡ 0) → (es : List Edge) → total f (steps es) ≡ total f es
kept f h es =
    total-filter is_step f es
    ∙ total-same (λ (e : Edge). cond (is_step e) (f e) 0) f es (λ e i. kept-by (same_point e.from e.to) (f e) (λ k. h e (same_point-true e.from e.to k)))

pub steps-wind : (d p : Vector) (es : List Edge) → winding_number d p (steps es) ≡ winding_number d p es
steps-wind d p es =
    let u = kept (up_seen d (from_to p)) (up-point d p) es in let w = kept (down_seen d (from_to p)) (down-point d p) es in
    let a = total-is (up_seen d (from_to p)) (steps es) in let b = total-is (down_seen d (from_to p)) (steps es) in
    let a' = total-is (up_seen d (from_to p)) es in let b' = total-is (down_seen d (from_to p)) es in
    omega (arith, ints, u, w, a, b, a', b')

pub steps-crossed : (d p : Vector) (es : List Edge) → crossing_count d p (steps es) ≡ crossing_count d p es
steps-crossed d p es =
    let u = kept (up_seen d (from_to p)) (up-point d p) es in let w = kept (down_seen d (from_to p)) (down-point d p) es in
    let a = count-is d (from_to p) (steps es) in let b = count-is d (from_to p) es in omega (arith, u, w, a, b)

rest-by : (v : Vector) (e : Edge) (b : Bool) → same_point e.from e.to ≡ b → cond (not b) 0 (one_at v e.from) ≡ cond (not b) 0 (one_at v e.to)
rest-by v e true h = ap (one_at v) (same_point-true e.from e.to h)
rest-by v e false h = refl

parted : (f : Edge → ℕ) (es : List Edge) → total f es ≡ total f (steps es) + total (λ (e : Edge). cond (is_step e) 0 (f e)) es
parted f es =
    let a = total-same f (λ (e : Edge). cond (is_step e) (f e) 0 + cond (is_step e) 0 (f e)) es (λ e i. sym (both_conds (is_step e) (f e))) in
    let b = total-+ (λ (e : Edge). cond (is_step e) (f e) 0) (λ (e : Edge). cond (is_step e) 0 (f e)) es in
    let c = total-filter is_step f es in omega (arith, a, b, c)

pub steps-balanced : (es : List Edge) → IsBalanced es → IsBalanced (steps es)
steps-balanced es b v =
    let f = parted (λ (e : Edge). one_at v e.from) es in let t = parted (λ (e : Edge). one_at v e.to) es in
    let r = total-same (λ (e : Edge). cond (is_step e) 0 (one_at v e.from)) (λ (e : Edge). cond (is_step e) 0 (one_at v e.to)) es (λ e i. rest-by v e (same_point e.from e.to) refl) in
    let x = total-is (λ (e : Edge). one_at v e.from) es in let y = total-is (λ (e : Edge). one_at v e.to) es in
    let x' = total-is (λ (e : Edge). one_at v e.from) (steps es) in let y' = total-is (λ (e : Edge). one_at v e.to) (steps es) in
    let c = b v in omega (arith, f, t, r, x, y, x', y', c)

-- ---- multiplied
module _ (k : ℤ) (plus : sign k ≡ Plus) where
  scaled-by : (b c : Bool) (e : Edge) (es : List Edge) → b ≡ c → cond (not b) (scaled_edge k e ∷ scaled_edges k es) (scaled_edges k es) ≡ scaled_edges k (cond (not c) (e ∷ es) es)
  scaled-by b true e es h = ap (λ b. cond (not b) (scaled_edge k e ∷ scaled_edges k es) (scaled_edges k es)) h
  scaled-by b false e es h = ap (λ b. cond (not b) (scaled_edge k e ∷ scaled_edges k es) (scaled_edges k es)) h

  pub steps-scaled : (es : List Edge) → steps (scaled_edges k es) ≡ scaled_edges k (steps es)
  steps-scaled [] = refl
  steps-scaled (e ∷ es) =
      ap (λ l. cond (not (same_point (scaled_point k e.from) (scaled_point k e.to))) (scaled_edge k e ∷ l) l) (steps-scaled es)
      ∙ scaled-by (same_point (scaled_point k e.from) (scaled_point k e.to)) (same_point e.from e.to) e (steps es) (point-scaled k plus e.from e.to)
