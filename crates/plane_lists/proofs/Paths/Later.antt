-- What holds from some multiple on: points as close to others as one likes.
use Rattle.std.proofs.Common.{List, [], ap, arith, refl, subst, suc, sym, zero, ℕ, ◌*◌, ◌+◌, ◌<◌, ◌≤◌, ◌∙◌, ◌∷◌, ◌≡◌, ◌⊎◌, inl, inr}
use borrow.Author.Differences.{ints, up}
use lib.IntN.{negsuc, pos, ℤ, ◌*ℤ◌, ◌-ℤ◌}
use Rattle.lists.specs.Member.{In}
use Rattle.plane_lists.specs.Paths.Line.{IsApart, IsFreeStep, IsLeftAlong}
pub use Rattle.plane_lists.specs.Paths.Near.{near}
use Rattle.plane.specs.Edge.{Edge}
use Rattle.plane.specs.Scale.{scaled_edge, scaled_point}
use Rattle.plane.specs.Sign.{Minus, Null, Plus, sign}
use Rattle.plane.specs.Vector.{Vector, cross, from_to}
use Rattle.plane_lists.specs.Lists.ScaledEdges.{scaled_edges}
use Rattle.lists.proofs.ListsKit.{in-map-out}
use Rattle.plane.proofs.PlaneKit.{cross2, from_to2, lift2}
use Rattle.plane.proofs.SignKit.{lift, null-zero, same, says-at, sign-from, sign-pos, ◌⊞◌, ◌⊟◌, ◌⊠◌}

-- P holds of all numbers from some number on
abbrev pub Later : (ℤ → Type 0) → Type 0
Later P = (n : ℕ) × ((k : ℕ) → n < k → P (pos k))

pub later-always : (P : ℤ → Type 0) → ((k : ℤ) → sign k ≡ Plus → P k) → Later P
later-always P h = (0, λ k l. h (pos k) (sign-pos k l))

pub later-both : (P Q : ℤ → Type 0) → Later P → Later Q → Later (λ k. P k × Q k)
later-both P Q h g = (h.0 + g.0, λ k l. (h.1 k (omega arith), g.1 k (omega arith)))

pub later-then : (P Q : ℤ → Type 0) → ((k : ℤ) → sign k ≡ Plus → P k → Q k) → Later P → Later Q
later-then P Q f h = (h.0, λ k l. f (pos k) (sign-pos k (omega arith)) (h.1 k l))

either-of : (P : Edge → ℤ → Type 0) (x e : Edge) (xs : List Edge) (k : ℤ) → P x k → (In e xs → P e k) → (e ≡ x) ⊎ In e xs → P e k
either-of P x e xs k h g (inl q) = subst (λ w. P w k) (sym q) h
either-of P x e xs k h g (inr i) = g i

pub later-all : (P : Edge → ℤ → Type 0) (es : List Edge) → ((e : Edge) → In e es → Later (P e)) → Later (λ k. (e : Edge) → In e es → P e k)
later-all P [] h = (0, λ k l e i. absurd i)
later-all P (x ∷ xs) h =
    let a = h x (inl refl) in let b = later-all P xs (λ e i. h e (inr i)) in
    (a.0 + b.0, λ k l e i. either-of P x e xs (pos k) (a.1 k (omega arith)) (b.1 k (omega arith) e) i)

-- there is such a number
pub later-some : (P : ℤ → Type 0) → Later P → (k : ℤ) × (sign k ≡ Plus) × P k
later-some P h = (pos (suc h.0), refl, h.1 (suc h.0) (omega arith))

-- ---- a multiple outgrows each number
grow-by : (m k : ℕ) (c : ℤ) → up c < k → sign (pos (k * suc m) -ℤ c) ≡ Plus
grow-by m k c h = let e : k ≤ k * suc m = omega arith in sign-from Plus (pos (k * suc m) -ℤ c) (omega (arith, ints))

grow : (x c : ℤ) (k : ℕ) → sign x ≡ Plus → up c < k → sign (pos k *ℤ x -ℤ c) ≡ Plus
grow (pos zero) c k h l = absurd (cc h)
grow (negsuc m) c k h l = absurd (cc h)
grow (pos (suc m)) c k h l = grow-by m k c l

none-less : (k x c : ℤ) → x ≡ pos 0 → sign c ≡ Minus → sign (k *ℤ x -ℤ c) ≡ Plus
none-less k x c h g =
    let z : k *ℤ pos 0 ≡ pos 0 = same (lift k ⊠ lift (pos 0)) (lift (pos 0)) (omega arith) in
    let m = says-at Minus c g in
    ap (λ w. sign (k *ℤ w -ℤ c)) h ∙ ap (λ w. sign (w -ℤ c)) z ∙ sign-from Plus (pos 0 -ℤ c) (omega (arith, ints))

-- k * x - c is positive from some k on: x is positive, or it is none and c is negative
abbrev pub Leads : ℤ → ℤ → Type 0
Leads x c = (sign x ≡ Plus) ⊎ ((sign x ≡ Null) × (sign c ≡ Minus))

pub later-leads : (x c : ℤ) → Leads x c → Later (λ k. sign (k *ℤ x -ℤ c) ≡ Plus)
later-leads x c (inl h) = (up c, λ k l. grow x c k h l)
later-leads x c (inr h) = (0, λ k l. none-less (pos k) x c (null-zero x h.0) h.1)

-- ---- a point near r, in the direction u from it, where all is multiplied by k
pub near-cross : (k : ℤ) (d r u w : Vector) → cross d (from_to (near k r u) (scaled_point k w)) ≡ k *ℤ cross d (from_to r w) -ℤ cross d u
near-cross k d r u w =
    let k' = lift k in let d' = lift2 d in let r' = lift2 r in let u' = lift2 u in let w' = lift2 w in
    same (d'.x2 ⊠ (k' ⊠ w'.y2 ⊟ (k' ⊠ r'.y2 ⊞ u'.y2)) ⊟ d'.y2 ⊠ (k' ⊠ w'.x2 ⊟ (k' ⊠ r'.x2 ⊞ u'.x2)))
    (k' ⊠ cross2 d' (from_to2 r' w') ⊟ cross2 d' u') (omega arith)

-- w is on the left of d, seen from all points near r in the direction u
abbrev pub IsLeftNear : Vector → Vector → Vector → Vector → Type 0
IsLeftNear d r u w = Leads (cross d (from_to r w)) (cross d u)

pub later-left : (d r u w : Vector) → IsLeftNear d r u w → Later (λ k. IsLeftAlong d (near k r u) (scaled_point k w))
later-left d r u w h =
    later-then (λ k. sign (k *ℤ cross d (from_to r w) -ℤ cross d u) ≡ Plus) (λ k. IsLeftAlong d (near k r u) (scaled_point k w)) (λ k hk g. ap sign (near-cross k d r u w) ∙ g)
    (later-leads (cross d (from_to r w)) (cross d u) h)

-- a line in the direction d keeps the steps from near r to near s apart from the edge
pub record IsNearApart (r u s v : Vector) (e : Edge) : Type 0 where
  pub along : Vector
  pub first_from : IsLeftNear along r u e.from
  pub first_to : IsLeftNear along r u e.to
  pub last_from : IsLeftNear along s v e.from
  pub last_to : IsLeftNear along s v e.to

pub later-apart : (r u s v : Vector) (e : Edge) → IsNearApart r u s v e → Later (λ k. IsApart (near k r u) (near k s v) (scaled_edge k e))
later-apart r u s v e a =
    let d = a.along in
    let A = λ (k : ℤ). IsLeftAlong d (near k r u) (scaled_point k e.from) in let B = λ (k : ℤ). IsLeftAlong d (near k r u) (scaled_point k e.to) in
    let C = λ (k : ℤ). IsLeftAlong d (near k s v) (scaled_point k e.from) in let D = λ (k : ℤ). IsLeftAlong d (near k s v) (scaled_point k e.to) in
    later-then (λ k. (A k × B k) × (C k × D k)) (λ k. IsApart (near k r u) (near k s v) (scaled_edge k e))
    (λ k hk g. record { along = d; first_from = g.0.0; first_to = g.0.1; last_from = g.1.0; last_to = g.1.1 })
    (later-both (λ k. A k × B k) (λ k. C k × D k)
    (later-both A B (later-left d r u e.from a.first_from) (later-left d r u e.to a.first_to))
    (later-both C D (later-left d s v e.from a.last_from) (later-left d s v e.to a.last_to)))

-- steps that are apart stay so near their ends
pub apart-near : (p q : Vector) (e : Edge) → IsApart p q e → (u v : Vector) → IsNearApart p u q v e
apart-near p q e a u v = record { along = a.along; first_from = inl a.first_from; first_to = inl a.first_to; last_from = inl a.last_from; last_to = inl a.last_to }

-- no edge of the list is met
pub later-free : (r u s v : Vector) (es : List Edge) → ((e : Edge) → In e es → IsNearApart r u s v e) → Later (λ k. IsFreeStep (scaled_edges k es) (near k r u) (near k s v))
later-free r u s v es h =
    later-then (λ k. (e : Edge) → In e es → IsApart (near k r u) (near k s v) (scaled_edge k e)) (λ k. IsFreeStep (scaled_edges k es) (near k r u) (near k s v))
    (λ k hk g e i. let t = in-map-out (scaled_edge k) es e i in subst (λ w. IsApart (near k r u) (near k s v) w) (sym t.2) (g t.0 t.1))
    (later-all (λ e k. IsApart (near k r u) (near k s v) (scaled_edge k e)) es (λ e i. later-apart r u s v e (h e i)))
