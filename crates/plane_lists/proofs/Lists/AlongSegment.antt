-- Along a segment that no edge meets, the crossings stay the same modulo 2.
use Rattle.std.proofs.Common.{All, Bool, List, [], ap, arith, cond, false, not, refl, sym, true, ℕ, ◌%◌, ◌+◌, ◌∙◌, ◌∷◌, ◌≡◌}
use Rattle.std.proofs.lemmas.List.Elements.{All-head, All-tail, All-weaker}
use borrow.Author.Differences.{ints}
use Rattle.plane.specs.Edge.{Edge, ends_at}
use Rattle.plane.specs.FreeSegment.{IsBetween, Misses}
use Rattle.plane.specs.RayCrossing.{IsOffEdge, down_by, up_by}
use Rattle.plane.specs.Sign.{Sign}
use Rattle.plane.specs.Vector.{IsNonZero, Vector, from_to, same_point}
use Rattle.plane_lists.specs.Lists.EdgeList.{IsBalanced, IsEvenAtPoints, crossing_count, winding_number}
use Rattle.plane_lists.specs.Lists.Node.{away, spokes_in}
use Rattle.plane.proofs.PlaneKit.{Sound, crossings-by, crossings_0, crossings_seen, down_compute, down_sound, misses_reversed, none_here, off_when_missed, past_edge, up_compute, up_sound, down_seen, up_seen, View, mid, mid_reversed, view_at, view_mid}
use Rattle.plane.proofs.SignKit.{same, all4}
use Rattle.plane_lists.proofs.Lists.Independence.{IsOffSeen, count-is, crossing_count_seen, parity_independent, winding_independent}
use Rattle.plane_lists.proofs.Lists.RoundNode.{parity_round_node}
use Rattle.lists.proofs.ListsKit.{total, total-is}

-- an edge that does not meet the segment is hit by the rays along it from everywhere inside it, or from nowhere
pub same_crossings : (g : Sign → Sign → Sign → ℕ) → all4 (crossings_0 g) ≡ true → (s t : Vector) (r q : Vector → Vector) → View s t r → View s t q → (es : List Edge) → All (Misses s t) es →
    total (crossings_seen g (from_to s t) r) es ≡ total (crossings_seen g (from_to s t) q) es
same_crossings g computes s t r q i j [] missed = refl
same_crossings g computes s t r q i j (e ∷ es) missed =
    let m = All-head (Misses s t) e es missed in
    let h = crossings-by s t r i e.from e.to g computes m ∙ sym (crossings-by s t q j e.from e.to g computes m) in
    let k = same_crossings g computes s t r q i j es (All-tail (Misses s t) e es missed) in
    cc

pub off_all : (s t : Vector) (r : Vector → Vector) → View s t r → (es : List Edge) → All (Misses s t) es → All (IsOffSeen r) es
off_all s t r i es missed = All-weaker (Misses s t) (IsOffSeen r) (λ e m. off_when_missed s t r i e.from e.to m) es missed

-- two points inside a segment that no edge meets: the rays from them cross the edges equally often modulo 2
pub parity_along_segment : (d s t p q : Vector) (es : List Edge) → IsNonZero d → IsEvenAtPoints es → All (Misses s t) es → IsBetween s t p → IsBetween s t q →
    crossing_count d p es % 2 ≡ crossing_count d q es % 2
parity_along_segment d s t p q es hd even missed i j =
    let st = from_to s t in let v = view_at s t p i in let w = view_at s t q j in
    let a = parity_independent d st (from_to p) hd v.direction es (off_all s t (from_to p) v es missed) even in
    let b = parity_independent d st (from_to q) hd w.direction es (off_all s t (from_to q) w es missed) even in
    let c = same_crossings up_by up_compute s t (from_to p) (from_to q) v w es missed in
    let e = same_crossings down_by down_compute s t (from_to p) (from_to q) v w es missed in
    let f = count-is st (from_to p) es in let g = count-is st (from_to q) es in
    omega arith

-- with directions: the winding numbers are the same
pub winding_along_segment : (d s t p q : Vector) (es : List Edge) → IsNonZero d → IsBalanced es → All (Misses s t) es → IsBetween s t p → IsBetween s t q →
    winding_number d p es ≡ winding_number d q es
winding_along_segment d s t p q es hd balanced missed i j =
    let st = from_to s t in let v = view_at s t p i in let w = view_at s t q j in
    let a = winding_independent d st p hd v.direction es (off_all s t (from_to p) v es missed) balanced in
    let b = winding_independent d st q hd w.direction es (off_all s t (from_to q) w es missed) balanced in
    let c = same_crossings up_by up_compute s t (from_to p) (from_to q) v w es missed in
    let e = same_crossings down_by down_compute s t (from_to p) (from_to q) v w es missed in
    let f = total-is (up_seen st (from_to p)) es in let g = total-is (up_seen st (from_to q)) es in
    let h = total-is (down_seen st (from_to p)) es in let k = total-is (down_seen st (from_to q)) es in
    a ∙ (let m : winding_number st p es ≡ winding_number st q es = omega (arith, ints) in m) ∙ sym b

join_step : (f h : Edge → ℕ) (s : Vector) (e : Edge) (xs ys : List Edge) → (b : Bool) → (b ≡ true → f e ≡ 0) → (IsOffEdge s e → f e ≡ h e) →
    (All (IsOffEdge s) ys → total f xs ≡ total h ys) → All (IsOffEdge s) (cond (not b) (e ∷ ys) ys) → f e + total f xs ≡ total h (cond (not b) (e ∷ ys) ys)
join_step f h s e xs ys true z same rest off = let a = z refl in let r = rest off in omega arith
join_step f h s e xs ys false z same rest off =
    let a = same (All-head (IsOffEdge s) e ys off) in let r = rest (All-tail (IsOffEdge s) e ys off) in omega arith

pub join_total : (g : Sign → Sign → Sign → ℕ) → Sound g → (s t : Vector) (r : Vector → Vector) → View s t r → (es : List Edge) → All (Misses s t) es → All (IsOffEdge s) (away s es) →
    total (crossings_seen g (from_to s t) r) es ≡ total (crossings_seen g (from_to s t) (from_to s)) (away s es)
join_total g k s t r i [] missed off = refl
join_total g k s t r i (e ∷ es) missed off =
    join_step (crossings_seen g (from_to s t) r) (crossings_seen g (from_to s t) (from_to s)) s e es (away s es) (ends_at s e)
    (λ c. none_here g k s t r e i (same_point s e.from) (same_point s e.to) refl refl c)
    (λ o. past_edge s t r i e.from e.to g k.past (All-head (Misses s t) e es missed) o)
    (λ o. join_total g k s t r i es (All-tail (Misses s t) e es missed) o) off

-- the rays along a free segment from s: from s, past the edges that end at s, and from inside
pub along_from : (s t : Vector) (r : Vector → Vector) → View s t r → (es : List Edge) → All (Misses s t) es → All (IsOffEdge s) (away s es) →
    crossing_count_seen (from_to s t) r es ≡ crossing_count (from_to s t) s (away s es)
along_from s t r i es missed off =
    let st = from_to s t in
    let a = join_total up_by up_sound s t r i es missed off in let b = join_total down_by down_sound s t r i es missed off in
    let f = count-is st r es in let h = count-is st (from_to s) (away s es) in omega arith

-- and so the parity at a point inside, by a ray in any direction
pub parity_from_end : (d s t p : Vector) (es : List Edge) → IsNonZero d → IsBetween s t p → IsEvenAtPoints es → All (Misses s t) es → All (IsOffEdge s) (away s es) →
    crossing_count d p es % 2 ≡ crossing_count (from_to s t) s (away s es) % 2
parity_from_end d s t p es hd i even missed off =
    let v = view_at s t p i in
    let a = parity_independent d (from_to s t) (from_to p) hd v.direction es (off_all s t (from_to p) v es missed) even in
    a ∙ ap (λ (n : ℕ). n % 2) (along_from s t (from_to p) v es missed off)

-- two free segments from v: the parities inside them differ by the number of edges at v in the sector from one to the other
pub parity_between_segments : (d v s t p q : Vector) (es : List Edge) → IsNonZero d → IsBetween v s p → IsBetween v t q → IsEvenAtPoints es →
    All (Misses v s) es → All (Misses v t) es → All (IsOffEdge v) (away v es) →
    (crossing_count d p es + crossing_count d q es) % 2 ≡ spokes_in (from_to v s) (from_to v t) v es % 2
parity_between_segments d v s t p q es hd i j even ms mt off =
    let a = parity_from_end d v s p es hd i even ms off in let b = parity_from_end d v t q es hd j even mt off in
    let f = view_at v s p i in let g = view_at v t q j in
    let c = parity_round_node (from_to v s) (from_to v t) v es f.direction g.direction even off in
    omega arith

-- the parity along a free segment is the same from both its ends
pub parity_from_both_ends : (s t : Vector) (es : List Edge) → IsNonZero (from_to s t) → IsNonZero (from_to t s) → IsEvenAtPoints es → All (Misses s t) es → All (IsOffEdge s) (away s es) → All (IsOffEdge t) (away t es) →
    crossing_count (from_to s t) s (away s es) % 2 ≡ crossing_count (from_to t s) t (away t es) % 2
parity_from_both_ends s t es hs ht even missed off_s off_t =
    let i = view_mid s t hs in let j = view_mid t s ht in
    let a = along_from s t (mid s t) i es missed off_s in
    let b = along_from t s (mid t s) j es (All-weaker (Misses s t) (Misses t s) (misses_reversed s t) es missed) off_t in
    let c = parity_independent (from_to s t) (from_to t s) (mid s t) hs ht es (off_all s t (mid s t) i es missed) even in
    let m = ap (λ (r : Vector → Vector). crossing_count_seen (from_to t s) r es) (mid_reversed s t) in
    omega arith
