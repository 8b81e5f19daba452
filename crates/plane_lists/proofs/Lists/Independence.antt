-- How often a ray from a point crosses a closed list of edges does not depend on its direction.
use Rattle.std.proofs.Common.{All, List, [], arith, map, refl, sym, ℕ, ◌%◌, ◌+◌, ◌∙◌, ◌∷◌, ◌≡◌}
use Rattle.std.proofs.lemmas.List.Elements.{All-head, All-tail}
use Rattle.std.specs.List.{sum_by}
use borrow.Author.Differences.{ints}
use lib.IntN.{pos, ◌-ℤ◌}
use Rattle.plane.specs.Edge.{Edge}
use Rattle.plane.specs.RayCrossing.{IsOff, IsOffEdge, down_crossing, up_crossing}
use Rattle.plane.specs.Sector.{in_sector}
use Rattle.plane.specs.Vector.{IsNonZero, Vector, from_to, one_at}
use Rattle.plane_lists.specs.Lists.EdgeList.{IsBalanced, IsEvenAtPoints, crossing_count, down_count, starts_in, stops_in, up_count, winding_number}
use Rattle.plane_lists.specs.Lists.Parity.{IsEven}
use Rattle.plane.proofs.PlaneKit.{down_seen, up_seen, sector_lemma}
use Rattle.lists.proofs.ListsKit.{total, total-+, total-is, total-map}
use Rattle.plane_lists.proofs.Lists.Sums.{even-total, same-total}

-- the crossings of the ray from the origin in the direction d, where r places the points: `from_to p` places them as p sees them
abbrev pub crossing_count_seen : Vector → (Vector → Vector) → List Edge → ℕ
crossing_count_seen d r es = sum_by (λ (e : Edge). up_crossing d (r e.from) (r e.to) + down_crossing d (r e.from) (r e.to)) es

abbrev pub IsOffSeen : (Vector → Vector) → Edge → Type 0
IsOffSeen r e = IsOff (r e.from) (r e.to)

abbrev pub in_sector_seen : Vector → Vector → (Vector → Vector) → Vector → ℕ
in_sector_seen d c r q = in_sector d c (r q)

join : (u v i u' v' j us vs is us' vs' js : ℕ) → u + v + i ≡ u' + v' + j → us + vs + is ≡ us' + vs' + js → (u + us) + (v + vs) + (i + is) ≡ (u' + us') + (v' + vs') + (j + js)
join u v i u' v' j us vs is us' vs' js e f = omega arith

-- the wedge lemma, summed
pub sector_sum : (d c : Vector) (r : Vector → Vector) → IsNonZero d → IsNonZero c → (es : List Edge) → All (IsOffSeen r) es →
    total (up_seen d r) es + total (down_seen c r) es + total (λ (e : Edge). in_sector_seen d c r e.from) es ≡ total (up_seen c r) es + total (down_seen d r) es + total (λ (e : Edge). in_sector_seen d c r e.to) es
sector_sum d c r hd hc [] off = refl
sector_sum d c r hd hc (e ∷ es) off =
    join _ _ _ _ _ _ _ _ _ _ _ _ (sector_lemma d c (r e.from) (r e.to) hd hc (All-head (IsOffSeen r) e es off))
    (sector_sum d c r hd hc es (All-tail (IsOffSeen r) e es off))

pub up_count_independent : (d c p : Vector) → IsNonZero d → IsNonZero c → (es : List Edge) → All (IsOffEdge p) es → IsBalanced es →
    up_count d p es + down_count c p es ≡ up_count c p es + down_count d p es
up_count_independent d c p hd hc es off balanced =
    let s = sector_sum d c (from_to p) hd hc es off in
    let froms = map (λ (e : Edge). e.from) es in let tos = map (λ (e : Edge). e.to) es in
    let same = same-total (in_sector_seen d c (from_to p)) froms tos (λ v. total-map (one_at v) (λ (e : Edge). e.from) es ∙ total-is _ es ∙ balanced v ∙ sym (total-is _ es) ∙ sym (total-map (one_at v) (λ (e : Edge). e.to) es)) in
    omega (arith, s, same, total-map (in_sector_seen d c (from_to p)) (λ (e : Edge). e.from) es, total-map (in_sector_seen d c (from_to p)) (λ (e : Edge). e.to) es, total-is (up_seen d (from_to p)) es, total-is (down_seen c (from_to p)) es, total-is (up_seen c (from_to p)) es, total-is (down_seen d (from_to p)) es)

pub winding_independent : (d c p : Vector) → IsNonZero d → IsNonZero c → (es : List Edge) → All (IsOffEdge p) es → IsBalanced es →
    winding_number d p es ≡ winding_number c p es
winding_independent d c p hd hc es off balanced =
    let h = up_count_independent d c p hd hc es off balanced in omega (arith, ints)

-- ---- parity
abbrev pub ends : List Edge → List Vector
ends [] = []
ends (e ∷ es) = e.from ∷ (e.to ∷ ends es)

pub total-ends : (f : Vector → ℕ) (es : List Edge) → total f (ends es) ≡ total (λ (e : Edge). f e.from + f e.to) es
total-ends f [] = refl
total-ends f (e ∷ es) = let h = total-ends f es in omega arith

pub even-at-ends : (f : Vector → ℕ) (es : List Edge) → IsEvenAtPoints es → IsEven (total f (ends es))
even-at-ends f es even = even-total f (ends es) (λ v. rw (total-ends (one_at v) es ∙ total-is (λ (e : Edge). one_at v e.from + one_at v e.to) es) (even v))

pub count-is : (d : Vector) (r : Vector → Vector) (es : List Edge) → crossing_count_seen d r es ≡ total (up_seen d r) es + total (down_seen d r) es
count-is d r es = sym (total-is (λ (e : Edge). up_seen d r e + down_seen d r e) es) ∙ total-+ (up_seen d r) (down_seen d r) es

pub parity_independent : (d c : Vector) (r : Vector → Vector) → IsNonZero d → IsNonZero c → (es : List Edge) → All (IsOffSeen r) es → IsEvenAtPoints es →
    crossing_count_seen d r es % 2 ≡ crossing_count_seen c r es % 2
parity_independent d c r hd hc es off even =
    let s = sector_sum d c r hd hc es off in
    let h = even-at-ends (in_sector_seen d c r) es even in
    let g = total-ends (in_sector_seen d c r) es ∙ total-+ (λ (e : Edge). in_sector_seen d c r e.from) (λ (e : Edge). in_sector_seen d c r e.to) es in
    omega (arith, s, h, g, count-is d r es, count-is c r es)

-- ---- turning the ray
pub turning_winding : (d e p : Vector) → IsNonZero d → IsNonZero e → (es : List Edge) → All (IsOffEdge p) es →
    winding_number d p es -ℤ winding_number e p es ≡ pos (stops_in d e p es) -ℤ pos (starts_in d e p es)
turning_winding d e p hd he es off =
    let s = sector_sum d e (from_to p) hd he es off in
    let a = total-is (up_seen d (from_to p)) es in let b = total-is (down_seen d (from_to p)) es in
    let f = total-is (up_seen e (from_to p)) es in let g = total-is (down_seen e (from_to p)) es in
    let h = total-is (λ (t : Edge). in_sector_seen d e (from_to p) t.from) es in let k = total-is (λ (t : Edge). in_sector_seen d e (from_to p) t.to) es in
    let n : up_count d p es + down_count e p es + starts_in d e p es ≡ up_count e p es + down_count d p es + stops_in d e p es = omega arith in
    omega (arith, ints)

pub turning_parity : (d e p : Vector) → IsNonZero d → IsNonZero e → (es : List Edge) → All (IsOffEdge p) es →
    (crossing_count d p es + crossing_count e p es) % 2 ≡ (starts_in d e p es + stops_in d e p es) % 2
turning_parity d e p hd he es off =
    let s = sector_sum d e (from_to p) hd he es off in
    let a = count-is d (from_to p) es in let b = count-is e (from_to p) es in
    let h = total-is (λ (t : Edge). in_sector_seen d e (from_to p) t.from) es in let k = total-is (λ (t : Edge). in_sector_seen d e (from_to p) t.to) es in
    omega arith
