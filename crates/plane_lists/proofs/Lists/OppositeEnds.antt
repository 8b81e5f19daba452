-- The counts from the two ends of an edge, away from each other past the edge, differ by one modulo 2.
use Rattle.std.proofs.Common.{All, List, ap, arith, cond, not, sym, true, ℕ, ◌%◌, ◌+◌, ◌∙◌, ◌≡◌}
use Rattle.std.proofs.lemmas.List.Elements.{All-weaker}
use Rattle.plane.specs.Edge.{Edge, ends_at, same_edge}
use Rattle.plane.specs.FreeSegment.{Misses}
use Rattle.plane.specs.RayCrossing.{IsOffEdge}
use Rattle.plane.specs.Sector.{in_sector}
use Rattle.plane.specs.Vector.{Vector, from_to}
use Rattle.plane_lists.specs.Lists.ConflictFree.{IsConflictFree, others}
use Rattle.plane_lists.specs.Lists.EdgeList.{IsEvenAtPoints, crossing_count}
use Rattle.lists.specs.Member.{In}
use Rattle.plane_lists.specs.Lists.Node.{away}
use Rattle.plane.proofs.PlaneKit.{ends_at-from, ends_at-to, misses_reversed, rising-direction, direction-back, crossings_at, opposite-in, own-out, mid, mid-first, mid-last, mid_reversed, view_mid}
use Rattle.plane_lists.proofs.Lists.AlongSegment.{along_from, off_all}
use Rattle.plane_lists.proofs.Lists.ConflictFree.{misses_others, off_away, rising_in, split_off}
use Rattle.plane_lists.proofs.Lists.Independence.{count-is, crossing_count_seen, even-at-ends, in_sector_seen, sector_sum, total-ends}
use Rattle.lists.proofs.ListsKit.{all-in, in-all, in-filter, in-passes, into-filter, total, total-+, total-filter, total-is}

abbrev pub beyond : Vector → Vector → Edge → ℕ
beyond d v t = cond (not (ends_at v t)) (crossings_at d (from_to v) t) 0

pub crossings-away : (d v : Vector) (es : List Edge) → crossing_count d v (away v es) ≡ total (beyond d v) es
crossings-away d v es = sym (total-is (crossings_at d (from_to v)) (away v es)) ∙ total-filter (λ (t : Edge). not (ends_at v t)) (crossings_at d (from_to v)) es

own-beyond : (d v : Vector) (s : Edge) → ends_at v s ≡ true → beyond d v s ≡ 0
own-beyond d v s h = ap (λ b. cond (not b) (crossings_at d (from_to v) s) 0) h

pub away-others : (d v : Vector) (s : Edge) (es : List Edge) → IsConflictFree es → In s es → ends_at v s ≡ true → crossing_count d v (away v es) ≡ crossing_count d v (away v (others s es))
away-others d v s es p i h =
    let a = crossings-away d v es in let b = crossings-away d v (others s es) in
    let c = split_off (beyond d v) s es p i in let e = own-beyond d v s h in omega arith

pub off-others : (v : Vector) (s : Edge) (es : List Edge) → IsConflictFree es → In s es → ends_at v s ≡ true → All (IsOffEdge v) (away v (others s es))
off-others v s es p i h = all-in (IsOffEdge v) (away v (others s es)) (λ t j.
    let k = in-filter (λ (t : Edge). not (same_edge s t)) es t (in-filter (λ (t : Edge). not (ends_at v t)) (others s es) t j) in
    in-all (IsOffEdge v) (away v es) t (off_away v s es p i h) (into-filter (λ (t : Edge). not (ends_at v t)) es t k (in-passes (λ (t : Edge). not (ends_at v t)) (others s es) t j)))

pub opposite_odd : (s : Edge) (es : List Edge) → IsConflictFree es → IsEvenAtPoints es → In s es →
    (crossing_count (from_to s.from s.to) s.from (away s.from es) + crossing_count (from_to s.to s.from) s.to (away s.to es)) % 2 ≡ 1
opposite_odd s es p even i =
    let a = s.from in let b = s.to in let d = from_to a b in let c = from_to b a in let m = mid a b in let os = others s es in
    let hd = rising-direction a b (rising_in es s p i) in let hc = direction-back a b hd in
    let miss = misses_others s es p i in
    let v = view_mid a b hd in let v' = view_mid b a hc in
    let w = sector_sum d c m hd hc os (off_all a b m v os miss) in
    let x = count-is d m os in let y = count-is c m os in
    let f = λ (e : Edge). in_sector_seen d c m e.from + in_sector_seen d c m e.to in
    let g = total-ends (in_sector_seen d c m) es in let h = even-at-ends (in_sector_seen d c m) es even in
    let k = split_off f s es p i in
    let l = total-+ (λ (e : Edge). in_sector_seen d c m e.from) (λ (e : Edge). in_sector_seen d c m e.to) os in
    let n : in_sector_seen d c m a ≡ 1 = ap (in_sector d c) (mid-first a b) ∙ opposite-in a b hd in
    let o : in_sector_seen d c m b ≡ 0 = ap (in_sector d c) (mid-last a b) ∙ own-out a b hd in
    let q = along_from a b m v os miss (off-others a s es p i (ends_at-from s)) in
    let r = along_from b a (mid b a) v' os (All-weaker (Misses a b) (Misses b a) (misses_reversed a b) os miss) (off-others b s es p i (ends_at-to s)) in
    let t : crossing_count_seen c (mid a b) os ≡ crossing_count_seen c (mid b a) os = ap (λ (r : Vector → Vector). crossing_count_seen c r os) (mid_reversed a b) in
    let z = away-others d a s es p i (ends_at-from s) in let z' = away-others c b s es p i (ends_at-to s) in
    omega arith
