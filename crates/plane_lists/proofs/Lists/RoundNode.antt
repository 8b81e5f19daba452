-- Round a point: how the crossings of the ray change with its direction.
use Rattle.std.proofs.Common.{All, Bool, List, [], ap, arith, cond, false, not, refl, subst, sym, true, ℕ, ◌%◌, ◌+◌, ◌||◌, ◌∙◌, ◌∷◌, ◌≡◌}
use Rattle.std.proofs.lemmas.List.Elements.{All-cons, All-nil}
use Rattle.std.proofs.lemmas.List.Filters.{sum_by-filter_both}
use Rattle.plane.specs.Edge.{Edge, ends_at, other_end}
use Rattle.plane.specs.RayCrossing.{IsOffEdge, is_off}
use Rattle.plane.specs.Sector.{in_sector}
use Rattle.plane.specs.Vector.{IsNonZero, Vector, from_to, same_point}
use Rattle.plane_lists.specs.Lists.EdgeList.{IsEvenAtPoints, crossing_count}
use Rattle.plane_lists.specs.Lists.Node.{away, edges_off, ends_in, spokes, spokes_in}
use Rattle.plane.proofs.PlaneKit.{edge_of, same_point-refl, same_point-true, here-outside}
use Rattle.plane_lists.proofs.Lists.Independence.{count-is, even-at-ends, in_sector_seen, sector_sum, total-ends}
use Rattle.lists.proofs.ListsKit.{total, total-+, total-is}

-- at an edge that ends at v, the end at v is in no sector
one-end : (d c v : Vector) (e : Edge) (b b' : Bool) → same_point v e.from ≡ b → same_point v e.to ≡ b' → (b || b') ≡ true →
    in_sector_seen d c (from_to v) e.from + in_sector_seen d c (from_to v) e.to ≡ in_sector_seen d c (from_to v) (cond b e.to e.from)
one-end d c v e true b' h k t =
    let z = here-outside d c v in let s = ap (in_sector_seen d c (from_to v)) (same_point-true v e.from h) in omega arith
one-end d c v e false true h k t =
    let z = here-outside d c v in let s = ap (in_sector_seen d c (from_to v)) (same_point-true v e.to k) in omega arith
one-end d c v e false false h k t = absurd (cc t)

spokes-step : (f g : Edge → ℕ) (e : Edge) (xs : List Edge) (b : Bool) → (b ≡ true → f e ≡ g e) → total f xs ≡ total g xs → total f (cond b (e ∷ xs) xs) ≡ total g (cond b (e ∷ xs) xs)
spokes-step f g e xs true h k = let m = h refl in omega arith
spokes-step f g e xs false h k = k

spokes-total : (d c v : Vector) (es : List Edge) →
    total (λ (e : Edge). in_sector_seen d c (from_to v) e.from + in_sector_seen d c (from_to v) e.to) (spokes v es) ≡ total (λ (e : Edge). in_sector_seen d c (from_to v) (other_end v e)) (spokes v es)
spokes-total d c v [] = refl
spokes-total d c v (e ∷ es) =
    spokes-step (λ (e : Edge). in_sector_seen d c (from_to v) e.from + in_sector_seen d c (from_to v) e.to) (λ (e : Edge). in_sector_seen d c (from_to v) (other_end v e)) e (spokes v es) (ends_at v e)
    (λ t. one-end d c v e (same_point v e.from) (same_point v e.to) refl refl t) (spokes-total d c v es)

-- from one direction to another, the crossings of the edges that do not end at v change by as many, modulo 2, as edges at v leave in the sector between
pub parity_round_node : (d c v : Vector) (es : List Edge) → IsNonZero d → IsNonZero c → IsEvenAtPoints es → All (IsOffEdge v) (away v es) →
    (crossing_count d v (away v es) + crossing_count c v (away v es)) % 2 ≡ spokes_in d c v es % 2
parity_round_node d c v es hd hc even off =
    let s = sector_sum d c (from_to v) hd hc (away v es) off in
    let f = λ (e : Edge). in_sector_seen d c (from_to v) e.from + in_sector_seen d c (from_to v) e.to in
    let h = even-at-ends (in_sector_seen d c (from_to v)) es even in
    let g = total-ends (in_sector_seen d c (from_to v)) es ∙ total-is f es in
    let k = sum_by-filter_both (ends_at v) (λ (e : Edge). not (ends_at v e)) (λ e. refl) f es in
    let m = spokes-total d c v es in
    let a = total-is f (away v es) in let b = total-is f (spokes v es) in
    let n = total-is (λ (e : Edge). in_sector_seen d c (from_to v) (other_end v e)) (spokes v es) in
    let q = total-+ (λ (e : Edge). in_sector_seen d c (from_to v) e.from) (λ (e : Edge). in_sector_seen d c (from_to v) e.to) (away v es) in
    let x = count-is d (from_to v) (away v es) in let y = count-is c (from_to v) (away v es) in
    omega arith

all-clear-step : (p : Vector) (e : Edge) (ys : List Edge) → (b : Bool) → is_off p e ≡ b → All (IsOffEdge p) ys → All (IsOffEdge p) (cond b (e ∷ ys) ys)
all-clear-step p e ys true h all = All-cons (IsOffEdge p) e ys h all
all-clear-step p e ys false h all = all

pub all-clear : (p : Vector) (es : List Edge) → All (IsOffEdge p) (edges_off p es)
all-clear p [] = All-nil (IsOffEdge p)
all-clear p (e ∷ es) = all-clear-step p e (edges_off p es) (is_off p e) refl (all-clear p es)

-- the same at any point, also one that is inside edges: the ends of the edges that it is on count
pub parity_round_point : (d c p : Vector) (es : List Edge) → IsNonZero d → IsNonZero c → IsEvenAtPoints es →
    (crossing_count d p (edges_off p es) + crossing_count c p (edges_off p es)) % 2 ≡ ends_in d c p es % 2
parity_round_point d c p es hd hc even =
    let s = sector_sum d c (from_to p) hd hc (edges_off p es) (all-clear p es) in
    let f = λ (e : Edge). in_sector_seen d c (from_to p) e.from + in_sector_seen d c (from_to p) e.to in
    let h = even-at-ends (in_sector_seen d c (from_to p)) es even in
    let g = total-ends (in_sector_seen d c (from_to p)) es ∙ total-is f es in
    let k = sum_by-filter_both (is_off p) (λ (e : Edge). not (is_off p e)) (λ e. refl) f es in
    let a = total-is f (edges_off p es) in
    let q = total-+ (λ (e : Edge). in_sector_seen d c (from_to p) e.from) (λ (e : Edge). in_sector_seen d c (from_to p) e.to) (edges_off p es) in
    let x = count-is d (from_to p) (edges_off p es) in let y = count-is c (from_to p) (edges_off p es) in
    omega arith

-- ---- with an edge from v to w
away-with : (v w : Vector) (es : List Edge) → away v (edge_of v w ∷ es) ≡ away v es
away-with v w es = ap (λ b. cond (not (b || same_point v w)) (edge_of v w ∷ away v es) (away v es)) (same_point-refl v)

spokes-with : (d e v w : Vector) (es : List Edge) → spokes_in d e v (edge_of v w ∷ es) ≡ in_sector d e (from_to v w) + spokes_in d e v es
spokes-with d e v w es =
    let f = λ (t : Edge). in_sector d e (from_to v (other_end v t)) in
    sym (total-is f (spokes v (edge_of v w ∷ es)))
    ∙ ap (λ b. total f (cond (b || same_point v w) (edge_of v w ∷ spokes v es) (spokes v es))) (same_point-refl v)
    ∙ ap (λ b. in_sector d e (from_to v (cond b w v)) + total f (spokes v es)) (same_point-refl v)
    ∙ ap (λ n. in_sector d e (from_to v w) + n) (total-is f (spokes v es))

pub parity_round_node_but_edge : (d e v w : Vector) (es : List Edge) → IsNonZero d → IsNonZero e → IsEvenAtPoints (edge_of v w ∷ es) → All (IsOffEdge v) (away v es) →
    (crossing_count d v (away v es) + crossing_count e v (away v es)) % 2 ≡ (spokes_in d e v es + in_sector d e (from_to v w)) % 2
parity_round_node_but_edge d e v w es hd he even off =
    let a = away-with v w es in
    let b = parity_round_node d e v (edge_of v w ∷ es) hd he even (subst (λ l. All (IsOffEdge v) l) (sym a) off) in
    let f = ap (λ l. crossing_count d v l) a in let g = ap (λ l. crossing_count e v l) a in let h = spokes-with d e v w es in
    omega arith
