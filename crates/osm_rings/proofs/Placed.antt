-- The edges at the places of pieces, and sums over them.
use Rattle.std.proofs.Common.{◌≡◌, ℕ, suc, zero, ◌+◌, ◌<◌, List, [], ◌∷◌, ◌++◌, length, get_or, map, take, drop, All, refl, sym, ap, subst, ◌∙◌, arith, sum_by}
use Rattle.std.proofs.lemmas.List.{append_assoc, append-nil, drop_more, get_or_append_left, length-append, length-drop, length-take-le, map-append, take_all, take_more}
use Rattle.std.proofs.lemmas.List.Elements.{All-append, All-cons, All-nil}
use Rattle.std.proofs.lemmas.List.Sums.{sum_by-cons, sum_by-append, sum_by_more}
use Rattle.orbits.specs.Cutting.{AreCutOff}
use Rattle.orbits.specs.OnceLaws.{sum_below}
use Rattle.osm_geom.specs.declared.edge.Edge.{Edge}
use Rattle.osm_rings.specs.Numbered.{edge_at}
use Rattle.osm_rings.specs.Pieces.{AreAllCut, edges_at}
use Rattle.osm_geom.specs.InPlane.Multiple.{IsWholeAt, edge_times, edges_times}
use Rattle.osm_rings.proofs.Multiplied.{pick, read-edge}

pub one-at : (es : List Edge) (k : ℕ) (d : Edge) → k < length es → take 1 (drop k es) ≡ get_or es k d ∷ []
one-at es k d h = ap (take 1) (drop_more es k d h)

pub edges_at-more : (es : List Edge) (ks : List ℕ) (k : ℕ) → edges_at es (ks ++ k ∷ []) ≡ edges_at es ks ++ take 1 (drop k es)
edges_at-more es [] k = append-nil (take 1 (drop k es))
edges_at-more es (x ∷ ks) k = ap (λ r. take 1 (drop x es) ++ r) (edges_at-more es ks k) ∙ sym (append_assoc (take 1 (drop x es)) (edges_at es ks) (take 1 (drop k es)))

-- as edges of the plane
pub placed-map : (m : ℕ) (es : List Edge) (ks : List ℕ) → All (λ k. k < length es) ks → edges_times m (edges_at es ks) ≡ map (edge_at (edges_times m es)) ks
placed-map m es [] low = refl
placed-map m es (k ∷ ks) low =
    let h : k < length es = low 0 0 (omega arith) in
    let d = pick es (omega arith) in
    let rest = placed-map m es ks (λ i z l. low (suc i) z (omega arith)) in
    map-append (edge_times m) (take 1 (drop k es)) (edges_at es ks)
    ∙ (ap (λ xs. edges_times m xs ++ edges_times m (edges_at es ks)) (one-at es k d h)
    ∙ (ap (λ x. x ∷ edges_times m (edges_at es ks)) (sym (read-edge m es k d h)) ∙ ap (λ xs. edge_at (edges_times m es) k ∷ xs) rest))

-- what is whole stays whole
pub placed-whole : (m : ℕ) (es : List Edge) (ks : List ℕ) → All (IsWholeAt m) es → All (λ k. k < length es) ks → All (IsWholeAt m) (edges_at es ks)
placed-whole m es [] whole low = All-nil (IsWholeAt m)
placed-whole m es (k ∷ ks) whole low =
    let h : k < length es = low 0 0 (omega arith) in
    let d = pick es (omega arith) in
    let rest = placed-whole m es ks whole (λ i z l. low (suc i) z (omega arith)) in
    subst (λ xs. All (IsWholeAt m) (xs ++ edges_at es ks)) (sym (one-at es k d h)) (All-cons (IsWholeAt m) (get_or es k d) (edges_at es ks) (whole k d h) rest)

-- ---- sums
sum-placed : (es : List Edge) (f : Edge → ℕ) (ks : List ℕ) → sum_by f (edges_at es ks) ≡ sum_by (λ k. sum_by f (take 1 (drop k es))) ks
sum-placed es f [] = refl
sum-placed es f (k ∷ ks) =
    sum_by-append f (take 1 (drop k es)) (edges_at es ks)
    ∙ (ap (λ n. sum_by f (take 1 (drop k es)) + n) (sum-placed es f ks) ∙ sym (sum_by-cons (λ k. sum_by f (take 1 (drop k es))) k ks))

sums-placed : (es : List Edge) (f : Edge → ℕ) (pieces : List (List ℕ)) → sum_by (λ r. sum_by f r) (map (edges_at es) pieces) ≡ sum_by (λ p. sum_by (λ k. sum_by f (take 1 (drop k es))) p) pieces
sums-placed es f [] = refl
sums-placed es f (p ∷ ps) =
    sum_by-cons (λ r. sum_by f r) (edges_at es p) (map (edges_at es) ps)
    ∙ (rw (sum-placed es f p, sums-placed es f ps) (sym (sum_by-cons (λ p. sum_by (λ k. sum_by f (take 1 (drop k es))) p) p ps)))

sum-front : (es : List Edge) (f : Edge → ℕ) (n : ℕ) → n < length es + 1 → sum_below (λ k. sum_by f (take 1 (drop k es))) n ≡ sum_by f (take n es)
sum-front es f zero h = refl
sum-front es f (suc n) h =
    let d = pick es (omega arith) in
    let rest = sum-front es f n (omega arith) in
    let here : sum_by f (take 1 (drop n es)) ≡ f (get_or es n d) = ap (sum_by f) (one-at es n d (omega arith)) ∙ only (get_or es n d) in
    let more = sum_by_more f es n d (omega arith) in
    let same : suc n ≡ n + 1 = omega arith in
    ap (λ m. m + sum_by f (take 1 (drop n es))) rest ∙ (ap (λ m. sum_by f (take n es) + m) here ∙ (sym more ∙ ap (λ m. sum_by f (take m es)) (sym same)))
  where
    only : (x : Edge) → sum_by f (x ∷ []) ≡ f x
    only x = let e = sum_by-cons f x [] in let none : sum_by f [] ≡ 0 = refl in omega arith

sum-cut : (g : ℕ → ℕ) (numbers w : List ℕ) (ps : List (List ℕ)) → AreCutOff numbers w ps → sum_by (λ p. sum_by g p) ps ≡ sum_by g w
sum-cut g numbers w [] none = ap (sum_by g) (sym none)
sum-cut g numbers w (p ∷ ps) (a, b, is, piece, rest) =
    let later = sum-cut g numbers (a ++ b) ps rest in
    let left = sum_by-append g a b in
    let outer = sum_by-append g a (p ++ b) in
    let inner = sum_by-append g p b in
    let head = sum_by-cons (λ p. sum_by g p) p ps in
    let whole = ap (sum_by g) is in
    omega arith

sum-all : (g : ℕ → ℕ) (numbers : List ℕ) (ws pieces : List (List ℕ)) → AreAllCut numbers ws pieces → sum_by (λ p. sum_by g p) pieces ≡ sum_by (λ w. sum_by g w) ws
sum-all g numbers [] pieces none = ap (sum_by (λ p. sum_by g p)) none
sum-all g numbers (w ∷ ws) pieces (ps, qs, is, cut, rest) =
    let here = sum-cut g numbers w ps cut in
    let later = sum-all g numbers ws qs rest in
    let head = sum_by-cons (λ w. sum_by g w) w ws in
    let parts = sum_by-append (λ p. sum_by g p) ps qs in
    let whole = ap (sum_by (λ p. sum_by g p)) is in
    omega arith

-- the pieces of walks that share out the edges hold each edge once
pub sums-whole : (es : List Edge) (numbers : List ℕ) (ws pieces : List (List ℕ)) → AreAllCut numbers ws pieces → ((g : ℕ → ℕ) → sum_by (λ w. sum_by g w) ws ≡ sum_below g (length es)) → (f : Edge → ℕ) → sum_by (λ r. sum_by f r) (map (edges_at es) pieces) ≡ sum_by f es
sums-whole es numbers ws pieces cut sums f =
    let g : ℕ → ℕ = λ k. sum_by f (take 1 (drop k es)) in
    sums-placed es f pieces ∙ (sum-all g numbers ws pieces cut ∙ (sums g ∙ (sum-front es f (length es) (omega arith) ∙ ap (sum_by f) (take_all (length es) es (omega arith)))))

-- ---- the places of pieces are places of the walks
cut-below : (n : ℕ) (numbers w : List ℕ) (ps : List (List ℕ)) → AreCutOff numbers w ps → All (λ k. k < n) w → All (λ p. All (λ k. k < n) p) ps
cut-below n numbers w [] cut low = All-nil (λ p. All (λ k. k < n) p)
cut-below n numbers w (p ∷ ps) (a, b, is, piece, rest) low =
    let all : All (λ k. k < n) (a ++ (p ++ b)) = subst (λ xs. All (λ k. k < n) xs) is low in
    let low_a = left a (p ++ b) all in
    let low_pb = right a (p ++ b) all in
    All-cons (λ p. All (λ k. k < n) p) p ps (left p b low_pb) (cut-below n numbers (a ++ b) ps rest (All-append (λ k. k < n) a b low_a (right p b low_pb)))
  where
    left : (xs ys : List ℕ) → All (λ k. k < n) (xs ++ ys) → All (λ k. k < n) xs
    left xs ys h k d l = rw (get_or_append_left xs ys d k l) at (h k d (let e = length-append xs ys in omega arith))

    right : (xs ys : List ℕ) → All (λ k. k < n) (xs ++ ys) → All (λ k. k < n) ys
    right [] ys h = h
    right (x ∷ xs) ys h = right xs ys (λ k d l. h (suc k) d (omega arith))

pub all-below : (n : ℕ) (numbers : List ℕ) (ws pieces : List (List ℕ)) → AreAllCut numbers ws pieces → All (λ w. All (λ k. k < n) w) ws → All (λ p. All (λ k. k < n) p) pieces
all-below n numbers [] pieces none low = subst (λ ps. All (λ p. All (λ k. k < n) p) ps) (sym none) (All-nil (λ p. All (λ k. k < n) p))
all-below n numbers (w ∷ ws) pieces (ps, qs, is, cut, rest) low =
    subst (λ ps. All (λ p. All (λ k. k < n) p) ps) (sym is) (All-append (λ p. All (λ k. k < n) p) ps qs (cut-below n numbers w ps cut (low 0 [] (omega arith))) (all-below n numbers ws qs rest (λ k d l. low (suc k) d (omega arith))))

-- ---- the pieces of one more walk
pub all-cut-more : (numbers : List ℕ) (ws pieces : List (List ℕ)) (w : List ℕ) (ps : List (List ℕ)) → AreAllCut numbers ws pieces → AreCutOff numbers w ps → AreAllCut numbers (ws ++ w ∷ []) (pieces ++ ps)
all-cut-more numbers [] pieces w ps none cut = (ps, [], ap (λ r. r ++ ps) none ∙ sym (append-nil ps), cut, refl)
all-cut-more numbers (v ∷ ws) pieces w ps (qs, ts, is, here, later) cut =
    (qs, ts ++ ps, ap (λ r. r ++ ps) is ∙ append_assoc qs ts ps, here, all-cut-more numbers ws ts w ps later cut)

-- ---- one step of a loop
pub placed-more : (es : List Edge) (places : List ℕ) (n : ℕ) (found : List Edge) (x : Edge) → n < length places → found ≡ edges_at es (take n places) → x ≡ get_or es (get_or places n 0) x → get_or places n 0 < length es → found ++ x ∷ [] ≡ edges_at es (take (n + 1) places)
placed-more es places n found x h inv is l =
    let k = get_or places n 0 in
    let one : take 1 (drop k es) ≡ x ∷ [] = one-at es k x l ∙ ap (λ e. e ∷ []) (sym is) in
    ap (λ xs. xs ++ x ∷ []) inv ∙ (ap (λ xs. edges_at es (take n places) ++ xs) (sym one) ∙ (sym (edges_at-more es (take n places) k) ∙ ap (edges_at es) (sym (take_more places n 0 h))))

pub length_refilled : {A : Type 0} (n : ℕ) (ws xs : List A) → n ≡ length xs → length (take n (ws ++ drop (length ws) xs)) ≡ n
length_refilled n ws xs e =
    let a = length-append ws (drop (length ws) xs) in
    let b = length-drop (length ws) xs in
    length-take-le n (ws ++ drop (length ws) xs) (omega arith)
