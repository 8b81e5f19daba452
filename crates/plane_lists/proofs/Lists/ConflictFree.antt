-- A segment and the others of a conflict-free list.
use Rattle.std.proofs.Common.{All, Bool, List, [], ap, arith, cond, false, inl, inr, not, refl, subst, sym, true, ℕ, ◌+◌, ◌||◌, ◌∙◌, ◌∷◌, ◌≡◌}
use Rattle.plane.specs.Conflict.{IsClearOf}
use Rattle.plane.specs.Edge.{Edge, IsRisingEdge, ends_at, same_edge, segment_of}
use Rattle.plane.specs.FreeSegment.{Misses}
use Rattle.plane.specs.RayCrossing.{IsOffEdge}
use Rattle.plane.specs.Vector.{Vector, same_point}
use Rattle.plane_lists.specs.Lists.ConflictFree.{IsConflictFree, others}
use Rattle.lists.specs.Member.{EachPair, In}
use Rattle.plane_lists.specs.Lists.Node.{away}
use Rattle.plane_lists.specs.Lists.Ring.{segments_of}
use Rattle.lists.proofs.ListsKit.{all-in, in-all, in-filter, in-map, in-passes, not-true-out, total, total-filter, total-same}
use Rattle.plane.proofs.PlaneKit.{clear_back, clear_differs, clear_misses, clear_off_from, clear_off_to, same_edge-refl, same_edge-true, same_point-true}
use Rattle.std.proofs.lemmas.Bool.{or_parts}

one-of : (f : Edge → ℕ) (s : Edge) (b : Bool) → b ≡ false → cond (not b) (f s) 0 ≡ f s
one-of f s b h = ap (λ b. cond (not b) (f s) 0) h

-- a sum over the list is that of s and that of the others
split-by : (f : Edge → ℕ) (s : Edge) (es : List Edge) → All IsRisingEdge es → EachPair IsClearOf es → In s es →
    total f es ≡ f s + total (λ t. cond (not (same_edge s t)) (f t) 0) es
split-by f s [] r p i = absurd i
split-by f s (x ∷ xs) r p (inl e) =
    let rx = in-all IsRisingEdge (x ∷ xs) x r (inl refl) in
    let a : total f xs ≡ total (λ t. cond (not (same_edge s t)) (f t) 0) xs = total-same f (λ t. cond (not (same_edge s t)) (f t) 0) xs
    (λ t i. sym (one-of f t (same_edge s t) (ap (λ w. same_edge w t) e ∙ clear_differs x t rx (in-all (IsClearOf x) xs t p.0 i)))) in
    let b : cond (not (same_edge s x)) (f x) 0 ≡ 0 = ap (λ b. cond (not b) (f x) 0) (ap (λ w. same_edge w x) e ∙ same_edge-refl x) in
    let c = ap f e in omega arith
split-by f s (x ∷ xs) r p (inr i) =
    let rx = in-all IsRisingEdge (x ∷ xs) x r (inl refl) in
    let a = split-by f s xs (all-in IsRisingEdge xs (λ y j. in-all IsRisingEdge (x ∷ xs) y r (inr j))) p.1 i in
    let c = clear_back x s (in-all (IsClearOf x) xs s p.0 i) in
    let b = one-of f x (same_edge s x) (clear_differs s x (in-all IsRisingEdge (x ∷ xs) s r (inr i)) c) in omega arith

pub split_off : (f : Edge → ℕ) (s : Edge) (es : List Edge) → IsConflictFree es → In s es → total f es ≡ f s + total f (others s es)
split_off f s es p i = split-by f s es p.rising p.clear i ∙ ap (λ n. f s + n) (sym (total-filter (λ (t : Edge). not (same_edge s t)) f es))

pair-by : (s t : Edge) (es : List Edge) → EachPair IsClearOf es → In s es → In t es → same_edge s t ≡ false → IsClearOf s t
pair-by s t [] p i j d = absurd i
pair-by s t (x ∷ xs) p (inl e) (inl f) d = let g = same_edge-refl x in absurd (cc (sym g ∙ ap (λ w. same_edge w x) (sym e) ∙ ap (λ w. same_edge s w) (sym f) ∙ d))
pair-by s t (x ∷ xs) p (inl e) (inr j) d = subst (λ w. IsClearOf w t) (sym e) (in-all (IsClearOf x) xs t p.0 j)
pair-by s t (x ∷ xs) p (inr i) (inl f) d = subst (λ w. IsClearOf s w) (sym f) (clear_back x s (in-all (IsClearOf x) xs s p.0 i))
pair-by s t (x ∷ xs) p (inr i) (inr j) d = pair-by s t xs p.1 i j d

pub clear_pair : (s t : Edge) (es : List Edge) → IsConflictFree es → In s es → In t es → same_edge s t ≡ false → IsClearOf s t
clear_pair s t es p i j d = pair-by s t es p.clear i j d

pub rising_in : (es : List Edge) (s : Edge) → IsConflictFree es → In s es → IsRisingEdge s
rising_in es s p i = in-all IsRisingEdge es s p.rising i

pub segment-rises : (es : List Edge) → IsConflictFree (segments_of es) → (g : Edge) → In g es → IsRisingEdge (segment_of g)
segment-rises es p g i = rising_in (segments_of es) (segment_of g) p (in-map segment_of es g i)

pub clear_of_others : (s t : Edge) (es : List Edge) → IsConflictFree es → In s es → In t (others s es) → IsClearOf s t
clear_of_others s t es p i j =
    clear_pair s t es p i (in-filter (λ (t : Edge). not (same_edge s t)) es t j) (not-true-out (same_edge s t) (in-passes (λ (t : Edge). not (same_edge s t)) es t j))

pub misses_others : (s : Edge) (es : List Edge) → IsConflictFree es → In s es → All (Misses s.from s.to) (others s es)
misses_others s es p i = all-in (Misses s.from s.to) (others s es)
    (λ t j. clear_misses s t (rising_in es s p i) (rising_in es t p (in-filter (λ (t : Edge). not (same_edge s t)) es t j)) (clear_of_others s t es p i j))

differ-at : (v : Vector) (s t : Edge) → ends_at v s ≡ true → ends_at v t ≡ false → (b : Bool) → same_edge s t ≡ b → b ≡ false
differ-at v s t h k false e = refl
differ-at v s t h k true e = let g = ap (ends_at v) (same_edge-true s t e) in absurd (cc (sym h ∙ g ∙ k))

off-end : (v : Vector) (s t : Edge) (b c : Bool) → same_point v s.from ≡ b → same_point v s.to ≡ c → (b || c) ≡ true → IsRisingEdge t → IsClearOf s t → ends_at v t ≡ false → IsOffEdge v t
off-end v s t true c h k o r n e =
    let f = or_parts (same_point v t.from) (same_point v t.to) e in let q = same_point-true v s.from h in
    subst (λ w. IsOffEdge w t) (sym q) (clear_off_from s t r n (ap (λ w. same_point w t.from) (sym q) ∙ f.0) (ap (λ w. same_point w t.to) (sym q) ∙ f.1))
off-end v s t false true h k o r n e =
    let f = or_parts (same_point v t.from) (same_point v t.to) e in let q = same_point-true v s.to k in
    subst (λ w. IsOffEdge w t) (sym q) (clear_off_to s t r n (ap (λ w. same_point w t.from) (sym q) ∙ f.0) (ap (λ w. same_point w t.to) (sym q) ∙ f.1))
off-end v s t false false h k o r n e = absurd (cc o)

pub off_away : (v : Vector) (s : Edge) (es : List Edge) → IsConflictFree es → In s es → ends_at v s ≡ true → All (IsOffEdge v) (away v es)
off_away v s es p i h = all-in (IsOffEdge v) (away v es) (λ t j.
    let k = in-filter (λ (t : Edge). not (ends_at v t)) es t j in
    let e = not-true-out (ends_at v t) (in-passes (λ (t : Edge). not (ends_at v t)) es t j) in
    off-end v s t (same_point v s.from) (same_point v s.to) refl refl h (rising_in es t p k)
    (clear_pair s t es p i k (differ-at v s t h e (same_edge s t) refl)) e)
