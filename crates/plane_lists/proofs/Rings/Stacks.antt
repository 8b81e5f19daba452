-- The stack cuts a walk into rings.
use Rattle.std.proofs.Common.{Bool, List, [], ap, arith, cond, false, inl, inr, length, refl, subst, suc, sym, true, ℕ, ◌++◌, ◌<◌, ◌∙◌, ◌∷◌, ◌≡◌}
use Rattle.plane_lists.specs.Rings.RingList.{IsRingList}
use Rattle.plane_lists.specs.Rings.Stack.{before_at, cut_all, cut_off, from_at, with_piece}
use Rattle.plane_lists.specs.Rings.Walk.{AreCuts, AreWalks, Cuts, Follow, IsSuccessor, IsWalk, last}
use Rattle.plane.specs.Edge.{Edge}
use Rattle.plane.specs.Vector.{Vector, same_point}
use Rattle.lists.specs.Member.{EachPair, In}
use Rattle.plane_lists.specs.Lists.Ring.{IsPath}
use Rattle.plane_lists.specs.Lists.Sided.{IsSided}
use Rattle.plane_lists.proofs.Rings.Pieces.{append-assoc, last-in, ring_list}
use Rattle.plane_lists.proofs.Rings.Successors.{next_leaves}
use Rattle.plane.proofs.PlaneKit.{same_point-refl, same_point-true}
use Rattle.lists.proofs.ListsKit.{all-in, pairs-append, pairs-left, pairs-right}
use Rattle.plane_lists.proofs.WindingKit.{path-join}

abbrev Begin : List Edge → Type 0
Begin xs = EachPair (λ (e f : Edge). same_point e.from f.from ≡ false) xs

abbrev NoneAt : Vector → List Edge → Type 0
NoneAt v xs = (x : Edge) → In x xs → same_point v x.from ≡ false

split-by : (v : Vector) (x : Edge) (xs : List Edge) → (b : Bool) → before_at v xs ++ from_at v xs ≡ xs → cond b [] (x ∷ before_at v xs) ++ cond b (x ∷ xs) (from_at v xs) ≡ x ∷ xs
split-by v x xs true h = refl
split-by v x xs false h = ap (λ l. x ∷ l) h

split-at : (v : Vector) (xs : List Edge) → before_at v xs ++ from_at v xs ≡ xs
split-at v [] = refl
split-at v (x ∷ xs) = split-by v x xs (same_point v x.from) (split-at v xs)

before-by : (v a : Vector) (x : Edge) (xs : List Edge) → (b : Bool) → same_point v x.from ≡ b → x.from ≡ a → IsPath x.to (before_at v xs) v → IsPath a (cond b [] (x ∷ before_at v xs)) v
before-by v a x xs true h p q = sym p ∙ sym (same_point-true v x.from h)
before-by v a x xs false h p q = (p, q)

path-before : (v a : Vector) (xs : List Edge) → IsPath a xs v → IsPath a (before_at v xs) v
path-before v a [] p = p
path-before v a (x ∷ xs) p = before-by v a x xs (same_point v x.from) refl p.0 (path-before v x.to xs p.1)

from-by : (v : Vector) (x : Edge) (xs : List Edge) → (b : Bool) → same_point v x.from ≡ b → IsPath x.to xs v → IsPath v (from_at v xs) v → IsPath v (cond b (x ∷ xs) (from_at v xs)) v
from-by v x xs true h p q = (sym (same_point-true v x.from h), p)
from-by v x xs false h p q = q

path-from : (v a : Vector) (xs : List Edge) → IsPath a xs v → IsPath v (from_at v xs) v
path-from v a [] p = refl
path-from v a (x ∷ xs) p = from-by v x xs (same_point v x.from) refl p.1 (path-from v x.to xs p.1)

none-by : (v : Vector) (x : Edge) (xs : List Edge) → (b : Bool) → same_point v x.from ≡ b → NoneAt v (before_at v xs) → NoneAt v (cond b [] (x ∷ before_at v xs))
none-by v x xs true h k y i = absurd i
none-by v x xs false h k y (inl e) = ap (λ (w : Edge). same_point v w.from) e ∙ h
none-by v x xs false h k y (inr i) = k y i

none-before : (v : Vector) (xs : List Edge) → NoneAt v (before_at v xs)
none-before v [] = λ y i. absurd i
none-before v (x ∷ xs) = none-by v x xs (same_point v x.from) refl (none-before v xs)

not-at : (p q r : Vector) → r ≡ q → (b : Bool) → same_point p r ≡ b → same_point q p ≡ false → b ≡ false
not-at p q r e true h k = let g = same_point-true p r h ∙ e in absurd (cc (sym (same_point-refl p) ∙ ap (λ w. same_point w p) g ∙ k))
not-at p q r e false h k = refl

only : (e y : Edge) → In y (e ∷ []) → y ≡ e
only e y (inl q) = q
only e y (inr i) = absurd i

more : (n : ℕ) → 0 < suc n
more n = omega arith

begin-push : (m : Vector) (st : List Edge) (e : Edge) → Begin st → NoneAt m st → e.from ≡ m → Begin (st ++ (e ∷ []))
begin-push m st e o n q =
    pairs-append (λ (e f : Edge). same_point e.from f.from ≡ false) st (e ∷ []) o (all-in (λ (f : Edge). same_point e.from f.from ≡ false) [] (λ y i. absurd i), tt)
    (λ x y i j. subst (λ (w : Edge). same_point x.from w.from ≡ false) (sym (only e y j)) (not-at x.from m e.from q (same_point x.from e.from) refl (n x i)))

piece-by : (w u p es : List Edge) (v : Vector) (ps : List (List Edge)) → w ≡ u ++ (p ++ es) → IsPath v p v → Begin p → Cuts (u ++ es) ps → Cuts w (with_piece p ps)
piece-by w u [] es v ps q h o k = subst (λ l. Cuts l ps) (sym q) k
piece-by w u (x ∷ p) es v ps q h o k = (u, es, q, more (length p), record { start = v; path = h; once = o }, k)

empty-by : (a m : Vector) (st : List Edge) → IsPath a st m → m ≡ a → NoneAt m st → st ++ [] ≡ []
empty-by a m [] p q n = refl
empty-by a m (x ∷ xs) p q n = let k = n x (inl refl) in absurd (cc (sym (same_point-refl m) ∙ ap (same_point m) (q ∙ sym p.0) ∙ k))

stack-cuts : (a m : Vector) (st rest : List Edge) → IsPath a st m → IsPath m rest a → Begin st → NoneAt m st → Cuts (st ++ rest) (cut_off st rest)
stack-cuts a m st [] p q o n = empty-by a m st p q n
stack-cuts a m st (e ∷ es) p q o n =
    let v = e.to in let st' = st ++ (e ∷ []) in let u = before_at v st' in let l = from_at v st' in
    let path = path-join a m v st (e ∷ []) p (q.0, refl) in
    let s = split-at v st' in
    let once : Begin (u ++ l) = subst Begin (sym s) (begin-push m st e o n q.0) in
    let whole : st ++ (e ∷ es) ≡ u ++ (l ++ es) = append-assoc st (e ∷ []) es ∙ ap (λ k. k ++ es) (sym s) ∙ sym (append-assoc u l es) in
    piece-by (st ++ (e ∷ es)) u l es v (cut_off u es) whole (path-from v a st' path) (pairs-right (λ (e f : Edge). same_point e.from f.from ≡ false) u l once)
    (stack-cuts a v u es (path-before v a st' path) q.1 (pairs-left (λ (e f : Edge). same_point e.from f.from ≡ false) u l once) (none-before v st'))

-- the stack cuts each closed path
pub stack_cuts : (a : Vector) (w : List Edge) → IsPath a w a → Cuts w (cut_off [] w)
stack_cuts a w p = stack-cuts a a [] w refl p tt (λ x i. absurd i)

module _ (es : List Edge) (sd : IsSided es) where
  follow-path : (z : Edge) (xs : List Edge) → In z es → ((x : Edge) → In x xs → In x es) → Follow (IsSuccessor es) z xs → IsPath z.to xs (last z xs).to
  follow-path z [] i h k = refl
  follow-path z (x ∷ xs) i h k = (sym (next_leaves es sd z x i k.0), follow-path x xs (h x (inl refl)) (λ y j. h y (inr j)) k.1)

  -- a walk is a closed path
  pub walk_path : (w : List Edge) → IsWalk es w → (a : Vector) × IsPath a w a
  walk_path [] k = (k.cycle.end.to, refl)
  walk_path (y ∷ ys) k =
      let z = k.cycle.end in let c = k.cycle.closed in
      (z.to, subst (λ w. IsPath z.to (y ∷ ys) w.to) c (follow-path z (y ∷ ys) (k.here z (subst (λ w. In w (y ∷ ys)) c (last-in z y ys))) k.here k.cycle.steps))

  pub walk_cuts : (w : List Edge) → IsWalk es w → Cuts w (cut_off [] w)
  walk_cuts w k = let p = walk_path w k in stack_cuts p.0 w p.1

  cut-all : (ws : List (List Edge)) → ((w : List Edge) → In w ws → IsWalk es w) → AreCuts ws (cut_all ws)
  cut-all [] h = refl
  cut-all (w ∷ ws) h = (cut_off [] w, cut_all ws, refl, walk_cuts w (h w (inl refl)), cut-all ws (λ u i. h u (inr i)))

  pub stack_cut_all : (ws : List (List Edge)) → AreWalks es ws → AreCuts ws (cut_all ws)
  stack_cut_all ws aw = cut-all ws aw.walk

  -- the rings that the stack cuts off the walks are a ring list
  pub stack_rings : (ws : List (List Edge)) → AreWalks es ws → IsRingList (cut_all ws)
  stack_rings ws aw = ring_list es sd ws (cut_all ws) aw (cut-all ws aw.walk)
