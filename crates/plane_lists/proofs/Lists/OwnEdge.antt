-- Along an edge of a list: the parity of the others is the same at all its inner points.
use Rattle.std.proofs.Common.{List, ap, arith, refl, subst, sym, true, ◌%◌, ◌+◌, ◌∙◌, ◌≡◌}
use Rattle.plane.specs.Edge.{Edge}
use Rattle.plane.specs.FreeSegment.{IsBetween}
use Rattle.plane.specs.RayCrossing.{down_by, up_by}
use Rattle.plane.specs.Sector.{in_sector, sector_by}
use Rattle.plane.specs.Sign.{Minus, Null, Plus, Sign, negated, sign}
use Rattle.plane.specs.Vector.{IsNonZero, Vector, cross, dot, from_to}
use Rattle.plane_lists.specs.Lists.ConflictFree.{IsConflictFree, others}
use Rattle.plane_lists.specs.Lists.EdgeList.{IsEvenAtPoints, crossing_count}
use Rattle.lists.specs.Member.{In}
use Rattle.plane.proofs.PlaneKit.{down_compute, up_compute, rising-direction, cross-here, cross-self, dot-chain, dot-here, frame-agree, frame-dot-agree, view_at}
use Rattle.plane.proofs.SignKit.{agree, all, all-out, all2-out, imp, imp-out, same_sign, same_sign-true, sign-reversed, times, times-plus}
use Rattle.plane_lists.proofs.Lists.AlongSegment.{off_all, same_crossings}
use Rattle.plane_lists.proofs.Lists.ConflictFree.{misses_others, rising_in, split_off}
use Rattle.plane_lists.proofs.Lists.Independence.{count-is, even-at-ends, in_sector_seen, sector_sum, total-ends}
use Rattle.lists.proofs.ListsKit.{total-+}

agree-same : (c b m : Sign) → agree c m Null ≡ true → agree b m Null ≡ true → c ≡ b
agree-same c b m h k =
    same_sign-true c b (imp-out _ _ (imp-out _ _ (all-out (λ m. imp (agree c m Null) λ _. imp (agree b m Null) λ _. same_sign c b) (all2-out (λ c b. all (λ m. imp (agree c m Null) λ _. imp (agree b m Null) λ _. same_sign c b)) refl c b) m) h) k)

agree-sum-same : (m s t : Sign) → agree m Null s ≡ true → agree m Null t ≡ true → s ≡ t
agree-sum-same m s t h k =
    same_sign-true s t (imp-out _ _ (imp-out _ _ (all-out (λ t. imp (agree m Null s) λ _. imp (agree m Null t) λ _. same_sign s t) (all2-out (λ m s. all (λ t. imp (agree m Null s) λ _. imp (agree m Null t) λ _. same_sign s t)) refl m s) t) h) k)

times-null : (s : Sign) → times s Null ≡ Null
times-null Plus = refl
times-null Null = refl
times-null Minus = refl

-- two vectors along a line, in one way
module _ (d c x y : Vector) (hc : IsNonZero c) (cx : sign (cross c x) ≡ Null) (cy : sign (cross c y) ≡ Null) (one : sign (dot c x) ≡ sign (dot c y)) where
  cross-along : (z : Vector) → sign (cross c z) ≡ Null → agree (sign (cross d z)) (times (sign (dot c z)) (sign (cross c d))) Null ≡ true
  cross-along z n =
      subst (λ s. agree s (times (sign (dot c z)) (sign (cross c d))) Null ≡ true) (times-plus (sign (cross d z)))
      (subst (λ s. agree (times Plus (sign (cross d z))) (times (sign (dot c z)) (sign (cross c d))) s ≡ true) (ap (times (sign (dot c d))) n ∙ times-null (sign (dot c d))) (frame-agree c d z hc))

  dot-along : (z : Vector) → sign (cross c z) ≡ Null → agree (times (sign (dot c d)) (sign (dot c z))) Null (sign (dot d z)) ≡ true
  dot-along z n =
      subst (λ s. agree (times (sign (dot c d)) (sign (dot c z))) Null s ≡ true) (times-plus (sign (dot d z)))
      (subst (λ s. agree (times (sign (dot c d)) (sign (dot c z))) s (times Plus (sign (dot d z))) ≡ true) (ap (times (sign (cross c d))) n ∙ times-null (sign (cross c d))) (frame-dot-agree c d z hc))

  same-cross : sign (cross d x) ≡ sign (cross d y)
  same-cross = agree-same (sign (cross d x)) (sign (cross d y)) (times (sign (dot c y)) (sign (cross c d)))
      (subst (λ s. agree (sign (cross d x)) (times s (sign (cross c d))) Null ≡ true) one (cross-along x cx)) (cross-along y cy)

  same-dot : sign (dot d x) ≡ sign (dot d y)
  same-dot = agree-sum-same (times (sign (dot c d)) (sign (dot c y))) (sign (dot d x)) (sign (dot d y))
      (subst (λ s. agree (times (sign (dot c d)) s) Null (sign (dot d x)) ≡ true) one (dot-along x cx)) (dot-along y cy)

  pub same-sector : in_sector d c x ≡ in_sector d c y
  same-sector =
      ap (λ s. sector_by s (sign (cross d x)) (sign (dot d c)) (sign (cross d c)) (sign (cross c x))) same-dot
      ∙ ap (λ s. sector_by (sign (dot d y)) s (sign (dot d c)) (sign (cross d c)) (sign (cross c x))) same-cross
      ∙ ap (λ s. sector_by (sign (dot d y)) (sign (cross d y)) (sign (dot d c)) (sign (cross d c)) s) (cx ∙ sym cy)

module _ (d : Vector) (hd : IsNonZero d) (s : Edge) (es : List Edge) (pl : IsConflictFree es) (even : IsEvenAtPoints es) (i : In s es) where
  abbrev along : Vector
  along = from_to s.from s.to

  along-direction : IsNonZero along
  along-direction = rising-direction s.from s.to (rising_in es s pl i)

  module _ (p : Vector) (b : IsBetween s.from s.to p) where
    back-null : sign (cross along (from_to p s.from)) ≡ Null
    back-null = (view_at s.from s.to p b).side s.from ∙ ap sign (cross-here along s.from)

    on-null : sign (cross along (from_to p s.to)) ≡ Null
    on-null = (view_at s.from s.to p b).side s.to ∙ ap sign (cross-self along)

    back-minus : sign (dot along (from_to p s.from)) ≡ Minus
    back-minus =
        sign-reversed (dot along (from_to s.from p)) (dot along (from_to p s.from)) (dot-chain along s.from p s.from ∙ dot-here along s.from) ∙ ap negated b.after_s

    -- the others, with what the ends of s add
    others-parity : (crossing_count d p (others s es) + crossing_count along p (others s es)) % 2 ≡ (in_sector d along (from_to p s.from) + in_sector d along (from_to p s.to)) % 2
    others-parity =
        let os = others s es in let v = view_at s.from s.to p b in
        let w = sector_sum d along (from_to p) hd along-direction os (off_all s.from s.to (from_to p) v os (misses_others s es pl i)) in
        let x = count-is d (from_to p) os in let y = count-is along (from_to p) os in
        let f = λ (t : Edge). in_sector_seen d along (from_to p) t.from + in_sector_seen d along (from_to p) t.to in
        let g = total-ends (in_sector_seen d along (from_to p)) es in let h = even-at-ends (in_sector_seen d along (from_to p)) es even in
        let k = split_off f s es pl i in
        let l = total-+ (λ (t : Edge). in_sector_seen d along (from_to p) t.from) (λ (t : Edge). in_sector_seen d along (from_to p) t.to) os in
        omega arith

  pub parity_along_own_edge : (p q : Vector) → IsBetween s.from s.to p → IsBetween s.from s.to q → crossing_count d p (others s es) % 2 ≡ crossing_count d q (others s es) % 2
  parity_along_own_edge p q b c =
      let os = others s es in let v = view_at s.from s.to p b in let w = view_at s.from s.to q c in
      let x = others-parity p b in let y = others-parity q c in
      let f = same-sector d along (from_to p s.from) (from_to q s.from) along-direction (back-null p b) (back-null q c) (back-minus p b ∙ sym (back-minus q c)) in
      let g = same-sector d along (from_to p s.to) (from_to q s.to) along-direction (on-null p b) (on-null q c) (b.before_t ∙ sym c.before_t) in
      let k = same_crossings up_by up_compute s.from s.to (from_to p) (from_to q) v w os (misses_others s es pl i) in
      let l = same_crossings down_by down_compute s.from s.to (from_to p) (from_to q) v w os (misses_others s es pl i) in
      let m = count-is along (from_to p) os in let n = count-is along (from_to q) os in
      omega arith
