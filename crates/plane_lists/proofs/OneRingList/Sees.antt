-- Along a walk all edges see a list alike.
use Rattle.std.proofs.Common.{All, Bool, List, [], ap, arith, cond, false, inl, inr, not, refl, subst, sym, true, ℕ, ◌∙◌, ◌∷◌, ◌≡◌, ◌⊎◌}
use Rattle.plane_lists.specs.Rings.Walk.{IsSuccessor, IsWalk}
use Rattle.plane.specs.Conflict.{IsClearOf}
use Rattle.plane.specs.Edge.{Edge, ends_at, reversed, same_edge, segment_of}
use Rattle.plane.specs.Order.{order}
use Rattle.plane.specs.RayCrossing.{IsOffEdge}
use Rattle.plane.specs.Sector.{in_sector}
use Rattle.plane.specs.Sign.{is_plus}
use Rattle.plane.specs.Vector.{IsNonZero, Vector, from_to, same_point}
use Rattle.plane_lists.specs.Lists.ConflictFree.{IsConflictFree, others}
use Rattle.plane_lists.specs.Lists.EdgeList.{IsEvenAtPoints, crossing_count}
use Rattle.lists.specs.Member.{In}
use Rattle.plane_lists.specs.Lists.Node.{away}
use Rattle.plane_lists.specs.Lists.Parity.{is_even}
use Rattle.plane_lists.specs.Lists.Ring.{segments_of}
use Rattle.plane_lists.specs.Lists.Sided.{IsSided}
use Rattle.plane_lists.specs.OneRingList.Sees.{sees_even}
use Rattle.plane_lists.proofs.NestingKit.{IsClearOfAll, in-from-end, last-in, Keeps, follow-weaker, stretch_same, F-none, clear-two, e-way, f-way, next_leaves, no-loop-segments, rise, sector-first, sector-own, segment-ends, sym-differs, unraised, way-segment, not-member}
use Rattle.lists.proofs.ListsKit.{all-in, in-all, in-filter, in-map, in-map-out, in-passes, into-filter, none-sum, not-not, not-true-out, total, total-same}
use Rattle.plane.proofs.PlaneKit.{ends_at-from, ends_at-to, same_edge-refl, same_edge-true, same_point-refl}
use Rattle.plane_lists.proofs.WindingKit.{way, ways_apart, off_away, split_off, differ-parity, runs_from, runs_to, same-parity, spokes-is, parity_round_node}

decide-by : (e x : Edge) (xs : List Edge) → (b : Bool) → same_edge e x ≡ b → (In e xs) ⊎ (In e xs → ⊥) → (In e (x ∷ xs)) ⊎ (In e (x ∷ xs) → ⊥)
decide-by e x xs true h d = inl (inl (same_edge-true e x h))
decide-by e x xs false h (inl i) = inl (inr i)
decide-by e x xs false h (inr n) = inr (λ j. elim j [ inl q ↦ cc (sym (same_edge-refl e) ∙ ap (same_edge e) q ∙ h) | inr i ↦ n i ])

-- an edge is a member or not
pub decide : (e : Edge) (xs : List Edge) → (In e xs) ⊎ (In e xs → ⊥)
decide e [] = inr (λ i. i)
decide e (x ∷ xs) = decide-by e x xs (same_edge e x) refl (decide e xs)

not-of : (a b : Bool) → not a ≡ b → a ≡ not b
not-of a b h = sym (not-not a) ∙ ap not h

other-by : (e : Edge) (b : Bool) → same_point e.to e.from ≡ b → (b ≡ true → ⊥) → cond b e.to e.from ≡ e.from
other-by e true h n = absurd (n refl)
other-by e false h n = refl

module _ (es : List Edge) (sd : IsSided es) where
  pub way-from : (e : Edge) → In e es → way e.from (segment_of e) ≡ from_to e.from e.to
  way-from e i = way-segment e.from e (ends_at-from e) (rise es sd e i) ∙ ap (λ b. from_to e.from (cond b e.to e.from)) (same_point-refl e.from)

  pub way-to : (e : Edge) → In e es → way e.to (segment_of e) ≡ from_to e.to e.from
  way-to e i =
      way-segment e.to e (ends_at-to e) (rise es sd e i)
      ∙ ap (λ w. from_to e.to w) (other-by e (same_point e.to e.from) refl (λ k. no-loop-segments e.to e k (same_point-refl e.to) (rise es sd e i)))

  module _ (rs : List Edge) (sub : (x : Edge) → In x rs → In x es) (pl : IsConflictFree (segments_of rs)) (even : IsEvenAtPoints (segments_of rs)) where
    abbrev X : List Edge
    X = segments_of rs

    -- what e sees on the way back
    abbrev back_even : Edge → Bool
    back_even e = is_even (crossing_count (from_to e.to e.from) e.to (away e.to X))

    sub-segments : (t : Edge) → In t X → In t (segments_of es)
    sub-segments t i = let r = in-map-out segment_of rs t i in subst (λ w. In w (segments_of es)) (sym r.2) (in-map segment_of es r.0 (sub r.0 r.1))

    pub off : (v : Vector) (g : Edge) → In g es → ends_at v g ≡ true → All (IsOffEdge v) (away v X)
    off v g i h = all-in (IsOffEdge v) (away v X) (λ t j.
        in-all (IsOffEdge v) (away v (segments_of es)) t (off_away v (segment_of g) (segments_of es) sd.plain (in-map segment_of es g i) (segment-ends v g h))
        (into-filter (λ (t : Edge). not (ends_at v t)) (segments_of es) t (sub-segments t (in-filter (λ (t : Edge). not (ends_at v t)) X t j)) (in-passes (λ (t : Edge). not (ends_at v t)) X t j)))

    own-by : (b : Bool) (e : Edge) → In (cond b e (reversed e)) X → sees_even X e ≡ not (back_even e)
    own-by true e i = not-of (sees_even X e) (back_even e) (sym (runs_from e X pl even i) ∙ runs_to e X pl even i)
    own-by false e i = sym (runs_to (reversed e) X pl even i) ∙ runs_from (reversed e) X pl even i

    -- an edge of the list sees the other parity on the way back
    own : (e : Edge) → In e rs → sees_even X e ≡ not (back_even e)
    own e i = own-by (is_plus (order e.from e.to)) e (in-map segment_of rs e i)

    pub clear-of : (e : Edge) → In e es → (In e rs → ⊥) → IsClearOfAll (segment_of e) X
    clear-of e i n = all-in (IsClearOf (segment_of e)) X (λ t j.
        let r = in-map-out segment_of rs t j in subst (IsClearOf (segment_of e)) (sym r.2) (clear-two es sd e r.0 i (sub r.0 r.1) (not-member e r.0 rs n r.1 (same_edge e r.0) refl)))

    -- any other edge sees the same
    foreign : (e : Edge) → In e es → (In e rs → ⊥) → sees_even X e ≡ back_even e
    foreign e i n =
        let s = segment_of e in let c = clear-of e i n in
        let p = in-from-end e.from s X (rise es sd e i) pl even c (segment-ends e.from e (ends_at-from e)) in
        let q = in-from-end e.to s X (rise es sd e i) pl even c (segment-ends e.to e (ends_at-to e)) in
        let a = ap (λ w. is_even (crossing_count w e.from (away e.from X))) (way-from e i) in
        let b = ap (λ w. is_even (crossing_count w e.to (away e.to X))) (way-to e i) in
        let r = sym p ∙ q in
        sym a ∙ sym (not-not _) ∙ ap not r ∙ not-not _ ∙ b

    module _ (e f : Edge) (i : In e es) (n : IsSuccessor es e f) where
      abbrev v : Vector
      v = e.to

      abbrev we : Vector
      we = way v (segment_of e)

      abbrev wf : Vector
      wf = way v (segment_of f)

      abbrev F : Edge → ℕ
      F t = cond (ends_at v t) (in_sector wf we (way v t)) 0

      wf-way : IsNonZero wf
      wf-way = f-way es sd v e f i (ends_at-to e) n

      we-way : IsNonZero we
      we-way = e-way es sd v e f i (ends_at-to e) n

      F-first : F (segment_of f) ≡ 0
      F-first =
          ap (λ b. cond b (in_sector wf we wf) 0) (segment-ends v f n.meets)
          ∙ sector-first wf we wf-way we-way (ways_apart v (segment_of f) (segment_of e) (segment-ends v f n.meets) (segment-ends v e (ends_at-to e)) (rise es sd f n.member) (rise es sd e i) (clear-two es sd f e n.member i (sym-differs f e n.other)))

      F-by : (g : Edge) → In g es → same_edge e g ≡ false → (b : Bool) → same_edge f g ≡ b → F (segment_of g) ≡ 0
      F-by g j x true k = subst (λ w. F (segment_of w) ≡ 0) (same_edge-true f g k) F-first
      F-by g j x false k = F-none es sd v e f i (ends_at-to e) n g j x k

      F-other : (g : Edge) → In g es → same_edge e g ≡ false → F (segment_of g) ≡ 0
      F-other g j x = F-by g j x (same_edge f g) refl

      none-counted : (In e rs → ⊥) → total F X ≡ 0
      none-counted m =
          let d = total-same F (λ t. 0) X (λ t j.
          let r = in-map-out segment_of rs t j in
          subst (λ w. F w ≡ 0) (sym r.2) (F-other r.0 (sub r.0 r.1) (not-member e r.0 rs m r.1 (same_edge e r.0) refl))) in
          let z = none-sum X in omega arith

      F-own : F (segment_of e) ≡ 1
      F-own = ap (λ b. cond b (in_sector wf we we) 0) (segment-ends v e (ends_at-to e)) ∙ sector-own wf we wf-way we-way

      F-rest : (t : Edge) → In t (others (segment_of e) X) → F t ≡ 0
      F-rest t j =
          let r = in-map-out segment_of rs t (in-filter (λ (t : Edge). not (same_edge (segment_of e) t)) X t j) in
          let d = not-true-out (same_edge (segment_of e) t) (in-passes (λ (t : Edge). not (same_edge (segment_of e) t)) X t j) in
          let x = unraised e r.0 (subst (λ w. same_edge (segment_of e) w ≡ false) r.2 d) (same_edge e r.0) refl in
          subst (λ w. F w ≡ 0) (sym r.2) (F-other r.0 (sub r.0 r.1) x)

      one-counted : In e rs → total F X ≡ 1
      one-counted m =
          let b = split_off F (segment_of e) X pl (in-map segment_of rs e m) in let c = F-own in
          let d = total-same F (λ t. 0) (others (segment_of e) X) F-rest in let z = none-sum (others (segment_of e) X) in omega arith

      -- what f sees, at the end of e
      f-sees : sees_even X f ≡ is_even (crossing_count wf v (away v X))
      f-sees =
          ap (λ w. is_even (crossing_count w f.from (away f.from X))) (sym (way-from f n.member))
          ∙ ap (λ u. is_even (crossing_count (way u (segment_of f)) u (away u X))) (sym (next_leaves es sd e f i n))

      e-back : back_even e ≡ is_even (crossing_count we v (away v X))
      e-back = ap (λ w. is_even (crossing_count w v (away v X))) (sym (way-to e i))

      next-by : (In e rs) ⊎ (In e rs → ⊥) → sees_even X f ≡ sees_even X e
      next-by (inl m) =
          let b = parity_round_node wf we v X wf-way we-way even (off v e i (ends_at-to e)) in
          let a = spokes-is wf we v X in let c = one-counted m in
          let d = differ-parity (crossing_count wf v (away v X)) (crossing_count we v (away v X)) (omega arith) in
          f-sees ∙ d ∙ ap not (sym e-back) ∙ sym (own e m)
      next-by (inr m) =
          let b = parity_round_node wf we v X wf-way we-way even (off v e i (ends_at-to e)) in
          let a = spokes-is wf we v X in let c = none-counted m in
          let d = same-parity (crossing_count wf v (away v X)) (crossing_count we v (away v X)) (omega arith) in
          f-sees ∙ d ∙ sym e-back ∙ sym (foreign e i m)

      -- an edge and its successor see the list alike
      pub next_sees : sees_even X f ≡ sees_even X e
      next_sees = next-by (decide e rs)

    abbrev Any : Edge → Type 0
    Any x = Unit {0}

    -- so do all edges of a walk
    pub walk_sees : (w : List Edge) → IsWalk es w → (e f : Edge) → In e w → In f w → sees_even X e ≡ sees_even X f
    walk_sees [] k e f i j = absurd i
    walk_sees (y ∷ ys) k e f i j =
        let z = k.cycle.end in
        stretch_same Any (sees_even X) z (y ∷ ys) (λ x m. tt)
        (follow-weaker (IsSuccessor es) (Keeps Any (sees_even X)) (λ x. In x es) (λ x u ix iu s ox ou. sym (next_sees x u ix s))
        z (y ∷ ys) (k.here z (subst (λ w. In w (y ∷ ys)) k.cycle.closed (last-in z y ys))) k.here k.cycle.steps) e f i j
