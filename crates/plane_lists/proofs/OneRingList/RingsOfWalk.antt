-- Two rings of a walk that have an edge in common are one.
use Rattle.std.proofs.Common.{Bool, List, [], ap, false, inl, inr, refl, subst, sym, true, ◌++◌, ◌∙◌, ◌∷◌, ◌≡◌, ◌⊎◌}
use Rattle.plane_lists.specs.Rings.Walk.{Follow, IsSuccessor, IsWalk, last}
use Rattle.plane.specs.Edge.{Edge, same_edge}
use Rattle.plane.specs.Vector.{Vector, same_point}
use Rattle.lists.specs.Member.{In}
use Rattle.plane_lists.specs.Lists.Ring.{IsPath, IsRing}
use Rattle.plane_lists.specs.Lists.Sided.{IsSided}
use Rattle.plane_lists.proofs.NestingKit.{Once, once-apart, append-assoc, last-in, ring_rotated, walk_path, last-append, next_alone}
use Rattle.plane_lists.proofs.WindingKit.{path-split}
use Rattle.plane.proofs.PlaneKit.{same_edge-true, same_point-refl}
use Rattle.lists.proofs.ListsKit.{in-all, in-either, in-right, pairs-across}
use Rattle.plane_lists.proofs.OneRingList.CyclicLists.{Parted, Turned, cycle-turned, ends-at, in-turned, pairs-turned, part-two, same-following, turned-through}
use Rattle.plane_lists.proofs.OneRingList.Returns.{at-point, path-last, same-edge-of, share_one_point}

-- an edge of a path ends where the path ends, or where another edge of it begins
abbrev Goes : Vector → List Edge → Edge → Type 0
Goes b xs x = (x.to ≡ b) ⊎ ((d : Edge) × In d xs × (d.from ≡ x.to))

goes-more : (b : Vector) (y : Edge) (xs : List Edge) (x : Edge) → Goes b xs x → Goes b (y ∷ xs) x
goes-more b y xs x (inl h) = inl h
goes-more b y xs x (inr r) = inr (r.0, inr r.1, r.2)

goes-first : (b : Vector) (y x : Edge) (xs : List Edge) → x ≡ y → IsPath y.to xs b → Goes b (y ∷ xs) x
goes-first b y x [] q p = inl (ap (λ (e : Edge). e.to) q ∙ p)
goes-first b y x (z ∷ xs) q p = inr (z, inr (inl refl), p.0 ∙ ap (λ (e : Edge). e.to) (sym q))

goes : (a b : Vector) (xs : List Edge) → IsPath a xs b → (x : Edge) → In x xs → Goes b xs x
goes a b [] p x i = absurd i
goes a b (y ∷ xs) p x (inl q) = goes-first b y x xs q p.1
goes a b (y ∷ xs) p x (inr i) = goes-more b y xs x (goes y.to b xs p.1 x i)

-- where a path goes over from one set to another
record GoesOver (D E m : List Edge) : Type 0 where
  pub x : Edge
  pub y : Edge
  pub x-in : In x D
  pub y-in : In y E
  pub y-of : In y m
  pub joint : y.from ≡ x.to

over-more : (D E m : List Edge) (y : Edge) → GoesOver D E m → GoesOver D E (y ∷ m)
over-more D E m y g = record { x = g.x; y = g.y; x-in = g.x-in; y-in = g.y-in; y-of = inr g.y-of; joint = g.joint }

over-step : (D E m : List Edge) (z y : Edge) → In z D → y.from ≡ z.to → (In y D) ⊎ (In y E) → (In y D → GoesOver D E m) → GoesOver D E (y ∷ m)
over-step D E m z y i q (inl j) h = over-more D E m y (h j)
over-step D E m z y i q (inr j) h = record { x = z; y = y; x-in = i; y-in = j; y-of = inl refl; joint = q }

goes-over : (D E m : List Edge) (z : Edge) (b : Vector) → ((x : Edge) → In x D → In x E → ⊥) → IsPath z.to m b → ((x : Edge) → In x m → (In x D) ⊎ (In x E)) → In z D → In (last z m) E → GoesOver D E m
goes-over D E [] z b far p h i j = absurd (far z i j)
goes-over D E (y ∷ m) z b far p h i j =
    over-step D E m z y i p.0 (h y (inl refl)) (λ k. goes-over D E m y b far p.1 (λ x l. h x (inr l)) k j)

-- the ring that begins with f, all in the walk, which ends with z
pub record IsNextIn (w : List Edge) (z f : Edge) : Type 0 where
  pub others : List Edge
  pub ring : IsRing (f ∷ others)
  pub here : (x : Edge) → In x (f ∷ others) → In x w
  pub closed : last f others ≡ z

pub walk-turned : (es a b : List Edge) → IsWalk es (a ++ b) → IsWalk es (b ++ a)
walk-turned es a b k = record { here = λ e i. k.here e (in-turned b a e i); cycle = cycle-turned (IsSuccessor es) a b k.cycle }

pub once-turned : (a b : List Edge) → Once (a ++ b) → Once (b ++ a)
once-turned a b o = pairs-turned (λ (x y : Edge). x ≡ y → ⊥) (λ x y n q. n (sym q)) a b o

path-end : (b c : Vector) (xs : List Edge) (e : Edge) → IsPath c (xs ++ (e ∷ [])) b → e.to ≡ b
path-end b c [] e p = p.1
path-end b c (x ∷ xs) e p = path-end b x.to xs e p.1

next-from : {w : List Edge} (z g : Edge) → IsNextIn w z g → g.from ≡ z.to
next-from z g n =
    let r = n.ring in (r.path).0 ∙ sym (path-last r.start r.start g n.others r.path) ∙ ap (λ (e : Edge). e.to) n.closed

module _ (es : List Edge) (sd : IsSided es) where
  back-by : (D E : List Edge) → IsWalk es (D ++ E) → Once (D ++ E) → (v : Vector) → IsPath v D v → (m : List Edge) (over : GoesOver D E m) → Goes v D over.x → over.y.from ≡ v
  back-by D E k o v path m over (inl h) = over.joint ∙ h
  back-by D E k o v path m over (inr r) =
      let q : r.0.from ≡ over.y.from = r.2 ∙ sym over.joint in
      sym q ∙ share_one_point es sd D E k o v path r.0 over.y r.1 over.y-in q

  -- the walk ends with z; from there a ring goes over to one part of the walk, and z lies in the other
  clash : (u : List Edge) (z : Edge) → IsWalk es (u ++ (z ∷ [])) → Once (u ++ (z ∷ [])) → (f g : Edge) (n : IsNextIn (u ++ (z ∷ [])) z f) → g.from ≡ z.to → Parted f g (u ++ (z ∷ [])) → ⊥
  clash u z k o f g n qg r =
      let D = r.0 ++ (f ∷ r.1) in let E = g ∷ r.2 in let w = u ++ (z ∷ []) in let v = z.to in
      let k' : IsWalk es (D ++ E) = subst (IsWalk es) r.3 k in
      let o' : Once (D ++ E) = subst Once r.3 o in
      let wp = walk_path es sd w k in
      let start = path-end wp.0 wp.0 u z wp.1 in
      let path : IsPath v (D ++ E) v = subst (λ l. IsPath v l v) r.3 (subst (λ a. IsPath a w a) (sym start) wp.1) in
      let split = path-split v v D E path in
      let D-path : IsPath v D v = subst (λ m. IsPath v D m) (sym (split.2).0 ∙ qg) split.1 in
      let z-last : z ≡ last g r.2 = sym (last-append z u (z ∷ [])) ∙ ap (last z) r.3 ∙ last-append z D E in
      let ring = n.ring in
      let ring-start : v ≡ ring.start = ap (λ (e : Edge). e.to) (sym n.closed) ∙ path-last ring.start ring.start f n.others ring.path in
      let over = goes-over D E n.others f ring.start (once-apart D E o') (ring.path).1
      (λ x i. in-either D E x (subst (λ l. In x l) r.3 (n.here x (inr i)))) (in-right r.0 (f ∷ r.1) f (inl refl)) (subst (λ y. In y E) (sym n.closed) (subst (λ y. In y E) (sym z-last) (last-in g g r.2))) in
      let back : over.y.from ≡ v = back-by D E k' o' v D-path n.others over (goes v v D D-path over.x over.x-in) in
      cc (sym (in-all (λ (y : Edge). same_point f.from y.from ≡ false) n.others over.y (ring.once).0 over.y-of) ∙ at-point f.from over.y.from ((ring.path).0 ∙ sym ring-start ∙ sym back))

  next-of : (u : List Edge) (z : Edge) → IsWalk es (u ++ (z ∷ [])) → Once (u ++ (z ∷ [])) → (f g : Edge) → IsNextIn (u ++ (z ∷ [])) z f → IsNextIn (u ++ (z ∷ [])) z g → (Parted f g (u ++ (z ∷ []))) ⊎ (Parted g f (u ++ (z ∷ []))) → ⊥
  next-of u z k o f g m n (inl r) = clash u z k o f g m (next-from z g n) r
  next-of u z k o f g m n (inr r) = clash u z k o g f n (next-from z f m) r

  next-by : (u : List Edge) (z : Edge) → IsWalk es (u ++ (z ∷ [])) → Once (u ++ (z ∷ [])) → (f g : Edge) → IsNextIn (u ++ (z ∷ [])) z f → IsNextIn (u ++ (z ∷ [])) z g → (b : Bool) → same_edge f g ≡ b → f ≡ g
  next-by u z k o f g m n true h = same_edge-true f g h
  next-by u z k o f g m n false h =
      absurd (next-of u z k o f g m n (part-two f g (u ++ (z ∷ [])) (λ q. cc (sym (same-edge-of f g q) ∙ h)) (m.here f (inl refl)) (n.here g (inl refl))))

module _ (es : List Edge) (sd : IsSided es) (w : List Edge) (k : IsWalk es w) (o : Once w) where
  next-in-turned : (u : List Edge) (z f : Edge) → ((x : Edge) → In x w → In x u) → IsNextIn w z f → IsNextIn u z f
  next-in-turned u z f h n = record { others = n.others; ring = n.ring; here = λ x i. h x (n.here x i); closed = n.closed }

  next-at : (z f g : Edge) → (a b : List Edge) → w ≡ (a ++ (z ∷ [])) ++ b → IsNextIn w z f → IsNextIn w z g → f ≡ g
  next-at z f g a b q m n =
      let u = b ++ a in let l = u ++ (z ∷ []) in
      let s : b ++ (a ++ (z ∷ [])) ≡ l = append-assoc b a (z ∷ []) in
      let k' : IsWalk es l = subst (IsWalk es) s (walk-turned es (a ++ (z ∷ [])) b (subst (IsWalk es) q k)) in
      let o' : Once l = subst Once s (once-turned (a ++ (z ∷ [])) b (subst Once q o)) in
      let h : (x : Edge) → In x w → In x l = λ x i. subst (λ y. In x y) s (in-turned (a ++ (z ∷ [])) b x (subst (λ y. In x y) q i)) in
      next-by es sd u z k' o' f g (next-in-turned l z f h m) (next-in-turned l z g h n) (same_edge f g) refl

  -- after an edge all rings of the walk go on alike
  pub next-one : (z f g : Edge) → IsNextIn w z f → IsNextIn w z g → f ≡ g
  next-one z f g m n =
      let i : In z w = m.here z (subst (λ y. In y (f ∷ m.others)) m.closed (last-in f f m.others)) in
      let r = ends-at z w i in next-at z f g r.0 r.1 r.2 m n

  -- a ring of the walk that ends with e
  follow-ring : (e : Edge) (pre xs : List Edge) → IsRing (pre ++ xs) → ((x : Edge) → In x (pre ++ xs) → In x w) → last e (pre ++ xs) ≡ e → Follow (IsNextIn w) (last e pre) xs
  follow-ring e pre [] r h c = tt
  follow-ring e pre (x ∷ xs) r h c =
      let s : pre ++ (x ∷ xs) ≡ (pre ++ (x ∷ [])) ++ xs = append-assoc pre (x ∷ []) xs in
      let more = follow-ring e (pre ++ (x ∷ [])) xs (subst IsRing s r) (subst (λ l. (y : Edge) → In y l → In y w) s h) (subst (λ l. last e l ≡ e) s c) in (
        record {
          others = xs ++ pre;
          ring = ring_rotated (pre ++ (x ∷ xs)) ((x ∷ xs) ++ pre) (record { front = pre; back = x ∷ xs; old = refl; new = refl }) r;
          here = λ y i. h y (in-turned (x ∷ xs) pre y i);
          closed = last-append x xs pre ∙ ap (λ y. last y pre) (sym (last-append e pre (x ∷ xs)) ∙ c);
        },
        subst (λ y. Follow (IsNextIn w) y xs) (last-append e pre (x ∷ [])) more,
      )

  -- before the end of a ring e doesn't stand
  not-before : (e : Edge) (xs : List Edge) → IsRing (xs ++ (e ∷ [])) → In e xs → ⊥
  not-before e xs r i =
      cc (sym (pairs-across (λ (x y : Edge). same_point x.from y.from ≡ false) xs (e ∷ []) e e r.once i (inl refl)) ∙ same_point-refl e.from)

  turned-ring : (r a b : List Edge) (e : Edge) → r ≡ (a ++ (e ∷ [])) ++ b → IsRing r → IsRing ((b ++ a) ++ (e ∷ []))
  turned-ring r a b e q h = subst IsRing (append-assoc b a (e ∷ [])) (ring_rotated r (b ++ (a ++ (e ∷ []))) (record { front = a ++ (e ∷ []); back = b; old = q; new = refl }) h)

  turned-in : (r a b : List Edge) (e : Edge) → r ≡ (a ++ (e ∷ [])) ++ b → ((x : Edge) → In x r → In x w) → (x : Edge) → In x ((b ++ a) ++ (e ∷ [])) → In x w
  turned-in r a b e q h x i = h x (subst (λ l. In x l) (sym q) (in-turned b (a ++ (e ∷ [])) x (subst (λ l. In x l) (sym (append-assoc b a (e ∷ []))) i)))

  turned-follow : (r a b : List Edge) (e : Edge) → r ≡ (a ++ (e ∷ [])) ++ b → IsRing r → ((x : Edge) → In x r → In x w) → Follow (IsNextIn w) e ((b ++ a) ++ (e ∷ []))
  turned-follow r a b e q h m = follow-ring e [] ((b ++ a) ++ (e ∷ [])) (turned-ring r a b e q h) (turned-in r a b e q m) (last-append e (b ++ a) (e ∷ []))

  -- two rings of the walk that have an edge in common are one, begun at one edge or two
  pub rings-turned : (r s : List Edge) → IsRing r → IsRing s → ((x : Edge) → In x r → In x w) → ((x : Edge) → In x s → In x w) → (e : Edge) → In e r → In e s → Turned r s
  rings-turned r s hr hs mr ms e i j =
      let p = ends-at e r i in let q = ends-at e s j in
      let a = p.0 in let b = p.1 in let c = q.0 in let d = q.1 in
      let same = same-following (IsNextIn w) next-one e e (b ++ a) (d ++ c)
      (not-before e (b ++ a) (turned-ring r a b e p.2 hr)) (not-before e (d ++ c) (turned-ring s c d e q.2 hs))
      (turned-follow r a b e p.2 hr mr) (turned-follow s c d e q.2 hs ms) in
      turned-through r s (a ++ (e ∷ [])) b (c ++ (e ∷ [])) d p.2 q.2
      (append-assoc b a (e ∷ []) ∙ ap (λ l. l ++ (e ∷ [])) same ∙ sym (append-assoc d c (e ∷ [])))

-- ---- two walks that have an edge in common have the same edges
module _ (es : List Edge) (sd : IsSided es) (w : List Edge) (k : IsWalk es w) where
  head-in : (x : Edge) (u : List Edge) → Follow (IsSuccessor es) x (u ++ (x ∷ [])) → (y : Edge) × In y (u ++ (x ∷ [])) × IsSuccessor es x y
  head-in x [] h = (x, inl refl, h.0)
  head-in x (y ∷ u) h = (y, inl refl, h.0)

  turned-head : (x : Edge) (a b : List Edge) → w ≡ (a ++ (x ∷ [])) ++ b → (y : Edge) × In y w × IsSuccessor es x y
  turned-head x a b q =
      let s : b ++ (a ++ (x ∷ [])) ≡ (b ++ a) ++ (x ∷ []) = append-assoc b a (x ∷ []) in
      let t = walk-turned es (a ++ (x ∷ [])) b (subst (IsWalk es) q k) in
      let c : IsWalk es ((b ++ a) ++ (x ∷ [])) = subst (IsWalk es) s t in
      let z : c.cycle.end ≡ x = sym c.cycle.closed ∙ last-append c.cycle.end (b ++ a) (x ∷ []) in
      let h = head-in x (b ++ a) (subst (λ y. Follow (IsSuccessor es) y ((b ++ a) ++ (x ∷ []))) z c.cycle.steps) in
      (h.0, subst (λ l. In h.0 l) (sym q) (in-turned b (a ++ (x ∷ [])) h.0 (subst (λ l. In h.0 l) (sym s) h.1)), h.2)

  -- the successor of an edge of the walk is of the walk
  pub next-within : (x y : Edge) → In x w → IsSuccessor es x y → In y w
  next-within x y i n =
      let r = ends-at x w i in let h = turned-head x r.0 r.1 r.2 in
      subst (λ u. In u w) (next_alone es sd x h.0 y (k.here x i) h.2 n) h.1

  follow-within : (z : Edge) (xs : List Edge) → In z w → Follow (IsSuccessor es) z xs → (x : Edge) → In x xs → In x w
  follow-within z [] i h x j = absurd j
  follow-within z (y ∷ xs) i h x (inl q) = subst (λ u. In u w) (sym q) (next-within z y i h.0)
  follow-within z (y ∷ xs) i h x (inr j) = follow-within y xs (next-within z y i h.0) h.1 x j

  within-by : (u : List Edge) (e : Edge) → IsWalk es u → In e w → (a b : List Edge) → u ≡ (a ++ (e ∷ [])) ++ b → (x : Edge) → In x u → In x w
  within-by u e m j a b q x i =
      let s : b ++ (a ++ (e ∷ [])) ≡ (b ++ a) ++ (e ∷ []) = append-assoc b a (e ∷ []) in
      let c : IsWalk es ((b ++ a) ++ (e ∷ [])) = subst (IsWalk es) s (walk-turned es (a ++ (e ∷ [])) b (subst (IsWalk es) q m)) in
      let z : c.cycle.end ≡ e = sym c.cycle.closed ∙ last-append c.cycle.end (b ++ a) (e ∷ []) in
      follow-within e ((b ++ a) ++ (e ∷ [])) j (subst (λ y. Follow (IsSuccessor es) y ((b ++ a) ++ (e ∷ []))) z c.cycle.steps) x
      (subst (λ l. In x l) s (in-turned (a ++ (e ∷ [])) b x (subst (λ l. In x l) q i)))

  pub walk-within : (u : List Edge) → IsWalk es u → (e : Edge) → In e u → In e w → (x : Edge) → In x u → In x w
  walk-within u m e i j x l = let r = ends-at e u i in within-by u e m j r.0 r.1 r.2 x l
