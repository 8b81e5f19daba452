-- A sweep over the edges of rings from row to row: what spans the next height, and what comes later.
use Rattle.std.proofs.Common.{Bool, List, [], ap, arith, drop, false, filter, get_or, length, not, refl, subst, suc, sym, take, true, zero, ℕ, ℤ, ⊎_elim, ◌-◌, ◌&&◌, ◌+◌, ◌-ℤ◌, ◌<◌, ◌∙◌, ◌≡◌, ◌≤◌, ◌⊎◌}
use borrow.Author.Differences.{ints}
use Rattle.std.specs.Ordering.{is_lt}
use Rattle.std.proofs.lemmas.Bool.{cases_lt, and_from}
use Rattle.std.proofs.lemmas.List.{get_or-drop, get_or-take, length-drop, length-take-le, take-append-drop}
use Rattle.plane_lists.specs.Rings.Nesting.{edges_of}
use Rattle.plane_lists.proofs.NestingKit.{in-edges, nest-plain}
use Rattle.plane.specs.Edge as plane
use Rattle.plane.specs.Height.{is_in_span}
use Rattle.plane.specs.Order.{order}
use Rattle.plane.specs.Sign.{Minus, Null, Plus, Sign, is_plus, sign, then_sign}
use Rattle.plane.specs.Vector.{Vector}
use Rattle.lists.proofs.ListsKit.{and-left, and-right, at-in, clash, in-all, in-at, in-filter, in-left, in-map, same_get}
use Rattle.plane.proofs.PlaneKit.{tall-by}
use Rattle.plane.proofs.SignKit.{is_plus-true, says-at, sign-from}
use Rattle.lists.specs.Member.{In}
use Rattle.plane_lists.specs.Statuses.Status.{IsStatus}
use Rattle.plane_lists.proofs.StatusKit.{rises-among}
use Rattle.osm_geom.specs.declared.edge.Edge.{Edge}
use Rattle.osm_geom.specs.declared.point.Point.{Point}
use Rattle.osm_geom.specs.Span.{lower_end}
use Rattle.osm_geom.specs.InPlane.Multiple.{product_of_denominators}
use Rattle.osm_nest.specs.declared.sweep.ring_edge.RingEdge.{RingEdge}
use Rattle.osm_nest.specs.RingLists.{AreRings, all_edges, whole_rings}
use Rattle.osm_nest.specs.SweptEdges.{AreSlopingEdges, IsSlopingEdge, IsRowPut, PutRow, StartsRise, is_within}
use Rattle.osm_nest.proofs.DirectEnclosers.{listed, nest, segments-in}
use Rattle.osm_lattice.proofs.LatticeKit.{is_lt-plus}
use Rattle.osm_nest.proofs.InPlane.{order-at, segment_at, segments_times, spans-at}
use Rattle.osm_nest.proofs.FilteredLists.{filter-alike, filter-narrower, in-sooner}
use Rattle.osm_nest.proofs.LeftEnclosers.{seg}
use Rattle.osm_nest.proofs.SweptRows.{put-row, whole-of, whole-status, within-is}

not-plus-first : (s t : Sign) → is_plus (then_sign s t) ≡ false → not (is_plus s) ≡ true
not-plus-first Plus t h = absurd (cc h)
not-plus-first Null t h = refl
not-plus-first Minus t h = refl

turned-height : (a b : ℤ) → not (is_plus (sign (a -ℤ b))) ≡ true → (s : Sign) → sign (b -ℤ a) ≡ s → (s ≡ Minus → ⊥)
turned-height a b h Minus e m = let x = says-at Minus (b -ℤ a) e in let y : sign (a -ℤ b) ≡ Plus = sign-from Plus (a -ℤ b) (omega (arith, ints)) in cc (sym (ap (λ s. not (is_plus s)) y) ∙ h)
turned-height a b h Null e m = cc m
turned-height a b h Plus e m = cc m

-- a height that isn't below a greater one is greater
over : (a b c : ℤ) → not (is_plus (sign (a -ℤ b))) ≡ true → sign (a -ℤ c) ≡ Plus → sign (b -ℤ c) ≡ Plus
over a b c h up = by-sign (sign (a -ℤ b)) refl h
  where
    by-sign : (s : Sign) → sign (a -ℤ b) ≡ s → not (is_plus s) ≡ true → sign (b -ℤ c) ≡ Plus
    by-sign Plus e n = absurd (cc n)
    by-sign Null e n = let x = says-at Null (a -ℤ b) e in let y = says-at Plus (a -ℤ c) up in sign-from Plus (b -ℤ c) (omega (arith, ints))
    by-sign Minus e n = let x = says-at Minus (a -ℤ b) e in let y = says-at Plus (a -ℤ c) up in sign-from Plus (b -ℤ c) (omega (arith, ints))

-- an upright edge that begins no lower than a height and doesn't span it begins above it
begins-above : (t : plane.Edge) (p : Vector) → sign (t.to.y -ℤ t.from.y) ≡ Plus → not (is_plus (sign (p.y -ℤ t.from.y))) ≡ true → is_in_span p t ≡ false → sign (t.from.y -ℤ p.y) ≡ Plus
begins-above t p tall low away = by-sign (sign (t.from.y -ℤ p.y)) refl
  where
    high : sign (t.from.y -ℤ p.y) ≡ Null → sign (t.to.y -ℤ p.y) ≡ Plus
    high e = let x = says-at Null (t.from.y -ℤ p.y) e in let y = says-at Plus (t.to.y -ℤ t.from.y) tall in sign-from Plus (t.to.y -ℤ p.y) (omega (arith, ints))

    by-sign : (s : Sign) → sign (t.from.y -ℤ p.y) ≡ s → sign (t.from.y -ℤ p.y) ≡ Plus
    by-sign Plus e = e
    by-sign Minus e = absurd (turned-height p.y t.from.y low Minus e refl)
    by-sign Null e =
        let z : is_in_span p t ≡ true = ap (λ s. not (is_plus s) && is_plus (sign (t.to.y -ℤ p.y))) e ∙ ap is_plus (high e) in absurd (cc (sym z ∙ away))

above-away : (t : plane.Edge) (p : Vector) → sign (t.from.y -ℤ p.y) ≡ Plus → is_in_span p t ≡ false
above-away t p h = ap (λ s. not (is_plus s) && is_plus (sign (t.to.y -ℤ p.y))) h

module _ (rs : List (List Edge)) (are : AreRings rs) (items : List RingEdge) (of : AreSlopingEdges rs items) (rise : StartsRise items) where
  abbrev K : ℕ
  K = product_of_denominators (all_edges rs)

  abbrev at : ℕ → RingEdge → plane.Edge
  at j d = segment_at K (get_or items j d).edge.now

  pub not-lower : (i j : ℕ) (d : RingEdge) → i ≤ j → j < length items → not (is_plus (sign ((at i d).from.y -ℤ (at j d).from.y))) ≡ true
  not-lower i j d h l =
      let wi = whole-of rs are items of (get_or items i d) (at-in items i d (omega arith)) in let wj = whole-of rs are items of (get_or items j d) (at-in items j d l) in
      not-plus-first (sign ((at i d).from.y -ℤ (at j d).from.y)) (sign ((at i d).from.x -ℤ (at j d).from.x))
      (sym (ap is_lt (order-at K (get_or items j d).edge.now (get_or items i d).edge.now wj wi) ∙ is_lt-plus (order (at j d).from (at i d).from)) ∙ rise i j d h l)

  -- between rows: the status of those that were put, which all begin at a height or below it; the others begin above it
  pub record IsSweptTo (next : ℕ) (status : List RingEdge) : Type 0 where
    pub p : Vector
    pub is : IsStatus (seg rs are items of) p (take next items) status
    pub begun : (x : RingEdge) → In x (take next items) → not (is_plus (sign ((segment_at K x.edge.now).from.y -ℤ p.y))) ≡ true
    pub later : (j : ℕ) (d : RingEdge) → next ≤ j → j < length items → sign ((at j d).from.y -ℤ p.y) ≡ Plus

  -- ---- a row
  in-take : (k : ℕ) (x : RingEdge) → In x (take k items) → In x items
  in-take k x i = subst (In x) (take-append-drop k items) (in-left (take k items) (drop k items) x i)

  row-within : (o : Point) (from n : ℕ) (old new : List RingEdge) → from + n ≤ length items → PutRow o items from n old new → (k : ℕ) → k < n → (d : RingEdge) → is_within o (get_or items (from + k) d) ≡ true
  row-within o from zero old new h put k l d = absurd (omega arith)
  row-within o from (suc n) old new h (between, i, is, within, before, one) k l d = ⊎_elim
      (λ (low : k < n). row-within o from n old between (omega arith) before k low d)
      (λ (high : n ≤ k). let e : k ≡ n = omega arith in
      subst (λ m. is_within o (get_or items (from + m) d) ≡ true) (sym e) (subst (λ (t : RingEdge). is_within o t ≡ true) (is ∙ same_get items (from + n) i d (omega arith)) within))
      (cases_lt k n)

  module _ (next : ℕ) (status new : List RingEdge) (swept : IsSweptTo next status) (a : RingEdge) (inside : next < length items) (is-a : a ≡ get_or items next a) (to : ℕ) (row : IsRowPut (lower_end a.edge.now) items next to (filter (is_within (lower_end a.edge.now)) status) new) where
    abbrev p' : Vector
    p' = (segment_at K a.edge.now).from

    a-in : In a items
    a-in = subst (λ t. In t items) (sym is-a) (at-in items next a inside)

    up : sign (p'.y -ℤ swept.p.y) ≡ Plus
    up = subst (λ (t : RingEdge). sign ((segment_at K t.edge.now).from.y -ℤ swept.p.y) ≡ Plus) (sym is-a) (swept.later next a (omega arith) inside)

    tall-of : (i : RingEdge) → In i items → sign ((segment_at K i.edge.now).to.y -ℤ (segment_at K i.edge.now).from.y) ≡ Plus
    tall-of i j =
        let w = whole-of rs are items of i j in
        tall-by (segment_at K i.edge.now).from (segment_at K i.edge.now) (sym (spans-at K i.edge.now i.edge.now w w) ∙ (in-all (IsSlopingEdge rs) items i of.each j).sloping)

    among : (x : RingEdge) → In x (take next items) → In (segment_at K x.edge.now) (edges_of (nest rs are))
    among x i =
        let j = in-take next x i in let it = in-all (IsSlopingEdge rs) items x of.each j in
        in-edges (nest rs are) (segments_times K (get_or rs x.ring [])) (segment_at K x.edge.now) (segments-in rs are x.ring it.inside) (in-map (segment_at K) (get_or rs x.ring []) x.edge.now it.member)

    both : (x : RingEdge) → In x (take next items) → is_in_span p' (segment_at K x.edge.now) ≡ true → is_in_span swept.p (segment_at K x.edge.now) ≡ true
    both x i s =
        let t = segment_at K x.edge.now in
        let high = is_plus-true (sign (t.to.y -ℤ p'.y)) (and-right (not (is_plus (sign (t.from.y -ℤ p'.y)))) (is_plus (sign (t.to.y -ℤ p'.y))) s) in
        and_from (not (is_plus (sign (t.from.y -ℤ swept.p.y)))) (is_plus (sign (t.to.y -ℤ swept.p.y))) (swept.begun x i) (ap is_plus (sum-plus t.to.y p'.y swept.p.y high up))
      where
        sum-plus : (b c d : ℤ) → sign (b -ℤ c) ≡ Plus → sign (c -ℤ d) ≡ Plus → sign (b -ℤ d) ≡ Plus
        sum-plus b c d h k = let x = says-at Plus (b -ℤ c) h in let y = says-at Plus (c -ℤ d) k in sign-from Plus (b -ℤ d) (omega (arith, ints))

    stayed : IsStatus (seg rs are items of) p' (take next items) (filter (is_within (lower_end a.edge.now)) status)
    stayed = subst (IsStatus (seg rs are items of) p' (take next items))
        (filter-alike (λ (x : RingEdge). is_in_span p' (segment_at K x.edge.now)) (is_within (lower_end a.edge.now)) status
        (λ x i. let k = in-at x status i in
        let m = swept.is.members k.0 x k.1 in
        let j = in-take next x (in-filter (λ (t : RingEdge). is_in_span swept.p (segment_at K t.edge.now)) (take next items) x (subst (λ t. In t (filter (λ (t : RingEdge). is_in_span swept.p (segment_at K t.edge.now)) (take next items))) (k.2 x) m)) in
        sym (within-is rs are items of a a-in x j)))
        (rises-among (seg rs are items of) swept.p p' (take next items) status (edges_of (nest rs are)) (nest-plain (whole_rings rs) (listed rs are)) among swept.is both)

    fits-in : next + row.size ≤ length items
    fits-in = let w = row.within in let e = row.up_to in omega (arith, w, e)

    put : IsStatus (seg rs are items of) p' (take to items) new
    put = subst (λ k. IsStatus (seg rs are items of) p' (take k items) new) (sym row.up_to) (put-row rs are items of a a-in next row.size (filter (is_within (lower_end a.edge.now)) status) new fits-in row.put stayed)

    pub after : (j : ℕ) (d : RingEdge) → to ≤ j → j < length items → sign ((at j d).from.y -ℤ p'.y) ≡ Plus
    after j d h l =
        let first : to < length items = omega arith in
        let ti = at-in items to d first in
        let away : is_in_span p' (at to d) ≡ false = sym (within-is rs are items of a a-in (get_or items to d) ti) ∙ row.ended d first in
        let low : not (is_plus (sign (p'.y -ℤ (at to d).from.y))) ≡ true =
        subst (λ (t : RingEdge). not (is_plus (sign ((segment_at K t.edge.now).from.y -ℤ (at to d).from.y))) ≡ true) (same_get items next d a inside ∙ sym is-a) (not-lower next to d (let e = row.up_to in omega (arith, e)) first) in
        let above = begins-above (at to d) p' (tall-of (get_or items to d) ti) low away in
        over (at to d).from.y (at j d).from.y p'.y (not-lower to j d h l) above

    -- after a row the status is that of all items at its height
    pub row-whole : IsStatus (seg rs are items of) p' items new
    row-whole = whole-status rs are items of p' to new
        (λ i j. let k = in-at i (drop to items) j in
        let far : to + k.0 < length items = (let h = k.1 in omega (arith, h, length-drop to items)) in
        above-away (segment_at K i.edge.now) p' (subst (λ (t : RingEdge). sign ((segment_at K t.edge.now).from.y -ℤ p'.y) ≡ Plus) (sym (get_or-drop to items k.0 i) ∙ k.2 i) (after (to + k.0) i (omega arith) far)))
        put

    pub row-begun : (x : RingEdge) → In x (take to items) → not (is_plus (sign ((segment_at K x.edge.now).from.y -ℤ p'.y))) ≡ true
    row-begun x i =
        let k = in-at x (take to items) i in
        let low : k.0 < to = (let h = k.1 in let w = row.within in omega (arith, h, length-take-le to items, w)) in
        let here : get_or items k.0 x ≡ x = sym (get_or-take to items k.0 x low) ∙ k.2 x in
        ⊎_elim
        (λ (early : k.0 < next).
        let there : In x (take next items) = subst (λ t. In t (take next items)) (get_or-take next items k.0 x early ∙ here) (at-in (take next items) k.0 x (omega (arith, length-take-le next items, early))) in
        below-more (segment_at K x.edge.now).from.y swept.p.y p'.y (sign ((segment_at K x.edge.now).from.y -ℤ swept.p.y)) refl (swept.begun x there) up)
        (λ (late : next ≤ k.0).
        let within : is_within (lower_end a.edge.now) x ≡ true = subst (λ (t : RingEdge). is_within (lower_end a.edge.now) t ≡ true) (ap (λ m. get_or items m x) (let e : next + (k.0 - next) ≡ k.0 = omega arith in e) ∙ here) (row-within (lower_end a.edge.now) next row.size (filter (is_within (lower_end a.edge.now)) status) new fits-in row.put (k.0 - next) (let e = row.up_to in omega (arith, e)) x) in
        let s = sym (within-is rs are items of a a-in x (in-take to x i)) ∙ within in
        and-left (not (is_plus (sign ((segment_at K x.edge.now).from.y -ℤ p'.y)))) (is_plus (sign ((segment_at K x.edge.now).to.y -ℤ p'.y))) s)
        (cases_lt k.0 next)
      where
        below-more : (b c d : ℤ) (s : Sign) → sign (b -ℤ c) ≡ s → not (is_plus s) ≡ true → sign (d -ℤ c) ≡ Plus → not (is_plus (sign (b -ℤ d))) ≡ true
        below-more b c d Plus e n u = absurd (cc n)
        below-more b c d Null e n u = let x = says-at Null (b -ℤ c) e in let y = says-at Plus (d -ℤ c) u in ap (λ s. not (is_plus s)) (sign-from Minus (b -ℤ d) (omega (arith, ints)))
        below-more b c d Minus e n u = let x = says-at Minus (b -ℤ c) e in let y = says-at Plus (d -ℤ c) u in ap (λ s. not (is_plus s)) (sign-from Minus (b -ℤ d) (omega (arith, ints)))

    pub row-swept : IsSweptTo to new
    row-swept = record { p = p'; is = put; begun = row-begun; later = after }

  -- ---- a status that may hold edges that ended
  over-more : (b c d : ℤ) → is_plus (sign (b -ℤ c)) ≡ true → sign (c -ℤ d) ≡ Plus → is_plus (sign (b -ℤ d)) ≡ true
  over-more b c d h u =
      let x = says-at Plus (b -ℤ c) (is_plus-true (sign (b -ℤ c)) h) in let y = says-at Plus (c -ℤ d) u in ap is_plus (sign-from Plus (b -ℤ d) (omega (arith, ints)))

  -- at each later height it has the edges that the status of the sweep has
  pub record IsUnderWay (next : ℕ) (status : List RingEdge) : Type 0 where
    pub alive : List RingEdge
    pub swept : IsSweptTo next alive
    pub members : (x : RingEdge) → In x status → In x (take next items)
    pub alike : (j : ℕ) (d : RingEdge) → next ≤ j → j < length items → filter (is_within (lower_end (get_or items j d).edge.now)) status ≡ filter (is_within (lower_end (get_or items j d).edge.now)) alive

  -- a row: some that ended are taken out, and those that begin are put in
  pub record IsRowPassed (next to : ℕ) (at : Point) (status new : List RingEdge) : Type 0 where
    pub left : List RingEdge
    pub kept : filter (is_within at) left ≡ filter (is_within at) status
    pub stays : (x : RingEdge) → In x left → In x status
    pub put : IsRowPut at items next to (filter (is_within at) left) (filter (is_within at) new)
    pub comes : (x : RingEdge) → In x new → (In x left) ⊎ In x (take to items)

  module _ (next : ℕ) (status new : List RingEdge) (way : IsUnderWay next status) (a : RingEdge) (inside : next < length items) (is-a : a ≡ get_or items next a) (to : ℕ) (passed : IsRowPassed next to (lower_end a.edge.now) status new) where
    abbrev w : RingEdge → Bool
    w = is_within (lower_end a.edge.now)

    in-items : In a items
    in-items = subst (λ t. In t items) (sym is-a) (at-in items next a inside)

    same : filter w passed.left ≡ filter w way.alive
    same = passed.kept ∙ subst (λ (t : RingEdge). filter (is_within (lower_end t.edge.now)) status ≡ filter (is_within (lower_end t.edge.now)) way.alive) (sym is-a) (way.alike next a (omega arith) inside)

    row : IsRowPut (lower_end a.edge.now) items next to (filter w way.alive) (filter w new)
    row = subst (λ xs. IsRowPut (lower_end a.edge.now) items next to xs (filter w new)) same passed.put

    -- those that span the height are the status of all items there
    pub passed-whole : IsStatus (seg rs are items of) (segment_at K a.edge.now).from items (filter w new)
    passed-whole = row-whole next way.alive (filter w new) way.swept a inside is-a to row

    passed-members : (x : RingEdge) → In x new → In x (take to items)
    passed-members x i = ⊎_elim (λ (j : In x passed.left). in-sooner items next to x (let e = row.up_to in omega (arith, e)) (way.members x (passed.stays x j))) (λ (j : In x (take to items)). j) (passed.comes x i)

    pub passed-items : (x : RingEdge) → In x new → In x items
    passed-items x i = in-take to x (passed-members x i)

    -- what spans a later height spans this one
    still : (j : ℕ) (d : RingEdge) → to ≤ j → j < length items → (x : RingEdge) → In x new → is_within (lower_end (get_or items j d).edge.now) x ≡ true → w x ≡ true
    still j d h l x i on =
        let xi = passed-items x i in
        let t = segment_at K x.edge.now in let p = (segment_at K a.edge.now).from in let q = (at j d).from in
        let s = sym (within-is rs are items of (get_or items j d) (at-in items j d l) x xi) ∙ on in
        within-is rs are items of a in-items x xi
        ∙ and_from (not (is_plus (sign (t.from.y -ℤ p.y)))) (is_plus (sign (t.to.y -ℤ p.y)))
        (row-begun next way.alive (filter w new) way.swept a inside is-a to row x (passed-members x i))
        (over-more t.to.y q.y p.y (and-right (not (is_plus (sign (t.from.y -ℤ q.y)))) (is_plus (sign (t.to.y -ℤ q.y))) s) (after next way.alive (filter w new) way.swept a inside is-a to row j d h l))

    pub passed-on : IsUnderWay to new
    passed-on = record {
      alive = filter w new;
      swept = row-swept next way.alive (filter w new) way.swept a inside is-a to row;
      members = passed-members;
      alike = λ j d h l. filter-narrower w (is_within (lower_end (get_or items j d).edge.now)) new (still j d h l);
    }

    -- each row has an item
    pub passed-grows : next < to
    passed-grows = ⊎_elim
        (λ (more : next < to). more)
        (λ (none : to ≤ next).
        let e : to ≡ next = (let e = row.up_to in omega (arith, e, none)) in
        let out : w a ≡ false = subst (λ (t : RingEdge). w t ≡ false) (ap (λ k. get_or items k a) e ∙ sym is-a) (row.ended a (omega (arith, e, inside))) in
        absurd (clash (w a) (in-all (IsSlopingEdge rs) items a of.each in-items).sloping out))
        (cases_lt next to)
