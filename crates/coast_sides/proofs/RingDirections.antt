-- Where rings run along edges, and where against them.
use Rattle.std.proofs.Common.{◌≡◌, ◌≢◌, ◌⊎◌, ⊎_elim, inl, inr, ℕ, zero, suc, ◌+◌, ◌-◌, ◌<◌, ◌≤◌, ◌&&◌, Bool, true, false, cond, if◌then◌else◌, List, [], ◌∷◌, length, get_or, take, All, Some, None, refl, sym, ap, ◌∙◌, arith}
use Rattle.std.specs.declared.cmp.Ordering.{Ordering}
use Rattle.std.specs.declared.cmp.Ordering.TheVariants.{Less, Equal, Greater}
use Rattle.std.specs.List.{list_any, slice_get}
use Rattle.std.specs.List.Sorted.{IsPartitionPoint, IsPartitionedBy}
use Rattle.std.specs.Ordering.{is_eq, is_lt, ordering_reverse}
use Rattle.std.proofs.lemmas.Bool.{and_parts, cases_lt, false≢true, or_parts}
use Rattle.std.proofs.lemmas.Cmp.{tied_itself}
use Rattle.std.proofs.lemmas.List.Folds.{list_any_at, list_any_more, list_any_none}
use Rattle.std.proofs.lemmas.List.{get_or_default}
use Rattle.std.proofs.lemmas.Option.{get_or_from_slice_get, slice_get_read, slice_get_within}
use Rattle.lists.specs.Rising.{IsRising}
use Rattle.osm_geom.specs.declared.edge.Carrier.TheVariants.{OfSeg}
use Rattle.osm_geom.specs.declared.edge.Edge.{Edge}
use Rattle.osm_geom.specs.declared.point.Point.{Point}
use Rattle.osm_geom.specs.declared.point.Point.TheVariants.{Lattice, OnHorizontal, OnVertical}
use Rattle.osm_geom.specs.WholeSegment.{IsWholeSegment}
use Rattle.osm_lattice.specs.declared.loc.Loc.{Loc}
use Rattle.osm_lattice.specs.declared.seg.Seg.{Seg}
use Rattle.osm_lattice.specs.Loc.{loc_cmp}
use Rattle.osm_lattice.specs.OrderLaws.{LocationOrderTellsApart}
use Rattle.osm_lattice.specs.Seg.{seg_cmp, segment_between, segment_by}
use Rattle.coast_sides.specs.Junctions.{AreJunctions, RunsOn, is_one_of}
use Rattle.coast_sides.specs.Segments.{steps_round}
use Rattle.coast_sides.specs.Water.{segments_under}
use Rattle.coast_sides.specs.WrongWays.{comes_before, is_at_location, runs_between}
use Rattle.coast_sides.proofs.ClearSides.{less_both, seg_from_ends}
use Rattle.coast_sides.proofs.Conflicts.{is_eq_there}
use Rattle.coast_sides.proofs.EvenRings.{loc_cmp_total, seg_cmp_total}
use Rattle.coast_sides.proofs.RingRanks.{less_from}
use Rattle.coast_sides.proofs.RoundSteps.{after_round, steps_at, test_yes, tested_more}
use Rattle.coast_sides.proofs.SidedSegments.{along_more, later}

-- ---- the segment between two locations

-- a segment has these ends
abbrev pub HasEnds : Seg → Loc → Loc → Type 0
HasEnds s p q = ((s.a ≡ p) × (s.b ≡ q)) ⊎ ((s.a ≡ q) × (s.b ≡ p))

pub ends_between : (p q : Loc) (s : Seg) → segment_between p q ≡ Some s → HasEnds s p q
unfolding segment_between
ends_between p q s = by (loc_cmp p q) (loc_cmp q p) refl refl
  where
    by : (forth back : Ordering) (e : loc_cmp p q ≡ forth) (d : loc_cmp q p ≡ back) → segment_by p q forth back e d ≡ Some s → HasEnds s p q
    by Less back e d is = let same : record { a = p; b = q; rising = e } ≡ s = cc is in inl (ap (λ (t : Seg). t.a) (sym same), ap (λ (t : Seg). t.b) (sym same))
    by Equal Less e d is = let same : record { a = q; b = p; rising = d } ≡ s = cc is in inr (ap (λ (t : Seg). t.a) (sym same), ap (λ (t : Seg). t.b) (sym same))
    by Greater Less e d is = let same : record { a = q; b = p; rising = d } ≡ s = cc is in inr (ap (λ (t : Seg). t.a) (sym same), ap (λ (t : Seg). t.b) (sym same))
    by Equal Equal e d is = absurd (cc is)
    by Equal Greater e d is = absurd (cc is)
    by Greater Equal e d is = absurd (cc is)
    by Greater Greater e d is = absurd (cc is)

-- none between one location and itself alone
pub no_segment : LocationOrderTellsApart → (p q : Loc) → segment_between p q ≡ None → p ≡ q
unfolding segment_between
no_segment exact p q = by (loc_cmp p q) (loc_cmp q p) refl refl
  where
    by : (forth back : Ordering) (e : loc_cmp p q ≡ forth) (d : loc_cmp q p ≡ back) → segment_by p q forth back e d ≡ None → p ≡ q
    by Less back e d is = absurd (cc is)
    by Equal Less e d is = absurd (cc is)
    by Greater Less e d is = absurd (cc is)
    by Equal Equal e d is = (exact p q).0 e
    by Equal Greater e d is = (exact p q).0 e
    by Greater Equal e d is = sym ((exact q p).0 d)
    by Greater Greater e d is = let turned : loc_cmp p q ≡ Less = loc_cmp_total.antisymm p q ∙ ap ordering_reverse d in let clash : Greater ≡ Less = sym e ∙ turned in absurd (cc clash)

-- only one segment has both ends
pub same_by_ends : (s t : Seg) (p q : Loc) → HasEnds s p q → HasEnds t p q → s ≡ t
same_by_ends s t p q here there = ⊎_elim
    (λ (h : (s.a ≡ p) × (s.b ≡ q)). ⊎_elim
    (λ (k : (t.a ≡ p) × (t.b ≡ q)). seg_from_ends s t (h.0 ∙ sym k.0) (h.1 ∙ sym k.1))
    (λ (k : (t.a ≡ q) × (t.b ≡ p)). absurd (turned s t p q h k)) there)
    (λ (h : (s.a ≡ q) × (s.b ≡ p)). ⊎_elim
    (λ (k : (t.a ≡ p) × (t.b ≡ q)). absurd (turned s t q p h k))
    (λ (k : (t.a ≡ q) × (t.b ≡ p)). seg_from_ends s t (h.0 ∙ sym k.0) (h.1 ∙ sym k.1)) there) here
  where
    turned : (s t : Seg) (p q : Loc) → (s.a ≡ p) × (s.b ≡ q) → (t.a ≡ q) × (t.b ≡ p) → ⊥
    turned s t p q h k =
        let forth : loc_cmp p q ≡ Less = ap (λ (z : Loc). loc_cmp z q) (sym h.0) ∙ (ap (loc_cmp s.a) (sym h.1) ∙ s.rising) in
        let back : loc_cmp q p ≡ Less = ap (λ (z : Loc). loc_cmp z p) (sym k.0) ∙ (ap (loc_cmp t.a) (sym k.1) ∙ t.rising) in
        less_both loc_cmp_total p q forth back

-- ---- edges along whole segments

module _ (exact : LocationOrderTellsApart) where
  -- where an edge from p to q begins and ends
  pub edge_ends : (p q : Loc) (e : Edge) → runs_between p q e ≡ true → (e.from ≡ Lattice p) × (e.to ≡ Lattice q)
  edge_ends p q e runs =
      let both = and_parts (is_at_location p e.from) (is_at_location q e.to) runs in
      (at e.from p both.0, at e.to q both.1)
    where
      at : (point : Point) (p : Loc) → is_at_location p point ≡ true → point ≡ Lattice p
      at (Lattice z) p h = ap Lattice (is_eq_there exact z p h)
      at (OnVertical c y) p h = absurd (false≢true h)
      at (OnHorizontal x d) p h = absurd (false≢true h)

  -- so does its segment
  segment_ends : (p q : Loc) (e : Edge) (w : IsWholeSegment e) → runs_between p q e ≡ true → HasEnds w.segment p q
  segment_ends p q e w runs =
      let ends = edge_ends p q e runs in
      by w.forward (sym ends.0 ∙ w.from) (sym ends.1 ∙ w.to)
    where
      same : (x y : Loc) → Lattice x ≡ Lattice y → x ≡ y
      same x y h = cc h

      by : (forward : Bool) → Lattice p ≡ cond forward (Lattice w.segment.a) (Lattice w.segment.b) → Lattice q ≡ cond forward (Lattice w.segment.b) (Lattice w.segment.a) → HasEnds w.segment p q
      by true f t = inl (sym (same p w.segment.a f), sym (same q w.segment.b t))
      by false f t = inr (sym (same q w.segment.a t), sym (same p w.segment.b f))

-- an edge runs between the ends of its segment
pub runs_on : (e : Edge) (w : IsWholeSegment e) → (runs_between w.segment.a w.segment.b e ≡ true) ⊎ (runs_between w.segment.b w.segment.a e ≡ true)
runs_on e w = by w.forward w.from w.to
  where
    both : (p q : Loc) → e.from ≡ Lattice p → e.to ≡ Lattice q → runs_between p q e ≡ true
    both p q f t = ap (λ (x : Point). is_at_location p x && is_at_location q e.to) f ∙ (ap (λ (x : Point). is_at_location p (Lattice p) && is_at_location q x) t ∙ (ap (λ (b : Bool). b && is_at_location q (Lattice q)) (ap is_eq (tied_itself loc_cmp_total p)) ∙ ap is_eq (tied_itself loc_cmp_total q)))

    by : (forward : Bool) → e.from ≡ cond forward (Lattice w.segment.a) (Lattice w.segment.b) → e.to ≡ cond forward (Lattice w.segment.b) (Lattice w.segment.a) → (runs_between w.segment.a w.segment.b e ≡ true) ⊎ (runs_between w.segment.b w.segment.a e ≡ true)
    by true f t = inl (both w.segment.a w.segment.b f t)
    by false f t = inr (both w.segment.b w.segment.a f t)

under_long : (es : List Edge) → All IsWholeSegment es → length (segments_under es) ≡ length es
under_long [] whole = refl
under_long (e ∷ es) whole = let rest = under_long es (later e es whole) in let first = ap length (along_more e es (whole 0 e (omega arith))) in omega arith

carrier_at : (es : List Edge) → All IsWholeSegment es → (k : ℕ) (d : Edge) (t : Seg) → k < length es → (get_or es k d).carrier ≡ OfSeg (get_or (segments_under es) k t)
carrier_at [] whole k d t h = absurd (omega arith)
carrier_at (e ∷ es) whole zero d t h = let w = whole 0 e (omega arith) in w.carrier ∙ ap (λ (ss : List Seg). OfSeg (get_or ss 0 t)) (sym (along_more e es w))
carrier_at (e ∷ es) whole (suc k) d t h = let w = whole 0 e (omega arith) in carrier_at es (later e es whole) k d t (omega arith) ∙ ap (λ (ss : List Seg). OfSeg (get_or ss (suc k) t)) (sym (along_more e es w))

-- ---- an edge looked up by its segment

module _ (exact : LocationOrderTellsApart) (es : List Edge) (whole : All IsWholeSegment es) (rising : IsRising seg_cmp (segments_under es)) (p q : Loc) where
  -- a segment without length has no edge
  pub no_edge : p ≡ q → false ≡ list_any (runs_between p q) es
  no_edge same = sym (list_any_none (runs_between p q) es (λ k d h. by (get_or es k d) (whole k d h) (runs_between p q (get_or es k d)) refl))
    where
      by : (e : Edge) (w : IsWholeSegment e) (b : Bool) → runs_between p q e ≡ b → runs_between p q e ≡ false
      by e w false runs = runs
      by e w true runs =
          let flat : w.segment.a ≡ w.segment.b = ⊎_elim (λ (h : (w.segment.a ≡ p) × (w.segment.b ≡ q)). h.0 ∙ (same ∙ sym h.1)) (λ (h : (w.segment.a ≡ q) × (w.segment.b ≡ p)). h.0 ∙ (sym same ∙ sym h.1)) (segment_ends exact p q e w runs) in
          let less : loc_cmp w.segment.a w.segment.a ≡ Less = ap (loc_cmp w.segment.a) flat ∙ w.segment.rising in
          absurd (less_both loc_cmp_total w.segment.a w.segment.a less less)

  module _ (seg : Seg) (between : segment_between p q ≡ Some seg) where
    abbrev test : Edge → Bool
    test e = comes_before seg e.carrier

    abbrev seg_at : ℕ → Seg
    seg_at k = get_or (segments_under es) k seg

    test_at : (k : ℕ) (d : Edge) → k < length es → test (get_or es k d) ≡ is_lt (seg_cmp (seg_at k) seg)
    test_at k d h = ap (comes_before seg) (carrier_at es whole k d seg h)

    less_at : (i j : ℕ) → i < j → j < length es → seg_cmp (seg_at i) (seg_at j) ≡ Less
    less_at i j h l = let long = under_long es whole in rising i j seg h (omega arith)

    pub parted : IsPartitionedBy test es
    parted i j d h l passes = ⊎_elim
        (λ (m : i < j). test_at i d (omega arith) ∙ ap is_lt (seg_cmp_total.trans (seg_at i) (seg_at j) seg (less_at i j m l) (less_from (seg_cmp (seg_at j) seg) (sym (test_at j d l) ∙ passes))))
        (λ (m : j ≤ i). let same : i ≡ j = omega arith in ap (λ k. test (get_or es k d)) same ∙ passes)
        (cases_lt i j)

    module _ (place : ℕ) (point : IsPartitionPoint (λ (e : Edge). test e ≡ true) (λ (e : Edge). test e ≡ false) es place) where
      -- an edge from p to q stands at the place
      there : (k : ℕ) (d : Edge) → k < length es → runs_between p q (get_or es k d) ≡ true → k ≡ place
      there k d h runs = ⊎_elim
          (λ (m : k < place). absurd (false≢true (sym itself ∙ point.0 k d (omega arith) m)))
          (λ (m : place ≤ k). ⊎_elim (λ (l : place < k). absurd (false≢true (sym (point.1 place d (omega arith) (omega arith)) ∙ before l))) (λ (l : k ≤ place). omega arith) (cases_lt place k))
          (cases_lt k place)
        where
          at_place : seg_at k ≡ seg
          at_place =
              let w = whole k d h in
              let own : OfSeg w.segment ≡ OfSeg (seg_at k) = sym w.carrier ∙ carrier_at es whole k d seg h in
              let mine : w.segment ≡ seg_at k = cc own in
              sym mine ∙ same_by_ends w.segment seg p q (segment_ends exact p q (get_or es k d) w runs) (ends_between p q seg between)

          itself : test (get_or es k d) ≡ false
          itself = test_at k d h ∙ (ap (λ (s : Seg). is_lt (seg_cmp s seg)) at_place ∙ ap is_lt (tied_itself seg_cmp_total seg))

          before : place < k → test (get_or es place d) ≡ true
          before l = test_at place d (omega arith) ∙ (ap (λ (s : Seg). is_lt (seg_cmp (seg_at place) s)) (sym at_place) ∙ ap is_lt (less_at place k l h))

      pub found : (e : Edge) (b : Bool) → place < length es → e ≡ get_or es place e → b ≡ runs_between p q e → b ≡ list_any (runs_between p q) es
      found e true h at is = sym (list_any_at (runs_between p q) es place e h (ap (runs_between p q) (sym at) ∙ sym is))
      found e false h at is = sym (list_any_none (runs_between p q) es (λ k d l. by k d l (runs_between p q (get_or es k d)) refl))
        where
          by : (k : ℕ) (d : Edge) → k < length es → (b : Bool) → runs_between p q (get_or es k d) ≡ b → runs_between p q (get_or es k d) ≡ false
          by k d l false runs = runs
          by k d l true runs =
              let same = there k e l (ap (λ (x : Edge). runs_between p q x) (get_or_default es k e d l) ∙ runs) in
              absurd (false≢true (is ∙ (ap (runs_between p q) (at ∙ ap (λ j. get_or es j e) (sym same) ∙ get_or_default es k e d l) ∙ runs)))

      pub missing : length es ≤ place → false ≡ list_any (runs_between p q) es
      missing past = sym (list_any_none (runs_between p q) es (λ k d l. by k d l (runs_between p q (get_or es k d)) refl))
        where
          by : (k : ℕ) (d : Edge) → k < length es → (b : Bool) → runs_between p q (get_or es k d) ≡ b → runs_between p q (get_or es k d) ≡ false
          by k d l false runs = runs
          by k d l true runs = let same = there k d l runs in absurd (omega arith)

-- ---- a ring that goes on in its direction

module _ (edges : List Edge) (nodes path : List Loc) (junctions : AreJunctions edges nodes) (along : RunsOn edges nodes path) where
  abbrev against : Loc × Loc → Bool
  against step = list_any (runs_between step.1 step.0) edges

  pub goes_on : (i j : ℕ) (before node after : Loc) → 0 < i → i < length path → j < length path → j ≡ after_round i (length path) → before ≡ get_or path (i - 1) before → node ≡ get_or path i node → after ≡ get_or path j after
      → before ≢ node → before ≢ after → is_one_of nodes node ≡ false → list_any against (take i (steps_round path)) ≡ false → list_any against (take (i + 1) (steps_round path)) ≡ false
  goes_on i j before node after some inside within next was is will moves ahead plain none =
      tested_more against path i j node after false inside within next is will (by (against (node, after)) refl) none
    where
      follows : after_round (i - 1) (length path) ≡ i
      follows = let one : i - 1 + 1 ≡ i = omega arith in let yes = test_yes (i - 1 + 1) (length path) (omega arith) in ap (λ (b : Bool). if b then i - 1 + 1 else 0) yes ∙ one

      at : slice_get (steps_round path) (i - 1) ≡ Some (before, node)
      at = steps_at path (i - 1) before node (slice_get_read path (length path) (i - 1) before refl (omega arith) was) (ap (slice_get path) follows ∙ slice_get_read path (length path) i node refl inside is)

      place : i - 1 < length (steps_round path)
      place = slice_get_within (steps_round path) (i - 1) (before, node) at

      read : (d : Loc × Loc) → get_or (steps_round path) (i - 1) d ≡ (before, node)
      read d = get_or_from_slice_get (steps_round path) (i - 1) (before, node) d at

      not_before : against (before, node) ≡ false
      not_before =
          let step : Loc × Loc = (before, node) in
          let one : i - 1 + 1 ≡ i = omega arith in
          let more = list_any_more against (steps_round path) (i - 1) step place in
          ap against (sym (read step)) ∙ (or_parts (list_any against (take (i - 1) (steps_round path))) (against (get_or (steps_round path) (i - 1) step)) (sym more ∙ (ap (λ k. list_any against (take k (steps_round path))) one ∙ none))).1

      by : (b : Bool) → against (node, after) ≡ b → against (node, after) ≡ false
      by false e = e
      by true e = ⊎_elim
          (λ (forth : list_any (runs_between before node) edges ≡ true). absurd (ahead (junctions.one_comes before after node forth e plain)))
          (λ (back : list_any (runs_between node before) edges ≡ true). absurd (false≢true (sym not_before ∙ back)))
          (along before node (i - 1, place, read (before, node)) moves plain)
