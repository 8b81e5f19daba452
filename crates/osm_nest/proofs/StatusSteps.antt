-- A status that may hold edges that ended: what is done to it, and what is told of it, for those that span the height.
use Rattle.std.proofs.Common.{List, arith, false, filter, get_or, length, subst, suc, sym, true, zero, ℕ, ◌&&◌, ◌+◌, ◌-◌, ◌<◌, ◌∙◌, ap, ◌≡◌, ◌≤◌}
use Rattle.std.specs.List.{insert}
use Rattle.std.specs.Ordering.{is_lt}
use Rattle.std.proofs.lemmas.List.{get_or_default}
use Rattle.lists.proofs.ListsKit.{and-left, and-right}
use Rattle.osm_geom.specs.declared.edge.Edge.{Edge}
use Rattle.osm_geom.specs.declared.point.Point.{Point}
use Rattle.osm_geom.specs.JustAbove.{just_above_cmp}
use Rattle.osm_geom.specs.Span.{lower_end, spans}
use Rattle.osm_nest.specs.declared.sweep.ring_edge.RingEdge.{RingEdge}
use Rattle.osm_nest.specs.SweptEdges.{HasNeighbour, IsPut, is_within, left_at}
use Rattle.osm_nest.proofs.FilteredLists.{filter-insert, kept, kept-at, kept-inside, kept-most, kept-next}

left-spans : (at : Point) (f g : Edge) → left_at at f g ≡ true → spans f at ≡ true
left-spans at f g h = and-left (spans f at) (spans g at) (and-left (spans f at && spans g at) (is_lt (just_above_cmp f g at)) h)

right-spans : (at : Point) (f g : Edge) → left_at at f g ≡ true → spans g at ≡ true
right-spans at f g h = and-right (spans f at) (spans g at) (and-left (spans f at && spans g at) (is_lt (just_above_cmp f g at)) h)

-- an edge put between two that span the height is put between them among those that span it
pub put-kept : (at : Point) (x : RingEdge) (old new : List RingEdge) (k : ℕ) → k ≤ length old → is_within at x ≡ true →
    (0 < k → left_at at (get_or old (k - 1) x).edge.now x.edge.now ≡ true) → (k < length old → left_at at x.edge.now (get_or old k x).edge.now ≡ true) →
    new ≡ insert old k x → IsPut at x (filter (is_within at) old) (filter (is_within at) new)
put-kept at x old new k inside here before after is =
    let p = is_within at in
    record {
      place = kept p k old;
      within = kept-most p old k;
      before = λ some.
          let low : 0 < k = positive k some in
          let l = before low in
          let m = k - 1 in
          let back : k ≡ suc m = omega (arith, low) in
          let inside-m : m < length old = omega (arith, low, inside) in
          let alive = left-spans at (get_or old m x).edge.now x.edge.now l in
          let here = kept-at p old m x inside-m alive in
          let next : kept p k old ≡ suc (kept p m old) = ap (λ n. kept p n old) back ∙ kept-next p old m x inside-m alive in
          let same : kept p k old - 1 ≡ kept p m old = omega (arith, next) in
          subst (λ (t : RingEdge). left_at at t.edge.now x.edge.now ≡ true) (sym (ap (λ n. get_or (filter p old) n x) same ∙ here.1)) l;
      after = λ some.
          let l = after (kept-inside p old k some) in
          let alive = right-spans at x.edge.now (get_or old k x).edge.now l in
          let here = kept-at p old k x (kept-inside p old k some) alive in
          subst (λ (t : RingEdge). left_at at x.edge.now t.edge.now ≡ true) (sym here.1) l;
      is = ap (filter p) is ∙ filter-insert p old k x inside here;
    }
  where
    positive : (k : ℕ) → 0 < kept (is_within at) k old → 0 < k
    positive zero h = h
    positive (suc k) h = omega arith

-- two edges beside each other that span the height are so among those that span it
pub neighbour-kept : (a : Edge) (xs : List RingEdge) (k : ℕ) (e n : RingEdge) → k + 1 < length xs → e ≡ get_or xs k e → n ≡ get_or xs (k + 1) n →
    left_at (lower_end a) e.edge.now a ≡ true → is_within (lower_end a) n ≡ true → left_at (lower_end a) n.edge.now a ≡ false →
    HasNeighbour a (filter (is_within (lower_end a)) xs) e
neighbour-kept a xs k e n inside is-e is-n left alive not-left =
    let p = is_within (lower_end a) in
    let low : k < length xs = omega (arith, inside) in
    let more : k + 1 ≡ suc k = omega arith in
    let e-alive : p (get_or xs k e) ≡ true = subst (λ t. p t ≡ true) is-e (left-spans (lower_end a) e.edge.now a left) in
    let here = kept-at p xs k e low e-alive in
    let n-is : get_or xs (k + 1) e ≡ n = get_or_default xs (k + 1) e n inside ∙ sym is-n in
    let there = kept-at p xs (k + 1) e inside (subst (λ t. p t ≡ true) (sym n-is) alive) in
    let next : kept p (k + 1) xs ≡ kept p k xs + 1 = (let s = ap (λ m. kept p m xs) more in let t = kept-next p xs k e low e-alive in omega (arith, s, t)) in
    record {
      place = kept p k xs;
      inside = subst (λ m. m < length (filter p xs)) next there.0;
      is = here.1 ∙ sym is-e;
      left = left;
      next = subst (λ (t : RingEdge). left_at (lower_end a) t.edge.now a ≡ false) (sym (ap (λ m. get_or (filter p xs) m e) (sym next) ∙ there.1 ∙ n-is)) not-left;
    }
