-- Candidates and polygons counted one after the other.
use Rattle.std.proofs.Common.{◌≡◌, ◌∙◌, refl, sym, ap, subst, ℕ, ◌+◌, ◌<◌, ◌≤◌, All, List, [], ◌∷◌, ◌++◌, length, map, take, get_or, append-nil, arith}
use Rattle.std.proofs.lemmas.List.{get_or_default, length-append, map-append, take_all, take_more}
use Rattle.std.proofs.lemmas.List.Elements.{All-append, All-cons, All-nil}
use Rattle.std.proofs.lemmas.List.Sums.{sum_by_push}
use Rattle.std.proofs.lemmas.Grind.{flat_map-append}
use Rattle.osm_elements.specs.declared.object.Object.{Object}
use Rattle.osm_elements.specs.declared.object.ObjectRef.{ObjectRef}
use Rattle.osm_geom.specs.declared.edge.Edge.{Edge}
use Rattle.osm_nest.specs.Polygons.{rings_in, rings_of}
use Rattle.osm_nest.specs.declared.polygon.Polygon.{Polygon}
use Rattle.job_small.specs.Sampling.Steps.{AddsCandidate, AreAreaCounts, area_counts_of, together, total}
use Rattle.job_small.specs.Sampling.Summary.{AreAssembled, Assembled, IsAssembled, area_count, polygon_count, problem_count, ring_count}
use Rattle.job_small.specs.declared.sample.areas.AreaCounts.{AreaCounts}

-- ---- rings

ring_count_of : (r : List Edge) (rs : List (List Edge)) → length (r ∷ rs) ≡ 1 + length rs
ring_count_of r rs = omega arith

rings_of_one : (p : Polygon) → length (rings_of (p ∷ [])) ≡ 1 + length p.inners
rings_of_one p = ap (λ (rs : List (List Edge)). length rs) (append-nil (rings_in p)) ∙ ring_count_of p.outer p.inners

-- those of one more polygon
pub rings_next : (ps : List Polygon) (k : ℕ) (p : Polygon) → k < length ps → p ≡ get_or ps k p → length (rings_of (take (k + 1) ps)) ≡ length (rings_of (take k ps)) + (1 + length p.inners)
rings_next ps k p lt is =
    ap (λ (qs : List Polygon). length (rings_of qs)) (take_more ps k p lt ∙ ap (λ (q : Polygon). take k ps ++ q ∷ []) (sym is))
    ∙ ap (λ (rs : List (List Edge)). length rs) (flat_map-append rings_in (take k ps) (p ∷ []))
    ∙ length-append (rings_of (take k ps)) (rings_of (p ∷ []))
    ∙ ap (λ (n : ℕ). length (rings_of (take k ps)) + n) (rings_of_one p)

-- ---- candidates

pub none_counted : (objects : List Object) (counts : AreaCounts) → counts ≡ total [] → AreAreaCounts objects [] counts
none_counted objects counts none = record { all = []; assembled = record { in_order = refl; right = All-nil (IsAssembled objects) }; counted = none }

one_more : (all : List Assembled) (one : Assembled) → total (all ++ one ∷ []) ≡ together (total all) (area_counts_of one.outcome)
one_more all one = λ i. record {
  areas = sum_by_push (λ (a : Assembled). area_count a.outcome) all one i;
  polygons = sum_by_push (λ (a : Assembled). polygon_count a.outcome) all one i;
  rings = sum_by_push (λ (a : Assembled). ring_count a.outcome) all one i;
  problems = sum_by_push (λ (a : Assembled). problem_count a.outcome) all one i;
}

module _ (objects : List Object) (chosen : List ObjectRef) where
  -- one more candidate
  pub candidates_next : (k : ℕ) (d : ObjectRef) → k < length chosen → (before after : AreaCounts) → AreAreaCounts objects (take k chosen) before →
      AddsCandidate objects (get_or chosen k d) before after → AreAreaCounts objects (take (k + 1) chosen) after
  candidates_next k d lt before after are adds =
      let c : ObjectRef = get_or chosen k d in
      let is : c ≡ get_or chosen k c = get_or_default chosen k d c lt in
      let one : Assembled = record { candidate = c; outcome = adds.0 } in
      record {
        all = are.all ++ one ∷ [];
        assembled = record {
          in_order =
              map-append (λ (a : Assembled). a.candidate) are.all (one ∷ []) ∙ ap (λ (xs : List ObjectRef). xs ++ c ∷ []) are.assembled.in_order
              ∙ ap (λ (x : ObjectRef). take k chosen ++ x ∷ []) is ∙ sym (take_more chosen k c lt);
          right = All-append (IsAssembled objects) are.all (one ∷ []) are.assembled.right (All-cons (IsAssembled objects) one [] adds.1 (All-nil (IsAssembled objects)));
        };
        counted = adds.2 ∙ ap (λ (a : AreaCounts). together a (area_counts_of adds.0)) are.counted ∙ sym (one_more are.all one);
      }

  pub all_counted : (n : ℕ) → length chosen ≤ n → (counts : AreaCounts) → AreAreaCounts objects (take n chosen) counts → AreAreaCounts objects chosen counts
  all_counted n all counts are = subst (λ (xs : List ObjectRef). AreAreaCounts objects xs counts) (take_all n chosen all) are
