-- Segments among which one sweep finds no conflict.
use Rattle.std.proofs.Common.{Contains, List, None, Option, Some, [], ap, arith, get_or, length, map, min, refl, subst, suc, sym, zero, ⊎_elim, ℕ, ◌<◌, ◌∙◌, ◌∷◌, ◌≡◌, ◌≢◌, ◌≤◌}
use Rattle.std.proofs.lemmas.Bool.{cases_eq, cases_lt}
use Rattle.std.proofs.lemmas.Cmp.{tied_itself}
use Rattle.std.proofs.lemmas.Option.{slice_get-get_or}
use Rattle.lists.proofs.ListsKit.{first_member, later_member, no_member, same_get}
use Rattle.lists.specs.Rising.{count_of}
use Rattle.osm_lattice.specs.declared.conflicts.Kind.{Kind}
use Rattle.osm_lattice.specs.declared.seg.Seg.{Seg}
use Rattle.osm_lattice.specs.Conflict.{conflict_of}
use Rattle.osm_lattice.specs.ConflictLaws.{ConflictIsSymmetric}
use Rattle.osm_lattice.specs.Seg.{seg_cmp}
use Rattle.osm_lattice.proofs.LatticeKit.{seg_same, seg_total}
use Rattle.osm_segments.specs.declared.ranges.strips.SegAt.{SegAt}
use Rattle.osm_segments.specs.Counts.{AreDistinct}
use Rattle.osm_segments.specs.Pairs.{conflicts_of}
use Rattle.osm_segments.specs.Ranges.{HaveNoConflict}
use Rattle.osm_segments.proofs.FoundPairs.{counted, member}
use Rattle.osm_segments.proofs.ToldPlaces.{conflict_at_places, kind_at_places, own_kind}

seg_in : (all : List SegAt) (s : SegAt) (k : ℕ) → k < length all → get_or all k s ≡ s → Contains (map (λ u. u.seg) all) s.seg
seg_in [] s k h e = absurd (omega arith)
seg_in (x ∷ xs) s zero h e = subst (λ (u : SegAt). Contains (x.seg ∷ map (λ u. u.seg) xs) u.seg) e (first_member x.seg (map (λ u. u.seg) xs))
seg_in (x ∷ xs) s (suc k) h e = later_member x.seg s.seg (map (λ u. u.seg) xs) (seg_in xs s k (omega arith) e)

-- what stands in a list stands in the list of its segments, each once
in_distinct : (segs distinct : List Seg) → ((s : Seg) → count_of seg_cmp s distinct ≡ min 1 (count_of seg_cmp s segs)) → (s : Seg) → Contains segs s → Contains distinct s
in_distinct segs distinct once s c =
    let some = counted (tied_itself seg_total) seg_same s segs c in
    member (tied_itself seg_total) seg_same s distinct (omega (arith, once s))

none_between : (segs : List Seg) → conflicts_of segs ≡ [] → (i j : ℕ) (s t : Seg) → i < j → (i < length segs) × (get_or segs i s ≡ s) → (j < length segs) × (get_or segs j t ≡ t) → conflict_of s t ≡ None
none_between segs none i j s t l hi hj = by (conflict_of s t) refl
  where
    by : (o : Option Kind) → conflict_of s t ≡ o → conflict_of s t ≡ None
    by None e = e
    by (Some k) e =
        let at = kind_at_places segs (record { first = i; second = j }) s t k (slice_get-get_or segs i s hi.0 ∙ ap Some hi.1) (slice_get-get_or segs j t hj.0 ∙ ap Some hj.1) e in
        absurd (no_member (record { kind = k; first = s; second = t }) (subst (λ xs. Contains xs (record { kind = k; first = s; second = t })) none (conflict_at_places segs i j (record { kind = k; first = s; second = t }) l at)))

none_among : ConflictIsSymmetric → (segs : List Seg) → conflicts_of segs ≡ [] → (s t : Seg) → Contains segs s → Contains segs t → conflict_of s t ≡ None
none_among alike segs none s t (i, hi, ei) (j, hj, ej) =
    ⊎_elim
    (λ (e : i ≡ j). own_kind s t (sym ei ∙ (same_get segs i s t hi ∙ (ap (λ k. get_or segs k t) e ∙ ej))))
    (λ (n : i ≢ j). ⊎_elim
    (λ (l : i < j). none_between segs none i j s t l (hi, ei) (hj, ej))
    (λ (l : j ≤ i). alike s t ∙ none_between segs none j i t s (omega (arith, n)) (hj, ej) (hi, ei))
    (cases_lt i j))
    (cases_eq i j)

pub clear_part : ConflictIsSymmetric → (all : List SegAt) (segs distinct : List Seg) → segs ≡ map (λ s. s.seg) all → AreDistinct segs distinct → conflicts_of distinct ≡ [] → (s t : SegAt) → Contains all s → Contains all t → HaveNoConflict s.seg t.seg
clear_part alike all segs distinct are once none s t a b =
    let first = in_distinct segs distinct once.once s.seg (subst (λ xs. Contains xs s.seg) (sym are) (seg_in all s a.0 a.1 a.2)) in
    let second = in_distinct segs distinct once.once t.seg (subst (λ xs. Contains xs t.seg) (sym are) (seg_in all t b.0 b.1 b.2)) in
    (none_among alike distinct none s.seg t.seg first second, none_among alike distinct none t.seg s.seg second first)
