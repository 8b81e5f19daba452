-- Segments have one list of those that stand at least twice among them.
use Rattle.std.proofs.Common.{All, List, [], ap, arith, map, nat_le, refl, subst, sym, ◌∙◌, ◌∷◌, ◌≡◌}
use Rattle.std.proofs.lemmas.List.Elements.{All-map, All-tail}
use Rattle.lists.specs.Rising.{IsRising, count_of}
use Rattle.lists.proofs.ListsKit.{count-picked, picked, rising-picked, same_rising, twice_once}
use Rattle.osm_lattice.specs.declared.seg.Seg.{Seg}
use Rattle.osm_lattice.specs.Seg.{seg_cmp}
use Rattle.osm_lattice.proofs.LatticeKit.{seg_same, seg_total}
use Rattle.osm_segments.specs.declared.counts.Repeat.{Repeat}
use Rattle.osm_segments.specs.Laws.{RepeatsAreOne, RepeatsExist}
use Rattle.osm_segments.specs.Repeats.{segs_of}

-- ---- there is one

abbrev repeat_in : List Seg → Seg → Repeat
repeat_in segs s = record { seg = s; times = count_of seg_cmp s segs }

segs_are : (segs ys : List Seg) → segs_of (map (repeat_in segs) ys) ≡ ys
segs_are segs [] = refl
segs_are segs (y ∷ ys) = ap (λ (zs : List Seg). y ∷ zs) (segs_are segs ys)

pub repeats_exist : RepeatsExist
repeats_exist segs =
    let twice = picked seg_cmp (nat_le 2) segs in
    let same = segs_are segs twice in (
      map (repeat_in segs) twice,
      record {
        twice = λ s. ap (count_of seg_cmp s) same ∙ (count-picked seg_total (nat_le 2) segs s ∙ twice_once (count_of seg_cmp s segs));
        times = All-map (λ (r : Repeat). r.times ≡ count_of seg_cmp r.seg segs) (repeat_in segs) twice (λ k d h. refl);
        rising = subst (IsRising seg_cmp) (sym same) (rising-picked seg_total (nat_le 2) segs);
      },
    )

-- ---- there is no other

repeats_same : (segs : List Seg) (a b : List Repeat) → segs_of a ≡ segs_of b → All (λ r. r.times ≡ count_of seg_cmp r.seg segs) a → All (λ r. r.times ≡ count_of seg_cmp r.seg segs) b → a ≡ b
repeats_same segs [] [] h s t = refl
repeats_same segs [] (y ∷ b) h s t = cc
repeats_same segs (x ∷ a) [] h s t = cc
repeats_same segs (x ∷ a) (y ∷ b) h s t =
    let e : x.seg ≡ y.seg = cc in
    let f : x.times ≡ y.times = s 0 x (omega arith) ∙ ap (λ q. count_of seg_cmp q segs) e ∙ sym (t 0 y (omega arith)) in
    let g : x ≡ y = λ i. record { seg = e i; times = f i } in
    ap (λ z. z ∷ a) g ∙ ap (λ l. y ∷ l) (repeats_same segs a b (cc) (All-tail (λ (r : Repeat). r.times ≡ count_of seg_cmp r.seg segs) x a s) (All-tail (λ (r : Repeat). r.times ≡ count_of seg_cmp r.seg segs) y b t))

pub repeats_one : RepeatsAreOne
repeats_one segs a b s t = repeats_same segs a b (same_rising seg_total seg_same (segs_of a) (segs_of b) s.rising t.rising (λ z. s.twice z ∙ sym (t.twice z))) s.times t.times
