-- All pairs of a list of segments: each with all later ones.
use Rattle.std.proofs.Common.{◌≡◌, ◌≤◌, ◌<◌, List, [], ◌∷◌, length, get_or, take, drop, ◌-◌, ◌++◌, ◌∙◌, sym, arith}
use Rattle.std.specs.List.{filter_map}
use Rattle.std.proofs.lemmas.List.{append-nil, append_assoc, take_all}
use Rattle.osm_lattice.specs.declared.seg.Seg.{Seg}
use Rattle.osm_segments.specs.declared.pairs.Pair.{Pair}
use Rattle.osm_segments.specs.Pairs.{conflicts_of, pair_of}

-- the segments after the first
pub later_are : (t : Seg) (ts : List Seg) → take (length (t ∷ ts) - 1) (drop 1 (t ∷ ts)) ≡ ts
later_are t ts = take_all (length (t ∷ ts) - 1) ts (omega arith)

-- one more segment, with the later ones, of those that are left
pub one_more : (rest : List Seg) (s : Seg) (old new all : List Pair) → 1 ≤ length rest → s ≡ get_or rest 0 s → new ≡ old ++ filter_map (pair_of s) (take (length rest - 1) (drop 1 rest)) → old ++ conflicts_of rest ≡ all →
    new ++ conflicts_of (take (length rest - 1) (drop 1 rest)) ≡ all
one_more [] s old new all some is grown before = absurd (omega arith)
one_more (t ∷ ts) s old new all some is grown before =
    let pairs : new ≡ old ++ filter_map (pair_of t) ts = grown ∙ (λ i. old ++ filter_map (pair_of (is i)) (later_are t ts i)) in
    (λ i. pairs i ++ conflicts_of (later_are t ts i)) ∙ (append_assoc old (filter_map (pair_of t) ts) (conflicts_of ts) ∙ before)

-- where no segment is left, all conflicts have been found
pub all_found : (found : List Pair) (left : List Seg) (all : List Pair) → length left < 1 → found ++ conflicts_of left ≡ all → found ≡ all
all_found found [] all h e = sym (append-nil found) ∙ e
all_found found (s ∷ ss) all h e = absurd (omega arith)
