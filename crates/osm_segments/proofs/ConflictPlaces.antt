-- Pairs found again at the places of their segments.
use Rattle.std.proofs.Common.{List, None, Option, Some, ap, inl, inr, length, refl, ◌∙◌, ◌≡◌, ◌≤◌, ◌⊎◌}
use Rattle.std.specs.List.{slice_get}
use Rattle.std.specs.Option.{option_and_then}
use Rattle.std.proofs.lemmas.Option.{slice_get_past}
use Rattle.osm_lattice.specs.declared.seg.Seg.{Seg}
use Rattle.osm_segments.specs.declared.places.Places.{Places}
use Rattle.osm_segments.specs.Pairs.{pair_of}
use Rattle.osm_segments.specs.Places.{pair_at}

-- the pair of the segments that stand at two places
pub pair-at_both : (segs : List Seg) (places : Places) (s t : Seg) → slice_get segs places.first ≡ Some s → slice_get segs places.second ≡ Some t → pair_at segs places ≡ pair_of s t
unfolding pair_at
pair-at_both segs places s t first second =
    ap (option_and_then (λ (s : Seg). option_and_then (pair_of s) (slice_get segs places.second))) first ∙ ap (option_and_then (pair_of s)) second

-- none, where a place is behind the last
pub no_pair_past : (segs : List Seg) (places : Places) → (length segs ≤ places.first) ⊎ (length segs ≤ places.second) → pair_at segs places ≡ None
unfolding pair_at
no_pair_past segs places (inl h) = ap (option_and_then (λ (s : Seg). option_and_then (pair_of s) (slice_get segs places.second))) (slice_get_past segs places.first h)
no_pair_past segs places (inr h) = by_first (slice_get segs places.first)
  where
    by_first : (o : Option Seg) → option_and_then (λ (s : Seg). option_and_then (pair_of s) (slice_get segs places.second)) o ≡ None
    by_first None = refl
    by_first (Some s) = ap (option_and_then (pair_of s)) (slice_get_past segs places.second h)
